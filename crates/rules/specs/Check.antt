-- The reply and the report, computed. Assumes nothing.
use Rattle.std.specs.Prelude.{Bool, cond, not, ◌&&◌, Option, Some, None, Ok, Err, List, [], ◌∷◌, ◌++◌, ℕ, zero, suc, ◌*◌, ltb, eqb, pos, ◌-ℤ◌, ◌*ℤ◌, length}
use Rattle.std.specs.Option.{option_or}
use Rattle.std.specs.Ordering.{int_eq}
use Rattle.channel.specs.declared.Fault.TheVariants as fault
use Rattle.numbers.specs.Numbers.{least}
use Rattle.channel.specs.Judge.{Verdict, judge}
use Rattle.graph.specs.declared.Relation.{Relation}
use Rattle.graph.specs.Model.{Graph, count, task, relation}
use Rattle.rules.specs.Terms.{response, channel}
use Rattle.reply.specs.declared.Refusal.{Refusal}
use Rattle.reply.specs.declared.Refusal.TheVariants.{SamePriority, ShortReport, FalseRelation, Late, Overloaded, InitialAboveSize, Unbalanced, WindowTooLong, Underflow, Overflow}
use Rattle.reply.specs.Reply.{Reply}
use Rattle.rules.specs.Rules.{load}

-- both equations hold
unfoldable pub holds : Graph → Relation → Bool
holds g r =
    eqb (r.d * (task g r.p).period) (r.n * (task g r.q).period)
    && int_eq (pos r.n *ℤ (pos (task g r.q).offset -ℤ pos (task g r.p).offset)) (r.phi *ℤ pos (task g r.p).period)

-- an earlier task has the priority of task i
unfoldable pub seen : Graph → ℕ → Bool
seen g i = ltb (least (λ j. eqb (task g j).priority (task g i).priority) i) i

-- the refusal of channel c that a verdict is
abbrev pub refusal : ℕ → Verdict → Option Refusal
refusal c (Ok tt) = None
refusal c (Err fault.InitialAboveSize) = Some (InitialAboveSize c)
refusal c (Err fault.Unbalanced) = Some (Unbalanced c)
refusal c (Err fault.WindowTooLong) = Some (WindowTooLong c)
refusal c (Err (fault.Underflow k)) = Some (Underflow c k)
refusal c (Err (fault.Overflow j)) = Some (Overflow c j)

-- a refusal where the test fires
abbrev pub when : Bool → Refusal → Option Refusal
when b r = cond b (Some r) None

-- the first that one of the first n tests finds
unfoldable pub first : (ℕ → Option Refusal) → ℕ → Option Refusal
first f zero = None
first f (suc n) = option_or (first f n) (f n)

-- test 8
abbrev pub same_priorities : Graph → Option Refusal
same_priorities g = first (λ i. when (seen g i) (SamePriority i)) (count g)

-- test 9
abbrev pub short_reports : Graph → ℕ → Option Refusal
short_reports g room = when (ltb room (count g)) (ShortReport (count g))

-- test 10
abbrev pub false_relations : Graph → Option Refusal
false_relations g = first (λ r. when (not (holds g (relation g r))) (FalseRelation r)) (length g.relations)

-- test 11
abbrev pub late_tasks : Graph → Option Refusal
late_tasks g = first (λ i. when (ltb (task g i).deadline (response g i)) (Late i)) (count g)

-- test 12
abbrev pub overload : Graph → Option Refusal
overload g = when (ltb 1_000_000 (load g)) Overloaded

-- tests 13 to 17, channel by channel
abbrev pub spoilt_channels : Graph → Option Refusal
spoilt_channels g = first (λ c. refusal c (judge (channel g c))) (length g.channels)

-- the earliest refusal of all
unfoldable pub found : Graph → ℕ → Option Refusal
found g room =
    let a : Option Refusal = same_priorities g in
    let b : Option Refusal = option_or a (short_reports g room) in
    let c : Option Refusal = option_or b (false_relations g) in
    let d : Option Refusal = option_or c (late_tasks g) in
    let e : Option Refusal = option_or d (overload g) in
    option_or e (spoilt_channels g)

-- a refusal, or accepted
abbrev pub given : Option Refusal → ℕ → Reply
given None n = Ok n
given (Some r) n = Err r

-- the reply computed
abbrev pub reply : Graph → ℕ → Reply
reply g room = given (found g room) (count g)

-- the first n values in turn
unfoldable pub listed : (ℕ → ℕ) → ℕ → List ℕ
listed f zero = []
listed f (suc n) = listed f n ++ (f n ∷ [])

-- nothing where there is a refusal
abbrev pub shown : Option Refusal → List ℕ → List ℕ
shown None l = l
shown (Some r) l = []

-- the figures computed
abbrev pub report : Graph → ℕ → List ℕ
report g room = shown (found g room) (listed (response g) (count g))
