-- What each reply says of a graph and of the room in the report, and which reply is given. Assumes nothing.
use Rattle.std.specs.Prelude.{◌≡◌, cond, Ok, Err, List, ℕ, ◌*◌, ◌/◌, ◌≤◌, ◌<◌, eqb, pos, ◌-ℤ◌, ◌*ℤ◌, length, get_or}
use Rattle.numbers.specs.Numbers.{sum}
use Rattle.machine.specs.Machine.{demand, IsResponse}
use Rattle.channel.specs.Channel.{Balanced, Underflows, Overflows}
use Rattle.channel.specs.Judge.{TooLong}
use Rattle.graph.specs.declared.Relation.{Relation}
use Rattle.graph.specs.Model.{Graph, count, task, link, relation}
use Rattle.rules.specs.Terms.{cost, machine, channel}
use Rattle.reply.specs.declared.Refusal.{Refusal}
use Rattle.reply.specs.declared.Refusal.TheVariants.{SamePriority, ShortReport, FalseRelation, Late, Overloaded, InitialAboveSize, Unbalanced, WindowTooLong, Underflow, Overflow, UnknownKind, CutShort, OutOfOrder, OutOfRange, TooMany, NoTask, EmptyCycle, NoFile, ShortOutput}
use Rattle.reply.specs.Reply.{Reply, number}
use Rattle.rules.specs.Order.{Earlier}

-- The relation is true: d × T_p = n × T_q, and n × (O_q − O_p) = φ × T_p.
pub record Holds (g : Graph) (r : Relation) : Type 0 where
  pub periods : r.d * (task g r.p).period ≡ r.n * (task g r.q).period
  pub phases : pos r.n *ℤ (pos (task g r.q).offset -ℤ pos (task g r.p).offset) ≡ r.phi *ℤ pos (task g r.p).period

-- the load in millionths, each task's share rounded down
unfoldable pub load : Graph → ℕ
load g = sum (λ i. cost g i * 1_000_000 / (task g i).period) (count g)

-- task i has a priority seen before
abbrev pub Repeats : Graph → ℕ → Type 0
Repeats g i = (j : ℕ) × (j < i) × ((task g j).priority ≡ (task g i).priority)

-- relation r is false
abbrev pub Fails : Graph → ℕ → Type 0
Fails g r = ¬ Holds g (relation g r)

-- task i is late: no w from 1 to its deadline is at least its demand
abbrev pub Misses : Graph → ℕ → Type 0
Misses g i = (w : ℕ) → 1 ≤ w → w ≤ (task g i).deadline → w < demand (machine g) i w

-- The refusal is true of the graph. Each is stated by itself, whatever the other tests find.
abbrev pub Refuses : Graph → ℕ → Refusal → Type 0
Refuses g room (SamePriority i) = (i < count g) × Repeats g i
Refuses g room (ShortReport n) = (n ≡ count g) × (room < count g)
Refuses g room (FalseRelation r) = (r < length g.relations) × Fails g r
Refuses g room (Late i) = (i < count g) × Misses g i
Refuses g room Overloaded = 1_000_000 < load g
Refuses g room (InitialAboveSize c) = (c < length g.channels) × ((link g c).size < (link g c).initial)
Refuses g room (Unbalanced c) = (c < length g.channels) × ¬ Balanced (channel g c).producer (channel g c).consumer
Refuses g room (WindowTooLong c) = (c < length g.channels) × TooLong (channel g c)
Refuses g room (Underflow c k) = (c < length g.channels) × Underflows (channel g c) k
Refuses g room (Overflow c j) = (c < length g.channels) × Overflows (channel g c) j
-- what refuses files and outputs, and no graph
Refuses g room (UnknownKind x) = ⊥
Refuses g room (CutShort x) = ⊥
Refuses g room (OutOfOrder x) = ⊥
Refuses g room (OutOfRange x) = ⊥
Refuses g room (TooMany x) = ⊥
Refuses g room NoTask = ⊥
Refuses g room (EmptyCycle x) = ⊥
Refuses g room NoFile = ⊥
Refuses g room (ShortOutput x) = ⊥

-- channel c passes its initial, balance, underflow and overflow tests
pub record Passing (g : Graph) (room c : ℕ) : Type 0 where
  pub initial : ¬ Refuses g room (InitialAboveSize c)
  pub balance : ¬ Refuses g room (Unbalanced c)
  pub no_underflow : (k : ℕ) → ¬ Refuses g room (Underflow c k)
  pub no_overflow : (j : ℕ) → ¬ Refuses g room (Overflow c j)

-- The reply that is given: accepted where nothing refuses, and otherwise the earliest refusal.
pub data Replies (g : Graph) (room : ℕ) : Reply → Type 0 where
  passes : ((s : Refusal) → ¬ Refuses g room s) → Replies g room (Ok (count g))
  fails : (r : Refusal) → Refuses g room r → ((s : Refusal) → Refuses g room s → ¬ Earlier s r) → Replies g room (Err r)

-- What is written to the report: R of every task in turn where the reply is 0, and otherwise nothing.
pub record Reports (g : Graph) (r : Reply) (l : List ℕ) : Type 0 where
  pub size : length l ≡ cond (eqb (number r) 0) (count g) 0
  pub figures : (i : ℕ) → i < length l → IsResponse (machine g) i (get_or l i 0)

-- the whole answer to a graph and a report with room for that many figures
pub record Answers (g : Graph) (room : ℕ) (r : Reply) (l : List ℕ) : Type 0 where
  pub replies : Replies g room r
  pub reports : Reports g r l
