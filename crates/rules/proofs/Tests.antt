-- The computed reply is the one that is given, and the figures are the response times. Assumes nothing.
use mathlib.Core.Path.{◌≡◌, refl, sym, ap, ◌∙◌, subst}
use mathlib.Core.Bool.{Bool, true, not, false≢true}
use mathlib.Core.List.{[], ◌∷◌}
use mathlib.Core.Logic.{inl, inr}
use Prim.Native.Nat.{ℕ, suc, ◌-◌, ◌≤◌, ◌<◌}
use native.Mathlib.Nat.{le_antisymm}
use native.Mathlib.Omega.{arith}
use borrow.Author.Tests.{ltb-true, leb-true, leb-false, eqb-true, lt-ltb, eq-eqb}
use lib.Dec.{ltb, leb, eqb}
use lib.ListN.{length}
use Rattle.std.specs.Prelude.{Option, None, Ok, Err}
use Rattle.std.specs.Bool.{Decides}
use Rattle.std.specs.Option.{option_or}
use Rattle.std.proofs.lemmas.Bool.Decides.{Decides-eqb, Decides-int_eq, Decides-and, Decides-not}
use Rattle.machine.specs.Machine.{Tasks, demand, IsResponse}
use Rattle.channel.specs.Side.{Sound}
use Rattle.channel.specs.Channel.{Channel, Balanced, Underflows, Overflows}
use Rattle.channel.specs.declared.Fault.TheVariants as fault
use Rattle.numbers.specs.Numbers.{least}
use Rattle.channel.specs.Judge.{TooLong, Verdict, Means, judge}
use Rattle.numbers.proofs.Sums.{cases}
use Rattle.numbers.proofs.Least.{least_is}
use Rattle.channel.proofs.Judged.{judge_means}
use Rattle.graph.specs.declared.Relation.{Relation}
use Rattle.graph.specs.Model.{Rates, Graph, count, task, link, relation}
use Rattle.rules.specs.Terms.{machine, side, channel, Usable, response}
use Rattle.reply.specs.declared.Refusal.{Refusal}
use Rattle.reply.specs.declared.Refusal.TheVariants.{SamePriority, ShortReport, FalseRelation, Late, Overloaded, InitialAboveSize, Unbalanced, WindowTooLong, Underflow, Overflow, UnknownKind, CutShort, OutOfOrder, OutOfRange, TooMany, NoTask, EmptyCycle, NoFile, ShortOutput}
use Rattle.reply.specs.Reply.{number, place, job}
use Rattle.rules.specs.Order.{Sooner, Earlier}
use Rattle.rules.specs.Rules.{Holds, load, Refuses, Replies}
use Rattle.rules.specs.Check.{holds, seen, refusal, when, same_priorities, short_reports, false_relations, late_tasks, overload, spoilt_channels, found, reply}
use Rattle.rules.proofs.Order.{irreflexive}
use Rattle.rules.specs.Stages.{At, Upto, In, Earliest}
use Rattle.rules.proofs.Find.{kind, known, when_finds, stage_finds, tests_find, next_finds, nothing, given_replies}

-- ---- tests and what they mean

least_tests : (p : ℕ → Bool) (n : ℕ) → Decides (ltb (least p n) n) ((j : ℕ) × (j < n) × (p j ≡ true))
least_tests p n =
    let i = least_is p n in (
      λ e. let l = ltb-true (least p n) n e in (least p n, l, i.passes l),
      λ (j, l, e). lt-ltb (least p n) n (cases n (least p n) (λ h. absurd (false≢true (sym (i.none_before j (omega arith)) ∙ e))) (λ h. h)),
    )

module _ (g : Graph) where
  seen_tests : (i : ℕ) → Decides (seen g i) ((j : ℕ) × (j < i) × ((task g j).priority ≡ (task g i).priority))
  unfolding seen
  seen_tests i =
      let t = least_tests (λ j. eqb (task g j).priority (task g i).priority) i in (
        λ e. let (j, l, q) = t.0 e in (j, l, eqb-true (task g j).priority (task g i).priority q),
        λ (j, l, q). t.1 (j, l, eq-eqb (task g j).priority (task g i).priority q),
      )

  holds_tests : (r : Relation) → Decides (holds g r) (Holds g r)
  unfolding holds
  holds_tests r =
      let t = Decides-and _ _ (Decides-eqb _ _) (Decides-int_eq _ _) in
      (λ e. let h = t.0 e in record { periods = h.0; phases = h.1 }, λ h. t.1 (h.periods, h.phases))

  -- ---- the figures

  -- w before the figure is too little, and the figure is enough if it comes by the deadline
  too_little : (i w : ℕ) → 1 ≤ w → w < response g i → w < demand (machine g) i w
  unfolding response
  too_little i w h l =
      let e : suc (w - 1) ≡ w = omega arith in
      subst (λ x. x < demand (machine g) i x) e
      (leb-false (demand (machine g) i (suc (w - 1))) (suc (w - 1)) ((least_is (λ w'. leb (demand (machine g) i (suc w')) (suc w')) (task g i).deadline).none_before (w - 1) (omega arith)))

  suffices : (i : ℕ) → response g i ≤ (task g i).deadline → demand (machine g) i (response g i) ≤ response g i
  unfolding response
  suffices i l =
      leb-true _ _ ((least_is (λ w. leb (demand (machine g) i (suc w)) (suc w)) (task g i).deadline).passes (omega arith))

  positive : (i : ℕ) → 1 ≤ response g i
  unfolding response
  positive i = omega arith

  pub late_tests : (i : ℕ) → Decides (ltb (task g i).deadline (response g i)) ((w : ℕ) → 1 ≤ w → w ≤ (task g i).deadline → w < demand (machine g) i w)
  late_tests i = (
    λ e w h l. too_little i w h (omega (arith, ltb-true (task g i).deadline (response g i) e)),
    λ f.
        lt-ltb (task g i).deadline (response g i)
        (cases (response g i) (task g i).deadline (λ l. absurd (omega (arith, f (response g i) (positive i) l, suffices i l))) (λ l. l)),
  )

  -- where some w by the deadline is enough, the figure is the response time
  pub figure : (i : ℕ) → response g i ≤ (task g i).deadline → IsResponse (machine g) i (response g i)
  figure i l =
      record {
        from_one = positive i;
        to_deadline = l;
        enough = suffices i l;
        least = λ w h d. cases (response g i) w (λ x. x) (λ x. absurd (omega (arith, too_little i w h x)));
      }

-- there is no other
pub response_unique : (ts : Tasks) (i r s : ℕ) → IsResponse ts i r → IsResponse ts i s → r ≡ s
response_unique ts i r s a b = le_antisymm (a.least s b.from_one b.enough) (b.least r a.from_one a.enough)

-- ---- one channel

-- the tests of a channel that come before number n and job j find nothing
record Clear (ch : Channel) (n j : ℕ) : Type 0 where
  fits : Sooner (13 ∷ 0 ∷ []) (n ∷ j ∷ []) → ch.initial ≤ ch.size
  balance : Sooner (14 ∷ 0 ∷ []) (n ∷ j ∷ []) → Balanced ch.producer ch.consumer
  short : Sooner (15 ∷ 0 ∷ []) (n ∷ j ∷ []) → ¬ TooLong ch
  no_under : (k : ℕ) → Sooner (16 ∷ k ∷ []) (n ∷ j ∷ []) → ¬ Underflows ch k
  no_over : (k : ℕ) → Sooner (17 ∷ k ∷ []) (n ∷ j ∷ []) → ¬ Overflows ch k

never : {A : Type 0} (a b k j : ℕ) → b < a → Sooner (a ∷ k ∷ []) (b ∷ j ∷ []) → A
never a b k j l (inl x) = absurd (omega arith)
never a b k j l (inr (x, y)) = absurd (omega arith)

before : (a k j : ℕ) → Sooner (a ∷ k ∷ []) (a ∷ j ∷ []) → k < j
before a k j (inl x) = absurd (omega arith)
before a k j (inr (x, inl y)) = y
before a k j (inr (x, inr (y, z))) = absurd z

-- number and job of a verdict
abbrev stands : Verdict → ℕ × ℕ
stands (Ok tt) = (18, 0)
stands (Err fault.InitialAboveSize) = (13, 0)
stands (Err fault.Unbalanced) = (14, 0)
stands (Err fault.WindowTooLong) = (15, 0)
stands (Err (fault.Underflow k)) = (16, k)
stands (Err (fault.Overflow j)) = (17, j)

clear : (ch : Channel) (v : Verdict) → Means ch v → Clear ch (stands v).0 (stands v).1
clear ch (Ok tt) m =
    record {
      fits = λ x. m.0;
      balance = λ x. m.1;
      short = λ x. m.2;
      no_under = λ k x. m.3 k;
      no_over = λ k x. m.4 k;
    }
clear ch (Err fault.InitialAboveSize) m =
    record {
      fits = λ x. absurd (irreflexive (13 ∷ 0 ∷ []) x);
      balance = never 14 13 0 0 (omega arith);
      short = never 15 13 0 0 (omega arith);
      no_under = λ k. never 16 13 k 0 (omega arith);
      no_over = λ k. never 17 13 k 0 (omega arith);
    }
clear ch (Err fault.Unbalanced) m =
    record {
      fits = λ x. m.0;
      balance = λ x. absurd (irreflexive (14 ∷ 0 ∷ []) x);
      short = never 15 14 0 0 (omega arith);
      no_under = λ k. never 16 14 k 0 (omega arith);
      no_over = λ k. never 17 14 k 0 (omega arith);
    }
clear ch (Err fault.WindowTooLong) m =
    record {
      fits = λ x. m.0;
      balance = λ x. m.1;
      short = λ x. absurd (irreflexive (15 ∷ 0 ∷ []) x);
      no_under = λ k. never 16 15 k 0 (omega arith);
      no_over = λ k. never 17 15 k 0 (omega arith);
    }
clear ch (Err (fault.Underflow i)) m =
    record {
      fits = λ x. m.0;
      balance = λ x. m.1;
      short = λ x. m.2;
      no_under = λ k x. m.3.1 k (before 16 k i x);
      no_over = λ k. never 17 16 k i (omega arith);
    }
clear ch (Err (fault.Overflow i)) m =
    record {
      fits = λ x. m.0;
      balance = λ x. m.1;
      short = λ x. m.2;
      no_under = λ k x. m.3 k;
      no_over = λ k x. m.4.1 k (before 17 k i x);
    }

module _ (g : Graph) (room : ℕ) where
  clear_refuses : (n j : ℕ) (s : Refusal) → In 13 s → Refuses g room s → Clear (channel g (place (Err s))) n j → ¬ Sooner (number (Err s) ∷ job (Err s) ∷ []) (n ∷ j ∷ [])
  clear_refuses n j (SamePriority i) e h k x = omega arith
  clear_refuses n j (ShortReport m) e h k x = omega arith
  clear_refuses n j (FalseRelation r) e h k x = omega arith
  clear_refuses n j (Late i) e h k x = omega arith
  clear_refuses n j Overloaded e h k x = omega arith
  clear_refuses n j (InitialAboveSize c) e h k x = omega (arith, k.fits x, h.1)
  clear_refuses n j (Unbalanced c) e h k x = h.1 (k.balance x)
  clear_refuses n j (WindowTooLong c) e h k x = k.short x h.1
  clear_refuses n j (Underflow c i) e h k x = k.no_under i x h.1
  clear_refuses n j (Overflow c i) e h k x = k.no_over i x h.1
  clear_refuses n j (UnknownKind y) e h k x = h
  clear_refuses n j (CutShort y) e h k x = h
  clear_refuses n j (OutOfOrder y) e h k x = h
  clear_refuses n j (OutOfRange y) e h k x = h
  clear_refuses n j (TooMany y) e h k x = h
  clear_refuses n j NoTask e h k x = h
  clear_refuses n j (EmptyCycle y) e h k x = h
  clear_refuses n j NoFile e h k x = h
  clear_refuses n j (ShortOutput y) e h k x = h

  -- so no reply on the channel is earlier than one of that number and job
  clear_first : (c : ℕ) (r : Refusal) → place (Err r) ≡ c → In 13 r → Clear (channel g c) (number (Err r)) (job (Err r)) → (s : Refusal) → At 13 c s → Refuses g room s → ¬ Earlier s r
  clear_first c r p q k s d h (inl x) = omega (arith, d.0, q)
  clear_first c r p q k s d h (inr (x, inl y)) = omega (arith, d.1, p)
  clear_first c r p q k s d h (inr (x, inr (y, z))) = clear_refuses (number (Err r)) (job (Err r)) s d.0 h (subst (λ i. Clear (channel g i) (number (Err r)) (job (Err r))) (sym d.1) k) z

  verdict_finds : (c : ℕ) → c < length g.channels → (v : Verdict) → Means (channel g c) v → Clear (channel g c) (stands v).0 (stands v).1
      → Earliest g room (At 13 c) (refusal c v)
  verdict_finds c l (Ok tt) m k = λ s d h.
      clear_refuses 18 0 s d.0 h (subst (λ i. Clear (channel g i) 18 0) (sym d.1) k) (inl (omega (arith, known g room s h)))
  verdict_finds c l (Err fault.InitialAboveSize) m k = ((refl, refl), (l, m), clear_first c (InitialAboveSize c) refl refl k)
  verdict_finds c l (Err fault.Unbalanced) m k = ((refl, refl), (l, m.1), clear_first c (Unbalanced c) refl refl k)
  verdict_finds c l (Err fault.WindowTooLong) m k = ((refl, refl), (l, m.2), clear_first c (WindowTooLong c) refl refl k)
  verdict_finds c l (Err (fault.Underflow i)) m k = ((refl, refl), (l, m.3.0), clear_first c (Underflow c i) refl refl k)
  verdict_finds c l (Err (fault.Overflow i)) m k = ((refl, refl), (l, m.4.0), clear_first c (Overflow c i) refl refl k)

  -- ---- the stages of one test, and of one channel

  -- the report has room for the figures, or not
  pub room_finds : Earliest g room (In 9) (when (ltb room (count g)) (ShortReport (count g)))
  room_finds =
      when_finds g room (In 9) (ltb room (count g)) (ShortReport (count g)) refl (λ e. (refl, ltb-true room (count g) e))
      (λ s e h.
      let q : s ≡ ShortReport (place (Err s)) = kind 9 s (omega arith) e in
      let (a, b) = subst (Refuses g room) q h in
      (q ∙ ap ShortReport a, lt-ltb room (count g) b))

  -- the load is too high, or not
  pub load_finds : Earliest g room (In 12) (when (ltb 1_000_000 (load g)) Overloaded)
  load_finds =
      when_finds g room (In 12) (ltb 1_000_000 (load g)) Overloaded refl (λ e. ltb-true 1_000_000 (load g) e)
      (λ s e h. let q : s ≡ Overloaded = kind 12 s (omega arith) e in (q, lt-ltb 1_000_000 (load g) (subst (Refuses g room) q h)))

  -- ---- all tests

  module _ (ok : Usable g) where
    pub sound_side : (i : ℕ) (r : Rates) → i < count g → 1 ≤ length r.cycle → Sound (side g i r)
    sound_side i r l some_rate = let t = ok.timed i l in record { some_tick = t.some_deadline; fits = t.constrained; some_rate = some_rate }

    pub sound_producer : (c : ℕ) → c < length g.channels → Sound (channel g c).producer
    sound_producer c l = let j = ok.ends c l in sound_side (link g c).producer (link g c).production j.producer_known j.some_put

    pub sound_consumer : (c : ℕ) → c < length g.channels → Sound (channel g c).consumer
    sound_consumer c l = let j = ok.ends c l in sound_side (link g c).consumer (link g c).consumption j.consumer_known j.some_take

    -- a verdict on channel c is the earliest refusal of that channel
    pub channel_finds : (c : ℕ) → c < length g.channels → (v : Verdict) → Means (channel g c) v → Earliest g room (At 13 c) (refusal c v)
    channel_finds c l v m = verdict_finds c l v m (clear (channel g c) v m)

    pub finds : Earliest g room (Upto 14) (found g room)
    unfolding found
    finds =
        let a : Option Refusal = same_priorities g in
        let b : Option Refusal = option_or a (short_reports g room) in
        let c : Option Refusal = option_or b (false_relations g) in
        let d : Option Refusal = option_or c (late_tasks g) in
        let e : Option Refusal = option_or d (overload g) in
        next_finds g room 13 e (spoilt_channels g)
        (next_finds g room 12 d (overload g)
        (next_finds g room 11 c (late_tasks g)
        (next_finds g room 10 b (false_relations g)
        (next_finds g room 9 a (short_reports g room)
        (next_finds g room 8 None a (nothing g room)
        (tests_find g room 8 (count g) (seen g) SamePriority (λ i. (refl, refl)) (λ s e h. kind 8 s (omega arith) e) (λ i h. h.0)
        (λ i l. let t = seen_tests g i in (λ e. (l, t.0 e), λ h. t.1 h.1))))
        room_finds)
        (tests_find g room 10 (length g.relations) (λ r. not (holds g (relation g r))) FalseRelation (λ i. (refl, refl)) (λ s e h. kind 10 s (omega arith) e) (λ i h. h.0)
        (λ r l. let t = Decides-not (holds g (relation g r)) (holds_tests g (relation g r)) in (λ e. (l, t.0 e), λ h. t.1 h.1))))
        (tests_find g room 11 (count g) (λ i. ltb (task g i).deadline (response g i)) Late (λ i. (refl, refl)) (λ s e h. kind 11 s (omega arith) e) (λ i h. h.0)
        (λ i l. let t = late_tests g i in (λ e. (l, t.0 e), λ h. t.1 h.1))))
        load_finds)
        (stage_finds g room 13 (length g.channels) (λ c. refusal c (judge (channel g c))) (λ s e h. (known g room s h).2 (omega arith))
        (λ c l. channel_finds c l (judge (channel g c)) (judge_means (channel g c) (sound_producer c l) (sound_consumer c l))))

    -- the computed reply is the one that is given
    pub replies : Replies g room (reply g room)
    replies = given_replies g room (found g room) finds
