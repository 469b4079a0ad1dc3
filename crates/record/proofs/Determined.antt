-- The record at a place is determined: one front to one file, place, floor and counts. Assumes nothing.
use Rattle.std.specs.Prelude.{Result, Ok, Err, Option, None, Some}
use mathlib.Core.Path.{◌≡◌, refl, sym, ap, subst, ◌∙◌}
use mathlib.Core.Bool.{Bool, true, false, cond}
use mathlib.Core.Logic.{inl, inr}
use mathlib.Core.List.{List}
use Prim.Native.Nat.{ℕ, zero, suc, ◌≤◌, ◌<◌}
use native.Mathlib.Omega.{arith}
use lib.Dec.{eqb}
use lib.ListN.{length, get_or, take, drop, replicate, length-replicate}
use Rattle.graph.specs.Model.{Link, no_task, no_relation, no_rates, bare}
use Rattle.format.specs.Growth.{list_of}
use Rattle.format.specs.Record.{Kind, kind_of, size, Record, task, channel, rate, relation, decode, rank}
use Rattle.format.specs.Reader.{State, InRange, count, limit}
use Rattle.record.specs.declared.Counts.{Counts}
use Rattle.record.specs.declared.Test.{Test}
use Rattle.record.specs.declared.Test.TheVariants.{Unknown, Cut, Down, Range, Full}
use Rattle.record.specs.declared.Entry.{Entry}
use Rattle.record.specs.declared.Record.{Record as Read}
use Rattle.record.specs.declared.Record.TheVariants.{Task, Channel, Rate, Relation}
use Rattle.record.specs.Fields.{entered, said}
use Rattle.record.specs.Fronts.{Behind, Room, Judges, TellsOf, Tells}

-- the answer to a record that passes its tests
abbrev passed : Record → Result Read Test
passed (task t) = Ok (Task t)
passed (channel p c i s) = Ok (Channel (record { producer = p; consumer = c; initial = i; size = s }))
passed (rate c s p x) = Ok (Rate (record { channel = c; side = s; part = p; tokens = x }))
passed (relation l) = Ok (Relation l)

-- the four ways in which the tests of a body end
data Shown (s : State) (r : Record) : Result Read Test → Type 0 where
  is_down : rank r < s.floor → Shown s r (Err Down)
  is_out : s.floor ≤ rank r → ¬ InRange s.graph r → Shown s r (Err Range)
  is_full : s.floor ≤ rank r → InRange s.graph r → limit r ≤ count s.graph r → Shown s r (Err Full)
  is_in : s.floor ≤ rank r → InRange s.graph r → count s.graph r < limit r → Shown s r (passed r)

-- no list of rates is full
abbrev Roomy : State → Record → Type 0
Roomy s r = (e : Entry) → r ≡ entered e → count s.graph r < limit r

roomed : (s : State) (r : Record) → Roomy s r → Room s r → count s.graph r < limit r
roomed s (task t) h m = m
roomed s (channel p c i z) h m = m
roomed s (rate c d p x) h m = h (record { channel = c; side = d; part = p; tokens = x }) refl
roomed s (relation l) h m = m

passed_is : (x : Read) → passed (said x) ≡ Ok x
passed_is (Task t) = refl
passed_is (Channel h) = refl
passed_is (Rate e) = refl
passed_is (Relation l) = refl

shown : (s : State) (r : Record) (f : Result Read Test) → Roomy s r → Judges s r f → Shown s r f
shown s r (Err Unknown) h j = absurd j
shown s r (Err Cut) h j = absurd j
shown s r (Err Down) h j = is_down j
shown s r (Err Range) h (o, n) = is_out o n
shown s r (Err Full) h (o, i, l) = is_full o i l
shown s r (Ok x) h (e, o, i, m) = subst (Shown s r) (ap passed e ∙ passed_is x) (is_in o i (roomed s r h m))

shown_one : (s : State) (r : Record) (f g : Result Read Test) → Shown s r f → Shown s r g → f ≡ g
shown_one s r f g (is_down a) (is_down b) = refl
shown_one s r f g (is_down a) (is_out b n) = absurd (omega arith)
shown_one s r f g (is_down a) (is_full b i l) = absurd (omega arith)
shown_one s r f g (is_down a) (is_in b i l) = absurd (omega arith)
shown_one s r f g (is_out a m) (is_down b) = absurd (omega arith)
shown_one s r f g (is_out a m) (is_out b n) = refl
shown_one s r f g (is_out a m) (is_full b i l) = absurd (m i)
shown_one s r f g (is_out a m) (is_in b i l) = absurd (m i)
shown_one s r f g (is_full a j k) (is_down b) = absurd (omega arith)
shown_one s r f g (is_full a j k) (is_out b n) = absurd (n j)
shown_one s r f g (is_full a j k) (is_full b i l) = refl
shown_one s r f g (is_full a j k) (is_in b i l) = absurd (omega arith)
shown_one s r f g (is_in a j k) (is_down b) = absurd (omega arith)
shown_one s r f g (is_in a j k) (is_out b n) = absurd (n j)
shown_one s r f g (is_in a j k) (is_full b i l) = absurd (omega arith)
shown_one s r f g (is_in a j k) (is_in b i l) = refl

tells_one : (s : State) (o : Option Kind) (bs : List ℕ) (f g : Result Read Test) → ((r : Record) → Roomy s r) → TellsOf s o bs f → TellsOf s o bs g → f ≡ g
tells_one s None bs f g h t u = t ∙ sym u
tells_one s (Some k) bs f g h (inl (a, e)) (inl (b, d)) = e ∙ sym d
tells_one s (Some k) bs f g h (inl (a, e)) (inr (b, j)) = absurd (omega arith)
tells_one s (Some k) bs f g h (inr (a, i)) (inl (b, d)) = absurd (omega arith)
tells_one s (Some k) bs f g h (inr (a, i)) (inr (b, j)) =
    let r = decode k (take (size k) bs) in
    shown_one s r f g (shown s r f (h r) i) (shown s r g (h r) j)

-- an element of a list of one thing, or that thing past its end
same_thing : {A : Type 0} (n i : ℕ) (a : A) → get_or (replicate n a) i a ≡ a
same_thing zero i a = refl
same_thing (suc n) zero a = refl
same_thing (suc n) (suc i) a = same_thing n i a

no_entries : (side part : ℕ) → length (list_of (bare 0 0 0 0) side part) ≡ 0
no_entries side part = go (eqb side 0) (eqb part 0)
  where
    go : (a b : Bool) → length (cond b (cond a no_rates no_rates).prefix (cond a no_rates no_rates).cycle) ≡ 0
    go true true = refl
    go true false = refl
    go false true = refl
    go false false = refl

some_limit : (part : ℕ) → 0 < cond (eqb part 0) 16 32
some_limit part = go (eqb part 0)
  where
    go : (b : Bool) → 0 < cond b 16 32
    go true = omega arith
    go false = omega arith

-- some state has the counts, and no rates
module _ (behind : Counts) where
  abbrev some_state : State
  some_state =
      record {
        graph = record { tasks = replicate behind.tasks no_task; channels = replicate behind.channels (bare 0 0 0 0); relations = replicate behind.relations no_relation };
        floor = behind.floor;
      }

  some_behind : Behind some_state behind
  some_behind =
      record {
        floors = refl;
        tasks = length-replicate behind.tasks no_task;
        channels = length-replicate behind.channels (bare 0 0 0 0);
        relations = length-replicate behind.relations no_relation;
      }

  roomy : (r : Record) → Roomy some_state r
  unfolding count limit
  roomy r e is =
      rw is (omega (
        arith,
        some_limit e.part,
        ap (λ (c : Link). length (list_of c e.side e.part)) (same_thing behind.channels e.channel (bare 0 0 0 0)),
        no_entries e.side e.part,
      ))

  -- what meets the contract of `record::front_at` is one answer
  pub front_one : (file : List ℕ) (at : ℕ) (f g : Result Read Test)
      → ((s : State) → Behind s behind → Tells file s at f)
      → ((s : State) → Behind s behind → Tells file s at g) → f ≡ g
  front_one file at f g a b =
      tells_one some_state (kind_of (get_or file at 0)) (drop (suc at) file) f g roomy (a some_state some_behind) (b some_state some_behind)
