-- The loop over the records: where it stands, and where each record takes it. Assumes nothing.
use mathlib.Core.Path.{◌≡◌, refl, sym, ap, subst, ◌∙◌}
use mathlib.Core.Logic.{inl, inr}
use mathlib.Core.List.{List}
use Prim.Native.Nat.{ℕ, suc, ◌+◌, ◌≤◌, ◌<◌}
use lib.ListN.{length, get_or, take, drop}
use Rattle.std.specs.Prelude.{Option, None, Some, Result, Ok, Err}
use Rattle.graph.specs.Model.{Graph, empty}
use Rattle.graph.specs.Memory.{Memory, laid}
use Rattle.format.specs.Record.{Kind, kind_of, size, Record, kind, decode, rank}
use Rattle.format.specs.Reader.{State, start, step, Bytes, ranges, InRange, count, limit, Good, stop_reply, stopped, Answers, Leads}
use Rattle.format.proofs.Records.{kind_decode}
use Rattle.format.proofs.Steps.{leads_start, leads_step, leads_stop, is_unknown, is_cut, is_down, is_range, is_full}
use Rattle.record.specs.declared.Counts.{Counts}
use Rattle.record.specs.declared.Test.{Test as Named}
use Rattle.record.specs.declared.Test.TheVariants.{Unknown, Cut, Down, Range, Full}
use Rattle.record.specs.declared.Record.{Record as Read}
use Rattle.record.specs.declared.Record.TheVariants.{Task, Channel, Rate, Relation}
use Rattle.record.specs.Fields.{said}
use Rattle.record.specs.Fronts.{Behind, Judges, TellsOf, Tells}
use Rattle.reader.specs.Records.{Names, Stores, Stands, Refused, test_of}

pub stands_start : (file : List ℕ) → Stands file (laid empty) 0 0
stands_start file = record { state = start; leads = leads_start file; floors = refl; laid_out = refl }

-- the refusal of a test that fires
refused : (file : List ℕ) (t : Named) (at : ℕ) → Answers file (stopped (test_of t) at) → Refused file (stop_reply (test_of t) at)
refused file t at a = (stopped (test_of t) at, a, refl)

-- a rate in range names a channel of the graph
names : (g : Graph) (r : Read) → InRange g (said r) → Names g r
unfolding ranges
names g (Task t) range = tt
names g (Channel h) range = tt
names g (Rate e) range = range.0.0
names g (Relation l) range = tt

module _ (file : List ℕ) (m : Memory) (floor at : ℕ) (S : Stands file m floor at) where
  abbrev s : State
  s = S.state

  -- the byte of a kind, the bytes behind it, and the record of that kind in them
  abbrev byte : ℕ
  byte = get_or file at 0

  abbrev bs : List ℕ
  bs = drop (suc at) file

  abbrev held : Kind → Record
  held k = decode k (take (size k) bs)

  -- what stands before the record
  abbrev pub behind : Counts
  behind = record { floor = floor; tasks = m.ntasks; channels = m.nchannels; relations = m.nrelations }

  is_behind : Behind s behind
  unfolding laid
  is_behind = record {
    floors = S.floors;
    tasks = sym (ap (λ (n : Memory). n.ntasks) S.laid_out);
    channels = sym (ap (λ (n : Memory). n.nchannels) S.laid_out);
    relations = sym (ap (λ (n : Memory). n.nrelations) S.laid_out);
  }

  module _ (more : at < length file) where
    -- a test that fires is the answer
    judged_stop : (k : Kind) → kind_of byte ≡ Some k → size k ≤ length bs → (t : Named) → Judges s (held k) (Err t) → Answers file (stopped (test_of t) at)
    judged_stop k known long Unknown j = absurd j
    judged_stop k known long Cut j = absurd j
    judged_stop k known long Down j = leads_stop file s at S.leads more _ (is_down file s at S.leads more k known long j)
    judged_stop k known long Range j = leads_stop file s at S.leads more _ (is_range file s at S.leads more k known long j.0 j.1)
    judged_stop k known long Full j = leads_stop file s at S.leads more _ (is_full file s at S.leads more k known long j.0 j.1 j.2)

    told_stop : (t : Named) (o : Option Kind) → kind_of byte ≡ o → TellsOf s o bs (Err t) → Answers file (stopped (test_of t) at)
    told_stop t None known e =
        let is : test_of t ≡ test_of Unknown = cc in
        rw is (leads_stop file s at S.leads more _ (is_unknown file s at S.leads more known))
    told_stop t (Some k) known (inl (h, e)) =
        let is : test_of t ≡ test_of Cut = cc in
        rw is (leads_stop file s at S.leads more _ (is_cut file s at S.leads more k known h))
    told_stop t (Some k) known (inr (long, j)) = judged_stop k known long t j

    told_record : (r : Read) (o : Option Kind) → kind_of byte ≡ o → TellsOf s o bs (Ok r)
        → (k : Kind) × (kind_of byte ≡ Some k) × (size k ≤ length bs) × (held k ≡ said r) × (s.floor ≤ rank (held k)) × InRange s.graph (held k)
    told_record r None known e = cc
    told_record r (Some k) known (inl (h, e)) = cc
    told_record r (Some k) known (inr (long, j)) = let (e, order, range, room) = j in (k, known, long, e, order, range)

    module _ (f : Result Read Named) (tells : (t : State) → Behind t behind → Tells file t at f) where
      told : Tells file s at f
      told = tells s is_behind

      -- a test fires
      pub refuses : (t : Named) → f ≡ Err t → Refused file (stop_reply (test_of t) at)
      refuses t e = refused file t at (told_stop t (kind_of byte) refl (subst (Tells file s at) e told))

      module _ (r : Read) (passed : f ≡ Ok r) where
        whole : (k : Kind) × (kind_of byte ≡ Some k) × (size k ≤ length bs) × (held k ≡ said r) × (s.floor ≤ rank (held k)) × InRange s.graph (held k)
        whole = told_record r (kind_of byte) refl (subst (Tells file s at) passed told)

        named : Names s.graph r
        named = let (k, known, long, e, order, range) = whole in names s.graph r (subst (InRange s.graph) e range)

        -- what the record asks of the graph that it is stored in
        pub has_names : (g : Graph) × (m ≡ laid g) × Names g r
        has_names = (s.graph, S.laid_out, named)

        module _ (n : Memory) (o : Result (Unit {0}) Named) (stores : (g : Graph) → m ≡ laid g → Names g r → Stores g r n o) where
          stored : Stores s.graph r n o
          stored = stores s.graph S.laid_out named

          -- no place is left for it
          pub refuses_full : (t : Named) → o ≡ Err t → Refused file (stop_reply (test_of t) at)
          refuses_full t fired =
              let (k, known, long, e, order, range) = whole in
              let (is, over, same) = subst (Stores s.graph r n) fired stored in
              rw is (refused file Full at (judged_stop k known long Full (order, range, subst (λ q. limit q ≤ count s.graph q) (sym e) over)))

          -- it is stored, and passed
          pub stands_next : Bytes file → o ≡ Ok tt → Stands file n (rank (said r)) (at + suc (size (kind (said r))))
          stands_next bytes done =
              let (k, known, long, e, order, range) = whole in
              let (room, is) = subst (Stores s.graph r n) done stored in
              let good : Good s (held k) = record { in_order = order; in_range = range; room = subst (λ q. count s.graph q < limit q) (sym e) room } in
              let here : size k ≡ size (kind (said r)) = ap size (sym (kind_decode k (take (size k) bs)) ∙ ap kind e) in
              record {
                state = step s (said r);
                leads = subst (λ j. Leads file (step s (said r)) (at + suc j)) here
                    (subst (λ q. Leads file (step s q) (at + suc (size k))) e (leads_step file s at S.leads more k known bytes long good));
                floors = refl;
                laid_out = is;
              }
