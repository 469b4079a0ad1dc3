-- The writer's contract: it is met, it leaves one outcome, and files and graphs go round. Assumes nothing.
use mathlib.Core.Path.{◌≡◌, refl, ap, sym, subst, ◌∙◌}
use mathlib.Core.Logic.{◌↔◌}
use mathlib.Core.List.{List, ◌++◌}
use Prim.Native.Nat.{ℕ, ◌≤◌, ◌<◌}
use native.Mathlib.Omega.{arith}
use lib.ListN.{length, take, drop}
use lib.Seq.{take_at}
use Rattle.std.specs.Prelude.{Ok, Err}
use Rattle.reply.specs.declared.Refusal.TheVariants.{NoFile, ShortOutput}
use Rattle.reply.specs.Reply.{Reply}
use Rattle.graph.specs.Memory.{Memory, view, laid}
use Rattle.graph.proofs.Laid.{view_laid}
use Rattle.format.specs.Reader.{taken}
use Rattle.format.specs.Writer.{bytes}
use Rattle.format.proofs.Reading.{one_answer}
use Rattle.format.proofs.Canon.{reads_bytes}
use Rattle.format.proofs.Size.{taken_length}
use Rattle.formed.specs.Formed.{WellFormed}
use Rattle.formed.specs.Formed.{ReadsAs}
use Rattle.formed.proofs.Exact.{reads_well, well_reads}
use Rattle.writer.specs.Writing.{Writes, no_file, short, wrote}
use Rattle.output.specs.Output.{put}
use Rattle.output.proofs.Output.{put_front}

-- ---- a graph that some file reads as

-- its model is its view
model_is : {file : List ℕ} {g : Memory} (r : ReadsAs file g) → view g ≡ r.model
model_is r = ap view r.same ∙ view_laid r.model

-- it has one file
pub the_file : {file : List ℕ} {g : Memory} → ReadsAs file g → file ≡ bytes (view g)
the_file {file} r = sym (ap bytes (model_is r) ∙ reads_bytes file r.model r.reads)

pub one_file : {file other : List ℕ} {g : Memory} → ReadsAs file g → ReadsAs other g → file ≡ other
one_file r q = the_file r ∙ sym (the_file q)

-- a file reads as one graph in memory, no two
pub one_graph : (file : List ℕ) (g h : Memory) → ReadsAs file g → ReadsAs file h → g ≡ h
one_graph file g h r q =
    let e : taken r.model ≡ taken q.model = one_answer file (taken r.model) (taken q.model) r.reads q.reads in
    let m : r.model ≡ q.model = cc in
    r.same ∙ ap laid m ∙ sym q.same

-- ---- the contract is met

module _ (g : Memory) (out : List ℕ) where
  pub writes_none : ¬ WellFormed g → Writes g out (Err NoFile) out
  writes_none h = no_file (λ file r. h (reads_well file g r))

  pub writes_short : (n : ℕ) → WellFormed g → n ≡ length (bytes (view g)) → length out < n → Writes g out (Err (ShortOutput n)) out
  writes_short n w e h =
      subst (λ m. Writes g out (Err (ShortOutput m)) out) (sym e) (short (bytes (view g)) (well_reads g w) (omega arith))

  pub writes_file : (after : List ℕ) → WellFormed g → length (bytes (view g)) ≤ length out → after ≡ put out 0 (bytes (view g))
      → Writes g out (Ok g.ntasks) after
  writes_file after w h e =
      subst (Writes g out (Ok g.ntasks)) (sym (e ∙ put_front out (bytes (view g)))) (wrote (bytes (view g)) (well_reads g w) h)

-- ---- and leaves one outcome

pub determined : (g : Memory) (out : List ℕ) {r s : Reply} {a b : List ℕ} → Writes g out r a → Writes g out s b → (r ≡ s) × (a ≡ b)
determined g out (no_file h) (no_file k) = (refl, refl)
determined g out (no_file h) (short file r l) = absurd (h file r)
determined g out (no_file h) (wrote file r l) = absurd (h file r)
determined g out (short file r l) (no_file k) = absurd (k file r)
determined g out (short file r l) (short other q m) = (ap (λ f. Err (ShortOutput (length f))) (one_file r q), refl)
determined g out (short file r l) (wrote other q m) = absurd (omega (arith, ap length (one_file r q)))
determined g out (wrote file r l) (no_file k) = absurd (k file r)
determined g out (wrote file r l) (short other q m) = absurd (omega (arith, ap length (one_file r q)))
determined g out (wrote file r l) (wrote other q m) = (refl, ap (λ f. f ++ drop (length f) out) (one_file r q))

-- 18 exactly when no file reads as the graph
pub no_file_iff : (g : Memory) (out : List ℕ) {r : Reply} {after : List ℕ} → Writes g out r after → (r ≡ Err NoFile) ↔ ((file : List ℕ) → ¬ ReadsAs file g)
no_file_iff g out w = (to w, λ h. (determined g out w (no_file h)).0)
  where
    to : {r : Reply} {after : List ℕ} → Writes g out r after → r ≡ Err NoFile → (file : List ℕ) → ¬ ReadsAs file g
    to (no_file h) e = h
    to (short file q l) e = let z : ◌≡◌ {A = ℕ} 0 1 = cc in absurd (omega arith)
    to (wrote file q l) e = let z : ◌≡◌ {A = ℕ} 0 1 = cc in absurd (omega arith)

-- ---- round trips

-- a file that reads as the graph: written with room for it, the same bytes stand at the front
pub file_back : (file : List ℕ) (g : Memory) (out : List ℕ) {r : Reply} {after : List ℕ} → ReadsAs file g → length file ≤ length out → Writes g out r after
    → (r ≡ Ok g.ntasks) × (after ≡ file ++ drop (length file) out)
file_back file g out q l w = determined g out w (wrote file q l)

-- what an accepting writer put at the front reads as the graph, and as no other
pub graph_back : (g : Memory) (out : List ℕ) (n : ℕ) (after : List ℕ) → Writes g out (Ok n) after
    → (file : List ℕ) × (take (length file) after ≡ file) × ReadsAs file g × ((h : Memory) → ReadsAs file h → h ≡ g)
graph_back g out n after (wrote file q l) =
    (file, take_at file (drop (length file) out) (length file) refl, q, λ h p. one_graph file h g p q)

-- no file that reads as a graph is longer
pub file_length : (file : List ℕ) (g : Memory) → ReadsAs file g → length file ≤ 39104
file_length file g r = taken_length file r.model r.reads
