-- What a rewrite says of the file: taken, it comes back as it was; 19 tells its length; 18 never shows. Assumes nothing.
use mathlib.Core.Path.{◌≡◌, refl, ap, sym, subst, ◌∙◌}
use mathlib.Core.Logic.{◌↔◌}
use mathlib.Core.List.{List, ◌++◌}
use Prim.Native.Nat.{ℕ, ◌≤◌}
use native.Mathlib.Omega.{arith}
use lib.ListN.{length, take, drop}
use lib.Seq.{take_at}
use Rattle.std.specs.Prelude.{Result, Ok, Err}
use Rattle.reply.specs.declared.Refusal.{Refusal}
use Rattle.reply.specs.declared.Numbers.{Numbers}
use Rattle.reply.specs.Reply.{Reply, number, place}
use Rattle.graph.specs.Memory.{Memory, laid}
use Rattle.format.specs.Reader as files
use Rattle.format.proofs.Reading.{one_answer}
use Rattle.formed.specs.Formed.{ReadsAs}
use Rattle.reader.specs.declared.Reading.{Reading}
use Rattle.reader.specs.Reading.{Gives, Parses}
use Rattle.writer.specs.Writing.{Writes, no_file, short, wrote}
use Rattle.writer.proofs.Writing.{one_file, file_back}
use Rattle.exports.specs.Exports.{Rewrites, Rewritten, Read}

-- a reader's refusal is one of 1 to 7
stop_number : (t : files.Test) (p : ℕ) → (1 ≤ number (Err (files.stop_reply t p))) × (number (Err (files.stop_reply t p)) ≤ 7)
stop_number files.unknown p = omega arith
stop_number files.cut p = omega arith
stop_number files.down p = omega arith
stop_number files.range p = omega arith
stop_number files.full p = omega arith

refused_number : (a : files.Answer) (r : Refusal) → files.reply a ≡ Err r → (1 ≤ number (Err r)) × (number (Err r) ≤ 7)
refused_number (files.stopped t p) r e = subst (λ x. (1 ≤ number x) × (number x ≤ 7)) e (stop_number t p)
refused_number files.no_task r e = subst (λ x. (1 ≤ number x) × (number x ≤ 7)) e (omega arith)
refused_number (files.no_entry p) r e = subst (λ x. (1 ≤ number x) × (number x ≤ 7)) e (omega arith)
refused_number (files.taken g) r e = absurd (cc)

-- and its reply one of 0 to 7
low : (a : files.Answer) → number (files.reply a) ≤ 7
low (files.stopped t p) = (stop_number t p).1
low files.no_task = omega arith
low (files.no_entry p) = omega arith
low (files.taken g) = omega arith

module _ (file : List ℕ) where
  -- what the C function `ghadibosh_read` hands back
  pub read_number : (n p j : ℕ) → Read file n p j → n ≤ 7
  read_number n p j r =
      let e : number r.reading.reply ≡ n = ap (λ (x : Numbers). x.number) r.numbers in
      let f : number r.reading.reply ≡ number (files.reply r.gives.answer) = ap number r.gives.reply in
      omega (arith, low r.gives.answer)

  reads : (a : files.Answer) → files.Answers file a → number (files.reply a) ≡ 0 → ReadsAs file (laid (files.graph_of a))
  reads (files.stopped t p) m e = absurd (omega (arith, stop_number t p))
  reads files.no_task m e = absurd (omega arith)
  reads (files.no_entry p) m e = absurd (omega arith)
  reads (files.taken g) m e = record { model = g; reads = m; same = refl }

  -- where the reader refuses nothing, the file reads as the graph that it hands back
  taken : (r : Reading) → Gives file r → number r.reply ≡ 0 → ReadsAs file r.graph
  taken r g e = rw g.graph (reads g.answer g.means (sym (ap number g.reply) ∙ e))

  -- a graph that the file reads as is what the reader takes, and its reply counts the tasks
  model_read : (m : Memory) (q : ReadsAs file m) (r : Reading) (g : Gives file r) → g.answer ≡ files.taken q.model
  model_read m q r g = one_answer file g.answer (files.taken q.model) g.means q.reads

  counts : (m : Memory) → ReadsAs file m → (r : Reading) → Gives file r → r.reply ≡ Ok m.ntasks
  unfolding laid
  counts m q r g = g.reply ∙ ap files.reply (model_read m q r g) ∙ ap (λ (x : Memory). Ok x.ntasks) (sym q.same)

  -- What `read` takes, `write` gives back. Into enough room its contract allows just this: the reader's own reply, which is 0, the file's bytes at the front, and the rest of the output kept.
  pub read_back : (r : Reading) → Gives file r → number r.reply ≡ 0 → (out : List ℕ) → length file ≤ length out → (s : Reply) (after : List ℕ)
      → Writes r.graph out s after ↔ ((s ≡ r.reply) × (after ≡ file ++ drop (length file) out))
  read_back r g e out l s after =
      let t : ReadsAs file r.graph = taken r g e in
      let same : r.reply ≡ Ok r.graph.ntasks = counts r.graph t r g in (
        λ w. let (a, b) = file_back file r.graph out t l w in (a ∙ sym same, b),
        λ p.
            subst (λ x. Writes r.graph out x after) (sym (p.0 ∙ same))
            (subst (Writes r.graph out (Ok r.graph.ntasks)) (sym p.1) (wrote file t l)),
      )

  -- ---- what a rewrite's number says

  -- of what the writer does with a graph that the file reads as
  written : (m : Memory) → ReadsAs file m → (before : List ℕ) {s : Reply} {after : List ℕ} → Writes m before s after
      → (number s ≡ 0 → after ≡ file ++ drop (length file) before) × (¬ (number s ≡ 18)) × (number s ≡ 19 → place s ≡ length file)
  written m q before (no_file h) = absurd (h file q)
  written m q before (short f r l) = (λ e. absurd (omega arith), λ e. omega arith, λ e. ap length (one_file r q))
  written m q before (wrote f r l) = (λ e. ap (λ x. x ++ drop (length x) before) (one_file r q), λ e. omega arith, λ e. absurd (omega arith))

  rewritten : (parsed : Result Memory Refusal) → Parses file parsed → (before : List ℕ) (s : Reply) (after : List ℕ) → Rewrites parsed before s after
      → (number s ≡ 0 → after ≡ file ++ drop (length file) before) × (¬ (number s ≡ 18)) × (number s ≡ 19 → place s ≡ length file)
  rewritten (Ok m) (g, reads, same) before s after w = written m (record { model = g; reads = reads; same = same }) before w
  rewritten (Err r) (a, m, f) before s after (e, k) =
      let n : number s ≡ number (Err r) = ap number e in
      let l = refused_number a r f in
      (λ z. absurd (omega (arith, l)), λ z. omega (arith, l), λ z. absurd (omega (arith, l)))

  module _ (before : List ℕ) (p j : ℕ) (after : List ℕ) where
    -- on 0 the output starts with the file, and keeps the rest
    pub file_again : Rewritten file before 0 p j after → after ≡ file ++ drop (length file) before
    file_again w = (rewritten w.parsed w.parses before w.reply after w.rewrites).0 (ap (λ (x : Numbers). x.number) w.numbers)

    pub never_18 : ¬ Rewritten file before 18 p j after
    never_18 w = (rewritten w.parsed w.parses before w.reply after w.rewrites).1 (ap (λ (x : Numbers). x.number) w.numbers)

    -- the length needed is the file's own
    pub length_needed : Rewritten file before 19 p j after → p ≡ length file
    length_needed w =
        sym (ap (λ (x : Numbers). x.place) w.numbers) ∙ (rewritten w.parsed w.parses before w.reply after w.rewrites).2 (ap (λ (x : Numbers). x.number) w.numbers)

-- what the writer put at the front, read again: accepted, and the same graph
pub graph_again : (g : Memory) (out : List ℕ) (n : ℕ) (after : List ℕ) → Writes g out (Ok n) after
    → (file : List ℕ) × (take (length file) after ≡ file) × ((r : Reading) → Gives file r → (r.reply ≡ Ok n) × (r.graph ≡ g))
graph_again g out n after (wrote file q l) =
    (file, take_at file (drop (length file) out) (length file) refl, again)
  where
    again : (r : Reading) → Gives file r → (r.reply ≡ Ok g.ntasks) × (r.graph ≡ g)
    again r h = (counts file g q r h, h.graph ∙ ap (λ a. laid (files.graph_of a)) (model_read file g q r h) ∙ sym q.same)
