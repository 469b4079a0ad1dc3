-- Each exported function has one outcome for one input. Assumes nothing.
use mathlib.Core.Path.{◌≡◌, ap, sym, subst, ◌∙◌}
use mathlib.Core.List.{List, ◌++◌}
use Prim.Native.Nat.{ℕ}
use lib.ListN.{length, drop}
use Rattle.std.specs.Prelude.{Result, Ok, Err}
use Rattle.reply.specs.declared.Numbers.{Numbers}
use Rattle.reply.specs.declared.Refusal.{Refusal}
use Rattle.reply.specs.Reply.{Reply, numbered, three}
use Rattle.graph.specs.Memory.{Memory}
use Rattle.rules.proofs.Files.{file_determined}
use Rattle.reader.specs.declared.Reading.{Reading}
use Rattle.reader.proofs.Determined as reader
use Rattle.writer.proofs.Writing as writer
use Rattle.exports.specs.Exports.{Checked, Rewrites, Rewritten, Read}

-- the same number, place and job
pub record Same (n p j m q k : ℕ) : Type 0 where
  pub number : n ≡ m
  pub place : p ≡ q
  pub job : j ≡ k

same : (r s : Reply) (n p j m q k : ℕ) → r ≡ s → numbered r ≡ three n p j → numbered s ≡ three m q k → Same n p j m q k
same r s n p j m q k e a b =
    let f : three n p j ≡ three m q k = sym a ∙ ap numbered e ∙ b in
    record { number = ap (λ (x : Numbers). x.number) f; place = ap (λ (x : Numbers). x.place) f; job = ap (λ (x : Numbers). x.job) f }

module _ (file : List ℕ) (n p j m q k : ℕ) where
  pub read_determined : Read file n p j → Read file m q k → Same n p j m q k
  read_determined a b =
      same _ _ n p j m q k (ap (λ (r : Reading). r.reply) (reader.determined file a.reading b.reading a.gives b.gives)) a.numbers b.numbers

  module _ (before after other : List ℕ) where
    pub check_determined : Checked file before n p j after → Checked file before m q k other → Same n p j m q k × (after ≡ other)
    check_determined a b =
        let x = a.checks in
        let y = b.checks in
        let e = file_determined file (length before) a.reply b.reply x.figures y.figures x.answers y.answers in (
          same _ _ n p j m q k e.0 a.numbers b.numbers,
          x.report ∙ ap (λ l. l ++ drop (length l) before) e.1 ∙ sym y.report,
        )

    pub rewrite_determined : Rewritten file before n p j after → Rewritten file before m q k other → Same n p j m q k × (after ≡ other)
    rewrite_determined a b =
        let e = reader.parsed_once file a.parsed b.parsed a.parses b.parses in
        let d = one a.parsed a.rewrites (subst (λ r. Rewrites r before b.reply other) (sym e) b.rewrites) in
        (same _ _ n p j m q k d.0 a.numbers b.numbers, d.1)
      where
        one : (r : Result Memory Refusal) {s t : Reply} {u v : List ℕ} → Rewrites r before s u → Rewrites r before t v → (s ≡ t) × (u ≡ v)
        one (Ok g) w z = writer.determined g before w z
        one (Err r) w z = (w.0 ∙ sym z.0, w.1 ∙ sym z.1)
