-- The responses of a list of tasks have one answer. Assumes nothing.
use mathlib.Core.Path.{◌≡◌, refl, sym, ap, ◌∙◌}
use mathlib.Core.List.{List}
use Prim.Native.Nat.{ℕ}
use native.Mathlib.Omega.{arith}
use lib.ListN.{get_or}
use lib.Seq.{ext_get_or}
use Rattle.std.specs.Prelude.{Option, Some, None, Result, Ok, Err}
use Rattle.numbers.proofs.Sums.{cases}
use Rattle.machine.specs.Machine.{IsResponse}
use Rattle.graph.specs.Model.{Graph}
use Rattle.reply.proofs.Once.{finds_one}
use Rattle.rules.specs.Terms.{machine}
use Rattle.rules.specs.Rules.{Misses}
use Rattle.rules.proofs.Tests.{response_unique}
use Rattle.response.specs.Response.{Responds, Figures, Judged}

module _ (g : Graph) where
  -- a task with a response time is not late
  pub in_time : (i r : ℕ) → IsResponse (machine g) i r → ¬ Misses g i
  in_time i r h m = omega (arith, m r h.from_one h.to_deadline, h.enough)

  pub responds_one : (i : ℕ) (r s : Option ℕ) → Responds g i r → Responds g i s → r ≡ s
  responds_one i None None a b = refl
  responds_one i None (Some s) a b = absurd (in_time i s b a)
  responds_one i (Some r) None a b = absurd (in_time i r a b)
  responds_one i (Some r) (Some s) a b = ap Some (response_unique (machine g) i r s a b)

  figures_one : (n : ℕ) (l m : List ℕ) → Figures g n l → Figures g n m → (i : ℕ) → get_or l i 0 ≡ get_or m i 0
  figures_one n l m a b i =
      cases n i (λ h. a.rest i h ∙ sym (b.rest i h)) (λ h. response_unique (machine g) i (get_or l i 0) (get_or m i 0) (a.responses i h) (b.responses i h))

  late_not_figured : (n i : ℕ) (l : List ℕ) → Figures g n l → ¬ Judged g n (Err i)
  late_not_figured n i l a b = a.none_late i b.0 b.1.0

  pub judged_one : (n : ℕ) (r s : Result (List ℕ) ℕ) → Judged g n r → Judged g n s → r ≡ s
  judged_one n (Ok l) (Ok m) a b = ap Ok (ext_get_or 0 l m (a.size ∙ sym b.size) (λ i _. figures_one n l m a b i))
  judged_one n (Ok l) (Err j) a b = absurd (late_not_figured n j l a b)
  judged_one n (Err i) (Ok m) a b = absurd (late_not_figured n i m b a)
  judged_one n (Err i) (Err j) a b = ap Err (cc (finds_one (Misses g) n (Some i) (Some j) a b))
