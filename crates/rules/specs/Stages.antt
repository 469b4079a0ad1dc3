-- The stages of the tests, and the earliest among some refusals. Assumes nothing.
use Rattle.std.specs.Prelude.{◌≡◌, Option, Some, None, Err, ℕ, ◌<◌}
use Rattle.reply.specs.declared.Refusal.{Refusal}
use Rattle.reply.specs.Reply.{place}
use Rattle.graph.specs.Model.{Graph}
use Rattle.rules.specs.Order.{stage, Earlier}
use Rattle.rules.specs.Rules.{Refuses}

-- ---- sets of refusals

-- of stage n at place i
abbrev pub At : ℕ → ℕ → Refusal → Type 0
At n i s = (stage s ≡ n) × (place (Err s) ≡ i)

-- of stage n at a place below m
abbrev pub Below : ℕ → ℕ → Refusal → Type 0
Below n m s = (stage s ≡ n) × (place (Err s) < m)

-- of a stage below n
abbrev pub Upto : ℕ → Refusal → Type 0
Upto n s = stage s < n

-- of stage n
abbrev pub In : ℕ → Refusal → Type 0
In n s = stage s ≡ n

-- ---- the earliest

-- of the refusals in D none is true, or r is the earliest that is
abbrev pub Earliest : Graph → ℕ → (Refusal → Type 0) → Option Refusal → Type 0
Earliest g room D None = (s : Refusal) → D s → ¬ Refuses g room s
Earliest g room D (Some r) = D r × Refuses g room r × ((s : Refusal) → D s → Refuses g room s → ¬ Earlier s r)
