-- What some of the tests found. Assumes nothing.
use Rattle.std.specs.Prelude.{Option, Some, None, Result, Ok, Err, List, ℕ, ◌<◌, get_or}
use Rattle.reply.specs.declared.Refusal.{Refusal}
use Rattle.graph.specs.Model.{Graph, count}
use Rattle.machine.specs.Machine.{IsResponse}
use Rattle.rules.specs.Terms.{machine}
use Rattle.rules.specs.Stages.{Earliest, Upto}

-- the refusal, if there is one
abbrev pub refusal : {A : Type 0} → Result A Refusal → Option Refusal
refusal (Ok x) = None
refusal (Err r) = Some r

-- Of every graph that is P: where the tests before stage n find nothing, this is the earliest refusal before stage m.
pub record Behind {A : Type 0} (n m room : ℕ) (P : Graph → Type 0) (r : Result A Refusal) : Type 0 where
  pub so : (g : Graph) → P g → Earliest g room (Upto n) None → Earliest g room (Upto m) (refusal r)

-- where nothing refuses, the list starts with the response times
abbrev pub Times : Graph → Result (List ℕ) Refusal → Type 0
Times g (Ok l) = (i : ℕ) → i < count g → IsResponse (machine g) i (get_or l i 0)
Times g (Err r) = Unit {0}

-- what all tests, those of the stages below 14, found in the graph
pub record Tested (g : Graph) (room : ℕ) (r : Result (List ℕ) Refusal) : Type 0 where
  pub earliest : Earliest g room (Upto 14) (refusal r)
  pub times : Times g r
