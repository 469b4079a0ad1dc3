-- What a test of the tasks is handed: the tasks of whatever graph has them. Assumes nothing.
use Rattle.std.specs.Prelude.{◌≡◌, List}
use Rattle.graph.specs.declared.Task.{Task}
use Rattle.graph.specs.Model.{Graph}

-- P holds of every graph that has these tasks
abbrev pub Of : List Task → (Graph → Type 0) → Type 0
Of ts P = (g : Graph) → g.tasks ≡ ts → P g
