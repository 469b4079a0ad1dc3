-- Some graph has given tasks and relations. Assumes nothing.
use mathlib.Core.Path.{◌≡◌, refl}
use mathlib.Core.List.{List, []}
use Rattle.graph.specs.declared.Task.{Task}
use Rattle.graph.specs.declared.Relation.{Relation}
use Rattle.graph.specs.Model.{Graph}

-- there is such a graph, so what is said of every one of them says something
pub some_graph : (ts : List Task) (rs : List Relation) → (g : Graph) × (g.tasks ≡ ts) × (g.relations ≡ rs)
some_graph ts rs = (record { tasks = ts; channels = []; relations = rs }, refl, refl)
