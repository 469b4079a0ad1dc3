-- `Formed::tasks` meets its contract: a well-formed graph's tasks are as many as its count says, and in range. Assumes nothing.
use Rattle.std.proofs.Common.{ap}
use Rattle.graph.specs.Model.{Graph}
use Rattle.graph.specs.Memory.{view}
use Rattle.format.proofs.Ranges.{formed_ranged}
use Rattle.formed.proofs.Counts.{counts}
use Rattle.formed.proofs.wellformed.Formed.tasks.Goals as goal

pub shared_ref_as_front-result : goal.shared_ref_as_front-result
shared_ref_as_front-result c = (counts _ c.self.invariant).few_tasks

pub returns-clause-list : goal.returns-clause-list
unfolding view
returns-clause-list c = ap (λ (m : Graph). m.tasks) c.self.view_is

pub returns-clause-some : goal.returns-clause-some
unfolding view
returns-clause-some c = (formed_ranged _ c.self.invariant.formed).some_task

pub returns-clause-few : goal.returns-clause-few
unfolding view
returns-clause-few c = (formed_ranged _ c.self.invariant.formed).few_tasks

pub returns-clause-in_range : goal.returns-clause-in_range
unfolding view
returns-clause-in_range c = (formed_ranged _ c.self.invariant.formed).tasks
