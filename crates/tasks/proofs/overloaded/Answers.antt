-- `tasks::overloaded` meets its contract: the shares of the list are those of the graph. Assumes nothing.
use lib.Dec.{ltb}
use mathlib.Core.Path.{sym, ap, ◌∙◌}
use Rattle.std.specs.Prelude.{sum_by}
use Rattle.tasks.specs.Tasks.{share}
use Rattle.tasks.proofs.Load.{load_is}
use Rattle.tasks.proofs.overloaded.Goals as goal

pub returns : goal.returns
returns c = λ g e. ap (ltb 1_000_000) (c.total_share.ensures ∙ ap (sum_by share) (sym e) ∙ sym (load_is g))
