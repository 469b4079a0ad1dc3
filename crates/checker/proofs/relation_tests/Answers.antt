-- `checker::relation_tests` meets its contract. Assumes nothing.
use Rattle.checker.proofs.Stages.{untrue}
use Rattle.checker.proofs.relation_tests.Goals as goal

pub returns-in-Some : goal.returns-in-Some
returns-in-Some c = λ room. untrue _ _ room _ c.in-Some.ensures
