-- `tasks::same_priority` meets its contract: the first number whose task was seen before. Assumes nothing.
use Rattle.std.proofs.Common.{rules, tests}
use Rattle.std.proofs.lemmas.Iterator.{first_from_Range}
use Rattle.tasks.proofs.Load.{Seen, first_repeats}
use Rattle.tasks.proofs.same_priority.Goals as goal

pub returns : goal.returns
returns c =
    let ts = c.args.tasks.now in
    λ g e. first_repeats g e c.find.result
    (first_from_Range _ _ _ _ (Seen ts) (λ i. ¬ Seen ts i) c.find.ensures.ran (λ x q k. search (rules, tests)) (λ x q k. (search rules, search (rules, tests))))
