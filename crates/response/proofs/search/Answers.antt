-- `response::search` meets its contract: the first number whose demand is at most it. Assumes nothing.
use Rattle.std.proofs.Common.{rules, tests, ◌+◌, ◌≤◌, ◌<◌, ℕ, sum_by}
use Rattle.std.proofs.lemmas.Iterator.{first_from_Range}
use Rattle.response.specs.Rivals.{asked}
use Rattle.response.proofs.Upwards.{searched}
use Rattle.response.proofs.search.Goals as goal

pub returns : goal.returns
returns c =
    let d : ℕ → ℕ = λ w. c.args.own + sum_by (asked w) c.args.rivals.now in
    searched d c.args.limit c.find.result
    (first_from_Range _ _ _ _ (λ w. d w ≤ w) (λ w. w < d w) c.find.ensures.ran (λ x q k. search (rules, tests)) (λ x q k. (search rules, search (rules, tests))))
