-- `checker::check_graph` meets its contract. Assumes nothing.
use mathlib.Core.Path.{refl}
use mathlib.Core.List.{[]}
use Rattle.formed.proofs.Exact.{reads_well}
use Rattle.checker.specs.Check.{no_file}
use Rattle.checker.proofs.All.{well_judged}
use Rattle.checker.proofs.check_graph.Goals as goal

pub returns-in_default : goal.returns-in_default
returns-in_default c = record { figures = []; answers = no_file (λ file r. c.in_default.ensures (reads_well file _ r)); report = refl }

pub returns : goal.returns
returns c =
    let h = c.in-Some.ensures in
    let j = rw h.1 at c.judge.ensures in
    record { figures = j.figures; answers = well_judged h.0 j.answers; report = j.report }
