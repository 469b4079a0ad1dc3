-- `ringcheck::judge` meets its contract: what was read is judged, and the lines are written. Assumes nothing.
use Rattle.std.proofs.Common.{◌≡◌, rules, length}
use Rattle.ringcheck.proofs.Judging.{judged}
use Rattle.ringcheck.proofs.judge.Goals as goal

pub returns : goal.returns
returns g c =
    let whole : length c.read_full.new.file ≡ 65536 = search rules in
    judged _ _ _ _ _ _ _ whole c.in_ok-n.ensures.bytes c.answer-length.ensures.prints c.write_all.ensures.bytes
