-- `record::front_at` meets its contract: what the tests say of the record, they say of its place. Assumes nothing.
use Rattle.record.specs.Fields.{meant}
use Rattle.record.proofs.Fronts.{tells}
use Rattle.record.proofs.front_at.Goals as goal

pub returns : goal.returns
returns c =
    λ s b.
    let a = c.args in
    tells a.file.now a.at (meant c.in_ok-kind.kind) c.in_ok-kind.ensures c.body_length-len.result c.body_length-len.ensures c.body-bytes.result.now c.body-bytes.ensures c.if-bytes-len.false s c.read.result (c.read.ensures s b)
