-- `ringcheck::read_full` meets its contract. Assumes nothing.
use Rattle.std.proofs.Common.{◌≡◌, ◌-◌, arith, length, length-take-le, ◌∙◌}
use borrow.Rule.Slice.PartMut.{same_len_mid}
use Rattle.ringcheck.proofs.Filling.{full, more, at_end, part_room}
use Rattle.ringcheck.proofs.read_full.Goals as goal

pub returns-then-k-eq0-clause-bytes : goal.returns-then-k-eq0-clause-bytes
returns-then-k-eq0-clause-bytes g c =
    let l = c.loop-n in
    let room : length c.read.new.buf ≡ length l.file - l.n = part_room l.n _ l.file c.read.new.buf c.read.auto.buf (omega arith) in
    at_end l.n _ c.in_ok-k.k l.file c.read.new.buf (omega arith) c.in_ok-k.ensures.bound.0 c.if-k-eq0.true (omega arith) _ _ _ l.invariant.given c.in_ok-k.ensures.bytes

pub loop-n-preserved : goal.loop-n-preserved
loop-n-preserved g c =
    let l = c.loop-n in
    let room : length c.read.new.buf ≡ length l.file - l.n = part_room l.n _ l.file c.read.new.buf c.read.auto.buf (omega arith) in
    let b = c.in_ok-k.ensures.bound.0 in
    record {
      small = omega (arith, same_len_mid l.n (length l.file - l.n) l.file c.read.new.buf c.read.auto.buf, b);
      given = more l.n _ c.in_ok-k.k l.file c.read.new.buf (omega arith) b _ _ _ l.invariant.given c.in_ok-k.ensures.bytes.0;
    }

pub returns-clause-bytes : goal.returns-clause-bytes
returns-clause-bytes g c = full _ _ _ _ (length-take-le c.loop-n.n c.loop-n.file (omega arith) ∙ omega arith) c.loop-n.invariant.given
