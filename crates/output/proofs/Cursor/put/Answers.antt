-- `output::Cursor::put` meets its contract: one copy into a part. Assumes nothing.
use native.Mathlib.Omega.{arith}
use mathlib.Core.Path.{refl, ap, ◌∙◌}
use lib.ListN.{length}
use Rattle.output.proofs.Output.{put_part, put_length}
use Rattle.output.proofs.Cursor.put.Goals as goal

pub returns : goal.returns
returns c =
    let s = c.args.self.now in
    let b = put_part s.out.now s.at c.args.bytes.now c.copy_from_slice.ensures.after in
    let n = ap length b ∙ put_length s.out.now s.at c.args.bytes.now c.requires in
    record { same_output = refl; same_length = n; bytes = b; next = refl; room = omega arith }
