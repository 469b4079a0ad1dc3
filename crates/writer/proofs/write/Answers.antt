-- `writer::write` meets its contract: by the test of the graph and the length of the output. Assumes nothing.
use native.Mathlib.Omega.{arith}
use borrow.Author.Rules.{rules}
use mathlib.Core.Path.{◌≡◌, ap, ◌∙◌}
use lib.ListN.{length}
use Rattle.graph.specs.Memory.{view}
use Rattle.format.specs.Writer.{bytes}
use Rattle.output.specs.Output.{put}
use Rattle.writer.proofs.Writing.{writes_none, writes_short, writes_file}
use Rattle.writer.proofs.write.Goals as goal

pub returns-in_default : goal.returns-in_default
returns-in_default c = writes_none _ _ c.in_default.ensures

pub returns-then-out-needed : goal.returns-then-out-needed
returns-then-out-needed c =
    writes_short _ _ _ c.in-Some.ensures.0
    (c.length_of-needed.ensures ∙ ap (λ m. length (bytes m)) c.in-Some.ensures.1)
    (omega arith)

pub returns : goal.returns
returns c =
    let n = ap (λ m. length (bytes m)) c.in-Some.ensures.1 in
    let e : c.put_graph.new.to.out.now ≡ put c.args.out.now 0 (bytes (view c.args.graph.now)) =
    c.put_graph.ensures.bytes ∙ (λ i. put (c.new.ensures.same_bytes i) (c.new.ensures.front i) (bytes (c.in-Some.ensures.1 i))) in
    writes_file _ _ _ c.in-Some.ensures.0 (omega arith) (search rules)
