-- `reader::parse` meets its contract: by the tests of the whole graph. Assumes nothing.
use mathlib.Core.Path.{◌≡◌}
use borrow.Author.Rules.{rules}
use lib.ListN.{length}
use Rattle.reader.proofs.Ends.{few_channels, links, refuses_none, refuses_hollow, takes}
use Rattle.reader.proofs.parse.Goals as goal

pub returns-then-graph-eq0 : goal.returns-then-graph-eq0
returns-then-graph-eq0 c = refuses_none c.args.file.now _ c.in_ok-graph.ensures c.if-graph-eq0.true

pub shared_ref_as_front-hollow : goal.shared_ref_as_front-hollow
shared_ref_as_front-hollow c =
    let full : length c.in_ok-graph.graph.channels ≡ 64 = search rules in
    few_channels c.args.file.now c.in_ok-graph.graph c.in_ok-graph.ensures full

pub returns-in-Some : goal.returns-in-Some
returns-in-Some c =
    let E = c.in_ok-graph.ensures in
    refuses_hollow c.args.file.now _ E c.if-graph-eq0.false c.in-Some.place (c.in-Some.ensures E.state.graph (links c.args.file.now _ E))

pub returns-in-None : goal.returns-in-None
returns-in-None c =
    let E = c.in_ok-graph.ensures in
    takes c.args.file.now _ E c.if-graph-eq0.false (c.in-None.ensures E.state.graph (links c.args.file.now _ E))
