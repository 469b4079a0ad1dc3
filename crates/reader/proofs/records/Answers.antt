-- `reader::records` meets its contract: good records have led to a state whose graph is laid out in memory. Assumes nothing.
use mathlib.Core.Path.{◌≡◌}
use native.Mathlib.Omega.{arith}
use borrow.Author.Rules.{rules}
use Rattle.std.specs.Prelude.{Ok, Err}
use Rattle.std.proofs.lemmas.Result.{err_from_is_err_and}
use Rattle.graph.specs.Memory.{laid, pad}
use Rattle.format.specs.Reader.{stop_reply}
use Rattle.format.proofs.Steps.{leads_end, bytes_of}
use Rattle.record.specs.declared.Test.{Test}
use Rattle.reader.specs.Records.{test_of}
use Rattle.reader.proofs.Loop as loop
use Rattle.reader.proofs.records.Goals as goal

pub loop-at-init : goal.loop-at-init
unfolding laid pad
loop-at-init c = loop.stands_start c.args.file.now

pub returns-in_err-record : goal.returns-in_err-record
returns-in_err-record c =
    let i = c.loop-at in
    let fired : (t : Test) × (c.front_at.result ≡ Err t) × (c.in_err-record.field-0.0 ≡ stop_reply (test_of t) i.at) = search rules in
    let p = err_from_is_err_and c.from_residual.result c.from_residual.ensures.1 in
    rw (p.1, p.2, fired.2) (loop.refuses c.args.file.now i.graph i.floor i.at i.invariant c.loop-at-test.true _ c.front_at.ensures fired.0 fired.1)

pub store-requires : goal.store-requires
store-requires c =
    let i = c.loop-at in
    let passed : c.front_at.result ≡ Ok c.in_ok-record.record = search rules in
    loop.has_names c.args.file.now i.graph i.floor i.at i.invariant c.loop-at-test.true _ c.front_at.ensures _ passed

pub returns-in_err-map_err : goal.returns-in_err-map_err
returns-in_err-map_err c =
    let i = c.loop-at in
    let passed : c.front_at.result ≡ Ok c.in_ok-record.record = search rules in
    let fired : (t : Test) × (c.store.result ≡ Err t) × (c.in_err-map_err.field-0.0 ≡ stop_reply (test_of t) i.at) = search rules in
    let p = err_from_is_err_and c.from_residual-in_err-map_err.result c.from_residual-in_err-map_err.ensures.1 in
    rw (p.1, p.2, fired.2)
    (loop.refuses_full c.args.file.now i.graph i.floor i.at i.invariant c.loop-at-test.true _ c.front_at.ensures _ passed c.store.new.graph _ c.store.ensures fired.0 fired.1)

pub loop-at-preserved : goal.loop-at-preserved
loop-at-preserved c =
    let i = c.loop-at in
    let passed : c.front_at.result ≡ Ok c.in_ok-record.record = search rules in
    let done : c.store.result ≡ Ok tt = search rules in
    rw (c.rank-floor.ensures, c.length.ensures)
    (loop.stands_next c.args.file.now i.graph i.floor i.at i.invariant c.loop-at-test.true _ c.front_at.ensures _ passed c.store.new.graph _ c.store.ensures
    (bytes_of c.args.file.now (λ j l. omega (arith, c.type_inv.file j))) done)

pub returns : goal.returns
returns c =
    let i = c.loop-at in
    let S = i.invariant in
    record {
      state = S.state;
      at = i.at;
      so = λ a e. leads_end c.args.file.now S.state i.at S.leads (omega arith) a e;
      laid_out = S.laid_out;
    }
