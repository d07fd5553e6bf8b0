use Rattle.std.proofs.lemmas.Result.{err_from_is_err_and}
use Rattle.certificate_text.specs.read.Reading.{key_view}
use Rattle.certificate_text.proofs.ReadEntryLemmas.{entries_none, entries_more, entry_fails}
use Rattle.certificate_text.proofs.read.lists.read_entries.Goals as goal

pub loop-alloc-init : goal.loop-alloc-init
loop-alloc-init c = entries_none c.args.inst.now c.args.version c.args.lines.now c.in_ok-prices.prices
    c.in_ok-prices.ensures.value c.in_ok-prices.ensures.in_range

pub returns-in_err-last-clause-err : goal.returns-in_err-last-clause-err
returns-in_err-last-clause-err c = λ count left.
    let p = err_from_is_err_and c.from_residual-in_err-last.result c.from_residual-in_err-last.ensures.1 in
    rw (p.1, p.2) (entry_fails c.args.inst.now c.args.version c.args.lines.now c.loop-alloc.lines c.loop-alloc.prices
    (key_view c.loop-alloc.last) c.in_err-last.field-0.0 c.loop-alloc.invariant
    c.in_err-last.ensures.err count left)

pub loop-alloc-preserved : goal.loop-alloc-preserved
loop-alloc-preserved c = entries_more c.args.inst.now c.args.version c.args.lines.now c.loop-alloc.lines
    c.read_entry.new.lines c.loop-alloc.prices c.read_entry.new.prices (key_view c.loop-alloc.last)
    (key_view c.in_ok-last.last) c.loop-alloc.invariant c.in_ok-last.ensures.ok
