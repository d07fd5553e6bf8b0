use Rattle.std.proofs.Common.{◌≡◌}
use Rattle.certificate_text.proofs.ReadEntryLemmas.{not_told, below_told}
use Rattle.refined_text.specs.grammar.Further.{HasEnough}
use Rattle.refined_text.specs.read.Reading.{mark_line}
use Rattle.refined_text.proofs.ReadPartLemmas.{rest_read, rest_misplaced, rest_unfit}
use Rattle.refined_text.proofs.read.lists.read_list.Goals as goal

pub returns-then-not-is_mark_for-clause-err : goal.returns-then-not-is_mark_for-clause-err
returns-then-not-is_mark_for-clause-err c = λ count.
    rest_misplaced c.args.inst.now count c.args.left c.args.lines.now c.read_entries.new.lines c.read_entries.new.part
    c.in_ok-line.line c.in_ok-line.ensures.ok c.fault.result c.fault.ensures c.in_ok-line.ensures.mark
    (not_told c.is_mark_for.result (c.in_ok-line.line ≡ mark_line c.args.left) c.is_mark_for.ensures
    c.if-not-is_mark_for.true)

pub returns-then-not-has_enough-clause-err : goal.returns-then-not-has_enough-clause-err
returns-then-not-has_enough-clause-err c = λ count.
    let further = c.read_entries.new.part.further in
    rest_unfit c.args.inst.now count c.args.left c.args.lines.now c.read_entries.new.lines c.read_entries.new.part
    c.in_ok-line.line c.in_ok-line.ensures.ok c.fault-then-not-has_enough.result c.fault-then-not-has_enough.ensures
    (below_told c.is_mark_for.result (c.in_ok-line.line ≡ mark_line c.args.left) c.is_mark_for.ensures
    c.if-not-is_mark_for.false)
    (not_told c.has_enough.result (HasEnough c.args.inst.now further.tails further.period) c.has_enough.ensures
    c.if-not-has_enough.true)

pub returns-clause-ok : goal.returns-clause-ok
returns-clause-ok c = λ count.
    let further = c.read_entries.new.part.further in
    rw c.into_list.ensures (rest_read c.args.inst.now count c.args.left c.args.lines.now c.read_entries.new.lines
    c.read_entries.new.part c.in_ok-line.line c.in_ok-line.ensures.ok
    (below_told c.is_mark_for.result (c.in_ok-line.line ≡ mark_line c.args.left) c.is_mark_for.ensures
    c.if-not-is_mark_for.false)
    (below_told c.has_enough.result (HasEnough c.args.inst.now further.tails further.period) c.has_enough.ensures
    c.if-not-has_enough.false))
