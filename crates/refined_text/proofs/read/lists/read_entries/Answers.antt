use Rattle.std.proofs.Common.{subst, sym}
use Rattle.std.proofs.lemmas.Result.{err_from_is_err_and}
use Rattle.refined_text.specs.read.Parts.{Part}
use Rattle.refined_text.specs.read.Reading.{ReadsPart}
use Rattle.refined_text.proofs.ReadPartLemmas.{part_none, part_and, part_cut, part_more, part_refused}
use Rattle.refined_text.proofs.read.lists.read_entries.Goals as goal

pub loop-alloc-init : goal.loop-alloc-init
loop-alloc-init c =
    let inst = c.args.inst.now in
    let lines = c.args.lines.now in
    part_and inst lines lines c.next_line.new.self c.args.part.now c.in_ok-line.line
    (subst (λ (p : Part). ReadsPart inst lines p lines) (sym c.requires.none) (part_none inst lines))
    c.in_ok-line.ensures.ok

pub returns-in-Some-clause-err : goal.returns-in-Some-clause-err
returns-in-Some-clause-err c = λ count left.
    let refused = rw c.in-Some.is at (c.in_ok-refusal.ensures.refused count left) in
    part_refused c.args.inst.now c.args.lines.now c.loop-alloc.lines c.loop-alloc.part c.loop-alloc.line
    c.loop-alloc.invariant c.in-Some.refusal c.fault.result c.fault.ensures count left refused

pub returns-in_err-line-2-clause-err : goal.returns-in_err-line-2-clause-err
returns-in_err-line-2-clause-err c = λ count left.
    let p = err_from_is_err_and c.from_residual-in_err-line-2.result c.from_residual-in_err-line-2.ensures.1 in
    let inst = c.args.inst.now in
    let taken = rw c.in_default.is at c.in_ok-refusal.ensures.taken in
    rw (p.1, p.2) (part_cut inst c.args.lines.now c.loop-alloc.lines c.take.new.self c.in_err-line-2.field-0.0
    (part_more inst c.args.lines.now c.loop-alloc.lines c.loop-alloc.part c.loop-alloc.line c.loop-alloc.invariant
    c.take.new.self taken) c.in_err-line-2.ensures.err count left)

pub loop-alloc-preserved : goal.loop-alloc-preserved
loop-alloc-preserved c =
    let inst = c.args.inst.now in
    let taken = rw c.in_default.is at c.in_ok-refusal.ensures.taken in
    part_and inst c.args.lines.now c.loop-alloc.lines c.next_line-in-loop-alloc.new.self c.take.new.self
    c.in_ok-line-2.line (part_more inst c.args.lines.now c.loop-alloc.lines c.loop-alloc.part c.loop-alloc.line
    c.loop-alloc.invariant c.take.new.self taken) c.in_ok-line-2.ensures.ok
