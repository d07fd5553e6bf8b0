use Rattle.std.proofs.Common.{sym, subst, arith}
use Rattle.instance_model.proofs.EntryLemmas.{is_allowed_facts}
use Rattle.resource_bands.proofs.WalkLemmas.{IsCell, IsCell-at}
use Rattle.resource_bands.proofs.above.is_above_in_run.Goals as goal

pub overflow_sub-one : goal.overflow_sub-one
overflow_sub-one c = (is_allowed_facts c.args.inst.now c.args.one.i c.args.one.to c.requires.one.allowed).0

pub is_above_at-requires-clause-from : goal.is_above_at-requires-clause-from
is_above_at-requires-clause-from c =
    let cell = subst (IsCell c.args.inst.now c.args.one.i) (sym c.index-cells-k.is) (IsCell-at c.args.inst.now
    c.args.one.i c.workloads-cells.result.now c.loop-k.k c.index-cells-k.result c.workloads-cells.ensures.cells
    (omega arith)) in
    cell.from

pub is_above_at-requires-clause-to : goal.is_above_at-requires-clause-to
is_above_at-requires-clause-to c =
    let cell = subst (IsCell c.args.inst.now c.args.one.i) (sym c.index-cells-k.is) (IsCell-at c.args.inst.now
    c.args.one.i c.workloads-cells.result.now c.loop-k.k c.index-cells-k.result c.workloads-cells.ensures.cells
    (omega arith)) in
    cell.to
