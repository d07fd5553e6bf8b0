use Rattle.std.proofs.Common.{◌≡◌, ◌+◌, ◌-◌, ◌*◌, ◌^◌, ◌<◌, ◌≤◌, ℤ, pos, ◌+ℤ◌, unsigned_abs, List, [], length, get_or}
use Rattle.std.proofs.Common.{set, sym, ap, subst, arith}
use Rattle.std.proofs.lemmas.List.{get_or_default}
use Rattle.fixed_num.proofs.SumLemmas.{abs-sum}
use Rattle.instance_model.proofs.EntryLemmas.{is_allowed_facts}
use Rattle.resource_bands.specs.Gaps.{row_gap, rows_gap}
use Rattle.resource_bands.proofs.ChangeLemmas.{rows_gap-more, small_more}
use Rattle.resource_bands.proofs.WalkLemmas.{AreAtStart, at_start_order, IsCell, IsCell-at, AreChangedTo}
use Rattle.resource_bands.proofs.WalkLemmas.{AreChangedTo-more, AreRowsChanged-all, untouched, few_cells, load_in}
use Rattle.resource_bands.proofs.rows.change_rows.Goals as goal

pub overflow_sub-s : goal.overflow_sub-s
overflow_sub-s c = (is_allowed_facts c.args.inst.now c.args.i c.args.s c.requires.allowed).0

pub shift-requires-clause-old : goal.shift-requires-clause-old
shift-requires-clause-old c =
    let inst = c.args.inst.now in
    let cells = c.workloads-cells.result.now in
    let cell = c.index-cells-k.result in
    let some = is_allowed_facts inst c.args.i c.args.s c.requires.allowed in
    let h : AreAtStart cells c.args.s c.cells_to-from.result c.cells_to-past.result = record {
      some = some.0;
      from_within = c.cells_to-from.ensures.within;
      within = c.cells_to-past.ensures.within;
      before = c.cells_to-from.ensures.before;
      from_on = c.cells_to-from.ensures.behind;
      to = c.cells_to-past.ensures.before;
      behind = c.cells_to-past.ensures.behind;
    } in
    let here = subst (IsCell inst c.args.i) (sym c.index-cells-k.is) (IsCell-at inst c.args.i cells c.loop-k.k cell
    c.workloads-cells.ensures.cells (omega arith)) in
    let same = untouched inst c.args.i c.args.s c.cells_to-from.result c.loop-k.k c.cells_to-past.result c.args.change
    cells cell c.args.rows.now c.loop-k.rows c.workloads-cells.ensures.cells h c.loop-k.invariant.walked (omega arith)
    c.index-cells-k.is in
    let row = get_or_default c.loop-k.rows cell.resource c.index-rows-cell.result []
    (omega (arith, here.resource, c.requires.rows.each, c.loop-k.invariant.walked.each)) in
    let was = (c.requires.rows.each_row cell.resource here.resource).small (cell.period - 1)
    (omega (arith, here.from, here.to)) in
    let now : unsigned_abs (load_in c.loop-k.rows cell.resource cell.period) ≤ 1024 * 10 ^ 20 = rw same was in
    subst (λ (x : List ℤ). unsigned_abs (get_or x (cell.period - 1) (pos 0)) ≤ 1024 * 10 ^ 20) (sym row) now

pub shift-requires-clause-from : goal.shift-requires-clause-from
shift-requires-clause-from c =
    let w = subst (IsCell c.args.inst.now c.args.i) (sym c.index-cells-k.is) (IsCell-at c.args.inst.now c.args.i
    c.workloads-cells.result.now c.loop-k.k c.index-cells-k.result c.workloads-cells.ensures.cells (omega arith)) in
    w.from

pub shift-requires-clause-to : goal.shift-requires-clause-to
shift-requires-clause-to c =
    let w = subst (IsCell c.args.inst.now c.args.i) (sym c.index-cells-k.is) (IsCell-at c.args.inst.now c.args.i
    c.workloads-cells.result.now c.loop-k.k c.index-cells-k.result c.workloads-cells.ensures.cells (omega arith)) in
    w.to

pub plus-further-requires : goal.plus-further-requires
plus-further-requires c =
    let few = few_cells c.args.inst.now c.args.i c.fits.ensures c.requires.number in
    omega (
      arith,
      abs-sum c.loop-k.further c.shift.result,
      c.loop-k.invariant.small,
      c.shift.ensures.small,
      few,
      ap length c.workloads-cells.ensures.value,
    )

pub loop-k-preserved : goal.loop-k-preserved
loop-k-preserved c =
    let inst = c.args.inst.now in
    let cells = c.workloads-cells.result.now in
    let cell = c.index-cells-k.result in
    let rows = c.loop-k.rows in
    let new = c.shift.new.self in
    let some = is_allowed_facts inst c.args.i c.args.s c.requires.allowed in
    let h : AreAtStart cells c.args.s c.cells_to-from.result c.cells_to-past.result = record {
      some = some.0;
      from_within = c.cells_to-from.ensures.within;
      within = c.cells_to-past.ensures.within;
      before = c.cells_to-from.ensures.before;
      from_on = c.cells_to-from.ensures.behind;
      to = c.cells_to-past.ensures.before;
      behind = c.cells_to-past.ensures.behind;
    } in
    let here = subst (IsCell inst c.args.i) (sym c.index-cells-k.is) (IsCell-at inst c.args.i cells c.loop-k.k cell
    c.workloads-cells.ensures.cells (omega arith)) in
    let within : cell.resource < length rows =
    omega (arith, here.resource, c.requires.rows.each, c.loop-k.invariant.walked.each) in
    let row = get_or_default rows cell.resource c.index-rows-cell.result [] within in
    let load = subst (λ (x : List ℤ). new ≡ set x (cell.period - 1)
    (get_or x (cell.period - 1) (pos 0) +ℤ c.of-work.result)) row c.shift.ensures.load in
    let gap = subst (λ (x : List ℤ). row_gap inst cell.resource new ≡ row_gap inst cell.resource x +ℤ c.shift.result)
    row c.shift.ensures.gap in
    let sum = ap (λ (x : ℤ). load_in rows cell.resource cell.period +ℤ x) c.of-work.ensures.value in
    record {
      walked = subst (λ (x : List ℤ). AreChangedTo c.args.change cells c.cells_to-from.result (c.loop-k.k + 1)
          c.args.rows.now (set rows cell.resource x)) (sym load) (AreChangedTo-more inst c.args.i c.args.s
          c.cells_to-from.result c.loop-k.k c.cells_to-past.result c.args.change cells cell c.args.rows.now rows
          (load_in rows cell.resource cell.period +ℤ c.of-work.result) c.workloads-cells.ensures.cells h c.requires.rows
          c.loop-k.invariant.walked (omega arith) (omega arith) c.index-cells-k.is sum);
      gap = rows_gap-more inst cell.resource rows new (rows_gap inst c.args.rows.now) c.loop-k.further c.shift.result
          c.plus-further.result (omega (arith, c.loop-k.invariant.walked.each, c.requires.rows.each)) here.resource gap
          c.loop-k.invariant.gap c.plus-further.ensures;
      small = small_more c.loop-k.k 2_000_000_000_000_000_000_000_000 c.loop-k.further c.shift.result
          c.plus-further.result c.loop-k.invariant.small c.shift.ensures.small c.plus-further.ensures;
    }

pub returns-clause-changed : goal.returns-clause-changed
returns-clause-changed c =
    let inst = c.args.inst.now in
    let cells = c.workloads-cells.result.now in
    let some = is_allowed_facts inst c.args.i c.args.s c.requires.allowed in
    let h : AreAtStart cells c.args.s c.cells_to-from.result c.cells_to-past.result = record {
      some = some.0;
      from_within = c.cells_to-from.ensures.within;
      within = c.cells_to-past.ensures.within;
      before = c.cells_to-from.ensures.before;
      from_on = c.cells_to-from.ensures.behind;
      to = c.cells_to-past.ensures.before;
      behind = c.cells_to-past.ensures.behind;
    } in
    let order = at_start_order cells c.args.s c.cells_to-from.result c.cells_to-past.result h in
    let all : c.loop-k.k ≡ c.cells_to-past.result = omega (arith, order) in
    AreRowsChanged-all inst c.args.i c.args.s c.cells_to-from.result c.cells_to-past.result c.args.change cells
    c.args.rows.now c.loop-k.rows (sym c.workloads-cells.ensures.value) c.workloads-cells.ensures.cells h
    (rw all at c.loop-k.invariant.walked)

pub returns-clause-small : goal.returns-clause-small
returns-clause-small c =
    let inst = c.args.inst.now in
    let cells = c.workloads-cells.result.now in
    let some = is_allowed_facts inst c.args.i c.args.s c.requires.allowed in
    let h : AreAtStart cells c.args.s c.cells_to-from.result c.cells_to-past.result = record {
      some = some.0;
      from_within = c.cells_to-from.ensures.within;
      within = c.cells_to-past.ensures.within;
      before = c.cells_to-from.ensures.before;
      from_on = c.cells_to-from.ensures.behind;
      to = c.cells_to-past.ensures.before;
      behind = c.cells_to-past.ensures.behind;
    } in
    let order = at_start_order cells c.args.s c.cells_to-from.result c.cells_to-past.result h in
    let few = few_cells inst c.args.i c.fits.ensures c.requires.number in
    let size = ap length c.workloads-cells.ensures.value in
    omega (arith, c.loop-k.invariant.small, few, size, order, h.within)
