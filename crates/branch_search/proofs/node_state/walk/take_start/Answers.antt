use Rattle.std.proofs.Common.{◌≡◌, ◌∙◌, arith, sym, ap, subst, get_or}
use Rattle.std.proofs.lemmas.List.{get_or_default}
use Rattle.instance_model.proofs.EntryLemmas.{is_allowed_facts}
use Rattle.branch_search.specs.declared.node_state.extent.Extent.{Extent}
use Rattle.branch_search.specs.node_state.Extents.{no_extent, extent_at, taken}
use Rattle.branch_search.proofs.NodeStateWalkLemmas.{AreAtStart, at_start_order, IsCell, IsCell-at, AreTakenTo-none}
use Rattle.branch_search.proofs.NodeStateWalkLemmas.{AreTakenTo-more}
use Rattle.branch_search.proofs.NodeStateWalkLemmas.{taken_all}
use Rattle.branch_search.proofs.node_state.walk.take_start.Goals as goal

pub overflow_sub-s : goal.overflow_sub-s
overflow_sub-s c = (is_allowed_facts c.args.inst.now c.args.i c.args.s c.requires.allowed).0

pub loop-k-init : goal.loop-k-init
loop-k-init c = AreTakenTo-none c.args.inst.now c.workloads-cells.result.now c.args.count c.cells_to-from.result
    c.args.extents.now

pub place_at-place-requires-clause-resource : goal.place_at-place-requires-clause-resource
place_at-place-requires-clause-resource c =
    let w = subst (IsCell c.args.inst.now c.args.i) (sym c.index-cells-k.is) (IsCell-at c.args.inst.now c.args.i
    c.workloads-cells.result.now c.loop-k.k c.index-cells-k.result c.workloads-cells.ensures.cells (omega arith)) in
    w.resource

pub place_at-place-requires-clause-from : goal.place_at-place-requires-clause-from
place_at-place-requires-clause-from c =
    let w = subst (IsCell c.args.inst.now c.args.i) (sym c.index-cells-k.is) (IsCell-at c.args.inst.now c.args.i
    c.workloads-cells.result.now c.loop-k.k c.index-cells-k.result c.workloads-cells.ensures.cells (omega arith)) in
    w.from

pub place_at-place-requires-clause-to : goal.place_at-place-requires-clause-to
place_at-place-requires-clause-to c =
    let w = subst (IsCell c.args.inst.now c.args.i) (sym c.index-cells-k.is) (IsCell-at c.args.inst.now c.args.i
    c.workloads-cells.result.now c.loop-k.k c.index-cells-k.result c.workloads-cells.ensures.cells (omega arith)) in
    w.to

pub loop-k-preserved : goal.loop-k-preserved
loop-k-preserved c =
    let inst = c.args.inst.now in
    let cells = c.workloads-cells.result.now in
    let extents = c.loop-k.extents in
    let place = c.place_at-place.result in
    let some = is_allowed_facts inst c.args.i c.args.s c.requires.allowed in
    let h : AreAtStart cells c.args.s c.cells_to-from.result c.cells_to-past.result = record {
      some = some.0;
      from_within = c.cells_to-from.ensures.within;
      within = c.cells_to-past.ensures.within;
      before = c.cells_to-from.ensures.before;
      from_on = c.cells_to-from.ensures.behind;
      to = c.cells_to-past.ensures.before;
      behind = c.cells_to-past.ensures.behind;
    } in
    let read : get_or extents place c.index-extents-place.result ≡ extent_at extents place =
    get_or_default extents place c.index-extents-place.result no_extent (omega arith) in
    rw c.place_at-place.ensures.value (AreTakenTo-more inst c.args.i c.args.s c.args.count c.cells_to-from.result
    c.loop-k.k c.cells_to-past.result cells c.index-cells-k.result c.args.extents.now extents c.take.new.self
    c.workloads-cells.ensures.cells h c.loop-k.invariant (omega arith) (omega arith) c.requires.each c.index-cells-k.is
    (c.take.ensures ∙ ap (λ (e : Extent). taken e c.args.count c.index-cells-k.result.load)
    (read ∙ ap (extent_at extents) c.place_at-place.ensures.value)))

pub returns-clause-taken : goal.returns-clause-taken
returns-clause-taken c = λ t u l one few.
    let inst = c.args.inst.now in
    let cells = c.workloads-cells.result.now in
    let some = is_allowed_facts inst c.args.i c.args.s c.requires.allowed in
    let h : AreAtStart cells c.args.s c.cells_to-from.result c.cells_to-past.result = record {
      some = some.0;
      from_within = c.cells_to-from.ensures.within;
      within = c.cells_to-past.ensures.within;
      before = c.cells_to-from.ensures.before;
      from_on = c.cells_to-from.ensures.behind;
      to = c.cells_to-past.ensures.before;
      behind = c.cells_to-past.ensures.behind;
    } in
    let order = at_start_order cells c.args.s c.cells_to-from.result c.cells_to-past.result h in
    let all : c.loop-k.k ≡ c.cells_to-past.result = omega (arith, order) in
    taken_all inst c.args.i c.args.s c.args.count c.cells_to-from.result c.cells_to-past.result cells
    c.args.extents.now c.loop-k.extents t u (sym c.workloads-cells.ensures.value) c.workloads-cells.ensures.cells h
    (rw all at c.loop-k.invariant) one few
