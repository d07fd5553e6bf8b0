use Rattle.std.proofs.Common.{◌∙◌, ap, List, ◌≡◌, ◌<◌, length, refl, subst, arith, rules, ℕ}
use Rattle.instance_model.proofs.FitLemmas.{tmax_small}
use Rattle.branch_search.specs.Growing.{cell_at}
use Rattle.branch_search.specs.Climbing.{IsClimbed, narrowed}
use Rattle.lagrange_bound.specs.declared.span.Span.{Span}
use Rattle.branch_search.proofs.ClimbLemmas.{climb_start, climb_more, climb_end, parent_is_split, split_facts}
use Rattle.branch_search.proofs.ClimbLemmas.{same_back, length_narrowed}
use Rattle.branch_search.proofs.tree.node_box.box_of.Goals as goal

pub loop-k-init : goal.loop-k-init
loop-k-init c = record {
  within = c.requires.number;
  climbed = climb_start c.args.inst.now c.args.cells.now c.args.number c.in_ok-spans.spans.items c.requires.number
      c.in_ok-spans.ensures;
}

pub offset_bounds-cells-parent : goal.offset_bounds-cells-parent
offset_bounds-cells-parent c =
    let b = c.requires.cells in
    let p = parent_is_split c.args.inst.now c.args.cells.now b.0 c.loop-k.k (cell_at c.args.cells.now
    c.loop-k.k).parent b.1
    c.loop-k-test.true c.loop-k.invariant.within refl in
    let q : (cell_at c.args.cells.now c.loop-k.k).parent < length c.args.cells.now = omega (
      arith,
      p.lesser,
      c.loop-k.invariant.within,
    ) in
    search rules

pub bounds-cells-parent : goal.bounds-cells-parent
bounds-cells-parent c =
    let b = c.requires.cells in
    let p = parent_is_split c.args.inst.now c.args.cells.now b.0 c.loop-k.k (cell_at c.args.cells.now
    c.loop-k.k).parent b.1
    c.loop-k-test.true c.loop-k.invariant.within refl in
    let q : (cell_at c.args.cells.now c.loop-k.k).parent < length c.args.cells.now = omega (
      arith,
      p.lesser,
      c.loop-k.invariant.within,
    ) in
    q

pub narrow-requires-clause-number : goal.narrow-requires-clause-number
narrow-requires-clause-number c =
    let b = c.requires.cells in
    let p = parent_is_split c.args.inst.now c.args.cells.now b.0 c.loop-k.k (cell_at c.args.cells.now
    c.loop-k.k).parent b.1
    c.loop-k-test.true c.loop-k.invariant.within refl in
    let q : (cell_at c.args.cells.now c.loop-k.k).parent < length c.args.cells.now = omega (
      arith,
      p.lesser,
      c.loop-k.invariant.within,
    ) in
    let f = split_facts c.args.inst.now c.args.cells.now b.0 (cell_at c.args.cells.now c.loop-k.k).parent c.in-Split.i
    c.in-Split.last b.1 q c.in-Split.is in
    let e = (c.loop-k.invariant.climbed b.0 b.1).each in
    rw c.deref_mut.ensures.value (omega (arith, f.0, e))

pub narrow-requires-clause-small : goal.narrow-requires-clause-small
narrow-requires-clause-small c =
    let b = c.requires.cells in
    let p = parent_is_split c.args.inst.now c.args.cells.now b.0 c.loop-k.k (cell_at c.args.cells.now
    c.loop-k.k).parent b.1
    c.loop-k-test.true c.loop-k.invariant.within refl in
    let q : (cell_at c.args.cells.now c.loop-k.k).parent < length c.args.cells.now = omega (
      arith,
      p.lesser,
      c.loop-k.invariant.within,
    ) in
    let f = split_facts c.args.inst.now c.args.cells.now b.0 (cell_at c.args.cells.now c.loop-k.k).parent c.in-Split.i
    c.in-Split.last b.1 q c.in-Split.is in
    let t = tmax_small c.args.inst.now c.in-Split.i c.fits.ensures f.0 in
    omega (arith, f.1, t.1, c.fits.ensures.few_periods)

pub loop-k-smaller-in-Split : goal.loop-k-smaller-in-Split
loop-k-smaller-in-Split c =
    let b = c.requires.cells in
    let p = parent_is_split c.args.inst.now c.args.cells.now b.0 c.loop-k.k (cell_at c.args.cells.now
    c.loop-k.k).parent b.1
    c.loop-k-test.true c.loop-k.invariant.within refl in
    let q : (cell_at c.args.cells.now c.loop-k.k).parent < length c.args.cells.now = omega (
      arith,
      p.lesser,
      c.loop-k.invariant.within,
    ) in
    p.lesser

pub loop-k-smaller : goal.loop-k-smaller
loop-k-smaller c =
    let b = c.requires.cells in
    let p = parent_is_split c.args.inst.now c.args.cells.now b.0 c.loop-k.k (cell_at c.args.cells.now
    c.loop-k.k).parent b.1
    c.loop-k-test.true c.loop-k.invariant.within refl in
    let q : (cell_at c.args.cells.now c.loop-k.k).parent < length c.args.cells.now = omega (
      arith,
      p.lesser,
      c.loop-k.invariant.within,
    ) in
    p.lesser

pub returns : goal.returns
returns c =
    let z : c.loop-k.k ≡ 0 = omega (arith, c.loop-k-test.false) in
    climb_end c.args.inst.now c.args.cells.now c.args.number c.loop-k.spans.items c.requires.number
    (subst (λ (k : ℕ). IsClimbed c.args.inst.now c.args.cells.now c.args.number k c.loop-k.spans.items) z
    c.loop-k.invariant.climbed)

pub loop-k-preserved-in-Split : goal.loop-k-preserved-in-Split
loop-k-preserved-in-Split c =
    let b = c.requires.cells in
    let p = parent_is_split c.args.inst.now c.args.cells.now b.0 c.loop-k.k (cell_at c.args.cells.now
    c.loop-k.k).parent b.1
    c.loop-k-test.true c.loop-k.invariant.within refl in
    let q : (cell_at c.args.cells.now c.loop-k.k).parent < length c.args.cells.now = omega (
      arith,
      p.lesser,
      c.loop-k.invariant.within,
    ) in
    let nn = c.narrow.ensures ∙ ap (λ (xs : List Span). narrowed xs (cell_at c.args.cells.now
    (cell_at c.args.cells.now c.loop-k.k).parent) c.loop-k.k c.in-Split.i c.in-Split.last) c.deref_mut.ensures.value in
    let len = ap (λ (xs : List Span). length xs) nn ∙ length_narrowed c.loop-k.spans.items (cell_at c.args.cells.now
    (cell_at c.args.cells.now c.loop-k.k).parent) c.loop-k.k c.in-Split.i c.in-Split.last in
    let back = same_back c.narrow.new.spans c.loop-k.spans.items c.loop-k.spans.len len
    (omega (arith, c.loop-k.spans.ok.0)) in
    record {
      within = q;
      climbed = climb_more c.args.inst.now c.args.cells.now c.args.number c.loop-k.k
          (cell_at c.args.cells.now c.loop-k.k).parent c.in-Split.i c.in-Split.last c.loop-k.spans.items _
          c.loop-k.invariant.within c.loop-k-test.true c.loop-k.invariant.climbed refl c.in-Split.is (back ∙ nn);
    }
