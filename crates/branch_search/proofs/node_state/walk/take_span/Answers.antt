use Rattle.std.proofs.Common.{◌≡◌, ◌∙◌, ◌+◌, ◌-◌, ◌*◌, arith, refl, sym, ap, subst, filter, length, List, [], ◌∷◌, ℕ}
use Rattle.std.proofs.Common.{replicate}
use Rattle.std.specs.List.{range_with_len}
use Rattle.std.proofs.lemmas.List.{length-append}
use Rattle.instance_model.specs.Tables.{is_allowed}
use Rattle.instance_model.proofs.FitLemmas.{tmax_small}
use Rattle.branch_search.specs.node_state.Extents.{AreExtentsOf}
use Rattle.branch_search.proofs.NodeStateExtentLemmas.{starts_taken, starts_passed, starts_all}
use Rattle.branch_search.proofs.NodeStateWalkLemmas.{AreExtentsOf-none, AreExtentsOf-more}
use Rattle.branch_search.proofs.node_state.walk.take_span.Goals as goal
use Rattle.branch_search.proofs.node_state.walk.take_span.Goals.{then-allowed, else-allowed}

pub overflow_add-s-end : goal.overflow_add-s-end
overflow_add-s-end c = omega (
  arith,
  tmax_small c.args.inst.now c.args.i c.fits.ensures c.requires.number,
  c.fits.ensures.few_periods,
  c.requires.end,
)

pub loop-s-init : goal.loop-s-init
loop-s-init c =
    let none : c.args.span.from - c.args.span.from ≡ 0 = omega arith in
    let places = length c.args.inst.now.resource_names * c.args.inst.now.periods in
    let filled = c.fill.ensures.after (λ y h. h) ∙ ap (λ (n : ℕ). replicate n c.none.result) c.requires.each
    ∙ ap (replicate places) c.none.ensures in
    record {
      order = omega arith;
      within = omega arith;
      count = rw none refl;
      few = omega arith;
      extents = rw none (AreExtentsOf-none c.args.inst.now c.args.i c.fill.new.self filled);
    }

pub loop-s-preserved : goal.loop-s-preserved
loop-s-preserved c =
    let inst = c.args.inst.now in
    let i = c.args.i in
    let s = c.loop-s.s in
    let span = c.args.span in
    let before = c.loop-s.invariant in
    let ks = filter (is_allowed inst i) (range_with_len span.from (s - span.from)) in
    elim c.if-allowed.branch [
      | then-allowed w ↦
          let more = starts_taken (is_allowed inst i) span.from s before.order
          (sym c.allowed.ensures ∙ w.if-allowed.true) in
          rw (w.count-is, w.extents-is) (record {
            order = omega (arith, before.order);
            within = omega arith;
            count = ap (λ (n : ℕ). n + 1) before.count ∙ sym (length-append ks (s ∷ [])) ∙ ap length (sym more);
            few = omega (arith, before.few);
            extents = subst (λ (xs : List ℕ). AreExtentsOf inst i xs w.take_start.new.extents) (sym more)
                (AreExtentsOf-more inst i s c.loop-s.count ks c.loop-s.extents w.take_start.new.extents before.extents
                before.count w.take_start.ensures.each w.take_start.ensures.taken);
          })
      | else-allowed w ↦
          let same = starts_passed (is_allowed inst i) span.from s before.order
          (sym c.allowed.ensures ∙ w.if-allowed.false) in
          rw (w.count-is, w.extents-is) (record {
            order = omega (arith, before.order);
            within = omega arith;
            count = before.count ∙ ap length (sym same);
            few = omega (arith, before.few);
            extents = subst (λ (xs : List ℕ). AreExtentsOf inst i xs c.loop-s.extents) (sym same) before.extents;
          })
    ]

pub returns : goal.returns
returns c =
    let e : c.loop-s.s - c.args.span.from ≡ c.args.span.to + 1 - c.args.span.from = omega arith in
    let all = starts_all c.args.inst.now c.args.i c.args.span (c.loop-s.s - c.args.span.from) e in
    record {
      count = c.loop-s.invariant.count ∙ ap length all;
      extents = subst (λ (xs : List ℕ). AreExtentsOf c.args.inst.now c.args.i xs c.loop-s.extents) all
          c.loop-s.invariant.extents;
    }
