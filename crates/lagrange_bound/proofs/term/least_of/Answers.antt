use Rattle.std.proofs.Common.{◌≡◌, ◌∙◌, ◌≤◌, ap, arith, ℤ, unsigned_abs, take, to_z}
use Rattle.std.specs.Int.{int_min, w128}
use Rattle.fixed_num.proofs.SignedLemmas.{back_from_abs}
use Rattle.instance_model.specs.Tables.{risk_of}
use Rattle.lagrange_bound.specs.Least.{least_over}
use Rattle.lagrange_bound.proofs.BaseLemmas.{least_over-none, least_over_first, least_over_more, min_small}
use Rattle.lagrange_bound.proofs.term.least_of.Goals as goal

pub returns-then-places-eq0-clause-value : goal.returns-then-places-eq0-clause-value
returns-then-places-eq0-clause-value g c =
    least_over-none (risk_of c.args.inst.now c.args.i c.args.s c.args.t) c.args.places.now (omega arith)

pub loop-j-init : goal.loop-j-init
loop-j-init g c =
    let small : unsigned_abs c.count-least.result ≤ 100_000_000_000_000_000_000 =
    omega (arith, c.count-least.ensures.small) in
    let b = back_from_abs c.count-least.result (omega (arith, small)) in
    record {
      value = b ∙ c.count-least.ensures.value ∙ c.risk_cell.ensures.value
          ∙ least_over_first (risk_of c.args.inst.now c.args.i c.args.s c.args.t) c.args.places.now (omega arith);
      small = rw b small;
    }

pub loop-j-preserved : goal.loop-j-preserved
loop-j-preserved g c =
    let f = risk_of c.args.inst.now c.args.i c.args.s c.args.t in
    let ks = c.args.places.now in
    let j = c.loop-j.j in
    let x = to_z w128 c.loop-j.least-bits in
    let y_small : unsigned_abs c.count.result ≤ 100_000_000_000_000_000_000 = omega (arith, c.count.ensures.small) in
    let by = back_from_abs c.count.result (omega (arith, y_small)) in
    let m : c.min-least.result ≡ int_min (to_z w128 c.loop-j.least-bits) c.count.result =
    c.min-least.ensures.value ∙ ap (int_min x) by in
    let small : unsigned_abs c.min-least.result ≤ 100_000_000_000_000_000_000 =
    rw m (min_small x c.count.result 100_000_000_000_000_000_000 c.loop-j.invariant.small y_small) in
    let b = back_from_abs c.min-least.result (omega (arith, small)) in
    record {
      value = b ∙ m ∙ ap (λ (z : ℤ). int_min z c.count.result) c.loop-j.invariant.value
          ∙ ap (int_min (least_over f (take j ks))) (c.count.ensures.value ∙ c.risk_cell-in-loop-j.ensures.value)
          ∙ least_over_more f ks j (omega arith) (omega arith);
      small = rw b small;
    }
