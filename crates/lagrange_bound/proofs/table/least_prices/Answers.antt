use Rattle.std.proofs.Common.{◌≡◌, ◌∙◌, ◌+◌, ◌*◌, ◌<◌, ◌^◌, ℕ, ℤ, sym, ap, subst, arith, to_z, List, Option, None}
use Rattle.std.proofs.Common.{get_or}
use Rattle.std.specs.Int.{w128}
use Rattle.fixed_num.proofs.SumLemmas.{sum_below-zero, sum_step, sum_step_small}
use Rattle.lagrange_bound.specs.Tabulated.{PriceRows, row_of}
use Rattle.lagrange_bound.specs.Lesser.{IsSmallPrice}
use Rattle.lagrange_bound.specs.Boxes.{span_of}
use Rattle.lagrange_bound.proofs.LeastLemmas.{row_read, row_count, least_is}
use Rattle.lagrange_bound.proofs.table.least_prices.Goals as goal

pub loop-i-init : goal.loop-i-init
loop-i-init c = record { value = sym (sum_below-zero _); small = omega arith }

pub least_price-sum-requires-clause-small : goal.least_price-sum-requires-clause-small
least_price-sum-requires-clause-small c =
    let read = row_read c.table.inside.rows.items c.loop-i.i c.index.result.now (omega arith) c.index.ensures in
    subst (λ (row : List (Option ℤ)). (k : ℕ) → IsSmallPrice (get_or row k None)) (read ∙ sym c.as_slice.ensures.value)
    (c.table.invariant.prices c.loop-i.i)

pub loop-i-preserved : goal.loop-i-preserved
loop-i-preserved c =
    let few : (c.loop-i.i + 1) * 8_000_000_000_000_000_000_000_000_000_000_000 < 2 ^ 127 =
    omega (arith, c.table.invariant.few) in
    let read = row_read c.table.inside.rows.items c.loop-i.i c.index.result.now (omega arith) c.index.ensures in
    let rows = row_count c.table.inside c.args.table.now c.table.view_is in
    let row : row_of c.args.table.now c.loop-i.i ≡ c.as_slice.result.now =
    sym (ap (λ (t : PriceRows). row_of t c.loop-i.i) c.table.view_is) ∙ read ∙ sym c.as_slice.ensures.value in
    record {
      value = sum_step _ _ c.loop-i.i 8_000_000_000_000_000_000_000_000_000_000_000 _ c.loop-i.invariant.value
          c.loop-i.invariant.small
          (least_is c.args.table.now c.loop-i.i c.as_slice.result.now (span_of c.args.spans.now c.loop-i.i)
          c.least_price-sum.result row (c.requires.from c.loop-i.i (omega (arith, rows)))
          c.least_price-sum.ensures.value)
          (omega (arith, c.least_price-sum.ensures.small)) few;
      small = sum_step_small (to_z w128 c.loop-i.sum-bits) c.least_price-sum.result c.loop-i.i
          8_000_000_000_000_000_000_000_000_000_000_000 c.loop-i.invariant.small
          (omega (arith, c.least_price-sum.ensures.small)) few;
    }
