use Rattle.std.proofs.Common.{◌≡◌, ◌≤◌, ◌∙◌, ◌*◌, ◌+◌, ℕ, take, sym, ap, arith, length, subst, get_or, refl, List}
use Rattle.fixed_num.proofs.SumLemmas.{written_back}
use Rattle.lagrange_bound.specs.ExSums.{AreExSums, sum_place, value_at}
use Rattle.lagrange_bound.proofs.ExCountLemmas.{ex_few}
use Rattle.lagrange_bound.proofs.ExSumsLemmas.{AreExSums-none, AreExSums-more, AreExSums-all, zeros_at, small_more}
use Rattle.lagrange_bound.proofs.ex_sums.exclusion_sums.Goals as goal

pub loop-x-init : goal.loop-x-init
loop-x-init c =
    let items = c.in_ok-sums.ensures.items_if_clones_equal (λ y e. e) in
    let bands : c.interventions.result * c.periods.result ≡ length c.args.inst.now.names * c.args.inst.now.periods =
    rw (c.interventions.ensures.value, c.periods.ensures.value) refl in
    record {
      sums = AreExSums-none c.args.inst.now c.in_ok-sums.sums.items
          (c.interventions.result * c.periods.result) items bands;
      small = λ k. omega
          (arith, ap (λ (ys : List ℕ). get_or ys k 0) items, zeros_at (c.interventions.result * c.periods.result) k);
    }

pub add_price-requires-clause-small : goal.add_price-requires-clause-small
add_price-requires-clause-small c = λ k.
    let few = ex_few c.args.inst.now c.args.prices.now c.fits.ensures c.requires in
    let each = ap length c.ex_prices-x-items.ensures in
    let same = ap (λ (ys : List ℕ). get_or ys k 0) c.as_mut_slice.ensures.value in
    let small = c.loop-x.invariant.small k in
    omega (arith, few, each, same, small)

pub loop-x-preserved : goal.loop-x-preserved
loop-x-preserved c =
    let all = c.add_price.auto.sums in
    let same : length c.add_price.new.sums ≡ c.loop-x.sums.len = omega (arith, c.as_mut_slice.ensures.len) in
    let back = written_back c.loop-x.sums.items c.add_price.new.sums c.loop-x.sums.len same in
    let each : length c.add_price.new.sums ≡ length c.loop-x.sums.items =
    omega (arith, ap length c.as_mut_slice.ensures.value, all) in
    record {
      sums = subst (AreExSums c.args.inst.now (take (c.loop-x.x-index + 1) c.ex_prices-x-items.result.now)) (sym back)
          (AreExSums-more c.args.inst.now c.ex_prices-x-items.result.now c.loop-x.x-index
          (record { exclusion = 0; period = 0; value = 0 }) c.loop-x.sums.items c.add_price.new.sums (omega arith)
          c.loop-x.invariant.sums each
          (λ i t h from to. c.add_price.ensures.added i t h from to
          ∙ ap (λ (ys : List ℕ). get_or ys (sum_place c.args.inst.now i t) 0 + value_at c.args.inst.now
          (get_or c.ex_prices-x-items.result.now c.loop-x.x-index (record { exclusion = 0; period = 0; value = 0 })) i
          t)
          c.as_mut_slice.ensures.value));
      small = λ k. subst (λ (ys : List ℕ). get_or ys k 0 ≤ (c.loop-x.x-index + 1) * 2_000_000_000) (sym back)
          (small_more c.loop-x.x-index (get_or c.as_mut_slice.result.now k 0) (get_or c.add_price.new.sums k 0)
          (c.add_price.ensures.grown k)
          (omega (
            arith,
            ap (λ (ys : List ℕ). get_or ys k 0) c.as_mut_slice.ensures.value,
            c.loop-x.invariant.small k,
          )));
    }

pub returns : goal.returns
returns c = AreExSums-all c.args.inst.now c.ex_prices-x-items.result.now c.args.prices.now.ex c.loop-x.x-index
    c.loop-x.sums.items c.loop-x.invariant.sums (omega arith) c.ex_prices-x-items.ensures
