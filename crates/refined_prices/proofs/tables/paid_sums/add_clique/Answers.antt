use Rattle.std.proofs.Common.{◌∙◌, ◌+◌, ◌-◌, ◌*◌, ◌<◌, ℕ, List, ap, arith, get_or, length, refl}
use Rattle.std.proofs.lemmas.List.{get_or_read, length-set}
use Rattle.lagrange_bound.specs.ExSums.{sum_place}
use Rattle.refined_prices.proofs.TablesPaidLemmas.{so_far_none, so_far_more, room_at, place_within}
use Rattle.refined_prices.proofs.tables.paid_sums.add_clique.Goals as goal

pub loop-i-init : goal.loop-i-init
loop-i-init c = record {
  each = refl;
  added = λ i t h from to. so_far_none c.args.x.now i t
      (get_or c.args.sums.now.items (sum_place c.args.inst.now i t) 0);
}

pub overflow_add-index_mut : goal.overflow_add-index_mut
overflow_add-index_mut c =
    let low : c.loop-i.i-index < length c.args.x.now.members = omega (arith, ap length c.as_slice-i-items.ensures) in
    let within = place_within c.args.inst.now c.args.x.now c.loop-i.i-index c.periods-periods.result
    (get_or c.as_slice-i-items.result.now c.loop-i.i-index 0)
    (get_or c.as_slice-i-items.result.now c.loop-i.i-index 0 * c.periods-periods.result + (c.args.x.now.period - 1))
    (length c.loop-i.sums.items) c.requires.clique low
    (ap (λ (xs : List ℕ). get_or xs c.loop-i.i-index 0) c.as_slice-i-items.ensures) c.periods-periods.ensures.value refl
    (c.loop-i.invariant.each ∙ c.requires.each) in
    let is = get_or_read c.loop-i.sums.items
    (get_or c.as_slice-i-items.result.now c.loop-i.i-index 0 * c.periods-periods.result + (c.args.x.now.period - 1))
    c.index_mut.result.now within c.index_mut.ensures.value 0 in
    let room = room_at c.args.inst.now c.args.x.now c.loop-i.i-index c.periods-periods.result
    (get_or c.as_slice-i-items.result.now c.loop-i.i-index 0)
    (get_or c.as_slice-i-items.result.now c.loop-i.i-index 0 * c.periods-periods.result + (c.args.x.now.period - 1))
    c.args.sums.now.items c.loop-i.sums.items c.requires.clique low
    (ap (λ (xs : List ℕ). get_or xs c.loop-i.i-index 0) c.as_slice-i-items.ensures) c.periods-periods.ensures.value refl
    c.requires.small c.loop-i.invariant.added in
    omega (arith, room, is, c.requires.clique.small)

pub loop-i-preserved : goal.loop-i-preserved
loop-i-preserved c =
    let low : c.loop-i.i-index < length c.args.x.now.members = omega (arith, ap length c.as_slice-i-items.ensures) in
    let within = place_within c.args.inst.now c.args.x.now c.loop-i.i-index c.periods-periods.result
    (get_or c.as_slice-i-items.result.now c.loop-i.i-index 0)
    (get_or c.as_slice-i-items.result.now c.loop-i.i-index 0 * c.periods-periods.result + (c.args.x.now.period - 1))
    (length c.loop-i.sums.items) c.requires.clique low
    (ap (λ (xs : List ℕ). get_or xs c.loop-i.i-index 0) c.as_slice-i-items.ensures) c.periods-periods.ensures.value refl
    (c.loop-i.invariant.each ∙ c.requires.each) in
    let is = get_or_read c.loop-i.sums.items
    (get_or c.as_slice-i-items.result.now c.loop-i.i-index 0 * c.periods-periods.result + (c.args.x.now.period - 1))
    c.index_mut.result.now within c.index_mut.ensures.value 0 in
    record {
      each = length-set c.loop-i.sums.items (get_or c.as_slice-i-items.result.now c.loop-i.i-index 0
          * c.periods-periods.result + (c.args.x.now.period - 1)) (c.index_mut.result.now + c.args.x.now.value)
          ∙ c.loop-i.invariant.each;
      added = so_far_more c.args.inst.now c.args.x.now c.loop-i.i-index c.periods-periods.result
          (get_or c.as_slice-i-items.result.now c.loop-i.i-index 0)
          (get_or c.as_slice-i-items.result.now c.loop-i.i-index 0 * c.periods-periods.result
          + (c.args.x.now.period - 1)) (c.index_mut.result.now + c.args.x.now.value)
          c.args.sums.now.items c.loop-i.sums.items c.requires.clique low
          (ap (λ (xs : List ℕ). get_or xs c.loop-i.i-index 0) c.as_slice-i-items.ensures)
          c.periods-periods.ensures.value refl (c.loop-i.invariant.each ∙ c.requires.each)
          (ap (λ (n : ℕ). n + c.args.x.now.value) is) c.loop-i.invariant.added;
    }
