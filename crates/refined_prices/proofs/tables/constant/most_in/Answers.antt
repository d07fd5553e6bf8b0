use Rattle.std.proofs.Common.{◌≡◌, ◌∙◌, ◌+◌, ◌-◌, ◌*◌, ◌<◌, ◌≤◌, List, Option, ap, arith, get_or, length, max}
use Rattle.std.proofs.Common.{refl}
use Rattle.std.proofs.Math.Nat.{max-le}
use Rattle.instance_model.specs.Naturals.{count_sum}
use Rattle.refined_prices.proofs.TablesReadLemmas.{greater_is}
use Rattle.refined_prices.specs.declared.group_tail.GroupTail.{GroupTail}
use Rattle.refined_prices.specs.Offsets.{group_tail_at, group_count, offset_of}
use Rattle.refined_prices.proofs.GroupSizes.{offset_of_small, count_sum_within}
use Rattle.refined_prices.proofs.TablesOffsetSumLemmas.{greatest_none, greatest_more, sum_read, most_is}
use Rattle.refined_prices.proofs.tables.constant.most_in.Goals as goal

pub loop-g-init : goal.loop-g-init
loop-g-init c = record {
  value = greatest_none (λ g. count_sum (length c.args.inst.now.names)
      (λ i. offset_of c.args.list.now.offsets c.args.t i g));
  small = omega arith;
}

pub loop-g-preserved : goal.loop-g-preserved
loop-g-preserved c =
    let count : c.groups_at-g-end.result ≡ group_count (group_tail_at c.args.list.now.tails c.args.t) =
    c.groups_at-g-end.ensures
    ∙ ap (λ (ts : List (Option GroupTail)). group_count (group_tail_at ts c.args.t)) c.tails.ensures in
    let within = c.requires.width.each c.args.t in
    let low : c.loop-g.g < c.args.width = omega (arith, count, within) in
    let read = sum_read c.args.inst.now c.args.list.now.tails c.args.list.now.offsets c.args.width c.args.t c.loop-g.g
    ((c.args.t - 1) * c.args.width) c.args.sums.now c.requires.list.offsets c.requires.list.offsets_ascend
    c.requires.sums c.requires.from c.requires.to low refl in
    let size = count_sum_within (length c.args.inst.now.names) 1_000_000_000
    (λ i. offset_of c.args.list.now.offsets c.args.t i c.loop-g.g)
    (λ i. offset_of_small c.args.inst.now c.args.list.now.tails c.args.list.now.offsets c.args.t i c.loop-g.g
    c.requires.list.offsets) in
    let few = c.fits.ensures.names.few in
    let small : get_or c.args.sums.now ((c.args.t - 1) * c.args.width + c.loop-g.g) 0 ≤ 1_024_000_000_000 =
    omega (arith, read, size, few) in
    let greater : c.max-most.result
    ≡ max c.loop-g.most (get_or c.args.sums.now ((c.args.t - 1) * c.args.width + c.loop-g.g) 0) =
    c.max-most.ensures
    ∙ greater_is c.loop-g.most (get_or c.args.sums.now ((c.args.t - 1) * c.args.width + c.loop-g.g) 0) in
    record {
      value = greatest_more c.loop-g.g c.loop-g.most (λ g. count_sum (length c.args.inst.now.names)
          (λ i. offset_of c.args.list.now.offsets c.args.t i g))
          (get_or c.args.sums.now ((c.args.t - 1) * c.args.width + c.loop-g.g) 0) c.max-most.result
          c.loop-g.invariant.value read greater;
      small = rw greater (max-le c.loop-g.invariant.small small);
    }

pub returns-clause-value : goal.returns-clause-value
returns-clause-value c =
    let count : c.groups_at-g-end.result ≡ group_count (group_tail_at c.args.list.now.tails c.args.t) =
    c.groups_at-g-end.ensures
    ∙ ap (λ (ts : List (Option GroupTail)). group_count (group_tail_at ts c.args.t)) c.tails.ensures in
    most_is c.args.inst.now c.args.list.now.tails c.args.list.now.offsets c.args.t c.loop-g.g c.loop-g.most
    (omega (arith, count)) c.loop-g.invariant.value
