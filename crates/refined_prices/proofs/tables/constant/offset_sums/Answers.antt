use Rattle.std.proofs.Common.{◌*◌, ◌<◌, ap, subst, sym, refl, arith, get_or, length}
use Rattle.std.proofs.lemmas.List.Elements.{All-from_recursion}
use Rattle.refined_prices.specs.Offsets.{IsOffset}
use Rattle.refined_prices.proofs.TablesReadLemmas.{read_at}
use Rattle.refined_prices.proofs.TablesOffsetSumLemmas.{AreSumsSoFar-none, AreSumsSoFar-more, sum_at_place}
use Rattle.refined_prices.proofs.tables.constant.offset_sums.Goals as goal

pub loop-x-init : goal.loop-x-init
loop-x-init c = AreSumsSoFar-none c.args.inst.now c.args.list.now.offsets c.args.width
    (c.periods.result * c.args.width) c.in_ok-sums.sums.items (c.in_ok-sums.ensures.items_if_clones_equal (λ y e. e))
    (rw c.periods.ensures.value refl)

pub add_offset-requires-clause-small : goal.add_offset-requires-clause-small
add_offset-requires-clause-small c =
    let low : c.loop-x.x-index < length c.args.list.now.offsets =
    omega (arith, ap length c.offsets-x-items.ensures, c.loop-x-test.true) in
    let ok = subst (IsOffset c.args.inst.now c.args.list.now.tails)
    (sym (read_at c.offsets-x-items.result.now c.args.list.now.offsets c.loop-x.x-index
    (record { period = 0; intervention = 0; group = 0; value = 0 }) c.offsets-x-items.ensures c.loop-x-test.true
    (record { period = 0; intervention = 0; group = 0; value = 0 })))
    (All-from_recursion (IsOffset c.args.inst.now c.args.list.now.tails) c.args.list.now.offsets
    c.requires.list.offsets c.loop-x.x-index (record { period = 0; intervention = 0; group = 0; value = 0 }) low) in
    omega (
      arith,
      sum_at_place c.args.inst.now c.args.list.now.tails c.args.list.now.offsets c.args.width
          c.loop-x.x-index
          (get_or c.offsets-x-items.result.now c.loop-x.x-index
          (record { period = 0; intervention = 0; group = 0; value = 0 }))
          c.loop-x.sums.items c.fits.ensures c.requires.list.offsets c.requires.list.offsets_ascend c.requires.width ok
          c.loop-x.invariant,
    )

pub loop-x-preserved : goal.loop-x-preserved
loop-x-preserved c =
    let low : c.loop-x.x-index < length c.args.list.now.offsets =
    omega (arith, ap length c.offsets-x-items.ensures, c.loop-x-test.true) in
    let is = read_at c.offsets-x-items.result.now c.args.list.now.offsets c.loop-x.x-index
    (record { period = 0; intervention = 0; group = 0; value = 0 }) c.offsets-x-items.ensures c.loop-x-test.true in
    let ok = subst (IsOffset c.args.inst.now c.args.list.now.tails)
    (sym (read_at c.offsets-x-items.result.now c.args.list.now.offsets c.loop-x.x-index
    (record { period = 0; intervention = 0; group = 0; value = 0 }) c.offsets-x-items.ensures c.loop-x-test.true
    (record { period = 0; intervention = 0; group = 0; value = 0 })))
    (All-from_recursion (IsOffset c.args.inst.now c.args.list.now.tails) c.args.list.now.offsets
    c.requires.list.offsets c.loop-x.x-index (record { period = 0; intervention = 0; group = 0; value = 0 }) low) in
    AreSumsSoFar-more c.args.inst.now c.args.list.now.tails c.args.list.now.offsets c.args.width c.loop-x.x-index
    (get_or c.offsets-x-items.result.now c.loop-x.x-index
    (record { period = 0; intervention = 0; group = 0; value = 0 }))
    c.loop-x.sums.items c.add_offset.new.sums.items c.requires.width ok low is c.loop-x.invariant c.add_offset.ensures
