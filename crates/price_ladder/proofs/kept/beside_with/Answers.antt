use Rattle.std.proofs.Common.{◌*◌, ◌<◌, ◌^◌, ◌-ℤ◌, sym, subst, arith, ℤ, to_z}
use Rattle.std.proofs.Common.{unsigned_abs}
use Rattle.std.specs.Int.{w128}
use Rattle.std.proofs.lemmas.Result.{IfOk-weaker}
use Rattle.fixed_num.proofs.SignedLemmas.{back_from_abs}
use Rattle.lagrange_bound.specs.Prices.{PriceList, IsPriceList}
use Rattle.price_ladder.specs.Places.{IsWithValue}
use Rattle.price_ladder.specs.Kept.{AreSmall}
use Rattle.price_ladder.specs.Beside.{IsSettled, IsBeside}
use Rattle.price_ladder.proofs.ChoiceLemmas.{times_is, more_is}
use Rattle.price_ladder.proofs.KeptLemmas.{entries_small, more_small, weight_small, fixed_small}
use Rattle.price_ladder.proofs.KeptWorthLemmas.{beside_moved}
use Rattle.price_ladder.proofs.kept.beside_with.Goals as goal

pub all_more-requires-clause-entries : goal.all_more-requires-clause-entries
all_more-requires-clause-entries c =
    subst (AreSmall c.args.inst.now (2 * 10 ^ 33)) (sym c.as_slice.ensures.value)
    (entries_small c.args.inst.now c.args.prices.now c.args.beside.now.entries.items c.fits.ensures c.requires.prices
    c.requires.kept.bases c.requires.kept.values)

pub overflow_mul-fixed : goal.overflow_mul-fixed
overflow_mul-fixed c =
    let t = times_is c.args.v c.value_at.result c.requires.small c.value_at.ensures.small in
    let small = fixed_small c.args.inst.now c.args.prices.now c.fits.ensures c.requires.prices in
    let fixed = subst (λ (z : ℤ). unsigned_abs z < 10 ^ 36) (sym c.requires.kept.part) small in
    let m = more_is c.args.beside.now.fixed (to_z w128 c.args.v -ℤ to_z w128 c.value_at.result) c.fixed_weight.result
    (omega (arith, fixed)) t.small (omega (arith, c.fixed_weight.ensures.small)) in
    m.fits_product

pub overflow_add-fixed : goal.overflow_add-fixed
overflow_add-fixed c =
    let t = times_is c.args.v c.value_at.result c.requires.small c.value_at.ensures.small in
    let small = fixed_small c.args.inst.now c.args.prices.now c.fits.ensures c.requires.prices in
    let fixed = subst (λ (z : ℤ). unsigned_abs z < 10 ^ 36) (sym c.requires.kept.part) small in
    let m = more_is c.args.beside.now.fixed (to_z w128 c.args.v -ℤ to_z w128 c.value_at.result) c.fixed_weight.result
    (omega (arith, fixed)) t.small (omega (arith, c.fixed_weight.ensures.small)) in
    m.fits_sum

pub settle-requires-clause-fixed : goal.settle-requires-clause-fixed
settle-requires-clause-fixed c =
    let t = times_is c.args.v c.value_at.result c.requires.small c.value_at.ensures.small in
    let small = fixed_small c.args.inst.now c.args.prices.now c.fits.ensures c.requires.prices in
    let fixed = subst (λ (z : ℤ). unsigned_abs z < 10 ^ 36) (sym c.requires.kept.part) small in
    let m = more_is c.args.beside.now.fixed (to_z w128 c.args.v -ℤ to_z w128 c.value_at.result) c.fixed_weight.result
    (omega (arith, fixed)) t.small (omega (arith, c.fixed_weight.ensures.small)) in
    omega (arith, m.gap, fixed)

pub settle-requires-clause-entries : goal.settle-requires-clause-entries
settle-requires-clause-entries c =
    let t = times_is c.args.v c.value_at.result c.requires.small c.value_at.ensures.small in
    let e = back_from_abs (to_z w128 c.args.v -ℤ to_z w128 c.value_at.result) (omega (arith, t.small)) in
    more_small c.args.inst.now c.args.place (to_z w128 c.args.v -ℤ to_z w128 c.value_at.result)
    c.args.beside.now.entries.items c.in_ok-entries.entries.items
    (entries_small c.args.inst.now c.args.prices.now c.args.beside.now.entries.items c.fits.ensures c.requires.prices
    c.requires.kept.bases c.requires.kept.values) t.small
    (λ i s l. weight_small c.args.inst.now c.args.place i s c.fits.ensures l)
    (rw (e, c.as_slice.ensures.value) at c.in_ok-entries.ensures)

pub returns-clause-kept : goal.returns-clause-kept
returns-clause-kept c =
    let t = times_is c.args.v c.value_at.result c.requires.small c.value_at.ensures.small in
    let e = back_from_abs (to_z w128 c.args.v -ℤ to_z w128 c.value_at.result) (omega (arith, t.small)) in
    let small = fixed_small c.args.inst.now c.args.prices.now c.fits.ensures c.requires.prices in
    let fixed = subst (λ (z : ℤ). unsigned_abs z < 10 ^ 36) (sym c.requires.kept.part) small in
    let m = more_is c.args.beside.now.fixed (to_z w128 c.args.v -ℤ to_z w128 c.value_at.result) c.fixed_weight.result
    (omega (arith, fixed)) t.small (omega (arith, c.fixed_weight.ensures.small)) in
    IfOk-weaker c.settle.result (IsSettled c.args.inst.now c.in_ok-entries.entries.items _)
    (λ new. (list : PriceList) → IsPriceList c.args.inst.now list
    → IsWithValue c.args.inst.now c.args.prices.now list c.args.place c.args.v → IsBeside c.args.inst.now list new)
    (λ new s. λ list k q. beside_moved c.args.inst.now c.args.prices.now list c.args.place c.args.v c.value_at.result
    c.args.beside.now.entries.items c.in_ok-entries.entries.items c.args.beside.now.fixed
    (to_z w128 c.args.v -ℤ to_z w128 c.value_at.result) c.fixed_weight.result _ new c.requires.prices k
    c.requires.place q c.requires.kept.values c.requires.kept.bases c.requires.kept.part c.value_at.ensures.value
    t.value c.fixed_weight.ensures.value m.value
    (rw (e, c.as_slice.ensures.value) at c.in_ok-entries.ensures) s) c.settle.ensures

pub returns-clause-small : goal.returns-clause-small
returns-clause-small c =
    IfOk-weaker c.settle.result (IsSettled c.args.inst.now c.in_ok-entries.entries.items _)
    (λ new. unsigned_abs new.worth < 10 ^ 37) (λ new s. s.small) c.settle.ensures
