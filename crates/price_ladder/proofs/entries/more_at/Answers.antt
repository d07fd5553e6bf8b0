use Rattle.std.proofs.Common.{◌∙◌, ◌+◌, ◌*◌, ◌^◌, ◌/◌, ◌%◌, ap, arith, ℤ, ◌+ℤ◌, ◌*ℤ◌}
use Rattle.price_ladder.specs.Kept.{kept_at, more_of}
use Rattle.price_ladder.proofs.ChoiceLemmas.{more_is}
use Rattle.price_ladder.proofs.KeptLemmas.{place_row, at_place, entry_read}
use Rattle.price_ladder.proofs.entries.more_at.Goals as goal

pub allowed-requires : goal.allowed-requires
allowed-requires c = place_row c.args.inst.now c.args.k c.periods-periods.result c.periods-periods.ensures.value
    c.periods-periods.ensures.some c.requires.within

pub returns-clause-value : goal.returns-clause-value
returns-clause-value c = λ a.
    let row = place_row c.args.inst.now c.args.k c.periods-periods.result c.periods-periods.ensures.value
    c.periods-periods.ensures.some c.requires.within in
    let small = entry_read c.args.inst.now (2 * 10 ^ 33) c.args.entries.now _ _ c.entry.result c.allowed.result
    c.requires.entries row c.allowed.ensures c.if-not-allowed.false c.entry.ensures in
    let m = more_is c.entry.result c.args.times c.weight.result (omega (arith, small)) c.requires.times
    (omega (arith, c.weight.ensures.small)) in
    at_place c.args.inst.now (more_of c.args.inst.now c.args.place c.args.times c.args.entries.now) c.args.k
    c.periods-periods.result _ c.periods-periods.ensures.value
    (m.value ∙ ap (λ (x : ℤ). x +ℤ c.args.times *ℤ c.weight.result) c.entry.ensures
    ∙ ap (λ (x : ℤ). kept_at c.args.inst.now c.args.entries.now (c.args.k / c.periods-periods.result)
    (c.args.k % c.periods-periods.result + 1) +ℤ c.args.times *ℤ x) c.weight.ensures.value)

pub returns-clause-small : goal.returns-clause-small
returns-clause-small c =
    let row = place_row c.args.inst.now c.args.k c.periods-periods.result c.periods-periods.ensures.value
    c.periods-periods.ensures.some c.requires.within in
    let small = entry_read c.args.inst.now (2 * 10 ^ 33) c.args.entries.now _ _ c.entry.result c.allowed.result
    c.requires.entries row c.allowed.ensures c.if-not-allowed.false c.entry.ensures in
    let m = more_is c.entry.result c.args.times c.weight.result (omega (arith, small)) c.requires.times
    (omega (arith, c.weight.ensures.small)) in
    omega (arith, m.gap, small)

pub overflow_mul-result : goal.overflow_mul-result
overflow_mul-result c =
    let row = place_row c.args.inst.now c.args.k c.periods-periods.result c.periods-periods.ensures.value
    c.periods-periods.ensures.some c.requires.within in
    let small = entry_read c.args.inst.now (2 * 10 ^ 33) c.args.entries.now _ _ c.entry.result c.allowed.result
    c.requires.entries row c.allowed.ensures c.if-not-allowed.false c.entry.ensures in
    let m = more_is c.entry.result c.args.times c.weight.result (omega (arith, small)) c.requires.times
    (omega (arith, c.weight.ensures.small)) in
    m.fits_product

pub overflow_add-result : goal.overflow_add-result
overflow_add-result c =
    let row = place_row c.args.inst.now c.args.k c.periods-periods.result c.periods-periods.ensures.value
    c.periods-periods.ensures.some c.requires.within in
    let small = entry_read c.args.inst.now (2 * 10 ^ 33) c.args.entries.now _ _ c.entry.result c.allowed.result
    c.requires.entries row c.allowed.ensures c.if-not-allowed.false c.entry.ensures in
    let m = more_is c.entry.result c.args.times c.weight.result (omega (arith, small)) c.requires.times
    (omega (arith, c.weight.ensures.small)) in
    m.fits_sum
