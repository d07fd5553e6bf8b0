use Rattle.std.proofs.Common.{◌≡◌, ◌∙◌, ◌*◌, ◌^◌, refl, arith, ℤ, ◌+ℤ◌, ◌-ℤ◌}
use Rattle.price_ladder.specs.Kept.{shifted_of}
use Rattle.price_ladder.proofs.KeptLemmas.{place_row, at_place, entry_read, shifted_is}
use Rattle.price_ladder.proofs.entries.shifted_at.Goals as goal

pub allowed-requires : goal.allowed-requires
allowed-requires c = place_row c.args.inst.now c.args.k c.periods-periods.result c.periods-periods.ensures.value
    c.periods-periods.ensures.some c.requires.within

three : (x y z x' y' z' : ℤ) → x ≡ x' → y ≡ y' → z ≡ z' → x +ℤ (y -ℤ z) ≡ x' +ℤ (y' -ℤ z')
three x y z x' y' z' p q r = rw (p, q, r) refl

pub returns-clause-value : goal.returns-clause-value
returns-clause-value c = λ a.
    let row = place_row c.args.inst.now c.args.k c.periods-periods.result c.periods-periods.ensures.value
    c.periods-periods.ensures.some c.requires.within in
    let one = entry_read c.args.inst.now (2 * 10 ^ 33) c.args.entries.now _ _ c.entry.result c.allowed.result
    c.requires.entries row c.allowed.ensures c.if-not-allowed.false c.entry.ensures in
    let two = entry_read c.args.inst.now (10 ^ 30) c.args.after.now _ _ c.entry-2.result c.allowed.result
    c.requires.after row c.allowed.ensures c.if-not-allowed.false c.entry-2.ensures in
    let three' = entry_read c.args.inst.now (10 ^ 30) c.args.before.now _ _ c.entry-3.result c.allowed.result
    c.requires.before row c.allowed.ensures c.if-not-allowed.false c.entry-3.ensures in
    at_place c.args.inst.now (shifted_of c.args.inst.now c.args.before.now c.args.after.now c.args.entries.now)
    c.args.k c.periods-periods.result _ c.periods-periods.ensures.value
    ((shifted_is c.entry.result c.entry-2.result c.entry-3.result one two three').value
    ∙ three _ _ _ _ _ _ c.entry.ensures c.entry-2.ensures c.entry-3.ensures)

pub returns-clause-small : goal.returns-clause-small
returns-clause-small c =
    let row = place_row c.args.inst.now c.args.k c.periods-periods.result c.periods-periods.ensures.value
    c.periods-periods.ensures.some c.requires.within in
    let one = entry_read c.args.inst.now (2 * 10 ^ 33) c.args.entries.now _ _ c.entry.result c.allowed.result
    c.requires.entries row c.allowed.ensures c.if-not-allowed.false c.entry.ensures in
    let two = entry_read c.args.inst.now (10 ^ 30) c.args.after.now _ _ c.entry-2.result c.allowed.result
    c.requires.after row c.allowed.ensures c.if-not-allowed.false c.entry-2.ensures in
    let three' = entry_read c.args.inst.now (10 ^ 30) c.args.before.now _ _ c.entry-3.result c.allowed.result
    c.requires.before row c.allowed.ensures c.if-not-allowed.false c.entry-3.ensures in
    omega (arith, (shifted_is c.entry.result c.entry-2.result c.entry-3.result one two three').small)

pub overflow_add-result : goal.overflow_add-result
overflow_add-result c =
    let row = place_row c.args.inst.now c.args.k c.periods-periods.result c.periods-periods.ensures.value
    c.periods-periods.ensures.some c.requires.within in
    let one = entry_read c.args.inst.now (2 * 10 ^ 33) c.args.entries.now _ _ c.entry.result c.allowed.result
    c.requires.entries row c.allowed.ensures c.if-not-allowed.false c.entry.ensures in
    let two = entry_read c.args.inst.now (10 ^ 30) c.args.after.now _ _ c.entry-2.result c.allowed.result
    c.requires.after row c.allowed.ensures c.if-not-allowed.false c.entry-2.ensures in
    let three' = entry_read c.args.inst.now (10 ^ 30) c.args.before.now _ _ c.entry-3.result c.allowed.result
    c.requires.before row c.allowed.ensures c.if-not-allowed.false c.entry-3.ensures in
    (shifted_is c.entry.result c.entry-2.result c.entry-3.result one two three').fits
