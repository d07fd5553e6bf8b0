use Rattle.std.proofs.Common.{◌+◌, ◌++◌, arith, refl, subst, length, min, ◌^◌}
use Rattle.decimal_numbers.specs.Decimal.{number}
use Rattle.json_grammar.specs.Split.{parts_view}
use Rattle.decimal_numbers.specs.Tallies.{IsTally}
use Rattle.decimal_numbers.proofs.Capped.{not_shrunk, shrunk, vanishes, fewer}
use Rattle.decimal_numbers.proofs.OneWord.{short_rounds}
use Rattle.decimal_numbers.proofs.nearest.rounded.Goals as goal

pub returns-then-fits_one_word : goal.returns-then-fits_one_word
returns-then-fits_one_word c = short_rounds (parts_view c.args.parts) c.args.places c.one_word_size-size.result
    (c.fits_one_word.ensures c.if-fits_one_word.true) c.one_word_size-size.ensures.size
    c.one_word_size-size.ensures.small

pub returns-then-not-parts : goal.returns-then-not-parts
returns-then-not-parts c =
    let p = parts_view c.args.parts in
    not_shrunk p c.args.places _ _ c.if-not-parts.true (omega arith)
    (c.rounded.ensures (length p.whole + c.args.places + min (number p.exponent) (10 ^ 20))
    (number (p.whole ++ p.fraction)) (length p.whole + length p.fraction)
    (min (number p.exponent) (10 ^ 20) + c.args.places) (0 + length p.fraction) (omega arith)
    (subst (λ z. IsTally c.of.result (length p.whole + c.args.places + z) (number (p.whole ++ p.fraction))
    (length p.whole + length p.fraction)) c.capped_number_of-exponent.ensures c.of.ensures))

pub returns-then-exponent-point : goal.returns-then-exponent-point
returns-then-exponent-point c =
    let p = parts_view c.args.parts in
    let e = c.capped_number_of-exponent.ensures in
    let l = c.if-exponent-point.true in
    shrunk p c.args.places _ _ c.if-not-parts.false
    (c.rounded-then-exponent-point.ensures _ (number (p.whole ++ p.fraction)) (length p.whole + length p.fraction)
    (0 + c.args.places) (number p.exponent + length p.fraction) (omega arith) c.of-then-exponent-point.ensures)

pub returns : goal.returns
returns c =
    let p = parts_view c.args.parts in
    let e = c.capped_number_of-exponent.ensures in
    let l = c.if-exponent-point.false in
    let few = fewer p c.requires in
    shrunk p c.args.places _ _ c.if-not-parts.false
    (vanishes (number (p.whole ++ p.fraction)) (length p.whole + length p.fraction) c.args.places
    (number p.exponent + length p.fraction) c.differs.result few (omega arith)
    (c.differs.ensures 0 (number (p.whole ++ p.fraction)) (length p.whole + length p.fraction) c.of-2.ensures refl few))
