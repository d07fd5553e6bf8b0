-- The plain numerals spell the numbers of a drawn instance.
use Rattle.std.proofs.Common.{arith, ◌≡◌, ℕ, ◌+◌, ◌*◌, ◌/◌, ◌^◌, ◌<◌, ◌∙◌, ap, sym, refl, subst, ℤ, false}
use Rattle.std.proofs.Common.{not, List, [], ◌∷◌, ◌++◌, Some, decimal}
use Rattle.std.specs.Fmt.{digits}
use Rattle.std.proofs.lemmas.Bool.{eq-eqb, cond-true, lt-ltb}
use Rattle.std.proofs.lemmas.List.{append-nil}
use Rattle.json_grammar.specs.Grammar.{IsInt, IsFrac, IsExp, IsDigit, AreDigits, Parts, parts, HasParts, IsNumber}
use Rattle.json_grammar.specs.Token.{parts_of}
use Rattle.json_grammar.proofs.Tokens.{parts_found}
use Rattle.decimal_numbers.specs.Decimal.{number, numerator, denominator, signed}
use Rattle.decimal_numbers.specs.Exact.{nearest, fixed, fixed_parts, fixed_size, millionths, exactly}
use Rattle.decimal_numbers.proofs.ExactLaws.{nearest_is}
use Rattle.decimal_numbers.proofs.Tallying.{exact_rounds}
use Rattle.instance_writer.specs.text.Conditions.{SpellsCount, SpellsPart}
use Rattle.instance_writer.proofs.TextTokens.{decimal_is}
use Rattle.instance_gen.specs.Drawing.{whole}
use Rattle.instance_gen.specs.Texts.{plain_numbers, whole_text}
use Rattle.instance_gen.proofs.RunLemmas.{IsSmallWhole}

whole_parts : (n : ℕ) → n < 10 ^ 64 → HasParts (decimal n) (parts false (decimal n) [] false [])
whole_parts n h =
    subst (λ (bs : List ℕ). HasParts bs (parts false (decimal n) [] false [])) (append-nil (decimal n))
    (HasParts.positive (decimal_is n h).int IsFrac.none IsExp.none)

fixed_exact : (token : List ℕ) (p : Parts) (size : ℕ) → HasParts token p → size * denominator p ≡ numerator p 12
    → size < 10 ^ 20 → 0 < denominator p → fixed token ≡ Some (signed p.negative size, false)
unfolding fixed
fixed_exact token p size h e small some =
    let near : nearest (numerator p 12) (denominator p) ≡ size =
    ap (λ n. nearest n (denominator p)) (sym e)
    ∙ nearest_is (size * denominator p) (denominator p) size (exact_rounds size (denominator p) some) in
    ap fixed_parts (parts_found h) ∙ ap (fixed_size p) near
    ∙ cond-true _ _ _ (lt-ltb size (10 ^ 20) small)
    ∙ ap (λ b. Some (signed p.negative size, not b)) (eq-eqb (size * denominator p) (numerator p 12) e)

number_spelled : (n : ℕ) → n < 1000 → SpellsCount plain_numbers (whole n)
number_spelled n h =
    let wide : n < 10 ^ 64 = omega arith in
    let p = parts false (decimal n) [] false [] in
    let d = decimal_is n wide in
    let value : number (decimal n ++ []) ≡ n = ap number (append-nil (decimal n)) ∙ d.value in
    let back : n * 10 ^ 12 / 10 ^ 12 ≡ n = omega arith in
    let text : whole_text (whole n) ≡ decimal n = ap decimal back in
    record {
      token = subst IsNumber (sym text) (p, whole_parts n wide);
      exact = ap fixed text
          ∙ fixed_exact (decimal n) p (n * 10 ^ 12) (whole_parts n wide) (omega (arith, value)) (omega arith) (omega
          arith);
    }

pub count_spelled : (z : ℤ) → IsSmallWhole z → SpellsCount plain_numbers z
count_spelled z h = subst (SpellsCount plain_numbers) (sym h.same) (number_spelled h.number h.small)

digit : (b : ℕ) → 48 < b + 1 → b < 58 → IsDigit b
digit b low high = record { low = omega arith; high = omega arith }

pub half_spelled : SpellsPart plain_numbers 500_000
unfolding millionths exactly parts_of digits
half_spelled = record {
  token = (
    parts false (48 ∷ []) (53 ∷ []) false [],
    HasParts.positive IsInt.zero (IsFrac.digits (digit 53 (omega arith) (omega arith)) AreDigits.none) IsExp.none,
  );
  exact = refl;
}

pub quantile_spelled : SpellsPart plain_numbers 950_000
unfolding millionths exactly parts_of digits
quantile_spelled = record {
  token = (
    parts false (48 ∷ []) (57 ∷ 53 ∷ []) false [],
    HasParts.positive IsInt.zero (IsFrac.digits (digit 57 (omega arith) (omega arith))
        (AreDigits.more (digit 53 (omega arith) (omega arith)) AreDigits.none)) IsExp.none,
  );
  exact = refl;
}
