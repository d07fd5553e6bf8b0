-- Digits and exponent marks, by the tests of one byte.
use Rattle.std.specs.Prelude.{◌⊎◌}
use Rattle.std.proofs.Common.{◌≡◌, ℕ, true, inl, inr, arith}
use Rattle.std.proofs.lemmas.Bool.Decides.{nat_tests}
use Rattle.json_grammar.specs.Grammar.{IsDigit, IsExponentMark}
use Rattle.json_grammar.specs.Bytes.{is_digit, is_mark}

pub digit : (b : ℕ) → is_digit b ≡ true → IsDigit b
digit b t = record { low = grind (arith, nat_tests); high = grind (arith, nat_tests) }

pub mark_of : (b : ℕ) → is_mark b ≡ true → IsExponentMark b
mark_of b t =
    let o : (b ≡ 101) ⊎ (b ≡ 69) = grind (arith, nat_tests) in
    elim o [ inl i ↦ rw i IsExponentMark.lower | inr i ↦ rw i IsExponentMark.upper ]

pub digit_is : {b : ℕ} → IsDigit b → is_digit b ≡ true
digit_is {b} h = grind (arith, nat_tests)
