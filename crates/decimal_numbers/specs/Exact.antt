-- What is read of a number token, as functions for the definitions of crates above. The contracts of the calls say
-- that they agree with the relations of `Decimal`.
use Rattle.std.specs.Prelude.{ℕ, ◌+◌, ◌*◌, ◌/◌, ◌^◌, ℤ, List, Bool, cond, not, ◌==◌, ◌&&◌, ◌||◌, nat_lt, nat_le, Option}
use Rattle.std.specs.Prelude.{Some, None}
use Rattle.json_grammar.specs.Tree.{Node}
use Rattle.json_grammar.specs.Grammar.{Parts}
use Rattle.decimal_numbers.specs.Decimal.{numerator, denominator, signed}
use Rattle.json_grammar.specs.Token.{parts_of}

-- the whole number nearest to a / b, halves up
abbrev pub nearest : ℕ → ℕ → ℕ
nearest a b = (2 * a + b) / (2 * b)

-- size / 1 is the fraction of the parts, times 10^places, and no rounding of it
abbrev pub is_exact : Parts → ℕ → ℕ → Bool
is_exact p places size = size * denominator p == numerator p places

abbrev pub fixed_size : Parts → ℕ → Option (ℤ × Bool)
fixed_size p size = cond (nat_lt size (10 ^ 20)) (Some (signed p.negative size, not (is_exact p 12 size))) None

abbrev pub fixed_parts : Option Parts → Option (ℤ × Bool)
fixed_parts None = None
fixed_parts (Some p) = fixed_size p (nearest (numerator p 12) (denominator p))

-- the count of 10^-12 nearest to a token's value, and whether it differs from that value; none where it is too large
unfoldable pub fixed : List ℕ → Option (ℤ × Bool)
fixed token = fixed_parts (parts_of token)

abbrev pub exact_size : Parts → ℕ → ℕ → ℕ → Option ℕ
exact_size p places most size =
    cond (is_exact p places size && (nat_le size most && (not p.negative || (size == 0)))) (Some size) None

abbrev pub exact_parts : ℕ → ℕ → Option Parts → Option ℕ
exact_parts places most None = None
exact_parts places most (Some p) = exact_size p places most (nearest (numerator p places) (denominator p))

-- 10^places times a token's value, where that is exactly a whole number from 0 to most
unfoldable pub exactly : ℕ → ℕ → List ℕ → Option ℕ
exactly places most token = exact_parts places most (parts_of token)

-- the whole number from 0 to 999,999,999 that a value is; a text that is a number token counts as the number
unfoldable pub whole : Node → Option ℕ
whole (Node.number token) = exactly 0 999_999_999 token
whole (Node.text token) = exactly 0 999_999_999 token
whole Node.null = None
whole (Node.boolean b) = None
whole (Node.list ts) = None
whole (Node.object ms) = None

-- 10^6 times a token's value, where that is exactly a whole number from 0 to 10^6
unfoldable pub millionths : List ℕ → Option ℕ
millionths token = exactly 6 1_000_000 token
