-- A number token taken apart by a function, which agrees with the grammar's relation.
use Rattle.std.specs.Prelude.{ℕ, suc, List, [], ◌∷◌, length, take, drop, Bool, true, false, cond, not, ◌==◌, ◌&&◌}
use Rattle.std.specs.Prelude.{nat_lt, Option, Some, None}
use Rattle.json_grammar.specs.Grammar.{Parts, parts}
use Rattle.json_grammar.specs.Bytes.{is_digit, is_mark}

-- how many digits the bytes begin with
abbrev pub digit_count : List ℕ → ℕ
digit_count [] = 0
digit_count (b ∷ bs) = cond (is_digit b) (suc (digit_count bs)) 0

-- whether digits may stand before the point: there are some, and no 0 before others
abbrev pub may_be_int : List ℕ → Bool
may_be_int [] = false
may_be_int (d ∷ []) = true
may_be_int (d ∷ e ∷ ds) = not (d == 48)

-- the bytes as the digits of an exponent, where they are digits and there are some
abbrev pub exponent_digits : Bool → List ℕ → Option (Bool × List ℕ)
exponent_digits below bs = cond (nat_lt 0 (length bs) && (digit_count bs == length bs)) (Some (below, bs)) None

-- the sign and the digits of an exponent behind its letter
abbrev pub signed_exponent : List ℕ → Option (Bool × List ℕ)
signed_exponent [] = None
signed_exponent (s ∷ bs) = cond (s == 45) (exponent_digits true bs)
    (cond (s == 43) (exponent_digits false bs) (exponent_digits false (s ∷ bs)))

-- the exponent's sign and digits, where the bytes are one or there is none
abbrev pub exponent_of : List ℕ → Option (Bool × List ℕ)
exponent_of [] = Some (false, [])
exponent_of (e ∷ bs) = cond (is_mark e) (signed_exponent bs) None

-- the digits behind a point, and what comes behind them
abbrev pub behind_point : List ℕ → Option (List ℕ × List ℕ)
behind_point bs = cond (nat_lt 0 (digit_count bs)) (Some (take (digit_count bs) bs, drop (digit_count bs) bs)) None

-- the fraction's digits, and what comes behind them
abbrev pub fraction_of : List ℕ → Option (List ℕ × List ℕ)
fraction_of [] = Some ([], [])
fraction_of (b ∷ bs) = cond (b == 46) (behind_point bs) (Some ([], b ∷ bs))

abbrev pub with_exponent : Bool → List ℕ → List ℕ → Option (Bool × List ℕ) → Option Parts
with_exponent negative whole fraction None = None
with_exponent negative whole fraction (Some x) = Some (parts negative whole fraction x.0 x.1)

abbrev pub with_fraction : Bool → List ℕ → Option (List ℕ × List ℕ) → Option Parts
with_fraction negative whole None = None
with_fraction negative whole (Some f) = with_exponent negative whole f.0 (exponent_of f.1)

-- the parts of a number behind its sign
abbrev pub unsigned_parts : Bool → List ℕ → Option Parts
unsigned_parts negative bs = cond (may_be_int (take (digit_count bs) bs))
    (with_fraction negative (take (digit_count bs) bs) (fraction_of (drop (digit_count bs) bs))) None

-- the parts of a number token; none where the bytes are no number token
unfoldable pub parts_of : List ℕ → Option Parts
parts_of [] = None
parts_of (b ∷ bs) = cond (b == 45) (unsigned_parts true bs) (unsigned_parts false (b ∷ bs))
