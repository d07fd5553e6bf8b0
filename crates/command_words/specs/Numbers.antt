-- Slacks, turns, periods, seeds and counts. A word is the list of its bytes.
use Rattle.std.specs.Prelude.{ℕ, ◌-◌, ◌*◌, ◌^◌, List, length, take, drop, codes, bytes_eq, nat_le, nat_lt, ◌&&◌, not}
use Rattle.std.specs.Prelude.{Bool}
use Rattle.std.specs.Prelude.{Option, Some, None, if◌then◌else◌}
use Rattle.instance_shape.specs.Keys.{all_bytes, is_digit, number_of}

-- digits behind the point, in 10^-12
abbrev pub fraction : List ℕ → ℕ
fraction digits = number_of digits * 10 ^ (12 - length digits)

-- 1 to 12 digits behind the point
abbrev pub are_decimals : List ℕ → Bool
are_decimals digits = nat_le 1 (length digits) && nat_le (length digits) 12 && all_bytes is_digit digits

-- D behind `0.`: 1 to 12 digits, at most 0.001
abbrev pub decimals_count : List ℕ → Option ℕ
decimals_count digits =
    if are_decimals digits && nat_le (fraction digits) 1_000_000_000 then Some (fraction digits) else None

-- D is `0`, or `0.` and 1 to 12 digits, and at most 0.001
abbrev pub slack_count : List ℕ → Option ℕ
slack_count d =
    if bytes_eq d (codes "0") then Some 0
    else if bytes_eq (take 2 d) (codes "0.") then decimals_count (drop 2 d)
    else None

-- a word `slack=D`
abbrev pub slack_of : List ℕ → Option ℕ
slack_of word = if bytes_eq (take 6 word) (codes "slack=") then slack_count (drop 6 word) else None

-- 1 to `most` digits, the first of which is no needless zero
abbrev pub is_numeral_within : (most : ℕ) → List ℕ → Bool
is_numeral_within most word =
    nat_le 1 (length word) && nat_le (length word) most
    && not (nat_lt 1 (length word) && bytes_eq (take 1 word) (codes "0")) && all_bytes is_digit word

-- 1 to 7 digits, the first of which is no needless zero
abbrev pub is_numeral : List ℕ → Bool
is_numeral word = is_numeral_within 7 word

-- turns: such a numeral, at most 1,000,000
unfoldable pub turns_of : List ℕ → Option ℕ
turns_of word = if is_numeral word && nat_le (number_of word) 1_000_000 then Some (number_of word) else None

-- a period: such a numeral, from 1 to 512
abbrev pub period_of : List ℕ → Option ℕ
period_of word =
    if is_numeral word && nat_le 1 (number_of word) && nat_le (number_of word) 512 then Some (number_of word) else None

-- two periods, the second of which is not before the first
abbrev pub span : (from to : Option ℕ) → Option (ℕ × ℕ)
span (Some from) (Some to) = if nat_le from to then Some (from, to) else None
span from to = None

-- the periods of two words
unfoldable pub span_of : (from to : List ℕ) → Option (ℕ × ℕ)
span_of from to = span (period_of from) (period_of to)

-- the number that an instance is drawn from: such a numeral of at most 20 digits, below 2^64
abbrev pub seed_of : List ℕ → Option ℕ
seed_of word =
    if is_numeral_within 20 word && nat_lt (number_of word) (2 ^ 64) then Some (number_of word) else None

-- how many interventions it has: such a numeral, from 1 to 200
abbrev pub count_of : List ℕ → Option ℕ
count_of word =
    if is_numeral word && nat_le 1 (number_of word) && nat_le (number_of word) 200 then Some (number_of word) else None
