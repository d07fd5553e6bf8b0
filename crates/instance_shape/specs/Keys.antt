-- Defines names, period and start keys, how the required keys are written, and when two keys of an object are equal.
-- A text is the list of its bytes in UTF-8, with the escapes resolved.
use Rattle.std.specs.Prelude.{ℕ, ◌+◌, ◌*◌, ◌-◌, ◌&&◌, ◌||◌, ◌==◌, Bool, true, false, List, [], ◌∷◌, length, nat_le}
use Rattle.std.specs.Prelude.{nat_lt, not, bytes_eq, codes, cond, nat_eq}
use Rattle.instance_shape.specs.declared.fault.Known.{Known}
use Rattle.instance_shape.specs.declared.fault.Known.TheVariants as known
use Rattle.instance_shape.specs.declared.spot.Kind.{Kind}
use Rattle.instance_shape.specs.declared.spot.Kind.TheVariants as kind

-- every byte passes the test
abbrev pub all_bytes : (ℕ → Bool) → List ℕ → Bool
all_bytes p [] = true
all_bytes p (b ∷ bs) = p b && all_bytes p bs

-- a byte that may stand in a name
abbrev pub is_printed : ℕ → Bool
is_printed b = nat_lt 32 b && not (b == 127)

-- an ASCII digit
abbrev pub is_digit : ℕ → Bool
is_digit b = nat_le 48 b && nat_le b 57

-- a name has 1 to 128 bytes, none of them from 0 to 32 and none 127
abbrev pub is_name : List ℕ → Bool
is_name bs = nat_le 1 (length bs) && nat_le (length bs) 128 && all_bytes is_printed bs

-- a period or start key has 1 to 9 ASCII digits
abbrev pub is_digits : List ℕ → Bool
is_digits bs = nat_le 1 (length bs) && nat_le (length bs) 9 && all_bytes is_digit bs

-- the number that digits write behind a number
abbrev pub number_from : ℕ → List ℕ → ℕ
number_from n [] = n
number_from n (b ∷ bs) = number_from (n * 10 + (b - 48)) bs

-- the period or start that the digits write; leading zeros don't count
abbrev pub number_of : List ℕ → ℕ
number_of = number_from 0

-- how a required key is written
abbrev pub text_of : Known → List ℕ
text_of known.Resources = codes "Resources"
text_of known.Seasons = codes "Seasons"
text_of known.Interventions = codes "Interventions"
text_of known.Exclusions = codes "Exclusions"
text_of known.T = codes "T"
text_of known.ScenariosNumber = codes "Scenarios_number"
text_of known.Quantile = codes "Quantile"
text_of known.Alpha = codes "Alpha"
text_of known.Max = codes "max"
text_of known.Min = codes "min"
text_of known.Tmax = codes "tmax"
text_of known.Delta = codes "Delta"
text_of known.Workload = codes "workload"
text_of known.Risk = codes "risk"

-- what a key of an object counts as
pub data Key : Type 0 where
  by_text : List ℕ → Key
  by_number : ℕ → Key

-- in an object of periods or starts a key with the form of one counts as its number, and every other key as its text;
-- in a skipped value keys don't count at all
abbrev pub key_of : Kind → List ℕ → List Key
key_of kind.Record k = by_text k ∷ []
key_of kind.Names k = by_text k ∷ []
key_of kind.Numbers k = cond (is_digits k) (by_number (number_of k)) (by_text k) ∷ []
key_of _ k = []

-- two keys are equal
abbrev pub same_key : Key → Key → Bool
same_key (by_text a) (by_text b) = bytes_eq a b
same_key (by_number a) (by_number b) = nat_eq a b
same_key _ _ = false

-- a key is one of a list
abbrev pub has_key : List Key → Key → Bool
has_key [] k = false
has_key (j ∷ js) k = same_key k j || has_key js k

-- a key equals an earlier one
abbrev pub is_double : List Key → List Key → Bool
is_double earlier [] = false
is_double earlier (k ∷ ks) = has_key earlier k
