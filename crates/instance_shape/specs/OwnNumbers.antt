-- Defines the risk numbers of a file as they are written, each as a whole multiple of a power of ten.
use Rattle.std.specs.Prelude.{◌≡◌, ℕ, ◌*◌, ◌≤◌, ℤ, List, [], map, unwrap_or}
use Rattle.std.specs.List.{AllZip}
use Rattle.json_grammar.specs.Tree.{Tree}
use Rattle.json_grammar.specs.Grammar.{Parts, HasParts}
use Rattle.decimal_numbers.specs.Decimal.{numerator, denominator, signed}
use Rattle.instance_shape.specs.LookUp.{token_at, risk_list, interventions}
use Rattle.instance_shape.specs.FileTables.{all_below, each_run}

-- the token's value is z times 10^-places: 10^places times it is exactly the
-- whole number size, and z is that with its sign
pub record IsMultiple (places : ℕ) (token : List ℕ) (z : ℤ) : Type 0 where
  pub parts : Parts
  pub token_parts : HasParts token parts
  pub size : ℕ
  pub exact : size * denominator parts ≡ numerator parts places
  pub z_is : z ≡ signed parts.negative size

-- what f gives of each risk number of an intervention at start s in period t, by scenario
abbrev pub each_at : {A : Type 0} → (Tree → A) → Tree → ℕ → ℕ → List A
each_at f v s t = map f (unwrap_or (risk_list v t s) [])

-- what f gives of each risk number, in the order of the table of risks, which is `each_risk count_at root`
abbrev pub each_risk : {A : Type 0} → (Tree → A) → Tree → List A
each_risk f root = all_below (interventions root) (each_run root (each_at f))

-- the same table, with each number of the file as it is written, in 10^-places, in place of its count
abbrev pub AreOwnNumbers : ℕ → Tree → List ℤ → Type 0
AreOwnNumbers places root numbers = AllZip (IsMultiple places) (each_risk token_at root) numbers

-- for some places, at least 12, the file has such numbers, and no others
pub record HasOwnNumbers (root : Tree) : Type 0 where
  pub places : ℕ
  pub enough : 12 ≤ places
  pub numbers : List ℤ
  pub own : AreOwnNumbers places root numbers
  pub only : (others : List ℤ) → AreOwnNumbers places root others → others ≡ numbers
