-- Refined price lists that say the same of every box.
use Rattle.std.specs.Prelude.{◌≡◌, ℕ, ◌<◌, List, [], ◌∷◌, ◌++◌, length, All, IsTrue}
use Rattle.instance_model.specs.Tables.{Tables, is_allowed}
use Rattle.refined_prices.specs.RefinedLists.{RefinedList}
use Rattle.refined_prices.specs.RefinedWorth.{refined_price, refined_constant}

-- two lists give each allowed start the same price, and add the same whatever the starts are
pub record PriceAlike (inst : Tables) (a b : RefinedList) : Type 0 where
  pub prices : (i s : ℕ) → i < length inst.names → IsTrue (is_allowed inst i s)
      → refined_price inst a i s ≡ refined_price inst b i s
  pub constant : refined_constant inst a ≡ refined_constant inst b

-- a list is none that prices alike with one of these
abbrev pub IsUnlike : Tables → List RefinedList → RefinedList → Type 0
IsUnlike inst lists list = All (λ other. PriceAlike inst other list → ⊥) lists

-- of the lists that stand behind others, each is unlike all before it
abbrev pub AddUnlike : Tables → (old more : List RefinedList) → Type 0
AddUnlike inst old [] = Unit {0}
AddUnlike inst old (list ∷ more) = IsUnlike inst old list × AddUnlike inst (old ++ list ∷ []) more
