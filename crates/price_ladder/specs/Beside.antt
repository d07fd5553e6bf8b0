-- What is kept beside a price list, as the ladder holds it. Cited by private functions only: no part of any promise.
use Rattle.std.specs.Prelude.{◌≡◌, ◌<◌, ◌^◌, ℤ, ◌+ℤ◌, List, unsigned_abs}
use Rattle.instance_model.specs.Tables.{Tables}
use Rattle.lagrange_bound.specs.Prices.{PriceList}
use Rattle.lagrange_bound.specs.Goals.{risk_base}
use Rattle.price_ladder.specs.declared.kept.Beside.{Beside}
use Rattle.price_ladder.specs.declared.kept.Kept.{Kept}
use Rattle.price_ladder.specs.Kept.{kept_at, AreValues, AreLeast, sum_over, IsKept}

-- what is kept belongs to this list
abbrev pub IsBeside : Tables → PriceList → Beside → Type 0
IsBeside inst prices beside = IsKept inst prices beside.entries.items beside.choice.items beside.fixed beside.worth

-- a start of least price for each intervention and the worth were found for these prices and this fixed part
pub record IsSettled (inst : Tables) (entries : List ℤ) (fixed : ℤ) (beside : Beside) : Type 0 where
  pub same : beside.entries.items ≡ entries
  pub least : AreLeast inst beside.entries.items beside.choice.items
  pub part : beside.fixed ≡ fixed
  pub total : beside.worth ≡ sum_over inst (kept_at inst beside.entries.items) beside.choice.items +ℤ fixed
  pub small : unsigned_abs beside.worth < 10 ^ 37

-- all that is kept belongs to the list
pub record IsWhole (inst : Tables) (kept : Kept) : Type 0 where
  pub beside : IsBeside inst kept.prices kept.beside
  pub bases : AreValues inst (risk_base inst kept.prices) kept.bases.items
