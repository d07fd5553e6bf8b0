-- Where the price of an exclusion in a period stands in an ascending list, or belongs.
use Rattle.std.specs.Prelude.{◌≡◌, ℕ, ◌<◌, ◌≤◌, ◌⊎◌, List, length, slice_index_or}
use Rattle.lagrange_bound.specs.declared.ex_price.ExPrice.{ExPrice}

-- a number of an exclusion and one of a period stand before two others
pub record PairBefore (d u e t : ℕ) : Type 0 where
  pub before : (d < e) ⊎ ((d ≡ e) × (u < t))

-- the price at k is that of exclusion e in period t
pub record StandsAt (xs : List ExPrice) (e t k : ℕ) : Type 0 where
  pub within : k < length xs
  pub exclusion : (d : ExPrice) → (slice_index_or xs k d).exclusion ≡ e
  pub period : (d : ExPrice) → (slice_index_or xs k d).period ≡ t

-- exclusion e has no price in period t, and one belongs at k
pub record BelongsAt (xs : List ExPrice) (e t k : ℕ) : Type 0 where
  pub within : k ≤ length xs
  pub before : (j : ℕ) (d : ExPrice) → j < k
      → PairBefore (slice_index_or xs j d).exclusion (slice_index_or xs j d).period e t
  pub after : (j : ℕ) (d : ExPrice) → k ≤ j → j < length xs
      → PairBefore e t (slice_index_or xs j d).exclusion (slice_index_or xs j d).period
