-- Price lists whose entries have come up to a key.
use Rattle.std.specs.Prelude.{◌≡◌, ℕ, ◌+◌, ◌≤◌, None}
use Rattle.instance_model.specs.Tables.{Tables}
use Rattle.lagrange_bound.specs.Prices.{PriceList, up_of, lo_of, tail_of, ex_of}
use Rattle.lagrange_bound.specs.Changes.{IsBandPlace}
use Rattle.certificate_text.specs.Grammar.{EntryKey, KeyBelow, up_key, lo_key, tail_key, ex_key}

-- no entry of the list has a key above the last
pub record IsUpTo (inst : Tables) (prices : PriceList) (last : EntryKey) : Type 0 where
  pub up : (c t : ℕ) → IsBandPlace inst c t → KeyBelow last (up_key (c + 1) t) → up_of inst prices c t ≡ 0
  pub lo : (c t : ℕ) → IsBandPlace inst c t → KeyBelow last (lo_key (c + 1) t) → lo_of inst prices c t ≡ 0
  pub tails : (t : ℕ) → 1 ≤ t → t ≤ inst.periods → KeyBelow last (tail_key t) → tail_of prices t ≡ None
  pub ex : (e t : ℕ) → KeyBelow last (ex_key (e + 1) t) → ex_of prices.ex e t ≡ 0
