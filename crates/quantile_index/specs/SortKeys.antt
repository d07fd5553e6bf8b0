-- Numbers that each stand for a sum and its scenario, and are in the order of their entries. Cited by private functions
-- only: no part of any promise.
use Rattle.std.specs.Prelude.{◌≡◌, ℕ, ◌+◌, ◌^◌, ◌<◌, ℤ, pos, ◌+ℤ◌, ◌*ℤ◌, Bool, List, length, slice_index_or}
use Rattle.std.specs.Prelude.{unsigned_abs}
use Rattle.std.specs.Ordering.{int_cmp, is_lt}
use Rattle.std.specs.Int.{int_rem_euclid}
use Rattle.fixed_num.specs.Floors.{floor_of}
use Rattle.quantile_index.specs.declared.entry.Entry.{Entry}

-- 1,024 times a sum, and the place of its scenario, which counts from 0 and is below 1,024
unfoldable pub key_of : ℤ → ℕ → ℤ
key_of sum k = (sum *ℤ pos 1024) +ℤ pos k

-- the place of the scenario that a number stands for
unfoldable pub place_of : ℤ → ℕ
place_of key = unsigned_abs (int_rem_euclid key (pos 1024))

-- the entry that a number stands for
unfoldable pub entry_of : ℤ → Entry
entry_of key = record { sum = floor_of key 1024; scenario = place_of key + 1 }

-- a number stands for the sum at its place, and is small
pub record IsKeyIn (sums : List ℤ) (key : ℤ) : Type 0 where
  pub within : place_of key < length sums
  pub value : key ≡ key_of (slice_index_or sums (place_of key) (pos 0)) (place_of key)
  pub small : unsigned_abs key < 10 ^ 30

-- the key that is so far above the least
abbrev pub key_above : ℤ → ℕ → ℤ
key_above least above = least +ℤ pos above

-- the order of keys
abbrev pub key_less : ℤ → ℤ → Bool
key_less x y = is_lt (int_cmp x y)
