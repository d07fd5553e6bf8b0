-- A row as a tree, which may be behind its sums.
use Rattle.std.specs.Prelude.{◌≡◌, ℕ, ◌≤◌, ℤ, Bool, true, false, List, length, map, All}
use Rattle.quantile_index.specs.declared.entry.Entry.{Entry}
use Rattle.quantile_index.specs.Ranking.{IsRanking}
use Rattle.quantile_index.specs.SortKeys.{entry_of, IsKeyIn}

-- 1 to 1,024 sums, of which the tree has the entries in order, or else the keys stand for these; with room for as many
-- sort keys of each width
pub record IsTreeRow (is_behind : Bool) (entries : List Entry) (sums keys : List ℤ) (narrow : ℕ) : Type 0 where
  pub kept : is_behind ≡ false → IsRanking entries sums
  pub late : is_behind ≡ true → IsRanking (map entry_of keys) sums
  pub read : is_behind ≡ true → All (IsKeyIn sums) keys
  pub size : length entries ≡ length sums
  pub some : 1 ≤ length sums
  pub few : length sums ≤ 1024
  pub room : length keys ≡ length sums
  pub narrow_room : narrow ≡ length sums
