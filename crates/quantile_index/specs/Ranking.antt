-- Entries in order that are those of a list of sums.
use Rattle.std.specs.Prelude.{◌≡◌, ℕ, ◌+◌, ◌≤◌, ℤ, Bool, List, [], ◌∷◌, ◌++◌, length, count_by, ◌==◌}
use Rattle.quantile_index.specs.declared.entry.Entry.{Entry}
use Rattle.quantile_index.specs.Order.{IsOrdered}

-- the entries of the sums of scenarios n, n + 1 and so on
abbrev pub numbered : ℕ → List ℤ → List Entry
numbered n [] = []
numbered n (s ∷ sums) = record { sum = s; scenario = n } ∷ numbered (n + 1) sums

-- the same entries, each as often: every test passes as many of the one list as of the other
pub record IsSameBag (xs ys : List Entry) : Type 0 where
  pub counts : (p : Entry → Bool) → count_by p xs ≡ count_by p ys

-- the entries of the sums of scenarios 1, 2 and so on, in order
pub record IsRanking (entries : List Entry) (sums : List ℤ) : Type 0 where
  pub ordered : IsOrdered entries
  pub bag : IsSameBag entries (numbered 1 sums)

-- the same, for 1 to 1,024 sums, beside room for as many sort keys of each width
pub record IsRow (entries : List Entry) (sums : List ℤ) (keys narrow : ℕ) : Type 0 where
  pub ranking : IsRanking entries sums
  pub some : 1 ≤ length sums
  pub few : length sums ≤ 1024
  pub room : keys ≡ length sums
  pub narrow_room : narrow ≡ length sums

-- the entry with i entries before it has this sum
pub record HasSumAt (entries : List Entry) (i : ℕ) (sum : ℤ) : Type 0 where
  pub front : List Entry
  pub entry : Entry
  pub back : List Entry
  pub is : entries ≡ front ++ entry ∷ back
  pub place : length front ≡ i
  pub sum_is : entry.sum ≡ sum

-- whether an entry is of a scenario
abbrev pub has_scenario : ℕ → Entry → Bool
has_scenario k x = x.scenario == k
