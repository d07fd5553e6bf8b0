-- The entries of a table by intervention, allowed start and period of the run, one slice after another, are the table.
use Rattle.std.proofs.Common.{◌≡◌, ℕ, ◌+◌, ◌-◌, ◌<◌, ◌≤◌, Bool, true, false, cond, List, [], length, take, drop}
use Rattle.std.proofs.Common.{refl, sym, ◌∙◌, ap, arith}
use Rattle.std.specs.Prelude.{slice_index}
use Rattle.std.proofs.lemmas.Bool.{and_from, le-leb, lt-ltb}
use Rattle.std.proofs.lemmas.List.{take_all}
use Rattle.instance_model.specs.Naturals.{count_sum}
use Rattle.instance_model.specs.Tables.{Tables, is_allowed, in_run, tmax, delta_of, durations, allowed_of, entries_at}
use Rattle.instance_model.specs.Tables.{entries_of, all_entries, entries_before, entry_place}
use Rattle.instance_model.proofs.EntryLemmas.{is_allowed_facts, entries_at-allowed, entries_at-refused}
use Rattle.json_grammar.specs.Tree.{Tree}
use Rattle.instance_shape.specs.LookUp as file
use Rattle.instance_shape.specs.FileTables.{lists_below, each_run}
use Rattle.instance_shape.proofs.CountSums.{column_grows}
use Rattle.instance_writer.proofs.TextListed.{lists_below_same, slices}

-- ---- by start and period of the run

-- what is listed for an intervention at each allowed start, in each period of its run
abbrev pub run_lists : {A : Type 0} → Tables → ℕ → (ℕ → ℕ → List A) → List A
run_lists inst i g = lists_below (tmax inst i) (λ k. cond (is_allowed inst i (k + 1))
    (lists_below (delta_of inst i (k + 1)) (λ j. g (k + 1) (k + 1 + j))) [])

pub runs_at : (inst : Tables) (i s j : ℕ) → j < delta_of inst i s → in_run inst i s (s + j) ≡ true
unfolding in_run
runs_at inst i s j l =
    and_from _ _ (le-leb s (s + j) (omega arith)) (lt-ltb (s + j) (s + delta_of inst i s) (omega arith))

-- the lists of a file are those of the tables with its durations
pub each_run_is : {A : Type 0} (inst : Tables) (i : ℕ) (root v : Tree) (f : Tree → ℕ → ℕ → List A)
    (g : ℕ → ℕ → List A) → file.periods root ≡ inst.periods → file.durations v ≡ durations inst i
    → ((s t : ℕ) → is_allowed inst i s ≡ true → in_run inst i s t ≡ true → f v s t ≡ g s t)
    → each_run root f v ≡ run_lists inst i g
unfolding is_allowed tmax delta_of
each_run_is inst i root v f g p d h =
    ap (λ n. lists_below (length (file.durations v)) (λ k. cond (allowed_of n (file.durations v) (k + 1))
    (lists_below (slice_index (file.durations v) k) (λ j. f v (k + 1) (k + 1 + j))) [])) p
    ∙ ap (λ ds. lists_below (length ds) (λ k. cond (allowed_of inst.periods ds (k + 1))
    (lists_below (slice_index ds k) (λ j. f v (k + 1) (k + 1 + j))) [])) d
    ∙ lists_below_same (length (durations inst i)) _ _ (λ k l. by k (allowed_of inst.periods (durations inst i) (k + 1))
    refl)
  where
    by : (k : ℕ) (b : Bool) → allowed_of inst.periods (durations inst i) (k + 1) ≡ b
        → cond b (lists_below (slice_index (durations inst i) k) (λ j. f v (k + 1) (k + 1 + j))) []
        ≡ cond b (lists_below (slice_index (durations inst i) (k + 1 - 1)) (λ j. g (k + 1) (k + 1 + j))) []
    by k false e = refl
    by k true e =
        let same : k + 1 - 1 ≡ k = omega arith in
        let d : slice_index (durations inst i) (k + 1 - 1) ≡ slice_index (durations inst i) k =
        ap (slice_index (durations inst i)) same in
        lists_below_same (slice_index (durations inst i) k) _ _
        (λ j l. h (k + 1) (k + 1 + j) e (runs_at inst i (k + 1) j (omega (arith, l, d))))
        ∙ ap (λ n. lists_below n (λ j. g (k + 1) (k + 1 + j))) (sym d)

-- ---- slices

-- how a column of a table goes on: by so many entries in each period
pub record Grows (inst : Tables) (before size : ℕ → ℕ) : Type 0 where
  pub grows : (t : ℕ) → 1 ≤ t → t ≤ inst.periods → before (t + 1) ≡ before t + size t

module _ {A : Type 0} (inst : Tables) (before size : ℕ → ℕ) (up : Grows inst before size) (xs : List A) where
  pub grown : (i s j : ℕ) → is_allowed inst i s ≡ true → j ≤ delta_of inst i s
      → before (s + j) ≡ before s + count_sum j (λ j. size (s + j))
  grown i s j a l =
      let p = is_allowed_facts inst i s a in
      column_grows before (λ j. size (s + j)) s j (λ n m. up.grows (s + n) (omega (arith, p)) (omega (arith, p)))

  -- at one start
  start_slice : (i s : ℕ) (g : ℕ → List A) (b : Bool) → is_allowed inst i s ≡ b
      → (b ≡ true → (j : ℕ) → j < delta_of inst i s
      → g (s + j) ≡ take (size (s + j)) (drop (entry_place inst before i s (s + j)) xs))
      → cond b (lists_below (delta_of inst i s) (λ j. g (s + j))) []
      ≡ take (entries_at inst before i s) (drop (entries_before inst before i s) xs)
  unfolding entry_place
  start_slice i s g false a h =
      ap (λ n. take n (drop (entries_before inst before i s) xs)) (sym (entries_at-refused inst before i s a))
  start_slice i s g true a h =
      let d = delta_of inst i s in
      let size_is : count_sum d (λ j. size (s + j)) ≡ entries_at inst before i s =
      omega (arith, entries_at-allowed inst before i s a, grown i s d a (omega arith)) in
      slices xs (entries_before inst before i s) d (λ j. size (s + j)) (λ j. g (s + j))
      (λ j l.
      let place : entries_before inst before i s + (before (s + j) - before s)
      ≡ entries_before inst before i s + count_sum j (λ j. size (s + j)) =
      omega (arith, grown i s j a (omega arith)) in
      h refl j l ∙ ap (λ p. take (size (s + j)) (drop p xs)) place)
      ∙ ap (λ n. take n (drop (entries_before inst before i s) xs)) size_is

  -- the slices of an intervention
  row_slice : (i : ℕ) (g : ℕ → ℕ → List A)
      → ((s t : ℕ) → is_allowed inst i s ≡ true → in_run inst i s t ≡ true
      → g s t ≡ take (size t) (drop (entry_place inst before i s t) xs))
      → run_lists inst i g ≡ take (entries_of inst before i) (drop (count_sum i (entries_of inst before)) xs)
  unfolding entries_of entries_before
  row_slice i g h =
      slices xs (count_sum i (entries_of inst before)) (tmax inst i) (λ k. entries_at inst before i (k + 1)) _
      (λ k l.
      let same : k + 1 - 1 ≡ k = omega arith in
      start_slice i (k + 1) (g (k + 1)) (is_allowed inst i (k + 1)) refl
      (λ a j m. h (k + 1) (k + 1 + j) a (runs_at inst i (k + 1) j m))
      ∙ ap (λ n. take (entries_at inst before i (k + 1)) (drop (count_sum i (entries_of inst before) + count_sum n
      (λ k. entries_at inst before i (k + 1))) xs)) same)

  -- all of them are the table
  pub table_listed : (g : ℕ → ℕ → ℕ → List A) → length xs ≡ all_entries inst before
      → ((i s t : ℕ) → i < length inst.names → is_allowed inst i s ≡ true → in_run inst i s t ≡ true
      → g i s t ≡ take (size t) (drop (entry_place inst before i s t) xs))
      → lists_below (length inst.names) (λ i. run_lists inst i (g i)) ≡ xs
  unfolding all_entries
  table_listed g long h =
      slices xs 0 (length inst.names) (entries_of inst before) (λ i. run_lists inst i (g i))
      (λ i l.
      let zero : 0 + count_sum i (entries_of inst before) ≡ count_sum i (entries_of inst before) = omega arith in
      row_slice i (g i) (λ s t a r. h i s t l a r)
      ∙ ap (λ p. take (entries_of inst before i) (drop p xs)) (sym zero))
      ∙ take_all (count_sum (length inst.names) (entries_of inst before)) xs (omega (arith, long))
