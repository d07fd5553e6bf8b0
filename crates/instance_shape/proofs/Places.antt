-- Where the list of an intervention, an allowed start and a period of its run stands in its table.
use Rattle.std.proofs.Common.{◌≡◌, ℕ, zero, suc, ◌+◌, ◌-◌, ◌<◌, ◌≤◌, true, cond, List, [], ◌∷◌, ◌++◌, length, get_or}
use Rattle.std.proofs.Common.{sym, ◌∙◌, ap, arith, ℤ, inl, inr, ◌⊎◌}
use Rattle.std.specs.Prelude.{All, slice_index, slice_index_or}
use Rattle.std.proofs.lemmas.Bool.{cases_lt}
use Rattle.std.proofs.lemmas.List.{get_or_append_left, get_or-append-add}
use Rattle.std.proofs.lemmas.List.Elements.{All-get_or}
use Rattle.json_grammar.specs.Tree.{Tree}
use Rattle.instance_model.specs.Naturals.{count_sum}
use Rattle.instance_model.specs.Tables.{allowed_of, entries_of, entries_at, entries_before, entry_place, tmax}
use Rattle.instance_model.specs.Tables.{is_allowed, delta_of}
use Rattle.instance_model.proofs.EntryLemmas.{count_sum_le, count_sum_more, count_sum_same}
use Rattle.instance_shape.specs.LookUp.{Entry, durations, periods, interventions}
use Rattle.instance_shape.specs.FileTables.{tables, lists_below, all_below, each_run}
use Rattle.instance_shape.proofs.CountSums.{column_grows, count_sum-shift}
use Rattle.instance_shape.proofs.ListsBelow.{length-lists_below}
use Rattle.instance_shape.proofs.RunLengths.{start_size, row_size, start_list, start_length, runs_length, durations_are}
use Rattle.instance_shape.proofs.RunLengths.{GrowsAs}

-- ---- lists one after another

-- a term of a sum behind the terms before it is within the sum
within_sum : (i n : ℕ) (g : ℕ → ℕ) → i < n → count_sum i g + g i ≤ count_sum n g
within_sum i n g h = omega (arith, count_sum_more i g, count_sum_le (i + 1) n g (omega arith))

-- element q of list i stands behind the lists before it
lists_below_at : {A : Type 0} (n i q : ℕ) (f : ℕ → List A) (d : A) → i < n → q < length (f i)
    → get_or (lists_below n f) (count_sum i (λ k. length (f k)) + q) d ≡ get_or (f i) q d
lists_below_at zero i q f d h l = absurd (omega arith)
lists_below_at (suc n) i q f d h l = by (cases_lt i n) (λ m. lists_below_at n i q f d m l)
  where
    by : (i < n) ⊎ (n ≤ i)
        → (i < n → get_or (lists_below n f) (count_sum i (λ k. length (f k)) + q) d ≡ get_or (f i) q d)
        → get_or (lists_below n f ++ f n) (count_sum i (λ k. length (f k)) + q) d ≡ get_or (f i) q d
    by (inl m) r =
        get_or_append_left (lists_below n f) (f n) d (count_sum i (λ k. length (f k)) + q)
        (omega (arith, length-lists_below n f, within_sum i n (λ k. length (f k)) m))
        ∙ r m
    by (inr m) r =
        let same : i ≡ n = omega arith in
        ap (λ p. get_or (lists_below n f ++ f n) p d)
        (omega (arith, length-lists_below n f, ap (λ k. count_sum k (λ j. length (f j))) same))
        ∙ get_or-append-add (lists_below n f) (f n) q d
        ∙ ap (λ k. get_or (f k) q d) (sym same)

-- the same of the lists that the values under some keys give
all_below_at : {A : Type 0} (f : Tree → List A) (es : List Entry) (i q : ℕ) (e : Entry) (d : A) → i < length es
    → q < length (f (slice_index_or es i e).value)
    → get_or (all_below es f) (count_sum i (λ k. length (f (slice_index_or es k e).value)) + q) d
    ≡ get_or (f (slice_index_or es i e).value) q d
unfolding count_sum
all_below_at f [] i q e d h l = absurd (omega arith)
all_below_at f (x ∷ es) zero q e d h l = ap (λ p. get_or (f x.value ++ all_below es f) p d) (omega arith)
    ∙ get_or_append_left (f x.value) (all_below es f) d q l
all_below_at f (x ∷ es) (suc i) q e d h l =
    let rest = count_sum i (λ k. length (f (slice_index_or es k e).value)) in
    let place : count_sum (suc i) (λ k. length (f (slice_index_or (x ∷ es) k e).value)) + q ≡ length (f x.value) + (rest
    + q) = omega (arith, count_sum-shift i (λ k. length (f (slice_index_or (x ∷ es) k e).value))) in
    ap (λ p. get_or (f x.value ++ all_below es f) p d) place
    ∙ get_or-append-add (f x.value) (all_below es f) (rest + q) d
    ∙ all_below_at f es i q e d (omega arith) l

-- ---- one intervention

-- how many elements the lists of a start before period k + 1 + j have together
abbrev before_period : {A : Type 0} → (Tree → ℕ → ℕ → List A) → Tree → ℕ → ℕ → ℕ
before_period f v k j = count_sum j (λ n. length (f v (k + 1) (k + 1 + n)))

-- how many elements the lists of an intervention before start k + 1 have together
abbrev before_start : {A : Type 0} → Tree → (Tree → ℕ → ℕ → List A) → Tree → ℕ → ℕ
before_start root f v k = count_sum k (λ m. length (start_list root f v m))

-- start k + 1 is one of the intervention's and allowed, and period k + 1 + j is in its run
pub record IsInRun (root v : Tree) (k j : ℕ) : Type 0 where
  pub among : k < length (durations v)
  pub allowed : allowed_of (periods root) (durations v) (k + 1) ≡ true
  pub within : j < slice_index (durations v) k

start_is : {A : Type 0} (root : Tree) (f : Tree → ℕ → ℕ → List A) (v : Tree) (k : ℕ)
    → allowed_of (periods root) (durations v) (k + 1) ≡ true
    → start_list root f v k ≡ lists_below (slice_index (durations v) k) (λ n. f v (k + 1) (k + 1 + n))
start_is root f v k a = ap (λ b. cond b (lists_below (slice_index (durations v) k) (λ n. f v (k + 1) (k + 1 + n))) []) a

in_start : {A : Type 0} (root : Tree) (f : Tree → ℕ → ℕ → List A) (v : Tree) (k j q : ℕ) → IsInRun root v k j
    → q < length (f v (k + 1) (k + 1 + j)) → before_period f v k j + q < length (start_list root f v k)
in_start root f v k j q r l =
    omega (
      arith,
      ap length (start_is root f v k r.allowed),
      length-lists_below (slice_index (durations v) k) (λ n. f v (k + 1) (k + 1 + n)),
      within_sum j (slice_index (durations v) k) (λ n. length (f v (k + 1) (k + 1 + n))) r.within,
    )

in_row : {A : Type 0} (root : Tree) (f : Tree → ℕ → ℕ → List A) (v : Tree) (k j q : ℕ) → IsInRun root v k j
    → q < length (f v (k + 1) (k + 1 + j)) → before_start root f v k + (before_period f v k j + q)
    < length (each_run root f v)
in_row root f v k j q r l =
    omega (
      arith,
      in_start root f v k j q r l,
      length-lists_below (length (durations v)) (start_list root f v),
      within_sum k (length (durations v)) (λ m. length (start_list root f v m)) r.among,
    )

row_at : {A : Type 0} (root : Tree) (f : Tree → ℕ → ℕ → List A) (v : Tree) (k j q : ℕ) (d : A) → IsInRun root v k j
    → q < length (f v (k + 1) (k + 1 + j))
    → get_or (each_run root f v) (before_start root f v k + (before_period f v k j + q)) d
    ≡ get_or (f v (k + 1) (k + 1 + j)) q d
row_at root f v k j q d r l =
    lists_below_at (length (durations v)) k (before_period f v k j + q) (start_list root f v) d r.among
    (in_start root f v k j q r l)
    ∙ ap (λ xs. get_or xs (before_period f v k j + q) d) (start_is root f v k r.allowed)
    ∙ lists_below_at (slice_index (durations v) k) j q (λ n. f v (k + 1) (k + 1 + n)) d r.within l

-- ---- all interventions

entries_at_is : (slack : ℤ) (root : Tree) (before : ℕ → ℕ) (i k : ℕ) (e : Entry) → i < length (interventions root)
    → entries_at (tables slack root) before i (k + 1)
    ≡ start_size (periods root) before (durations (slice_index_or (interventions root) i e).value) k
unfolding entries_at is_allowed delta_of
entries_at_is slack root before i k e l =
    ap (λ ds. start_size (periods root) before ds k) (durations_are slack root i e l)

entries_of_is : (slack : ℤ) (root : Tree) (before : ℕ → ℕ) (i : ℕ) (e : Entry) → i < length (interventions root)
    → entries_of (tables slack root) before i
    ≡ row_size (periods root) before (durations (slice_index_or (interventions root) i e).value)
unfolding entries_of entries_at tmax is_allowed delta_of
entries_of_is slack root before i e l = ap (row_size (periods root) before) (durations_are slack root i e l)

place_is : {A : Type 0} (slack : ℤ) (root : Tree) (f : Tree → ℕ → ℕ → List A) (before : ℕ → ℕ) (i k j : ℕ) (e : Entry)
    → All (λ x. GrowsAs root f before x.value) (interventions root) → i < length (interventions root)
    → IsInRun root (slice_index_or (interventions root) i e).value k j
    → entry_place (tables slack root) before i (k + 1) (k + 1 + j)
    ≡ count_sum i (λ m. length (each_run root f (slice_index_or (interventions root) m e).value))
    + (before_start root f (slice_index_or (interventions root) i e).value k
    + before_period f (slice_index_or (interventions root) i e).value k j)
unfolding entry_place entries_before
place_is slack root f before i k j e g h r =
    let inst = tables slack root in
    let v = (slice_index_or (interventions root) i e).value in
    let grows = λ (m : ℕ) (l : m < length (interventions root)). All-get_or (λ x. GrowsAs root f before x.value)
    (interventions root) m e l g in
    let same : k + 1 - 1 ≡ k = omega arith in
    omega (
      arith,
      count_sum_same i (entries_of inst before)
          (λ m. length (each_run root f (slice_index_or (interventions root) m e).value))
          (λ m l. entries_of_is slack root before m e (omega arith)
          ∙ sym (runs_length root f before (slice_index_or (interventions root) m e).value (grows m (omega arith)))),
      ap (λ n. count_sum n (λ m. entries_at inst before i (m + 1))) same,
      count_sum_same k (λ m. entries_at inst before i (m + 1)) (λ m. length (start_list root f v m))
          (λ m l. entries_at_is slack root before i m e h
          ∙ sym (start_length root f before v m (grows i h) (omega (arith, l, r.among)))),
      column_grows before (λ n. length (f v (k + 1) (k + 1 + n))) (k + 1) j
          (λ n l. grows i h k n r.among r.allowed (omega (arith, l, r.within))),
    )

-- element q of the list of an intervention, an allowed start and a period of its
-- run stands q places behind their first entry
pub table_at : {A : Type 0} (slack : ℤ) (root : Tree) (f : Tree → ℕ → ℕ → List A) (before : ℕ → ℕ)
    (i k j q : ℕ) (e : Entry) (d : A)
    → All (λ x. GrowsAs root f before x.value) (interventions root) → i < length (interventions root)
    → IsInRun root (slice_index_or (interventions root) i e).value k j
    → q < length (f (slice_index_or (interventions root) i e).value (k + 1) (k + 1 + j))
    → get_or (all_below (interventions root) (each_run root f)) (entry_place (tables slack root) before i (k + 1)
    (k + 1 + j) + q) d ≡ get_or (f (slice_index_or (interventions root) i e).value (k + 1) (k + 1 + j)) q d
table_at slack root f before i k j q e d g h r l =
    let v = (slice_index_or (interventions root) i e).value in
    ap (λ p. get_or (all_below (interventions root) (each_run root f)) p d)
    (omega (arith, place_is slack root f before i k j e g h r))
    ∙ all_below_at (each_run root f) (interventions root) i (before_start root f v k + (before_period f v k j + q)) e d
    h (in_row root f v k j q r l)
    ∙ row_at root f v k j q d r l
