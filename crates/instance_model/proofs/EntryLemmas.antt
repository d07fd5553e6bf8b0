-- Places in lists by intervention, allowed start and period of the run.
use Rattle.std.proofs.Common.{◌≡◌, ℕ, zero, suc, ◌+◌, ◌-◌, ◌<◌, ◌≤◌, refl, sym, ◌∙◌, arith, List, length, get_or, take}
use Rattle.std.proofs.Common.{All, sum, Bool, true, false, add-one}
use Rattle.std.proofs.lemmas.List.{take-take}
use Rattle.std.proofs.lemmas.List.Elements.{All-weaker}
use Rattle.std.proofs.lemmas.List.Sums.{sum_by_more, sum_by-take-le, sum_by-le}
use Rattle.std.proofs.lemmas.Bool.Decides.{nat_tests}
use Rattle.instance_model.specs.Naturals.{count_sum}
use Rattle.instance_model.specs.Tables.{Tables, scenarios_of, durations, tmax, delta_of, allowed_of, is_allowed, in_run}
use Rattle.instance_model.specs.Tables.{entries_at, entries_of, all_entries, entries_before, entry_place}
use Rattle.instance_model.specs.Tables.{scenarios_before, periods_before}

-- ---- sums
pub count_sum-zero : (f : ℕ → ℕ) → count_sum 0 f ≡ 0
unfolding count_sum
count_sum-zero f = refl

pub count_sum_more : (n : ℕ) (f : ℕ → ℕ) → count_sum (n + 1) f ≡ count_sum n f + f n
unfolding count_sum
count_sum_more n f = rw add-one refl

pub count_sum_mono : (m n : ℕ) (f : ℕ → ℕ) → count_sum m f ≤ count_sum (m + n) f
unfolding count_sum
count_sum_mono m zero f = let e : m + zero ≡ m = omega arith in rw e (omega arith)
count_sum_mono m (suc n) f = let e : m + suc n ≡ suc (m + n) = omega arith in rw e (omega (arith, count_sum_mono m n f))

pub count_sum_le : (m n : ℕ) (f : ℕ → ℕ) → m ≤ n → count_sum m f ≤ count_sum n f
count_sum_le m n f h = let e : m + (n - m) ≡ n = omega arith in rw e at (count_sum_mono m (n - m) f)

pub count_sum_same : (n : ℕ) (f g : ℕ → ℕ) → ((k : ℕ) → k < n → f k ≡ g k) → count_sum n f ≡ count_sum n g
unfolding count_sum
count_sum_same zero f g h = refl
count_sum_same (suc n) f g h =
    let ih : count_sum n f ≡ count_sum n g = count_sum_same n f g (λ k l. h k (omega arith)) in
    let e : f n ≡ g n = h n (omega arith) in
    rw (ih, e) refl

pub take_sum_mono : (xs : List ℕ) (m n : ℕ) → m ≤ n → sum (take m xs) ≤ sum (take n xs)
take_sum_mono xs m n h = rw (take-take m n xs h) at (sum_by-take-le (λ x. x) (take n xs) m)

pub take_sum_small : (xs : List ℕ) (n : ℕ) → length xs ≤ 512 → All (λ x. (1 ≤ x) × (x ≤ 1024)) xs
    → sum (take n xs) ≤ 524_288
take_sum_small xs n h all =
    let one = sum_by-le (λ x. x) 1024 xs (All-weaker (λ x. (1 ≤ x) × (x ≤ 1024)) (λ x. x ≤ 1024) (λ x p. p.1) xs all) in
    omega (arith, one, sum_by-take-le (λ x. x) xs n)

-- ---- allowed starts and runs
pub allowed_facts : (periods : ℕ) (ds : List ℕ) (s : ℕ) → allowed_of periods ds s ≡ true → (1 ≤ s) × (s ≤ length ds)
    × (s + get_or ds (s - 1) 0 ≤ periods + 1)
unfolding allowed_of
allowed_facts periods ds s e = grind (arith, nat_tests)

pub is_allowed_facts : (inst : Tables) (i s : ℕ) → is_allowed inst i s ≡ true → (1 ≤ s) × (s ≤ tmax inst i)
    × (s + delta_of inst i s ≤ inst.periods + 1)
unfolding is_allowed tmax delta_of
is_allowed_facts inst i s e = allowed_facts inst.periods (durations inst i) s e

-- all that an allowed start and a period of its run give
pub record IsRunning (inst : Tables) (i s t : ℕ) : Type 0 where
  pub start : 1 ≤ s
  pub among : s ≤ tmax inst i
  pub ends : s + delta_of inst i s ≤ inst.periods + 1
  pub from : s ≤ t
  pub to : t < s + delta_of inst i s

in_run_facts : (inst : Tables) (i s t : ℕ) → in_run inst i s t ≡ true → (s ≤ t) × (t < s + delta_of inst i s)
unfolding in_run
in_run_facts inst i s t e = grind (arith, nat_tests)

pub IsRunning-from : (inst : Tables) (i s t : ℕ) → is_allowed inst i s ≡ true
    → in_run inst i s t ≡ true → IsRunning inst i s t
IsRunning-from inst i s t a r =
    let p = is_allowed_facts inst i s a in
    let q = in_run_facts inst i s t r in
    record { start = p.0; among = p.1; ends = p.2; from = q.0; to = q.1 }

-- ---- entries
pub entries_at-allowed : (inst : Tables) (before : ℕ → ℕ) (i s : ℕ) → is_allowed inst i s ≡ true
    → entries_at inst before i s ≡ before (s + delta_of inst i s) - before s
unfolding entries_at
entries_at-allowed inst before i s e = rw e refl

pub entries_at-refused : (inst : Tables) (before : ℕ → ℕ) (i s : ℕ) → is_allowed inst i s ≡ false
    → entries_at inst before i s ≡ 0
unfolding entries_at
entries_at-refused inst before i s e = rw e refl

pub entries_before-first : (inst : Tables) (before : ℕ → ℕ) (i : ℕ)
    → entries_before inst before i 1 ≡ count_sum i (entries_of inst before)
unfolding entries_before count_sum
entries_before-first inst before i = omega arith

pub entries_before_more : (inst : Tables) (before : ℕ → ℕ) (i k : ℕ)
    → entries_before inst before i (k + 1 + 1) ≡ entries_before inst before i (k + 1) + entries_at inst before i (k + 1)
unfolding entries_before
entries_before_more inst before i k =
    let e : k + 1 + 1 - 1 ≡ k + 1 = omega arith in
    let d : k + 1 - 1 ≡ k = omega arith in
    rw (e, d, count_sum_more k (λ j. entries_at inst before i (j + 1))) (omega arith)

pub entries_before_end : (inst : Tables) (before : ℕ → ℕ) (i : ℕ) → entries_before inst before i (tmax inst i + 1)
    ≡ count_sum (i + 1) (entries_of inst before)
unfolding entries_before entries_of
entries_before_end inst before i =
    let d : tmax inst i + 1 - 1 ≡ tmax inst i = omega arith in
    rw (d, count_sum_more i (λ j. count_sum (tmax inst j) (λ k. entries_at inst before j (k + 1)))) refl

entries_before_next : (inst : Tables) (before : ℕ → ℕ) (i s : ℕ) → 1 ≤ s → s ≤ tmax inst i
    → entries_before inst before i s + entries_at inst before i s ≤ count_sum (i + 1) (entries_of inst before)
unfolding entries_before entries_of
entries_before_next inst before i s h l =
    let f : ℕ → ℕ = λ k. entries_at inst before i (k + 1) in
    let e : s - 1 + 1 ≡ s = omega arith in
    let one = rw e at (count_sum_more (s - 1) f) in
    let two = count_sum_le s (tmax inst i) f l in
    let three = count_sum_more i (λ j. count_sum (tmax inst j) (λ k. entries_at inst before j (k + 1))) in
    omega (arith, one, two, three)

-- the entries of one period of a run are among all
pub entry_place_below : (inst : Tables) (before : ℕ → ℕ) (i s t : ℕ) → ((a b : ℕ) → a ≤ b → before a ≤ before b)
    → i < length inst.names → is_allowed inst i s ≡ true → IsRunning inst i s t
    → entry_place inst before i s t + (before (t + 1) - before t) ≤ all_entries inst before
unfolding entry_place all_entries
entry_place_below inst before i s t rises h a r =
    let cells = entries_at-allowed inst before i s a in
    let next = entries_before_next inst before i s r.start r.among in
    let whole = count_sum_le (i + 1) (length inst.names) (entries_of inst before) (omega arith) in
    let up = rises s t r.from in
    let past = rises (t + 1) (s + delta_of inst i s) (omega (arith, r.to)) in
    let step = rises t (t + 1) (omega arith) in
    omega (arith, cells, next, whole, up, past, step)

-- ---- the same entries by another column
pub entries_at_same : (inst : Tables) (f g : ℕ → ℕ) (i s : ℕ) → ((t : ℕ) → 1 ≤ t → t ≤ inst.periods + 1 → f t ≡ g t)
    → entries_at inst f i s ≡ entries_at inst g i s
entries_at_same inst f g i s h = at (is_allowed inst i s) refl
  where
    at : (b : Bool) → is_allowed inst i s ≡ b → entries_at inst f i s ≡ entries_at inst g i s
    at true e =
        let p = is_allowed_facts inst i s e in
        let x : f s ≡ g s = h s p.0 (omega (arith, p)) in
        let y : f (s + delta_of inst i s) ≡ g (s + delta_of inst i s) =
        h (s + delta_of inst i s) (omega (arith, p)) p.2 in
        rw (entries_at-allowed inst f i s e, entries_at-allowed inst g i s e, x, y) refl
    at false e = entries_at-refused inst f i s e ∙ sym (entries_at-refused inst g i s e)

entries_of_same : (inst : Tables) (f g : ℕ → ℕ) (i : ℕ) → ((t : ℕ) → 1 ≤ t → t ≤ inst.periods + 1 → f t ≡ g t)
    → entries_of inst f i ≡ entries_of inst g i
unfolding entries_of
entries_of_same inst f g i h = count_sum_same (tmax inst i) (λ k. entries_at inst f i (k + 1))
    (λ k. entries_at inst g i (k + 1)) (λ k l. entries_at_same inst f g i (k + 1) h)

pub entries_before_same : (inst : Tables) (f g : ℕ → ℕ) (i s : ℕ) → ((t : ℕ) → 1 ≤ t → t ≤ inst.periods + 1 → f t ≡ g t)
    → entries_before inst f i s ≡ entries_before inst g i s
unfolding entries_before
entries_before_same inst f g i s h =
    let one = count_sum_same i (entries_of inst f) (entries_of inst g) (λ j l. entries_of_same inst f g j h) in
    let two = count_sum_same (s - 1) (λ k. entries_at inst f i (k + 1)) (λ k. entries_at inst g i (k + 1))
    (λ k l. entries_at_same inst f g i (k + 1) h) in
    rw (one, two) refl

pub entry_place_same : (inst : Tables) (f g : ℕ → ℕ) (i s t : ℕ) → ((u : ℕ) → 1 ≤ u → u ≤ inst.periods + 1 → f u ≡ g u)
    → 1 ≤ s → s ≤ t → t ≤ inst.periods + 1 → entry_place inst f i s t ≡ entry_place inst g i s t
unfolding entry_place
entry_place_same inst f g i s t h one order ends =
    let x : f s ≡ g s = h s one (omega arith) in
    let y : f t ≡ g t = h t (omega arith) ends in
    rw (entries_before_same inst f g i s h, x, y) refl

-- ---- the two columns
pub scenarios_before_rises : (inst : Tables) (a b : ℕ) → a ≤ b → scenarios_before inst a ≤ scenarios_before inst b
unfolding scenarios_before
scenarios_before_rises inst a b h = take_sum_mono inst.scenarios (a - 1) (b - 1) (omega arith)

pub scenarios_before_more : (inst : Tables) (t : ℕ) → length inst.scenarios ≡ inst.periods → 1 ≤ t → t ≤ inst.periods
    → scenarios_before inst (t + 1) ≡ scenarios_before inst t + scenarios_of inst t
unfolding scenarios_before scenarios_of
scenarios_before_more inst t each h l =
    let e : t + 1 - 1 ≡ (t - 1) + 1 = omega arith in
    rw e (sum_by_more (λ x. x) inst.scenarios (t - 1) 0 (omega arith))

pub periods_before_rises : (a b : ℕ) → a ≤ b → periods_before a ≤ periods_before b
unfolding periods_before
periods_before_rises a b h = omega arith

pub periods_before_more : (t : ℕ) → 1 ≤ t → periods_before (t + 1) ≡ periods_before t + 1
unfolding periods_before
periods_before_more t h = omega arith
