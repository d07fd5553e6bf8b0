-- Columns and rows of offsets.
use Rattle.std.proofs.Common.{◌≡◌, ℕ, zero, suc, ◌+◌, ◌-◌, ◌<◌, ◌≤◌, refl, sym, ◌∙◌, ap, subst, arith, List, [], ◌∷◌}
use Rattle.std.proofs.Common.{◌++◌, length, get_or, true, Vec, below_more, ℤ, pos}
use Rattle.std.proofs.Common.{take, drop}
use Rattle.std.proofs.lemmas.Grind.{common_steps}
use Rattle.std.proofs.lemmas.List.{length-take, length-drop, get_or-take, get_or-drop}
use Rattle.fixed_num.specs.Sums.{list_of}
use Rattle.fixed_num.proofs.SumLemmas.{list_of-from}
use Rattle.std.specs.declared.alloc.Global.{Global}
use Rattle.instance_model.specs.declared.parts.Parts.{Parts}
use Rattle.instance_model.specs.declared.offsets.Offsets.{Offsets}
use Rattle.instance_model.specs.Tables.{Tables, scenarios_of, tmax, delta_of, is_allowed, in_run, entries_at}
use Rattle.instance_model.specs.Tables.{entries_of}
use Rattle.instance_model.specs.Tables.{entries_before, entry_place, scenarios_before, periods_before, risk_of}
use Rattle.instance_model.specs.Tables.{risk_place}
use Rattle.instance_model.specs.Naturals.{count_sum}
use Rattle.instance_model.specs.RunRisks.{list_place}
use Rattle.instance_model.specs.Fitting.{IsFitting}
use Rattle.instance_model.specs.View.{tables_of, rows_of, column_at, IsColumnOf, AreRowPlaces, AreOffsets, AreSums}
use Rattle.instance_model.proofs.EntryLemmas.{IsRunning, IsRunning-from, entries_at-allowed, entry_place_same}
use Rattle.instance_model.proofs.EntryLemmas.{take_sum_mono, take_sum_small, count_sum-zero, count_sum_same}
use Rattle.instance_model.proofs.EntryLemmas.{entries_at_same}

-- how many entries a start has, by a column
pub entries_at_is : (inst : Tables) (column : List ℕ) (i s : ℕ) → is_allowed inst i s ≡ true
    → get_or column (s + delta_of inst i s - 1) 0 - get_or column (s - 1) 0 ≡ entries_at inst (column_at column) i s
entries_at_is inst column i s a = sym (entries_at-allowed inst (column_at column) i s a)

-- the sums of the scenario counts are a column
pub IsColumnOf-scenarios : (p : Parts) (sums : List ℕ) → IsFitting (tables_of p) → AreSums p.scenarios.items sums
    → IsColumnOf p.periods (scenarios_before (tables_of p)) sums
unfolding scenarios_before
IsColumnOf-scenarios p sums f a =
    record {
      sound = record {
        each = omega (arith, a.each, f.scenarios_each);
        rises = λ x y l m. omega (
          arith,
          a.up_to x (omega (arith, f.scenarios_each)),
          a.up_to y (omega (arith, f.scenarios_each)),
          take_sum_mono p.scenarios.items x y l,
        );
        small = λ x l. omega (
          arith,
          a.up_to x (omega (arith, f.scenarios_each)),
          take_sum_small p.scenarios.items x
              (omega (arith, f.scenarios_each, f.few_periods)) f.scenarios_few,
        );
      };
      values = λ t l m. a.up_to (t - 1) (omega (arith, f.scenarios_each));
    }

-- the numbers from 0 are a column
pub IsColumnOf-periods : (periods : ℕ) (numbers : List ℕ) → periods ≤ 512 → length numbers ≡ periods + 1
    → ((k : ℕ) → k < periods + 1 → get_or numbers k 0 ≡ k) → IsColumnOf periods periods_before numbers
unfolding periods_before
IsColumnOf-periods periods numbers few each h =
    record {
      sound = record {
        each = each;
        rises = λ x y l m. omega (arith, h x (omega arith), h y (omega arith));
        small = λ x l. omega (arith, h x (omega arith));
      };
      values = λ t l m. h (t - 1) (omega arith);
    }

-- one more row
pub rows_more : (P : ℕ → List ℕ → Type 0) (rows : List (Vec ℕ Global)) (row : Vec ℕ Global) (i : ℕ) → length rows ≡ i
    → ((j : ℕ) → j < i → P j (get_or (rows_of rows) j [])) → P i row.items → (j : ℕ) → j < i + 1
    → P j (get_or (rows_of (rows ++ row ∷ [])) j [])
rows_more P rows row i e before here = below_more _ i (λ j h. subst (P j) (sym (old rows j (omega arith))) (before j h))
    (subst (P i) (sym (new rows i e)) here)
  where
    old : (rs : List (Vec ℕ Global)) (j : ℕ) → j < length rs
        → get_or (rows_of (rs ++ row ∷ [])) j [] ≡ get_or (rows_of rs) j []
    old [] j h = absurd (omega (arith, h))
    old (r ∷ rs) zero h = refl
    old (r ∷ rs) (suc j) h = old rs j (omega (arith, h))

    new : (rs : List (Vec ℕ Global)) (j : ℕ) → length rs ≡ j → get_or (rows_of (rs ++ row ∷ [])) j [] ≡ row.items
    new [] zero h = refl
    new [] (suc j) h = absurd (omega (arith, h))
    new (r ∷ rs) zero h = absurd (omega (arith, h))
    new (r ∷ rs) (suc j) h = new rs j (omega (arith, h))

pub row_read : (rows : List (Vec ℕ Global)) (i : ℕ) (v : Vec ℕ Global) → i < length rows → v ≡ get_or rows i v
    → get_or (rows_of rows) i [] ≡ v.items
row_read rows i v h e = grind (arith, common_steps)

-- what the place of a period of a run asks of the offsets, and what it is
pub record PlaceFacts (inst : Tables) (o : Offsets) (before : ℕ → ℕ) (i s t : ℕ) : Type 0 where
  pub number : i < length o.places.items
  pub start : 1 ≤ s
  pub among : s ≤ length (get_or (rows_of o.places.items) i [])
  pub order : s ≤ t
  pub ends : t ≤ length o.before.items
  pub rises : get_or o.before.items (s - 1) 0 ≤ get_or o.before.items (t - 1) 0
  pub place : get_or (get_or (rows_of o.places.items) i []) (s - 1) 0 + (get_or o.before.items (t - 1) 0
      - get_or o.before.items (s - 1) 0) ≡ entry_place inst before i s t

place_is : (inst : Tables) (column row : List ℕ) (i s t : ℕ) → AreRowPlaces inst (column_at column) i row → 1 ≤ s
    → s ≤ tmax inst i → get_or row (s - 1) 0 + (get_or column (t - 1) 0 - get_or column (s - 1) 0)
    ≡ entry_place inst (column_at column) i s t
unfolding entry_place
place_is inst column row i s t w one among =
    let e : s - 1 + 1 ≡ s = omega arith in
    let q = rw e at (w.places (s - 1) (omega arith)) in
    rw q refl

PlaceFacts-own : (p : Parts) (o : Offsets) (before : ℕ → ℕ) (i s t : ℕ) → IsFitting (tables_of p)
    → AreOffsets (tables_of p) o → IsColumnOf p.periods before o.before.items → i < length (tables_of p).names
    → IsRunning (tables_of p) i s t → PlaceFacts (tables_of p) o before i s t
PlaceFacts-own p o before i s t f a c h r =
    let number : i < length (tables_of p).delta = omega (arith, h, f.delta_each) in
    let w = a.rows i number in
    let last : t ≤ p.periods = omega (arith, r.to, r.ends) in
    record {
      number = omega (arith, number, a.each);
      start = r.start;
      among = omega (arith, r.among, w.each);
      order = r.from;
      ends = omega (arith, last, c.sound.each);
      rises = c.sound.rises (s - 1) (t - 1) (omega (arith, r.from)) (omega (arith, last));
      place = place_is (tables_of p) o.before.items (get_or (rows_of o.places.items) i []) i s t w r.start r.among
          ∙ entry_place_same (tables_of p) (column_at o.before.items) before i s t c.values r.start
          r.from (omega (arith, last));
    }

pub PlaceFacts-from : (p : Parts) (inst : Tables) (o : Offsets) (before : ℕ → ℕ) (i s t : ℕ) → tables_of p ≡ inst
    → IsFitting (tables_of p) → AreOffsets (tables_of p) o → IsColumnOf p.periods before o.before.items
    → i < length inst.names → is_allowed inst i s ≡ true → in_run inst i s t ≡ true → PlaceFacts inst o before i s t
PlaceFacts-from p inst o before i s t e f a c =
    subst (λ (x : Tables). i < length x.names → is_allowed x i s ≡ true → in_run x i s t ≡ true
    → PlaceFacts x o before i s t) e
    (λ h al ru. PlaceFacts-own p o before i s t f a c h (IsRunning-from (tables_of p) i s t al ru))

-- among the lists of an intervention
lists_before : (inst : Tables) (column row : List ℕ) (i k : ℕ) → AreRowPlaces inst (column_at column) i row
    → k < tmax inst i → get_or row k 0 ≡ count_sum i (entries_of inst (column_at column))
    + count_sum k (λ j. entries_at inst (column_at column) i (j + 1))
unfolding entries_before
lists_before inst column row i k w h =
    let e : k + 1 - 1 ≡ k = omega arith in
    w.places k h ∙ ap (λ (n : ℕ). count_sum i (entries_of inst (column_at column))
    + count_sum n (λ j. entries_at inst (column_at column) i (j + 1))) e

list_place_own : (p : Parts) (o : Offsets) (i s t : ℕ) → IsFitting (tables_of p) → AreOffsets (tables_of p) o
    → IsColumnOf p.periods periods_before o.before.items → i < length (tables_of p).names
    → IsRunning (tables_of p) i s t
    → (get_or (get_or (rows_of o.places.items) i []) 0 0 ≤ get_or (get_or (rows_of o.places.items) i []) (s - 1) 0)
    × (get_or (get_or (rows_of o.places.items) i []) (s - 1) 0 + (get_or o.before.items (t - 1) 0
    - get_or o.before.items (s - 1) 0) - get_or (get_or (rows_of o.places.items) i []) 0 0
    ≡ list_place (tables_of p) i s t)
unfolding list_place periods_before
list_place_own p o i s t f a c h r =
    let inst = tables_of p in
    let column = o.before.items in
    let row = get_or (rows_of o.places.items) i [] in
    let w = a.rows i (omega (arith, h, f.delta_each)) in
    let here = lists_before inst column row i (s - 1) w (omega (arith, r.start, r.among)) in
    let first = lists_before inst column row i 0 w (omega (arith, r.start, r.among)) in
    let none = count_sum-zero (λ j. entries_at inst (column_at column) i (j + 1)) in
    let same = count_sum_same (s - 1) (λ j. entries_at inst (column_at column) i (j + 1))
    (λ j. entries_at inst periods_before i (j + 1))
    (λ j l. entries_at_same inst (column_at column) periods_before i (j + 1) c.values) in
    let last : t ≤ p.periods = omega (arith, r.to, r.ends) in
    let from = c.values s r.start (omega (arith, r.from, last)) in
    let to = c.values t (omega (arith, r.start, r.from)) (omega (arith, last)) in
    (omega (arith, here, first, none), omega (arith, here, first, none, same, from, to, r.start, r.from))

pub list_place_from : (p : Parts) (inst : Tables) (o : Offsets) (i s t : ℕ) → tables_of p ≡ inst
    → IsFitting (tables_of p) → AreOffsets (tables_of p) o → IsColumnOf p.periods periods_before o.before.items
    → i < length inst.names → is_allowed inst i s ≡ true → in_run inst i s t ≡ true
    → (get_or (get_or (rows_of o.places.items) i []) 0 0 ≤ get_or (get_or (rows_of o.places.items) i []) (s - 1) 0)
    × (get_or (get_or (rows_of o.places.items) i []) (s - 1) 0 + (get_or o.before.items (t - 1) 0
    - get_or o.before.items (s - 1) 0) - get_or (get_or (rows_of o.places.items) i []) 0 0 ≡ list_place inst i s t)
list_place_from p inst o i s t e f a c =
    subst (λ (x : Tables). i < length x.names → is_allowed x i s ≡ true → in_run x i s t ≡ true
    → (get_or (get_or (rows_of o.places.items) i []) 0 0 ≤ get_or (get_or (rows_of o.places.items) i []) (s - 1) 0)
    × (get_or (get_or (rows_of o.places.items) i []) (s - 1) 0 + (get_or o.before.items (t - 1) 0
    - get_or o.before.items (s - 1) 0) - get_or (get_or (rows_of o.places.items) i []) 0 0 ≡ list_place x i s t)) e
    (λ h al ru. list_place_own p o i s t f a c h (IsRunning-from (tables_of p) i s t al ru))

-- the risks of a period, one behind the other
pub risks_read : (inst : Tables) (i s t place : ℕ) (risks : List ℤ)
    → place ≡ entry_place inst (scenarios_before inst) i s t → place + scenarios_of inst t ≤ length inst.risks
    → risks ≡ inst.risks → take (place + scenarios_of inst t - place) (drop place risks)
    ≡ list_of (scenarios_of inst t) (λ k. risk_of inst i s t (k + 1))
unfolding risk_of risk_place
risks_read inst i s t place risks m room same =
    let n = scenarios_of inst t in
    let back : place + n - place ≡ n = omega arith in
    let each : length (take n (drop place risks)) ≡ n =
    omega (arith, length-take n (drop place risks), length-drop place risks, ap length same, room) in
    ap (λ (j : ℕ). take j (drop place risks)) back
    ∙ list_of-from n (λ k. risk_of inst i s t (k + 1)) (take n (drop place risks)) each (λ k l.
    let next : k ≡ k + 1 - 1 = omega arith in
    get_or-take n (drop place risks) k (pos 0) l
    ∙ get_or-drop place risks k (pos 0)
    ∙ ap (λ (xs : List ℤ). get_or xs (place + k) (pos 0)) same
    ∙ ap (λ (j : ℕ). get_or inst.risks (place + j) (pos 0)) next
    ∙ ap (λ (j : ℕ). get_or inst.risks (j + (k + 1 - 1)) (pos 0)) m)

-- the risks of a period, in a list of their own
pub list_read : (inst : Tables) (i s t : ℕ) (risks : List ℤ) → length risks ≡ scenarios_of inst t
    → ((k : ℕ) → k < scenarios_of inst t
    → get_or inst.risks (entry_place inst (scenarios_before inst) i s t + k) (pos 0) ≡ get_or risks k (pos 0))
    → risks ≡ list_of (scenarios_of inst t) (λ k. risk_of inst i s t (k + 1))
unfolding risk_of risk_place
list_read inst i s t risks each h =
    list_of-from (scenarios_of inst t) (λ k. risk_of inst i s t (k + 1)) risks each (λ k l.
    let next : k ≡ k + 1 - 1 = omega arith in
    sym (h k l)
    ∙ ap (λ (j : ℕ). get_or inst.risks (entry_place inst (scenarios_before inst) i s t + j) (pos 0)) next)
