-- Rows of sums that change.
use Rattle.std.proofs.Common.{Option, Some, None, ◌≡◌, ℕ, zero, suc, refl, ◌+◌, ◌*◌, ◌<◌, ◌≤◌, ◌^◌, sym, ◌∙◌, ap, subst}
use Rattle.std.proofs.Common.{arith, ℤ, pos, ◌-ℤ◌, List, length, get_or, unsigned_abs}
use Rattle.std.specs.Prelude.{IfSome}
use Rattle.std.proofs.lemmas.List.Elements.{All-get_or}
use Rattle.fixed_num.specs.Sums.{total, sum_below, list_of}
use Rattle.fixed_num.proofs.SignedLemmas.{signed_arith}
use Rattle.fixed_num.proofs.SumLemmas.{sum_below-zero, sum_below-suc, sum_below-add, total-list_of, list_of-from}
use Rattle.fixed_num.proofs.SumLemmas.{list_of_same, get_or-list_of, length-list_of}
use Rattle.instance_model.specs.Plans.{IsSmallSum}
use Rattle.instance_model.specs.Tables.{Tables, scenarios_of, risk_of}
use Rattle.scenario_rows.specs.declared.change.Change.{Change}
use Rattle.scenario_rows.specs.declared.change.Change.TheVariants.{Add, Take}
use Rattle.scenario_rows.specs.Changes.{changed, changed_by, changed_sums}
use Rattle.scenario_rows.specs.Parts.{AreRowSums, IsTotalled}
use Rattle.scenario_rows.proofs.ListLemmas.{total_small}

-- a list's total, number by number
total_by : (xs : List ℤ) → total xs ≡ sum_below (length xs) (λ k. get_or xs k (pos 0))
total_by xs = ap total (list_of-from (length xs) (λ k. get_or xs k (pos 0)) xs refl (λ k l. refl))
    ∙ total-list_of (length xs) (λ k. get_or xs k (pos 0))

-- a sum of changed numbers
sum_below-changed : (change : Change) (n : ℕ) (f g : ℕ → ℤ) → sum_below n (λ k. changed change (f k) (g k))
    ≡ changed change (sum_below n f) (sum_below n g)
sum_below-changed Add n f g = sum_below-add n f g
sum_below-changed Take zero f g =
    rw (sum_below-zero f, sum_below-zero g, sum_below-zero (λ k. f k -ℤ g k)) (omega (arith, signed_arith))
sum_below-changed Take (suc n) f g =
    let ih = sum_below-changed Take n f g in
    rw (sum_below-suc n f, sum_below-suc n g, sum_below-suc n (λ k. f k -ℤ g k), ih) (omega (arith, signed_arith))

-- the total changes by the total of the risks
pub total_changed : (change : Change) (risks xs : List ℤ) → length risks ≡ length xs
    → total (changed_by change risks xs) ≡ changed change (total xs) (total risks)
unfolding changed_by
total_changed change risks xs each =
    let f : ℕ → ℤ = λ k. get_or xs k (pos 0) in
    let g : ℕ → ℤ = λ k. get_or risks k (pos 0) in
    let of_risks : sum_below (length xs) g ≡ total risks =
    ap (λ (n : ℕ). sum_below n g) (sym each) ∙ sym (total_by risks) in
    total-list_of (length xs) (λ k. changed change (f k) (g k))
    ∙ sum_below-changed change (length xs) f g
    ∙ ap (λ (a : ℤ). changed change a (sum_below (length xs) g)) (sym (total_by xs))
    ∙ ap (λ (b : ℤ). changed change (total xs) b) of_risks

pub length-changed_by : (change : Change) (risks xs : List ℤ) → length (changed_by change risks xs) ≡ length xs
unfolding changed_by
length-changed_by change risks xs =
    length-list_of (length xs) (λ k. changed change (get_or xs k (pos 0)) (get_or risks k (pos 0)))

pub get_or-changed_by : (change : Change) (risks xs : List ℤ) (k : ℕ) → k < length xs
    → get_or (changed_by change risks xs) k (pos 0) ≡ changed change (get_or xs k (pos 0)) (get_or risks k (pos 0))
unfolding changed_by
get_or-changed_by change risks xs k h =
    get_or-list_of (length xs) (λ k. changed change (get_or xs k (pos 0)) (get_or risks k (pos 0))) k h

pub changed_by-from : (change : Change) (risks xs ys : List ℤ) → length ys ≡ length xs
    → ((k : ℕ) → k < length xs → get_or ys k (pos 0) ≡ changed change (get_or xs k (pos 0)) (get_or risks k (pos 0)))
    → ys ≡ changed_by change risks xs
unfolding changed_by
changed_by-from change risks xs ys each h =
    list_of-from (length xs) (λ k. changed change (get_or xs k (pos 0)) (get_or risks k (pos 0))) ys each h

-- each sum after the change is in range
pub changed_by_small : (change : Change) (risks xs : List ℤ) (k : ℕ) → AreRowSums (changed_by change risks xs)
    → k < length xs → IsSmallSum (changed change (get_or xs k (pos 0)) (get_or risks k (pos 0)))
changed_by_small change risks xs k h l =
    subst IsSmallSum (get_or-changed_by change risks xs k l) (All-get_or IsSmallSum (changed_by change risks xs) k
    (pos 0) (omega (arith, l, length-changed_by change risks xs)) h.small)

-- a total that is that of its sums is within range
pub totalled_small : (xs : List ℤ) (t : ℤ) → IsTotalled xs t → unsigned_abs t ≤ 1024 * 1024 * 10 ^ 20
totalled_small xs t h = rw h.value (total_small xs h.row.few h.row.small)

-- the sums and the total change together
pub IsTotalled-changed : (change : Change) (risks xs : List ℤ) (t r : ℤ) → IsTotalled xs t → length risks ≡ length xs
    → r ≡ total risks → AreRowSums (changed_by change risks xs)
    → IsTotalled (changed_by change risks xs) (changed change t r)
IsTotalled-changed change risks xs t r h each e row =
    record {
      row = row;
      value = ap (λ (a : ℤ). changed change a r) h.value ∙ ap (λ (b : ℤ). changed change (total xs) b) e
          ∙ sym (total_changed change risks xs each);
    }

-- ---- sums that change by the risks of a run

-- the risks of a run, as they are lent
pub changed_by-risks : (inst : Tables) (change : Change) (i s t : ℕ) (risks xs : List ℤ)
    → risks ≡ list_of (scenarios_of inst t) (λ k. risk_of inst i s t (k + 1)) → length xs ≡ scenarios_of inst t
    → changed_by change risks xs ≡ changed_sums inst change i s t xs
unfolding changed_by changed_sums
changed_by-risks inst change i s t risks xs e each =
    list_of_same (length xs) (λ k. changed change (get_or xs k (pos 0)) (get_or risks k (pos 0)))
    (λ k. changed change (get_or xs k (pos 0)) (risk_of inst i s t (k + 1))) (λ k l.
    ap (λ (r : ℤ). changed change (get_or xs k (pos 0)) r)
    (ap (λ (rs : List ℤ). get_or rs k (pos 0)) e
    ∙ get_or-list_of (scenarios_of inst t) (λ k. risk_of inst i s t (k + 1)) k (omega (arith, l, each))))

pub length-changed_sums : (inst : Tables) (change : Change) (i s t : ℕ) (xs : List ℤ)
    → length (changed_sums inst change i s t xs) ≡ length xs
unfolding changed_sums
length-changed_sums inst change i s t xs =
    length-list_of (length xs) (λ k. changed change (get_or xs k (pos 0)) (risk_of inst i s t (k + 1)))

pub changed_sums-from : (inst : Tables) (change : Change) (i s t : ℕ) (xs ys : List ℤ) → length ys ≡ length xs
    → ((k : ℕ) → k < length xs → get_or ys k (pos 0) ≡ changed change (get_or xs k (pos 0)) (risk_of inst i s t
    (k + 1))) → ys ≡ changed_sums inst change i s t xs
unfolding changed_sums
changed_sums-from inst change i s t xs ys each h =
    list_of-from (length xs) (λ k. changed change (get_or xs k (pos 0)) (risk_of inst i s t (k + 1))) ys each h

-- ---- steps

-- the risks, all sums of the row, and the quantile
pub cost_period : (most : Option (ℕ → ℕ)) (a r s t n m : ℕ) → r ≡ a + n → m ≡ n → IfSome most (λ b. s ≤ r + m * b m)
    → IfSome most (λ b. t ≤ s + 1) → IfSome most (λ b. t ≤ a + (n * (b n + 1) + 1))
cost_period None a r s t n m e f h l = tt
cost_period (Some b) a r s t n m e f h l =
    let u : s ≤ r + n * b n = subst (λ (j : ℕ). s ≤ r + j * b j) f h in
    omega (arith, u, l, e)
