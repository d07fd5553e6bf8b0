-- The total of the sums of a period, and the sum of one scenario, as they change by one run after another.
use Rattle.std.proofs.Common.{◌≡◌, ℕ, ◌+◌, ◌*◌, ◌<◌, ◌≤◌, ◌^◌, sym, ◌∙◌, ap, subst, arith, ℤ, pos, List, ◌∷◌, length}
use Rattle.std.proofs.Common.{get_or, drop, true, unsigned_abs}
use Rattle.std.proofs.lemmas.List.{drop_more}
use Rattle.std.proofs.lemmas.List.Elements.{All-get_or}
use Rattle.fixed_num.specs.Sums.{total, list_of}
use Rattle.fixed_num.proofs.SignedLemmas.{signed_arith}
use Rattle.fixed_num.proofs.SumLemmas.{get_or-list_of}
use Rattle.instance_model.specs.Tables.{Tables, scenarios_of, in_run, risk_of}
use Rattle.instance_model.specs.Plans.{IsSmallSum}
use Rattle.scenario_rows.specs.declared.change.Change.{Change}
use Rattle.scenario_rows.specs.declared.change.Change.TheVariants.{Add, Take}
use Rattle.scenario_rows.specs.declared.change.RunChange.{RunChange}
use Rattle.scenario_rows.specs.Changes.{changed, changed_sums}
use Rattle.scenario_rows.specs.Shifts.{IsIdle, shifted, shifted_by, CanShift}
use Rattle.scenario_rows.proofs.ListLemmas.{total_small}
use Rattle.scenario_rows.proofs.RowLemmas.{total_changed}
use Rattle.scenario_rows.proofs.ShiftLemmas.{CanShift-rest, length-shifted, shifted-idle, shifted-running}
use Rattle.scenario_rows.proofs.ShiftLemmas.{shifted-by_risks}

-- the runs that are left change these sums to those at the end
pub record IsOnTheWay (inst : Tables) (t : ℕ) (left : List RunChange) (end sums : List ℤ) : Type 0 where
  pub can : CanShift inst t left sums
  pub ends : shifted_by inst t left sums ≡ end

way-next : (inst : Tables) (t : ℕ) (runs : List RunChange) (k : ℕ) (d : RunChange) (end sums : List ℤ)
    → k < length runs → IsOnTheWay inst t (drop k runs) end sums
    → IsOnTheWay inst t (get_or runs k d ∷ drop (k + 1) runs) end sums
way-next inst t runs k d end sums l h =
    subst (λ (rs : List RunChange). IsOnTheWay inst t rs end sums) (drop_more runs k d l) h

way-idle : (inst : Tables) (t : ℕ) (run : RunChange) (rest : List RunChange) (end sums : List ℤ)
    → IsOnTheWay inst t (run ∷ rest) end sums → IsIdle inst t run → IsOnTheWay inst t rest end sums
way-idle inst t run rest end sums h idle =
    let same : shifted inst t run sums ≡ sums = shifted-idle inst t run sums idle in
    record {
      can = subst (CanShift inst t rest) same (CanShift-rest inst t run rest sums h.can);
      ends = ap (shifted_by inst t rest) (sym same) ∙ h.ends;
    }

way-run : (inst : Tables) (t : ℕ) (run : RunChange) (rest : List RunChange) (end sums : List ℤ)
    → IsOnTheWay inst t (run ∷ rest) end sums → IsOnTheWay inst t rest end (shifted inst t run sums)
way-run inst t run rest end sums h = record { can = CanShift-rest inst t run rest sums h.can; ends = h.ends }

-- ---- the total

-- the total of sums on the way
pub record HasTotal (inst : Tables) (t : ℕ) (left : List RunChange) (end : List ℤ) (s : ℤ) : Type 0 where
  pub sums : List ℤ
  pub way : IsOnTheWay inst t left end sums
  pub value : s ≡ total sums

-- a total after the change by the total of some risks is in range
changed_total_small : (change : Change) (s r : ℤ) → unsigned_abs s ≤ 1024 * 1024 * 10 ^ 20
    → unsigned_abs r ≤ 1024 * 10 ^ 20 → unsigned_abs (changed change s r) < 10 ^ 37
changed_total_small Add s r h k = omega (arith, signed_arith, h, k)
changed_total_small Take s r h k = omega (arith, signed_arith, h, k)

pub HasTotal-small : (inst : Tables) (t : ℕ) (left : List RunChange) (end : List ℤ) (change : Change) (s r : ℤ)
    → HasTotal inst t left end s → unsigned_abs r ≤ 1024 * 10 ^ 20 → unsigned_abs (changed change s r) < 10 ^ 37
HasTotal-small inst t left end change s r h k =
    let small : unsigned_abs s ≤ 1024 * 1024 * 10 ^ 20 =
    rw h.value (total_small h.sums h.way.can.row.few h.way.can.row.small) in
    changed_total_small change s r small k

pub HasTotal-idle : (inst : Tables) (t : ℕ) (runs : List RunChange) (k : ℕ) (d : RunChange) (end : List ℤ) (s : ℤ)
    → k < length runs → HasTotal inst t (drop k runs) end s → IsIdle inst t (get_or runs k d)
    → HasTotal inst t (drop (k + 1) runs) end s
HasTotal-idle inst t runs k d end s l h idle =
    record {
      sums = h.sums;
      way = way-idle inst t (get_or runs k d) (drop (k + 1) runs) end h.sums
          (way-next inst t runs k d end h.sums l h.way) idle;
      value = h.value;
    }

pub HasTotal-running : (inst : Tables) (t : ℕ) (runs : List RunChange) (k : ℕ) (d : RunChange) (end risks : List ℤ)
    (s next : ℤ) → k < length runs → HasTotal inst t (drop k runs) end s
    → in_run inst (get_or runs k d).i (get_or runs k d).s t ≡ true
    → risks ≡ list_of (scenarios_of inst t) (λ j. risk_of inst (get_or runs k d).i (get_or runs k d).s t (j + 1))
    → length risks ≡ scenarios_of inst t → next ≡ changed (get_or runs k d).change s (total risks)
    → HasTotal inst t (drop (k + 1) runs) end next
HasTotal-running inst t runs k d end risks s next l h r e long en =
    let run = get_or runs k d in
    let way = way-next inst t runs k d end h.sums l h.way in
    let same : length risks ≡ length h.sums = long ∙ sym way.can.each in
    record {
      sums = shifted inst t run h.sums;
      way = way-run inst t run (drop (k + 1) runs) end h.sums way;
      value = en ∙ ap (λ (x : ℤ). changed run.change x (total risks)) h.value
          ∙ sym (total_changed run.change risks h.sums same)
          ∙ ap total (shifted-by_risks inst t run risks h.sums r e way.can.each);
    }

-- ---- the sum of one scenario

-- the sum at place j of sums on the way
pub record HasSum (inst : Tables) (t : ℕ) (left : List RunChange) (end : List ℤ) (j : ℕ) (v : ℤ) : Type 0 where
  pub sums : List ℤ
  pub way : IsOnTheWay inst t left end sums
  pub within : j < length sums
  pub value : v ≡ get_or sums j (pos 0)

shifted_at : (inst : Tables) (t : ℕ) (run : RunChange) (xs : List ℤ) (j : ℕ) → j < length xs
    → in_run inst run.i run.s t ≡ true → get_or (shifted inst t run xs) j (pos 0)
    ≡ changed run.change (get_or xs j (pos 0)) (risk_of inst run.i run.s t (j + 1))
unfolding changed_sums
shifted_at inst t run xs j l r =
    ap (λ (ys : List ℤ). get_or ys j (pos 0)) (shifted-running inst t run xs r)
    ∙ get_or-list_of (length xs)
    (λ k. changed run.change (get_or xs k (pos 0)) (risk_of inst run.i run.s t (k + 1))) j l

pub HasSum-idle : (inst : Tables) (t : ℕ) (runs : List RunChange) (k : ℕ) (d : RunChange) (end : List ℤ) (j : ℕ)
    (v : ℤ) → k < length runs → HasSum inst t (drop k runs) end j v → IsIdle inst t (get_or runs k d)
    → HasSum inst t (drop (k + 1) runs) end j v
HasSum-idle inst t runs k d end j v l h idle =
    record {
      sums = h.sums;
      way = way-idle inst t (get_or runs k d) (drop (k + 1) runs) end h.sums
          (way-next inst t runs k d end h.sums l h.way) idle;
      within = h.within;
      value = h.value;
    }

changed_value : (inst : Tables) (t : ℕ) (run : RunChange) (xs : List ℤ) (j : ℕ) (v risk : ℤ) → j < length xs
    → in_run inst run.i run.s t ≡ true → v ≡ get_or xs j (pos 0) → risk ≡ risk_of inst run.i run.s t (j + 1)
    → changed run.change v risk ≡ get_or (shifted inst t run xs) j (pos 0)
changed_value inst t run xs j v risk l r ev er =
    ap (λ (x : ℤ). changed run.change x risk) ev
    ∙ ap (λ (y : ℤ). changed run.change (get_or xs j (pos 0)) y) er ∙ sym (shifted_at inst t run xs j l r)

pub HasSum-small : (inst : Tables) (t : ℕ) (runs : List RunChange) (k : ℕ) (d : RunChange) (end : List ℤ) (j : ℕ)
    (v risk : ℤ) → k < length runs → HasSum inst t (drop k runs) end j v
    → in_run inst (get_or runs k d).i (get_or runs k d).s t ≡ true
    → risk ≡ risk_of inst (get_or runs k d).i (get_or runs k d).s t (j + 1)
    → IsSmallSum (changed (get_or runs k d).change v risk)
HasSum-small inst t runs k d end j v risk l h r er =
    let run = get_or runs k d in
    let way = way-next inst t runs k d end h.sums l h.way in
    subst IsSmallSum (sym (changed_value inst t run h.sums j v risk h.within r h.value er))
    (All-get_or IsSmallSum (shifted inst t run h.sums) j (pos 0)
    (omega (arith, h.within, length-shifted inst t run h.sums)) way.can.stay.0.small)

pub HasSum-running : (inst : Tables) (t : ℕ) (runs : List RunChange) (k : ℕ) (d : RunChange) (end : List ℤ) (j : ℕ)
    (v risk next : ℤ) → k < length runs → HasSum inst t (drop k runs) end j v
    → in_run inst (get_or runs k d).i (get_or runs k d).s t ≡ true
    → risk ≡ risk_of inst (get_or runs k d).i (get_or runs k d).s t (j + 1)
    → next ≡ changed (get_or runs k d).change v risk → HasSum inst t (drop (k + 1) runs) end j next
HasSum-running inst t runs k d end j v risk next l h r er en =
    let run = get_or runs k d in
    let way = way-next inst t runs k d end h.sums l h.way in
    record {
      sums = shifted inst t run h.sums;
      way = way-run inst t run (drop (k + 1) runs) end h.sums way;
      within = omega (arith, h.within, length-shifted inst t run h.sums);
      value = en ∙ changed_value inst t run h.sums j v risk h.within r h.value er;
    }
