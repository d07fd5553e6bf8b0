-- Where no intervention has a fault, each has what its tables need.
use Rattle.std.proofs.Common.{◌≡◌, ℕ, zero, suc, ◌+◌, ◌<◌, ◌≤◌, ◌&&◌, Bool, true, false, cond, List, [], ◌∷◌, length}
use Rattle.std.proofs.Common.{get_or, Option, Some, None, refl, sym, ◌∙◌, ap, subst, arith, nat_le}
use Rattle.std.specs.Prelude.{find, slice_index, slice_index_or, All, IsSome}
use Rattle.std.proofs.lemmas.Bool.Decides.{nat_tests}
use Rattle.std.proofs.lemmas.List.{get_or_default}
use Rattle.instance_model.specs.Tables.{allowed_of}
use Rattle.instance_shape.specs.CrossFaults.{CrossFault, unless, first_in}
use Rattle.instance_rows.specs.FileRows.{WorkRow, FileRows}
use Rattle.instance_model.specs.RiskLists.{RiskRow}
use Rattle.instance_rows.specs.Filled.{IsReady}
use Rattle.instance_rows.specs.Grid.{place_of}
use Rattle.instance_rows.specs.RowFaults.{no_work, used_durations, is_list_at, list_fault, run_fault, runs_fault}
use Rattle.instance_rows.specs.RowFaults.{tmax_fault, delta_fault, workload_fault, work_fault, work_fault_at}
use Rattle.instance_rows.specs.RowFaults.{works_fault}
use Rattle.instance_rows.specs.Sound.{AreWorkloadsApart, AreWorksApart, AreSound}
use Rattle.instance_rows.proofs.Firsts.{first_none, or_else_both}
use Rattle.instance_rows.proofs.Places.{place_none}

holds : (b : Bool) (f : CrossFault) → unless b f ≡ None → b ≡ true
holds true f h = refl
holds false f h = cc

no_more : (a b : ℕ) → nat_le 1 a && nat_le a b ≡ true → a ≤ b
no_more a b h = by (nat_le 1 a) h
  where
    le : (a b : ℕ) → nat_le a b ≡ true → a ≤ b
    le a b h = grind (arith, nat_tests)

    by : (c : Bool) → c && nat_le a b ≡ true → a ≤ b
    by true h = le a b h
    by false h = cc

listed : (counts name : List ℕ) (rs : List RiskRow) (t s : ℕ) (o : Option ℕ) → place_of rs s t ≡ o
    → list_fault counts name t s (find (is_list_at t s) rs) ≡ None → IsSome o
listed counts name rs t s (Some k) e h = refl
listed counts name rs t s None e h = none (find (is_list_at t s) rs) (place_none (is_list_at t s) 0 rs e) h
  where
    none : (o : Option RiskRow) → o ≡ None → list_fault counts name t s o ≡ None → IsSome (let q : Option ℕ = None in q)
    none None e h = cc
    none (Some r) e h = cc

runs_listed : (periods : ℕ) (counts name ds : List ℕ) (rs : List RiskRow) → runs_fault periods counts name ds rs ≡ None
    → (k j : ℕ) → k < length ds → allowed_of periods ds (k + 1) ≡ true → j < slice_index ds k
    → IsSome (place_of rs (k + 1) (k + 1 + j))
runs_listed periods counts name ds rs h k j l a m =
    let start : run_fault counts name rs (k + 1) (slice_index ds k) ≡ None =
    sym (ap (λ b. cond b (run_fault counts name rs (k + 1) (slice_index ds k)) None) a)
    ∙ first_none (length ds)
    (λ k. cond (allowed_of periods ds (k + 1)) (run_fault counts name rs (k + 1) (slice_index ds k)) None) h k l in
    listed counts name rs (k + 1 + j) (k + 1) (place_of rs (k + 1) (k + 1 + j)) refl
    (first_none (slice_index ds k)
    (λ j. list_fault counts name (k + 1 + j) (k + 1) (find (is_list_at (k + 1 + j) (k + 1)) rs)) start j m)

work_ready : (rows : FileRows) (name : List ℕ) (w : WorkRow) → AreWorkloadsApart w.workloads
    → work_fault rows name w ≡ None → IsReady rows.periods w
work_ready rows name w a h =
    let one = or_else_both (tmax_fault rows.periods name w) _ h in
    let two = or_else_both (delta_fault name w) _ one.1 in
    let three = or_else_both (first_in (workload_fault rows.resources) w.workloads) _ two.1 in
    record {
      starts = no_more w.tmax rows.periods (holds (nat_le 1 w.tmax && nat_le w.tmax rows.periods) _ one.0);
      lists = runs_listed rows.periods rows.scenarios name (used_durations w) w.risks three.1;
      apart = a;
    }

apart_at : (ws : List WorkRow) (k : ℕ) (d : WorkRow) → AreWorksApart ws → k < length ws
    → AreWorkloadsApart (get_or ws k d).workloads
apart_at [] k d a l = absurd (omega arith)
apart_at (w ∷ ws) zero d a l = a.0
apart_at (w ∷ ws) (suc k) d a l = apart_at ws k d a.1 (omega arith)

pub ready_all : (rows : FileRows) → AreSound rows → works_fault rows ≡ None
    → All (λ w. IsReady rows.periods w) rows.works
ready_all rows s h = λ k d l.
    let here : work_fault_at rows k ≡ None = first_none (length rows.works) (work_fault_at rows) h k l in
    let same : get_or rows.works k no_work ≡ get_or rows.works k d = get_or_default rows.works k no_work d l in
    subst (IsReady rows.periods) same (work_ready rows (slice_index_or rows.interventions k [])
    (get_or rows.works k no_work) (apart_at rows.works k no_work s.workloads l) here)
