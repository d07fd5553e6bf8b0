-- What is kept of the runs on board is what they add up to, after a run was put on board or taken off as well.
use Rattle.std.proofs.Common.{◌≡◌, ℕ, ◌+◌, ◌-◌, ◌*◌, ◌^◌, ◌<◌, ◌≤◌, refl, sym, ◌∙◌, ap, arith, ℤ, pos, ◌+ℤ◌, Bool, true}
use Rattle.std.proofs.Common.{false, eqb, ◌≢◌, List, [], length, get_or, set, map, replicate, Option, Some, None}
use Rattle.std.proofs.Common.{IfSome, IsTrue, subst, unsigned_abs}
use Rattle.std.proofs.lemmas.Bool.Decides.{nat_tests}
use Rattle.std.proofs.lemmas.Nat.{mul-le}
use Rattle.std.proofs.lemmas.List.{get_or-set_same, get_or-set_other, length-set, get_or-replicate, length-replicate}
use Rattle.std.proofs.lemmas.List.{same_lists, get_or_default, get_or-map, length-map}
use Rattle.fixed_num.specs.Sums.{sum_below}
use Rattle.fixed_num.proofs.SignedLemmas.{signed_arith}
use Rattle.fixed_num.proofs.SumLemmas.{sum_below_same, sum_below-none, sum_below-within, abs-sum}
use Rattle.instance_model.specs.Tables.{Tables, is_allowed}
use Rattle.instance_model.specs.Fitting.{IsFitting}
use Rattle.instance_model.specs.Plans.{start_of, load_at, load_sum, RunsAreAllowed}
use Rattle.instance_model.specs.Keys.{band_gap, band_gaps}
use Rattle.instance_model.proofs.BoardLemmas.{load_sum-set, RunsAreAllowed-set}
use Rattle.instance_model.proofs.FitLemmas.{upper_of_small, lower_of_small}
use Rattle.instance_model.proofs.PlanLemmas.{load_sum_small}
use Rattle.resource_bands.specs.declared.change.Change.{Change}
use Rattle.resource_bands.specs.declared.change.Change.TheVariants.{Add, Take}
use Rattle.resource_bands.specs.BoardLoads.{BoardLoads, IsOver}
use Rattle.resource_bands.specs.Gaps.{gap_at, row_gap, rows_gap, signed, start_before, start_after, AreRows}
use Rattle.resource_bands.specs.Gaps.{AreRowsChanged}

-- ---- loads and limits
pub gap_at-load : (inst : Tables) (board : List (Option ℕ)) (c t : ℕ)
    → gap_at inst c t (load_sum inst board c t) ≡ band_gap inst board c t
unfolding gap_at band_gap
gap_at-load inst board c t = refl

-- rows have the loads of a board
pub record AreLoadsOf (inst : Tables) (board : List (Option ℕ)) (rows : List (List ℤ)) : Type 0 where
  pub loads : (c t : ℕ) → c < length inst.resource_names → 1 ≤ t → t ≤ inst.periods
      → get_or (get_or rows c []) (t - 1) (pos 0) ≡ load_sum inst board c t

load_at_place : (inst : Tables) (board : List (Option ℕ)) (rows : List (List ℤ)) (c u : ℕ) → AreLoadsOf inst board rows
    → c < length inst.resource_names → u < inst.periods
    → get_or (get_or rows c []) u (pos 0) ≡ load_sum inst board c (u + 1)
load_at_place inst board rows c u h l m =
    let d : u + 1 - 1 ≡ u = omega arith in
    rw d at (h.loads c (u + 1) l (omega arith) (omega (arith, m)))

pub rows_gap-loads : (inst : Tables) (board : List (Option ℕ)) (rows : List (List ℤ)) → AreLoadsOf inst board rows
    → rows_gap inst rows ≡ band_gaps inst board
unfolding rows_gap row_gap band_gaps
rows_gap-loads inst board rows h =
    sum_below_same (length inst.resource_names) _ _
    (λ c l. sum_below_same inst.periods _ _
    (λ u m. ap (gap_at inst c (u + 1)) (load_at_place inst board rows c u h l m)
    ∙ gap_at-load inst board c (u + 1)))

band_gap_small : (inst : Tables) (board : List (Option ℕ)) (c t : ℕ) → IsFitting inst
    → unsigned_abs (band_gap inst board c t) ≤ 10 ^ 24
unfolding band_gap
band_gap_small inst board c t f =
    omega (arith, signed_arith, load_sum_small inst board c t f, upper_of_small inst c t f, lower_of_small inst c t f)

pub band_gaps_small : (inst : Tables) (board : List (Option ℕ)) → IsFitting inst
    → unsigned_abs (band_gaps inst board) ≤ 10 ^ 30
unfolding band_gaps
band_gaps_small inst board f =
    let row : (c : ℕ) → c < length inst.resource_names
    → unsigned_abs (sum_below inst.periods (λ u. band_gap inst board c (u + 1))) ≤ inst.periods * 10 ^ 24 = λ c l.
    sum_below-within inst.periods (10 ^ 24) (λ u. band_gap inst board c (u + 1))
    (λ u m. band_gap_small inst board c (u + 1) f) in
    let all = sum_below-within (length inst.resource_names) (inst.periods * 10 ^ 24)
    (λ c. sum_below inst.periods (λ u. band_gap inst board c (u + 1))) row in
    let few = mul-le (length inst.resource_names) (inst.periods * 10 ^ 24) 32 (512 * 10 ^ 24) f.resources.few
    (omega (arith, f.few_periods)) in
    omega (arith, all, few)

-- ---- what is kept
pub AreLoadsOf-over : (inst : Tables) (v : BoardLoads) → IsOver inst v → AreLoadsOf inst v.board v.loads
AreLoadsOf-over inst v o = record { loads = o.loads }

pub AreRows-over : (inst : Tables) (v : BoardLoads) → IsFitting inst → IsOver inst v → AreRows inst v.loads
AreRows-over inst v f o =
    record {
      each = o.resources;
      each_row = λ c l.
          record {
            each = o.periods c l;
            small = λ u m.
                rw (load_at_place inst v.board v.loads c u (AreLoadsOf-over inst v o) l m)
                (load_sum_small inst v.board c (u + 1) f);
          };
    }

pub violation_fits : (inst : Tables) (v : BoardLoads) (further : ℤ) → IsFitting inst → IsOver inst v
    → unsigned_abs further ≤ 10 ^ 33 → unsigned_abs (v.violation +ℤ further) < 10 ^ 37
violation_fits inst v further f o h =
    rw o.violation (omega (arith, abs-sum (band_gaps inst v.board) further, band_gaps_small inst v.board f, h))

-- a start takes the place of another, or of none, as the workloads of the run at s are added or taken off
pub record IsReplaced (inst : Tables) (i s : ℕ) (change : Change) (old new : Option ℕ) : Type 0 where
  pub allowed : IfSome new (λ r. IsTrue (is_allowed inst i r))
  pub loads : (c t : ℕ) → load_at inst c t i new ≡ load_at inst c t i old +ℤ signed change (load_at inst c t i (Some s))

idle_load : (inst : Tables) (c t i : ℕ) → load_at inst c t i None ≡ pos 0
unfolding load_at
idle_load inst c t i = refl

pub IsReplaced-by : (inst : Tables) (i s : ℕ) (change : Change) (old : Option ℕ) → old ≡ start_before change s
    → is_allowed inst i s ≡ true → IsReplaced inst i s change old (start_after change s)
IsReplaced-by inst i s Add old e a =
    record { allowed = a; loads = λ c t. rw (e, idle_load inst c t i) (omega (arith, signed_arith)) }
IsReplaced-by inst i s Take old e a =
    record { allowed = tt; loads = λ c t. rw (e, idle_load inst c t i) (omega (arith, signed_arith)) }

loads_after : (inst : Tables) (v : BoardLoads) (i s : ℕ) (change : Change) (o : Option ℕ) (rows : List (List ℤ))
    → IsOver inst v → i < length inst.names → IsReplaced inst i s change (start_of v.board i) o
    → AreRowsChanged inst i s change v.loads rows → (c u : ℕ) → c < length inst.resource_names → u < inst.periods
    → get_or (get_or rows c []) u (pos 0) ≡ load_sum inst (set v.board i o) c (u + 1)
loads_after inst v i s change o rows over l r h c u m n =
    let new = (h.each_row c m).loads u n in
    let old = load_at_place inst v.board v.loads c u (AreLoadsOf-over inst v over) m n in
    let after = load_sum-set inst v.board i c (u + 1) o over.each l in
    let replaced = r.loads c (u + 1) in
    rw (new, old, after, replaced) (omega (arith, signed_arith))

AreLoadsOf-after : (inst : Tables) (v : BoardLoads) (i s : ℕ) (change : Change) (o : Option ℕ) (rows : List (List ℤ))
    → IsOver inst v → i < length inst.names → IsReplaced inst i s change (start_of v.board i) o
    → AreRowsChanged inst i s change v.loads rows → AreLoadsOf inst (set v.board i o) rows
AreLoadsOf-after inst v i s change o rows over l r h =
    record {
      loads = λ c t m one few.
          let d : t - 1 + 1 ≡ t = omega (arith, one) in
          rw d at (loads_after inst v i s change o rows over l r h c (t - 1) m (omega (arith, one, few)));
    }

-- after the change of one run, what is kept is right again
pub IsOver-after : (inst : Tables) (v : BoardLoads) (i s : ℕ) (change : Change) (o : Option ℕ) (rows : List (List ℤ))
    (further violation : ℤ) → IsOver inst v → i < length inst.names → IsReplaced inst i s change (start_of v.board i) o
    → AreRowsChanged inst i s change v.loads rows → rows_gap inst rows ≡ rows_gap inst v.loads +ℤ further
    → violation ≡ v.violation +ℤ further → IsOver inst (record {
      board = set v.board i o;
      loads = rows;
      violation = violation;
    })
IsOver-after inst v i s change o rows further violation over l r h gap is =
    let loads = AreLoadsOf-after inst v i s change o rows over l r h in
    let was = rows_gap-loads inst v.board v.loads (AreLoadsOf-over inst v over) in
    let now = rows_gap-loads inst (set v.board i o) rows loads in
    record {
      each = length-set v.board i o ∙ over.each;
      allowed = RunsAreAllowed-set inst v.board i o over.allowed r.allowed;
      resources = h.each ∙ over.resources;
      periods = λ c m. (h.each_row c m).each ∙ over.periods c m;
      loads = loads.loads;
      violation = is ∙ ap (λ (x : ℤ). x +ℤ further) (over.violation ∙ sym was) ∙ sym gap ∙ now;
    }

allowed_at : (inst : Tables) (board : List (Option ℕ)) (i s : ℕ) → RunsAreAllowed inst board → i < length board
    → start_of board i ≡ Some s → is_allowed inst i s ≡ true
unfolding RunsAreAllowed
allowed_at inst board i s h l e = subst (λ (x : Option ℕ). IfSome x (λ r. IsTrue (is_allowed inst i r))) e (h i l)

pub allowed_on_board : (inst : Tables) (v : BoardLoads) (i s : ℕ) → IsOver inst v → i < length inst.names
    → start_of v.board i ≡ Some s → is_allowed inst i s ≡ true
allowed_on_board inst v i s over l = allowed_at inst v.board i s over.allowed (omega (arith, l, over.each))

-- ---- nothing on board
idle_sum : (inst : Tables) (c t : ℕ) → load_sum inst (replicate (length inst.names) None) c t ≡ pos 0
unfolding load_sum
idle_sum inst c t =
    sum_below_same (length inst.names) _ _ (λ i l. ap (load_at inst c t i) (get_or-replicate (length inst.names) i None
    None l) ∙ idle_load inst c t i) ∙ sum_below-none (length inst.names)

idle_allowed : (inst : Tables) → RunsAreAllowed inst (replicate (length inst.names) None)
unfolding RunsAreAllowed
idle_allowed inst i l =
    let none : Option ℕ = None in
    let within : i < length inst.names = omega (arith, l, length-replicate (length inst.names) none) in
    subst (λ (x : Option ℕ). IfSome x (λ s. IsTrue (is_allowed inst i s)))
    (sym (get_or-replicate (length inst.names) i None None within)) tt

abbrev pub idle_rows : Tables → List (List ℤ)
idle_rows inst = replicate (length inst.resource_names) (replicate inst.periods (pos 0))

idle_row : (inst : Tables) (c : ℕ) → c < length inst.resource_names
    → get_or (idle_rows inst) c [] ≡ replicate inst.periods (pos 0)
idle_row inst c l = get_or-replicate (length inst.resource_names) c (replicate inst.periods (pos 0)) [] l

AreLoadsOf-idle : (inst : Tables) → AreLoadsOf inst (replicate (length inst.names) None) (idle_rows inst)
AreLoadsOf-idle inst =
    record {
      loads = λ c t l one few. ap (λ (row : List ℤ). get_or row (t - 1) (pos 0)) (idle_row inst c l)
          ∙ get_or-replicate inst.periods (t - 1) (pos 0) (pos 0) (omega (arith, one, few)) ∙ sym (idle_sum inst c t);
    }

IsOver-none : (inst : Tables) (violation : ℤ) → violation ≡ rows_gap inst (idle_rows inst)
    → IsOver inst (record { board = replicate (length inst.names) None; loads = idle_rows inst; violation = violation })
IsOver-none inst violation is =
    record {
      each = length-replicate (length inst.names) None;
      allowed = idle_allowed inst;
      resources = length-replicate (length inst.resource_names) _;
      periods = λ c l. ap length (idle_row inst c l) ∙ length-replicate inst.periods (pos 0);
      loads = (AreLoadsOf-idle inst).loads;
      violation = is ∙ rows_gap-loads inst (replicate (length inst.names) None) (idle_rows inst) (AreLoadsOf-idle inst);
    }

pub IsOver-idle : (inst : Tables) (board : List (Option ℕ)) (rows : List (List ℤ)) (violation : ℤ)
    → board ≡ replicate (length inst.names) None → rows ≡ idle_rows inst → violation ≡ rows_gap inst rows
    → IsOver inst (record { board = board; loads = rows; violation = violation })
IsOver-idle inst board rows violation b r is = rw (b, r) (IsOver-none inst violation (is ∙ ap (rows_gap inst) r))

-- ---- the first starts on board
pub record IsBoardTo (starts : List ℕ) (i : ℕ) (board : List (Option ℕ)) : Type 0 where
  pub each : length board ≡ length starts
  pub given : (k : ℕ) → k < i → k < length starts → start_of board k ≡ Some (get_or starts k 0)
  pub idle : (k : ℕ) → i ≤ k → k < length starts → start_of board k ≡ None

pub IsBoardTo-none : (starts : List ℕ) (board : List (Option ℕ)) (n : ℕ) → board ≡ replicate n None → n ≡ length starts
    → IsBoardTo starts 0 board
IsBoardTo-none starts board n e d =
    record {
      each = ap length e ∙ length-replicate n None ∙ d;
      given = λ k l m. absurd (omega (arith, l));
      idle = λ k l m. ap (λ (b : List (Option ℕ)). start_of b k) e
          ∙ get_or-replicate n k None None (omega (arith, m, d));
    }

pub IsBoardTo-more : (starts : List ℕ) (i : ℕ) (board : List (Option ℕ)) → IsBoardTo starts i board → i < length starts
    → IsBoardTo starts (i + 1) (set board i (Some (get_or starts i 0)))
IsBoardTo-more starts i board h within =
    record {
      each = length-set board i _ ∙ h.each;
      given = λ k l m. at k l m (eqb k i) refl;
      idle = λ k l m. let other : k ≢ i = omega (arith, l) in
          get_or-set_other board i k _ None other ∙ h.idle k (omega (arith, l)) m;
    }
  where
    at : (k : ℕ) → k < i + 1 → k < length starts → (b : Bool) → eqb k i ≡ b
        → start_of (set board i (Some (get_or starts i 0))) k ≡ Some (get_or starts k 0)
    at k l m true e =
        let here : i ≡ k = grind (arith, nat_tests) in
        let now : start_of (set board i (Some (get_or starts i 0))) i ≡ Some (get_or starts i 0) =
        get_or-set_same board i (Some (get_or starts i 0)) None (omega (arith, within, h.each)) in
        subst (λ (j : ℕ). start_of (set board i (Some (get_or starts i 0))) j ≡ Some (get_or starts j 0)) here now
    at k l m false e =
        let other : k ≢ i = grind (arith, nat_tests) in
        get_or-set_other board i k _ None other ∙ h.given k (omega (arith, l, other)) m

pub IsBoardTo-all : (starts : List ℕ) (i : ℕ) (board : List (Option ℕ)) → IsBoardTo starts i board → length starts ≤ i
    → board ≡ map Some starts
IsBoardTo-all starts i board h past =
    same_lists board (map Some starts) (h.each ∙ sym (length-map starts Some)) (λ k d l.
    let within : k < length starts = omega (arith, l, h.each) in
    get_or_default board k d None l ∙ h.given k (omega (arith, within, past)) within
    ∙ sym (get_or-map Some starts k 0 d within))
