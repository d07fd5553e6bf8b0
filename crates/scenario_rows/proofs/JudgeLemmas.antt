-- What the changes of runs add to the score, period by period.
use Rattle.std.proofs.Common.{◌≡◌, ℕ, zero, suc, ◌+◌, ◌-◌, ◌*◌, ◌<◌, ◌≤◌, ◌^◌, sym, ◌∙◌, ap, subst, arith, ℤ, pos}
use Rattle.std.proofs.Common.{◌+ℤ◌, ◌-ℤ◌, ◌≤ℤ◌, List, Option, Some, None, length, All, unsigned_abs}
use Rattle.std.proofs.Common.{FitsSigned, to_z, of_z, to_z-of_z}
use Rattle.std.specs.Int.{w128}
use Rattle.std.specs.Prelude.{IfSome, IfNone}
use Rattle.fixed_num.specs.Floors.{floor_of}
use Rattle.fixed_num.specs.Sums.{sum_below}
use Rattle.fixed_num.proofs.SignedLemmas.{signed_arith}
use Rattle.fixed_num.proofs.SumLemmas.{sum_below-zero, sum_below_more, sum_below_same, sum_below-add}
use Rattle.instance_model.specs.Fitting.{IsFitting}
use Rattle.instance_model.specs.Tables.{Tables, scenarios_of}
use Rattle.instance_model.specs.Values.{sum_of_floors, numerator_of, score_of}
use Rattle.scenario_rows.specs.declared.change.RunChange.{RunChange}
use Rattle.scenario_rows.specs.RiskStates.{PeriodState, RiskState, IsOver}
use Rattle.scenario_rows.specs.Parts.{part_of, period_at, IsScored}
use Rattle.scenario_rows.specs.RunChanges.{board_after, CanChangeRuns}
use Rattle.scenario_rows.specs.Shifts.{IsIdle, CanJudge, CanShift, shifted_period, rise_at, rise_from}
use Rattle.scenario_rows.proofs.BoardLemmas.{at_sums}
use Rattle.scenario_rows.proofs.OverLemmas.{period_at-over}
use Rattle.scenario_rows.proofs.ScoreLemmas.{part_at, score_is}
use Rattle.scenario_rows.proofs.ShiftLemmas.{shifted_by-idle, shifted_by-board, CanShift-board, known-runs}

-- ---- from one period to the next

sum_below-idle : (f : ℕ → ℤ) (a d : ℕ) → ((u : ℕ) → a ≤ u → u < a + d → f u ≡ pos 0)
    → sum_below (a + d) f ≡ sum_below a f
sum_below-idle f a zero h = let e : a + zero ≡ a = omega arith in ap (λ (n : ℕ). sum_below n f) e
sum_below-idle f a (suc d) h =
    let e : a + suc d ≡ a + d + 1 = omega arith in
    let ih = sum_below-idle f a d (λ u l m. h u l (omega (arith, m))) in
    ap (λ (n : ℕ). sum_below n f) e ∙ sum_below_more (a + d) f
    ∙ add_none (sum_below (a + d) f) (sum_below a f) (f (a + d)) ih (h (a + d) (omega arith) (omega arith))
  where
    add_none : (x y z : ℤ) → x ≡ y → z ≡ pos 0 → x +ℤ z ≡ y
    add_none x y z e f = omega (arith, signed_arith, e, f)

rise_at-idle : (inst : Tables) (runs : List RunChange) (periods : List PeriodState) (t : ℕ)
    → All (IsIdle inst t) runs → rise_at inst runs periods t ≡ pos 0
rise_at-idle inst runs periods t idle =
    let p = period_at periods t in
    let same : shifted_period inst t runs p ≡ p =
    ap (λ (xs : List ℤ). record p { sums = xs }) (shifted_by-idle inst t runs p.sums idle) in
    none (part_of (shifted_period inst t runs p)) (part_of p) (ap part_of same)
  where
    none : (x y : ℤ) → x ≡ y → x -ℤ y ≡ pos 0
    none x y e = omega (arith, signed_arith, e)

-- periods in which no run is in progress add nothing
pub rise_from-next : (inst : Tables) (runs : List RunChange) (periods : List PeriodState) (from t : ℕ) → 1 ≤ from
    → from ≤ t → ((u : ℕ) → from ≤ u → u < t → All (IsIdle inst u) runs)
    → rise_from inst runs periods from ≡ rise_from inst runs periods t
unfolding rise_from
rise_from-next inst runs periods from t one l idle =
    let f : ℕ → ℤ = λ u. rise_at inst runs periods (u + 1) in
    let e : from - 1 + (t - from) ≡ t - 1 = omega (arith, one, l) in
    let s = sum_below-idle f (from - 1) (t - from)
    (λ u a b. rise_at-idle inst runs periods (u + 1) (idle (u + 1) (omega (arith, a, one)) (omega (
      arith,
      b,
      one,
      l,
    )))) in
    ap (λ (x : ℤ). sum_below inst.periods f -ℤ x) (sym s ∙ ap (λ (n : ℕ). sum_below n f) e)

-- the next period, and those behind it
pub rise_from-more : (inst : Tables) (runs : List RunChange) (periods : List PeriodState) (t : ℕ) → 1 ≤ t
    → rise_from inst runs periods t ≡ rise_at inst runs periods t +ℤ rise_from inst runs periods (t + 1)
unfolding rise_from
rise_from-more inst runs periods t one =
    let f : ℕ → ℤ = λ u. rise_at inst runs periods (u + 1) in
    let next : t + 1 - 1 ≡ t - 1 + 1 = omega (arith, one) in
    let place : t - 1 + 1 ≡ t = omega (arith, one) in
    let s : sum_below (t + 1 - 1) f ≡ sum_below (t - 1) f +ℤ rise_at inst runs periods t =
    ap (λ (n : ℕ). sum_below n f) next ∙ sum_below_more (t - 1) f
    ∙ ap (λ (n : ℕ). sum_below (t - 1) f +ℤ rise_at inst runs periods n) place in
    step (sum_below inst.periods f) (sum_below (t - 1) f) (sum_below (t + 1 - 1) f) (rise_at inst runs periods t) s
  where
    step : (a b c d : ℤ) → c ≡ b +ℤ d → a -ℤ b ≡ d +ℤ (a -ℤ c)
    step a b c d e = omega (arith, signed_arith, e)

-- from any period on: the period that is judged next, and those behind it
pub rise_here : (inst : Tables) (runs : List RunChange) (periods : List PeriodState) (from t : ℕ) (p : PeriodState)
    (old : ℤ) → 1 ≤ from → from ≤ t → ((u : ℕ) → from ≤ u → u < t → All (IsIdle inst u) runs)
    → p ≡ period_at periods t → old ≡ part_of p → rise_from inst runs periods from
    ≡ (part_of (shifted_period inst t runs p) -ℤ old) +ℤ rise_from inst runs periods (t + 1)
rise_here inst runs periods from t p old one l idle at is =
    rise_from-next inst runs periods from t one l idle ∙ rise_from-more inst runs periods t (omega (arith, one, l))
    ∙ ap (λ (q : PeriodState). (part_of (shifted_period inst t runs q) -ℤ part_of q)
    +ℤ rise_from inst runs periods (t + 1)) (sym at)
    ∙ ap (λ (x : ℤ). (part_of (shifted_period inst t runs p) -ℤ x) +ℤ rise_from inst runs periods (t + 1)) (sym is)

-- behind the last period nothing is left
pub rise_from-end : (inst : Tables) (runs : List RunChange) (periods : List PeriodState) (t : ℕ)
    → t ≡ inst.periods + 1 → rise_from inst runs periods t ≡ pos 0
unfolding rise_from
rise_from-end inst runs periods t e =
    let f : ℕ → ℤ = λ u. rise_at inst runs periods (u + 1) in
    let last : t - 1 ≡ inst.periods = omega (arith, e) in
    none (sum_below inst.periods f) (sum_below (t - 1) f) (ap (λ (n : ℕ). sum_below n f) last)
  where
    none : (a b : ℤ) → b ≡ a → a -ℤ b ≡ pos 0
    none a b e = omega (arith, signed_arith, e)

-- ---- a period at its bound, and at what it adds

-- the bound of a period is at most what it adds, so a limit that is not above the score with the bound is not above it
pub bounded_none : (limit score old least part rest all : ℤ) → limit ≤ℤ (((score -ℤ old) +ℤ least) +ℤ rest)
    → least ≤ℤ part → all ≡ (part -ℤ old) +ℤ rest → limit ≤ℤ (score +ℤ all)
bounded_none limit score old least part rest all h l e = omega (arith, signed_arith, h, l, e)

pub exact_value : (score old least part rest all after : ℤ) → after ≡ ((score -ℤ old) +ℤ least) +ℤ rest
    → all ≡ (part -ℤ old) +ℤ rest → (after -ℤ least) +ℤ part ≡ score +ℤ all
exact_value score old least part rest all after h e = omega (arith, signed_arith, h, e)

pub exchanged_small : (x a b : ℤ) (m : ℕ) → unsigned_abs x ≤ m * (3 * 1024 * 1024 * 10 ^ 26)
    → unsigned_abs a ≤ 3 * 1024 * 1024 * 10 ^ 26 → unsigned_abs b ≤ 3 * 1024 * 1024 * 10 ^ 26
    → (unsigned_abs (x -ℤ a) ≤ (m + 1) * (3 * 1024 * 1024 * 10 ^ 26))
    × (unsigned_abs ((x -ℤ a) +ℤ b) ≤ (m + 2) * (3 * 1024 * 1024 * 10 ^ 26))
exchanged_small x a b m h k l = (omega (arith, signed_arith, h, k), omega (arith, signed_arith, h, k, l))

-- ---- rows over an instance

pub CanJudge-over : (inst : Tables) (v : RiskState) (runs : List RunChange) (size : ℕ) → IsFitting inst → IsOver inst v
    → CanChangeRuns inst v.board runs → length v.periods ≡ inst.periods → inst.periods ≤ 512
    → All (λ p. length p.sums ≤ size) v.periods → CanJudge inst runs v.periods size
CanJudge-over inst v runs size fit over can each few room =
    record {
      each = each;
      few = few;
      known = known-runs inst v.board runs can;
      can = λ t from to. subst (λ (p : PeriodState). CanShift inst t runs p.sums)
          (sym (period_at-over inst v t over from to)) (CanShift-board inst v.board t runs fit from to over.each can);
      room = room;
    }

part_after : (inst : Tables) (v : RiskState) (runs : List RunChange) (t : ℕ) → IsOver inst v
    → CanChangeRuns inst v.board runs → 1 ≤ t → t ≤ inst.periods
    → part_of (shifted_period inst t runs (period_at v.periods t))
    ≡ floor_of (numerator_of inst (board_after runs v.board) t) (scenarios_of inst t)
part_after inst v runs t over can from to =
    ap (λ (p : PeriodState). part_of (shifted_period inst t runs p)) (period_at-over inst v t over from to)
    ∙ ap (λ (xs : List ℤ). part_of (at_sums inst t xs)) (shifted_by-board inst v.board t runs over.each can)
    ∙ part_at inst (board_after runs v.board) t

part_before : (inst : Tables) (v : RiskState) (t : ℕ) → IsOver inst v → 1 ≤ t → t ≤ inst.periods
    → part_of (period_at v.periods t) ≡ floor_of (numerator_of inst v.board t) (scenarios_of inst t)
part_before inst v t over from to = ap part_of (period_at-over inst v t over from to) ∙ part_at inst v.board t

-- the score after the changes is the score and what they add
pub score_risen : (inst : Tables) (v : RiskState) (runs : List RunChange) (score : ℤ) → IsScored v.periods score
    → IsOver inst v → CanChangeRuns inst v.board runs
    → score +ℤ rise_from inst runs v.periods 1 ≡ score_of inst (board_after runs v.board)
unfolding rise_from sum_of_floors
score_risen inst v runs score scored over can =
    let new = board_after runs v.board in
    let f : ℕ → ℤ = λ u. floor_of (numerator_of inst v.board (u + 1)) (scenarios_of inst (u + 1)) in
    let g : ℕ → ℤ = λ u. floor_of (numerator_of inst new (u + 1)) (scenarios_of inst (u + 1)) in
    let r : ℕ → ℤ = λ u. rise_at inst runs v.periods (u + 1) in
    let each : sum_below inst.periods (λ u. f u +ℤ r u) ≡ sum_below inst.periods g =
    sum_below_same inst.periods (λ u. f u +ℤ r u) g (λ u l.
    risen (f u) (g u) (part_of (shifted_period inst (u + 1) runs (period_at v.periods (u + 1))))
    (part_of (period_at v.periods (u + 1)))
    (part_before inst v (u + 1) over (omega arith) (omega (arith, l)))
    (part_after inst v runs (u + 1) over can (omega arith) (omega (arith, l)))) in
    all score (sum_below inst.periods f) (sum_below inst.periods g) (sum_below inst.periods r) (sum_below zero r)
    (score_is inst v score scored over) (sym (sum_below-add inst.periods f r) ∙ each) (sum_below-zero r)
  where
    risen : (f g a b : ℤ) → b ≡ f → a ≡ g → f +ℤ (a -ℤ b) ≡ g
    risen f g a b e h = omega (arith, signed_arith, e, h)

    all : (s f g r z : ℤ) → s ≡ f → f +ℤ r ≡ g → z ≡ pos 0 → s +ℤ (r -ℤ z) ≡ g
    all s f g r z a b c = omega (arith, signed_arith, a, b, c)

-- ---- what an answer says of the limit

pub if_some : {X : Type 0} (o : Option X) (P Q : X → Type 0) → IfSome o P → ((x : X) → P x → Q x) → IfSome o Q
if_some None P Q h f = tt
if_some (Some x) P Q h f = f x h

pub if_none : {X : Type 0} (o : Option X) (P Q : Type 0) → IfNone o P → (P → Q) → IfNone o Q
if_none None P Q h f = f h
if_none (Some x) P Q h f = tt

pub none_of : {X : Type 0} (o : Option X) (P : Type 0) → P → IfNone o P
none_of None P p = p
none_of (Some x) P p = tt

pub nothing_risen : (s r : ℤ) → r ≡ pos 0 → s ≡ s +ℤ r
nothing_risen s r e = omega (arith, signed_arith, e)

-- a limit, as the code hands it on
pub limit_back : (z : ℤ) → FitsSigned w128 z → to_z w128 (of_z w128 z) ≡ z
limit_back z h = to_z-of_z h
