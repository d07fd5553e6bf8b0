-- Loads after two starts have changed, and one load outside its limits among all.
use Rattle.std.proofs.Common.{◌≡◌, ◌≢◌, ℕ, zero, suc, ◌+◌, ◌-◌, ◌<◌, ◌≤◌, refl, sym, ◌∙◌, ap, subst, arith, ℤ}
use Rattle.std.proofs.Common.{pos, ◌+ℤ◌, ◌-ℤ◌, ◌<ℤ◌, ◌≤ℤ◌, Bool, true, false, ltb, List, length, set, Option}
use Rattle.std.proofs.Common.{Some, None, IsTrue}
use Rattle.std.proofs.Common.{FitsSigned, to_z, of_z, to_z-of_z}
use Rattle.std.specs.Int.{w128}
use Rattle.std.specs.Int.Signed.{lt_z}
use lib.Dec.{T}
use Rattle.std.proofs.lemmas.Bool.Decides.{nat_tests}
use Rattle.std.proofs.lemmas.List.{get_or-set_other, length-set, set-set}
use Rattle.fixed_num.specs.Sums.{sum_below}
use Rattle.fixed_num.proofs.SignedLemmas.{signed_arith}
use Rattle.fixed_num.proofs.SumLemmas.{sum_below-zero, sum_below-suc}
use Rattle.instance_model.specs.Tables.{Tables}
use Rattle.instance_model.specs.Plans.{start_of, load_at, load_sum}
use Rattle.instance_model.specs.Keys.{band_gap, band_gaps}
use Rattle.instance_model.proofs.BoardLemmas.{load_sum-set}
use Rattle.resource_bands.specs.declared.above.StartChange.{StartChange}
use Rattle.resource_bands.specs.Gaps.{gap_at}
use Rattle.resource_bands.specs.StartChanges.{CanChangeStart, board_after}
use Rattle.resource_bands.proofs.OverLemmas.{gap_at-load}

-- ---- one load among all
sum_below-positive : (n : ℕ) (f : ℕ → ℤ) → ((k : ℕ) → k < n → pos 0 ≤ℤ f k) → pos 0 ≤ℤ sum_below n f
sum_below-positive zero f h = rw (sum_below-zero f) (omega (arith, signed_arith))
sum_below-positive (suc n) f h =
    let ih : pos 0 ≤ℤ sum_below n f = sum_below-positive n f (λ k l. h k (omega arith)) in
    let e : pos 0 ≤ℤ f n = h n (omega arith) in
    rw (sum_below-suc n f) (omega (arith, signed_arith))

-- a sum of numbers of which none is below 0 is at least each of them
sum_below-at_least : (n : ℕ) (f : ℕ → ℤ) → ((k : ℕ) → k < n → pos 0 ≤ℤ f k) → (k : ℕ) → k < n → f k ≤ℤ sum_below n f
sum_below-at_least zero f h k l = absurd (omega (arith, l))
sum_below-at_least (suc n) f h k l =
    let before : pos 0 ≤ℤ sum_below n f = sum_below-positive n f (λ j m. h j (omega arith)) in
    let here : pos 0 ≤ℤ f n = h n (omega arith) in
    rw (sum_below-suc n f) (at (ltb k n) refl before here (λ m. sum_below-at_least n f (λ j m. h j (omega arith)) k m))
  where
    at : (b : Bool) → ltb k n ≡ b → pos 0 ≤ℤ sum_below n f → pos 0 ≤ℤ f n → (k < n → f k ≤ℤ sum_below n f)
        → f k ≤ℤ (sum_below n f +ℤ f n)
    at true e before here ih =
        let m : k < n = grind (arith, nat_tests) in
        let i = ih m in
        omega (arith, signed_arith, i, here)
    at false e before here ih =
        let m : k ≡ n = grind (arith, nat_tests) in
        let same : f k ≡ f n = ap f m in
        omega (arith, signed_arith, same, before)

band_gap-positive : (inst : Tables) (board : List (Option ℕ)) (c t : ℕ) → pos 0 ≤ℤ band_gap inst board c t
unfolding band_gap
band_gap-positive inst board c t = omega (arith, signed_arith)

band_gap-among : (inst : Tables) (board : List (Option ℕ)) (c t : ℕ) → c < length inst.resource_names → 1 ≤ t
    → t ≤ inst.periods → band_gap inst board c t ≤ℤ band_gaps inst board
unfolding band_gaps
band_gap-among inst board c t l one few =
    let row : ℕ → ℤ = λ c. sum_below inst.periods (λ u. band_gap inst board c (u + 1)) in
    let here = sum_below-at_least inst.periods (λ u. band_gap inst board c (u + 1))
    (λ u m. band_gap-positive inst board c (u + 1)) (t - 1) (omega (arith, one, few)) in
    let all = sum_below-at_least (length inst.resource_names) row (λ d m. sum_below-positive inst.periods
    (λ u. band_gap inst board d (u + 1)) (λ u n. band_gap-positive inst board d (u + 1))) c l in
    let d : t - 1 + 1 ≡ t = omega (arith, one) in
    transitive (band_gap inst board c t) (row c) (sum_below (length inst.resource_names) row) (rw d at here) all
  where
    transitive : (x y z : ℤ) → x ≤ℤ y → y ≤ℤ z → x ≤ℤ z
    transitive x y z h k = omega (arith, signed_arith, h, k)

-- where one load is outside its limits by more than a limit, all loads are
pub all_above : (inst : Tables) (board : List (Option ℕ)) (c t : ℕ) (load gap limit : ℤ)
    → c < length inst.resource_names → 1 ≤ t → t ≤ inst.periods → load ≡ load_sum inst board c t
    → gap ≡ gap_at inst c t load → limit <ℤ gap → limit <ℤ band_gaps inst board
all_above inst board c t load gap limit l one few el eg h =
    above limit gap (band_gap inst board c t) (band_gaps inst board) h
    (eg ∙ ap (gap_at inst c t) el ∙ gap_at-load inst board c t) (band_gap-among inst board c t l one few)
  where
    above : (w x y z : ℤ) → w <ℤ x → x ≡ y → y ≤ℤ z → w <ℤ z
    above w x y z h e k = omega (arith, signed_arith, h, e, k)

-- ---- a load after two changes
pub load_after-same : (inst : Tables) (board : List (Option ℕ)) (first second : StartChange) (c t : ℕ) (load after : ℤ)
    → length board ≡ length inst.names → CanChangeStart inst board second → first.i ≡ second.i
    → load ≡ load_sum inst board c t → after ≡ load +ℤ (load_at inst c t second.i (Some second.to)
    -ℤ load_at inst c t second.i (Some second.from)) → after ≡ load_sum inst (board_after first second board) c t
load_after-same inst board first second c t load after each can same el ea =
    let one : set (set board first.i (Some first.to)) second.i (Some second.to) ≡ set board second.i (Some second.to) =
    ap (λ (i : ℕ). set (set board i (Some first.to)) second.i (Some second.to)) same
    ∙ set-set board second.i (Some first.to) (Some second.to) in
    let moved = load_sum-set inst board second.i c t (Some second.to) each can.number in
    ea ∙ ap (λ (x : ℤ). x +ℤ (load_at inst c t second.i (Some second.to) -ℤ load_at inst c t second.i (Some
    second.from)))
    el
    ∙ ap (λ (o : Option ℕ). load_sum inst board c t +ℤ (load_at inst c t second.i (Some second.to)
    -ℤ load_at inst c t second.i o)) (sym can.before) ∙ sym moved
    ∙ ap (λ (b : List (Option ℕ)). load_sum inst b c t) (sym one)

pub load_after-both : (inst : Tables) (board : List (Option ℕ)) (first second : StartChange) (c t : ℕ)
    (load between after : ℤ) → length board ≡ length inst.names → CanChangeStart inst board first
    → CanChangeStart inst board second → first.i ≢ second.i → load ≡ load_sum inst board c t
    → between ≡ load +ℤ (load_at inst c t first.i (Some first.to) -ℤ load_at inst c t first.i (Some first.from))
    → after ≡ between +ℤ (load_at inst c t second.i (Some second.to) -ℤ load_at inst c t second.i (Some second.from))
    → after ≡ load_sum inst (board_after first second board) c t
load_after-both inst board first second c t load between after each one two other el eb ea =
    let next = set board first.i (Some first.to) in
    let there : start_of next second.i ≡ Some second.from =
    get_or-set_other board first.i second.i (Some first.to) None (λ e. other (sym e)) ∙ two.before in
    let b : between ≡ load_sum inst next c t = eb
    ∙ ap (λ (x : ℤ). x +ℤ (load_at inst c t first.i (Some first.to) -ℤ load_at inst c t first.i (Some first.from))) el
    ∙ ap (λ (o : Option ℕ). load_sum inst board c t +ℤ (load_at inst c t first.i (Some first.to)
    -ℤ load_at inst c t first.i o)) (sym one.before)
    ∙ sym (load_sum-set inst board first.i c t (Some first.to) each one.number) in
    ea
    ∙ ap (λ (x : ℤ). x +ℤ (load_at inst c t second.i (Some second.to) -ℤ load_at inst c t second.i (Some second.from)))
    b
    ∙ ap (λ (o : Option ℕ). load_sum inst next c t +ℤ (load_at inst c t second.i (Some second.to)
    -ℤ load_at inst c t second.i o)) (sym there)
    ∙ sym (load_sum-set inst next second.i c t (Some second.to) (length-set board first.i (Some first.to) ∙ each)
    two.number)

-- two numbers that were compared, as the code hands them on
pub handed_on : (limit gap number : ℤ) → FitsSigned w128 limit → number ≡ gap
    → IsTrue (lt_z (to_z w128 (of_z w128 limit)) number) → limit <ℤ gap
handed_on limit gap number fits e h =
    subst (λ (x : ℤ). limit <ℤ x) e (subst (λ (x : ℤ). x <ℤ number) (to_z-of_z fits) (record {
      lt = subst T (sym h) tt;
    }))
