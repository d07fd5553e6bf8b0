-- What the periods add up to.
use Rattle.std.proofs.Common.{◌≡◌, ℕ, ◌+◌, ◌*◌, ◌<◌, ◌≤◌, ◌^◌, refl, sym, ◌∙◌, ap, arith, ℤ, pos, ◌+ℤ◌, ◌-ℤ◌, List, []}
use Rattle.std.proofs.Common.{◌∷◌, ◌++◌, Option, length, map, get_or, unsigned_abs}
use Rattle.std.specs.List.{AllByRecursion, range_with_len}
use Rattle.std.proofs.Math.ListN.{set}
use Rattle.std.proofs.lemmas.List.{length-set, length-map, length_push, map-set, map-append, get_or-map}
use Rattle.std.proofs.lemmas.List.Elements.{recursion_from_All, All-set, All-push, All-contains}
use Rattle.fixed_num.specs.Floors.{floor_of}
use Rattle.fixed_num.specs.Rank.{mth_smallest}
use Rattle.fixed_num.specs.Sums.{total}
use Rattle.fixed_num.proofs.RankLemmas.{IsMthSmallest-mth_smallest}
use Rattle.fixed_num.proofs.SignedLemmas.{signed_arith}
use Rattle.fixed_num.proofs.SumLemmas.{abs-sum, total_push, total-none, total-list_of, total-set, sum_below_same}
use Rattle.instance_model.specs.Tables.{Tables, scenarios_of}
use Rattle.instance_model.specs.Plans.{IsSmallSum}
use Rattle.instance_model.specs.Values.{sum_of_floors, numerator_of, score_of}
use Rattle.instance_model.proofs.PlanLemmas.{length-scenario_sums}
use Rattle.scenario_rows.specs.RiskStates.{PeriodState, RiskState, period_of, IsOver}
use Rattle.scenario_rows.specs.Parts.{part_in, part_of, IsSoundPeriod, IsScored}
use Rattle.scenario_rows.proofs.PartLemmas.{part_in_is, part_small}
use Rattle.scenario_rows.proofs.ListLemmas.{total_small}

-- ---- how large the parts and the score can be

pub part_of_small : (p : PeriodState) → IsSoundPeriod p → unsigned_abs (part_of p) ≤ 3 * 1024 * 1024 * 10 ^ 26
part_of_small p h =
    let m = IsMthSmallest-mth_smallest p.rank p.sums (omega (arith, h.rank_from)) h.rank_to in
    let q = All-contains IsSmallSum p.sums (mth_smallest p.rank p.sums) h.sums.small m.member in
    rw (part_in_is p.alpha p.rank p.sums) (part_small p.alpha (length p.sums) (mth_smallest p.rank p.sums)
    (total p.sums) h.alpha h.sums.some h.sums.few q.small (total_small p.sums h.sums.few h.sums.small))

parts_recursion : (periods : List PeriodState) → AllByRecursion IsSoundPeriod periods
    → unsigned_abs (total (map part_of periods)) ≤ length periods * (3 * 1024 * 1024 * 10 ^ 26)
unfolding total
parts_recursion [] a = omega arith
parts_recursion (p ∷ periods) a =
    let r = parts_recursion periods a.1 in
    omega (arith, r, part_of_small p a.0, abs-sum (part_of p) (total (map part_of periods)))

pub scored_small : (periods : List PeriodState) (score : ℤ) → IsScored periods score
    → unsigned_abs score ≤ 512 * (3 * 1024 * 1024 * 10 ^ 26)
scored_small periods score h =
    let r = parts_recursion periods (recursion_from_All IsSoundPeriod periods h.sound) in
    rw h.value (omega (arith, r, h.few))

-- ---- the score as the periods change

pub IsScored-none : IsScored [] (pos 0)
IsScored-none = record { few = omega arith; sound = λ k d h. absurd (omega (arith, h)); value = sym total-none }

pub IsScored-push : (periods : List PeriodState) (score part : ℤ) (p : PeriodState) → IsScored periods score
    → length periods < 512 → IsSoundPeriod p → part ≡ part_of p → IsScored (periods ++ p ∷ []) (score +ℤ part)
IsScored-push periods score part p h few sound is =
    record {
      few = omega (arith, few, length_push periods p);
      sound = All-push IsSoundPeriod periods p h.sound sound;
      value = ap (λ (x : ℤ). x +ℤ part) h.value ∙ ap (λ (x : ℤ). total (map part_of periods) +ℤ x) is
          ∙ sym (total_push (map part_of periods) (part_of p)) ∙ ap total (sym (map-append part_of periods (p ∷ [])));
    }

pub IsScored-set : (periods : List PeriodState) (score : ℤ) (k : ℕ) (old p : PeriodState) (a b : ℤ)
    → IsScored periods score → k < length periods → old ≡ get_or periods k old → a ≡ part_of old → IsSoundPeriod p
    → b ≡ part_of p → IsScored (set periods k p) ((score -ℤ a) +ℤ b)
IsScored-set periods score k old p a b h within at is sound new =
    let e : part_of old ≡ get_or (map part_of periods) k (pos 0) =
    ap part_of at ∙ sym (get_or-map part_of periods k old (pos 0) within) in
    let t = total-set (map part_of periods) k (part_of p) (pos 0) (omega (arith, within, length-map periods part_of)) in
    record {
      few = omega (arith, h.few, length-set periods k p);
      sound = All-set IsSoundPeriod periods k p sound h.sound;
      value = rw (h.value, is, e, new) (sym t) ∙ ap total (sym (map-set part_of periods k p));
    }

-- a difference of what is kept is in range
pub exchange_small : (score a b : ℤ) → unsigned_abs score ≤ 512 * (3 * 1024 * 1024 * 10 ^ 26)
    → unsigned_abs a ≤ 3 * 1024 * 1024 * 10 ^ 26 → unsigned_abs b ≤ 3 * 1024 * 1024 * 10 ^ 26
    → (unsigned_abs (score -ℤ a) < 10 ^ 37) × (unsigned_abs ((score -ℤ a) +ℤ b) < 10 ^ 37)
    × (unsigned_abs (score +ℤ b) < 10 ^ 37)
exchange_small score a b h k l =
    (omega (arith, signed_arith, h, k), omega (arith, signed_arith, h, k, l), omega (arith, signed_arith, h, l))

-- ---- the score of what is on board

pub part_at : (inst : Tables) (board : List (Option ℕ)) (t : ℕ)
    → part_of (period_of inst board t) ≡ floor_of (numerator_of inst board t) (scenarios_of inst t)
unfolding part_in
part_at inst board t = ap (floor_of (numerator_of inst board t)) (length-scenario_sums inst board t)

map_twice : (f : ℕ → PeriodState) (xs : List ℕ) → map part_of (map f xs) ≡ map (λ u. part_of (f u)) xs
map_twice f [] = refl
map_twice f (x ∷ xs) = ap (λ (ys : List ℤ). part_of (f x) ∷ ys) (map_twice f xs)

pub score_is : (inst : Tables) (v : RiskState) (score : ℤ) → IsScored v.periods score → IsOver inst v
    → score ≡ score_of inst v.board
unfolding sum_of_floors
score_is inst v score h over =
    h.value
    ∙ ap (λ (ps : List PeriodState). total (map part_of ps)) over.periods
    ∙ ap total (map_twice (λ u. period_of inst v.board (u + 1)) (range_with_len 0 inst.periods))
    ∙ total-list_of inst.periods (λ u. part_of (period_of inst v.board (u + 1)))
    ∙ sum_below_same inst.periods (λ u. part_of (period_of inst v.board (u + 1)))
    (λ u. floor_of (numerator_of inst v.board (u + 1)) (scenarios_of inst (u + 1)))
    (λ u l. part_at inst v.board (u + 1))
