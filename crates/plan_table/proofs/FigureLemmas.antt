-- The numbers of a period, as the code hands them on.
use Rattle.std.proofs.Common.{◌≡◌, ℕ, ◌-◌, ◌≤◌, ◌^◌, refl, ◌∙◌, arith, ℤ, pos, ◌+ℤ◌, ◌-ℤ◌, ◌*ℤ◌}
use Rattle.std.proofs.Common.{List, length, get_or, Option, unsigned_abs, int_cmp}
use Rattle.std.specs.Prelude.{IsSorted, IsPermutation}
use Rattle.std.specs.List.{All}
use Rattle.std.specs.Int.{int_max}
use Rattle.std.proofs.lemmas.List.Elements.{All-contains}
use Rattle.fixed_num.specs.Floors.{floor_of, ceil_of}
use Rattle.fixed_num.specs.Rank.{mth_smallest}
use Rattle.fixed_num.proofs.Bits.{by_bits}
use Rattle.fixed_num.proofs.SignedLemmas.{back_from_abs}
use Rattle.fixed_num.proofs.RankLemmas.{IsMthSmallest-from_sort, mth_smallest_is}
use Rattle.instance_model.specs.Naturals.{ceil_div_of}
use Rattle.instance_model.specs.Tables.{Tables, scenarios_of, rank_of}
use Rattle.instance_model.specs.Plans.{IsSmallSum, scenario_sums, soft_count}
use Rattle.instance_model.specs.Values.{risk_total, excess_of, excess_in}
use Rattle.instance_model.proofs.PlanLemmas.{length-scenario_sums}
use Rattle.plan_table.specs.Figures.{IsFigure, AreRanked}
use Rattle.plan_table.specs.declared.figures.Ranked.{Ranked}
use Rattle.plan_table.specs.Reports.{mean_floor_in, mean_ceil_in, excess_floor_in, excess_ceil_in}

-- a number of a report is kept as it is
pub figure_kept : (value z : ℤ) → IsFigure value z → IsFigure value (by_bits z)
figure_kept value z h = rw (back_from_abs z (omega (arith, h.small))) h

pub number_kept : {value z : ℤ} → IsFigure value z → by_bits z ≡ value
number_kept {value} {z} h = (figure_kept value z h).same

-- the item at a place of the sorted list
pub small_at_rank : (m : ℕ) (xs ys : List ℤ) (q : ℤ) → IsSorted int_cmp ys → IsPermutation xs ys → 1 ≤ m → m ≤ length xs
    → All IsSmallSum xs → q ≡ get_or ys (m - 1) q → IsSmallSum (by_bits q)
small_at_rank m xs ys q s p one few small e =
    let f = IsMthSmallest-from_sort m xs ys q s p one few e in
    let w = All-contains IsSmallSum xs q small f.member in
    rw (back_from_abs q (omega (arith, w.small))) w

pub figure_at_rank : (m : ℕ) (xs ys : List ℤ) (q : ℤ) → IsSorted int_cmp ys → IsPermutation xs ys → 1 ≤ m
    → m ≤ length xs → All IsSmallSum xs → q ≡ get_or ys (m - 1) q → IsFigure (mth_smallest m xs) (by_bits q)
figure_at_rank m xs ys q s p one few small e =
    let f = IsMthSmallest-from_sort m xs ys q s p one few e in
    let w = All-contains IsSmallSum xs q small f.member in
    figure_kept (mth_smallest m xs) q (record {
      same = mth_smallest_is m xs q f;
      small = omega (arith, w.small);
    })

-- the same where the sums, the rank and the number of sums are others' names
pub ranked_same : {rank rank' count count' : ℕ} {xs : List ℤ} (ys : List ℤ) (r : Ranked) → xs ≡ ys → count ≡ count'
    → rank ≡ rank' → AreRanked rank count xs r → AreRanked rank' count' ys r
ranked_same {rank} {rank'} {count} {count'} {xs} ys r e f g h = rw (e, f, g) at h

-- the mean, less and more by half of the soft starts
pub mean_low_is : (inst : Tables) (plan : List (Option ℕ)) (t n soft margin : ℕ) (sum z : ℤ)
    → sum ≡ risk_total inst plan t → unsigned_abs sum ≤ 104_857_600_000_000_000_000_000_000 → n ≡ scenarios_of inst t
    → soft ≡ soft_count inst plan t → margin ≡ ceil_div_of soft 2
    → IsFigure (floor_of (by_bits sum) n -ℤ pos margin) z → IsFigure (mean_floor_in inst plan t) (by_bits z)
mean_low_is inst plan t n soft margin sum z es small en eg em h =
    figure_kept (mean_floor_in inst plan t) z
    (rw (back_from_abs sum (omega (arith, small)), es, en, em, eg) at h)

pub mean_high_is : (inst : Tables) (plan : List (Option ℕ)) (t n soft margin : ℕ) (sum z : ℤ)
    → sum ≡ risk_total inst plan t → unsigned_abs sum ≤ 104_857_600_000_000_000_000_000_000 → n ≡ scenarios_of inst t
    → soft ≡ soft_count inst plan t → margin ≡ ceil_div_of soft 2 → z ≡ ceil_of (by_bits sum) n +ℤ pos margin
    → unsigned_abs z ≤ 10 ^ 33 → IsFigure (mean_ceil_in inst plan t) (by_bits z)
mean_high_is inst plan t n soft margin sum z es small en eg em h l =
    figure_kept (mean_ceil_in inst plan t) z (record {
      same = rw (back_from_abs sum (omega (arith, small)), es, en, em, eg) at h;
      small = l;
    })

-- the excess in the code is that of the definition
pub excess_is : (inst : Tables) (plan : List (Option ℕ)) (t n : ℕ) (q sum e : ℤ) → n ≡ scenarios_of inst t
    → q ≡ mth_smallest (rank_of inst t) (scenario_sums inst plan t) → IsSmallSum q → sum ≡ risk_total inst plan t
    → unsigned_abs sum ≤ 104_857_600_000_000_000_000_000_000
    → e ≡ int_max (pos 0) (pos n *ℤ by_bits q -ℤ by_bits sum) → e ≡ excess_of inst plan t
unfolding excess_in
excess_is inst plan t n q sum e en eq sq es ss h =
    h
    ∙ rw (
      back_from_abs q (omega (arith, sq.small)),
      back_from_abs sum (omega (arith, ss)),
      en,
      eq,
      es,
      length-scenario_sums inst plan t,
    ) refl

-- and its two sides
pub excess_low_is : (inst : Tables) (plan : List (Option ℕ)) (t n soft : ℕ) (e z : ℤ) → e ≡ excess_of inst plan t
    → unsigned_abs e ≤ 209_715_200_000_000_000_000_000_000 → n ≡ scenarios_of inst t → soft ≡ soft_count inst plan t
    → z ≡ int_max (pos 0) (floor_of (by_bits e) n -ℤ pos soft) → unsigned_abs z ≤ 10 ^ 33
    → IsFigure (excess_floor_in inst plan t) (by_bits z)
excess_low_is inst plan t n soft e z ee small en eg h l =
    figure_kept (excess_floor_in inst plan t) z (record {
      same = rw (back_from_abs e (omega (arith, small)), ee, en, eg) at h;
      small = l;
    })

pub excess_high_is : (inst : Tables) (plan : List (Option ℕ)) (t n soft : ℕ) (e z : ℤ) → e ≡ excess_of inst plan t
    → unsigned_abs e ≤ 209_715_200_000_000_000_000_000_000 → n ≡ scenarios_of inst t → soft ≡ soft_count inst plan t
    → z ≡ ceil_of (by_bits e) n +ℤ pos soft → unsigned_abs z ≤ 10 ^ 33
    → IsFigure (excess_ceil_in inst plan t) (by_bits z)
excess_high_is inst plan t n soft e z ee small en eg h l =
    figure_kept (excess_ceil_in inst plan t) z (record {
      same = rw (back_from_abs e (omega (arith, small)), ee, en, eg) at h;
      small = l;
    })
