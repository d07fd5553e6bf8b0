-- How a quantile rises with its sums, and what a period adds with it.
use Rattle.std.proofs.Common.{◌≡◌, ℕ, zero, suc, ◌-◌, ◌<◌, ◌≤◌, refl, sym, arith, ℤ, pos, ◌+ℤ◌, ◌-ℤ◌}
use Rattle.std.proofs.Common.{◌*ℤ◌, ◌<ℤ◌, ◌≤ℤ◌, Bool, true, false, cond, List, [], ◌∷◌, ◌++◌, length, get_or, count_by}
use Rattle.std.proofs.Common.{◌∙◌, subst, int_lt, int_le, int_cmp, is_lt, IsPermutation}
use Rattle.std.specs.List.Sorted.{IsSplitAround}
use Rattle.std.proofs.lemmas.Bool.{false≢true}
use Rattle.std.specs.Int.{int_max}
use Rattle.std.proofs.lemmas.Int.{by_lt_z}
use Rattle.std.proofs.lemmas.List.Sums.{sum_by-cons, sum_by-append, count_by-le-length}
use Rattle.std.proofs.lemmas.List.Elements.{Contains-append_right}
use borrow.Author.Differences.{at_most_in, le-true, true_is_lt, true_is_le, false_is_lt, lt_out, le_out}
use Rattle.quantile_index.proofs.BagLemmas.{count_no, count_yes}
use Rattle.fixed_num.specs.Floors.{floor_of}
use Rattle.fixed_num.specs.Rank.{IsMthSmallest, mth_smallest}
use Rattle.fixed_num.specs.Sums.{total}
use Rattle.fixed_num.proofs.FloorLemmas.{floor_of_mono}
use Rattle.fixed_num.proofs.RankLemmas.{IsMthSmallest-mth_smallest, IsMthSmallest-permutation, count_none, count_all}
use Rattle.fixed_num.proofs.SignedLemmas.{signed_arith}
use Rattle.instance_model.specs.Plans.{IsSmallSum}
use Rattle.instance_model.proofs.DeviationLemmas.{scale_mono}
use Rattle.scenario_rows.specs.Parts.{part_in}
use Rattle.scenario_rows.specs.Shifts.{AreBoundsOf}
use Rattle.scenario_rows.proofs.PartLemmas.{part_in_is}

-- ---- counts of two lists, place by place

weaker : (p q : Bool) → (p ≡ true → q ≡ true) → cond p 1 0 ≤ cond q 1 0
weaker true q h = rw (h refl) (omega arith)
weaker false q h = omega arith

count_moved : (p q : ℤ → Bool) (ys xs : List ℤ) → length ys ≡ length xs
    → ((k : ℕ) → k < length xs → p (get_or ys k (pos 0)) ≡ true → q (get_or xs k (pos 0)) ≡ true)
    → count_by p ys ≤ count_by q xs
count_moved p q [] [] e h = omega arith
count_moved p q (y ∷ ys) [] e h = absurd (omega (arith, e))
count_moved p q [] (x ∷ xs) e h = absurd (omega (arith, e))
count_moved p q (y ∷ ys) (x ∷ xs) e h =
    let rest = count_moved p q ys xs (omega (arith, e)) (λ k l. h (suc k) (omega (arith, l))) in
    let here = weaker (p y) (q x) (h zero (omega arith)) in
    omega (
      arith,
      rest,
      here,
      sum_by-cons (λ z. cond (p z) 1 0) y ys,
      sum_by-cons (λ z. cond (q z) 1 0) x xs,
    )

-- ---- a list around its member of some rank

below_yes : (a b : ℤ) → a <ℤ b → int_lt a b ≡ true
below_yes a b h = sym (true_is_lt a b (lt_out a b h))

not_less : (a b : ℤ) → is_lt (int_cmp a b) ≡ false → b ≤ℤ a
not_less a b e = by_lt_z a b (λ l. absurd (false≢true (sym e ∙ rw (below_yes a b l) refl))) (λ l. l)

below_no : (a b : ℤ) → b ≤ℤ a → int_lt a b ≡ false
below_no a b h = sym (false_is_lt a b (le_out b a h))

upto_yes : (a b : ℤ) → a ≤ℤ b → int_le a b ≡ true
upto_yes a b h = sym (true_is_le a b (le_out a b h))

-- what stands at a place with none above it before, and none below it behind, has the rank of that place
pub IsMthSmallest-from_split : (m : ℕ) (xs front back : List ℤ) (q : ℤ) → IsPermutation xs (front ++ q ∷ back)
    → IsSplitAround int_cmp front q back → 1 ≤ m → length front ≡ m - 1 → IsMthSmallest m xs q
IsMthSmallest-from_split m xs front back q moved split one place =
    let none_below = count_none (λ x. int_lt x q) back
    (λ k d l. below_no (get_or back k d) q (not_less (get_or back k d) q (split.1 k d l))) in
    let all_upto = count_all (λ x. int_le x q) front
    (λ k d l. upto_yes (get_or front k d) q (not_less q (get_or front k d) (split.0 k d l))) in
    let self_below = count_no (λ x. int_lt x q) q back (below_no q q (omega (arith, signed_arith))) in
    let self_upto = count_yes (λ x. int_le x q) q back (upto_yes q q (omega (arith, signed_arith))) in
    let below = sum_by-append (λ x. cond (int_lt x q) 1 0) front (q ∷ back) in
    let upto = sum_by-append (λ x. cond (int_le x q) 1 0) front (q ∷ back) in
    let few = count_by-le-length (λ x. int_lt x q) front in
    IsMthSmallest-permutation m xs (front ++ q ∷ back) q moved (record {
      member = Contains-append_right front (q ∷ back) q (zero, omega arith, refl);
      below = omega (arith, below, none_below, self_below, few, place, one);
      upto = omega (arith, upto, all_upto, self_upto, place, one);
    })

-- where each number whose old one was no smaller than the m-th smallest is at least r, so is the m-th smallest
pub mth_smallest-least : (m : ℕ) (xs ys : List ℤ) (r : ℤ) → 1 ≤ m → m ≤ length xs → length ys ≡ length xs
    → ((k : ℕ) → k < length ys → mth_smallest m xs ≤ℤ get_or xs k (pos 0) → r ≤ℤ get_or ys k (pos 0))
    → r ≤ℤ mth_smallest m ys
mth_smallest-least m xs ys r one few each h =
    let q = mth_smallest m xs in
    let w = mth_smallest m ys in
    let hx = IsMthSmallest-mth_smallest m xs (omega (arith, one)) few in
    let hy = IsMthSmallest-mth_smallest m ys (omega (arith, one)) (omega (arith, few, each)) in
    by_lt_z w r
    (λ l. let c = count_moved (λ y. int_le y w) (λ x. int_lt x q) ys xs each (λ k b e.
    sym (true_is_lt (get_or xs k (pos 0)) q (lt_out (get_or xs k (pos 0)) q
    (by_lt_z (get_or xs k (pos 0)) q (λ s. s) (λ s. absurd (too_low (get_or ys k (pos 0)) l
    (at_most_in (get_or ys k (pos 0)) w (le-true (get_or ys k (pos 0)) w e))
    (h k (omega (arith, b, each)) s))))))) in
    absurd (omega (arith, c, hy.upto, hx.below)))
    (λ l. l)
  where
    too_low : (y : ℤ) → mth_smallest m ys <ℤ r → y ≤ℤ mth_smallest m ys → r ≤ℤ y → ⊥
    too_low y a b c = omega (arith, signed_arith, a, b, c)

-- ---- what a greater quantile adds

max_mono : (a b : ℤ) → a ≤ℤ b → int_max (pos 0) a ≤ℤ int_max (pos 0) b
max_mono a b h = omega (arith, signed_arith, h)

add_mono : (s a b : ℤ) → a ≤ℤ b → (s +ℤ a) ≤ℤ (s +ℤ b)
add_mono s a b h = omega (arith, signed_arith, h)

less_mono : (s a b : ℤ) → a ≤ℤ b → (a -ℤ s) ≤ℤ (b -ℤ s)
less_mono s a b h = omega (arith, signed_arith, h)

part_mono : (a n : ℕ) (q r s : ℤ) → 1 ≤ n → q ≤ℤ r
    → floor_of ((pos a *ℤ s) +ℤ (pos (1_000_000 - a) *ℤ int_max (pos 0) (pos n *ℤ q -ℤ s))) n
    ≤ℤ floor_of ((pos a *ℤ s) +ℤ (pos (1_000_000 - a) *ℤ int_max (pos 0) (pos n *ℤ r -ℤ s))) n
part_mono a n q r s some l =
    let x = int_max (pos 0) (pos n *ℤ q -ℤ s) in
    let y = int_max (pos 0) (pos n *ℤ r -ℤ s) in
    let e = max_mono (pos n *ℤ q -ℤ s) (pos n *ℤ r -ℤ s)
    (less_mono s (pos n *ℤ q) (pos n *ℤ r) (scale_mono n q r l)) in
    floor_of_mono ((pos a *ℤ s) +ℤ (pos (1_000_000 - a) *ℤ x)) ((pos a *ℤ s) +ℤ (pos (1_000_000 - a) *ℤ y)) n
    (omega (arith, some))
    (add_mono (pos a *ℤ s) (pos (1_000_000 - a) *ℤ x) (pos (1_000_000 - a) *ℤ y) (scale_mono (1_000_000 - a) x y e))

-- from a total and at most a quantile: at most what the sums add
pub part_in-least : (a rank : ℕ) (xs : List ℤ) (s q : ℤ) → 1 ≤ length xs → AreBoundsOf rank xs s q
    → floor_of ((pos a *ℤ s) +ℤ (pos (1_000_000 - a) *ℤ int_max (pos 0) (pos (length xs) *ℤ q -ℤ s))) (length xs)
    ≤ℤ part_in a rank xs
part_in-least a rank xs s q some b =
    rw (part_in_is a rank xs, b.total) (part_mono a (length xs) q (mth_smallest rank xs) (total xs) some b.quantile)

-- ---- a bound on a quantile

pub AreBoundsOf-least : (rank : ℕ) (xs ys : List ℤ) (s before q : ℤ) → 1 ≤ rank → rank ≤ length xs
    → length ys ≡ length xs → s ≡ total ys → before ≡ mth_smallest rank xs
    → ((k : ℕ) → k < length ys → before ≤ℤ get_or xs k (pos 0) → q ≤ℤ get_or ys k (pos 0)) → IsSmallSum q
    → AreBoundsOf rank ys s q
AreBoundsOf-least rank xs ys s before q one few each es eb h small =
    record {
      total = es;
      quantile = mth_smallest-least rank xs ys q one few each
          (λ k l above. h k l (subst (λ (x : ℤ). x ≤ℤ get_or xs k (pos 0)) (sym eb) above));
      small = small;
    }
