-- What a period adds to the score, as the code has it.
use Rattle.std.proofs.Common.{◌≡◌, ℕ, ◌-◌, ◌*◌, ◌<◌, ◌≤◌, ◌^◌, ◌∙◌, refl, sym, ap, arith, ℤ, pos, ◌+ℤ◌, ◌-ℤ◌, ◌*ℤ◌}
use Rattle.std.proofs.Common.{unsigned_abs, to_z, List, length}
use Rattle.std.specs.Int.{w128, int_max}
use Rattle.std.proofs.lemmas.Int.{to_z_pos}
use Rattle.fixed_num.specs.Floors.{floor_of, floor_quotient}
use Rattle.fixed_num.specs.Rank.{mth_smallest}
use Rattle.fixed_num.specs.Sums.{total}
use Rattle.fixed_num.proofs.Bits.{by_bits}
use Rattle.fixed_num.proofs.FloorLemmas.{floor_size}
use Rattle.fixed_num.proofs.SignedLemmas.{back_from_abs, signed_arith, abs-product}
use Rattle.fixed_num.proofs.SumLemmas.{abs-sum}
use Rattle.instance_model.specs.Values.{excess_in, numerator_in}
use Rattle.scenario_rows.specs.Parts.{part_in}

-- a quotient, rounded down
pub floor_is : (q v : ℤ) (n : ℕ) → n < 2 ^ 64 → unsigned_abs v ≤ 10 ^ 37
    → q ≡ floor_quotient (by_bits v) (to_z w128 n) → q ≡ floor_of v n
floor_is q v n few small e = e ∙ rw (back_from_abs v (omega (arith, small)), to_z_pos w128 n (omega (arith, few))) refl

-- how large the parts of a period can be
excess_small : (n : ℕ) (q s : ℤ) → n ≤ 1024 → unsigned_abs q ≤ 1024 * 10 ^ 20 → unsigned_abs s ≤ 1024 * 1024 * 10 ^ 20
    → unsigned_abs (int_max (pos 0) (pos n *ℤ q -ℤ s)) ≤ 2 * 1024 * 1024 * 10 ^ 20
excess_small n q s few small sum =
    let p = abs-product (pos n) q 1024 (1024 * 10 ^ 20) few small in
    at (pos n *ℤ q) p
  where
    at : (p : ℤ) → unsigned_abs p ≤ 1024 * (1024 * 10 ^ 20)
        → unsigned_abs (int_max (pos 0) (p -ℤ s)) ≤ 2 * 1024 * 1024 * 10 ^ 20
    at p h = omega (arith, signed_arith, h, sum)

weighted_small : (a : ℕ) (s e : ℤ) → a ≤ 1_000_000 → unsigned_abs s ≤ 1024 * 1024 * 10 ^ 20
    → unsigned_abs e ≤ 2 * 1024 * 1024 * 10 ^ 20 → unsigned_abs ((pos a *ℤ s) +ℤ (pos (1_000_000 - a) *ℤ e))
    ≤ 3 * 1024 * 1024 * 10 ^ 26
weighted_small a s e h sum excess =
    let p = abs-product (pos a) s 1_000_000 (1024 * 1024 * 10 ^ 20) h sum in
    let q = abs-product (pos (1_000_000 - a)) e 1_000_000 (2 * 1024 * 1024 * 10 ^ 20) (omega arith) excess in
    omega (arith, p, q, abs-sum (pos a *ℤ s) (pos (1_000_000 - a) *ℤ e))

-- the part of n sums with a quantile and a total
pub part_small : (a n : ℕ) (q s : ℤ) → a ≤ 1_000_000 → 1 ≤ n → n ≤ 1024 → unsigned_abs q ≤ 1024 * 10 ^ 20
    → unsigned_abs s ≤ 1024 * 1024 * 10 ^ 20
    → unsigned_abs (floor_of ((pos a *ℤ s) +ℤ (pos (1_000_000 - a) *ℤ int_max (pos 0) (pos n *ℤ q -ℤ s))) n)
    ≤ 3 * 1024 * 1024 * 10 ^ 26
part_small a n q s h some few small sum =
    let e = int_max (pos 0) (pos n *ℤ q -ℤ s) in
    let w = weighted_small a s e h sum (excess_small n q s few small sum) in
    let f = floor_size ((pos a *ℤ s) +ℤ (pos (1_000_000 - a) *ℤ e)) n some in
    omega (arith, w, f)

-- the same, by the definition
pub part_in_is : (a rank : ℕ) (xs : List ℤ)
    → part_in a rank xs
    ≡ floor_of
    ((pos a *ℤ total xs)
    +ℤ (pos (1_000_000 - a) *ℤ int_max (pos 0) (pos (length xs) *ℤ mth_smallest rank xs -ℤ total xs))) (length xs)
unfolding part_in numerator_in excess_in
part_in_is a rank xs = refl

-- the part, from numbers as the code hands them on
pub part_made : (a rank n : ℕ) (xs : List ℤ) (q s p : ℤ) → n ≡ length xs → q ≡ mth_smallest rank xs → s ≡ total xs
    → unsigned_abs q < 2 ^ 127 → unsigned_abs s < 2 ^ 127
    → p ≡ floor_of ((pos a *ℤ by_bits s) +ℤ (pos (1_000_000 - a) *ℤ int_max (pos 0) (pos n *ℤ by_bits q -ℤ by_bits s)))
    n → p ≡ part_in a rank xs
part_made a rank n xs q s p en eq es hq hs h =
    h ∙ rw (back_from_abs q hq, back_from_abs s hs, en, eq, es) (sym (part_in_is a rank xs))

-- the code's quotient is the part, and fits
pub part_quotient : (a n : ℕ) (q s e w r : ℤ) → a ≤ 1_000_000 → 1 ≤ n → n ≤ 1024 → unsigned_abs q ≤ 1024 * 10 ^ 20
    → unsigned_abs s ≤ 1024 * 1024 * 10 ^ 20 → unsigned_abs e ≤ 2 * 1024 * 1024 * 10 ^ 20
    → unsigned_abs w ≤ 3 * 1024 * 1024 * 10 ^ 26 → e ≡ int_max (pos 0) (pos n *ℤ by_bits q -ℤ by_bits s)
    → w ≡ (pos a *ℤ by_bits s) +ℤ (pos (1_000_000 - a) *ℤ by_bits e) → r ≡ floor_quotient (by_bits w) (to_z w128 n)
    → by_bits r ≡ floor_of ((pos a *ℤ s) +ℤ (pos (1_000_000 - a) *ℤ int_max (pos 0) (pos n *ℤ q -ℤ s))) n
part_quotient a n q s e w r h some few sq ss se sw ee ew er =
    let bq = back_from_abs q (omega (arith, sq)) in
    let bs = back_from_abs s (omega (arith, ss)) in
    let be = back_from_abs e (omega (arith, se)) in
    let f = floor_is r w n (omega arith) (omega (arith, sw)) er in
    let size : unsigned_abs r < 2 ^ 127 = rw f (omega (arith, sw, floor_size w n some)) in
    let ee' : e ≡ int_max (pos 0) (pos n *ℤ q -ℤ s) = ee ∙ ap (λ (x : ℤ). int_max (pos 0) (pos n *ℤ x -ℤ by_bits s)) bq
    ∙ ap (λ (x : ℤ). int_max (pos 0) (pos n *ℤ q -ℤ x)) bs in
    let ew' : w ≡ (pos a *ℤ s) +ℤ (pos (1_000_000 - a) *ℤ int_max (pos 0) (pos n *ℤ q -ℤ s)) = ew
    ∙ ap (λ (x : ℤ). (pos a *ℤ x) +ℤ (pos (1_000_000 - a) *ℤ by_bits e)) bs
    ∙ ap (λ (x : ℤ). (pos a *ℤ s) +ℤ (pos (1_000_000 - a) *ℤ x)) (be ∙ ee') in
    back_from_abs r size ∙ f ∙ ap (λ (x : ℤ). floor_of x n) ew'

-- the same numbers, as the code hands them on
pub part_handed : (a n : ℕ) (q s p : ℤ) → unsigned_abs q < 2 ^ 127 → unsigned_abs s < 2 ^ 127
    → p ≡ floor_of ((pos a *ℤ by_bits s) +ℤ (pos (1_000_000 - a) *ℤ int_max (pos 0) (pos n *ℤ by_bits q -ℤ by_bits s)))
    n → p ≡ floor_of ((pos a *ℤ s) +ℤ (pos (1_000_000 - a) *ℤ int_max (pos 0) (pos n *ℤ q -ℤ s))) n
part_handed a n q s p hq hs h = h ∙ rw (back_from_abs q hq, back_from_abs s hs) refl
