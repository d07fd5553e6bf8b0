-- What the prices add whatever the starts are, as the code has it.
use Rattle.std.proofs.Common.{◌≡◌, ℕ, ◌+◌, ◌*◌, ◌<◌, ◌≤◌, ◌^◌, refl, sym, ◌∙◌, ap, arith, ℤ, pos, ◌-ℤ◌, ◌*ℤ◌}
use Rattle.std.proofs.Common.{unsigned_abs, to_z, FitsSigned, List, length, take, sum_by, get_or, All}
use Rattle.std.specs.Int.{w128}
use Rattle.std.proofs.lemmas.Int.{to_z_pos, fits_signed_from_abs}
use Rattle.std.proofs.lemmas.List.{take_all}
use Rattle.std.proofs.lemmas.List.Elements.{All-from_recursion, All-get_or}
use Rattle.std.proofs.lemmas.List.Recursion.{is_sum_by}
use Rattle.fixed_num.specs.Sums.{sum_below}
use Rattle.fixed_num.proofs.Bits.{by_bits}
use Rattle.fixed_num.proofs.SignedLemmas.{back_from_abs, signed_arith, abs-product}
use Rattle.instance_model.specs.Tables.{Tables, lower_of, upper_of}
use Rattle.lagrange_bound.specs.declared.ex_price.ExPrice.{ExPrice}
use Rattle.lagrange_bound.specs.Prices.{PriceList, IsPriceList, IsExPrice, up_of, lo_of}
use Rattle.lagrange_bound.specs.Worth.{limit_share, ex_total, fixed_part}

-- the difference of two products of a price and a limit
pub record IsLimitPriced (up lo : ℕ) (upper lower : ℤ) : Type 0 where
  pub fits : FitsSigned w128 (by_bits (to_z w128 lo *ℤ by_bits lower) -ℤ by_bits (to_z w128 up *ℤ by_bits upper))
  pub value : by_bits (by_bits (to_z w128 lo *ℤ by_bits lower) -ℤ by_bits (to_z w128 up *ℤ by_bits upper))
      ≡ (pos lo *ℤ lower) -ℤ (pos up *ℤ upper)
  pub small : unsigned_abs (by_bits
      (by_bits (to_z w128 lo *ℤ by_bits lower) -ℤ by_bits (to_z w128 up *ℤ by_bits upper))) ≤ 4 * 10 ^ 29

product_size : (n : ℕ) (z : ℤ) → n ≤ 1_000_000_000 → unsigned_abs z < 2 * 10 ^ 20
    → unsigned_abs (pos n *ℤ z) ≤ 200_000_000_000_000_000_000_000_000_000
product_size n z h k = let p = abs-product (pos n) z 1_000_000_000 200_000_000_000_000_000_000 h (omega (arith, k)) in
    omega (arith, p)

pub IsLimitPriced-from : (up lo : ℕ) (upper lower : ℤ) → up ≤ 1_000_000_000 → lo ≤ 1_000_000_000
    → unsigned_abs upper < 2 * 10 ^ 20 → unsigned_abs lower < 2 * 10 ^ 20 → IsLimitPriced up lo upper lower
IsLimitPriced-from up lo upper lower h k l m =
    let p = product_size lo lower k m in
    let q = product_size up upper h l in
    let size = difference_size (pos lo *ℤ lower) (pos up *ℤ upper) p q in
    let a : to_z w128 up ≡ pos up = to_z_pos w128 up (omega (arith, h)) in
    let b : to_z w128 lo ≡ pos lo = to_z_pos w128 lo (omega (arith, k)) in
    let d : by_bits lower ≡ lower = back_from_abs lower (omega (arith, m)) in
    let e : by_bits upper ≡ upper = back_from_abs upper (omega (arith, l)) in
    let f : by_bits (pos lo *ℤ lower) ≡ pos lo *ℤ lower = back_from_abs (pos lo *ℤ lower) (omega (arith, p)) in
    let g : by_bits (pos up *ℤ upper) ≡ pos up *ℤ upper = back_from_abs (pos up *ℤ upper) (omega (arith, q)) in
    let i : by_bits ((pos lo *ℤ lower) -ℤ (pos up *ℤ upper)) ≡ (pos lo *ℤ lower) -ℤ (pos up *ℤ upper) =
    back_from_abs ((pos lo *ℤ lower) -ℤ (pos up *ℤ upper)) (omega (arith, size)) in
    record {
      fits = rw (a, b, d, e, f, g)
          (fits_signed_from_abs w128 ((pos lo *ℤ lower) -ℤ (pos up *ℤ upper)) (omega (arith, size)));
      value = rw (a, b, d, e, f, g) i;
      small = rw (a, b, d, e, f, g, i) size;
    }
  where
    difference_size : (x y : ℤ) → unsigned_abs x ≤ 200_000_000_000_000_000_000_000_000_000
        → unsigned_abs y ≤ 200_000_000_000_000_000_000_000_000_000 → unsigned_abs (x -ℤ y) ≤ 4 * 10 ^ 29
    difference_size x y s t = omega (arith, signed_arith, s, t)

pub limit_share_is : (inst : Tables) (prices : PriceList) (c t up lo : ℕ) (upper lower : ℤ) → up ≡ up_of inst prices c t
    → lo ≡ lo_of inst prices c t → upper ≡ upper_of inst c t → lower ≡ lower_of inst c t
    → (pos lo *ℤ lower) -ℤ (pos up *ℤ upper) ≡ limit_share inst prices c t
limit_share_is inst prices c t up lo upper lower p q r s = rw (p, q, r, s) refl

pub ex_total-sum_by : (xs : List ExPrice) → ex_total xs ≡ sum_by (λ x. x.value) xs
unfolding ex_total
ex_total-sum_by xs = is_sum_by ex_total (λ x. x.value) refl (λ _ _. refl) xs

pub ex_total_all : (xs ys : List ExPrice) (n total : ℕ) → total ≡ sum_by (λ x. x.value) (take n xs) → n ≡ length xs
    → xs ≡ ys → total ≡ ex_total ys
ex_total_all xs ys n total h e same =
    let whole : take n xs ≡ xs = ap (λ (m : ℕ). take m xs) e ∙ take_all (length xs) xs (omega arith) in
    h ∙ ap (sum_by (λ x. x.value)) whole ∙ sym (ex_total-sum_by xs) ∙ ap ex_total same

-- a price of the list is small
pub price_small : (inst : Tables) (prices : PriceList) (xs : List ExPrice) (k : ℕ) (d : ExPrice)
    → IsPriceList inst prices → xs ≡ prices.ex → k < length xs → (get_or xs k d).value ≤ 1_000_000_000
price_small inst prices xs k d h e l =
    let all : All (IsExPrice inst) prices.ex = All-from_recursion (IsExPrice inst) prices.ex h.ex in
    let l' : k < length prices.ex = omega (arith, l, ap length e) in
    rw e (All-get_or (IsExPrice inst) prices.ex k d l' all).small

pub fixed_is : (inst : Tables) (prices : PriceList) (limits : ℤ) (total : ℕ)
    → limits ≡ sum_below (length inst.resource_names) (λ c. sum_below inst.periods
    (λ u. limit_share inst prices c (u + 1))) → total ≡ ex_total prices.ex → unsigned_abs limits ≤ 16_384 * 4 * 10 ^ 29
    → total ≤ 2 ^ 25 * 1_000_000_000 → by_bits (by_bits limits -ℤ by_bits (pos 1_000_000_000_000 *ℤ to_z w128 total))
    ≡ fixed_part inst prices
unfolding fixed_part
fixed_is inst prices limits total p q h k =
    let x : to_z w128 total ≡ pos total = to_z_pos w128 total (omega (arith, k)) in
    let y : pos 1_000_000_000_000 *ℤ pos total ≡ pos (1_000_000_000_000 * total) = omega (arith, signed_arith) in
    let u : by_bits limits ≡ limits = back_from_abs limits (omega (arith, h)) in
    let n : by_bits (pos (1_000_000_000_000 * total)) ≡ pos (1_000_000_000_000 * total) =
    back_from_abs (pos (1_000_000_000_000 * total)) (omega (arith, k)) in
    let o : by_bits (limits -ℤ pos (1_000_000_000_000 * total)) ≡ limits -ℤ pos (1_000_000_000_000 * total) =
    back_from_abs (limits -ℤ pos (1_000_000_000_000 * total)) (omega (arith, signed_arith, h, k)) in
    rw (x, y, u, n, o, p, q) refl
