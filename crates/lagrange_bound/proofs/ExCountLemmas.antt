-- What the prices of exclusions add, and how many there can be.
use Rattle.std.proofs.Common.{◌≡◌, ℕ, zero, suc, ◌+◌, ◌-◌, ◌*◌, ◌<◌, ◌≤◌, ◌⊎◌, inl, inr, refl, sym, ◌∙◌, ap, arith}
use Rattle.std.proofs.Common.{List, length, get_or, Bool, true, false, AllPairs, All, take, sum_by}
use Rattle.std.proofs.lemmas.List.{take_all}
use Rattle.std.proofs.lemmas.List.Elements.{All-from_recursion, All-get_or}
use Rattle.std.proofs.lemmas.List.Recursion.{is_sum_by}
use Rattle.std.proofs.Math.Nat.{mul-le-mul_right}
use Rattle.instance_model.specs.Tables.{Tables, in_run, exclusion_of}
use Rattle.instance_model.specs.Fitting.{IsFitting}
use Rattle.lagrange_bound.specs.declared.ex_price.ExPrice.{ExPrice}
use Rattle.lagrange_bound.specs.Prices.{PriceList, IsPriceList, IsExPrice, ExBefore}
use Rattle.lagrange_bound.specs.Worth.{times_named, ex_share, ex_part}

pub ex_part-sum_by : (inst : Tables) (xs : List ExPrice) (i s : ℕ)
    → ex_part inst xs i s ≡ sum_by (λ x. ex_share inst x i s) xs
unfolding ex_part
ex_part-sum_by inst xs i s = is_sum_by (λ ys. ex_part inst ys i s) (λ x. ex_share inst x i s) refl (λ _ _. refl) xs

pub ex_share_idle : (inst : Tables) (x : ExPrice) (i s : ℕ) (b : Bool) → b ≡ in_run inst i s x.period → b ≡ false
    → 0 ≡ ex_share inst x i s
unfolding ex_share
ex_share_idle inst x i s b e f = let r : in_run inst i s x.period ≡ false = sym e ∙ f in rw r refl

pub ex_share_running : (inst : Tables) (x : ExPrice) (i s n : ℕ) (b : Bool) → b ≡ in_run inst i s x.period → b ≡ true
    → n ≡ times_named (exclusion_of inst x.exclusion) i → x.value * n ≡ ex_share inst x i s
unfolding ex_share
ex_share_running inst x i s n b e f m = let r : in_run inst i s x.period ≡ true = sym e ∙ f in rw (r, m) refl

-- ---- a strictly ascending list of pairs is no longer than there are pairs

-- the number of a pair
abbrev pair_number : ℕ → ExPrice → ℕ
pair_number periods x = x.exclusion * periods + (x.period - 1)

rises : (inst : Tables) (x y : ExPrice) → IsExPrice inst x → IsExPrice inst y → ExBefore x y
    → pair_number inst.periods x < pair_number inst.periods y
rises inst x y h k b = at b
  where
    at : (x.exclusion < y.exclusion) ⊎ ((x.exclusion ≡ y.exclusion) × (x.period < y.period))
        → pair_number inst.periods x < pair_number inst.periods y
    at (inl p) =
        let whole : (x.exclusion + 1) * inst.periods ≤ y.exclusion * inst.periods =
        mul-le-mul_right inst.periods (omega (arith, p)) in
        let a = h.from in let c = h.to in
        omega (arith, whole, a, c)
    at (inr p) =
        let a = h.from in let c = k.from in
        let e : x.exclusion * inst.periods ≡ y.exclusion * inst.periods = ap (λ (n : ℕ). n * inst.periods) p.0 in
        omega (arith, e, p.1, a, c)

numbers_rise : (inst : Tables) (xs : List ExPrice) (d : ExPrice) → All (IsExPrice inst) xs → AllPairs ExBefore xs
    → (k : ℕ) → k < length xs → k ≤ pair_number inst.periods (get_or xs k d)
numbers_rise inst xs d each ascend zero l = omega arith
numbers_rise inst xs d each ascend (suc k) l =
    let ih : k ≤ pair_number inst.periods (get_or xs k d) = numbers_rise inst xs d each ascend k (omega (arith, l)) in
    let step = rises inst (get_or xs k d) (get_or xs (suc k) d) (All-get_or (IsExPrice inst) xs k d (omega (arith, l))
    each) (All-get_or (IsExPrice inst) xs (suc k) d l each) (ascend k (suc k) d (omega arith) l) in
    omega (arith, ih, step)

pub ex_few : (inst : Tables) (prices : PriceList) → IsFitting inst → IsPriceList inst prices
    → length prices.ex ≤ 33_554_432
ex_few inst prices f h = at (length prices.ex) refl
  where
    d : ExPrice
    d = record { exclusion = 0; period = 0; value = 0 }

    at : (n : ℕ) → length prices.ex ≡ n → length prices.ex ≤ 33_554_432
    at zero e = omega (arith, e)
    at (suc n) e =
        let each = All-from_recursion (IsExPrice inst) prices.ex h.ex in
        let last = All-get_or (IsExPrice inst) prices.ex n d (omega (arith, e)) each in
        let low = numbers_rise inst prices.ex d each h.ex_ascend n (omega (arith, e)) in
        let a = last.number in
        let b = last.to in
        let c = last.from in
        let g = f.exclusions.few in
        let p = f.few_periods in
        let whole : ((get_or prices.ex n d).exclusion + 1) * inst.periods ≤ 65_536 * inst.periods =
        mul-le-mul_right inst.periods (omega (arith, a, g)) in
        omega (arith, e, low, whole, b, c, p)

-- the loop over a list of prices: what is added so far
pub ex_sum_all : (inst : Tables) (xs : List ExPrice) (i s n cost : ℕ)
    → cost ≡ sum_by (λ x. ex_share inst x i s) (take n xs) → n ≡ length xs → cost ≡ ex_part inst xs i s
ex_sum_all inst xs i s n cost h e =
    let whole : take n xs ≡ xs = ap (λ (m : ℕ). take m xs) e ∙ take_all (length xs) xs (omega arith) in
    h ∙ ap (sum_by (λ x. ex_share inst x i s)) whole ∙ sym (ex_part-sum_by inst xs i s)
