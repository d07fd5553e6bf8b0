-- Starts whose kept numbers are least, as the code finds them, and sums over them.
use Rattle.std.proofs.Common.{◌≡◌, ℕ, ◌+◌, ◌*◌, ◌<◌, ◌≤◌, ◌⊎◌, inl, inr, refl, sym, ◌∙◌, ap, subst, arith, ℤ, pos, ◌+ℤ◌}
use Rattle.std.proofs.Common.{◌-ℤ◌, ◌*ℤ◌, ◌≤ℤ◌, List, [], ◌∷◌, ◌++◌, length, get_or, IsTrue, unsigned_abs, ◌^◌, to_z}
use Rattle.std.proofs.Common.{FitsSigned}
use Rattle.std.specs.Int.{w128}
use Rattle.std.proofs.lemmas.Bool.{cases_lt}
use Rattle.std.proofs.lemmas.Int.{to_z_pos, fits_signed_from_abs}
use Rattle.std.proofs.lemmas.List.{get_or_push, get_or_append_left, length-append}
use Rattle.fixed_num.specs.Sums.{sum_below}
use Rattle.fixed_num.proofs.Bits.{by_bits}
use Rattle.fixed_num.proofs.SignedLemmas.{signed_arith, back_from_abs, abs-product}
use Rattle.fixed_num.proofs.SumLemmas.{abs-sum}
use Rattle.instance_model.specs.Tables.{Tables, tmax, is_allowed}
use Rattle.instance_model.proofs.EntryLemmas.{is_allowed_facts}
use Rattle.price_ladder.specs.declared.place.Place.{Place}
use Rattle.price_ladder.specs.Weights.{weight_of, fixed_weight}
use Rattle.price_ladder.specs.Kept.{kept_at, AreLeast, IsLeastStart, sum_over, slope_of}

-- an allowed start whose kept number is least among the allowed starts before s
pub record IsLeastTo (inst : Tables) (entries : List ℤ) (i best s : ℕ) : Type 0 where
  pub allowed : IsTrue (is_allowed inst i best)
  pub least : (u : ℕ) → 1 ≤ u → u < s → IsTrue (is_allowed inst i u)
      → kept_at inst entries i best ≤ℤ kept_at inst entries i u

pub least_none : (inst : Tables) (entries : List ℤ) (i best : ℕ) → IsTrue (is_allowed inst i best)
    → IsLeastTo inst entries i best 1
least_none inst entries i best h = record { allowed = h; least = λ u l k a. absurd (omega (arith, l, k)) }

le-trans : (a b c : ℤ) → a ≤ℤ b → b ≤ℤ c → a ≤ℤ c
le-trans a b c h k = omega (arith, signed_arith, h, k)

pub least_more : (inst : Tables) (entries : List ℤ) (i best next s : ℕ) → IsLeastTo inst entries i best s
    → IsTrue (is_allowed inst i next) → kept_at inst entries i next ≤ℤ kept_at inst entries i best
    → (IsTrue (is_allowed inst i s) → kept_at inst entries i next ≤ℤ kept_at inst entries i s)
    → IsLeastTo inst entries i next (s + 1)
least_more inst entries i best next s h allowed before here =
    record { allowed = allowed; least = λ u l k a. at u l k a (cases_lt u s) }
  where
    at : (u : ℕ) → 1 ≤ u → u < s + 1 → IsTrue (is_allowed inst i u) → (u < s) ⊎ (s ≤ u)
        → kept_at inst entries i next ≤ℤ kept_at inst entries i u
    at u l k a (inl b) = le-trans _ _ _ before (h.least u l b a)
    at u l k a (inr b) =
        let e : s ≡ u = omega (arith, k, b) in
        subst (λ (m : ℕ). IsTrue (is_allowed inst i m)
        → kept_at inst entries i next ≤ℤ kept_at inst entries i m) e here a

pub least_all : (inst : Tables) (entries : List ℤ) (i best n : ℕ) → n ≡ tmax inst i + 1
    → IsLeastTo inst entries i best n → IsLeastStart inst entries i best
least_all inst entries i best n e h = record {
  allowed = h.allowed;
  least = λ u a. let w = is_allowed_facts inst i u a in h.least u w.0 (omega (arith, w.1, e)) a;
}

-- such a start for each intervention before n
pub record AreLeastTo (inst : Tables) (entries : List ℤ) (n : ℕ) (choice : List ℕ) : Type 0 where
  pub each : length choice ≡ n
  pub at : (i : ℕ) → i < n → IsLeastStart inst entries i (get_or choice i 0)

pub choice_none : (inst : Tables) (entries : List ℤ) (choice : List ℕ) → choice ≡ []
    → AreLeastTo inst entries 0 choice
choice_none inst entries choice e =
    record { each = ap (λ (xs : List ℕ). length xs) e; at = λ i l. absurd (omega (arith, l)) }

pub choice_more : (inst : Tables) (entries : List ℤ) (n : ℕ) (choice more : List ℕ) (s : ℕ)
    → AreLeastTo inst entries n choice → more ≡ choice ++ s ∷ [] → IsLeastStart inst entries n s
    → AreLeastTo inst entries (n + 1) more
choice_more inst entries n choice more s h e here = record {
  each = omega (arith, ap (λ (xs : List ℕ). length xs) e, length-append choice (s ∷ []), h.each);
  at = λ i l. at i l (cases_lt i n);
}
  where
    at : (i : ℕ) → i < n + 1 → (i < n) ⊎ (n ≤ i) → IsLeastStart inst entries i (get_or more i 0)
    at i l (inl b) = subst (IsLeastStart inst entries i)
        (sym (ap (λ (xs : List ℕ). get_or xs i 0) e ∙ get_or_append_left choice (s ∷ []) 0 i (omega (
          arith,
          b,
          h.each,
        ))))
        (h.at i b)
    at i l (inr b) =
        let q : n ≡ i = omega (arith, l, b) in
        subst (λ (m : ℕ). IsLeastStart inst entries m (get_or more m 0)) q
        (subst (IsLeastStart inst entries n)
        (sym (ap (λ (xs : List ℕ). get_or xs n 0) e ∙ get_or_push choice s 0 n h.each)) here)

pub choice_all : (inst : Tables) (entries : List ℤ) (n : ℕ) (choice : List ℕ) → n ≡ length inst.names
    → AreLeastTo inst entries n choice → AreLeast inst entries choice
choice_all inst entries n choice e h = record {
  starts = record { each = h.each ∙ e; allowed = λ i l. (h.at i (omega (arith, l, h.each))).allowed };
  least = λ i s l a. (h.at i (omega (arith, l, e))).least s a;
}

-- ---- sums

pub sum_over_all : (inst : Tables) (f : ℕ → ℕ → ℤ) (choice : List ℕ) (n : ℕ) (z : ℤ) → n ≡ length inst.names
    → z ≡ sum_below n (λ i. f i (get_or choice i 0)) → z ≡ sum_over inst f choice
unfolding sum_over
sum_over_all inst f choice n z e h =
    h ∙ ap (λ (m : ℕ). sum_below m (λ i. f i (get_or choice i 0))) e

pub slope_is : (inst : Tables) (place : Place) (choice : List ℕ) (a b : ℤ)
    → a ≡ sum_over inst (weight_of inst place) choice → b ≡ fixed_weight inst place
    → unsigned_abs a ≤ 1024 * 10 ^ 20 → unsigned_abs b < 2 * 10 ^ 20
    → by_bits (by_bits a +ℤ by_bits b) ≡ slope_of inst place choice
unfolding slope_of
slope_is inst place choice a b p q h k =
    let u : by_bits a ≡ a = back_from_abs a (omega (arith, h)) in
    let v : by_bits b ≡ b = back_from_abs b (omega (arith, k)) in
    let w : by_bits (a +ℤ b) ≡ a +ℤ b = back_from_abs (a +ℤ b) (omega (arith, abs-sum a b, h, k)) in
    rw (u, v, w, p, q) refl

-- ---- what is added for a changed number, as the code adds it up

-- a number with times more of another
pub record IsMore (a times w : ℤ) (r : ℤ) : Type 0 where
  pub value : r ≡ a +ℤ times *ℤ w
  pub gap : unsigned_abs r ≤ unsigned_abs a + 1_000_000_000 * 300_000_000_000_000_000_000_000
  pub fits_product : FitsSigned w128 (by_bits times *ℤ by_bits w)
  pub fits_sum : FitsSigned w128 (by_bits a +ℤ by_bits (by_bits times *ℤ by_bits w))

pub more_is : (a times w : ℤ) → unsigned_abs a < 2 * 10 ^ 37 → unsigned_abs times ≤ 1_000_000_000
    → unsigned_abs w ≤ 300_000_000_000_000_000_000_000
    → IsMore a times w (by_bits (by_bits a +ℤ by_bits (by_bits times *ℤ by_bits w)))
more_is a times w h k l =
    let p = abs-product times w 1_000_000_000 300_000_000_000_000_000_000_000 k l in
    let s : by_bits a ≡ a = back_from_abs a (omega (arith, h)) in
    let t : by_bits times ≡ times = back_from_abs times (omega (arith, k)) in
    let u : by_bits w ≡ w = back_from_abs w (omega (arith, l)) in
    let v : by_bits (times *ℤ w) ≡ times *ℤ w = back_from_abs (times *ℤ w) (omega (arith, p)) in
    let x : by_bits (a +ℤ times *ℤ w) ≡ a +ℤ times *ℤ w =
    back_from_abs (a +ℤ times *ℤ w) (omega (arith, abs-sum a (times *ℤ w), h, p)) in
    record {
      value = rw (s, t, u, v, x) refl;
      gap = rw (s, t, u, v, x) (omega (arith, abs-sum a (times *ℤ w), p));
      fits_product = rw (t, u) (fits_signed_from_abs w128 (times *ℤ w) (omega (arith, p)));
      fits_sum = rw (s, t, u, v)
          (fits_signed_from_abs w128 (a +ℤ times *ℤ w) (omega (arith, abs-sum a (times *ℤ w), h, p)));
    }

-- the difference of two prices
pub record IsTimes (v u : ℕ) (r : ℤ) : Type 0 where
  pub value : r ≡ pos v -ℤ pos u
  pub small : unsigned_abs r ≤ 1_000_000_000

pub times_is : (v u : ℕ) → v ≤ 1_000_000_000 → u ≤ 1_000_000_000
    → IsTimes v u (to_z w128 v -ℤ to_z w128 u)
times_is v u h k =
    let a : to_z w128 v ≡ pos v = to_z_pos w128 v (omega (arith, h)) in
    let b : to_z w128 u ≡ pos u = to_z_pos w128 u (omega (arith, k)) in
    record { value = rw (a, b) refl; small = rw (a, b) (omega (arith, signed_arith, h, k)) }
