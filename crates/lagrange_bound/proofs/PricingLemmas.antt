-- What the prices on the limits of bands add, as the code has it.
use Rattle.std.proofs.Common.{◌≡◌, ℕ, zero, suc, ◌+◌, ◌-◌, ◌*◌, ◌<◌, ◌≤◌, ◌^◌, refl, sym, ◌∙◌, ap, arith, ℤ, pos, ◌+ℤ◌}
use Rattle.std.proofs.Common.{◌-ℤ◌, ◌*ℤ◌, unsigned_abs, to_z, FitsSigned, Bool, true, false, Some}
use Rattle.std.specs.Int.{w128}
use Rattle.std.proofs.lemmas.Int.{to_z_pos, fits_signed_from_abs}
use Rattle.fixed_num.specs.Sums.{sum_below}
use Rattle.fixed_num.proofs.Bits.{by_bits}
use Rattle.fixed_num.proofs.SignedLemmas.{back_from_abs, signed_arith, abs-product}
use Rattle.fixed_num.proofs.SumLemmas.{sum_below-zero, sum_below-suc, sum_step, sum_step_small, abs-sum}
use Rattle.instance_model.specs.Tables.{Tables, in_run, load_of}
use Rattle.instance_model.specs.Plans.{load_at}
use Rattle.instance_model.proofs.BoardLemmas.{load_at-idle, load_at-running}
use Rattle.duration_calendar.specs.declared.window.Window.{Window}
use Rattle.duration_calendar.specs.Windows.{in_window}
use Rattle.duration_calendar.proofs.WindowLemmas.{in_window_facts}
use Rattle.lagrange_bound.specs.Prices.{PriceList, up_of, lo_of}
use Rattle.lagrange_bound.specs.Worth.{band_share, band_part, ex_part, price_of}

-- a product of a difference of two prices
pub record IsPriced (up lo : ℕ) (load : ℤ) : Type 0 where
  pub fits : FitsSigned w128 (by_bits (to_z w128 up -ℤ to_z w128 lo) *ℤ by_bits load)
  pub value : by_bits (by_bits (to_z w128 up -ℤ to_z w128 lo) *ℤ by_bits load) ≡ (pos up -ℤ pos lo) *ℤ load
  pub small : unsigned_abs (by_bits (by_bits (to_z w128 up -ℤ to_z w128 lo) *ℤ by_bits load)) ≤ 10 ^ 29

pub IsPriced-from : (up lo : ℕ) (load : ℤ) → up ≤ 1_000_000_000 → lo ≤ 1_000_000_000
    → unsigned_abs load < 10 ^ 20 → IsPriced up lo load
IsPriced-from up lo load h k l =
    let gap : unsigned_abs (pos up -ℤ pos lo) ≤ 1_000_000_000 = omega (arith, signed_arith, h, k) in
    let size : unsigned_abs ((pos up -ℤ pos lo) *ℤ load) ≤ 1_000_000_000 * 100_000_000_000_000_000_000 =
    abs-product (pos up -ℤ pos lo) load 1_000_000_000 100_000_000_000_000_000_000 gap (omega (arith, l)) in
    let within : unsigned_abs ((pos up -ℤ pos lo) *ℤ load) < 2 ^ 127 = omega (arith, size) in
    let a : to_z w128 up ≡ pos up = to_z_pos w128 up (omega (arith, h)) in
    let b : to_z w128 lo ≡ pos lo = to_z_pos w128 lo (omega (arith, k)) in
    let d : by_bits (pos up -ℤ pos lo) ≡ pos up -ℤ pos lo = back_from_abs (pos up -ℤ pos lo) (omega (arith, gap)) in
    let e : by_bits load ≡ load = back_from_abs load (omega (arith, l)) in
    let f : by_bits ((pos up -ℤ pos lo) *ℤ load) ≡ (pos up -ℤ pos lo) *ℤ load =
    back_from_abs ((pos up -ℤ pos lo) *ℤ load) within in
    record {
      fits = rw (a, b, d, e) (fits_signed_from_abs w128 ((pos up -ℤ pos lo) *ℤ load) within);
      value = rw (a, b, d, e) f;
      small = rw (a, b, d, e, f) (omega (arith, size));
    }

-- equal prices add nothing
nothing : (a b : ℕ) (z : ℤ) → a ≡ b → pos 0 ≡ (pos a -ℤ pos b) *ℤ z
nothing a b z e = rw e (sym (at (pos b -ℤ pos b) (omega (arith, signed_arith))))
  where
    at : (d : ℤ) → d ≡ pos 0 → d *ℤ z ≡ pos 0
    at d q = rw q (omega (arith, signed_arith))

pub band_share_none : (inst : Tables) (prices : PriceList) (i s c t up lo : ℕ) → up ≡ up_of inst prices c t
    → lo ≡ lo_of inst prices c t → up ≡ lo → pos 0 ≡ band_share inst prices i s c t
band_share_none inst prices i s c t up lo a b e =
    nothing (up_of inst prices c t) (lo_of inst prices c t) (load_at inst c t i (Some s)) (sym a ∙ e ∙ b)

pub band_share_is : (inst : Tables) (prices : PriceList) (i s c t up lo : ℕ) (load : ℤ) → up ≡ up_of inst prices c t
    → lo ≡ lo_of inst prices c t → in_run inst i s t ≡ true → load ≡ load_of inst i s c t
    → (pos up -ℤ pos lo) *ℤ load ≡ band_share inst prices i s c t
band_share_is inst prices i s c t up lo load a b r l =
    let e = load_at-running inst c t i s r in
    rw (a, b, l, e) refl

pub band_share_idle : (inst : Tables) (prices : PriceList) (i s c t : ℕ) → in_run inst i s t ≡ false
    → band_share inst prices i s c t ≡ pos 0
band_share_idle inst prices i s c t r =
    let e = load_at-idle inst c t i s r in
    rw e (omega (arith, signed_arith))

-- terms that are 0 add nothing
pub sum_below_idle : (a n : ℕ) (f : ℕ → ℤ) → ((k : ℕ) → a ≤ k → k < a + n → f k ≡ pos 0)
    → sum_below (a + n) f ≡ sum_below a f
sum_below_idle a zero f h = let e : a + 0 ≡ a = omega arith in ap (λ (n : ℕ). sum_below n f) e
sum_below_idle a (suc n) f h =
    let ih : sum_below (a + n) f ≡ sum_below a f = sum_below_idle a n f (λ k l w. h k l (omega (arith, w))) in
    let e : f (a + n) ≡ pos 0 = h (a + n) (omega arith) (omega arith) in
    let next : a + suc n ≡ suc (a + n) = omega arith in
    rw next (rw (sum_below-suc (a + n) f, e) (omega (arith, signed_arith, ih)))

pub sum_below_rest : (a b : ℕ) (f : ℕ → ℤ) → a ≤ b → ((k : ℕ) → a ≤ k → k < b → f k ≡ pos 0)
    → sum_below a f ≡ sum_below b f
sum_below_rest a b f l h =
    let e : a + (b - a) ≡ b = omega arith in
    sym (sum_below_idle a (b - a) f (λ k m w. h k m (omega (arith, w)))) ∙ ap (λ (n : ℕ). sum_below n f) e

pub idle_outside : (inst : Tables) (i s : ℕ) (w : Window) (t : ℕ) → ((u : ℕ) → in_window w u ≡ in_run inst i s u)
    → (w.from ≤ t → t < w.past → ⊥) → in_run inst i s t ≡ false
idle_outside inst i s w t is out = at (in_window w t) refl
  where
    at : (b : Bool) → in_window w t ≡ b → in_run inst i s t ≡ false
    at true e = let f = in_window_facts w t e in absurd (out f.0 f.1)
    at false e = sym (is t) ∙ e

-- ---- the loop over the periods of a run

-- the sum over the periods before t of a run from s on
pub record IsRunSum (f : ℕ → ℤ) (t : ℕ) (cost : ℤ) : Type 0 where
  pub value : cost ≡ sum_below (t - 1) f
  pub small : unsigned_abs cost ≤ (t - 1) * 10 ^ 29

pub run_sum_none : (f : ℕ → ℤ) (s : ℕ) → ((u : ℕ) → u + 1 < s → f u ≡ pos 0) → IsRunSum f s (pos 0)
run_sum_none f s h =
    record {
      value = sym (sum_below-zero f) ∙ sum_below_rest 0 (s - 1) f (omega arith) (λ k l w. h k (omega (arith, w)));
      small = omega arith;
    }

pub run_sum_more : (f : ℕ → ℤ) (t : ℕ) (cost x : ℤ) → 1 ≤ t → t ≤ 512 → IsRunSum f t cost → x ≡ f (t - 1)
    → unsigned_abs x ≤ 10 ^ 29 → IsRunSum f (t + 1) (by_bits (cost +ℤ by_bits x))
run_sum_more f t cost x one few h e small =
    let d : (t + 1) - 1 ≡ (t - 1) + 1 = omega arith in
    let room : ((t - 1) + 1) * 100_000_000_000_000_000_000_000_000_000 < 2 ^ 127 = omega arith in
    record {
      value = rw d (sum_step cost x (t - 1) 100_000_000_000_000_000_000_000_000_000 f h.value h.small e small room);
      small = rw d (sum_step_small cost x (t - 1) 100_000_000_000_000_000_000_000_000_000 h.small small room);
    }

pub run_sum_fits : (f : ℕ → ℤ) (t : ℕ) (cost x : ℤ) → 1 ≤ t → t ≤ 512 → IsRunSum f t cost → unsigned_abs x ≤ 10 ^ 29
    → FitsSigned w128 (cost +ℤ by_bits x)
run_sum_fits f t cost x one few h small =
    let e : by_bits x ≡ x = back_from_abs x (omega (arith, small)) in
    let g = h.small in
    rw e (fits_signed_from_abs w128 (cost +ℤ x) (omega (arith, abs-sum cost x, g, small)))

pub run_sum_all : (f : ℕ → ℤ) (t n : ℕ) (cost : ℤ) → IsRunSum f t cost → 1 ≤ t → t ≤ n + 1 → n ≤ 512
    → ((u : ℕ) → t ≤ u + 1 → u < n → f u ≡ pos 0) → (cost ≡ sum_below n f)
    × (unsigned_abs cost ≤ 51_200_000_000_000_000_000_000_000_000_000)
run_sum_all f t n cost h one few limit rest = (
  h.value ∙ sum_below_rest (t - 1) n f (omega arith) (λ k l w. rest k (omega (arith, l)) w),
  let g = h.small in omega (arith, g),
)

-- a price, as the code adds it up
pub price_is : (base : ℕ → ℕ → ℤ) (inst : Tables) (prices : PriceList) (i s : ℕ) (b d : ℤ) (ex : ℕ) → b ≡ base i s
    → d ≡ band_part inst prices i s → ex ≡ ex_part inst prices.ex i s → unsigned_abs b < 10 ^ 30
    → unsigned_abs d ≤ 16_384 * 10 ^ 29 → ex ≤ 2 ^ 25 * 2_000_000_000
    → by_bits (by_bits (by_bits b +ℤ by_bits d) +ℤ by_bits (pos 1_000_000_000_000 *ℤ to_z w128 ex))
    ≡ price_of base inst prices i s
unfolding price_of
price_is base inst prices i s b d ex p q r h k l =
    let x : to_z w128 ex ≡ pos ex = to_z_pos w128 ex (omega (arith, l)) in
    let y : pos 1_000_000_000_000 *ℤ pos ex ≡ pos (1_000_000_000_000 * ex) = omega (arith, signed_arith) in
    let u : by_bits b ≡ b = back_from_abs b (omega (arith, h)) in
    let v : by_bits d ≡ d = back_from_abs d (omega (arith, k)) in
    let m : by_bits (b +ℤ d) ≡ b +ℤ d = back_from_abs (b +ℤ d) (omega (arith, abs-sum b d, h, k)) in
    let n : by_bits (pos (1_000_000_000_000 * ex)) ≡ pos (1_000_000_000_000 * ex) =
    back_from_abs (pos (1_000_000_000_000 * ex)) (omega (arith, l)) in
    let o : by_bits ((b +ℤ d) +ℤ pos (1_000_000_000_000 * ex)) ≡ (b +ℤ d) +ℤ pos (1_000_000_000_000 * ex) =
    back_from_abs ((b +ℤ d) +ℤ pos (1_000_000_000_000 * ex)) (omega (arith, signed_arith, abs-sum b d, h, k, l)) in
    rw (x, y, u, v, m, n, o, p, q, r) refl
