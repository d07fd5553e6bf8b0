-- Terms and bases as the code has them.
use Rattle.std.proofs.Common.{◌≡◌, ℕ, zero, suc, ◌+◌, ◌-◌, ◌*◌, ◌<◌, ◌≤◌, refl, sym, ◌∙◌, ap, arith, ℤ, pos}
use Rattle.std.proofs.Common.{◌+ℤ◌, ◌-ℤ◌, ◌*ℤ◌, true, false, cond, List, [], ◌∷◌, ◌++◌, length, get_or, map, fold, take}
use Rattle.std.proofs.Common.{unsigned_abs, to_z, FitsSigned, Option, Some, None, option_map, Bor}
use Rattle.std.specs.Int.{int_min, w128}
use Rattle.std.proofs.lemmas.Int.{to_z_pos, fits_signed_from_abs}
use Rattle.std.proofs.lemmas.List.{map-append, take_more}
use Rattle.std.proofs.lemmas.List.Sums.{fold-append}
use borrow.Author.Differences.{up}
use Rattle.fixed_num.specs.Floors.{floor_quotient}
use Rattle.fixed_num.specs.Sums.{sum_below}
use Rattle.fixed_num.proofs.Bits.{by_bits}
use Rattle.fixed_num.proofs.SignedLemmas.{back_from_abs, abs-product, signed_arith}
use Rattle.fixed_num.proofs.SumLemmas.{abs-sum, sum_below-none, sum_below_same, sum_below-suc}
use Rattle.instance_model.specs.Tables.{Tables, scenarios_of, in_run, risk_of}
use Rattle.plan_score.proofs.EnclosureLemmas.{floor_is}
use Rattle.lagrange_bound.specs.declared.tail.Tail.{Tail}
use Rattle.lagrange_bound.specs.Least.{least_over, AscendAbove}
use Rattle.lagrange_bound.specs.Bases.{tail_part, weighed, term_of}

-- ---- the least over places, as far as a loop has come
pub least_over-none : (f : ℕ → ℤ) (ks : List ℕ) → length ks ≡ 0 → pos 0 ≡ least_over f ks
unfolding least_over
least_over-none f [] h = refl
least_over-none f (k ∷ ks) h = absurd (omega (arith, h))

pub least_over_first : (f : ℕ → ℤ) (ks : List ℕ) → 0 < length ks → f (get_or ks 0 0) ≡ least_over f (take 1 ks)
unfolding least_over
least_over_first f [] h = absurd (omega (arith, h))
least_over_first f (k ∷ ks) h = refl

pub least_over_more : (f : ℕ → ℤ) (ks : List ℕ) (j : ℕ) → 1 ≤ j → j < length ks
    → int_min (least_over f (take j ks)) (f (get_or ks j 0)) ≡ least_over f (take (j + 1) ks)
unfolding least_over
least_over_more f [] j h l = absurd (omega (arith, l))
least_over_more f (k ∷ ks) zero h l = absurd (omega (arith, h))
least_over_more f (k ∷ ks) (suc j) h l =
    let next : suc j + 1 ≡ suc (j + 1) = omega arith in
    let t : take (j + 1) ks ≡ take j ks ++ get_or ks j 0 ∷ [] = take_more ks j 0 (omega (arith, l)) in
    rw next (sym
    (ap (λ (xs : List ℕ). fold int_min (f k) (map f xs)) t
    ∙ ap (fold int_min (f k)) (map-append f (take j ks) (get_or ks j 0 ∷ []))
    ∙ fold-append int_min (f k) (map f (take j ks)) (f (get_or ks j 0) ∷ [])))

-- the lesser of two numbers is as small as both
pub min_small : (a b : ℤ) (m : ℕ) → unsigned_abs a ≤ m → unsigned_abs b ≤ m → unsigned_abs (int_min a b) ≤ m
min_small a b m h k = omega (arith, signed_arith, h, k)

-- each place of a tail is above 0
pub above_each : (a : ℕ) (ks : List ℕ) → AscendAbove a ks → (k d : ℕ) → k < length ks → a < get_or ks k d
above_each a [] up k d l = absurd (omega (arith, l))
above_each a (j ∷ ks) up zero d l = up.0
above_each a (j ∷ ks) up (suc k) d l = omega (arith, up.0, above_each j ks up.1 k d (omega (arith, l)))

-- ---- sums and products by their bits
gap_bits : (w n : ℕ) (least sum : ℤ) → w ≤ 1000 → n ≤ 1024 → unsigned_abs least ≤ 100_000_000_000_000_000_000
    → unsigned_abs sum ≤ 102_400_000_000_000_000_000_000
    → (to_z w128 w *ℤ by_bits (by_bits (to_z w128 n *ℤ by_bits least) -ℤ by_bits sum)
    ≡ pos w *ℤ (pos n *ℤ least -ℤ sum))
    × (unsigned_abs (pos w *ℤ (pos n *ℤ least -ℤ sum)) ≤ 204_800_000_000_000_000_000_000_000)
gap_bits w n least sum hw hn hl hs =
    let bl = back_from_abs least (omega (arith, hl)) in
    let bs = back_from_abs sum (omega (arith, hs)) in
    let bw = to_z_pos w128 w (omega (arith, hw)) in
    let bn = to_z_pos w128 n (omega (arith, hn)) in
    let p = abs-product (pos n) least 1024 100_000_000_000_000_000_000 hn hl in
    let d = less (pos n *ℤ least) sum p hs in
    let q = abs-product (pos w) (pos n *ℤ least -ℤ sum) 1000 204_800_000_000_000_000_000_000 hw d in
    let bp = back_from_abs (pos n *ℤ least) (omega (arith, p)) in
    let bd = back_from_abs (pos n *ℤ least -ℤ sum) (omega (arith, d)) in
    (rw (bw, bn, bl, bs, bp, bd) refl, q)
  where
    less : (a b : ℤ) → unsigned_abs a ≤ 102_400_000_000_000_000_000_000
        → unsigned_abs b ≤ 102_400_000_000_000_000_000_000 → unsigned_abs (a -ℤ b) ≤ 204_800_000_000_000_000_000_000
    less a b h k = omega (arith, signed_arith, h, k)

pub gap_fits : (w n : ℕ) (least sum : ℤ) → w ≤ 1000 → n ≤ 1024 → unsigned_abs least ≤ 100_000_000_000_000_000_000
    → unsigned_abs sum ≤ 102_400_000_000_000_000_000_000
    → FitsSigned w128 (to_z w128 w *ℤ by_bits (by_bits (to_z w128 n *ℤ by_bits least) -ℤ by_bits sum))
gap_fits w n least sum hw hn hl hs =
    let g = gap_bits w n least sum hw hn hl hs in
    rw g.0 (fits_signed_from_abs w128 (pos w *ℤ (pos n *ℤ least -ℤ sum)) (omega (arith, g.1)))

pub gap_is : (w n : ℕ) (least sum : ℤ) → w ≤ 1000 → n ≤ 1024 → unsigned_abs least ≤ 100_000_000_000_000_000_000
    → unsigned_abs sum ≤ 102_400_000_000_000_000_000_000
    → (by_bits (to_z w128 w *ℤ by_bits (by_bits (to_z w128 n *ℤ by_bits least) -ℤ by_bits sum))
    ≡ pos w *ℤ (pos n *ℤ least -ℤ sum))
    × (unsigned_abs (pos w *ℤ (pos n *ℤ least -ℤ sum)) ≤ 204_800_000_000_000_000_000_000_000)
gap_is w n least sum hw hn hl hs =
    let g = gap_bits w n least sum hw hn hl hs in
    (rw g.0 (back_from_abs (pos w *ℤ (pos n *ℤ least -ℤ sum)) (omega (arith, g.1))), g.1)

pub fraction_is : (a : ℕ) (s p : ℤ) → a ≤ 1_000_000 → unsigned_abs s ≤ 102_400_000_000_000_000_000_000
    → unsigned_abs p ≤ 204_800_000_000_000_000_000_000_000
    → (by_bits (by_bits (to_z w128 (1000 * a) *ℤ by_bits s) +ℤ by_bits (to_z w128 (1_000_000 - a) *ℤ by_bits p))
    ≡ pos (1000 * a) *ℤ s +ℤ pos (1_000_000 - a) *ℤ p)
    × (unsigned_abs (pos (1000 * a) *ℤ s +ℤ pos (1_000_000 - a) *ℤ p) ≤ 10_000_000_000_000_000_000_000_000_000_000_000)
fraction_is a s p ha hs hp =
    let bs = back_from_abs s (omega (arith, hs)) in
    let bp = back_from_abs p (omega (arith, hp)) in
    let ba = to_z_pos w128 (1000 * a) (omega (arith, ha)) in
    let bb = to_z_pos w128 (1_000_000 - a) (omega (arith, ha)) in
    let x = abs-product (pos (1000 * a)) s 1_000_000_000 102_400_000_000_000_000_000_000 (omega (arith, ha)) hs in
    let y = abs-product (pos (1_000_000 - a)) p 1_000_000 204_800_000_000_000_000_000_000_000 (omega arith) hp in
    let t = abs-sum (pos (1000 * a) *ℤ s) (pos (1_000_000 - a) *ℤ p) in
    let bx = back_from_abs (pos (1000 * a) *ℤ s) (omega (arith, x)) in
    let by = back_from_abs (pos (1_000_000 - a) *ℤ p) (omega (arith, y)) in
    let bt = back_from_abs (pos (1000 * a) *ℤ s +ℤ pos (1_000_000 - a) *ℤ p) (omega (arith, x, y, t)) in
    (rw (ba, bb, bs, bp, bx, by) bt, omega (arith, x, y, t))

-- ---- tails behind references
abbrev pub seen : Option (Bor Tail) → Option Tail
seen o = option_map (λ (x : Bor Tail). x.now) o

pub seen_some : (o : Option (Bor Tail)) (x : Tail) → seen o ≡ Some x → (y : Bor Tail) × (o ≡ Some y) × (y.now ≡ x)
seen_some None x e = absurd (cc)
seen_some (Some y) x e = (y, refl, cc)

-- ---- terms
pub tail_part-none : (n : ℕ) (f : ℕ → ℤ) (tail : Option Tail) → tail ≡ None → pos 0 ≡ tail_part n f tail
unfolding tail_part
tail_part-none n f tail e = rw e refl

pub tail_part-some : (n m : ℕ) (f : ℕ → ℤ) (tail : Option Tail) (x : Tail) (least sum r : ℤ) → tail ≡ Some x → n ≡ m
    → least ≡ least_over f x.places → sum ≡ sum_below m (λ k. f (k + 1)) → r ≡ pos x.weight *ℤ (pos n *ℤ least -ℤ sum)
    → r ≡ tail_part m f tail
unfolding tail_part
tail_part-some n m f tail x least sum r e en el es er = rw (e, er, en, el, es) refl

pub term_is : (inst : Tables) (tail : Option Tail) (i s t a n : ℕ) (sum part fraction q : ℤ) → a ≡ inst.alpha
    → n ≡ scenarios_of inst t → n ≤ 1024 → sum ≡ sum_below (scenarios_of inst t) (λ k. risk_of inst i s t (k + 1))
    → unsigned_abs sum ≤ 102_400_000_000_000_000_000_000
    → part ≡ tail_part (scenarios_of inst t) (risk_of inst i s t) tail
    → unsigned_abs part ≤ 204_800_000_000_000_000_000_000_000
    → fraction ≡ (pos (1000 * a) *ℤ by_bits sum) +ℤ (pos (1_000_000 - a) *ℤ by_bits part)
    → unsigned_abs fraction ≤ 10_000_000_000_000_000_000_000_000_000_000_000
    → q ≡ floor_quotient (by_bits fraction) (to_z w128 (1000 * n)) → q ≡ term_of inst tail i s t
unfolding term_of weighed
term_is inst tail i s t a n sum part fraction q ea en few es ss ep sp ef sf eq =
    let bs = back_from_abs sum (omega (arith, ss)) in
    let bp = back_from_abs part (omega (arith, sp)) in
    let ef' : fraction ≡ (pos (1000 * a) *ℤ sum) +ℤ (pos (1_000_000 - a) *ℤ part) = rw (bs, bp) at ef in
    floor_is q fraction (1000 * n) (omega (arith, few)) (omega (arith, sf)) eq ∙ rw (ef', ea, en, es, ep) refl

-- ---- bases

-- what the period after u adds to a base
abbrev pub share_at : Tables → (ℕ → Option Tail) → ℕ → ℕ → ℕ → ℤ
share_at inst tails i s u = cond (in_run inst i s (u + 1)) (term_of inst (tails (u + 1)) i s (u + 1)) (pos 0)

pub share_running : (inst : Tables) (tails : ℕ → Option Tail) (tail : Option Tail) (i s t : ℕ) (r : ℤ) → 1 ≤ t
    → in_run inst i s t ≡ true → tail ≡ tails t → r ≡ term_of inst tail i s t → r ≡ share_at inst tails i s (t - 1)
share_running inst tails tail i s t r some h e d =
    let back : t - 1 + 1 ≡ t = omega (arith, some) in
    d ∙ ap (λ (x : Option Tail). term_of inst x i s t) e ∙ sym (rw (back, h) refl)

pub share_idle : (inst : Tables) (tails : ℕ → Option Tail) (i s u : ℕ) → in_run inst i s (u + 1) ≡ false
    → share_at inst tails i s u ≡ pos 0
share_idle inst tails i s u h = rw h refl

-- a sum of nothing, and one behind which nothing comes
pub sum_below-idle : (n : ℕ) (f : ℕ → ℤ) → ((k : ℕ) → k < n → f k ≡ pos 0) → sum_below n f ≡ pos 0
sum_below-idle n f h = sum_below_same n f (λ k. pos 0) h ∙ sum_below-none n

pub sum_below_ends : (m n : ℕ) (f : ℕ → ℤ) → m ≤ n → ((k : ℕ) → m ≤ k → k < n → f k ≡ pos 0)
    → sum_below m f ≡ sum_below n f
sum_below_ends m n f l h = at (n - m) n (omega (arith, l)) h
  where
    none : (z : ℤ) → z ≡ z +ℤ pos 0
    none z = omega (arith, signed_arith)

    at : (d n : ℕ) → m + d ≡ n → ((k : ℕ) → m ≤ k → k < n → f k ≡ pos 0) → sum_below m f ≡ sum_below n f
    at zero n e h = ap (λ (j : ℕ). sum_below j f) (omega (arith, e))
    at (suc d) n e h =
        let p : m + suc d ≡ suc (m + d) = omega arith in
        let ih : sum_below m f ≡ sum_below (m + d) f = at d (m + d) refl (λ k a b. h k a (omega (arith, b, e))) in
        let last : f (m + d) ≡ pos 0 = h (m + d) (omega arith) (omega (arith, e)) in
        ih ∙ none (sum_below (m + d) f) ∙ sym (ap (λ (z : ℤ). sum_below (m + d) f +ℤ z) last)
        ∙ sym (sum_below-suc (m + d) f) ∙ ap (λ (j : ℕ). sum_below j f) (sym p ∙ e)
