-- Another tail of a period leaves the bases of starts that don't run in it as they are.
use Rattle.std.proofs.Common.{◌≡◌, ℕ, ◌+◌, ◌-◌, ◌*◌, ◌<◌, ◌≤◌, refl, ◌∙◌, ap, subst, arith, ℤ, pos, ◌-ℤ◌}
use Rattle.std.proofs.Common.{List, Bool, true, false, cond, Option, ◌≢◌, unsigned_abs, ◌^◌}
use Rattle.std.proofs.lemmas.List.{get_or-set_other}
use Rattle.fixed_num.proofs.Bits.{by_bits}
use Rattle.fixed_num.proofs.SignedLemmas.{signed_arith, back_from_abs}
use Rattle.fixed_num.proofs.SumLemmas.{sum_below_same}
use Rattle.instance_model.specs.Tables.{Tables, in_run}
use Rattle.lagrange_bound.specs.declared.tail.Tail.{Tail}
use Rattle.lagrange_bound.specs.Prices.{PriceList, tail_of}
use Rattle.lagrange_bound.specs.Changes.{with_tail}
use Rattle.lagrange_bound.specs.Bases.{base_of, term_of}
use Rattle.lagrange_bound.specs.Goals.{risk_base}
use Rattle.price_ladder.specs.Kept.{kept_at, rebased_of}

pub base_idle : (inst : Tables) (old new : PriceList) (t : ℕ) (tail : Option Tail) (i s : ℕ) → 1 ≤ t
    → new ≡ with_tail old t tail → in_run inst i s t ≡ false → risk_base inst new i s ≡ risk_base inst old i s
unfolding base_of
base_idle inst old new t tail i s one e idle =
    ap (λ (p : PriceList). risk_base inst p i s) e
    ∙ sum_below_same inst.periods
    (λ u. cond (in_run inst i s (u + 1)) (term_of inst (tail_of (with_tail old t tail) (u + 1)) i s (u + 1)) (pos 0))
    (λ u. cond (in_run inst i s (u + 1)) (term_of inst (tail_of old (u + 1)) i s (u + 1)) (pos 0))
    (λ u l. at u (in_run inst i s (u + 1)) refl)
  where
    unequal : (b : Bool) → b ≡ true → b ≡ false → ⊥
    unequal b x y = cc

    at : (u : ℕ) (b : Bool) → in_run inst i s (u + 1) ≡ b
        → cond b (term_of inst (tail_of (with_tail old t tail) (u + 1)) i s (u + 1)) (pos 0)
        ≡ cond b (term_of inst (tail_of old (u + 1)) i s (u + 1)) (pos 0)
    at u false r = refl
    at u true r =
        let apart : (u + 1) - 1 ≢ t - 1 = λ q. let p : u + 1 ≡ t = omega (arith, q, one) in
        unequal (in_run inst i s t) (subst (λ (k : ℕ). in_run inst i s k ≡ true) p r) idle in
        ap (λ (x : Option Tail). term_of inst x i s (u + 1)) (get_or-set_other old.tails (t - 1) ((u + 1) - 1) tail _
        apart)

pub rebased_idle : (inst : Tables) (prices : PriceList) (t : ℕ) (bases : List ℤ) (i s : ℕ) (z : ℤ)
    → in_run inst i s t ≡ false → z ≡ kept_at inst bases i s → unsigned_abs z < 10 ^ 30
    → by_bits z ≡ rebased_of inst prices t bases i s
unfolding rebased_of
rebased_idle inst prices t bases i s z r h k = back_from_abs z (omega (arith, k)) ∙ rw r h

pub rebased_running : (inst : Tables) (prices : PriceList) (t : ℕ) (bases : List ℤ) (i s : ℕ) (z : ℤ)
    → in_run inst i s t ≡ true → z ≡ risk_base inst prices i s → unsigned_abs z < 10 ^ 30
    → by_bits z ≡ rebased_of inst prices t bases i s
unfolding rebased_of
rebased_running inst prices t bases i s z r h k = back_from_abs z (omega (arith, k)) ∙ rw r h

pub back_small : (z : ℤ) → unsigned_abs z < 10 ^ 30 → unsigned_abs (by_bits z) < 10 ^ 30
back_small z h = let e : by_bits z ≡ z = back_from_abs z (omega (arith, h)) in rw e h

-- what a base is above another, as the code takes it
pub record IsGap (y z : ℤ) (r : ℤ) : Type 0 where
  pub value : r ≡ y -ℤ z
  pub small : unsigned_abs r ≤ 2 * 10 ^ 30

pub gap_is : (y z : ℤ) → unsigned_abs y < 10 ^ 30 → unsigned_abs z < 10 ^ 30
    → IsGap y z (by_bits (by_bits y -ℤ by_bits z))
gap_is y z h k =
    let a : by_bits y ≡ y = back_from_abs y (omega (arith, h)) in
    let b : by_bits z ≡ z = back_from_abs z (omega (arith, k)) in
    let d : by_bits (y -ℤ z) ≡ y -ℤ z = back_from_abs (y -ℤ z) (omega (arith, signed_arith, h, k)) in
    record { value = rw (a, b, d) refl; small = rw (a, b, d) (omega (arith, signed_arith, h, k)) }
