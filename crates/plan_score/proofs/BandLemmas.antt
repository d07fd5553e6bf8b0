-- The rule that a load breaks, from the comparisons.
use Rattle.std.proofs.Common.{◌≡◌, ℕ, ◌<◌, ◌≤◌, refl, sym, arith, ℤ, true, false, int_lt, List, Option, Some, None}
use Rattle.std.proofs.Common.{unsigned_abs}
use Rattle.fixed_num.proofs.Bits.{by_bits}
use Rattle.fixed_num.proofs.SignedLemmas.{back_from_abs}
use Rattle.instance_model.specs.declared.rule.Rule.TheVariants.{Over, Under}
use Rattle.instance_model.specs.Tables.{Tables, upper_of, lower_of}
use Rattle.instance_model.specs.Plans.{load_sum}
use Rattle.instance_model.specs.Rules.{band_rule_at}

-- what the code has read: the load and the limits
pub record AreLoadAndLimits (inst : Tables) (plan : List (Option ℕ)) (c t : ℕ) (load upper lower : ℤ) : Type 0 where
  pub load_is : load ≡ load_sum inst plan c t
  pub upper_is : upper ≡ upper_of inst c t
  pub lower_is : lower ≡ lower_of inst c t
  pub load_small : unsigned_abs load ≤ 102_400_000_000_000_000_000_000
  pub upper_small : unsigned_abs upper < 200_000_000_000_000_000_000
  pub lower_small : unsigned_abs lower < 200_000_000_000_000_000_000

pub band_over : (inst : Tables) (plan : List (Option ℕ)) (c t : ℕ) (load upper lower : ℤ)
    → AreLoadAndLimits inst plan c t load upper lower → int_lt (by_bits upper) (by_bits load) ≡ true
    → Some (Over c t (by_bits load) (by_bits upper)) ≡ band_rule_at inst plan c t
unfolding band_rule_at
band_over inst plan c t load upper lower h l =
    let bl = back_from_abs load (omega (arith, h.load_small)) in
    let bu = back_from_abs upper (omega (arith, h.upper_small)) in
    let l' : int_lt upper load ≡ true = rw (bl, bu) at l in
    rw (bl, bu, sym h.load_is, sym h.upper_is, l') refl

pub band_under : (inst : Tables) (plan : List (Option ℕ)) (c t : ℕ) (load upper lower : ℤ)
    → AreLoadAndLimits inst plan c t load upper lower → int_lt (by_bits upper) (by_bits load) ≡ false
    → int_lt (by_bits load) (by_bits lower) ≡ true → Some (Under c t (by_bits load) (by_bits lower))
    ≡ band_rule_at inst plan c t
unfolding band_rule_at
band_under inst plan c t load upper lower h u l =
    let bl = back_from_abs load (omega (arith, h.load_small)) in
    let bu = back_from_abs upper (omega (arith, h.upper_small)) in
    let bo = back_from_abs lower (omega (arith, h.lower_small)) in
    let u' : int_lt upper load ≡ false = rw (bl, bu) at u in
    let l' : int_lt load lower ≡ true = rw (bl, bo) at l in
    rw (bl, bo, sym h.load_is, sym h.upper_is, sym h.lower_is, u', l') refl

pub band_kept : (inst : Tables) (plan : List (Option ℕ)) (c t : ℕ) (load upper lower : ℤ)
    → AreLoadAndLimits inst plan c t load upper lower → int_lt (by_bits upper) (by_bits load) ≡ false
    → int_lt (by_bits load) (by_bits lower) ≡ false → None ≡ band_rule_at inst plan c t
unfolding band_rule_at
band_kept inst plan c t load upper lower h u l =
    let bl = back_from_abs load (omega (arith, h.load_small)) in
    let bu = back_from_abs upper (omega (arith, h.upper_small)) in
    let bo = back_from_abs lower (omega (arith, h.lower_small)) in
    let u' : int_lt upper load ≡ false = rw (bl, bu) at u in
    let l' : int_lt load lower ≡ false = rw (bl, bo) at l in
    rw (sym h.load_is, sym h.upper_is, sym h.lower_is, u', l') refl
