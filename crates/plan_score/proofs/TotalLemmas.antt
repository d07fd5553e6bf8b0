-- What the walk over the periods adds up.
use Rattle.std.proofs.Common.{◌≡◌, ℕ, ◌+◌, ◌-◌, ◌*◌, ◌≤◌, ◌^◌, refl, sym, ◌∙◌, ap, arith, ℤ, pos, ◌+ℤ◌, ◌-ℤ◌, List}
use Rattle.std.proofs.Common.{Option, unsigned_abs}
use Rattle.fixed_num.specs.Sums.{sum_below}
use Rattle.fixed_num.specs.Floors.{floor_of, ceil_of}
use Rattle.fixed_num.proofs.Bits.{by_bits}
use Rattle.fixed_num.proofs.SignedLemmas.{back_from_abs, signed_arith}
use Rattle.fixed_num.proofs.SumLemmas.{sum_below-zero, sum_below_more}
use Rattle.instance_model.specs.Naturals.{count_sum, ceil_div_of}
use Rattle.instance_model.specs.Tables.{Tables, scenarios_of}
use Rattle.instance_model.specs.Plans.{soft_count}
use Rattle.instance_model.specs.Values.{sum_of_floors, sum_of_ceils, excess_floors, excess_ceils, cost_slack}
use Rattle.instance_model.specs.Values.{mean_slack}
use Rattle.instance_model.proofs.EntryLemmas.{count_sum-zero, count_sum_more, count_sum_same}
use Rattle.plan_score.specs.declared.enclosure.Enclosure.{Enclosure}
use Rattle.plan_score.specs.declared.values.Values.{Values}
use Rattle.plan_score.specs.Periods.{AreSumsTo, IsSlack, floor_at, ceil_at, excess_floor_at, excess_ceil_at, half_at}

pub AreSumsTo-none : (f g : ℕ → ℤ) → AreSumsTo f g 0 (record { low = pos 0; high = pos 0 })
AreSumsTo-none f g = record {
  low = sym (sum_below-zero f);
  high = sym (sum_below-zero g);
  low_small = omega arith;
  high_small = omega arith;
}

-- one period more: what is added is a term of each sum
pub AreSumsTo-more : (f g : ℕ → ℤ) (u : ℕ) (a b : ℤ) (old new : Enclosure) → AreSumsTo f g u old → a ≡ f u → b ≡ g u
    → new.low ≡ old.low +ℤ a → new.high ≡ old.high +ℤ b → unsigned_abs new.low ≤ unsigned_abs old.low + 10 ^ 33
    → unsigned_abs new.high ≤ unsigned_abs old.high + 10 ^ 33 → AreSumsTo f g (u + 1) new
AreSumsTo-more f g u a b old new h ea eb el eh sl sh =
    record {
      low = el ∙ ap (λ (x : ℤ). x +ℤ a) h.low ∙ ap (λ (x : ℤ). sum_below u f +ℤ x) ea ∙ sym (sum_below_more u f);
      high = eh ∙ ap (λ (x : ℤ). x +ℤ b) h.high ∙ ap (λ (x : ℤ). sum_below u g +ℤ x) eb ∙ sym (sum_below_more u g);
      low_small = omega (arith, sl, h.low_small);
      high_small = omega (arith, sh, h.high_small);
    }

-- the quotient that the code takes, rounded down and up
pub floor_at_is : (inst : Tables) (f : ℕ → ℤ) (u n : ℕ) (z : ℤ) → n ≡ scenarios_of inst (u + 1) → z ≡ f (u + 1)
    → unsigned_abs z ≤ 10 ^ 33 → floor_of (by_bits z) n ≡ floor_at inst f u
floor_at_is inst f u n z en ez s = rw (back_from_abs z (omega (arith, s)), en, ez) refl

pub ceil_at_is : (inst : Tables) (f : ℕ → ℤ) (u n : ℕ) (z : ℤ) → n ≡ scenarios_of inst (u + 1) → z ≡ f (u + 1)
    → unsigned_abs z ≤ 10 ^ 33 → ceil_of (by_bits z) n ≡ ceil_at inst f u
ceil_at_is inst f u n z en ez s = rw (back_from_abs z (omega (arith, s)), en, ez) refl

pub IsSlack-none : (inst : Tables) (plan : List (Option ℕ)) (each : ℕ) → IsSlack inst plan each 0 0
IsSlack-none inst plan each = record { value = sym (count_sum-zero (half_at inst plan each)); small = omega arith }

pub IsSlack-more : (inst : Tables) (plan : List (Option ℕ)) (each u s h g : ℕ) → IsSlack inst plan each u s
    → g ≡ soft_count inst plan (u + 1) → h ≡ ceil_div_of (g * each) 2 → h ≤ 1_024_000_000
    → IsSlack inst plan each (u + 1) (s + h)
IsSlack-more inst plan each u s h g old eg eh small =
    record {
      value = ap (λ (x : ℕ). x + h) old.value ∙ ap (λ (x : ℕ). count_sum u (half_at inst plan each) + x) (eh
          ∙ ap (λ (x : ℕ). ceil_div_of (x * each) 2) eg) ∙ sym (count_sum_more u (half_at inst plan each));
      small = omega (arith, small, old.small);
    }

-- ---- the sums over all periods are those of the definitions

pub score_low_is : (inst : Tables) (f : ℕ → ℤ) (e : Enclosure)
    → AreSumsTo (floor_at inst f) (ceil_at inst f) inst.periods e → e.low ≡ sum_of_floors inst f
unfolding sum_of_floors
score_low_is inst f e h = h.low

pub score_high_is : (inst : Tables) (f : ℕ → ℤ) (e : Enclosure)
    → AreSumsTo (floor_at inst f) (ceil_at inst f) inst.periods e → e.high ≡ sum_of_ceils inst f
unfolding sum_of_ceils
score_high_is inst f e h = h.high

pub excess_low_is : (inst : Tables) (plan : List (Option ℕ)) (e : Enclosure)
    → AreSumsTo (excess_floor_at inst plan) (excess_ceil_at inst plan) inst.periods e → e.low ≡ excess_floors inst plan
unfolding excess_floors
excess_low_is inst plan e h = h.low

pub excess_high_is : (inst : Tables) (plan : List (Option ℕ)) (e : Enclosure)
    → AreSumsTo (excess_floor_at inst plan) (excess_ceil_at inst plan) inst.periods e → e.high ≡ excess_ceils inst plan
unfolding excess_ceils
excess_high_is inst plan e h = h.high

pub cost_slack_is : (inst : Tables) (plan : List (Option ℕ)) (s : ℕ)
    → IsSlack inst plan (2_000_000 - inst.alpha) inst.periods s → s ≡ cost_slack inst plan
unfolding cost_slack
cost_slack_is inst plan s h = h.value

pub mean_slack_is : (inst : Tables) (plan : List (Option ℕ)) (s : ℕ) → IsSlack inst plan 1 inst.periods s
    → s ≡ mean_slack inst plan
unfolding mean_slack
mean_slack_is inst plan s h = h.value
    ∙ count_sum_same inst.periods (half_at inst plan 1) (λ u. ceil_div_of (soft_count inst plan (u + 1)) 2)
    (λ u l. let one : soft_count inst plan (u + 1) * 1 ≡ soft_count inst plan (u + 1) = omega arith in
    ap (λ (x : ℕ). ceil_div_of x 2) one)

pub no_margin : (z : ℤ) → z -ℤ pos 0 ≡ z
no_margin z = omega (arith, signed_arith)

pub no_margin_more : (z : ℤ) → z +ℤ pos 0 ≡ z
no_margin_more z = omega (arith, signed_arith)

pub kept : (z v : ℤ) → unsigned_abs z ≤ 10 ^ 37 → z ≡ v → by_bits z ≡ v
kept z v h e = back_from_abs z (omega (arith, h)) ∙ e

-- values are the same where their fields are
pub values_same : (a b d e f g h k a' b' d' e' f' g' h' k' : ℤ) → a ≡ a' → b ≡ b' → d ≡ d' → e ≡ e' → f ≡ f' → g ≡ g'
    → h ≡ h' → k ≡ k'
    → ◌≡◌ {A = Values}
    (record {
      score = a;
      roof = b;
      cost_low = d;
      cost_high = e;
      mean_low = f;
      mean_high = g;
      excess_low = h;
      excess_high = k;
    }) (record {
      score = a';
      roof = b';
      cost_low = d';
      cost_high = e';
      mean_low = f';
      mean_high = g';
      excess_low = h';
      excess_high = k';
    })
values_same a b d e f g h k a' b' d' e' f' g' h' k' p q r s t u v w = rw (p, q, r, s, t, u, v, w) refl
