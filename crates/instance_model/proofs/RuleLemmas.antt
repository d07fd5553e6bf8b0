-- A plan breaks no rule exactly where it keeps them.
use Rattle.std.proofs.Common.{◌≡◌, ℕ, ◌+◌, ◌-◌, ◌<◌, ◌≤◌, refl, sym, ◌∙◌, ap, arith, Bool, true, false, not, ◌&&◌, cond}
use Rattle.std.proofs.Common.{List, length, get_or, Option, Some, None, nat_le, nat_lt, int_lt, is_some}
use Rattle.std.proofs.lemmas.Bool.Decides.{nat_tests}
use borrow.Author.Differences.{lt-false, false_is_lt, le_out, at_most_in}
use Rattle.instance_model.specs.declared.rule.Rule.TheVariants.{Outside, Past, Over, Under, Clash}
use Rattle.instance_model.specs.Tables.{Tables, durations, tmax, delta_of, is_allowed, allowed_of, upper_of, lower_of}
use Rattle.instance_model.specs.Tables.{in_season_of, exclusion_of}
use Rattle.instance_model.specs.Plans.{start_of, HasAllowedStart, is_running, load_sum}
use Rattle.instance_model.specs.Rules.{start_rule_at, first_start_rule, band_rule_at, first_band_rule, clashes}
use Rattle.instance_model.specs.Rules.{clash_rule_at, first_clash_rule, first_rule, IsFeasible, IsWithinBand}
use Rattle.instance_model.specs.Rules.{KeepsApart, KeepsRules}
use Rattle.instance_model.proofs.EntryLemmas.{is_allowed_facts}
use Rattle.instance_model.proofs.FirstLemmas.{first_of_none, first_of-all_none, or_else-none, or_else-both_none}

none_from : {A : Type 0} (o : Option A) → is_some o ≡ false → o ≡ None
none_from (Some x) e = absurd (cc)
none_from None e = refl

-- ---- starts
has_start : (inst : Tables) (plan : List (Option ℕ)) (i : ℕ) (o : Option ℕ) → start_of plan i ≡ o
    → start_rule_at inst i o ≡ None → HasAllowedStart inst plan i
unfolding start_rule_at is_allowed allowed_of tmax delta_of
has_start inst plan i None g h = absurd (cc)
has_start inst plan i (Some s) g h =
    record {
      start = s;
      given = g;
      allowed = at (nat_le 1 s) (nat_le s (length (durations inst i)))
          (nat_lt (inst.periods + 1) (s + get_or (durations inst i) (s - 1) 0)) refl refl refl h;
    }
  where
    and3 : (x y z : Bool) → x ≡ true → y ≡ true → z ≡ true → (x && y && z) ≡ true
    and3 x y z e f g = rw (e, f, g) refl

    at : (a b d : Bool) → nat_le 1 s ≡ a → nat_le s (length (durations inst i)) ≡ b
        → nat_lt (inst.periods + 1) (s + get_or (durations inst i) (s - 1) 0) ≡ d
        → cond (not (a && b)) (Some (Outside i s)) (cond d (Some (Past i s)) None) ≡ None
        → (nat_le 1 s && nat_le s (length (durations inst i))
        && nat_le (s + get_or (durations inst i) (s - 1) 0) (inst.periods + 1)) ≡ true
    at true true false p q r h = and3 (nat_le 1 s) (nat_le s (length (durations inst i)))
        (nat_le (s + get_or (durations inst i) (s - 1) 0) (inst.periods + 1)) p q (grind (arith, nat_tests))
    at true true true p q r h = absurd (cc)
    at true false d p q r h = absurd (cc)
    at false b d p q r h = absurd (cc)

no_start_rule : (inst : Tables) (i s : ℕ) → is_allowed inst i s ≡ true → start_rule_at inst i (Some s) ≡ None
unfolding start_rule_at
no_start_rule inst i s a =
    let f = is_allowed_facts inst i s a in
    let x : nat_le 1 s ≡ true = grind (arith, nat_tests, f.0) in
    let y : nat_le s (tmax inst i) ≡ true = grind (arith, nat_tests, f.1) in
    let z : nat_lt (inst.periods + 1) (s + delta_of inst i s) ≡ false = grind (arith, nat_tests, f.2) in
    rw (x, y, z) refl

-- each intervention has an allowed start where no rule on starts is broken
pub starts_are_allowed : (inst : Tables) (plan : List (Option ℕ)) → first_start_rule inst plan ≡ None → (i : ℕ)
    → i < length inst.names → HasAllowedStart inst plan i
unfolding first_start_rule
starts_are_allowed inst plan e i l = has_start inst plan i (start_of plan i) refl
    (first_of_none (length inst.names) (λ j. start_rule_at inst j (start_of plan j)) e i l)

pub first_start_rule-none : (inst : Tables) (plan : List (Option ℕ))
    → ((i : ℕ) → i < length inst.names → HasAllowedStart inst plan i) → first_start_rule inst plan ≡ None
unfolding first_start_rule
first_start_rule-none inst plan h = first_of-all_none (length inst.names) (λ j. start_rule_at inst j (start_of plan j))
    (λ i l. let w = h i l in ap (start_rule_at inst i) w.given ∙ no_start_rule inst i w.start w.allowed)

-- ---- bands
within_band : (inst : Tables) (plan : List (Option ℕ)) (c t : ℕ) → band_rule_at inst plan c t ≡ None
    → IsWithinBand inst plan c t
unfolding band_rule_at
within_band inst plan c t h = at (int_lt (upper_of inst c t) (load_sum inst plan c t))
    (int_lt (load_sum inst plan c t) (lower_of inst c t)) refl refl h
  where
    at : (a b : Bool) → int_lt (upper_of inst c t) (load_sum inst plan c t) ≡ a
        → int_lt (load_sum inst plan c t) (lower_of inst c t) ≡ b
        → cond a (Some (Over c t (load_sum inst plan c t) (upper_of inst c t))) (cond b
        (Some (Under c t (load_sum inst plan c t) (lower_of inst c t))) None) ≡ None → IsWithinBand inst plan c t
    at true b p q h = absurd (cc)
    at false true p q h = absurd (cc)
    at false false p q h = record {
      not_below = at_most_in (lower_of inst c t) (load_sum inst plan c t)
          (lt-false (load_sum inst plan c t) (lower_of inst c t) q);
      not_above = at_most_in (load_sum inst plan c t) (upper_of inst c t)
          (lt-false (upper_of inst c t) (load_sum inst plan c t) p);
    }

no_band_rule : (inst : Tables) (plan : List (Option ℕ)) (c t : ℕ) → IsWithinBand inst plan c t
    → band_rule_at inst plan c t ≡ None
unfolding band_rule_at
no_band_rule inst plan c t w =
    let x : int_lt (upper_of inst c t) (load_sum inst plan c t) ≡ false = sym
    (false_is_lt (upper_of inst c t) (load_sum inst plan c t)
    (le_out (load_sum inst plan c t) (upper_of inst c t) w.not_above)) in
    let y : int_lt (load_sum inst plan c t) (lower_of inst c t) ≡ false = sym
    (false_is_lt (load_sum inst plan c t) (lower_of inst c t)
    (le_out (lower_of inst c t) (load_sum inst plan c t) w.not_below)) in
    rw (x, y) refl

pub loads_are_within : (inst : Tables) (plan : List (Option ℕ)) → first_band_rule inst plan ≡ None → (c t : ℕ)
    → c < length inst.resource_names → 1 ≤ t → t ≤ inst.periods → IsWithinBand inst plan c t
unfolding first_band_rule
loads_are_within inst plan e c t l one few =
    let row = first_of_none (length inst.resource_names) _ e c l in
    let here = first_of_none inst.periods (λ u. band_rule_at inst plan c (u + 1)) row (t - 1) (omega arith) in
    let d : t - 1 + 1 ≡ t = omega arith in
    within_band inst plan c t (rw d at here)

pub first_band_rule-none : (inst : Tables) (plan : List (Option ℕ))
    → ((c t : ℕ) → c < length inst.resource_names → 1 ≤ t → t ≤ inst.periods → IsWithinBand inst plan c t)
    → first_band_rule inst plan ≡ None
unfolding first_band_rule
first_band_rule-none inst plan h =
    first_of-all_none (length inst.resource_names) _
    (λ c l. first_of-all_none inst.periods (λ u. band_rule_at inst plan c (u + 1))
    (λ u m. no_band_rule inst plan c (u + 1) (h c (u + 1) l (omega arith) (omega arith))))

-- ---- exclusions
clash_no : (inst : Tables) (plan : List (Option ℕ)) (e t : ℕ) → cond (clashes inst plan e t) (Some (Clash e t)) None
    ≡ None → clashes inst plan e t ≡ false
clash_no inst plan e t h = at (clashes inst plan e t) refl h
  where
    at : (b : Bool) → clashes inst plan e t ≡ b → cond b (Some (Clash e t)) None ≡ None → clashes inst plan e t ≡ false
    at true p h = absurd (cc)
    at false p h = p

apart : (inst : Tables) (plan : List (Option ℕ)) (e t : ℕ) → clashes inst plan e t ≡ false → KeepsApart inst plan e t
unfolding clashes
apart inst plan e t h s (x, y) = at (in_season_of inst (exclusion_of inst e).season t)
    (is_running inst plan (exclusion_of inst e).first t) (is_running inst plan (exclusion_of inst e).second t) s x y h
  where
    at : (a b d : Bool) → a ≡ true → b ≡ true → d ≡ true → (a && b && d) ≡ false → ⊥
    at true true true p q r h = cc
    at true true false p q r h = cc
    at true false d p q r h = cc
    at false b d p q r h = cc

not_all : (a b d : Bool) → (a ≡ true → ¬ ((b ≡ true) × (d ≡ true))) → (a && b && d) ≡ false
not_all true true true h = absurd (h refl (refl, refl))
not_all true true false h = refl
not_all true false d h = refl
not_all false b d h = refl

no_clash : (inst : Tables) (plan : List (Option ℕ)) (e t : ℕ) → KeepsApart inst plan e t → clashes inst plan e t ≡ false
unfolding clashes
no_clash inst plan e t = not_all (in_season_of inst (exclusion_of inst e).season t)
    (is_running inst plan (exclusion_of inst e).first t) (is_running inst plan (exclusion_of inst e).second t)

pub keeps_apart : (inst : Tables) (plan : List (Option ℕ)) (e : ℕ) → clash_rule_at inst plan e ≡ None → (t : ℕ) → 1 ≤ t
    → t ≤ inst.periods → KeepsApart inst plan e t
unfolding clash_rule_at
keeps_apart inst plan e h t one few =
    let here = first_of_none inst.periods _ h (t - 1) (omega arith) in
    let d : t - 1 + 1 ≡ t = omega arith in
    apart inst plan e t (clash_no inst plan e t (rw d at here))

pub clash_rule_at-none : (inst : Tables) (plan : List (Option ℕ)) (e : ℕ)
    → ((t : ℕ) → 1 ≤ t → t ≤ inst.periods → KeepsApart inst plan e t) → clash_rule_at inst plan e ≡ None
unfolding clash_rule_at
clash_rule_at-none inst plan e h =
    first_of-all_none inst.periods _ (λ u l. let n : clashes inst plan e (u + 1) ≡ false =
    no_clash inst plan e (u + 1) (h (u + 1) (omega arith) (omega arith)) in rw n refl)

-- ---- all rules
pub KeepsRules-from : (inst : Tables) (plan : List (Option ℕ)) → IsFeasible inst plan → KeepsRules inst plan
unfolding first_rule first_clash_rule
KeepsRules-from inst plan h =
    let none = none_from (first_rule inst plan) h in
    let p = or_else-none (first_start_rule inst plan) _ none in
    let q = or_else-none (first_band_rule inst plan) (first_clash_rule inst plan) p.1 in
    record {
      starts = starts_are_allowed inst plan p.0;
      loads = loads_are_within inst plan q.0;
      seasons = λ e t l. keeps_apart inst plan e
          (first_of_none (length inst.exclusion_names) (clash_rule_at inst plan) q.1 e l) t;
    }

pub IsFeasible-from : (inst : Tables) (plan : List (Option ℕ)) → KeepsRules inst plan → IsFeasible inst plan
unfolding first_rule first_clash_rule
IsFeasible-from inst plan k =
    let clash : first_clash_rule inst plan ≡ None = first_of-all_none (length inst.exclusion_names)
    (clash_rule_at inst plan) (λ e l. clash_rule_at-none inst plan e (λ t. k.seasons e t l)) in
    let rest = or_else-both_none (first_band_rule inst plan) (first_clash_rule inst plan)
    (first_band_rule-none inst plan k.loads) clash in
    ap is_some (or_else-both_none (first_start_rule inst plan) _ (first_start_rule-none inst plan k.starts) rest)
