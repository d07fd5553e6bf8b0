-- The first kept start that isn't allowed.
use Rattle.std.proofs.Common.{◌≡◌, ℕ, ◌+◌, ◌<◌, ◌≤◌, refl, sym, ◌∙◌, ap, subst, arith, Bool, true, false, not, cond}
use Rattle.std.proofs.Common.{◌&&◌, List, length, Option, Some, None, nat_le, nat_lt, is_some}
use Rattle.std.specs.Prelude.{IsNone, ◌↔◌}
use Rattle.std.proofs.lemmas.Bool.Decides.{nat_tests}
use Rattle.instance_model.specs.declared.rule.Rule.{Rule}
use Rattle.instance_model.specs.declared.rule.Rule.TheVariants.{Outside, Past}
use Rattle.instance_model.specs.Tables.{Tables, tmax, delta_of, is_allowed}
use Rattle.instance_model.specs.Plans.{start_of}
use Rattle.instance_model.specs.Rules.{start_rule_at}
use Rattle.instance_model.proofs.EntryLemmas.{is_allowed_facts}
use Rattle.instance_model.proofs.FirstLemmas.{first_of_none, first_of-all_none}
use Rattle.plan_roll.specs.Rolled.{is_kept}
use Rattle.plan_roll.specs.Begun.{BeginsAt, KeptAreAllowed, kept_rule_at, first_kept_rule}
use Rattle.plan_roll.proofs.StartLemmas.{is_allowed_by}

-- a start breaks no rule exactly where it is allowed
allowed_by_none : (inst : Tables) (i s : ℕ) → start_rule_at inst i (Some s) ≡ None → is_allowed inst i s ≡ true
unfolding start_rule_at
allowed_by_none inst i s h = at (nat_le 1 s) (nat_le s (tmax inst i))
    (nat_lt (inst.periods + 1) (s + delta_of inst i s)) refl refl refl h
  where
    at : (a b d : Bool) → nat_le 1 s ≡ a → nat_le s (tmax inst i) ≡ b
        → nat_lt (inst.periods + 1) (s + delta_of inst i s) ≡ d
        → cond (not (a && b)) (Some (Outside i s)) (cond d (Some (Past i s)) None) ≡ None
        → is_allowed inst i s ≡ true
    at true true false p q r h =
        is_allowed_by inst i s (grind (arith, nat_tests)) (grind (arith, nat_tests)) (grind (arith, nat_tests))
    at true true true p q r h = absurd (cc)
    at true false d p q r h = absurd (cc)
    at false b d p q r h = absurd (cc)

pub none_by_allowed : (inst : Tables) (i s : ℕ) → is_allowed inst i s ≡ true → start_rule_at inst i (Some s) ≡ None
unfolding start_rule_at
none_by_allowed inst i s a =
    let f = is_allowed_facts inst i s a in
    let x : nat_le 1 s ≡ true = grind (arith, nat_tests, f.0) in
    let y : nat_le s (tmax inst i) ≡ true = grind (arith, nat_tests, f.1) in
    let z : nat_lt (inst.periods + 1) (s + delta_of inst i s) ≡ false = grind (arith, nat_tests, f.2) in
    rw (x, y, z) refl

pub past_by_refused : (inst : Tables) (i s : ℕ) → 1 ≤ s → s ≤ tmax inst i → is_allowed inst i s ≡ false
    → start_rule_at inst i (Some s) ≡ Some (Past i s)
unfolding start_rule_at
past_by_refused inst i s one few a = by (nat_lt (inst.periods + 1) (s + delta_of inst i s)) refl
  where
    x : not (nat_le 1 s && nat_le s (tmax inst i)) ≡ false
    x = grind (arith, nat_tests)

    not_both : is_allowed inst i s ≡ true → ⊥
    not_both e = cc

    by : (b : Bool) → nat_lt (inst.periods + 1) (s + delta_of inst i s) ≡ b
        → cond (not (nat_le 1 s && nat_le s (tmax inst i))) (Some (Outside i s))
        (cond (nat_lt (inst.periods + 1) (s + delta_of inst i s)) (Some (Past i s)) None) ≡ Some (Past i s)
    by true e = rw (x, e) refl
    by false e = absurd (not_both (is_allowed_by inst i s one few (grind (arith, nat_tests))))

-- ---- one intervention

pub kept_is : (inst : Tables) (plan : List (Option ℕ)) (period i s : ℕ) → BeginsAt plan period i s
    → kept_rule_at inst plan period i ≡ start_rule_at inst i (Some s)
unfolding kept_rule_at is_kept
kept_is inst plan period i s w =
    let low : nat_lt s period ≡ true = let l = w.before in grind (arith, nat_tests) in
    ap (λ o. cond (is_kept period o) (start_rule_at inst i o) None) w.given
    ∙ ap (λ b. cond b (start_rule_at inst i (Some s)) None) low

pub none_is : (inst : Tables) (plan : List (Option ℕ)) (period i : ℕ) → start_of plan i ≡ None
    → kept_rule_at inst plan period i ≡ None
unfolding kept_rule_at is_kept
none_is inst plan period i g = ap (λ o. cond (is_kept period o) (start_rule_at inst i o) None) g

pub late_is : (inst : Tables) (plan : List (Option ℕ)) (period i s : ℕ) → start_of plan i ≡ Some s → period ≤ s
    → kept_rule_at inst plan period i ≡ None
unfolding kept_rule_at is_kept
late_is inst plan period i s g l =
    let late : nat_lt s period ≡ false = grind (arith, nat_tests) in
    ap (λ o. cond (is_kept period o) (start_rule_at inst i o) None) g
    ∙ ap (λ b. cond b (start_rule_at inst i (Some s)) None) late

-- ---- all of them

none_from : {A : Type 0} (o : Option A) → IsNone o → o ≡ None
none_from (Some x) e = absurd (cc)
none_from None e = refl

pub kept_allowed : (inst : Tables) (plan : List (Option ℕ)) (period : ℕ) → IsNone (first_kept_rule inst plan period)
    → KeptAreAllowed inst plan period
unfolding first_kept_rule
kept_allowed inst plan period h i s l w =
    let none = first_of_none (length inst.names) (kept_rule_at inst plan period)
    (none_from (first_kept_rule inst plan period) h) i l in
    allowed_by_none inst i s (sym (kept_is inst plan period i s w) ∙ none)

pub no_kept_rule : (inst : Tables) (plan : List (Option ℕ)) (period : ℕ) → KeptAreAllowed inst plan period
    → IsNone (first_kept_rule inst plan period)
unfolding first_kept_rule kept_rule_at is_kept
no_kept_rule inst plan period all = ap is_some
    (first_of-all_none (length inst.names) (kept_rule_at inst plan period) (λ i l. at i l (start_of plan i) refl))
  where
    at : (i : ℕ) → i < length inst.names → (o : Option ℕ) → start_of plan i ≡ o
        → cond (is_kept period (start_of plan i)) (start_rule_at inst i (start_of plan i)) None ≡ None
    at i l None g = ap (λ o. cond (is_kept period o) (start_rule_at inst i o) None) g
    at i l (Some s) g = ap (λ o. cond (is_kept period o) (start_rule_at inst i o) None) g ∙ by (nat_lt s period) refl
      where
        by : (b : Bool) → nat_lt s period ≡ b → cond b (start_rule_at inst i (Some s)) None ≡ None
        by true k = none_by_allowed inst i s (all i s l (record { given = g; before = grind (arith, nat_tests) }))
        by false k = refl

-- the answer is none exactly where each kept start is allowed
pub kept_exactly : (inst : Tables) (plan : List (Option ℕ)) (period : ℕ) (rule : Option Rule)
    → rule ≡ first_kept_rule inst plan period → IsNone rule ↔ KeptAreAllowed inst plan period
kept_exactly inst plan period rule e = (
  λ h. kept_allowed inst plan period (subst IsNone e h),
  λ all. subst IsNone (sym e) (no_kept_rule inst plan period all),
)
