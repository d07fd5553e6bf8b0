-- The rule that the first kept start breaks names an intervention of the instance.
use Rattle.std.proofs.Common.{◌≡◌, ℕ, zero, suc, ◌+◌, ◌<◌, ◌≤◌, refl, subst, arith, Bool, true, false, not, ◌&&◌, cond}
use Rattle.std.proofs.Common.{List, length, Option, Some, None, nat_le, nat_lt}
use Rattle.instance_model.specs.declared.rule.Rule.{Rule}
use Rattle.instance_model.specs.declared.rule.Rule.TheVariants.{Outside, Past}
use Rattle.instance_model.specs.Tables.{Tables, tmax, delta_of}
use Rattle.instance_model.specs.Plans.{start_of}
use Rattle.instance_model.specs.Rules.{or_else, first_of, start_rule_at}
use Rattle.plan_roll.specs.Rolled.{is_kept}
use Rattle.plan_roll.specs.Begun.{kept_rule_at, first_kept_rule}
use Rattle.command_frame.specs.Reports.{NamesOf}

of_some : (inst : Tables) (a b : Rule) → NamesOf inst a → Some a ≡ Some b → NamesOf inst b
of_some inst a b named e = let same : a ≡ b = cc in subst (λ (r : Rule). NamesOf inst r) same named

no_rule : (inst : Tables) (b : Rule) → None ≡ Some b → NamesOf inst b
no_rule inst b e = absurd (no b e)
  where
    no : (r : Rule) → None ≡ Some r → ⊥
    no r e = cc

start_names : (inst : Tables) (period i : ℕ) (o : Option ℕ) (rule : Rule) → i < length inst.names
    → cond (is_kept period o) (start_rule_at inst i o) None ≡ Some rule → NamesOf inst rule
unfolding is_kept start_rule_at
start_names inst period i None rule l e = no_rule inst rule e
start_names inst period i (Some s) rule l e =
    go (nat_lt s period) (not (nat_le 1 s && nat_le s (tmax inst i)))
    (nat_lt (inst.periods + 1) (s + delta_of inst i s)) e
  where
    go : (a b d : Bool) → cond a (cond b (Some (Outside i s)) (cond d (Some (Past i s)) None)) None ≡ Some rule
        → NamesOf inst rule
    go true true d e = of_some inst (Outside i s) rule l e
    go true false true e = of_some inst (Past i s) rule l e
    go true false false e = no_rule inst rule e
    go false b d e = no_rule inst rule e

names_at : (inst : Tables) (plan : List (Option ℕ)) (period i : ℕ) (rule : Rule) → i < length inst.names
    → kept_rule_at inst plan period i ≡ Some rule → NamesOf inst rule
unfolding kept_rule_at
names_at inst plan period i rule l e = start_names inst period i (start_of plan i) rule l e

names_below : (inst : Tables) (plan : List (Option ℕ)) (period n : ℕ) (rule : Rule) → n ≤ length inst.names
    → first_of n (kept_rule_at inst plan period) ≡ Some rule → NamesOf inst rule
unfolding first_of
names_below inst plan period zero rule l e = no_rule inst rule e
names_below inst plan period (suc n) rule l e =
    at (first_of n (kept_rule_at inst plan period)) refl e (names_below inst plan period n rule (omega arith))
  where
    at : (o : Option Rule) → first_of n (kept_rule_at inst plan period) ≡ o
        → or_else o (kept_rule_at inst plan period n) ≡ Some rule
        → (first_of n (kept_rule_at inst plan period) ≡ Some rule → NamesOf inst rule) → NamesOf inst rule
    at (Some x) g e ih = ih (let same : ◌≡◌ {A = Option Rule} (Some x) (Some rule) = e in cc)
    at None g e ih = names_at inst plan period n rule (omega arith) e

pub kept_names : (inst : Tables) (plan : List (Option ℕ)) (period : ℕ) (rule : Rule)
    → first_kept_rule inst plan period ≡ Some rule → NamesOf inst rule
unfolding first_kept_rule
kept_names inst plan period rule e = names_below inst plan period (length inst.names) rule (omega arith) e
