-- The first broken rule names what is in the instance.
use Rattle.std.proofs.Common.{◌≡◌, ℕ, zero, suc, ◌+◌, ◌<◌, ◌⊎◌, inl, inr, ⊎_elim, List, length, Option, Some, None}
use Rattle.std.proofs.Common.{Bool, true, false, subst, arith}
use Rattle.std.specs.Prelude.{if◌then◌else◌, not, ◌&&◌, nat_le, nat_lt, int_lt}
use Rattle.instance_model.specs.Tables.{Tables, tmax, delta_of, upper_of, lower_of}
use Rattle.instance_model.specs.Plans.{start_of, load_sum}
use Rattle.instance_model.specs.Rules.{or_else, first_of, start_rule_at, first_start_rule, band_rule_at}
use Rattle.instance_model.specs.Rules.{first_band_rule, clashes, clash_rule_at, first_clash_rule, first_rule}
use Rattle.instance_model.specs.declared.rule.Rule.{Rule}
use Rattle.instance_model.specs.declared.rule.Rule.TheVariants.{Unscheduled, Outside, Past, Over, Under, Clash}
use Rattle.command_frame.specs.Reports.{NamesOf}

or_else-some : {A : Type 0} (o p : Option A) (x : A) → or_else o p ≡ Some x → (o ≡ Some x) ⊎ (p ≡ Some x)
or_else-some (Some y) p x e = inl e
or_else-some None p x e = inr e

-- what is found first is one of them
first_of-some : {A : Type 0} (n : ℕ) (f : ℕ → Option A) (x : A) → first_of n f ≡ Some x
    → (i : ℕ) × (i < n) × (f i ≡ Some x)
unfolding first_of
first_of-some {A} zero f x e = absurd (none_some x e)
  where
    none_some : (y : A) → None ≡ Some y → ⊥
    none_some y e = cc
first_of-some (suc n) f x e =
    ⊎_elim (λ h. let at = first_of-some n f x h in (at.0, omega (arith, at.1), at.2)) (λ h. (n, omega arith, h))
    (or_else-some (first_of n f) (f n) x e)

of_some : (inst : Tables) (a b : Rule) → NamesOf inst a → Some a ≡ Some b → NamesOf inst b
of_some inst a b named e = let same : a ≡ b = cc in subst (λ (r : Rule). NamesOf inst r) same named

no_rule : (inst : Tables) (b : Rule) → None ≡ Some b → NamesOf inst b
no_rule inst b e = absurd (no b e)
  where
    no : (r : Rule) → None ≡ Some r → ⊥
    no r e = cc

start_names : (inst : Tables) (i : ℕ) (o : Option ℕ) (rule : Rule) → i < length inst.names
    → start_rule_at inst i o ≡ Some rule → NamesOf inst rule
unfolding start_rule_at
start_names inst i None rule l e = of_some inst (Unscheduled i) rule l e
start_names inst i (Some s) rule l e =
    go (not (nat_le 1 s && nat_le s (tmax inst i))) (nat_lt (inst.periods + 1) (s + delta_of inst i s)) e
  where
    go : (a b : Bool) → (if a then Some (Outside i s) else if b then Some (Past i s) else None)
        ≡ Some rule → NamesOf inst rule
    go true b e = of_some inst (Outside i s) rule l e
    go false true e = of_some inst (Past i s) rule l e
    go false false e = no_rule inst rule e

band_names : (inst : Tables) (plan : List (Option ℕ)) (c t : ℕ) (rule : Rule) → c < length inst.resource_names
    → band_rule_at inst plan c t ≡ Some rule → NamesOf inst rule
unfolding band_rule_at
band_names inst plan c t rule l e =
    go (int_lt (upper_of inst c t) (load_sum inst plan c t)) (int_lt (load_sum inst plan c t) (lower_of inst c t)) e
  where
    go : (a b : Bool) → (if a then Some (Over c t (load_sum inst plan c t) (upper_of inst c t)) else if b
        then Some (Under c t (load_sum inst plan c t) (lower_of inst c t)) else None) ≡ Some rule → NamesOf inst rule
    go true b e = of_some inst (Over c t (load_sum inst plan c t) (upper_of inst c t)) rule l e
    go false true e = of_some inst (Under c t (load_sum inst plan c t) (lower_of inst c t)) rule l e
    go false false e = no_rule inst rule e

clash_names : (inst : Tables) (e t : ℕ) (b : Bool) (rule : Rule) → e < length inst.exclusion_names
    → (if b then Some (Clash e t) else None) ≡ Some rule → NamesOf inst rule
clash_names inst e t true rule l h = of_some inst (Clash e t) rule l h
clash_names inst e t false rule l h = no_rule inst rule h

pub start_rule_names : (inst : Tables) (plan : List (Option ℕ)) (rule : Rule)
    → first_start_rule inst plan ≡ Some rule → NamesOf inst rule
unfolding first_start_rule
start_rule_names inst plan rule e =
    let at = first_of-some (length inst.names) (λ i. start_rule_at inst i (start_of plan i)) rule e in
    start_names inst at.0 (start_of plan at.0) rule at.1 at.2

pub rule_names : (inst : Tables) (plan : List (Option ℕ)) (rule : Rule)
    → first_rule inst plan ≡ Some rule → NamesOf inst rule
unfolding first_rule first_band_rule first_clash_rule clash_rule_at
rule_names inst plan rule e =
    ⊎_elim
    (start_rule_names inst plan rule)
    (λ h. ⊎_elim
    (λ k.
    let c = first_of-some (length inst.resource_names)
    (λ c. first_of inst.periods (λ u. band_rule_at inst plan c (u + 1))) rule k in
    let u = first_of-some inst.periods (λ u. band_rule_at inst plan c.0 (u + 1)) rule c.2 in
    band_names inst plan c.0 (u.0 + 1) rule c.1 u.2)
    (λ k.
    let x = first_of-some (length inst.exclusion_names)
    (λ x. first_of inst.periods (λ u. if clashes inst plan x (u + 1) then Some (Clash x (u + 1)) else None)) rule k in
    let u = first_of-some inst.periods (λ u. if clashes inst plan x.0 (u + 1) then Some (Clash x.0 (u + 1)) else None)
    rule x.2 in
    clash_names inst x.0 (u.0 + 1) (clashes inst plan x.0 (u.0 + 1)) rule x.1 u.2)
    (or_else-some (first_band_rule inst plan) (first_clash_rule inst plan) rule h))
    (or_else-some (first_start_rule inst plan) (or_else (first_band_rule inst plan) (first_clash_rule inst plan)) rule
    e)
