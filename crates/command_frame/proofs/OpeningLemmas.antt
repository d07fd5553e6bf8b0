-- The opening of a plan that breaks no rule on starts, and that it is the only one.
use Rattle.std.proofs.Common.{◌≡◌, ℕ, suc, ◌<◌, List, [], ◌∷◌, length, map, Option, Some, None, refl, sym, ◌∙◌, ap}
use Rattle.std.proofs.Common.{subst, arith}
use Rattle.std.specs.Prelude.{unwrap_or, slice_index, IsTrue, IsSome}
use Rattle.std.proofs.lemmas.List.{length-map, get_or-map}
use Rattle.instance_model.specs.Tables.{Tables, is_allowed}
use Rattle.instance_model.specs.Plans.{start_of, AreAllowedStarts}
use Rattle.instance_model.specs.Rules.{first_start_rule}
use Rattle.instance_model.specs.declared.rule.Rule.{Rule}
use Rattle.instance_model.proofs.KeyLemmas.{has_allowed_start}
use Rattle.instance_model.proofs.RuleLemmas.{starts_are_allowed, first_start_rule-none}
use Rattle.command_frame.specs.declared.opening.Opening.{Opening}
use Rattle.command_frame.specs.declared.opening.Opening.TheVariants.{Broken}
use Rattle.command_frame.specs.Reports.{infeasible_report}
use Rattle.command_frame.specs.Openings.{IsOpeningOf, OpensAs}

all_given : (plan : List (Option ℕ)) → ((i : ℕ) → i < length plan → (s : ℕ) × (start_of plan i ≡ Some s))
    → plan ≡ map Some (map (λ start. unwrap_or start 0) plan)
all_given [] h = refl
all_given (Some s ∷ plan) h = ap (λ rest. Some s ∷ rest) (all_given plan (λ i l. h (suc i) (omega (arith, l))))
all_given (None ∷ plan) h = absurd (apart (h 0 (omega arith)).0 (h 0 (omega arith)).1)
  where
    apart : (s : ℕ) → None ≡ Some s → ⊥
    apart s e = cc

pub opening_from : (inst : Tables) (plan : List (Option ℕ)) → length plan ≡ length inst.names
    → first_start_rule inst plan ≡ None → IsOpeningOf inst plan (map (λ start. unwrap_or start 0) plan)
opening_from inst plan each none =
    record {
      starts = all_given plan (λ i l. let w = starts_are_allowed inst plan none i (omega (arith, l, each)) in
          (w.start, w.given));
      allowed = record {
        each = length-map plan (λ start. unwrap_or start 0) ∙ each;
        allowed = λ i l.
            let within : i < length plan = omega (arith, l, length-map plan (λ start. unwrap_or start 0)) in
            let w = starts_are_allowed inst plan none i (omega (arith, within, each)) in
            let value : slice_index (map (λ start. unwrap_or start 0) plan) i ≡ w.start = get_or-map
            (λ start. unwrap_or start 0) plan i None 0 within ∙ ap (λ (o : Option ℕ). unwrap_or o 0) w.given in
            subst (λ (s : ℕ). IsTrue (is_allowed inst i s)) (sym value) w.allowed;
      };
    }

-- ---- one opening

same_starts : (a b : List ℕ) → map Some a ≡ map Some b → a ≡ b
same_starts [] [] e = refl
same_starts [] (y ∷ b) e = absurd (apart e)
  where
    apart : [] ≡ Some y ∷ map Some b → ⊥
    apart h = cc
same_starts (x ∷ a) [] e = absurd (apart e)
  where
    apart : Some x ∷ map Some a ≡ [] → ⊥
    apart h = cc
same_starts (x ∷ a) (y ∷ b) e =
    let head : x ≡ y = cc in
    let tail : map Some a ≡ map Some b = cc in
    ap (λ z. z ∷ a) head ∙ ap (λ zs. y ∷ zs) (same_starts a b tail)

pub same_opening : (inst : Tables) (plan : List (Option ℕ)) (a b : List ℕ) → IsOpeningOf inst plan a
    → IsOpeningOf inst plan b → a ≡ b
same_opening inst plan a b x y = same_starts a b (sym x.starts ∙ y.starts)

-- a plan of allowed starts breaks no rule on starts
pub no_broken_start : (inst : Tables) (plan : List (Option ℕ)) (opening : List ℕ) (rule : Rule)
    → IsOpeningOf inst plan opening → first_start_rule inst plan ≡ Some rule → ⊥
no_broken_start inst plan opening rule opens first =
    apart (sym (subst (λ (p : List (Option ℕ)). first_start_rule inst p ≡ None) (sym opens.starts)
    (first_start_rule-none inst (map Some opening) (has_allowed_start inst opening opens.allowed))) ∙ first)
  where
    apart : None ≡ Some rule → ⊥
    apart h = cc

some_rule : {A : Type 0} (o : Option A) → IsSome o → (x : A) × (o ≡ Some x)
some_rule (Some x) some = (x, refl)
some_rule None some = absurd (cc)

pub no_opening : (inst : Tables) (plan : List (Option ℕ)) (opening : List ℕ) → IsSome (first_start_rule inst plan)
    → IsOpeningOf inst plan opening → ⊥
no_opening inst plan opening some opens =
    let found = some_rule (first_start_rule inst plan) some in no_broken_start inst plan opening found.0 opens found.1

-- a plan of allowed starts is its own opening
pub own_opening : (inst : Tables) (opening : List ℕ) → AreAllowedStarts inst opening
    → IsOpeningOf inst (map Some opening) opening
own_opening inst opening allowed = record { starts = refl; allowed = allowed }

-- ---- the report on a plan that breaks a rule on starts

-- the text is the report on the first such rule
pub record ReportsFirst (inst : Tables) (plan : List (Option ℕ)) (text : List ℕ) : Type 0 where
  pub rule : Rule
  pub first : first_start_rule inst plan ≡ Some rule
  pub is : text ≡ infeasible_report inst rule

pub broken_opening : (inst : Tables) (plan : List (Option ℕ)) (opening : Opening) (report text : List ℕ)
    → OpensAs inst plan opening → opening ≡ Broken report → text ≡ report → ReportsFirst inst plan text
broken_opening inst plan opening report text opens is same =
    let found = subst (OpensAs inst plan) is opens in
    record { rule = found.0; first = found.1; is = same ∙ found.2 }
