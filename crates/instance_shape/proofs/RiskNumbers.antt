-- The risk numbers of a text without a fault of shape: each is a number token that has a count.
use Rattle.std.proofs.Common.{◌≡◌, ℕ, Bool, false, List, [], Option, Some, None, refl, ℤ, pos, unwrap_or, option_map}
use Rattle.std.proofs.Common.{is_none}
use Rattle.std.specs.Prelude.{All}
use Rattle.std.proofs.lemmas.List.Elements.{All-nil}
use Rattle.json_grammar.specs.Tree.{Tree, tree, Node}
use Rattle.decimal_numbers.specs.Decimal.{IsFixedOf}
use Rattle.decimal_numbers.specs.Exact.{fixed}
use Rattle.decimal_numbers.proofs.ExactLaws.{fixed_sound}
use Rattle.instance_model.specs.declared.limits.Limits.{Limits}
use Rattle.instance_shape.specs.declared.fault.Flaw.TheVariants as flaw
use Rattle.instance_shape.specs.declared.fault.Known.TheVariants as is
use Rattle.instance_shape.specs.declared.spot.Spot.TheVariants as spot
use Rattle.instance_shape.specs.LookUp.{Entry, elements, entries, at_number, number_in, token_at, count_at, differs_at}
use Rattle.instance_shape.specs.LookUp.{risk_list, interventions}
use Rattle.instance_shape.proofs.Clear.{IsClear, own_clear, not_so}
use Rattle.instance_shape.proofs.ClearParts.{elements_clear, entries_clear, at_number_clear, known_clear}

-- the value is a number token, and its count is that of the token
abbrev pub HasCount : Tree → Type 0
HasCount x = IsFixedOf (token_at x) (count_at x) (differs_at x)

fixed_has_count : (token : List ℕ) → is_none (fixed token) ≡ false
    → IsFixedOf token (unwrap_or (option_map (λ (f : ℤ × Bool). f.0) (fixed token)) (pos 0))
    (unwrap_or (option_map (λ (f : ℤ × Bool). f.1) (fixed token)) false)
fixed_has_count token h = by (fixed token) refl h
  where
    by : (o : Option (ℤ × Bool)) → fixed token ≡ o → is_none o ≡ false
        → IsFixedOf token (unwrap_or (option_map (λ (f : ℤ × Bool). f.0) o) (pos 0))
        (unwrap_or (option_map (λ (f : ℤ × Bool). f.1) o) false)
    by None e h = cc
    by (Some f) e h = fixed_sound token f.0 f.1 e

number_has_count : (limits : Limits) (x : Tree) → IsClear limits spot.RiskNumber x → HasCount x
number_has_count limits (tree at end (Node.number token)) h = fixed_has_count token
    (not_so (is_none (fixed token)) at flaw.TooLarge (own_clear limits spot.RiskNumber at end (Node.number token) h))
number_has_count limits (tree at end _) h = cc

-- ---- the list of a period and a start

list_has_counts : (limits : Limits) (s : ℕ) (o : Option Tree)
    → ((p : Tree) → o ≡ Some p → IsClear limits spot.RiskPeriod p)
    → All HasCount (unwrap_or (option_map elements (number_in s o)) [])
list_has_counts limits s None c = All-nil HasCount
list_has_counts limits s (Some p) c = by (at_number s p) refl
  where
    by : (o : Option Tree) → at_number s p ≡ o → All HasCount (unwrap_or (option_map elements o) [])
    by None e = All-nil HasCount
    by (Some l) e =
        elements_clear limits spot.RiskStart l HasCount
        (at_number_clear limits spot.RiskPeriod spot.RiskStart s p l (λ key. refl) (c p refl) e)
        (λ m x d. number_has_count limits x d)

-- each number of a list of risks has a count
pub risks_have_counts : (limits : Limits) (v : Tree) (t s : ℕ) → IsClear limits spot.Intervention v
    → All HasCount (unwrap_or (risk_list v t s) [])
risks_have_counts limits v t s h =
    known_clear limits spot.Intervention is.Risk v
    (λ r. All HasCount (unwrap_or (option_map elements (number_in s (at_number t r))) [])) h (All-nil HasCount)
    (λ r c. list_has_counts limits s (at_number t r)
    (λ p e. at_number_clear limits spot.Risk spot.RiskPeriod t r p (λ key. refl) c e))

pub interventions_clear : (limits : Limits) (root : Tree) → IsClear limits spot.Root root
    → All (λ e. IsClear limits spot.Intervention e.value) (interventions root)
interventions_clear limits root h =
    known_clear limits spot.Root is.Interventions root (λ v. All (λ e. IsClear limits spot.Intervention e.value)
    (entries v)) h (All-nil (λ (e : Entry). IsClear limits spot.Intervention e.value))
    (λ v c. entries_clear limits spot.Interventions v (λ e. IsClear limits spot.Intervention e.value) c (λ key x d. d))
