-- Leaves of single starts, and of intervals without a start.
use Rattle.std.proofs.Common.{◌≡◌, ℕ, ◌<◌, refl, sym, ◌∙◌, ap, subst, arith, Bool, true, false, not, List, length, map}
use Rattle.std.proofs.Common.{Option, Some, IsTrue, is_some}
use Rattle.std.proofs.lemmas.Bool.{false≢true}
use Rattle.instance_model.specs.declared.rule.Rule.{Rule}
use Rattle.instance_model.specs.Tables.{Tables}
use Rattle.instance_model.specs.Plans.{AreAllowedStarts}
use Rattle.instance_model.specs.Rules.{first_rule, IsFeasible}
use Rattle.lagrange_bound.specs.declared.span.Span.{Span}
use Rattle.lagrange_bound.specs.Boxes.{span_of, starts_in, IsBox}
use Rattle.certificate_tree.specs.Holding.{EmptyHolds, first_starts}
use Rattle.certificate_tree.proofs.StartLemmas.{has_start_from, start_found}
use Rattle.certificate_tree.proofs.Refuting.{feasible_allowed, length-first_starts}

pub starts_allowed : (inst : Tables) (box : List Span) (starts : List ℕ) (plan : List (Option ℕ)) (rule : Option Rule)
    (b : Bool) → IsBox inst box → starts ≡ first_starts box → plan ≡ map Some starts → rule ≡ first_rule inst plan
    → b ≡ is_some rule → b ≡ false → AreAllowedStarts inst starts
starts_allowed inst box starts plan rule b h e f r s n =
    let each : length starts ≡ length inst.names =
    ap (λ (xs : List ℕ). length xs) e ∙ length-first_starts box ∙ h.each in
    let feasible : IsFeasible inst (map Some starts) = subst (IsFeasible inst) f (ap is_some (sym r) ∙ sym s ∙ n) in
    record { each = each; allowed = λ i l. feasible_allowed inst starts each feasible i (omega (arith, l, each)) }

pub empty_is : (inst : Tables) (box : List Span) (i : ℕ) (b : Bool)
    → (IsTrue b → 0 < length (starts_in inst i (span_of box i))) × (0 < length (starts_in inst i (span_of box i))
    → IsTrue b) → (IsTrue (not b) → EmptyHolds inst box i) × (EmptyHolds inst box i → IsTrue (not b))
empty_is inst box i true w =
    (λ h. absurd (false≢true h), λ h. let s = start_found inst i (span_of box i) (w.0 refl) in absurd (h s.0 s.1))
empty_is inst box i false w = (λ h s a. false≢true (w.1 (has_start_from inst i s (span_of box i) a)), λ h. refl)
