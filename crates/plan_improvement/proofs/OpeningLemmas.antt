-- An old plan that keeps every rule is the first plan, and what holds of first plans.
use Rattle.std.proofs.Common.{◌≡◌, ℕ, ◌<◌, sym, ◌∙◌, ap, arith, List, length, get_or, map, Option, Some, None}
use Rattle.std.proofs.lemmas.List.{length-map, ext_get_or}
use Rattle.instance_model.specs.Tables.{Tables}
use Rattle.instance_model.specs.Plans.{AreAllowedStarts}
use Rattle.instance_model.specs.Rules.{IsFeasible}
use Rattle.instance_model.proofs.BoardLemmas.{start_of-starts}
use Rattle.instance_model.proofs.RuleLemmas.{KeepsRules-from}
use Rattle.fewest_changes.specs.Openings.{IsKeptOpening}

module _ (inst : Tables) (old : List (Option ℕ)) (first : List ℕ) (opens : IsKeptOpening inst old first) where
  pub first_allowed : AreAllowedStarts inst first
  first_allowed = record {
    each = opens.each;
    allowed = λ i low. (opens.at i (omega (arith, low, opens.each))).allowed;
  }

  module _ (each : length old ≡ length inst.names) (feasible : IsFeasible inst old) where
    same_start : (i : ℕ) → i < length first → get_or (map Some first) i None ≡ get_or old i None
    same_start i low =
        let here : i < length inst.names = omega (arith, low, opens.each) in
        let given = (KeepsRules-from inst old feasible).starts i here in
        start_of-starts first i low
        ∙ ap Some ((opens.at i here).kept given.start (record { given = given.given; allowed = given.allowed }))
        ∙ sym given.given

    pub first_is_old : map Some first ≡ old
    first_is_old =
        ext_get_or None (map Some first) old (length-map first Some ∙ opens.each ∙ sym each)
        (λ i low. same_start i (omega (arith, low, length-map first Some)))
