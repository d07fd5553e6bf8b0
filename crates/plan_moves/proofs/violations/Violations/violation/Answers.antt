use Rattle.std.proofs.Common.{◌≡◌, ◌∙◌, ap, subst, arith, ℕ, List, map, Some}
use Rattle.fixed_num.proofs.SignedLemmas.{back_from_abs}
use Rattle.instance_model.specs.Keys.{band_gaps, clash_count, violation_of}
use Rattle.plan_moves.specs.Boards.{Board}
use Rattle.plan_moves.proofs.KeyLemmas.{clash_count_small, violation_from_parts}
use Rattle.plan_moves.proofs.violations.Violations.violation.Goals as goal

pub total_violation-requires-clause-broken : goal.total_violation-requires-clause-broken
total_violation-requires-clause-broken c =
    let inst = c.self.inside.inst.now in
    omega (
      arith,
      c.count.ensures inst c.self.invariant.clashes_over,
      clash_count_small inst
          (map Some c.self.inside.clashes.starts) c.fits.ensures,
    )

pub returns-clause-value : goal.returns-clause-value
returns-clause-value c =
    let inst = c.self.inside.inst.now in
    let starts = c.self.inside.starts.items in
    let gaps =
    c.violation.ensures.value inst c.self.invariant.loads_over ∙ ap (band_gaps inst) c.self.invariant.loads_board in
    let broken = c.count.ensures inst c.self.invariant.clashes_over
    ∙ ap (λ (l : List ℕ). clash_count inst (map Some l)) c.self.invariant.clashes_starts in
    let same = violation_from_parts inst (map Some starts) c.violation.result c.total_violation.result c.count.result
    gaps broken c.total_violation.ensures.value c.violation.ensures.small in
    back_from_abs c.total_violation.result (omega (arith, c.total_violation.ensures.small))
    ∙ subst (λ (b : Board). c.total_violation.result ≡ violation_of b.instance (map Some b.starts)) c.self.view_is same
