use Rattle.std.proofs.Common.{◌≡◌, ℕ, ◌<◌, ◌^◌, ◌∙◌, sym, ap, arith, List, Option, Some, unsigned_abs}
use Rattle.fixed_num.proofs.SignedLemmas.{back_from_abs}
use Rattle.command_improve.specs.Improving.{score_before}
use Rattle.command_improve.proofs.SolutionLemmas.{before_kept, before_small}
use Rattle.command_improve.proofs.solution.score_before.Goals as goal

pub returns-in-Feasible-clause-value : goal.returns-in-Feasible-clause-value
returns-in-Feasible-clause-value c =
    let inst = c.args.inst.now in
    let seen = c.as_slice.result.now in
    let verdict = c.in_ok-values.field-0 in
    let values = c.in-Feasible.values in
    let found = c.in_ok-values.ensures in
    let small : unsigned_abs values.score < 10 ^ 33 = before_small verdict values c.in-Feasible.is found.small in
    ap Some (back_from_abs values.score (omega (arith, small)))
    ∙ before_kept inst seen verdict values c.in-Feasible.is found.feasible found.values
    ∙ ap (score_before inst) (ap Some c.as_slice.ensures ∙ sym c.in-Some.is)
