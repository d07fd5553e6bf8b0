use Rattle.instance_model.specs.Limits.{standard_limits}
use Rattle.command_solve.proofs.SolutionLemmas.{is_solution}
use Rattle.command_solve.proofs.solution.solution_from.Goals as goal

pub returns : goal.returns
returns g c =
    let made = c.in_ok-made.made in
    is_solution c.args.inst.now c.args.turns made.moves made.answer c.fits.ensures c.in_ok-made.ensures
    (c.valid_is_accepted.ensures standard_limits made.answer.cert c.in_ok-made.ensures.cert) c.in_ok-report.report
    c.in_ok-report.ensures
