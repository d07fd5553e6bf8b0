use Rattle.command_improve.proofs.SolutionLemmas.{found_solution}
use Rattle.command_improve.proofs.solution.found_solution.Goals as goal

pub returns : goal.returns
returns c =
    let found = c.args.found in
    found_solution c.args.inst.now c.args.given.now c.args.turns c.fits.ensures found.starts found.values
    c.requires.found c.in_ok-before.before c.changes-changed.result c.old_starts.result.now c.as_slice.result.now
    c.in_ok-text.text c.in_ok-before.ensures.value c.old_starts.ensures c.as_slice.ensures
    c.changes-changed.ensures.value c.in_ok-text.ensures
