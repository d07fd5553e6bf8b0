use Rattle.std.proofs.Common.{◌∙◌}
use Rattle.instance_model.specs.Limits.{standard_limits}
use Rattle.branch_search.specs.Startless.{empty_certificate}
use Rattle.command_solve.proofs.SolutionLemmas.{empty_is_good, empty_is_short, no_start_solution}
use Rattle.command_solve.proofs.solution.startless.Goals as goal

pub returns : goal.returns
returns c =
    let inst = c.args.inst.now in
    let i = c.args.i in
    no_start_solution inst i c.requires
    (record {
      checkable = (c.valid_is_accepted.ensures standard_limits (empty_certificate i)
          (empty_is_good inst i c.requires c.texts_are_short.ensures.fit c.fits.ensures)).checkable;
      short = empty_is_short inst i c.requires c.texts_are_short.ensures.fit c.fits.ensures;
    })
    c.in_ok-certificate.certificate c.from_vec-moves.result c.in_ok-text.text c.in_ok-certificate.ensures
    (c.from_vec-moves.ensures ∙ c.new.ensures.items) c.in_ok-text.ensures
