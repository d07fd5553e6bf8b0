use Rattle.std.proofs.Common.{List, Option, ℕ, subst}
use Rattle.branch_search.specs.Startless.{empty_certificate}
use Rattle.command_answers.specs.Accepting.{ShortValidIsAuditable}
use Rattle.command_repair.proofs.SolutionLemmas.{empty_is_good, no_start_solution}
use Rattle.command_repair.proofs.solution.startless.Goals as goal

pub returns : goal.returns
returns c =
    let inst = c.args.inst.now in
    let old = c.args.old.now in
    let i = c.args.i in
    no_start_solution inst old i c.requires
    (subst (λ (o : List (Option ℕ)). ShortValidIsAuditable inst o) c.in_ok-goal.ensures c.valid_is_audited.ensures
    (empty_certificate i) (empty_is_good inst old i c.requires c.texts_are_short.ensures.fit c.fits.ensures))
    c.in_ok-certificate.certificate c.in_ok-text.text c.in_ok-certificate.ensures c.in_ok-text.ensures
