use Rattle.command_answers.proofs.AcceptLemmas.{acceptable}
use Rattle.command_answers.proofs.laws.valid_is_accepted.Goals as goal

pub returns : goal.returns
returns g c =
    acceptable c.args.inst.now c.fits.ensures c.cost_is_just_above_score.ensures c.nodes_are_one_tree.ensures
    c.proved_bounds_plans.ensures g.C.FileCertificate.kind c.laws.ensures
