use Rattle.command_answers.proofs.AuditableLemmas.{auditable}
use Rattle.command_answers.proofs.laws.valid_is_audited.Goals as goal

pub returns : goal.returns
returns c =
    auditable c.args.inst.now c.args.goal.now c.fits.ensures c.nodes_are_one_tree.ensures c.texts_tell.ensures.texts
    c.valid_bounds_plans.ensures c.bounds_count_changes.ensures
