use Rattle.std.proofs.Common.{ap, subst}
use Rattle.instance_model.specs.Tables.{Tables}
use Rattle.plan_moves.specs.KeptPlans.{KeptPlans, present}
use Rattle.local_search.specs.Descents.{AllLower}
use Rattle.worked_searches.proofs.ScriptLemmas.{all_known, all_small}
use Rattle.worked_searches.proofs.moves.scripted_descents.write_descent.Goals as goal

pub write_moves-requires-clause-opened : goal.write_moves-requires-clause-opened
write_moves-requires-clause-opened g c = ap (λ o. o.opened) c.in_ok-put_out.ensures.ok.output

pub write_moves-requires-clause-known : goal.write_moves-requires-clause-known
write_moves-requires-clause-known g c =
    all_known c.args.inst.now (present c.in_ok-kept.kept.plans) c.in_ok-descent.descent.moves
    (subst (λ (inst : Tables). AllLower inst (present c.in_ok-kept.kept.plans) c.in_ok-descent.descent.moves)
    (ap (λ (k : KeptPlans). k.instance) c.in_ok-kept.ensures) c.in_ok-descent.ensures.ok.lower)

pub write_moves-requires-clause-small : goal.write_moves-requires-clause-small
write_moves-requires-clause-small g c =
    all_small c.args.inst.now (present c.in_ok-kept.kept.plans) c.in_ok-descent.descent.moves c.fits.ensures
    (subst (λ (inst : Tables). AllLower inst (present c.in_ok-kept.kept.plans) c.in_ok-descent.descent.moves)
    (ap (λ (k : KeptPlans). k.instance) c.in_ok-kept.ensures) c.in_ok-descent.ensures.ok.lower)
