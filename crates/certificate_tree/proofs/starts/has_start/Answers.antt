use Rattle.certificate_tree.proofs.StartLemmas.{has_start_is}
use Rattle.certificate_tree.proofs.starts.has_start.Goals as goal

pub returns : goal.returns
returns c = has_start_is c.args.inst.now c.args.i c.args.span c.first_allowed.result c.is_some.result c.is_some.ensures
    c.first_allowed.ensures.found c.first_allowed.ensures.none
