use Rattle.std.proofs.Common.{◌∙◌, refl}
use Rattle.refined_search.proofs.BeginLemmas.{begun_whole}
use Rattle.refined_search.proofs.begin.whole.Goals as goal

pub returns : goal.returns
returns c =
    begun_whole c.args.inst.now c.args.tables.now _ (c.from_vec.ensures ∙ c.in_ok-nodes.ensures.items) refl refl
