use Rattle.std.proofs.Common.{◌∙◌, sym, subst}
use Rattle.certificate_tree.specs.Trees.{AreStartsIn}
use Rattle.branch_search.proofs.SettleLemmas.{first_starts_in}
use Rattle.branch_search.proofs.closing.point.take_point.Goals as goal

pub take_plan-requires-clause-inside : goal.take_plan-requires-clause-inside
take_plan-requires-clause-inside g c =
    subst (AreStartsIn c.args.spans.now) (sym (c.as_slice.ensures.value ∙ c.in_ok-starts.ensures))
    (first_starts_in c.args.inst.now c.args.spans.now c.requires.spans c.requires.single)
