use Rattle.std.proofs.Common.{◌++◌, ◌∙◌, ap}
use Rattle.std.proofs.lemmas.Result.{on_ok_weaker}
use Rattle.instance_model.specs.RiskLists.{lists_of, add_all_to_last}
use Rattle.instance_model.proofs.RiskListLemmas.{lists_all}
use Rattle.instance_model.proofs.RiskStorageLemmas.{stored_tried}
use Rattle.instance_model.proofs.risk_lists.RiskLists.add_all.Goals as goal

pub invariant_of-self : goal.invariant_of-self
invariant_of-self c =
    stored_tried c.add_counts.result c.self.inside.heads.items c.self.inside.narrow.items c.self.inside.wide.items
    c.add_counts.new.narrow.items c.add_counts.new.wide.items c.args.counts.now c.add_counts.ensures.ok
    c.add_counts.ensures.seam c.add_counts.ensures.err c.self.invariant

pub returns-clause-ok : goal.returns-clause-ok
returns-clause-ok c =
    let hs = c.self.inside.heads.items in
    let numbers = c.self.inside.narrow.items ++ c.self.inside.wide.items in
    on_ok_weaker c.add_counts.result (λ e. ap (lists_of hs) e
    ∙ lists_all hs numbers c.args.counts.now c.self.invariant.ascend
    ∙ ap (add_all_to_last c.args.counts.now) c.self.view_is) c.add_counts.ensures.ok
