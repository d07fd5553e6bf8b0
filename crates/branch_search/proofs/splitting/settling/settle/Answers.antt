use Rattle.std.proofs.Common.{◌∙◌, sym, subst, arith, Option, IfSome, IfNone}
use Rattle.fixed_num.proofs.SignedLemmas.{back_from_abs}
use Rattle.std.proofs.lemmas.Bool.{false≢true}
use Rattle.certificate_tree.specs.declared.node.Node.{Node}
use Rattle.branch_search.specs.Boxes.{IsUnrefuted}
use Rattle.branch_search.specs.Refuting.{IsRefuting}
use Rattle.branch_search.specs.Tasks.{free_task}
use Rattle.branch_search.specs.Valued.{plan_in}
use Rattle.branch_search.proofs.LeafLemmas.{refuting_leaf, refuting_settled, refuting_worth}
use Rattle.branch_search.proofs.SettleLemmas.{priced_over, waiting_leaf}
use Rattle.branch_search.proofs.splitting.settling.settle.Goals as goal

pub returns-in-Some-clause-leaf : goal.returns-in-Some-clause-leaf
returns-in-Some-clause-leaf g c =
    let h : IsRefuting c.args.inst.now c.args.spans.now c.in-Some.node = subst
    (λ (o : Option Node). IfSome o (IsRefuting c.args.inst.now c.args.spans.now)) c.in-Some.is c.requires.refuted in
    let task = free_task (g.G.Goal.value_gives c.args.goal.now) c.args.inst.now c.args.tables.now in
    record {
      no_split = refuting_leaf c.args.inst.now c.args.spans.now c.in-Some.node h;
      settled = refuting_settled task (plan_in c.args.best.now) c.args.spans.now c.in-Some.node h;
      worth = refuting_worth task c.args.spans.now c.in-Some.node h;
      small = tt;
    }

pub greatest_worth-list-requires-clause-priced : goal.greatest_worth-list-requires-clause-priced
greatest_worth-list-requires-clause-priced g c =
    let u = subst (λ (o : Option Node). IfNone o (IsUnrefuted c.args.inst.now c.args.spans.now)) c.in_default.is
    c.requires.unrefuted in
    (priced_over c.args.inst.now c.args.tables.now c.args.spans.now c.requires.tables c.requires.spans u.starts).priced

pub returns-clause-leaf : goal.returns-clause-leaf
returns-clause-leaf g c = rw (back_from_abs c.greatest_worth-list.result.1
    (omega (arith, c.greatest_worth-list.ensures.small)))
    (waiting_leaf (g.G.Goal.value_gives c.args.goal.now) c.args.inst.now c.args.tables.now (plan_in c.args.best.now)
    c.args.spans.now c.greatest_worth-list.result.0 c.greatest_worth-list.result.1
    (subst (λ (o : Option Node). IfNone o (IsUnrefuted c.args.inst.now c.args.spans.now)) c.in_default.is
    c.requires.unrefuted) (λ s. false≢true (sym c.if-is_single.false ∙ c.is_single.ensures.1 s))
    c.greatest_worth-list.ensures.table c.greatest_worth-list.ensures.value c.greatest_worth-list.ensures.small)
