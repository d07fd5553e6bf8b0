use Rattle.certificate_tree.specs.PriceTables.{claim_by}
use Rattle.certificate_check.proofs.VerdictLemmas.{one_verdict}
use Rattle.certificate_check.proofs.checking.verdict_by.Goals as goal

pub returns-clause-only : goal.returns-clause-only
returns-clause-only g c = λ other h. one_verdict c.nodes_are_one_tree.ensures (g.G.Goal.value_gives c.args.goal.now)
    c.args.inst.now (claim_by c.args.bound c.args.tables.now c.args.nodes.now) c.in_ok-verdict.verdict other
    c.in_ok-verdict.ensures h
