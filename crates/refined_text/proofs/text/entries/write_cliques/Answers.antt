use Rattle.std.proofs.Common.{ap, rules}
use Rattle.plan_desk.specs.Written.Way.{writing}
use Rattle.plan_desk.proofs.Written.{begins, next, respelled, stops_at}
use Rattle.refined_text.specs.text.Steps.{clique_text}
use Rattle.refined_text.proofs.text.entries.write_cliques.Goals as goal

pub loop-x-init : goal.loop-x-init
loop-x-init g c = begins writing (g.D.Desk.shows c.args.desk.now)

pub returns-in_err-put_clique : goal.returns-in_err-put_clique
returns-in_err-put_clique g c =
    stops_at writing clique_text c.args.cliques.now c.loop-x.x-index c.x-item.result c.loop-x-test.true
    c.from_residual.result (search rules) c.loop-x.invariant
    (respelled writing (ap clique_text c.x-item.is) c.in_err-put_clique.ensures)

pub loop-x-preserved : goal.loop-x-preserved
loop-x-preserved g c =
    next writing clique_text c.args.cliques.now c.loop-x.x-index c.x-item.result c.loop-x-test.true c.loop-x.invariant
    (respelled writing (ap clique_text c.x-item.is) c.in_ok-put_clique.ensures)
