use Rattle.std.proofs.Common.{◌≤◌, refl, ap, arith, length}
use Rattle.refined_prices.specs.declared.clique.Clique.{Clique}
use Rattle.refined_search.proofs.OrderLemmas.{each_more, each_all}
use Rattle.refined_search.proofs.order.have_two_members.Goals as goal

pub loop-clique-preserved : goal.loop-clique-preserved
loop-clique-preserved c =
    each_more (λ (x : Clique). 2 ≤ length x.members) c.args.cliques.now c.loop-clique.clique-index c.clique-item.result
    c.loop-clique-test.true c.clique-item.is (omega (arith, ap length c.as_slice.ensures, c.if-as_slice-lt2.false))
    c.loop-clique.invariant

pub returns : goal.returns
returns c = (
  λ _. each_all (λ (x : Clique). 2 ≤ length x.members) c.args.cliques.now c.loop-clique.clique-index (omega arith)
      c.loop-clique.invariant,
  λ _. refl,
)
