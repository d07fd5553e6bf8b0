use Rattle.std.proofs.Common.{refl, subst, arith}
use Rattle.std.proofs.lemmas.List.{get_or_read}
use Rattle.refined_prices.specs.Cliques.{IsPricedClique, CliqueBefore}
use Rattle.refined_prices.proofs.TablesOrderLemmas.{AreOrdered-more, AreOrdered-all, cliques_trans}
use Rattle.refined_prices.proofs.tables.list_test.are_cliques.Goals as goal

pub loop-k-preserved : goal.loop-k-preserved
loop-k-preserved c = AreOrdered-more (IsPricedClique c.args.inst.now) CliqueBefore c.args.cliques.now
    c.loop-k.k cliques_trans c.loop-k.invariant
    (λ d. subst (IsPricedClique c.args.inst.now)
    (get_or_read c.args.cliques.now c.loop-k.k c.index-cliques-k.result c.loop-k-test.true c.index-cliques-k.is d)
    (c.is_priced_clique.ensures.0 c.if-not-is_priced_clique.false))
    (c.clique_follows.ensures.0 c.if-not-clique_follows.false)

pub returns : goal.returns
returns c = (
  λ _. (
    omega arith,
    AreOrdered-all (IsPricedClique c.args.inst.now) CliqueBefore c.args.cliques.now c.loop-k.k
        c.loop-k.invariant (omega arith),
  ),
  λ _. refl,
)
