use Rattle.std.proofs.Common.{refl, arith}
use Rattle.refined_prices.proofs.TablesListTestLemmas.{none_from_lists}
use Rattle.refined_prices.proofs.tables.list_test.has_no_tails.Goals as goal

pub returns : goal.returns
returns c = (
  λ _. none_from_lists c.args.inst.now.periods c.args.prices.now.tails c.requires.tails_each
      (λ u l. c.loop-u.invariant u (omega (arith, l))),
  λ _. refl,
)
