use Rattle.lagrange_bound.proofs.ExSumsLemmas.{added_both}
use Rattle.lagrange_bound.proofs.ex_sums.add_price.Goals as goal

pub returns-clause-added : goal.returns-clause-added
returns-clause-added c =
    added_both c.args.inst.now c.args.x c.args.sums.now c.add_at.new.sums c.add_at-2.new.sums
    c.exclusion-exclusion.result c.periods-periods.result c.periods-periods.ensures.value
    c.exclusion-exclusion.ensures.value c.requires.price.from c.requires.price.to c.requires.each
    c.exclusion-exclusion.ensures.first c.exclusion-exclusion.ensures.second c.add_at.ensures c.add_at-2.ensures
