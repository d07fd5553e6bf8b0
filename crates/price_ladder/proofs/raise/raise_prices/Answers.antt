use Rattle.std.proofs.lemmas.Result.{IfOk-weaker}
use Rattle.lagrange_bound.specs.Prices.{IsPriceList}
use Rattle.price_ladder.proofs.GainLemmas.{root_worth-zero}
use Rattle.price_ladder.proofs.raise.raise_prices.Goals as goal

pub returns-in-Some-clause-zeros : goal.returns-in-Some-clause-zeros
returns-in-Some-clause-zeros c = root_worth-zero c.args.inst.now

pub returns-in-None-clause-zeros : goal.returns-in-None-clause-zeros
returns-in-None-clause-zeros c = IfOk-weaker c.raise_from_zeros.result (IsPriceList c.args.inst.now) _
    (λ prices h. root_worth-zero c.args.inst.now) c.raise_from_zeros.ensures.in_range
