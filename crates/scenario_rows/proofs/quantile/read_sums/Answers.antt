use Rattle.std.proofs.Common.{arith, pos}
use Rattle.std.proofs.lemmas.List.{ext_get_or}
use Rattle.scenario_rows.proofs.quantile.read_sums.Goals as goal

pub returns-clause-values : goal.returns-clause-values
returns-clause-values g c = ext_get_or (pos 0) c.loop-k.values c.args.sums.now c.loop-k.invariant.each
    (λ j l. c.loop-k.invariant.done j (omega (arith, l, c.loop-k.invariant.each)))
