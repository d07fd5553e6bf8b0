use Rattle.std.proofs.Common.{arith, pos}
use Rattle.std.proofs.lemmas.List.{ext_get_or}
use Rattle.scenario_rows.proofs.shift.copy_sums.Goals as goal

pub returns : goal.returns
returns g c = ext_get_or (pos 0) c.loop-k.to (g.R.Row.sums c.args.row.now) c.loop-k.invariant.each
    (λ j l. c.loop-k.invariant.done j (omega (arith, l, c.loop-k.invariant.each)))
