use Rattle.std.proofs.Common.{◌≡◌, arith}
use Rattle.instance_model.specs.Tables.{tmax}
use Rattle.local_search.proofs.BestLemmas.{better_nowhere}
use Rattle.local_search.proofs.best.best_start.Goals as goal

pub returns-clause-none : goal.returns-clause-none
returns-clause-none g c =
    let all : c.tmax-tmax.result ≡ tmax c.args.kept.now.instance c.args.i = cc in
    better_nowhere c.args.kept.now c.args.i c.loop-s.s c.loop-s.best c.loop-s.least (omega (arith, all))
    c.loop-s.invariant.best
