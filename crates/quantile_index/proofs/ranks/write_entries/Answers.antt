use Rattle.std.proofs.Common.{arith}
use Rattle.quantile_index.proofs.KeyLemmas.{entries_written}
use Rattle.quantile_index.proofs.ranks.write_entries.Goals as goal

pub returns : goal.returns
returns c = entries_written c.args.keys.now c.loop-i.entries c.loop-i.invariant.each
    (λ k d l. c.loop-i.invariant.done k d (omega (arith, l)))
