use Rattle.std.proofs.Common.{arith}
use Rattle.quantile_index.proofs.KeyLemmas.{entries_read, keys_read}
use Rattle.quantile_index.proofs.ranks.read_keys.Goals as goal

pub returns-clause-entries : goal.returns-clause-entries
returns-clause-entries g c =
    entries_read c.args.from.now c.loop-i.keys (record {
      few = c.requires.few;
      each = c.loop-i.invariant.each;
      key = λ k l. c.loop-i.invariant.done k (omega (arith, l));
      small = λ k l. c.loop-i.invariant.small k (omega (arith, l));
    })

pub returns-clause-read : goal.returns-clause-read
returns-clause-read g c =
    keys_read c.args.from.now c.loop-i.keys (record {
      few = c.requires.few;
      each = c.loop-i.invariant.each;
      key = λ k l. c.loop-i.invariant.done k (omega (arith, l));
      small = λ k l. c.loop-i.invariant.small k (omega (arith, l));
    })
