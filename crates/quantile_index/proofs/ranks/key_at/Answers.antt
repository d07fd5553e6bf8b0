use Rattle.quantile_index.proofs.KeyLemmas.{key_bits, key_small}
use Rattle.quantile_index.proofs.ranks.key_at.Goals as goal

pub returns-clause-key : goal.returns-clause-key
returns-clause-key c = key_bits c.args.value c.args.place c.requires.value c.requires.place

pub returns-clause-small : goal.returns-clause-small
returns-clause-small c =
    rw (key_bits c.args.value c.args.place c.requires.value c.requires.place)
    (key_small c.args.value c.args.place c.requires.value c.requires.place)
