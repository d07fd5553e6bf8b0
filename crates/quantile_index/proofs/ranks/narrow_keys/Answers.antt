use Rattle.std.proofs.Common.{◌∙◌, ap, arith, get_or}
use Rattle.std.specs.Int.{w128}
use Rattle.std.proofs.lemmas.Int.{to_z-of_z}
use Rattle.quantile_index.specs.SortKeys.{key_above}
use Rattle.quantile_index.proofs.KeyLemmas.{keys_above}
use Rattle.quantile_index.proofs.ranks.narrow_keys.Goals as goal

pub returns-clause-above : goal.returns-clause-above
returns-clause-above c =
    λ _. keys_above c.args.least c.args.keys.now c.loop-i.narrow c.loop-i.invariant.each (λ k l.
    c.loop-i.invariant.done k (omega (arith, l))
    ∙ ap (λ z. key_above z (get_or c.loop-i.narrow k 0)) (to_z-of_z w128 c.args.least c.ranges.least))
