use Rattle.std.proofs.Common.{◌∙◌, sym, ap, arith, get_or}
use Rattle.std.specs.Int.{w128}
use Rattle.std.proofs.lemmas.Int.{to_z-of_z}
use Rattle.quantile_index.specs.SortKeys.{key_above}
use Rattle.quantile_index.proofs.KeyLemmas.{keys_above}
use Rattle.quantile_index.proofs.ranks.widen_keys.Goals as goal

pub returns : goal.returns
returns c =
    keys_above c.args.least c.loop-i.keys c.args.narrow.now (sym c.loop-i.invariant.each) (λ k l.
    c.loop-i.invariant.done k (omega (arith, l, c.loop-i.invariant.each))
    ∙ ap (λ z. key_above z (get_or c.args.narrow.now k 0)) (to_z-of_z w128 c.args.least c.ranges.least))
