use Rattle.std.proofs.Common.{arith, refl}
use Rattle.std.specs.Int.{w128}
use Rattle.std.proofs.lemmas.Int.{to_z-of_z}
use Rattle.fixed_num.proofs.SignedLemmas.{back_from_abs}
use Rattle.quantile_index.specs.SortKeys.{place_of}
use Rattle.quantile_index.proofs.ranks.place_in.Goals as goal

pub returns-clause-value : goal.returns-clause-value
unfolding place_of
returns-clause-value c =
    rw (
      back_from_abs c.rem_euclid.result (omega (arith, c.rem_euclid.ensures.upper_bound)),
      c.rem_euclid.ensures.value,
      to_z-of_z w128 c.args.key c.ranges.key,
    ) refl
