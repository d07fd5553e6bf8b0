use Rattle.std.proofs.Common.{length, ap, arith}
use Rattle.quantile_index.proofs.BagLemmas.{length_ranked}
use Rattle.quantile_index.proofs.flat_row.FlatRowRow.replace_all.Goals as goal

pub write_entries-requires-clause-each : goal.write_entries-requires-clause-each
write_entries-requires-clause-each g c =
    omega (
      arith,
      c.rank.ensures.each,
      c.requires,
      ap length c.self.view_is,
      length_ranked c.self.inside.entries.items
          c.self.inside.sums.items c.self.invariant.ranking.bag,
    )
