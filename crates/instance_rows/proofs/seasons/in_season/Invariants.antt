use Rattle.std.proofs.Common.{◌≡◌, map, take}
use Rattle.std.specs.Prelude.{flat_map}
use Rattle.instance_shape.specs.FileTables.{lists_below}
use Rattle.instance_rows.specs.RowTables as table
use Rattle.instance_rows.proofs.seasons.in_season.Given as goal

abbrev pub invariant-loop-season : goal.invariant-loop-season
invariant-loop-season l = l.flags.items
    ≡ flat_map (λ ps. lists_below l.periods (table.in_season ps)) (map (λ s. s.items) (take l.season-index l.seasons))
