use Rattle.std.proofs.Common.{◌≡◌, take}
use Rattle.instance_shape.specs.FileTables.{lists_below}
use Rattle.instance_rows.specs.RowTables as table
use Rattle.instance_rows.proofs.seasons.season_flags.Given as goal

abbrev pub invariant-loop-period : goal.invariant-loop-period
invariant-loop-period l = l.flags.items ≡ lists_below l.periods (table.in_season (take l.period-index l.season))
