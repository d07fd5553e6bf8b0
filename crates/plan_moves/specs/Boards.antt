-- The starts of a plan over an instance, and what is kept of them.
use Rattle.std.specs.Prelude.{◌≡◌, ℕ, List, map, Some}
use Rattle.instance_model.specs.Tables.{Tables}
use Rattle.instance_model.specs.Plans.{AreAllowedStarts}
use Rattle.scenario_rows.specs.RiskStates.{RiskState, IsOver as AreRowsOver}
use Rattle.resource_bands.specs.BoardLoads.{BoardLoads, IsOver as AreLoadsOver}
use Rattle.season_exclusion.specs.KeptClashes.{KeptClashes, IsOver as AreClashesOver}

-- the instance, and one start for each of its interventions
pub record Board : Type 0 where
  pub instance : Tables
  pub starts : List ℕ

-- the starts are allowed, and the loads and the broken exclusions are kept of these starts
pub record AreViolationsOf (inst : Tables) (starts : List ℕ) (loads : BoardLoads) (clashes : KeptClashes) : Type 0 where
  pub allowed : AreAllowedStarts inst starts
  pub loads_over : AreLoadsOver inst loads
  pub loads_board : loads.board ≡ map Some starts
  pub clashes_over : AreClashesOver inst clashes
  pub clashes_starts : clashes.starts ≡ starts

-- the starts are allowed, and the scenario sums are kept of these starts
pub record AreRowsOf (board : Board) (sums : RiskState) : Type 0 where
  pub allowed : AreAllowedStarts board.instance board.starts
  pub over : AreRowsOver board.instance sums
  pub board_is : sums.board ≡ map Some board.starts
