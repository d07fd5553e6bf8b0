-- Starts on board that are changed.
use Rattle.std.specs.Prelude.{◌≡◌, ℕ, ◌<◌, List, length, Option, Some, IsTrue, slice_set}
use Rattle.instance_model.specs.Tables.{Tables, is_allowed}
use Rattle.instance_model.specs.Plans.{start_of}
use Rattle.resource_bands.specs.declared.above.StartChange.{StartChange}

-- the intervention is on board at the start that is changed, and the new one is allowed
pub record CanChangeStart (inst : Tables) (board : List (Option ℕ)) (one : StartChange) : Type 0 where
  pub number : one.i < length inst.names
  pub before : start_of board one.i ≡ Some one.from
  pub allowed : IsTrue (is_allowed inst one.i one.to)

-- the board after both changes, the first one before the second
abbrev pub board_after : StartChange → StartChange → List (Option ℕ) → List (Option ℕ)
board_after first second board =
    slice_set (slice_set board first.i (Some first.to)) second.i (Some second.to)
