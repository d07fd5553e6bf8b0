-- What was read for a table. No part of any promise.
use Rattle.std.specs.Prelude.{◌≡◌, ℕ, List, length, Option}
use Rattle.plan_desk.specs.Desk.{Shown}
use Rattle.instance_model.specs.declared.limits.Limits.{Limits}
use Rattle.instance_model.specs.Tables.{Tables}
use Rattle.command_frame.specs.Sources.{Source}
use Rattle.command_frame.specs.Files.{ReadsInstance, ReadsPlan}

-- both files of `table` were read
pub record AreRead (limits : Limits) (source : Source) (name : List ℕ) (old : Shown) (inst : Tables) (plan : List
    (Option ℕ))
    : Type 0 where
  pub reads : ReadsInstance limits source old inst
  pub reads_plan : ReadsPlan limits name inst old plan
  pub each : length plan ≡ length inst.names
