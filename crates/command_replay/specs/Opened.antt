-- What was read for a replay. No part of any promise.
use Rattle.std.specs.Prelude.{◌≡◌, ℕ, List, length, All, Option}
use Rattle.plan_desk.specs.Desk.{Shown}
use Rattle.plan_moves.specs.declared.script_line.ScriptLine.{ScriptLine}
use Rattle.plan_moves.specs.Scripts.{NamesKnown}
use Rattle.instance_model.specs.declared.limits.Limits.{Limits}
use Rattle.instance_model.specs.Tables.{Tables}
use Rattle.command_frame.specs.Sources.{Source}
use Rattle.command_frame.specs.Files.{ReadsInstance, ReadsPlan, ReadsScript}

-- the three files of `replay` were read
pub record AreRead (limits : Limits) (source : Source) (name script_name : List ℕ) (old : Shown) (inst : Tables)
    (plan : List (Option ℕ)) (script : List ScriptLine) : Type 0 where
  pub reads : ReadsInstance limits source old inst
  pub reads_plan : ReadsPlan limits name inst old plan
  pub reads_script : ReadsScript limits script_name inst old script
  pub each : length plan ≡ length inst.names
  pub known : All (NamesKnown inst) script
