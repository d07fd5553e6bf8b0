-- What the code has of the words, as the grammar has it. No part of any promise.
use Rattle.std.specs.Prelude.{◌≤◌, Option, option_copied}
use Rattle.planner_cli.specs.declared.words.Command.{Command as CommandWords}
use Rattle.planner_cli.specs.declared.words.Command.TheVariants.{Evaluate, Replay, Check, Solve, Table}
use Rattle.planner_cli.specs.declared.words.Command.TheVariants.{Rebound, Roll, Rehearse}
use Rattle.planner_cli.specs.Words.{Command, evaluate, replay, check, solve, table, rebound, roll, rehearse}
use Rattle.command_frame.specs.Sources.{source_view}
use Rattle.command_words.specs.Parsing.{Parses}
use Rattle.command_solve.specs.Solving.{AreDistinct}
use Rattle.command_solve.specs.Made.{files_view}
use Rattle.command_roll.specs.Made.{files_view as roll_files_view}

abbrev pub command_view : CommandWords → Command
command_view (Evaluate source plan) = evaluate (source_view source) plan.now
command_view (Replay source plan script) = replay (source_view source) plan.now script.now
command_view (Check source plan certificate) = check (source_view source) (option_copied plan) certificate.now
command_view (Solve source files turns) = solve (source_view source) (files_view files) turns
command_view (Table source plan from to) = table (source_view source) plan.now from to
command_view (Rebound source certificate out) = rebound (source_view source) certificate.now out.now
command_view (Roll files period) = roll (roll_files_view files) period
command_view (Rehearse seed count) = rehearse seed count

-- What a command needs of its words: a slack of at most 10^-3 in counts of 10^-12; `solve` also not too many
-- turns, and names that differ; `table` a first period from 1; `roll` a period from 1 to 512; `rehearse` from 1 to 200
-- interventions.
abbrev pub CanRun : Command → Type 0
CanRun (evaluate source plan) = source.slack ≤ 1_000_000_000
CanRun (replay source plan script) = source.slack ≤ 1_000_000_000
CanRun (check source plan certificate) = source.slack ≤ 1_000_000_000
CanRun (solve source files turns) =
    (source.slack ≤ 1_000_000_000) × (turns ≤ 1_000_000) × AreDistinct source.instance files
CanRun (table source plan from to) = (source.slack ≤ 1_000_000_000) × (1 ≤ from)
CanRun (rebound source certificate out) = source.slack ≤ 1_000_000_000
CanRun (roll files period) = (1 ≤ period) × (period ≤ 512)
CanRun (rehearse seed count) = (1 ≤ count) × (count ≤ 200)

-- what a parser of the words owes: the command that the grammar has for them, if it has one
abbrev pub IsAsked : (grammar : Option Command) → (answer : Option CommandWords) → Type 0
IsAsked grammar answer = Parses command_view CanRun grammar answer
