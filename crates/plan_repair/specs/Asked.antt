-- What the code has of the words, as the grammar has it. No part of any promise.
use Rattle.std.specs.Prelude.{◌≤◌, Option}
use Rattle.plan_repair.specs.declared.words.Command.{Command as CommandWords}
use Rattle.plan_repair.specs.declared.words.Command.TheVariants.{Audit, Repair}
use Rattle.plan_repair.specs.Words.{Command, audit, repair}
use Rattle.command_frame.specs.Sources.{source_view}
use Rattle.command_words.specs.Parsing.{Parses}
use Rattle.command_repair.specs.Repairing.{AreDistinct}
use Rattle.command_repair.specs.Made.{files_view}

abbrev pub command_view : CommandWords → Command
command_view (Audit source plan certificate) = audit (source_view source) plan.now certificate.now
command_view (Repair source plan files turns) = repair (source_view source) plan.now (files_view files) turns

-- What a command needs of its words: a slack of at most 10^-3, in counts of 10^-12; `repair` also not too many turns,
-- and names that differ.
abbrev pub CanRun : Command → Type 0
CanRun (audit source plan certificate) = source.slack ≤ 1_000_000_000
CanRun (repair source plan files turns) =
    (source.slack ≤ 1_000_000_000) × (turns ≤ 1_000_000) × AreDistinct source.instance plan files

-- what a parser of the words owes: the command that the grammar has for them, if it has one
abbrev pub IsAsked : (grammar : Option Command) → (answer : Option CommandWords) → Type 0
IsAsked grammar answer = Parses command_view CanRun grammar answer
