-- What the code has of the words, as the grammar has it. No part of any promise.
use Rattle.std.specs.Prelude.{◌<◌, ◌≤◌, Option, option_copied}
use Rattle.plan_refine.specs.declared.words.Command.{Command as CommandWords}
use Rattle.plan_refine.specs.declared.words.Command.TheVariants.{Check, Rebound, Bound, Improve}
use Rattle.plan_refine.specs.Words.{Command, check, rebound, bound, improve}
use Rattle.command_frame.specs.Sources.{source_view}
use Rattle.command_words.specs.Parsing.{Parses}

abbrev pub command_view : CommandWords → Command
command_view (Check source plan certificate) = check (source_view source) (option_copied plan) certificate.now
command_view (Rebound source certificate out) = rebound (source_view source) certificate.now out.now
command_view (Bound source plan certificate out turns part) =
    bound (source_view source) (option_copied plan) (option_copied certificate) out.now turns part
command_view (Improve source plan out turns seed) =
    improve (source_view source) (option_copied plan) out.now turns seed

-- what a command needs of its words: a slack of at most 10^-3, in counts of 10^-12, and a part that there is
abbrev pub CanRun : Command → Type 0
CanRun (check source plan certificate) = source.slack ≤ 1_000_000_000
CanRun (rebound source certificate out) = source.slack ≤ 1_000_000_000
CanRun (bound source plan certificate out turns part) =
    (source.slack ≤ 1_000_000_000) × (part.number < part.count)
CanRun (improve source plan out turns seed) = source.slack ≤ 1_000_000_000

-- what a parser of the words owes: the command that the grammar has for them, if it has one
abbrev pub IsAsked : (grammar : Option Command) → (answer : Option CommandWords) → Type 0
IsAsked grammar answer = Parses command_view CanRun grammar answer
