-- The instance file of a command.
use Rattle.std.specs.Prelude.{ℕ, List}
use Rattle.command_frame.specs.declared.source.Source.{Source as SourceWords}

-- the name of the instance file, word 2, and how far its bands are widened, in 10^-12
pub record Source : Type 0 where
  pub instance : List ℕ
  pub slack : ℕ

-- the same as the code has it, which is no part of any promise
abbrev pub source_view : SourceWords → Source
source_view s = record { instance = s.instance.now; slack = s.slack }
