-- The answer of `roll` as the code makes it. Private functions cite it: no part of any promise.
use Rattle.std.specs.Prelude.{ℕ, List, [], ◌∷◌, Option}
use Rattle.instance_model.specs.Tables.{Tables}
use Rattle.command_frame.specs.Ending.{Answer, reply}
use Rattle.command_frame.specs.Outputs.{long_output_line}
use Rattle.command_roll.specs.declared.roll.RollFiles.{RollFiles as FileNames}
use Rattle.command_roll.specs.declared.roll.Outcome.{Outcome}
use Rattle.command_roll.specs.declared.roll.Outcome.TheVariants.{Broken, TooLong, Rolled}
use Rattle.command_roll.specs.Rolling.{RollFiles, out_write}

-- the names as the code has them
abbrev pub files_view : FileNames → RollFiles
files_view f = record { instance = f.instance.now; plan = f.plan.now; out = f.out.now }

-- what is answered where the text is written, with this report
abbrev pub rolled_answer : RollFiles → Tables → List (Option ℕ) → ℕ → List ℕ → Answer
rolled_answer files inst plan period text =
    record { status = 0; text = text; writes = out_write files inst plan period ∷ [] }

-- what is answered with an outcome
abbrev pub answer_of : RollFiles → Tables → List (Option ℕ) → ℕ → Outcome → Answer
answer_of files inst plan period (Broken text) = reply 1 text
answer_of files inst plan period TooLong = reply 12 (long_output_line 5)
answer_of files inst plan period (Rolled text) = rolled_answer files inst plan period text
