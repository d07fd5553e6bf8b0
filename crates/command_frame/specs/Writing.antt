-- How the files of an answer are written, one after another. No part of any promise.
use Rattle.std.specs.Prelude.{◌≡◌, ℕ, ◌<◌, ◌^◌, List, length, All, Result, Ok, Err, OnOk, OnErr}
use Rattle.plan_desk.specs.Desk.{Shown, ShowsSame}
use Rattle.plan_desk.specs.Contents.{KeepsFiles}
use Rattle.plan_desk.specs.FileWrites.{FileWrite, after_file, after_writes, StopsFile, StopsWrites}
use Rattle.plan_desk.specs.declared.call.DeskCall.{DeskCall}
use Rattle.instance_model.specs.Tables.{Tables}
use Rattle.command_frame.specs.declared.report.Report.{Report}
use Rattle.command_frame.specs.Lines.{write_line}
use Rattle.command_frame.specs.Ending.{Writing, Answer, files_of, writing_at, WriteFails}
use Rattle.command_frame.specs.Refusals.{SaysOrFails}

-- one small start for each intervention
pub record IsWritablePlan (inst : Tables) (plan : List ℕ) : Type 0 where
  pub each : length plan ≡ length inst.names
  pub small : All (λ start. start < 10 ^ 9) plan

-- what the writing of a file left that stopped at a call, which alone failed
pub record StopsPut (file : FileWrite) (old new : Shown) : Type 0 where
  pub call : DeskCall
  pub stops : StopsFile file call old new
  pub fails : WriteFails call file.name old new

-- a file was opened, written whole and ended, or that stopped at a call
pub record PutsFile {T E : Type 0} (file : FileWrite) (old new : Shown) (result : Result T E) : Type 0 where
  pub ok : OnOk result (ShowsSame new (after_file file old))
  pub err : OnErr result (StopsPut file old new)
  pub same : OnOk result (new.faults ≡ old.faults)

-- the files of some writings were written, one after another
pub record HasWritten (writes : List Writing) (old new : Shown) : Type 0 where
  pub shows : ShowsSame new (after_writes (files_of writes) old)
  pub same : new.faults ≡ old.faults

-- the first n were, and the writing of the next one, which this word names, stopped at a call
pub record StopsWriting (writes : List Writing) (old new : Shown) (word : ℕ) : Type 0 where
  pub n : ℕ
  pub call : DeskCall
  pub stops : StopsWrites (files_of writes) n call old new
  pub fails : WriteFails call (writing_at writes n).file.name old new
  pub word_is : word ≡ (writing_at writes n).word

-- all were written, or the writing of one stopped, whose word is the error
abbrev pub PutsFiles : {T : Type 0} → List Writing → (old new : Shown) → Result T ℕ → Type 0
PutsFiles writes old new (Ok x) = HasWritten writes old new
PutsFiles writes old new (Err word) = StopsWriting writes old new word

-- behind files that were written a report was said, or the line of the word of the one whose writing stopped; or saying
-- that failed
abbrev pub SaysWritten : {T : Type 0} → Report → (old new : Shown) → Result T ℕ → ℕ → Type 0
SaysWritten report old new (Ok x) status = SaysOrFails report.status report.text old new status
SaysWritten report old new (Err word) status = SaysOrFails 8 (write_line word) old new status

-- the files of an answer were written and then its text was said, or the writing of one stopped and then its line was
-- said; or saying that failed
pub data TellsAnswer (a : Answer) (old new : Shown) (status : ℕ) : Type 0 where
  written : (wrote : Shown) → HasWritten a.writes old wrote → KeepsFiles wrote new
      → SaysOrFails a.status a.text wrote new status → TellsAnswer a old new status
  unwritten : (stopped : Shown) (word : ℕ) → StopsWriting a.writes old stopped word → KeepsFiles stopped new
      → SaysOrFails 8 (write_line word) stopped new status → TellsAnswer a old new status
