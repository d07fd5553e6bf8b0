-- How a run ends: what is due is written and said, or writing or saying it fails.
--
-- `old` and `new` are what the desk shows before and after a run.
use Rattle.std.specs.Prelude.{◌≡◌, ◌≢◌, ◌⊎◌, ℕ, ◌-◌, ◌^◌, ◌<◌, false, List, [], ◌∷◌, length, take, map, slice_index_or}
use Rattle.std.specs.Prelude.{Some}
use Rattle.plan_desk.specs.Desk.{Shown}
use Rattle.plan_desk.specs.Faults.{OneFails, FailsOnce, SayFails, IsFaultOf}
use Rattle.plan_desk.specs.Contents.{Says}
use Rattle.plan_desk.specs.FileWrites.{FileWrite, after_writes, StopsWrites}
use Rattle.plan_desk.specs.declared.call.DeskCall.{DeskCall}
use Rattle.command_frame.specs.Lines.{memory_line, write_line}

-- ---- answers

-- a file to be written, and the word of the command line that names it
pub record Writing : Type 0 where
  pub word : ℕ
  pub file : FileWrite

-- an answer: the status, the text that is said, and the files that are written before that, one after another
pub record Answer : Type 0 where
  pub status : ℕ
  pub text : List ℕ
  pub writes : List Writing

-- the files, without their words
abbrev pub files_of : List Writing → List FileWrite
files_of writes = map (λ w. w.file) writes

-- file n, counted from 0
abbrev pub writing_at : List Writing → ℕ → Writing
writing_at writes n = slice_index_or writes n (record { word = 0; file = record { name = []; bytes = [] } })

-- an answer that writes no file
abbrev pub reply : ℕ → List ℕ → Answer
reply status text = record { status = status; text = text; writes = [] }

-- there is at most one answer
abbrev pub IsOneAnswer : (Answer → Type 0) → Type 0
IsOneAnswer Answers = (a b : Answer) → Answers a → Answers b → a ≡ b

-- an answer of a command, or want of memory, which may come in its place; then no file is written
pub data OrMemory (Answers : Answer → Type 0) : Answer → Type 0 where
  answers : (a : Answer) → Answers a → OrMemory Answers a
  no_memory : OrMemory Answers (reply 11 memory_line)

-- ---- the end of a run

-- No call failed, but where a file could not be read (7), or where one could not be written or what was due could not
-- be said (8). So want of memory (11) is never told in the place of a call that failed.
abbrev pub IsQuiet : ℕ → (old new : Shown) → Type 0
IsQuiet status old new = status ≢ 7 → status ≢ 8 → new.faults ≡ old.faults

-- No call failed before an answer of this status is told. Or the answer is that a file could not be read (7), and one
-- call failed, no `say`.
pub data CountsRead (status : ℕ) (old new : Shown) : Type 0 where
  none : new.faults ≡ old.faults → CountsRead status old new
  one : status ≡ 7 → OneFails false old new → CountsRead status old new

-- An answer was due, its files were written, and its text was said. `Due` says what is due after what the desk shows.
pub record IsDone (Due : Shown → Answer → Type 0) (old new : Shown) (status : ℕ) : Type 0 where
  pub answer : Answer
  pub due : Due new answer
  pub status_is : status ≡ answer.status
  pub writes : new.output ≡ (after_writes (files_of answer.writes) old).output
  pub says : Says answer.text old new
  pub counts : CountsRead status old new

-- An answer was due, its files were written, and saying its text failed after a first part of it was said but not all.
-- Nothing was said before or after that. `before` is what the desk may have shown as the saying began. From then on one
-- call failed, a `say`, and no other was made after it. Before it no `say` failed, so one `say` more failed than at the
-- start.
pub record IsUnsaid (Due : Shown → Answer → Type 0) (old new : Shown) : Type 0 where
  pub before : Shown
  pub answer : Answer
  pub due : Due before answer
  pub silent : before.said ≡ old.said
  pub counts : CountsRead answer.status old before
  pub writes : new.output ≡ (after_writes (files_of answer.writes) old).output
  pub part : ℕ
  pub within : part < length answer.text
  pub says : Says (take part answer.text) old new
  pub fails : SayFails before new

-- one call failed, no `say` but this one at the file of this name
abbrev pub WriteFails : DeskCall → List ℕ → (old new : Shown) → Type 0
WriteFails call name = FailsOnce false (IsFaultOf call (Some name))

-- The line of a file that could not be written was said, and no other call failed; or saying it failed after a first
-- part of it, which is a second failed call and the only failed `say`
pub data SaysUnwritten (word : ℕ) (stopped new : Shown) : Type 0 where
  said : Says (write_line word) stopped new → new.faults ≡ stopped.faults → SaysUnwritten word stopped new
  unsaid : (part : ℕ) → part < length (write_line word) → Says (take part (write_line word)) stopped new
      → SayFails stopped new → SaysUnwritten word stopped new

-- An answer was due, its first n files were written whole, and the writing of the next one stopped at a call that
-- failed; the files behind it are untouched. Nothing was said but the line of that file, or a first part of it. The
-- desk may have shown `before` as the writing began, by when no call had failed, and `stopped` as it stopped, by when
-- one had.
--
-- No answer that writes no file is such: there is no file to stop at, as `StopsWrites [] n` holds of no n. So a command
-- whose answers write none ends in one of the other two ways.
pub record IsUnwritten (Due : Shown → Answer → Type 0) (old new : Shown) : Type 0 where
  pub before : Shown
  pub answer : Answer
  pub due : Due before answer
  pub silent : before.said ≡ old.said
  pub output : before.output ≡ old.output
  pub quiet : before.faults ≡ old.faults
  pub n : ℕ
  pub call : DeskCall
  pub stopped : Shown
  pub stops : StopsWrites (files_of answer.writes) n call before stopped
  pub fails : WriteFails call (writing_at answer.writes n).file.name before stopped
  pub says : SaysUnwritten (writing_at answer.writes n).word stopped new
  pub output_is : new.output ≡ stopped.output

-- how a run ends
pub data Ends (Due : Shown → Answer → Type 0) (old new : Shown) : ℕ → Type 0 where
  done : (status : ℕ) → IsDone Due old new status → Ends Due old new status
  unsaid : IsUnsaid Due old new → Ends Due old new 8
  unwritten : IsUnwritten Due old new → Ends Due old new 8

-- ---- what a run of any command promises

-- what stands behind a status: what the command says of it, and behind 8 and 11 the same for all commands
pub data Behind (OfCommand : ℕ → Type 0) (Due : Shown → Answer → Type 0) (old new : Shown) : ℕ → Type 0 where
  of_command : (status : ℕ) → OfCommand status → Behind OfCommand Due old new status
  unsaid : IsUnsaid Due old new → Behind OfCommand Due old new 8
  unwritten : IsUnwritten Due old new → Behind OfCommand Due old new 8
  no_memory : Says memory_line old new → Behind OfCommand Due old new 11

-- the status is one of these
abbrev pub IsOneOf : List ℕ → ℕ → Type 0
IsOneOf [] status = ⊥
IsOneOf (x ∷ xs) status = (status ≡ x) ⊎ IsOneOf xs status

-- the status is the one that is expected; 7, 8 and 11 may always come
abbrev pub IsAllowed : (expected status : ℕ) → Type 0
IsAllowed expected status = IsOneOf (expected ∷ 7 ∷ 8 ∷ 11 ∷ []) status

-- the status is that of an answer, or of want of memory, its files were written, and its text was said
pub record IsAnswered (Answers : Answer → Type 0) (old new : Shown) (status : ℕ) : Type 0 where
  pub answer : Answer
  pub answers : OrMemory Answers answer
  pub status_is : status ≡ answer.status
  pub writes : new.output ≡ (after_writes (files_of answer.writes) old).output
  pub says : Says answer.text old new

-- no call failed: the count is what it was, and not its last value, at which it would stay
pub record NoFault (old new : Shown) : Type 0 where
  pub same : new.faults.count ≡ old.faults.count
  pub below : old.faults.count < 2 ^ 64 - 1
