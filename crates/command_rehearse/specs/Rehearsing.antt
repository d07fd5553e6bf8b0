-- The command `rehearse`: the summary of an instance that is drawn from a number, and what a run promises.
--
-- `old` and `new` are what the desk shows before and after a run.
use Rattle.std.specs.Prelude.{◌≡◌, ℕ, List, [], ◌∷◌, ◌++◌, codes}
use Rattle.std.specs.Fmt.{signed_decimal}
use Rattle.plan_desk.specs.Desk.{Shown}
use Rattle.plan_desk.specs.Contents.{Says}
use Rattle.instance_model.specs.Tables.{Tables}
use Rattle.instance_model.specs.declared.key.Key.{Key}
use Rattle.command_frame.specs.Lines.{numbered_line}
use Rattle.command_frame.specs.Reports.{bound_or_none_line, rounded_line}
use Rattle.command_frame.specs.Ending.{Answer, reply, OrMemory, IsQuiet, Ends, Behind, IsOneOf, IsAnswered, NoFault}
use Rattle.instance_gen.specs.Drawn.{drawn_tables}
use Rattle.command_rehearse.specs.declared.summary.Summary.{Summary}
use Rattle.command_rehearse.specs.Rehearsed.{IsRehearsed}

-- ---- the summary

-- a word and a key: the violation, then the score
abbrev pub key_line : List ℕ → Key → List ℕ
key_line word key =
    word ++ codes " " ++ signed_decimal key.violation ++ codes " " ++ signed_decimal key.score ++ codes "\n"

-- the lines of the instance and its opening plan
abbrev pub opening_lines : Summary → List ℕ
opening_lines summary =
    numbered_line (codes "interventions ") summary.interventions ++ key_line (codes "opening") summary.opening

-- those of the descent, and of the way back
abbrev pub descent_lines : Summary → List ℕ
descent_lines summary =
    key_line (codes "descent") summary.descent
    ++ numbered_line (codes "moves ") summary.moves
    ++ key_line (codes "undone") summary.undone

-- those of the certificate, and how many numbers of the text were changed by rounding
abbrev pub bound_lines : Summary → List ℕ
bound_lines summary =
    bound_or_none_line summary.bound
    ++ numbered_line (codes "splits ") summary.splits
    ++ rounded_line summary.rounded

-- the summary
abbrev pub summary_text : Summary → List ℕ
summary_text summary = opening_lines summary ++ descent_lines summary ++ bound_lines summary

-- ---- the answer

-- to an instance: 0 with the summary of a rehearsal
pub data Rehearses (inst : Tables) : Answer → Type 0 where
  rehearsed : (summary : Summary) → IsRehearsed inst summary
      → Rehearses inst (reply 0 (summary_text summary))

-- what is due, whatever the desk shows: the instance is the one that is drawn from the number
abbrev pub DueRehearse : (seed count : ℕ) → Shown → Answer → Type 0
DueRehearse seed count at = OrMemory (Rehearses (drawn_tables seed count))

-- ---- what stands behind each status

-- 0: the drawn instance was rehearsed, and the summary was said
pub record ReportsRehearsal (inst : Tables) (old new : Shown) : Type 0 where
  pub summary : Summary
  pub rehearsed : IsRehearsed inst summary
  pub says : Says (summary_text summary) old new

pub data BehindRehearse (inst : Tables) (old new : Shown) : ℕ → Type 0 where
  rehearsed : ReportsRehearsal inst old new → BehindRehearse inst old new 0

-- ---- what a run promises

-- of the instance of `count` interventions that is drawn from `seed`
pub record RunsRehearse (seed count : ℕ) (old new : Shown) (status : ℕ) : Type 0 where
  -- the summary was said, or its saying failed
  pub ends : Ends (DueRehearse seed count) old new status
  -- what stands behind the status, which also is one of these
  pub behind : Behind (BehindRehearse (drawn_tables seed count) old new) (DueRehearse seed count) old new status
  -- which status comes: 0, but where saying fails and where memory runs out
  pub allowed : IsOneOf (0 ∷ 8 ∷ 11 ∷ []) status
  -- without a fault, the answer is such a summary, or want of memory
  pub exact : NoFault old new → IsAnswered (Rehearses (drawn_tables seed count)) old new status
  -- no file is changed
  pub output : new.output ≡ old.output
  -- no call failed, but at 8
  pub quiet : IsQuiet status old new
