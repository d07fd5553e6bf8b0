-- What the steps of a solution come to. Cited by private functions only: no part of any promise.
use Rattle.std.specs.Prelude.{◌≡◌, ℕ, ◌<◌, ℤ, ◌-ℤ◌, List, [], ◌∷◌, ◌++◌, length, map, All, Option, Some, None, false}
use Rattle.std.specs.Prelude.{IfSome, codes}
use Rattle.plan_desk.specs.Desk.{Shown}
use Rattle.plan_desk.specs.Contents.{KeepsFiles}
use Rattle.instance_model.specs.Limits.{standard_limits}
use Rattle.instance_model.specs.Tables.{Tables}
use Rattle.plan_score.specs.declared.values.Values.{Values}
use Rattle.plan_moves.specs.declared.change.Change.{Change}
use Rattle.plan_moves.specs.Scripts.{NamesKnown, line_of}
use Rattle.move_script.specs.Spelling.{HasSmallStart}
use Rattle.certificate_lines.specs.declared.line.Bound.{Bound}
use Rattle.certificate_lines.specs.declared.line.Bound.TheVariants.{NoPlan, Least}
use Rattle.certificate_tree.specs.declared.certificate.Certificate.{Certificate}
use Rattle.certificate_tree.specs.Ranges.{IsInRange}
use Rattle.certificate_text.specs.Text.{certificate_text}
use Rattle.branch_search.specs.declared.tree_end.TreeEnd.{TreeEnd}
use Rattle.branch_search.specs.Best.{IsFeasiblePlan}
use Rattle.command_frame.specs.declared.report.Report.{Report}
use Rattle.command_frame.specs.Reports.{score_line, bound_line, gap_line, ranges_text}
use Rattle.command_frame.specs.Lines.{memory_line}
use Rattle.command_frame.specs.Ending.{Writing, Answer}
use Rattle.command_frame.specs.Refusals.{IsReport, SaysOrFails}
use Rattle.command_frame.specs.Writing.{IsWritablePlan, TellsAnswer}
use Rattle.command_answers.specs.Evaluate.{EnclosesEveryReading}
use Rattle.command_answers.specs.Accepting.{IsValidWithin}
use Rattle.command_solve.specs.declared.solution.Solution.{Solution}
use Rattle.command_solve.specs.declared.solve.SolveFiles.{SolveFiles as SolveNames}
use Rattle.branch_search.specs.Turns.{AreEnough}
use Rattle.command_solve.specs.Solved.{IsSolved}
use Rattle.command_solve.specs.Solving.{SolveFiles, counts_text, found_report, nothing_report, none_report}
use Rattle.command_solve.specs.Solving.{cert_write, trail_write, plan_write, Solves}

-- ---- the descent and the search

-- changes that can be written as a script
pub record AreWritable (inst : Tables) (changes : List Change) : Type 0 where
  pub known : All (λ change. NamesKnown inst (line_of change)) changes
  pub small : All HasSmallStart changes

-- what a descent, a price list and a search made
pub record IsMade (inst : Tables) (turns : ℕ) (changes : List Change) (answer : TreeEnd) : Type 0 where
  pub solved : IsSolved inst turns changes answer
  pub enough : AreEnough inst turns → answer.unfinished ≡ false
  pub cert : IsValidWithin standard_limits inst answer.cert
  pub short : length (certificate_text inst answer.cert) < standard_limits.certificate_bytes
  pub changes_are : AreWritable inst changes

-- ---- the report

-- that of a plan with these values
abbrev pub values_report : Tables → Values → ℤ → Certificate → List Change → List ℕ
values_report inst v bound cert changes =
    codes "plan found\n"
    ++ score_line v.score
    ++ bound_line bound
    ++ gap_line (v.score -ℤ bound)
    ++ ranges_text v
    ++ counts_text inst cert changes

-- the best plan and the bound can stand together, and the plan is feasible
abbrev pub CanReport : Tables → Option (List ℕ) → Bound → Type 0
CanReport inst (Some plan) (Least b) = IsFeasiblePlan inst plan
CanReport inst (Some plan) NoPlan = ⊥
CanReport inst None bound = Unit {0}

-- a plan was found and reported, and its values enclose the exact ones
pub record ReportsPlan (inst : Tables) (plan : List ℕ) (b : ℤ) (cert : Certificate) (changes : List Change)
    (report : Report) : Type 0 where
  pub status_is : report.status ≡ 0
  pub text_is : report.text ≡ found_report inst plan b cert changes
  pub encloses : EnclosesEveryReading inst (map Some plan)

-- the report on a best plan, if there is one, and a bound
abbrev pub IsReportOf : Tables → Option (List ℕ) → Bound → Certificate → List Change → Report → Type 0
IsReportOf inst (Some plan) (Least b) cert changes report = ReportsPlan inst plan b cert changes report
IsReportOf inst (Some plan) NoPlan cert changes report = ⊥
IsReportOf inst None (Least b) cert changes report = IsReport 9 (nothing_report inst b cert changes) report
IsReportOf inst None NoPlan cert changes report = IsReport 10 (none_report inst cert changes) report

-- ---- the solution

-- the file of the plan, if there is one
abbrev pub plan_writes : Tables → SolveFiles → Option (List ℕ) → List Writing
plan_writes inst files None = []
plan_writes inst files (Some plan) = plan_write inst files plan ∷ []

abbrev pub solution_writes : Tables → SolveFiles → Solution → List Writing
solution_writes inst files s =
    cert_write inst files s.certificate ∷ trail_write inst files s.moves ∷ plan_writes inst files s.plan

-- a solution as an answer that writes files of these names
abbrev pub answer_of : Tables → SolveFiles → Solution → Answer
answer_of inst files s =
    record { status = s.report.status; text = s.report.text; writes = solution_writes inst files s }

-- the files of a solution can be written
pub record IsWritable (inst : Tables) (s : Solution) : Type 0 where
  pub in_range : IsInRange inst s.certificate
  pub changes : AreWritable inst s.moves
  pub plan : IfSome s.plan (IsWritablePlan inst)

-- a solution is an answer, whatever the files are, and they can be written
pub record IsSolution (inst : Tables) (turns : ℕ) (s : Solution) : Type 0 where
  pub solves : (files : SolveFiles) → Solves standard_limits inst files turns (answer_of inst files s)
  pub writable : IsWritable inst s

-- ---- the files

-- the names of the files as the code has them
abbrev pub files_view : SolveNames → SolveFiles
files_view names = record { plan = names.plan.now; cert = names.certificate.now; trail = names.trail.now }

-- an answer to an instance was told, or memory ran out before a file was opened
pub data TellsSolution (inst : Tables) (files : SolveFiles) (turns : ℕ) (old new : Shown) (status : ℕ) : Type 0 where
  told : (a : Answer) → Solves standard_limits inst files turns a → TellsAnswer a old new status
      → TellsSolution inst files turns old new status
  no_memory : KeepsFiles old new → SaysOrFails 11 memory_line old new status
      → TellsSolution inst files turns old new status
