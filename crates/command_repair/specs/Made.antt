-- What the steps of a solution come to. Cited by private functions only: no part of any promise.
use Rattle.std.specs.Prelude.{◌≡◌, ◌⊎◌, ℕ, ℤ, List, [], ◌∷◌, ◌++◌, Option, Some, None, IfSome, codes}
use Rattle.plan_desk.specs.Desk.{Shown, ShowsSame, after_take_in}
use Rattle.plan_desk.specs.Contents.{KeepsFiles}
use Rattle.instance_model.specs.Limits.{standard_limits}
use Rattle.instance_model.specs.declared.limits.Limits.{Limits}
use Rattle.instance_model.specs.Tables.{Tables}
use Rattle.certificate_lines.specs.declared.line.Bound.{Bound}
use Rattle.certificate_lines.specs.declared.line.Bound.TheVariants.{NoPlan, Least}
use Rattle.certificate_tree.specs.declared.certificate.Certificate.{Certificate}
use Rattle.certificate_tree.specs.Ranges.{IsInRange}
use Rattle.command_frame.specs.declared.report.Report.{Report}
use Rattle.command_frame.specs.declared.refusal.Refusal.{Refusal}
use Rattle.command_frame.specs.Sources.{Source}
use Rattle.command_frame.specs.Lines.{memory_line, numbered_line}
use Rattle.command_frame.specs.Ending.{Writing, Answer}
use Rattle.command_frame.specs.Files.{ReadsInstance, ReadsPlan}
use Rattle.command_frame.specs.Refusals.{IsReport, SaysOrFails, IsInstanceCause, IsPlanCause}
use Rattle.command_frame.specs.Writing.{IsWritablePlan, TellsAnswer}
use Rattle.command_answers.specs.Audit.{least_line}
use Rattle.command_repair.specs.declared.solution.Solution.{Solution}
use Rattle.command_repair.specs.declared.repair.RepairFiles.{RepairFiles as RepairNames}
use Rattle.command_repair.specs.Repairing.{RepairFiles, counts_text, repaired_report, nothing_report, none_report}
use Rattle.command_repair.specs.Repairing.{cert_write, out_write, Repairs}

-- ---- the report

-- that of a plan with so many changes
abbrev pub repaired_text : Tables → ℕ → ℤ → Certificate → List ℕ
repaired_text inst changed bound cert =
    codes "plan repaired\n"
    ++ (numbered_line (codes "changed ") changed ++ (least_line (Least bound) ++ counts_text inst cert))

-- a plan and the bound can stand together
abbrev pub CanReport : Option (List ℕ) → Bound → Type 0
CanReport (Some plan) NoPlan = ⊥
CanReport plan bound = Unit {0}

-- the report on a plan, if there is one, and a bound
abbrev pub IsReportOf : Tables → (old : List (Option ℕ)) → Option (List ℕ) → Bound → Certificate → Report → Type 0
IsReportOf inst old (Some plan) (Least b) cert report = IsReport 0 (repaired_report inst old plan b cert) report
IsReportOf inst old (Some plan) NoPlan cert report = ⊥
IsReportOf inst old None (Least b) cert report = IsReport 9 (nothing_report inst b cert) report
IsReportOf inst old None NoPlan cert report = IsReport 10 (none_report inst cert) report

-- ---- the solution

-- the file of the plan, if there is one
abbrev pub out_writes : Tables → RepairFiles → Option (List ℕ) → List Writing
out_writes inst files None = []
out_writes inst files (Some plan) = out_write inst files plan ∷ []

abbrev pub solution_writes : Tables → RepairFiles → Solution → List Writing
solution_writes inst files s = cert_write inst files s.certificate ∷ out_writes inst files s.plan

-- a solution as an answer that writes files of these names
abbrev pub answer_of : Tables → RepairFiles → Solution → Answer
answer_of inst files s =
    record { status = s.report.status; text = s.report.text; writes = solution_writes inst files s }

-- the files of a solution can be written
pub record IsWritable (inst : Tables) (s : Solution) : Type 0 where
  pub in_range : IsInRange inst s.certificate
  pub plan : IfSome s.plan (IsWritablePlan inst)

-- a solution is an answer, whatever the files are, and they can be written
pub record IsSolution (inst : Tables) (old : List (Option ℕ)) (turns : ℕ) (s : Solution) : Type 0 where
  pub repairs : (files : RepairFiles) → Repairs standard_limits inst old files turns (answer_of inst files s)
  pub writable : IsWritable inst s

-- ---- the files

-- the names of the files as the code has them
abbrev pub files_view : RepairNames → RepairFiles
files_view names = record { cert = names.certificate.now; out = names.out.now }

-- the two files of `repair` were read
pub record AreRead (limits : Limits) (source : Source) (name : List ℕ) (old : Shown) (inst : Tables)
    (plan : List (Option ℕ)) : Type 0 where
  pub reads : ReadsInstance limits source old inst
  pub reads_plan : ReadsPlan limits name inst old plan

-- the plan file was refused, after the instance was read
pub record IsPlanRefused (limits : Limits) (source : Source) (name : List ℕ) (old new : Shown) (refusal : Refusal)
    : Type 0 where
  pub inst : Tables
  pub reads : ReadsInstance limits source old inst
  pub at : Shown
  pub read : ShowsSame at (after_take_in source.instance [] old)
  pub same : at.faults ≡ old.faults
  pub cause : IsPlanCause limits 3 name inst at new refusal

-- why they were not
abbrev pub IsReadCause : Limits → Source → List ℕ → (old new : Shown) → Refusal → Type 0
IsReadCause limits source name old new refusal =
    IsInstanceCause limits 2 source.instance old new refusal ⊎ IsPlanRefused limits source name old new refusal

-- an answer to an instance and a plan was told, or memory ran out before a file was opened
pub data TellsSolution (inst : Tables) (plan : List (Option ℕ)) (files : RepairFiles) (turns : ℕ) (old new : Shown)
    (status : ℕ) : Type 0 where
  told : (a : Answer) → Repairs standard_limits inst plan files turns a → TellsAnswer a old new status
      → TellsSolution inst plan files turns old new status
  no_memory : KeepsFiles old new → SaysOrFails 11 memory_line old new status
      → TellsSolution inst plan files turns old new status
