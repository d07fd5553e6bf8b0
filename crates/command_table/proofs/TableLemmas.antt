-- What was read for a table, and what is then due.
use Rattle.std.proofs.Common.{◌≡◌, ℕ, ◌+◌, ◌-◌, ◌≤◌, inl, inr, List, [], ◌∷◌, ◌++◌, length, map, Option, sym, ◌∙◌, ap}
use Rattle.std.proofs.Common.{subst, arith}
use Rattle.std.specs.List.{range_with_len, All}
use Rattle.std.proofs.lemmas.List.Elements.{All-push}
use Rattle.std.proofs.lemmas.List.FromFn.{map-range_with_len_more}
use Rattle.plan_desk.specs.Desk.{Shown}
use Rattle.instance_model.specs.declared.limits.Limits.{Limits}
use Rattle.instance_model.specs.Tables.{Tables}
use Rattle.plan_table.specs.declared.report.PeriodReport.{PeriodReport}
use Rattle.plan_table.specs.Reports.{report_of}
use Rattle.plan_table.specs.Texts.{NamesWithin}
use Rattle.command_frame.specs.Sources.{Source}
use Rattle.command_frame.specs.Reports.{infeasible_report}
use Rattle.command_frame.specs.Bytes.{Spells}
use Rattle.command_frame.specs.Files.{reading, ReadsInstance, ReadsPlan}
use Rattle.command_frame.specs.Files.OnFile.{stands}
use Rattle.command_frame.specs.declared.opening.Opening.{Opening}
use Rattle.command_frame.specs.declared.opening.Opening.TheVariants.{Broken}
use Rattle.command_frame.specs.Openings.{OpensAs}
use Rattle.command_frame.specs.Refusals.{SaysOrFails, SaysAnswer}
use Rattle.command_frame.proofs.FileLemmas.{IsRead, reads_before}
use Rattle.command_frame.proofs.OpeningLemmas.{broken_opening}
use Rattle.command_table.specs.Tabling.{Tabulates, AnswersTable}
use Rattle.command_table.specs.Tabling.Tabulates.{broken_start}
use Rattle.command_table.specs.Read.{AreRead}

pub table_reads : (limits : Limits) (source : Source) (name : List ℕ) (old mid : Shown) (inst : Tables) (plan : List
    (Option ℕ))
    → ReadsInstance limits source old inst → IsRead old mid → ReadsPlan limits name inst mid plan
    → length plan ≡ length inst.names → AreRead limits source name old inst plan
table_reads limits source name old mid inst plan reads read reads_plan each =
    record {
      reads = reads;
      reads_plan = reads_before name old mid (λ bytes. Spells limits inst bytes plan) read reads_plan;
      each = each;
    }

pub table_answer : (limits : Limits) (source : Source) (name : List ℕ) (from to : ℕ) (old mid new : Shown) (inst :
    Tables)
    (plan : List (Option ℕ)) (status : ℕ) → AreRead limits source name old inst plan
    → SaysAnswer (Tabulates inst plan from to) mid new status
    → SaysAnswer (AnswersTable limits (reading old mid) source.slack source.instance name from to) mid new
    status
table_answer limits source name from to old mid new inst plan status read (inl (due, text, is, says)) = inl (
  due,
  text,
  stands read.reads.bytes inst _ read.reads.held read.reads.such
      (stands read.reads_plan.bytes plan _ read.reads_plan.held read.reads_plan.such is),
  says,
)
table_answer limits source name from to old mid new inst plan status read (inr says) = inr says

-- the report on a plan that breaks a rule on starts
pub broken_answer : (inst : Tables) (plan : List (Option ℕ)) (from to : ℕ) (old new : Shown) (opening : Opening)
    (report text : List ℕ) (status : ℕ)
    → OpensAs inst plan opening → opening ≡ Broken report → text ≡ report → SaysOrFails 1 text old new status
    → SaysAnswer (Tabulates inst plan from to) old new status
broken_answer inst plan from to old new opening report text status opens is same says =
    let first = broken_opening inst plan opening report text opens is same in
    inl (
      1,
      infeasible_report inst first.rule,
      broken_start first.rule first.first,
      subst (λ (t : List ℕ). SaysOrFails 1 t old new status) first.is says,
    )

-- the reports of one period more
pub one_report_more : (inst : Tables) (starts : List ℕ) (from t : ℕ) (reports more : List PeriodReport)
    (report : PeriodReport) → from ≤ t → reports ≡ map (report_of inst starts) (range_with_len from (t - from))
    → report ≡ report_of inst starts t → more ≡ reports ++ report ∷ []
    → more ≡ map (report_of inst starts) (range_with_len from (t + 1 - from))
one_report_more inst starts from t reports more report begun so_far is grown =
    let here : from + (t - from) ≡ t = omega (arith, begun) in
    let count : t - from + 1 ≡ t + 1 - from = omega (arith, begun) in
    grown ∙ ap (λ (rs : List PeriodReport). rs ++ report ∷ []) so_far
    ∙ ap (λ (r : PeriodReport). map (report_of inst starts) (range_with_len from (t - from)) ++ r ∷ []) is
    ∙ sym (map-range_with_len_more (report_of inst starts) from (t - from) t here)
    ∙ ap (λ (n : ℕ). map (report_of inst starts) (range_with_len from n)) count

pub names_more : (inst : Tables) (reports more : List PeriodReport) (report : PeriodReport)
    → All (NamesWithin inst) reports → NamesWithin inst report → more ≡ reports ++ report ∷ []
    → All (NamesWithin inst) more
names_more inst reports more report all named grown =
    subst (λ (rs : List PeriodReport). All (NamesWithin inst) rs) (sym grown)
    (All-push (NamesWithin inst) reports report all named)
