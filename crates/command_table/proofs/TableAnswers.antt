-- The bytes of the files of `table` have one answer.
use Rattle.std.proofs.Common.{ℕ, List, Option, ap}
use Rattle.instance_model.specs.declared.limits.Limits.{Limits}
use Rattle.instance_model.specs.Tables.{Tables}
use Rattle.instance_model.specs.Rules.{first_start_rule}
use Rattle.command_frame.specs.Reports.{infeasible_report}
use Rattle.command_frame.specs.Ending.{reply, IsOneAnswer}
use Rattle.command_frame.specs.Files.{by_bytes, OnPlan}
use Rattle.command_table.specs.Tabling.{reports_of, table_text, Tabulates, AnswersTable}
use Rattle.command_table.specs.Tabling.Tabulates.{broken_start, reported}
use Rattle.command_frame.proofs.AnswerLemmas.{one_rule, instance_once, plan_once}
use Rattle.command_frame.proofs.OpeningLemmas.{same_opening, no_broken_start}

tabulated_once : (inst : Tables) (plan : List (Option ℕ)) (from to : ℕ) → IsOneAnswer (Tabulates inst plan from to)
tabulated_once inst plan from to a b (broken_start r first) (broken_start q again) =
    ap (λ x. reply 1 (infeasible_report inst x)) (one_rule (first_start_rule inst plan) r q first again)
tabulated_once inst plan from to a b (broken_start r first) (reported s opens) =
    absurd (no_broken_start inst plan s r opens first)
tabulated_once inst plan from to a b (reported s opens) (broken_start q again) =
    absurd (no_broken_start inst plan s q opens again)
tabulated_once inst plan from to a b (reported s opens) (reported u also) =
    ap (λ (x : List ℕ). reply 0 (table_text inst (reports_of inst x from to))) (same_opening inst plan s u opens also)

pub table_once : (limits : Limits) (from to slack : ℕ) (instance plan : List ℕ)
    → IsOneAnswer (AnswersTable limits by_bytes slack instance plan from to)
table_once limits from to slack instance plan =
    instance_once limits slack 2 instance (λ inst. OnPlan limits inst by_bytes 3 plan (λ p. Tabulates inst p from to))
    (λ inst. plan_once limits inst 3 plan (λ p. Tabulates inst p from to) (λ p. tabulated_once inst p from to))
