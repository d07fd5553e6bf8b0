-- What a run of `evaluate` promises follows from its end.
use Rattle.std.proofs.Common.{ℕ, ◌-◌, ◌^◌, inl, inr, List, Option, refl, sym, pos, subst}
use Rattle.plan_desk.specs.Desk.{Shown}
use Rattle.plan_desk.specs.Contents.{Says, KeepsFiles}
use Rattle.instance_model.specs.declared.limits.Limits.{Limits}
use Rattle.instance_model.specs.Tables.{Tables}
use Rattle.instance_model.specs.Rules.{KeepsRules}
use Rattle.instance_shape.proofs.OwnReading.{own_numbers}
use Rattle.command_frame.specs.Sources.{Source}
use Rattle.command_frame.specs.Ending.{Answer, Ends}
use Rattle.command_frame.specs.Bytes.{TakesOne, RefusesInstance, Spells, RefusesPlan}
use Rattle.command_frame.specs.Files.{Meeting, reading, by_bytes, OnPlan, ReadsInstance, ReadsPlan}
use Rattle.command_frame.specs.Files.OnFile.{unread, refused, stands}
use Rattle.command_evaluate.specs.Evaluating.{DueEvaluate, BehindEvaluate, ExpectsEvaluate}
use Rattle.command_answers.specs.Evaluate.{Judges, AnswersEvaluate}
use Rattle.command_evaluate.specs.Evaluating.{RunsEvaluate}
use Rattle.command_answers.specs.Evaluate.Judges.{feasible, infeasible}
use Rattle.command_evaluate.specs.Evaluating.BehindEvaluate.{feasible as behind_feasible}
use Rattle.command_evaluate.specs.Evaluating.BehindEvaluate.{infeasible as behind_infeasible}
use Rattle.command_evaluate.specs.Evaluating.BehindEvaluate.{refused_instance as behind_refused_instance}
use Rattle.command_evaluate.specs.Evaluating.BehindEvaluate.{refused_plan as behind_refused_plan}
use Rattle.command_evaluate.specs.Evaluating.BehindEvaluate.{unread_instance as behind_unread_instance}
use Rattle.command_evaluate.specs.Evaluating.BehindEvaluate.{unread_plan as behind_unread_plan}
use Rattle.command_evaluate.specs.Evaluating.ExpectsEvaluate.{no_instance, refused_instance, no_plan, refused_plan}
use Rattle.command_evaluate.specs.Evaluating.ExpectsEvaluate.{kept_plan, broken_plan}
use Rattle.command_frame.proofs.FileLemmas.{Carries, on_other, later_reading, exact_reading, OrUnread, missing_file}
use Rattle.command_frame.proofs.FileLemmas.{then_next, then_more, say_refusal}
use Rattle.command_frame.proofs.AnswerLemmas.{instance_status, plan_status}
use Rattle.command_evaluate.proofs.EvaluateAnswers.{evaluated_once}
use Rattle.command_frame.proofs.EndLemmas.{Stays, ends_quiet, ends_behind, ends_allowed, ends_exact}
use Rattle.command_frame.proofs.TakenLemmas.{on_taken, bad_instance, on_spelled, bad_plan}

evaluate_other : (limits : Limits) (slack : ℕ) (met other : Meeting) (i p j q : List ℕ) (a : Answer)
    → Carries met i other j → Carries met p other q
    → AnswersEvaluate limits met slack i p a → AnswersEvaluate limits other slack j q a
evaluate_other limits slack met other i p j q a ci cp =
    on_other met other 2 i j (RefusesInstance limits) (TakesOne limits slack)
    (λ inst. OnPlan limits inst met 3 p (Judges inst)) (λ inst. OnPlan limits inst other 3 q (Judges inst)) a ci
    (λ inst b. on_other met other 3 p q (RefusesPlan limits inst) (Spells limits inst) (Judges inst) (Judges inst) b cp
    (λ x c judges. judges))

pub evaluate_stays : (limits : Limits) (source : Source) (name : List ℕ) (old mid new : Shown)
    → Stays (λ at. AnswersEvaluate limits (reading old at) source.slack source.instance name) mid new
evaluate_stays limits source name old mid new goes a =
    evaluate_other limits source.slack (reading old mid) (reading old new) source.instance name source.instance name a
    (later_reading source.instance old mid new goes)
    (later_reading name old mid new goes)

-- ---- what stands behind the status

judged_behind : (limits : Limits) (source : Source) (name : List ℕ) (old new : Shown) (inst : Tables)
    (plan : List (Option ℕ)) (a : Answer)
    → ReadsInstance limits source old inst → ReadsPlan limits name inst old plan
    → Judges inst plan a → Says a.text old new → BehindEvaluate limits source name old new a.status
judged_behind limits source name old new inst plan a reads reads_plan (feasible keeps encloses) says =
    behind_feasible
    (record {
      inst = inst;
      reads = reads;
      plan = plan;
      reads_plan = reads_plan;
      keeps = keeps;
      encloses = encloses;
      encloses_own = λ root places numbers tree enough own.
          encloses (10 ^ (places - 12)) numbers
          (own_numbers limits (pos source.slack) reads.bytes inst root places numbers reads.such.takes.defines tree
          enough own);
      says = says;
    })
judged_behind limits source name old new inst plan a reads reads_plan (infeasible rule not_kept first) says =
    behind_infeasible
    (record {
      inst = inst;
      reads = reads;
      plan = plan;
      reads_plan = reads_plan;
      not_kept = not_kept;
      rule = rule;
      first = first;
      says = says;
    })

evaluate_behind : (limits : Limits) (source : Source) (name : List ℕ) (old new : Shown) (a : Answer)
    → AnswersEvaluate limits (reading old new) source.slack source.instance name a
    → Says a.text old new → BehindEvaluate limits source name old new a.status
evaluate_behind limits source name old new a (unread fails) says =
    behind_unread_instance (record { fails = fails; says = says })
evaluate_behind limits source name old new a (refused bytes b held is) says =
    subst (λ (n : ℕ). BehindEvaluate limits source name old new n) (sym (instance_status limits bytes b is))
    (behind_refused_instance (say_refusal source.instance (RefusesInstance limits) old new bytes b held is says))
evaluate_behind limits source name old new a (stands bytes inst b held takes (unread fails)) says =
    behind_unread_plan inst (record { bytes = bytes; held = held; such = takes })
    (record { fails = fails; says = says })
evaluate_behind limits source name old new a (stands bytes inst b held takes (refused xs c also is)) says =
    subst (λ (n : ℕ). BehindEvaluate limits source name old new n) (sym (plan_status limits inst xs c is))
    (behind_refused_plan inst (record { bytes = bytes; held = held; such = takes })
    (say_refusal name (RefusesPlan limits inst) old new xs c also is says))
evaluate_behind limits source name old new a
    (stands bytes inst b held takes (stands xs plan c also spells judges)) says =
    judged_behind limits source name old new inst plan c (record { bytes = bytes; held = held; such = takes })
    (record { bytes = xs; held = also; such = spells }) judges says

-- ---- which status comes

kept_verdict : (inst : Tables) (plan : List (Option ℕ)) (a : Answer) → KeepsRules inst plan → Judges inst plan a
    → OrUnread 0 a
kept_verdict inst plan a keeps (feasible k encloses) = inr refl
kept_verdict inst plan a keeps (infeasible rule not_kept first) = absurd (not_kept keeps)

broken_verdict : (inst : Tables) (plan : List (Option ℕ)) (a : Answer) → (KeepsRules inst plan → ⊥) → Judges inst plan a
    → OrUnread 1 a
broken_verdict inst plan a breaks (feasible k encloses) = absurd (breaks k)
broken_verdict inst plan a breaks (infeasible rule not_kept first) = inr refl

evaluate_expects : (limits : Limits) (source : Source) (name : List ℕ) (old new : Shown) (expected : ℕ)
    → ExpectsEvaluate limits source name old expected → (a : Answer)
    → AnswersEvaluate limits (reading old new) source.slack source.instance name a → OrUnread expected a
evaluate_expects limits source name old new expected (no_instance missing) a due =
    inl (missing_file 2 source.instance old new (RefusesInstance limits) (TakesOne limits source.slack)
    (λ i. OnPlan limits i (reading old new) 3 name (Judges i)) a missing due)
evaluate_expects limits source name old new expected (refused_instance tells) a due =
    bad_instance limits source old new (λ i. OnPlan limits i (reading old new) 3 name (Judges i)) a tells due
evaluate_expects limits source name old new expected (no_plan inst tells missing) a due =
    then_next (OnPlan limits inst (reading old new) 3 name (Judges inst) a) 7 a
    (λ d. inl (missing_file 3 name old new (RefusesPlan limits inst) (Spells limits inst) (Judges inst) a missing d))
    (on_taken limits source old new (λ i. OnPlan limits i (reading old new) 3 name (Judges i)) inst a tells due)
evaluate_expects limits source name old new expected (refused_plan inst tells bad) a due =
    then_next (OnPlan limits inst (reading old new) 3 name (Judges inst) a) 4 a
    (bad_plan limits inst name old new (Judges inst) a bad)
    (on_taken limits source old new (λ i. OnPlan limits i (reading old new) 3 name (Judges i)) inst a tells due)
evaluate_expects limits source name old new expected (kept_plan inst plan tells spells keeps) a due =
    then_next (Judges inst plan a) 0 a (kept_verdict inst plan a keeps)
    (then_more (OnPlan limits inst (reading old new) 3 name (Judges inst) a) (Judges inst plan a) a
    (on_spelled limits inst name old new (Judges inst) plan a spells)
    (on_taken limits source old new (λ i. OnPlan limits i (reading old new) 3 name (Judges i)) inst a tells due))
evaluate_expects limits source name old new expected (broken_plan inst plan tells spells breaks) a due =
    then_next (Judges inst plan a) 1 a (broken_verdict inst plan a breaks)
    (then_more (OnPlan limits inst (reading old new) 3 name (Judges inst) a) (Judges inst plan a) a
    (on_spelled limits inst name old new (Judges inst) plan a spells)
    (on_taken limits source old new (λ i. OnPlan limits i (reading old new) 3 name (Judges i)) inst a tells due))

-- ---- a run

pub evaluate_runs : (limits : Limits) (source : Source) (name : List ℕ) (old new : Shown) (status : ℕ)
    → Ends (DueEvaluate limits source name old) old new status → KeepsFiles old new
    → RunsEvaluate limits source name old new status
evaluate_runs limits source name old new status ends keeps =
    record {
      ends = ends;
      behind = ends_behind (λ at. AnswersEvaluate limits (reading old at) source.slack source.instance name)
          (BehindEvaluate limits source name old new) old new status
          (evaluate_behind limits source name old new) ends;
      allowed = λ expected expects.
          ends_allowed (λ at. AnswersEvaluate limits (reading old at) source.slack source.instance name) old new status
          expected (evaluate_expects limits source name old new expected expects) ends;
      exact = λ instance plan tells tells_plan calm.
          ends_exact (λ at. AnswersEvaluate limits (reading old at) source.slack source.instance name)
          (AnswersEvaluate limits by_bytes source.slack instance plan) old new status
          (λ a. evaluate_other limits source.slack (reading old new) by_bytes source.instance name instance plan a
          (exact_reading source.instance instance old new tells calm)
          (exact_reading name plan old new tells_plan calm)) calm ends;
      one = evaluated_once limits;
      output = keeps;
      quiet = ends_quiet (DueEvaluate limits source name old) old new status ends;
    }
