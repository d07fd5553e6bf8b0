-- The answer of the whole call.
use Rattle.std.proofs.Common.{◌≡◌, inl, ℕ, List, Option, Result, Ok, Err, ◌∙◌, ap}
use Rattle.plan_text.specs.declared.fault.PlanFault.{PlanFault}
use Rattle.plan_text.specs.Spelling.{IsPlan}
use Rattle.plan_text.specs.FirstFault.{HasPlanFault, Answers}
use Rattle.plan_text.proofs.LawLemmas.{one_plan, one_fault, not_both}

-- a plan that was read is the only answer
pub read_complete : (names : List (List ℕ)) (text : List ℕ) (result : Result (List (Option ℕ)) PlanFault)
    (read : List (Option ℕ)) → result ≡ Ok read → IsPlan names text read → (plan : List (Option ℕ))
    → IsPlan names text plan → Answers result (Ok plan)
read_complete names text result read e p plan q = inl (e ∙ ap Ok (one_plan names text read plan p q))

pub read_refuses : (names : List (List ℕ)) (text : List ℕ) (result : Result (List (Option ℕ)) PlanFault)
    (read : List (Option ℕ)) → IsPlan names text read → (fault : PlanFault) → HasPlanFault names text fault
    → Answers result (Err fault)
read_refuses names text result read p fault f = absurd (not_both names text read fault p f)

-- a fault that was found is the only answer
pub fault_complete : (names : List (List ℕ)) (text : List ℕ) (result : Result (List (Option ℕ)) PlanFault)
    (found : PlanFault) → HasPlanFault names text found → (plan : List (Option ℕ)) → IsPlan names text plan
    → Answers result (Ok plan)
fault_complete names text result found f plan p = absurd (not_both names text plan found p f)

pub fault_refuses : (names : List (List ℕ)) (text : List ℕ) (result : Result (List (Option ℕ)) PlanFault)
    (found : PlanFault) → result ≡ Err found → HasPlanFault names text found → (fault : PlanFault)
    → HasPlanFault names text fault → Answers result (Err fault)
fault_refuses names text result found e f fault g = inl (e ∙ ap Err (one_fault names text found fault f g))
