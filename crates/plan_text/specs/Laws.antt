-- Laws of texts.
use Rattle.std.specs.Prelude.{ℕ, List, Option}
use Rattle.plan_text.specs.declared.fault.PlanFault.{PlanFault}
use Rattle.plan_text.specs.Spelling.{IsPlan}
use Rattle.plan_text.specs.FirstFault.{HasPlanFault}

-- a text spells a plan, or has a first fault: it can't be without both
abbrev pub TextsAreTold : Type 0
TextsAreTold = (names : List (List ℕ)) (text : List ℕ)
    → ((plan : List (Option ℕ)) → IsPlan names text plan → ⊥)
    → ((fault : PlanFault) → HasPlanFault names text fault → ⊥)
    → ⊥
