-- The best plan that a search was given or met, if there is one, given by its starts.
use Rattle.std.specs.Prelude.{◌≡◌, ℕ, ℤ, ◌<ℤ◌, ◌≤ℤ◌, ⊤, List, length, map, Option, Some, None}
use Rattle.instance_model.specs.Tables.{Tables}
use Rattle.instance_model.specs.Rules.{IsFeasible}
use Rattle.lagrange_bound.specs.Goals.{PlanValue}
use Rattle.certificate_lines.specs.declared.line.Bound.{Bound}
use Rattle.certificate_lines.specs.declared.line.Bound.TheVariants.{NoPlan, Least}

-- there is a best plan, and its value is at most z
abbrev pub IsReached : PlanValue → Tables → Option (List ℕ) → ℤ → Type 0
IsReached value inst None z = ⊥
IsReached value inst (Some plan) z = value inst plan ≤ℤ z

-- there is no best plan, or z is below its value
abbrev pub IsShort : PlanValue → Tables → Option (List ℕ) → ℤ → Type 0
IsShort value inst None z = ⊤
IsShort value inst (Some plan) z = z <ℤ value inst plan

-- one start for each intervention, and the plan of these starts is feasible
pub record IsFeasiblePlan (inst : Tables) (plan : List ℕ) : Type 0 where
  pub each : length plan ≡ length inst.names
  pub feasible : IsFeasible inst (map Some plan)

-- a plan is feasible, and its value is at most that of the plan handed in
pub record IsNoWorse (value : PlanValue) (inst : Tables) (incumbent : Option (List ℕ)) (plan : List ℕ) : Type 0 where
  pub feasible : IsFeasiblePlan inst plan
  pub at_most : (given : List ℕ) → incumbent ≡ Some given → value inst plan ≤ℤ value inst given

-- the best plan is no worse than the plan handed in; there is none only where none was handed in
abbrev pub IsBestOver : PlanValue → Tables → Option (List ℕ) → Option (List ℕ) → Type 0
IsBestOver value inst incumbent None = incumbent ≡ None
IsBestOver value inst incumbent (Some plan) = IsNoWorse value inst incumbent plan

-- the bound that says that the best plan is one of least value, or that there is no plan
abbrev pub bound_of : PlanValue → Tables → Option (List ℕ) → Bound
bound_of value inst None = NoPlan
bound_of value inst (Some plan) = Least (value inst plan)

-- a bound is the number z
abbrev pub IsNumber : Bound → ℤ → Type 0
IsNumber bound z = bound ≡ Least z

-- a bound is none, or at least z
abbrev pub Reaches : Bound → ℤ → Type 0
Reaches NoPlan z = ⊤
Reaches (Least b) z = z ≤ℤ b
