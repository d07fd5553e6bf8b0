-- The best plan as it is kept, with its value. Cited by private functions only: no part of any promise.
use Rattle.std.specs.Prelude.{◌≡◌, ℕ, ◌^◌, ◌<◌, ℤ, ◌<ℤ◌, ⊤, List, Option, Some, None, unsigned_abs}
use Rattle.instance_model.specs.Tables.{Tables}
use Rattle.lagrange_bound.specs.Goals.{PlanValue}
use Rattle.branch_search.specs.declared.best.Best.{Best}

-- its starts
abbrev pub plan_in : Option Best → Option (List ℕ)
plan_in None = None
plan_in (Some best) = Some best.starts

-- the size of its value
abbrev pub IsSmallValue : Option Best → Type 0
IsSmallValue None = ⊤
IsSmallValue (Some best) = unsigned_abs best.value < 10 ^ 36

-- z is below its value, or there is none
abbrev pub IsBelow : Option Best → ℤ → Type 0
IsBelow None z = ⊤
IsBelow (Some best) z = z <ℤ best.value

-- its value is right, and of that size
pub record IsRightValue (value : PlanValue) (inst : Tables) (best : Best) : Type 0 where
  pub is : best.value ≡ value inst best.starts
  pub small : unsigned_abs best.value < 10 ^ 36

abbrev pub IsValued : PlanValue → Tables → Option Best → Type 0
IsValued value inst None = ⊤
IsValued value inst (Some best) = IsRightValue value inst best
