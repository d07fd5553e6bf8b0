-- Defines when the next value of a text has to be a number that is read as a count, how many such numbers the limits
-- allow, and when the next key of a text has to be a period or start.
use Rattle.std.specs.Prelude.{◌≡◌, ℕ, ◌-◌, ◌^◌, None}
use Rattle.instance_model.specs.declared.limits.Limits.{Limits}
use Rattle.instance_shape.specs.declared.spot.Spot.{Spot}
use Rattle.instance_shape.specs.declared.spot.Spot.TheVariants as spots
use Rattle.instance_shape.specs.declared.spot.Kind.TheVariants as kind
use Rattle.instance_shape.specs.Shape.{kind_of}
use Rattle.shape_walk.specs.Kept.{object_spot}
use Rattle.shape_walk.specs.Machine.{next_spot}
use Rattle.shape_walk.specs.Standing.{Walk}

-- the walk knows no fault, and the next value, where there is one, is a count at the spot
pub record AwaitsCount (walk : Walk) (spot : Spot) : Type 0 where
  pub no_fault : walk.fault ≡ None
  pub next : spot ≡ next_spot walk.state.top
  pub counts : kind_of spot ≡ kind.Count

-- how many numbers at a spot the limits allow behind so many under risk and under workload: 2^64 - 1 where they bound
-- none
abbrev pub room_at : Limits → Spot → ℕ → ℕ → ℕ
room_at limits spots.RiskNumber risks workloads = limits.risk_cells - risks
room_at limits spots.WorkloadNumber risks workloads = limits.workload_entries - workloads
room_at limits _ risks workloads = 2 ^ 64 - 1

-- how many more numbers at a spot the limits of a walk allow
abbrev pub count_room : Walk → Spot → ℕ
count_room walk spot = room_at walk.limits spot walk.state.risks walk.state.workloads

-- the walk knows no fault, and the innermost that is open is an object whose keys are periods or starts
pub record AwaitsNumberKey (walk : Walk) : Type 0 where
  pub no_fault : walk.fault ≡ None
  pub numbers : kind_of (object_spot walk.state.top) ≡ kind.Numbers
