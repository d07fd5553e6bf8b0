-- Defines for which events of a text a walk stands.
use Rattle.std.specs.Prelude.{◌≡◌, List, Option, None}
use Rattle.json_grammar.specs.Tree.{Event}
use Rattle.instance_model.specs.declared.limits.Limits.{Limits}
use Rattle.instance_shape.specs.declared.fault.Fault.{Fault}
use Rattle.shape_walk.specs.Machine.{State, faults_along, state_along, start, first_fault}

-- what a walk knows: the limits, the first fault so far, and, as long as there is none, what is open
pub record Walk : Type 0 where
  pub limits : Limits
  pub state : State
  pub fault : Option Fault

-- the walk has taken these events, under these limits
pub record StandsAfter (limits : Limits) (walk : Walk) (es : List Event) : Type 0 where
  pub under : walk.limits ≡ limits
  pub first : walk.fault ≡ first_fault (faults_along limits es start)
  pub state : walk.fault ≡ None → walk.state ≡ state_along es start
