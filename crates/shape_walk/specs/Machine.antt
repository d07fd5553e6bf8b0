-- Follows the shape over the events of a text: what is open behind some of them, and the faults that each tells. What
-- it comes to at the end of a text is said of the text's tree, by `ShapeWalk::fault` and by `Keeping`.
use Rattle.std.specs.Prelude.{ℕ, ◌+◌, ◌==◌, List, [], ◌∷◌, ◌++◌, Bool, true, false, cond, nat_lt, Option, Some, None}
use Rattle.json_grammar.specs.Tree.{Node, no_trees, no_members, Event, begin, finish, key}
use Rattle.instance_model.specs.declared.limits.Limits.{Limits}
use Rattle.instance_shape.specs.declared.fault.Which.TheVariants as which
use Rattle.instance_shape.specs.declared.fault.Flaw.{Flaw}
use Rattle.instance_shape.specs.declared.fault.Flaw.TheVariants as flaw
use Rattle.instance_shape.specs.declared.fault.Fault.{Fault}
use Rattle.instance_shape.specs.declared.spot.Spot.{Spot}
use Rattle.instance_shape.specs.declared.spot.Spot.TheVariants as spot
use Rattle.instance_shape.specs.Keys.{Key, key_of}
use Rattle.instance_shape.specs.Shape.{kind_of, required, under, element}
use Rattle.instance_shape.specs.ShapeFaults.{where_so, own_faults, key_faults, missing, too_few, is_risk, is_workload}

-- the innermost object or list that is open, or the text itself: an object's spot, its keys so far and the spot of the
-- value under the last one; a list's spot and how many elements it had, counted to three
pub data Frame : Type 0 where
  outside : Frame
  in_object : (spot : Spot) (keys : List Key) (next : Spot) → Frame
  in_list : (spot : Spot) (before : ℕ) → Frame

-- what is open behind some events, the innermost first, and how many numbers stood under risk and under workload
pub record State : Type 0 where
  pub top : Frame
  pub around : List Frame
  pub risks : ℕ
  pub workloads : ℕ

-- the spot of the next value
abbrev pub next_spot : Frame → Spot
next_spot outside = spot.Root
next_spot (in_object s ks n) = n
next_spot (in_list s n) = element s n

-- one element more, counted to three
abbrev pub one_more : ℕ → ℕ
one_more n = cond (nat_lt n 3) (n + 1) n

-- behind a value
abbrev pub behind : Frame → Frame
behind outside = outside
behind (in_object s ks n) = in_object s ks n
behind (in_list s n) = in_list s (one_more n)

-- an object or a list that begins at a spot
abbrev pub begun : Bool → Spot → Frame
begun true s = in_object s [] spot.Skipped
begun false s = in_list s 0

-- behind a key
abbrev pub behind_key : List ℕ → Frame → Frame
behind_key k outside = outside
behind_key k (in_object s ks n) = in_object s (ks ++ key_of (kind_of s) k) (under s k)
behind_key k (in_list s n) = in_list s n

-- behind a closing bracket or brace, by what was open around it
abbrev pub behind_closing : List Frame → State → State
behind_closing [] s = record s { top = outside }
behind_closing (f ∷ fs) s = record s { top = behind f; around = fs }

-- a number counts as one, where it is counted
abbrev pub more_if : Bool → ℕ → ℕ
more_if b n = cond b (n + 1) n

-- the state behind an event
abbrev pub step : Event → State → State
step (begin at object) s = record s { top = begun object (next_spot s.top); around = s.top ∷ s.around }
step (finish at) s = behind_closing s.around s
step (key at end k) s = record s { top = behind_key k s.top }
step (Event.null at) s = record s { top = behind s.top }
step (Event.boolean at b) s = record s { top = behind s.top }
step (Event.number at x) s =
    record {
      top = behind s.top;
      around = s.around;
      risks = more_if (is_risk (next_spot s.top)) s.risks;
      workloads = more_if (is_workload (next_spot s.top)) s.workloads;
    }
step (Event.text at end x) s = record s { top = behind s.top }

-- a number that is counted is the first one past a limit
abbrev pub past_limit : Bool → ℕ → ℕ → ℕ → Flaw → List Fault
past_limit b n limit at f = cond b (where_so (n == limit) at f) []

abbrev pub number_past : Limits → Spot → ℕ → ℕ → ℕ → List Fault
number_past limits s at r w =
    past_limit (is_risk s) r limits.risk_cells at (flaw.Limit which.RiskCells)
    ++ past_limit (is_workload s) w limits.workload_entries at (flaw.Limit which.WorkloadEntries)

-- the faults at the first byte of an object or a list
abbrev pub begin_faults : Limits → Bool → Spot → ℕ → List Fault
begin_faults limits true s at = own_faults limits s at (Node.object no_members)
begin_faults limits false s at = own_faults limits s at (Node.list no_trees)

-- the faults at a key
abbrev pub faults_of_key : Limits → ℕ → List ℕ → Frame → List Fault
faults_of_key limits at k outside = []
faults_of_key limits at k (in_object s ks n) = key_faults limits s ks at k
faults_of_key limits at k (in_list s n) = []

-- the faults at a closing bracket or brace
abbrev pub closing_faults : ℕ → Frame → List Fault
closing_faults at outside = []
closing_faults at (in_object s ks n) = missing (required s) ks at
closing_faults at (in_list s n) = too_few (kind_of s) n at

-- the faults at an event
abbrev pub faults_at : Limits → Event → State → List Fault
faults_at limits (begin at object) s = begin_faults limits object (next_spot s.top) at
faults_at limits (finish at) s = closing_faults at s.top
faults_at limits (key at end k) s = faults_of_key limits at k s.top
faults_at limits (Event.null at) s = own_faults limits (next_spot s.top) at Node.null
faults_at limits (Event.boolean at b) s = own_faults limits (next_spot s.top) at (Node.boolean b)
faults_at limits (Event.number at x) s =
    own_faults limits (next_spot s.top) at (Node.number x)
    ++ number_past limits (next_spot s.top) at s.risks s.workloads
faults_at limits (Event.text at end x) s = own_faults limits (next_spot s.top) at (Node.text x)

-- all faults that events tell, in order
abbrev pub faults_along : Limits → List Event → State → List Fault
faults_along limits [] s = []
faults_along limits (e ∷ es) s = faults_at limits e s ++ faults_along limits es (step e s)

-- the state behind events
abbrev pub state_along : List Event → State → State
state_along [] s = s
state_along (e ∷ es) s = state_along es (step e s)

-- before the first event of a text
abbrev pub start : State
start = record { top = outside; around = []; risks = 0; workloads = 0 }

abbrev pub first_fault : List Fault → Option Fault
first_fault [] = None
first_fault (f ∷ fs) = Some f
