-- The faults at an event stand at its place, in the order of the rows.
use Rattle.std.proofs.Common.{◌≡◌, ℕ, ◌+◌, ◌==◌, ◌≤◌, ◌&&◌, Bool, true, false, Option, Some, None, List, [], ◌∷◌, ◌++◌}
use Rattle.std.proofs.Common.{refl, sym, ap, subst, arith, append-nil, append_assoc, not, length}
use Rattle.std.specs.Prelude.{is_some, is_none}
use Rattle.json_grammar.specs.Tree.{Node, no_trees, no_members, Event, begin, finish, key}
use Rattle.json_grammar.specs.Events.{event_at}
use Rattle.decimal_numbers.specs.Exact.{whole, fixed}
use Rattle.instance_model.specs.declared.limits.Limits.{Limits}
use Rattle.instance_shape.specs.declared.fault.Fault.{Fault}
use Rattle.instance_shape.specs.declared.fault.Flaw.{Flaw}
use Rattle.instance_shape.specs.declared.fault.Flaw.TheVariants as flaw
use Rattle.instance_shape.specs.declared.fault.Known.{Known}
use Rattle.instance_shape.specs.declared.fault.Which.{Which}
use Rattle.instance_shape.specs.declared.fault.Which.TheVariants as which
use Rattle.instance_shape.specs.declared.spot.Spot.{Spot}
use Rattle.instance_shape.specs.declared.spot.Spot.TheVariants as spot
use Rattle.instance_shape.specs.declared.spot.Kind.{Kind}
use Rattle.instance_shape.specs.declared.spot.Kind.TheVariants as kind
use Rattle.instance_shape.specs.Keys.{is_name, is_digits, Key, key_of, is_double}
use Rattle.instance_shape.specs.Shape.{kind_of, required, has_shape}
use Rattle.instance_shape.specs.ShapeFaults.{where_so, own_faults, value_rows, key_faults, first_missing, missing_at}
use Rattle.instance_shape.specs.ShapeFaults.{too_few, row_of, outside as outside_limit, whole_limit, first_past}
use Rattle.instance_shape.specs.ShapeFaults.{key_limit, takes_names, takes_numbers}
use Rattle.shape_walk.specs.Machine.{Frame, outside, in_object, in_list, State, next_spot, number_past, begin_faults}
use Rattle.shape_walk.specs.Machine.{faults_of_key, closing_faults, faults_at, first_fault}
use Rattle.shape_walk.specs.Flaws.{first_flaw, flaw_at}

-- faults at one place, of rows from k on, each row once
abbrev pub Rows : ℕ → ℕ → List Fault → Type 0
Rows a k [] = Unit {0}
Rows a k (f ∷ fs) = (f.at ≡ a) × (k ≤ row_of f.flaw) × Rows a (row_of f.flaw + 1) fs

lower : (a k m : ℕ) (fs : List Fault) → k ≤ m → Rows a m fs → Rows a k fs
lower a k m [] h r = tt
lower a k m (f ∷ fs) h r = (r.0, omega (arith, r.1), r.2)

first_row : (a k : ℕ) (b : Bool) (f : Flaw) (fs : List Fault) → k ≤ row_of f → Rows a (row_of f + 1) fs
    → Rows a k (where_so b a f ++ fs)
first_row a k true f fs h r = (refl, h, r)
first_row a k false f fs h r = lower a k (row_of f + 1) fs (omega arith) r

last_row : (a k : ℕ) (b : Bool) (f : Flaw) → k ≤ row_of f → Rows a k (where_so b a f)
last_row a k true f h = (refl, h, tt)
last_row a k false f h = tt

outside_rows : (a k : ℕ) (l : Option (ℕ × Which)) (n : Option ℕ) → k ≤ 5 → Rows a k (outside_limit l a n)
outside_rows a k (Some l) (Some n) h = last_row a k _ (flaw.Limit l.1) h
outside_rows a k (Some l) None h = tt
outside_rows a k None n h = tt

value_own : (limits : Limits) (s : Spot) (k : Kind) (at : ℕ) (n : Node)
    → Rows at 0 (where_so (not (has_shape k n)) at flaw.Shape ++ value_rows limits s k at n)
value_own limits s kind.Count at (Node.number x) = last_row at 0 (is_none (fixed x)) flaw.TooLarge (omega arith)
value_own limits s kind.Name at (Node.text x) = last_row at 0 (not (is_name x)) flaw.BadName (omega arith)
value_own limits s kind.Whole at n =
    first_row at 0 (not (is_some (whole n))) flaw.Shape (outside_limit (whole_limit limits s) at (whole n))
    (omega arith) (outside_rows at 4 (whole_limit limits s) (whole n) (omega arith))
value_own limits s k at n = first_row at 0 (not (has_shape k n)) flaw.Shape [] (omega arith) tt

own_rows : (limits : Limits) (s : Spot) (at : ℕ) (n : Node) → Rows at 0 (own_faults limits s at n)
own_rows limits s at n = value_own limits s (kind_of s) at n

begin_rows : (limits : Limits) (object : Bool) (s : Spot) (at : ℕ) → Rows at 0 (begin_faults limits object s at)
begin_rows limits true s at = own_rows limits s at (Node.object no_members)
begin_rows limits false s at = own_rows limits s at (Node.list no_trees)

past_rows : (at : ℕ) (l : Option (ℕ × Which)) (n k : ℕ) → k ≤ 5 → Rows at k (first_past l n at)
past_rows at None n k h = tt
past_rows at (Some l) n k h = last_row at k _ (flaw.Limit l.1) h

key_rows : (limits : Limits) (s : Spot) (ks : List Key) (at : ℕ) (k : List ℕ) → Rows at 0 (key_faults limits s ks at k)
key_rows limits s ks at k =
    subst (Rows at 0) (sym (simp append_assoc))
    (first_row at 0 (is_double ks (key_of (kind_of s) k)) flaw.Double _ (omega arith)
    (first_row at 1 (takes_names (kind_of s) && not (is_name k)) flaw.BadName _ (omega arith)
    (lower at 2 3 _ (omega arith) (first_row at 3 (takes_numbers (kind_of s) && not (is_digits k)) flaw.Shape
    (first_past (key_limit limits s) (length ks) at) (omega arith)
    (past_rows at (key_limit limits s) (length ks) 4 (omega arith))))))

missing_rows : (at : ℕ) (m : Option Known) → Rows at 0 (missing_at at m)
missing_rows at None = tt
missing_rows at (Some k) = (refl, omega arith, tt)

few_rows : (k : Kind) (n at : ℕ) → Rows at 0 (too_few k n at)
few_rows kind.Triple n at = last_row at 0 _ flaw.Shape (omega arith)
few_rows _ n at = tt

number_rows : (limits : Limits) (s : Spot) (at : ℕ) (x : List ℕ) (r w : ℕ)
    → Rows at 0 (own_faults limits s at (Node.number x) ++ number_past limits s at r w)
number_rows limits spot.RiskNumber at x r w =
    first_row at 0 (is_none (fixed x)) flaw.TooLarge (number_past limits spot.RiskNumber at r w) (omega arith)
    (subst (Rows at 5) (sym (append-nil (where_so (r == limits.risk_cells) at (flaw.Limit which.RiskCells))))
    (last_row at 5 (r == limits.risk_cells) (flaw.Limit which.RiskCells) (omega arith)))
number_rows limits spot.WorkloadNumber at x r w =
    first_row at 0 (is_none (fixed x)) flaw.TooLarge (number_past limits spot.WorkloadNumber at r w) (omega arith)
    (last_row at 5 (w == limits.workload_entries) (flaw.Limit which.WorkloadEntries) (omega arith))
number_rows limits s at x r w =
    subst (Rows at 0) (sym (append-nil (own_faults limits s at (Node.number x)))) (own_rows limits s at (Node.number x))

faults_of_key_rows : (limits : Limits) (at : ℕ) (k : List ℕ) (f : Frame) → Rows at 0 (faults_of_key limits at k f)
faults_of_key_rows limits at k outside = tt
faults_of_key_rows limits at k (in_object s ks n) = key_rows limits s ks at k
faults_of_key_rows limits at k (in_list s n) = tt

closing_rows : (at : ℕ) (f : Frame) → Rows at 0 (closing_faults at f)
closing_rows at outside = tt
closing_rows at (in_object s ks n) = missing_rows at (first_missing (required s) ks)
closing_rows at (in_list s n) = few_rows (kind_of s) n at

pub event_rows : (limits : Limits) (e : Event) (s : State) → Rows (event_at e) 0 (faults_at limits e s)
event_rows limits (begin at object) s = begin_rows limits object (next_spot s.top) at
event_rows limits (finish at) s = closing_rows at s.top
event_rows limits (key at end k) s = faults_of_key_rows limits at k s.top
event_rows limits (Event.null at) s = own_rows limits (next_spot s.top) at Node.null
event_rows limits (Event.boolean at b) s = own_rows limits (next_spot s.top) at (Node.boolean b)
event_rows limits (Event.number at x) s = number_rows limits (next_spot s.top) at x s.risks s.workloads
event_rows limits (Event.text at end x) s = own_rows limits (next_spot s.top) at (Node.text x)

first_placed : (a k : ℕ) (fs : List Fault) → Rows a k fs → flaw_at a (first_flaw fs) ≡ first_fault fs
first_placed a k [] r = refl
first_placed a k (f ∷ fs) r = ap (λ (x : ℕ). Some (record { at = x; flaw = f.flaw })) (sym r.0)

-- the first fault at an event, by its flaw
pub first_at_event : (limits : Limits) (e : Event) (s : State)
    → flaw_at (event_at e) (first_flaw (faults_at limits e s)) ≡ first_fault (faults_at limits e s)
first_at_event limits e s = first_placed (event_at e) 0 (faults_at limits e s) (event_rows limits e s)
