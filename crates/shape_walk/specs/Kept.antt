-- Defines the spot of each event of a text, and what a keeper that takes events with their spots has kept of them: over
-- the events, and over the tree. `Rattle.shape_walk.proofs.Keeping` joins the two.
use Rattle.std.specs.Prelude.{ℕ, ◌+◌, List, [], ◌∷◌, true, false}
use Rattle.std.proofs.Common.{pred}
use Rattle.json_grammar.specs.Tree.{Tree, tree, Node, Trees, no_trees, and_tree, Members, no_members, and_member, Event}
use Rattle.json_grammar.specs.Tree.{begin, finish, key}
use Rattle.instance_shape.specs.declared.spot.Spot.{Spot}
use Rattle.instance_shape.specs.declared.spot.Spot.TheVariants as spot
use Rattle.instance_shape.specs.Shape.{under, element}
use Rattle.shape_walk.specs.Machine.{Frame, outside, in_object, in_list, State, next_spot, step, state_along, start}

-- the spot of the object or list that is open
abbrev pub open_spot : Frame → Spot
open_spot outside = spot.Skipped
open_spot (in_object s ks n) = s
open_spot (in_list s n) = s

-- the spot of the object that is open
abbrev pub object_spot : Frame → Spot
object_spot outside = spot.Skipped
object_spot (in_object s ks n) = s
object_spot (in_list s n) = spot.Skipped

-- the spot of an event: of a value its own; of a key, a closing bracket or brace
-- that of the object or list in which it stands
abbrev pub event_spot : Event → Frame → Spot
event_spot (begin at object) f = next_spot f
event_spot (finish at) f = open_spot f
event_spot (key at end k) f = object_spot f
event_spot (Event.null at) f = next_spot f
event_spot (Event.boolean at b) f = next_spot f
event_spot (Event.number at x) f = next_spot f
event_spot (Event.text at end x) f = next_spot f

-- the spot of the event behind some events of a text
abbrev pub spot_after : List Event → Event → Spot
spot_after es e = event_spot e (state_along es start).top

-- what is kept of events behind a state
abbrev pub kept_from : {A : Type 0} → (Spot → Event → A → A) → List Event → State → A → A
kept_from keep [] s a = a
kept_from keep (e ∷ es) s a = kept_from keep es (step e s) (keep (event_spot e s.top) e a)

-- what is kept of the first events of a text, one after another, each with its spot
abbrev pub kept : {A : Type 0} → (Spot → Event → A → A) → List Event → A → A
kept keep es a = kept_from keep es start a

-- what is kept of a value at a spot: of it itself and of the values in it, in the order of the text
abbrev mutual
  pub keep_value : {A : Type 0} → (Spot → Event → A → A) → Spot → Tree → A → A
  keep_value keep s (tree at end n) a = keep_node keep s at end n a

  pub keep_node : {A : Type 0} → (Spot → Event → A → A) → Spot → ℕ → ℕ → Node → A → A
  keep_node keep s at end Node.null a = keep s (Event.null at) a
  keep_node keep s at end (Node.boolean b) a = keep s (Event.boolean at b) a
  keep_node keep s at end (Node.number x) a = keep s (Event.number at x) a
  keep_node keep s at end (Node.text x) a = keep s (Event.text at end x) a
  keep_node keep s at end (Node.list ts) a =
      keep s (finish (pred end)) (keep_elements keep s 0 ts (keep s (begin at false) a))
  keep_node keep s at end (Node.object ms) a =
      keep s (finish (pred end)) (keep_members keep s ms (keep s (begin at true) a))

  pub keep_elements : {A : Type 0} → (Spot → Event → A → A) → Spot → ℕ → Trees → A → A
  keep_elements keep s n no_trees a = a
  keep_elements keep s n (and_tree t ts) a = keep_elements keep s (n + 1) ts (keep_value keep (element s n) t a)

  pub keep_members : {A : Type 0} → (Spot → Event → A → A) → Spot → Members → A → A
  keep_members keep s no_members a = a
  keep_members keep s (and_member at end k t ms) a =
      keep_members keep s ms (keep_value keep (under s k) t (keep s (key at end k) a))
