-- A tree is built from its events. Not part of any promise: only private functions cite it.
use Rattle.std.specs.Prelude.{◌≡◌, ℕ, suc, ◌+◌, List, [], ◌∷◌, length, Bool, true, false, Option, Some, None}
use Rattle.json_grammar.specs.Tree.{Tree, tree, Node, Trees, no_trees, and_tree, Members, no_members, and_member, Event}
use Rattle.json_grammar.specs.Tree.{begin, finish, key}
use Rattle.json_grammar.specs.laws.Machine.{State, step, ending}

-- an array or an object that is open
pub data Open : Type 0 where
  open_list : (at : ℕ) → Trees → Open
  open_object : (at : ℕ) → Members → Open
  open_member : (at : ℕ) → Members → (key_at key_end : ℕ) (key : List ℕ) → Open

pub record Built : Type 0 where
  pub levels : List Open
  pub done : Option Tree

abbrev pub bt : List Open → Option Tree → Built
bt levels done = record { levels = levels; done = done }

abbrev pub tree_last : Trees → Trees → Trees
tree_last no_trees us = us
tree_last (and_tree t ts) us = and_tree t (tree_last ts us)

abbrev pub member_last : Members → Members → Members
member_last no_members ns = ns
member_last (and_member at end k t ms) ns = and_member at end k t (member_last ms ns)

abbrev pub attach_to : Tree → List Open → Option Tree → Built
attach_to t [] final = bt [] (Some t)
attach_to t (open_list at ts ∷ os) final = bt (open_list at (tree_last ts (and_tree t no_trees)) ∷ os) final
attach_to t (open_member at ms key_at key_end k ∷ os) final =
    bt (open_object at (member_last ms (and_member key_at key_end k t no_members)) ∷ os) final
attach_to t (open_object at ms ∷ os) final = bt (open_object at ms ∷ os) final

abbrev pub attach : Tree → Built → Built
attach t b = attach_to t b.levels b.done

abbrev pub close_one : ℕ → List Open → Option Tree → Built
close_one end [] final = bt [] final
close_one end (open_list at ts ∷ os) final = attach_to (tree at end (Node.list ts)) os final
close_one end (open_object at ms ∷ os) final = attach_to (tree at end (Node.object ms)) os final
close_one end (open_member at ms key_at key_end k ∷ os) final = attach_to (tree at end (Node.object ms)) os final

abbrev pub key_one : ℕ → ℕ → List ℕ → List Open → Option Tree → Built
key_one at end k (open_object a ms ∷ os) final = bt (open_member a ms at end k ∷ os) final
key_one at end k (open_member a ms key_at key_end l ∷ os) final = bt (open_member a ms at end k ∷ os) final
key_one at end k (open_list a ts ∷ os) final = bt (open_list a ts ∷ os) final
key_one at end k [] final = bt [] final

abbrev pub boolean_end : ℕ → Bool → ℕ
boolean_end at true = at + 4
boolean_end at false = at + 5

abbrev pub begun : ℕ → Bool → Built → Built
begun at false b = bt (open_list at no_trees ∷ b.levels) b.done
begun at true b = bt (open_object at no_members ∷ b.levels) b.done

unfoldable pub feed : Event → Built → Built
feed (begin at o) b = begun at o b
feed (finish at) b = close_one (suc at) b.levels b.done
feed (key at end k) b = key_one at end k b.levels b.done
feed (Event.null at) b = attach (tree at (at + 4) Node.null) b
feed (Event.boolean at v) b = attach (tree at (boolean_end at v) (Node.boolean v)) b
feed (Event.number at s) b = attach (tree at (at + length s) (Node.number s)) b
feed (Event.text at end s) b = attach (tree at end (Node.text s)) b

abbrev pub feeds : List Event → Built → Built
feeds [] b = b
feeds (e ∷ es) b = feeds es (feed e b)

-- a byte that is taken moves the machine, and what it tells goes to the builder
abbrev pub Advances : Bool → ℕ → State → ℕ → State → Built → Built → Type 0
Advances false k s b t old new = step k s.levels s.mode b ≡ None
Advances true k s b t old new = (es : List Event) × (step k s.levels s.mode b ≡ Some (t, es)) × (new ≡ feeds es old)

abbrev pub Concludes : State → Built → Option Tree → Type 0
Concludes s b t = (es : List Event) × (ending s.levels s.mode ≡ Some es) × (t ≡ (feeds es b).done)
