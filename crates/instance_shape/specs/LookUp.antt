-- Defines what is looked up in the tree of a text: the value under a key, and the parts of an instance by their keys.
use Rattle.std.specs.Prelude.{ℕ, ℤ, pos, Bool, false, ◌&&◌, ◌==◌, List, [], ◌∷◌, Option, Some, None, cond, bytes_eq}
use Rattle.std.specs.Prelude.{map, unwrap_or, option_map, take}
use Rattle.json_grammar.specs.Tree.{Tree, tree, Node, Trees, no_trees, and_tree, Members, no_members, and_member}
use Rattle.decimal_numbers.specs.Exact.{whole, fixed, millionths}
use Rattle.instance_shape.specs.declared.fault.Known.{Known}
use Rattle.instance_shape.specs.declared.fault.Known.TheVariants as is
use Rattle.instance_shape.specs.Keys.{text_of, is_digits, number_of}

-- the trees of a list
abbrev pub tree_list : Trees → List Tree
tree_list no_trees = []
tree_list (and_tree t ts) = t ∷ tree_list ts

-- the elements of a value, if it is a list
abbrev pub elements : Tree → List Tree
elements (tree at end (Node.list ts)) = tree_list ts
elements (tree at end _) = []

-- a key and the value under it
pub record Entry : Type 0 where
  pub key : List ℕ
  pub value : Tree

-- the entries of an object, in the order of the text
abbrev pub entry_list : Members → List Entry
entry_list no_members = []
entry_list (and_member at end key t ms) = record { key = key; value = t } ∷ entry_list ms

-- the entries of a value, if it is an object, in file order
abbrev pub entries : Tree → List Entry
entries (tree at end (Node.object ms)) = entry_list ms
entries (tree at end _) = []

-- its keys
abbrev pub keys : Tree → List (List ℕ)
keys t = map (λ e. e.key) (entries t)

-- the first value whose key passes the test
abbrev pub first_value : (List ℕ → Bool) → List Entry → Option Tree
first_value p [] = None
first_value p (e ∷ es) = cond (p e.key) (Some e.value) (first_value p es)

-- the value under a key
abbrev pub at_key : List ℕ → Tree → Option Tree
at_key key t = first_value (bytes_eq key) (entries t)

-- the value under a period or start
abbrev pub at_number : ℕ → Tree → Option Tree
at_number n t = first_value (λ key. is_digits key && (number_of key == n)) (entries t)

-- the value under a required key; null where there is none
abbrev pub known : Known → Tree → Tree
known k t = unwrap_or (at_key (text_of k) t) (tree 0 0 Node.null)

-- the whole number that a value is
abbrev pub whole_at : Tree → ℕ
whole_at (tree at end n) = unwrap_or (whole n) 0

-- the text that a value is
abbrev pub text_at : Tree → List ℕ
text_at (tree at end (Node.text x)) = x
text_at (tree at end _) = []

-- the token of a number
abbrev pub token_at : Tree → List ℕ
token_at (tree at end (Node.number x)) = x
token_at (tree at end _) = []

-- the count of a number, in 10^-12
abbrev pub count_at : Tree → ℤ
count_at t = unwrap_or (option_map (λ f. f.0) (fixed (token_at t))) (pos 0)

-- a number differs from its count: reading has rounded it
abbrev pub differs_at : Tree → Bool
differs_at t = unwrap_or (option_map (λ f. f.1) (fixed (token_at t))) false

-- a number in multiples of 10^-6
abbrev pub part_at : Tree → ℕ
part_at t = unwrap_or (millionths (token_at t)) 0

-- the number of periods
abbrev pub periods : Tree → ℕ
periods root = whole_at (known is.T root)

-- the number of scenarios of each period
abbrev pub scenarios : Tree → List ℕ
scenarios root = map whole_at (elements (known is.ScenariosNumber root))

-- the interventions, in file order
abbrev pub interventions : Tree → List Entry
interventions root = entries (known is.Interventions root)

-- the durations of an intervention, by start; those after the first tmax are ignored
abbrev pub durations : Tree → List ℕ
durations v = take (whole_at (known is.Tmax v)) (map whole_at (elements (known is.Delta v)))

-- the value under a period or start of a value, if there is one
abbrev pub number_in : ℕ → Option Tree → Option Tree
number_in n None = None
number_in n (Some t) = at_number n t

-- the risks of an intervention in period t at start s, where the file has a list of them
abbrev pub risk_list : Tree → ℕ → ℕ → Option (List Tree)
risk_list v t s = option_map elements (number_in s (at_number t (known is.Risk v)))

-- its workload of a resource in period t at start s, where the file has an entry
abbrev pub workload : Tree → List ℕ → ℕ → ℕ → Option Tree
workload v resource t s = number_in s (number_in t (at_key resource (known is.Workload v)))
