-- Where bytes stop being the beginning of a JSON text, and where one is nested too deep.
use Rattle.std.specs.Prelude.{◌≡◌, ℕ, zero, suc, ◌≤◌, ◌<◌, List, ◌++◌, length, take, Option, Some, None}
use Rattle.json_grammar.specs.Tree.{Tree, tree, Node, Trees, no_trees, and_tree, Members, no_members, and_member}
use Rattle.json_grammar.specs.Grammar.{IsElement}

-- some JSON text begins with the bytes
pub record IsPrefix (bytes : List ℕ) : Type 0 where
  pub rest : List ℕ
  pub tree : Tree
  pub text : IsElement 0 (bytes ++ rest) tree

-- the bytes are no JSON text, and their longest beginning that begins one has this length
pub record IsSyntaxFault (bytes : List ℕ) (at : ℕ) : Type 0 where
  pub within : at ≤ length bytes
  pub sound : IsPrefix (take at bytes)
  pub stuck : at < length bytes → IsPrefix (take (suc at) bytes) → ⊥
  pub ended : at ≡ length bytes → (tree : Tree) → IsElement 0 bytes tree → ⊥

-- the bytes are a JSON text
pub record IsJsonText (bytes : List ℕ) : Type 0 where
  pub tree : Tree
  pub text : IsElement 0 bytes tree

-- behind n open levels there is room for one more, or the array or object at the offset is one too many
abbrev pub deeper : ℕ → ℕ → (ℕ → Option ℕ) → Option ℕ
deeper zero at f = Some at
deeper (suc n) at f = f n

-- the first of two places, where there is one
abbrev pub or_else : Option ℕ → Option ℕ → Option ℕ
or_else (Some x) y = Some x
or_else None y = y

-- where the first array or object stands for which there is no room, if n levels may open
abbrev mutual
  pub first_past : ℕ → Tree → Option ℕ
  first_past n (tree at end node) = node_first_past n at node

  pub node_first_past : ℕ → ℕ → Node → Option ℕ
  node_first_past n at Node.null = None
  node_first_past n at (Node.boolean b) = None
  node_first_past n at (Node.number s) = None
  node_first_past n at (Node.text s) = None
  node_first_past n at (Node.list ts) = deeper n at (λ m. trees_first_past m ts)
  node_first_past n at (Node.object ms) = deeper n at (λ m. members_first_past m ms)

  pub trees_first_past : ℕ → Trees → Option ℕ
  trees_first_past n no_trees = None
  trees_first_past n (and_tree t ts) = or_else (first_past n t) (trees_first_past n ts)

  pub members_first_past : ℕ → Members → Option ℕ
  members_first_past n no_members = None
  members_first_past n (and_member at end key t ms) = or_else (first_past n t) (members_first_past n ms)

-- at that offset stands the first bracket or brace that opens a 17th level, in
-- each text that begins with the bytes up to it
pub record IsDepthFault (bytes : List ℕ) (at : ℕ) : Type 0 where
  pub within : at < length bytes
  pub sound : IsPrefix (take (suc at) bytes)
  pub opens : (rest : List ℕ) (tree : Tree) → IsElement 0 (take (suc at) bytes ++ rest) tree
      → first_past 16 tree ≡ Some at

-- no text that begins with the first `at` bytes opens a 17th level in them
abbrev pub IsShallow : List ℕ → ℕ → Type 0
IsShallow bytes at = (rest : List ℕ) (tree : Tree) → IsElement 0 (take at bytes ++ rest) tree → (d : ℕ)
    → first_past 16 tree ≡ Some d → at ≤ d
