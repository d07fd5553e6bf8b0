-- Defines what the bytes of a text come to: a tree, or a fault with its place.
use Rattle.std.specs.Prelude.{◌≡◌, ℕ, List, None}
use Rattle.json_grammar.specs.Tree.{Tree}
use Rattle.json_grammar.specs.Grammar.{IsText}
use Rattle.json_grammar.specs.Prefix.{IsSyntaxFault, IsDepthFault, IsShallow, first_past}

-- a tree; a fault of syntax; or a bracket or brace that opens a 17th level; each fault with its place
pub data TextAnswer : Type 0 where
  read : Tree → TextAnswer
  syntax : (at : ℕ) → TextAnswer
  too_deep : (at : ℕ) → TextAnswer

-- the bytes are the text of the tree, which is nested at most 16 deep, or have the fault
abbrev pub IsAnswerTo : List ℕ → TextAnswer → Type 0
IsAnswerTo bytes (read root) = IsText bytes root × (first_past 16 root ≡ None)
IsAnswerTo bytes (syntax at) = IsSyntaxFault bytes at × IsShallow bytes at
IsAnswerTo bytes (too_deep at) = IsDepthFault bytes at

-- there is an answer to the bytes
pub record HasAnswer (bytes : List ℕ) : Type 0 where
  pub answer : TextAnswer
  pub is_answer : IsAnswerTo bytes answer
