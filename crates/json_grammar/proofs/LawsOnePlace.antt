-- A text has one answer: its tree, or a fault at one place.
use Rattle.std.proofs.Common.{◌≡◌, ℕ, suc, ◌+◌, ◌<◌, ◌≤◌, ◌⊎◌, inl, inr, List, ◌++◌, length, take, drop, Some, refl}
use Rattle.std.proofs.Common.{sym, ◌∙◌, ap, subst, arith, append_assoc, take-append-drop, take-take, Bool, true, false}
use Rattle.std.proofs.Common.{nat_lt}
use Rattle.std.proofs.lemmas.Bool.Decides.{nat_tests}
use Rattle.json_grammar.specs.Tree.{Tree}
use Rattle.json_grammar.specs.Grammar.{IsElement}
use Rattle.json_grammar.specs.Prefix.{IsPrefix, IsSyntaxFault, IsDepthFault, IsShallow, first_past}
use Rattle.json_grammar.specs.laws.Answers.{TextAnswer, read, syntax, too_deep, IsAnswerTo}
use Rattle.json_grammar.proofs.LawsOfTexts.{one_tree}
use Rattle.json_grammar.proofs.LawsLoop.{no_syntax_fault, no_depth_fault}

-- of two numbers one is less, or it is not
order : (a b : ℕ) → (a < b) ⊎ (b ≤ a)
order a b = by (nat_lt a b) refl
  where
    by : (t : Bool) → nat_lt a b ≡ t → (a < b) ⊎ (b ≤ a)
    by true e = inl (grind (arith, nat_tests))
    by false e = inr (grind (arith, nat_tests))

-- what begins with more bytes begins with fewer
begins : (bytes rest : List ℕ) (n m : ℕ) → n ≤ m
    → take m bytes ++ rest ≡ take n bytes ++ (drop n (take m bytes) ++ rest)
begins bytes rest n m h =
    ap (λ z. z ++ rest) (sym (take-append-drop n (take m bytes)))
    ∙ append_assoc (take n (take m bytes)) (drop n (take m bytes)) rest
    ∙ ap (λ z. z ++ (drop n (take m bytes) ++ rest)) (take-take n m bytes h)

front : (bytes : List ℕ) (n m : ℕ) → n ≤ m → IsPrefix (take m bytes) → IsPrefix (take n bytes)
front bytes n m h p = record {
  rest = drop n (take m bytes) ++ p.rest;
  tree = p.tree;
  text = subst (λ z. IsElement 0 z p.tree) (begins bytes p.rest n m h) p.text;
}

-- a place at which bytes stop to begin a text lies behind each beginning
not_before : (bytes : List ℕ) (a b : ℕ) → IsSyntaxFault bytes a → a < b → b ≤ length bytes → IsPrefix (take b bytes) → ⊥
not_before bytes a b f l w p = f.stuck (omega arith) (front bytes (suc a) b (omega arith) p)

pub one_syntax : (bytes : List ℕ) (a b : ℕ) → IsSyntaxFault bytes a → IsSyntaxFault bytes b → a ≡ b
one_syntax bytes a b f g =
    elim (order a b) [
      | inl l ↦ absurd (not_before bytes a b f l g.within g.sound)
      | inr m ↦
          elim (order b a) [ inl l ↦ absurd (not_before bytes b a g l f.within f.sound) | inr n ↦ omega arith ]
    ]

-- in a text that begins so, the first level too deep stands there
depth_in : (bytes rest : List ℕ) (t : Tree) (d n : ℕ) → IsDepthFault bytes d → suc d ≤ n
    → IsElement 0 (take n bytes ++ rest) t → first_past 16 t ≡ Some d
depth_in bytes rest t d n f h e =
    f.opens (drop (suc d) (take n bytes) ++ rest) t (subst (λ z. IsElement 0 z t) (begins bytes rest (suc d) n h) e)

one_depth_ordered : (bytes : List ℕ) (a b : ℕ) → IsDepthFault bytes a → IsDepthFault bytes b → a ≤ b → a ≡ b
one_depth_ordered bytes a b f g l =
    let p = g.sound in
    let x = depth_in bytes p.rest p.tree a (suc b) f (omega arith) p.text in
    let y = depth_in bytes p.rest p.tree b (suc b) g (omega arith) p.text in
    cc

pub one_depth : (bytes : List ℕ) (a b : ℕ) → IsDepthFault bytes a → IsDepthFault bytes b → a ≡ b
one_depth bytes a b f g =
    elim (order a b) [
      | inl l ↦ one_depth_ordered bytes a b f g (omega arith)
      | inr m ↦
          sym (one_depth_ordered bytes b a g f m)
    ]

pub syntax_or_depth : (bytes : List ℕ) (a d : ℕ) → IsSyntaxFault bytes a → IsShallow bytes a → IsDepthFault bytes d → ⊥
syntax_or_depth bytes a d f s g =
    elim (order d a) [
      | inl l ↦ later l
      | inr m ↦
          not_before bytes a (suc d) f (omega arith) (omega (arith, g.within)) g.sound
    ]
  where
    later : d < a → ⊥
    later l =
        let p = f.sound in
        let x = s p.rest p.tree p.text d (depth_in bytes p.rest p.tree d a g (omega arith) p.text) in
        omega arith

pub one_answer : (bytes : List ℕ) (a b : TextAnswer) → IsAnswerTo bytes a → IsAnswerTo bytes b → a ≡ b
one_answer bytes (read t) (read u) h g = ap read (one_tree bytes t u h.0 g.0)
one_answer bytes (read t) (syntax b) h g = absurd (no_syntax_fault bytes b t h.0 g.0)
one_answer bytes (read t) (too_deep b) h g = absurd (no_depth_fault bytes b t h.0 h.1 g)
one_answer bytes (syntax a) (read u) h g = absurd (no_syntax_fault bytes a u g.0 h.0)
one_answer bytes (syntax a) (syntax b) h g = ap syntax (one_syntax bytes a b h.0 g.0)
one_answer bytes (syntax a) (too_deep b) h g = absurd (syntax_or_depth bytes a b h.0 h.1 g)
one_answer bytes (too_deep a) (read u) h g = absurd (no_depth_fault bytes a u g.0 g.1 h)
one_answer bytes (too_deep a) (syntax b) h g = absurd (syntax_or_depth bytes b a g.0 g.1 h)
one_answer bytes (too_deep a) (too_deep b) h g = ap too_deep (one_depth bytes a b h g)
