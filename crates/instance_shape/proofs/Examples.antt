-- The faults of shape of small texts, and the multiples of a number, worked out by hand.
use Rattle.std.proofs.Common.{◌≡◌, ℕ, ◌+◌, ◌*◌, List, [], ◌∷◌, true, refl, subst, arith, ℤ, pos}
use Rattle.std.specs.Prelude.{neg_ℤ}
use Rattle.decimal_numbers.specs.Decimal.{numerator, denominator}
use Rattle.json_grammar.specs.Grammar.{Parts, parts, HasParts}
use Rattle.json_grammar.specs.Token.{parts_of}
use Rattle.json_grammar.specs.Tree.{Tree, tree, Node, no_trees, no_members, and_member}
use Rattle.json_grammar.proofs.Tokens.{parts_sound, one_parts}
use Rattle.instance_model.specs.declared.limits.Limits.{Limits}
use Rattle.instance_shape.specs.declared.fault.Fault.{Fault}
use Rattle.instance_shape.specs.declared.fault.Known.TheVariants as known
use Rattle.instance_shape.specs.declared.fault.Flaw.TheVariants as flaw
use Rattle.instance_shape.specs.declared.fault.Which.TheVariants as which
use Rattle.instance_shape.specs.OwnNumbers.{IsMultiple}
use Rattle.instance_shape.specs.ShapeFaults.{shape_faults}

abbrev at : ℕ → flaw.the_data → Fault
at n f = record { at = n; flaw = f }

abbrev number : ℕ → Tree
number n = tree n (n + 1) (Node.number (49 ∷ []))

-- {"x":1,"x":2}
double_key : (limits : Limits)
    → shape_faults limits (tree 0 13
    (Node.object (and_member 1 4 (120 ∷ []) (number 5) (and_member 7 10 (120 ∷ []) (number 11) no_members))))
    ≡ at 7 flaw.Double ∷ at 12 (flaw.Missing known.Resources) ∷ []
double_key limits = refl

-- []
no_object : (limits : Limits) → shape_faults limits (tree 0 2 (Node.list no_trees)) ≡ at 0 flaw.Shape ∷ []
no_object limits = refl

-- {"Resources":{"":{"max":0}}}: the name, the list, and both missing keys
bad_name : (limits : Limits)
    → shape_faults (record limits { resources = 5 })
    (tree 0 29
    (Node.object
    (and_member 1 12 (82 ∷ 101 ∷ 115 ∷ 111 ∷ 117 ∷ 114 ∷ 99 ∷ 101 ∷ 115 ∷ [])
    (tree 13 28
    (Node.object
    (and_member 14 16 [] (tree 17 26 (Node.object (and_member 18 23 (109 ∷ 97 ∷ 120 ∷ []) (number 24) no_members)))
    no_members))) no_members)))
    ≡ at 28 (flaw.Missing known.Seasons) ∷ at 14 flaw.BadName ∷ at 25 (flaw.Missing known.Min) ∷ at 24 flaw.Shape ∷ []
bad_name limits = refl

-- with no resource allowed, the first key is past the limit
past_key : (limits : Limits)
    → shape_faults (record limits { resources = 0 })
    (tree 0 29
    (Node.object (and_member 1 12 (82 ∷ 101 ∷ 115 ∷ 111 ∷ 117 ∷ 114 ∷ 99 ∷ 101 ∷ 115 ∷ [])
    (tree 13 28 (Node.object (and_member 14 17 (99 ∷ []) (tree 17 26 (Node.list no_trees)) no_members))) no_members)))
    ≡ at 28 (flaw.Missing known.Seasons) ∷ at 14 (flaw.Limit which.Resources) ∷ at 17 flaw.Shape ∷ []
past_key limits = refl

-- -1.25e-1 is -1250 times 10^-4, and no whole multiple of 10^-2
token : List ℕ
token = 45 ∷ 49 ∷ 46 ∷ 50 ∷ 53 ∷ 101 ∷ 45 ∷ 49 ∷ []

token_parts : HasParts token (parts true (49 ∷ []) (50 ∷ 53 ∷ []) true (49 ∷ []))
unfolding token parts_of
token_parts = parts_sound token _ refl

four_places : IsMultiple 4 token (neg_ℤ (pos 1250))
four_places = record { parts = _; token_parts = token_parts; size = 1250; exact = refl; z_is = refl }

two_places : (z : ℤ) → IsMultiple 2 token z → ⊥
two_places z m =
    let same = one_parts m.token_parts token_parts in
    let exact = subst (λ (p : Parts). m.size * denominator p ≡ numerator p 2) same m.exact in
    omega (arith, exact)
