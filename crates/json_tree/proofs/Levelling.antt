-- A level, a tree or a member that is added last, as the builder keeps it and in the words of its definition.
use Rattle.std.proofs.Common.{◌≡◌, ℕ, ◌+◌, List, [], ◌∷◌, ◌++◌, refl, ◌∙◌, ap, rules, map, reverse}
use Rattle.std.proofs.lemmas.List.{reverse-append}
use Rattle.json_grammar.specs.Trees.{tree_view, trees_view, member_view, members_view, members_of}
use Rattle.json_grammar.specs.Tree.{no_trees, and_tree, and_member}
use Rattle.json_grammar.specs.declared.tree.Member.{Member, roll-Member, the_lemmas}
use Rattle.json_grammar.specs.declared.tree.Tree as Rust
use Rattle.json_grammar.specs.laws.Builder.{tree_last, member_last}
use Rattle.json_tree.specs.Building.{level_of, levels_of}
use Rattle.json_tree.specs.declared.builder.Level.{Level}

map_last : {A B : Type 0} (f : A → B) (xs : List A) (x : A) → map f (xs ++ x ∷ []) ≡ map f xs ++ f x ∷ []
map_last f [] x = refl
map_last f (y ∷ xs) x = ap (λ z. f y ∷ z) (map_last f xs x)

pub level_last : (xs : List Level) (x : Level) → levels_of (xs ++ x ∷ []) ≡ level_of x ∷ levels_of xs
level_last xs x = ap reverse (map_last level_of xs x) ∙ reverse-append (map level_of xs) (level_of x ∷ [])

pub trees_last : (xs : List Rust.Tree) (x : Rust.Tree)
    → trees_view (xs ++ x ∷ []) ≡ tree_last (trees_view xs) (and_tree (tree_view x) no_trees)
trees_last [] x = refl
trees_last (y ∷ xs) x = ap (and_tree (tree_view y)) (trees_last xs x)

pub members_last : (xs : List Member) (x : Member)
    → members_view (xs ++ x ∷ []) ≡ member_last (members_view xs) (members_of (member_view x ∷ []))
members_last [] x = refl
members_last (y ∷ xs) x =
    ap (and_member (member_view y).at (member_view y).end (member_view y).key (member_view y).value) (members_last xs x)

pub member_seen : (at end : ℕ) (k : List ℕ) (t : Rust.Tree)
    → member_view (roll-Member (record { at = at; end = end; key = k; value = t })) ≡ record {
      at = at;
      end = end;
      key = k;
      value = tree_view t;
    }
member_seen at end k t = search (rules, the_lemmas)

pub ruleset levelling = (level_last, trees_last, members_last, member_seen)
