-- A part of what is kept that only the value under one key of the root fills.
use Rattle.std.proofs.Common.{◌≡◌, ℕ, Bool, true, false, cond, [], Option, Some, None, refl, sym, ◌∙◌, ap, subst}
use Rattle.std.proofs.Common.{bytes_eq, unwrap_or, pred}
use Rattle.std.specs.Prelude.{slice_index_or, length, ◌<◌}
use Rattle.std.proofs.lemmas.Slice.Eq.{bytes_eq-Decides}
use Rattle.json_grammar.specs.Tree.{Tree, tree, Node, Members, no_members, and_member, Event, begin, finish, key}
use Rattle.instance_model.specs.declared.limits.Limits.{Limits}
use Rattle.instance_shape.specs.declared.fault.Known.{Known}
use Rattle.instance_shape.specs.declared.spot.Spot.{Spot}
use Rattle.instance_shape.specs.declared.spot.Spot.TheVariants as spot
use Rattle.instance_shape.specs.Keys.{text_of}
use Rattle.instance_shape.specs.Shape.{under, required}
use Rattle.instance_shape.specs.ShapeFaults.{keys_faults}
use Rattle.instance_shape.specs.LookUp.{entry_list, at_key, known}
use Rattle.instance_shape.proofs.Clear.{IsClear, clear_left, inside_clear}
use Rattle.instance_shape.proofs.ClearParts.{HasValue, root_has, at_key_clear}
use Rattle.shape_walk.specs.Kept.{keep_value, keep_members}
use Rattle.instance_read.proofs.Branches.{is_beside, are_others, among_other, beside_under, beside_element}
use Rattle.instance_read.proofs.Carried.{value_idle}
use Rattle.instance_read.proofs.Once.{through, with_value, through_once}

module _ {A : Type 0} (keep : Spot → Event → A → A) (n : ℕ) (k : Known) (s : Spot)
    (aside : is_beside n spot.Skipped ≡ true)
    (others : are_others n (text_of k) (required spot.Root) ≡ true)
    (here : under spot.Root (text_of k) ≡ s)
    (idle : (q : Spot) (e : Event) (a : A) → is_beside n q ≡ true → keep q e a ≡ a)
    (at_root : (e : Event) (a : A) → keep spot.Root e a ≡ a) where
  beside : (q : Spot) (t : Tree) (a : A) → is_beside n q ≡ true → keep_value keep q t a ≡ a
  beside q t a h = value_idle keep (is_beside n) (beside_under n aside) (beside_element n aside) idle q t a h

  root_members : (ms : Members) (a : A)
      → keep_members keep spot.Root ms a ≡ through (text_of k) (keep_value keep s) (entry_list ms) a
  root_members no_members a = refl
  root_members (and_member at end x t ms) a =
      ap (λ b. keep_members keep spot.Root ms (keep_value keep (under spot.Root x) t b)) (at_root (key at end x) a)
      ∙ ap (keep_members keep spot.Root ms) (by (bytes_eq (text_of k) x) refl)
      ∙ root_members ms (cond (bytes_eq (text_of k) x) (keep_value keep s t a) a)
    where
      by : (b : Bool) → bytes_eq (text_of k) x ≡ b
          → keep_value keep (under spot.Root x) t a ≡ cond b (keep_value keep s t a) a
      by true e =
          ap (λ q. keep_value keep q t a) (ap (under spot.Root) (sym ((bytes_eq-Decides (text_of k) x).0 e)) ∙ here)
      by false e = beside (under spot.Root x) t a (among_other n (text_of k) x (required spot.Root) others aside e)

  found : (o : Option Tree) (v : Tree) (a : A) → o ≡ Some v
      → with_value (keep_value keep s) o a ≡ keep_value keep s (unwrap_or o (tree 0 0 Node.null)) a
  found None v a e = cc
  found (Some t) v a e = refl

  -- what is kept of a text without a fault is what is kept of the value under the key
  pub root_kept : (limits : Limits) (root v : Tree) (a : A) → IsClear limits spot.Root root
      → at_key (text_of k) root ≡ Some v → keep_value keep spot.Root root a ≡ keep_value keep s (known k root) a
  root_kept limits (tree at end (Node.object ms)) v a h e =
      at_root (finish (pred end)) _
      ∙ ap (keep_members keep spot.Root ms) (at_root (begin at true) a)
      ∙ root_members ms a
      ∙ through_once limits spot.Root (λ x. refl) (text_of k) (keep_value keep s) [] ms a
      (clear_left (keys_faults limits spot.Root [] ms) _ (inside_clear limits spot.Root at end (Node.object ms) h))
      ∙ found (at_key (text_of k) (tree at end (Node.object ms))) v a e
  root_kept limits (tree at end _) v a h e = cc

-- the value under a required key of the root of a text without a fault, which has no fault either
pub record HasPart (limits : Limits) (k : Known) (s : Spot) (root : Tree) : Type 0 where
  pub value : Tree
  pub found : at_key (text_of k) root ≡ Some value
  pub clear : IsClear limits s (known k root)

pub root_part : (limits : Limits) (root : Tree) (i : ℕ) (k : Known) (s : Spot) → IsClear limits spot.Root root
    → i < length (required spot.Root) → slice_index_or (required spot.Root) i (k, s) ≡ (k, s)
    → under spot.Root (text_of k) ≡ s → HasPart limits k s root
root_part limits root i k s h l e u =
    let has : HasValue (text_of k) root =
    subst (λ (r : Known × Spot). HasValue (text_of r.0) root) e (root_has limits root h i (k, s) l) in
    record {
      value = has.value;
      found = has.found;
      clear = subst (λ (t : Tree). IsClear limits s t) (sym (ap (λ o. unwrap_or o (tree 0 0 Node.null)) has.found))
          (subst (λ (q : Spot). IsClear limits q has.value) u
          (at_key_clear limits spot.Root (text_of k) root has.value h has.found));
    }
