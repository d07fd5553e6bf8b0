-- A node over whose entries others are written.
use Rattle.std.proofs.Common.{◌≡◌, ℕ, ◌+◌, ◌-◌, ◌<◌, ℤ, List, [], ◌∷◌, ◌++◌, length, map, get_or, take, drop}
use Rattle.std.proofs.Common.{sym, ap, subst, ◌∙◌, arith, length-append, length-drop, max}
use Rattle.std.proofs.lemmas.List.{length-map, length-take, take_all}
use Rattle.std.specs.declared.alloc.Global.{Global}
use Rattle.std.specs.declared.boxed.Box.{Box}
use Rattle.quantile_index.specs.declared.entry.Entry.{Entry}
use Rattle.quantile_index.specs.declared.tree.Node.{Node}
use Rattle.quantile_index.specs.declared.tree.Link.{Link}
use Rattle.quantile_index.specs.declared.tree.Link.TheVariants.{Leaf, Fork}
use Rattle.quantile_index.specs.Order.{IsOrdered}
use Rattle.quantile_index.specs.SortKeys.{entry_of}
use Rattle.quantile_index.specs.Tree.{entries_of, contents, IsSound}
use Rattle.quantile_index.proofs.HeightLemmas.{low_same}
use Rattle.quantile_index.proofs.OrderLemmas.{ordered_front, ordered_back}
use Rattle.quantile_index.proofs.KeyLemmas.{map_parts}

-- as many keys as the node has entries, and how many of them are for its left side
pub record IsShare (n : Node) (keys : List ℤ) (before : ℕ) : Type 0 where
  pub each : length keys ≡ length (entries_of n)
  pub left : before ≡ length n.left.0

count_of : (n : Node) → length (entries_of n) ≡ length n.left.0 + (1 + length n.right.0)
count_of n = let e = length-append n.left.0 (n.entry ∷ n.right.0) in omega (arith, e)

pub share_within : (n : Node) (keys : List ℤ) (b : ℕ) → IsShare n keys b → b < length keys
share_within n keys b h = omega (arith, h.each, h.left, count_of n)

pub share_left : (n : Node) (keys : List ℤ) (b : ℕ) → IsShare n keys b → length (take b keys) ≡ length n.left.0
share_left n keys b h = omega (arith, length-take b keys, h.each, h.left, count_of n)

-- the keys behind one of them
behind : (keys : List ℤ) (b : ℕ) → take (length keys - (b + 1)) (drop (b + 1) keys) ≡ drop (b + 1) keys
behind keys b = take_all (length keys - (b + 1)) (drop (b + 1) keys) (omega (arith, length-drop (b + 1) keys))

pub share_right : (n : Node) (keys : List ℤ) (b : ℕ) → IsShare n keys b
    → length (take (length keys - (b + 1)) (drop (b + 1) keys)) ≡ length n.right.0
share_right n keys b h =
    ap length (behind keys b) ∙ omega (arith, length-drop (b + 1) keys, h.each, h.left, count_of n)

pub ordered_share_left : (keys : List ℤ) (b : ℕ) (d : ℤ) → b < length keys → IsOrdered (map entry_of keys)
    → IsOrdered (map entry_of (take b keys))
ordered_share_left keys b d h o =
    ordered_front (map entry_of (take b keys)) (entry_of (get_or keys b d) ∷ map entry_of (drop (b + 1) keys))
    (subst IsOrdered (sym (map_parts keys b d h)) o)

pub ordered_share_right : (keys : List ℤ) (b : ℕ) (d : ℤ) → b < length keys → IsOrdered (map entry_of keys)
    → IsOrdered (map entry_of (take (length keys - (b + 1)) (drop (b + 1) keys)))
ordered_share_right keys b d h o =
    let rest = ordered_back (map entry_of (take b keys))
    (entry_of (get_or keys b d) ∷ map entry_of (drop (b + 1) keys))
    (subst IsOrdered (sym (map_parts keys b d h)) o) in
    subst (λ (xs : List ℤ). IsOrdered (map entry_of xs)) (sym (behind keys b)) rest.1

-- each side has fewer entries
pub sides_shorter : (n : Node) (keys : List ℤ) (b : ℕ) → IsShare n keys b → (length n.left.0 < length keys)
    × (length n.right.0 < length keys)
sides_shorter n keys b h = (omega (arith, h.each, count_of n), omega (arith, h.each, count_of n))

-- what a tree with this node at the top is given
pub IsShare-from : (root : Link) (n : Box Node Global) (view : List Entry × ℕ) (keys : List ℤ) (side : Node)
    (b : ℕ) → contents root ≡ view → root ≡ Fork n → length keys ≡ length view.0 → side ≡ n.value
    → b ≡ length side.left.0 → IsShare n.value keys b
IsShare-from root n view keys side b v r each s e = record {
  each = each ∙ ap (λ (w : List Entry × ℕ). length w.0) (sym v ∙ ap contents r);
  left = e ∙ ap (λ (m : Node). length m.left.0) s;
}

-- a tree without entries is given no keys
pub entries_leaf : (root : Link) (view : List Entry × ℕ) (keys : List ℤ) → contents root ≡ view → root ≡ Leaf
    → length keys ≡ length view.0 → (contents root).0 ≡ map entry_of keys
entries_leaf root view [] v r e = ap (λ (l : Link). (contents l).0) r
entries_leaf root view (p ∷ keys) v r e =
    let none : length view.0 ≡ 0 = ap (λ (w : List Entry × ℕ). length w.0) (sym v ∙ ap contents r) in
    absurd (omega (arith, e, none))

-- a node after its sides and its own entry were overwritten
pub record IsOverwritten (old new : Node) (keys : List ℤ) (b : ℕ) : Type 0 where
  pub share : IsShare old keys b
  pub left : new.left.0 ≡ map entry_of (take b keys)
  pub left_height : new.left.1 ≡ old.left.1
  pub default : ℤ
  pub entry : new.entry ≡ entry_of (get_or keys b default)
  pub right : new.right.0 ≡ map entry_of (take (length keys - (b + 1)) (drop (b + 1) keys))
  pub right_height : new.right.1 ≡ old.right.1
  pub size : new.size ≡ old.size
  pub height : new.height ≡ old.height

-- as the code goes on from one node to the next
pub IsOverwritten-from : (old first second third : Node) (left right : List Entry × ℕ) (entry : Entry)
    (keys : List ℤ) (b : ℕ) (d : ℤ) → IsShare old keys b → first ≡ old
    → second ≡ record first { left = left } → third ≡ record second { entry = entry }
    → left.0 ≡ map entry_of (take b keys) → left.1 ≡ first.left.1 → entry ≡ entry_of (get_or keys b d)
    → right.0 ≡ map entry_of (take (length keys - (b + 1)) (drop (b + 1) keys)) → right.1 ≡ third.right.1
    → IsOverwritten old (record third { right = right }) keys b
IsOverwritten-from old first second third left right entry keys b d share e1 e2 e3 l lh e r rh = record {
  share = share;
  left = ap (λ (n : Node). n.left.0) e3 ∙ ap (λ (n : Node). n.left.0) e2 ∙ l;
  left_height = ap (λ (n : Node). n.left.1) e3 ∙ ap (λ (n : Node). n.left.1) e2 ∙ lh ∙ ap (λ (n : Node). n.left.1) e1;
  default = d;
  entry = ap (λ (n : Node). n.entry) e3 ∙ e;
  right = r;
  right_height =
      rh ∙ ap (λ (n : Node). n.right.1) e3 ∙ ap (λ (n : Node). n.right.1) e2 ∙ ap (λ (n : Node). n.right.1) e1;
  size = ap (λ (n : Node). n.size) e3 ∙ ap (λ (n : Node). n.size) e2 ∙ ap (λ (n : Node). n.size) e1;
  height = ap (λ (n : Node). n.height) e3 ∙ ap (λ (n : Node). n.height) e2 ∙ ap (λ (n : Node). n.height) e1;
}

pub entries_overwritten : (old new : Node) (keys : List ℤ) (b : ℕ) → IsOverwritten old new keys b
    → entries_of new ≡ map entry_of keys
entries_overwritten old new keys b h =
    ap (λ (xs : List Entry). xs ++ new.entry ∷ new.right.0) h.left
    ∙ ap (λ (e : Entry). map entry_of (take b keys) ++ e ∷ new.right.0) h.entry
    ∙ ap (λ (xs : List Entry). map entry_of (take b keys) ++ entry_of (get_or keys b h.default) ∷ xs)
    (h.right ∙ ap (map entry_of) (behind keys b))
    ∙ map_parts keys b h.default (share_within old keys b h.share)

pub sound_overwritten : (old new : Node) (keys : List ℤ) (b : ℕ) → IsSound old → IsOrdered (map entry_of keys)
    → IsOverwritten old new keys b → IsSound new
sound_overwritten old new keys b s o h =
    let same = entries_overwritten old new keys b h in
    let count : length (entries_of new) ≡ length (entries_of old) =
    ap length same ∙ length-map keys entry_of ∙ h.share.each in
    let sides = s.balanced in
    record {
      ordered = subst IsOrdered (sym same) o;
      height = h.height ∙ s.height ∙ ap (λ (x : ℕ). max x old.right.1 + 1) (sym h.left_height)
          ∙ ap (λ (x : ℕ). max new.left.1 x + 1) (sym h.right_height);
      size = h.size ∙ s.size ∙ sym count;
      balanced = (
        omega (arith, sides.0, h.left_height, h.right_height),
        omega
            (arith, sides.1, h.left_height, h.right_height),
      );
      low = low_same new.height old.height (length (entries_of new)) (length (entries_of old)) s.low h.height count;
    }
