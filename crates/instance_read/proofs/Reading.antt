-- What is kept of a value without a fault that is read: of a whole number, a number of 10^-6, a count.
use Rattle.std.proofs.Common.{◌≡◌, ℕ, ℤ, pos, ◌&&◌, Bool, true, false, not, List, [], Option, Some, None, refl, sym}
use Rattle.std.proofs.Common.{◌∙◌, ap, subst, is_some, unwrap_or, option_map}
use Rattle.std.specs.Prelude.{is_none, nat_le}
use Rattle.json_grammar.specs.Tree.{Tree, tree, Node, Event}
use Rattle.decimal_numbers.specs.Exact.{whole, millionths, fixed}
use Rattle.instance_model.specs.declared.limits.Limits.{Limits}
use Rattle.instance_shape.specs.declared.fault.Flaw.TheVariants as flaw
use Rattle.instance_shape.specs.declared.spot.Spot.{Spot}
use Rattle.instance_shape.specs.declared.spot.Kind.{Kind}
use Rattle.instance_shape.specs.declared.spot.Kind.TheVariants as kind
use Rattle.instance_shape.specs.Shape.{kind_of, has_shape, is_part}
use Rattle.instance_shape.specs.ShapeFaults.{where_so, value_rows}
use Rattle.instance_shape.specs.LookUp.{whole_at, part_at, count_at, differs_at}
use Rattle.instance_shape.proofs.Clear.{IsClear, own_clear, clear_left, clear_right, is_so, not_so}
use Rattle.shape_walk.specs.Kept.{keep_value, keep_node}
use Rattle.shape_walk.specs.Reads.{read_of, read_of_number, read_of_text, count_read, whole_read, millionths_read}
use Rattle.instance_read.specs.Keeping.{with_count, with_whole, with_millionths}

-- a value without a fault has its shape
pub shaped : (limits : Limits) (s : Spot) (kd : Kind) (at end : ℕ) (n : Node) → kind_of s ≡ kd
    → IsClear limits s (tree at end n) → has_shape kd n ≡ true
shaped limits s kd at end n k h =
    subst (λ (q : Kind). has_shape q n ≡ true) k
    (is_so (has_shape (kind_of s) n) at flaw.Shape (clear_left (where_so (not (has_shape (kind_of s) n)) at flaw.Shape)
    (value_rows limits s (kind_of s) at n) (own_clear limits s at end n h)))

-- and the rest of what it is judged by
judged : (limits : Limits) (s : Spot) (kd : Kind) (at end : ℕ) (n : Node) → kind_of s ≡ kd
    → IsClear limits s (tree at end n) → value_rows limits s kd at n ≡ []
judged limits s kd at end n k h =
    subst (λ (q : Kind). value_rows limits s q at n ≡ []) k
    (clear_right (where_so (not (has_shape (kind_of s) n)) at flaw.Shape) (value_rows limits s (kind_of s) at n)
    (own_clear limits s at end n h))

-- ---- whole numbers

module _ {A : Type 0} (keep : Spot → Event → A → A) (s : Spot) (make : ℕ → A → A) (k : kind_of s ≡ kind.Whole)
    (reads : (e : Event) (a : A) → keep s e a ≡ with_whole make (read_of s e) a) (limits : Limits) where
  some_whole : (o : Option ℕ) (a : A) → is_some o ≡ true → with_whole make (whole_read o) a ≡ make (unwrap_or o 0) a
  some_whole None a h = cc
  some_whole (Some n) a h = refl

  whole_node : (at end : ℕ) (n : Node) (a : A) → is_some (whole n) ≡ true
      → keep_node keep s at end n a ≡ make (unwrap_or (whole n) 0) a
  unfolding whole
  whole_node at end (Node.number x) a h =
      reads (Event.number at x) a ∙ ap (λ q. with_whole make (read_of_number q x) a) k
      ∙ some_whole (whole (Node.number x)) a h
  whole_node at end (Node.text x) a h =
      reads (Event.text at end x) a ∙ ap (λ q. with_whole make (read_of_text q x) a) k
      ∙ some_whole (whole (Node.text x)) a h
  whole_node at end Node.null a h = cc
  whole_node at end (Node.boolean b) a h = cc
  whole_node at end (Node.list ts) a h = cc
  whole_node at end (Node.object ms) a h = cc

  pub whole_kept : (t : Tree) (a : A) → IsClear limits s t → keep_value keep s t a ≡ make (whole_at t) a
  whole_kept (tree at end n) a h = whole_node at end n a (shaped limits s kind.Whole at end n k h)

-- ---- numbers of 10^-6

module _ {A : Type 0} (keep : Spot → Event → A → A) (s : Spot) (make : ℕ → A → A) (least : ℕ)
    (parts : (n : Node) → has_shape (kind_of s) n ≡ is_part least n)
    (reads_part : (x : List ℕ) → read_of_number (kind_of s) x ≡ millionths_read (millionths x))
    (reads : (e : Event) (a : A) → keep s e a ≡ with_millionths make (read_of s e) a) (limits : Limits) where
  some_part : (o : Option ℕ) (a : A) → unwrap_or (option_map (λ m. nat_le least m && nat_le m 1_000_000) o) false ≡ true
      → with_millionths make (millionths_read o) a ≡ make (unwrap_or o 0) a
  some_part None a h = cc
  some_part (Some n) a h = refl

  part_node : (at end : ℕ) (n : Node) (a : A) → is_part least n ≡ true
      → keep_node keep s at end n a ≡ make (part_at (tree at end n)) a
  part_node at end (Node.number x) a h =
      reads (Event.number at x) a ∙ ap (λ r. with_millionths make r a) (reads_part x) ∙ some_part (millionths x) a h
  part_node at end Node.null a h = cc
  part_node at end (Node.boolean b) a h = cc
  part_node at end (Node.text x) a h = cc
  part_node at end (Node.list ts) a h = cc
  part_node at end (Node.object ms) a h = cc

  pub part_kept : (t : Tree) (a : A) → IsClear limits s t → keep_value keep s t a ≡ make (part_at t) a
  part_kept (tree at end n) a h = part_node at end n a (sym (parts n) ∙ shaped limits s (kind_of s) at end n refl h)

-- ---- counts

module _ {A : Type 0} (keep : Spot → Event → A → A) (s : Spot) (make : ℤ → Bool → A → A) (k : kind_of s ≡ kind.Count)
    (reads : (e : Event) (a : A) → keep s e a ≡ with_count make (read_of s e) a) (limits : Limits) where
  some_count : (o : Option (ℤ × Bool)) (a : A) → is_none o ≡ false → with_count make (count_read o) a
      ≡ make (unwrap_or (option_map (λ f. f.0) o) (pos 0)) (unwrap_or (option_map (λ f. f.1) o) false) a
  some_count None a h = cc
  some_count (Some f) a h = refl

  count_node : (at end : ℕ) (n : Node) (a : A) → has_shape kind.Count n ≡ true → value_rows limits s kind.Count at n
      ≡ [] → keep_node keep s at end n a ≡ make (count_at (tree at end n)) (differs_at (tree at end n)) a
  count_node at end (Node.number x) a h j =
      reads (Event.number at x) a ∙ ap (λ q. with_count make (read_of_number q x) a) k
      ∙ some_count (fixed x) a (not_so (is_none (fixed x)) at flaw.TooLarge j)
  count_node at end Node.null a h j = cc
  count_node at end (Node.boolean b) a h j = cc
  count_node at end (Node.text x) a h j = cc
  count_node at end (Node.list ts) a h j = cc
  count_node at end (Node.object ms) a h j = cc

  pub count_kept : (t : Tree) (a : A) → IsClear limits s t → keep_value keep s t a ≡ make (count_at t) (differs_at t) a
  count_kept (tree at end n) a h =
      count_node at end n a (shaped limits s kind.Count at end n k h) (judged limits s kind.Count at end n k h)
