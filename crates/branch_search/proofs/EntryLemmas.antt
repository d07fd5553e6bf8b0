-- The entries of what waits, once the first one is split.
use Rattle.std.proofs.Common.{◌≡◌, ℕ, zero, suc, ◌+◌, ◌<◌, ◌≤◌, ◌⊎◌, inl, inr, refl, sym, ◌∙◌, ap, subst, arith, ℤ, ◌^◌}
use Rattle.std.proofs.Common.{List, [], ◌∷◌, ◌++◌, length, get_or, All, Contains, Bool, true, false, cond, eqb, Option}
use Rattle.std.proofs.Common.{Some}
use Rattle.std.proofs.Common.{None, IfSome, unsigned_abs}
use Rattle.std.specs.Prelude.{IsPermutation}
use Rattle.std.proofs.lemmas.Bool.{eq-eqb, ne_eqb, cases_lt, cases_eq}
use Rattle.std.proofs.lemmas.List.{length-append, get_or_append_left, get_or-append-add}
use Rattle.std.proofs.lemmas.List.Elements.{All-nil, All-cons, All-head, All-tail}
use Rattle.std.proofs.lemmas.List.Sums.{sum_by-cons}
use Rattle.std.proofs.lemmas.List.Sorted.{IsPermutation-sym, All-permutation, Contains-permutation}
use Rattle.std.proofs.lemmas.List.Sorted.{sum_by_pushed, sum_by_popped, sum_by-IsPermutation}
use Rattle.lagrange_bound.specs.declared.span.Span.{Span}
use Rattle.certificate_tree.specs.declared.node.Node.{Node}
use Rattle.certificate_tree.specs.declared.node.Node.TheVariants.{Split, Cost, Point, Band, Excl, Empty}
use Rattle.certificate_tree.specs.Trees.{below, above}
use Rattle.branch_search.specs.declared.tree.cell.Cell.{Cell}
use Rattle.branch_search.specs.Tasks.{Task}
use Rattle.branch_search.specs.Growing.{node_at, box_at, split_cells, split_list}
use Rattle.branch_search.specs.Settled.{IsWorthOf}
use Rattle.branch_search.specs.Entries.{with_entry}
use Rattle.branch_search.specs.States.{IsEntry, entries_of, AreEntries}
use Rattle.branch_search.proofs.CellLemmas.{length_split, at_split, at_other, at_left, at_right, box_before, box_left}
use Rattle.branch_search.proofs.CellLemmas.{box_right, cost_is_no_split, Where, where_is}
use Rattle.branch_search.proofs.LeafLemmas.{none_is_not_some, some_is}

-- ---- two lists
pub all_front : {A : Type 0} (P : A → Type 0) (xs ys : List A) → All P (xs ++ ys) → All P xs
all_front P xs ys h k d l =
    subst P (get_or_append_left xs ys d k l) (h k d (omega (arith, l, length-append xs ys)))

pub all_back : {A : Type 0} (P : A → Type 0) (xs ys : List A) → All P (xs ++ ys) → All P ys
all_back P xs ys h k d l =
    subst P (get_or-append-add xs ys k d) (h (length xs + k) d (omega (arith, l, length-append xs ys)))

-- ---- counting
abbrev one_if : Bool → ℕ
one_if b = cond b 1 0

abbrev pub is_of : ℕ → ℤ × ℕ → ℕ
is_of k entry = cond (eqb entry.1 k) 1 0

none_counted : (n k : ℕ) (entries : List (ℤ × ℕ)) → All (λ entry. entry.1 < n) entries → n ≤ k
    → entries_of k entries ≡ 0
none_counted n k [] h l = refl
none_counted n k (e ∷ es) h l =
    let z = ap one_if (ne_eqb e.1 k
    (let m = All-head (λ (entry : ℤ × ℕ). entry.1 < n) e es h in λ f. omega (arith, f, m, l))) in
    let r = none_counted n k es (All-tail (λ (entry : ℤ × ℕ). entry.1 < n) e es h) l in
    let s = sum_by-cons (is_of k) e es in
    s ∙ omega (arith, z, r)

uncounted : (k : ℕ) (entries : List (ℤ × ℕ)) → entries_of k entries ≡ 0 → All (λ entry. entry.1 ≡ k → ⊥) entries
uncounted k [] h = All-nil (λ (entry : ℤ × ℕ). entry.1 ≡ k → ⊥)
uncounted k (e ∷ es) h =
    let s = sum_by-cons (is_of k) e es in
    All-cons (λ (entry : ℤ × ℕ). entry.1 ≡ k → ⊥) e es
    (λ f. let o = ap one_if (eq-eqb e.1 k f) in
    let t : is_of k e ≡ 1 = o in omega (arith, s, t, h))
    (uncounted k es (omega (arith, s, h)))

-- ---- one entry more
abbrev pub counted_in : Option ℤ → ℕ → ℕ → ℕ
counted_in None n k = 0
counted_in (Some z) n k = cond (eqb n k) 1 0

pub counted_with : (worth : Option ℤ) (n k : ℕ) (old new : List (ℤ × ℕ)) → IsPermutation (with_entry worth n old) new
    → entries_of k new ≡ counted_in worth n k + entries_of k old
counted_with None n k old new p = let e = sum_by-IsPermutation (is_of k) old new p in omega (arith, e)
counted_with (Some z) n k old new p = sum_by_pushed (is_of k) (z, n) old new p

pub counted_at_most : (worth : Option ℤ) (n k : ℕ) → counted_in worth n k ≤ 1
counted_at_most None n k = omega arith
counted_at_most (Some z) n k = at (eqb n k)
  where
    at : (b : Bool) → cond b 1 0 ≤ 1
    at true = omega arith
    at false = omega arith

pub counted_not : (worth : Option ℤ) (n k : ℕ) → (n ≡ k → ⊥) → counted_in worth n k ≡ 0
counted_not None n k d = refl
counted_not (Some z) n k d = ap one_if (ne_eqb n k d)

pub all_with : (P : ℤ × ℕ → Type 0) (worth : Option ℤ) (n : ℕ) (old new : List (ℤ × ℕ))
    → IsPermutation (with_entry worth n old) new → ((z : ℤ) → worth ≡ Some z → P (z, n)) → All P old → All P new
all_with P None n old new p here h = All-permutation P old new p h
all_with P (Some z) n old new p here h =
    All-permutation P ((z, n) ∷ old) new p (All-cons P (z, n) old (here z refl) h)

pub contains_with : (worth : Option ℤ) (n : ℕ) (old new : List (ℤ × ℕ)) (e : ℤ × ℕ)
    → IsPermutation (with_entry worth n old) new → Contains old e → Contains new e
contains_with None n old new e p h = Contains-permutation old new e p h
contains_with (Some z) n old new e p (k, l, f) = Contains-permutation ((z, n) ∷ old) new e p (
  suc k,
  omega (arith, l),
  f,
)

pub contains_new : (worth : Option ℤ) (n : ℕ) (old new : List (ℤ × ℕ)) (z : ℤ) → worth ≡ Some z
    → IsPermutation (with_entry worth n old) new → Contains new (z, n)
contains_new None n old new z e p = absurd (none_is_not_some z e)
contains_new (Some y) n old new z e p = Contains-permutation ((y, n) ∷ old) new (z, n) p
    (0, omega arith, ap (λ (x : ℤ). (x, n)) (some_is y z e))

-- ---- the worth of a leaf
pub worth_of_cost : (task : Task) (box : List Span) (node : Node) (worth : Option ℤ) (j : ℕ) → node ≡ Cost j
    → IsWorthOf task box node worth → worth ≡ Some (task.worths box j)
worth_of_cost task box node worth j e h = subst (λ (n : Node). IsWorthOf task box n worth) e h

pub cost_of_worth : (task : Task) (box : List Span) (node : Node) (worth : Option ℤ) (z : ℤ) → worth ≡ Some z
    → IsWorthOf task box node worth → (j : ℕ) × (node ≡ Cost j) × (z ≡ task.worths box j)
cost_of_worth task box (Split i m) worth z e h = absurd (none_is_not_some z (sym h ∙ e))
cost_of_worth task box (Cost j) worth z e h = (j, refl, some_is z (task.worths box j) (sym e ∙ h))
cost_of_worth task box Point worth z e h = absurd (none_is_not_some z (sym h ∙ e))
cost_of_worth task box (Band c t s) worth z e h = absurd (none_is_not_some z (sym h ∙ e))
cost_of_worth task box (Excl x) worth z e h = absurd (none_is_not_some z (sym h ∙ e))
cost_of_worth task box (Empty i) worth z e h = absurd (none_is_not_some z (sym h ∙ e))

pub small_of : (worth : Option ℤ) (z : ℤ) → worth ≡ Some z → IfSome worth (λ y. unsigned_abs y < 10 ^ 37)
    → unsigned_abs z < 10 ^ 37
small_of worth z e h = subst (λ (o : Option ℤ). IfSome o (λ y. unsigned_abs y < 10 ^ 37)) e h

-- ---- a popped entry
pub popped : {A : Type 0} (xs ys : List A) (x : A) → IsPermutation xs (x ∷ ys) → Contains xs x
popped xs ys x p = Contains-permutation (x ∷ ys) xs x (IsPermutation-sym xs (x ∷ ys) p) (0, omega arith, refl)

pub still_contained : (n k : ℕ) (z w : ℤ) (old rest : List (ℤ × ℕ)) → IsPermutation old ((z, n) ∷ rest)
    → Contains old (w, k) → (k ≡ n → ⊥) → Contains rest (w, k)
still_contained n k z w old rest p c d = at (Contains-permutation old ((z, n) ∷ rest) (w, k) p c)
  where
    at : Contains ((z, n) ∷ rest) (w, k) → Contains rest (w, k)
    at (zero, l, e) = absurd (d (sym (ap (λ (x : ℤ × ℕ). x.1) e)))
    at (suc i, l, e) = (i, omega (arith, l), e)

module _ (task : Task) (cells : List Cell) (boxes : List (List Span)) (n i m : ℕ) (a b : Node)
    (known : n < length cells) (each : length boxes ≡ length cells) where
  entry_kept : (e : ℤ × ℕ) → IsEntry task cells boxes e → (e.1 ≡ n → ⊥)
      → IsEntry task (split_cells cells n i m a b) (split_list boxes n i m) e
  entry_kept e h d = record {
    within = omega (arith, h.within, length_split cells n i m a b known);
    list = h.list;
    node = ap (λ (c : Cell). c.node) (at_other cells n i m a b known e.1 h.within d) ∙ h.node;
    worth = h.worth ∙ ap (λ (x : List Span). task.worths x h.list)
        (sym (box_before boxes n i m e.1 (omega (arith, h.within, each))));
    small = h.small;
  }

  pub entries_more : (z : ℤ) (left right : Option ℤ) (old rest mid new : List (ℤ × ℕ))
      → AreEntries task cells boxes old → IsPermutation old ((z, n) ∷ rest)
      → IsWorthOf task (below (box_at boxes n) i m) a left → IfSome left (λ y. unsigned_abs y < 10 ^ 37)
      → IsWorthOf task (above (box_at boxes n) i m) b right → IfSome right (λ y. unsigned_abs y < 10 ^ 37)
      → IsPermutation (with_entry left (length cells) rest) mid
      → IsPermutation (with_entry right (length cells + 1) mid) new
      → AreEntries task (split_cells cells n i m a b) (split_list boxes n i m) new
  entries_more z left right old rest mid new h p wl sl wr sr pl pr =
      record {
        sound = all_with (IsEntry task (split_cells cells n i m a b) (split_list boxes n i m)) right (length cells + 1)
            mid new pr right_sound
            (all_with (IsEntry task (split_cells cells n i m a b) (split_list boxes n i m)) left (length cells)
            rest mid pl left_sound rest_sound);
        complete = λ k j l e. complete k j e
            (where_is (length cells) n k (omega (arith, l, length_split cells n i m a b known)));
        once = λ k. once k;
      }
    where
      sound_after : All (IsEntry task cells boxes) ((z, n) ∷ rest)
      sound_after = All-permutation (IsEntry task cells boxes) old ((z, n) ∷ rest) p h.sound

      count_after : (k : ℕ) → entries_of k rest + is_of k (z, n) ≤ 1
      count_after k = let c = sum_by_popped (is_of k) (z, n) old rest p in let o = h.once k in omega (arith, c, o)

      n_is_out : entries_of n rest ≡ 0
      n_is_out = let c = count_after n in let t = ap one_if (eq-eqb n n refl) in
          let s : is_of n (z, n) ≡ 1 = t in omega (arith, c, s)

      rest_sound : All (IsEntry task (split_cells cells n i m a b) (split_list boxes n i m)) rest
      rest_sound = λ k d l. entry_kept (get_or rest k d)
          (All-tail (IsEntry task cells boxes) (z, n) rest sound_after k d l) (uncounted n rest n_is_out k d l)

      left_sound : (y : ℤ) → left ≡ Some y
          → IsEntry task (split_cells cells n i m a b) (split_list boxes n i m) (y, length cells)
      left_sound y e =
          let w = cost_of_worth task (below (box_at boxes n) i m) a left y e wl in
          record {
            within = omega (arith, length_split cells n i m a b known);
            list = w.0;
            node = ap (λ (c : Cell). c.node) (at_left cells n i m a b known (length cells) refl) ∙ w.1;
            worth = w.2 ∙ ap (λ (x : List Span). task.worths x w.0)
                (sym (box_left boxes n i m (length cells) each));
            small = small_of left y e sl;
          }

      right_sound : (y : ℤ) → right ≡ Some y
          → IsEntry task (split_cells cells n i m a b) (split_list boxes n i m) (y, length cells + 1)
      right_sound y e =
          let w = cost_of_worth task (above (box_at boxes n) i m) b right y e wr in
          record {
            within = omega (arith, length_split cells n i m a b known);
            list = w.0;
            node = ap (λ (c : Cell). c.node) (at_right cells n i m a b known (length cells + 1) refl) ∙ w.1;
            worth = w.2 ∙ ap (λ (x : List Span). task.worths x w.0)
                (sym (box_right boxes n i m (length cells + 1) (ap (λ (k : ℕ). k + 1) each)));
            small = small_of right y e sr;
          }

      -- the worth of a `cost` leaf that stood before
      old_entry : (k j : ℕ) → k < length cells → (k ≡ n → ⊥) → node_at (split_cells cells n i m a b) k ≡ Cost j
          → Contains new (task.worths (box_at (split_list boxes n i m) k) j, k)
      old_entry k j l d e =
          let f = ap (λ (c : Cell). c.node) (at_other cells n i m a b known k l d) in
          let c = h.complete k j l (sym f ∙ e) in
          let x = still_contained n k z (task.worths (box_at boxes k) j) old rest p c d in
          let y = contains_with right (length cells + 1) mid new (task.worths (box_at boxes k) j, k) pr
          (contains_with left (length cells) rest mid (task.worths (box_at boxes k) j, k) pl x) in
          subst (λ (t : List Span). Contains new (task.worths t j, k))
          (sym (box_before boxes n i m k (omega (arith, l, each)))) y

      left_entry : (k j : ℕ) → length cells ≡ k → node_at (split_cells cells n i m a b) k ≡ Cost j
          → Contains new (task.worths (box_at (split_list boxes n i m) k) j, k)
      left_entry k j q e =
          let f = ap (λ (c : Cell). c.node) (at_left cells n i m a b known k q) in
          let w = worth_of_cost task (below (box_at boxes n) i m) a left j (sym f ∙ e) wl in
          let x = contains_new left (length cells) rest mid (task.worths (below (box_at boxes n) i m) j) w pl in
          let y = contains_with right (length cells + 1) mid new
          (task.worths (below (box_at boxes n) i m) j, length cells) pr x in
          subst (λ (t : List Span). Contains new (task.worths t j, k)) (sym (box_left boxes n i m k (each ∙ q)))
          (subst (λ (t : ℕ). Contains new (task.worths (below (box_at boxes n) i m) j, t)) q y)

      right_entry : (k j : ℕ) → length cells + 1 ≡ k → node_at (split_cells cells n i m a b) k ≡ Cost j
          → Contains new (task.worths (box_at (split_list boxes n i m) k) j, k)
      right_entry k j q e =
          let f = ap (λ (c : Cell). c.node) (at_right cells n i m a b known k q) in
          let w = worth_of_cost task (above (box_at boxes n) i m) b right j (sym f ∙ e) wr in
          let y = contains_new right (length cells + 1) mid new (task.worths (above (box_at boxes n) i m) j) w pr in
          subst (λ (t : List Span). Contains new (task.worths t j, k))
          (sym (box_right boxes n i m k (ap (λ (x : ℕ). x + 1) each ∙ q)))
          (subst (λ (t : ℕ). Contains new (task.worths (above (box_at boxes n) i m) j, t)) q y)

      complete : (k j : ℕ) → node_at (split_cells cells n i m a b) k ≡ Cost j → Where (length cells) n k
          → Contains new (task.worths (box_at (split_list boxes n i m) k) j, k)
      complete k j e (inl q) = absurd (cost_is_no_split (node_at (split_cells cells n i m a b) k) i m j
          (ap (λ (t : ℕ). node_at (split_cells cells n i m a b) t) q
          ∙ ap (λ (c : Cell). c.node) (at_split cells n i m a b known)) e)
      complete k j e (inr (inl (l, d))) = old_entry k j l d e
      complete k j e (inr (inr (inl q))) = left_entry k j q e
      complete k j e (inr (inr (inr q))) = right_entry k j q e

      below_count : All (λ (e : ℤ × ℕ). e.1 < length cells) rest
      below_count = λ k d l. (All-tail (IsEntry task cells boxes) (z, n) rest sound_after k d l).within

      once : (k : ℕ) → entries_of k new ≤ 1
      once k = at (cases_lt k (length cells)) (cases_eq (length cells) k)
        where
          total : entries_of k new ≡ counted_in right (length cells + 1) k
              + (counted_in left (length cells) k + entries_of k rest)
          total = counted_with right (length cells + 1) k mid new pr
              ∙ ap (λ (x : ℕ). counted_in right (length cells + 1) k + x)
              (counted_with left (length cells) k rest mid pl)

          at : (k < length cells) ⊎ (length cells ≤ k) → (length cells ≡ k) ⊎ (length cells ≡ k → ⊥)
              → entries_of k new ≤ 1
          at (inl l) o =
              let u = counted_not right (length cells + 1) k (λ e. omega (arith, e, l)) in
              let v = counted_not left (length cells) k (λ e. omega (arith, e, l)) in
              let c = count_after k in
              omega (arith, total, u, v, c)
          at (inr l) (inl q) =
              let u = counted_not right (length cells + 1) k (λ e. omega (arith, e, q)) in
              let v = counted_at_most left (length cells) k in
              let r = none_counted (length cells) k rest below_count l in
              omega (arith, total, u, v, r)
          at (inr l) (inr d) =
              let u = counted_at_most right (length cells + 1) k in
              let v = counted_not left (length cells) k d in
              let r = none_counted (length cells) k rest below_count l in
              omega (arith, total, u, v, r)
