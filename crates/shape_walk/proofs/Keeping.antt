-- What is kept of the events of a tree, one after another, is what is kept of the tree.
use Rattle.std.proofs.Common.{◌≡◌, ℕ, ◌+◌, List, [], ◌∷◌, ◌++◌, true, false, refl, sym, ◌∙◌, ap, append_assoc}
use Rattle.std.proofs.Common.{append-nil, add-zero, add_assoc, pred, Option, Some, None}
use Rattle.json_grammar.specs.Tree.{Tree, tree, Node, Trees, no_trees, and_tree, Members, no_members, and_member, Event}
use Rattle.json_grammar.specs.Tree.{begin, finish, key, events_of, node_events, trees_events, members_events}
use Rattle.instance_shape.specs.declared.fault.Fault.{Fault}
use Rattle.instance_shape.specs.declared.spot.Spot.{Spot}
use Rattle.instance_shape.specs.declared.spot.Spot.TheVariants as spot
use Rattle.instance_shape.specs.Keys.{Key, key_of}
use Rattle.instance_shape.specs.Shape.{kind_of, under, element}
use Rattle.instance_shape.specs.ShapeFaults.{keys_of, count_trees, is_risk, is_workload}
use Rattle.shape_walk.specs.Machine.{Frame, outside, in_object, in_list, State, next_spot, behind, one_more, step}
use Rattle.shape_walk.specs.Machine.{start, state_along}
use Rattle.shape_walk.specs.Kept.{event_spot, spot_after, kept_from, kept, keep_value, keep_node, keep_elements}
use Rattle.shape_walk.specs.Kept.{keep_members}
use Rattle.shape_walk.specs.Standing.{Walk}
use Rattle.shape_walk.proofs.TextOrder.{numbers_in, node_numbers, elements_numbers, members_numbers, last_next}
use Rattle.shape_walk.proofs.Counting.{counted, more_counted, element_counted, more_is, st}

mutual
  value_kept : {A : Type 0} (keep : Spot → Event → A → A) (t : Tree) (f : Frame) (around : List Frame) (r w : ℕ)
      (es : List Event) (a : A)
      → kept_from keep (events_of t ++ es) (st f around r w) a
      ≡ kept_from keep es (st (behind f) around (r + numbers_in is_risk (next_spot f) t)
      (w + numbers_in is_workload (next_spot f) t)) (keep_value keep (next_spot f) t a)
  value_kept keep (tree at end n) f around r w es a = node_kept keep at end n f around r w es a

  node_kept : {A : Type 0} (keep : Spot → Event → A → A) (at end : ℕ) (n : Node) (f : Frame) (around : List Frame)
      (r w : ℕ) (es : List Event) (a : A)
      → kept_from keep (node_events at end n ++ es) (st f around r w) a
      ≡ kept_from keep es (st (behind f) around (r + node_numbers is_risk (next_spot f) n)
      (w + node_numbers is_workload (next_spot f) n)) (keep_node keep (next_spot f) at end n a)
  node_kept keep at end Node.null f around r w es a = simp add-zero
  node_kept keep at end (Node.boolean b) f around r w es a = simp add-zero
  node_kept keep at end (Node.text x) f around r w es a = simp add-zero
  node_kept keep at end (Node.number x) f around r w es a = simp more_is
  node_kept keep at end (Node.list ts) f around r w es a =
      let s = next_spot f in
      ap (λ x. kept_from keep x (st (in_list s 0) (f ∷ around) r w) (keep s (begin at false) a))
      (append_assoc (trees_events ts) (finish (pred end) ∷ []) es)
      ∙ elements_kept keep ts s 0 (f ∷ around) r w (finish (pred end) ∷ es) (keep s (begin at false) a)
  node_kept keep at end (Node.object ms) f around r w es a =
      let s = next_spot f in
      ap (λ x. kept_from keep x (st (in_object s [] spot.Skipped) (f ∷ around) r w) (keep s (begin at true) a))
      (append_assoc (members_events ms) (finish (pred end) ∷ []) es)
      ∙ members_kept keep ms s [] spot.Skipped (f ∷ around) r w (finish (pred end) ∷ es) (keep s (begin at true) a)

  elements_kept : {A : Type 0} (keep : Spot → Event → A → A) (ts : Trees) (s : Spot) (n : ℕ) (around : List Frame)
      (r w : ℕ) (es : List Event) (a : A)
      → kept_from keep (trees_events ts ++ es) (st (in_list s (counted n)) around r w) a
      ≡ kept_from keep es (st (in_list s (counted (n + count_trees ts))) around (r + elements_numbers is_risk s n ts)
      (w + elements_numbers is_workload s n ts)) (keep_elements keep s n ts a)
  elements_kept keep no_trees s n around r w es a = simp add-zero
  elements_kept keep (and_tree t ts) s n around r w es a =
      let rest = trees_events ts ++ es in
      let q = element s n in
      ap (λ x. kept_from keep x (st (in_list s (counted n)) around r w) a)
      (append_assoc (events_of t) (trees_events ts) es)
      ∙ value_kept keep t (in_list s (counted n)) around r w rest a
      ∙ ap (λ (p : Spot). kept_from keep rest (st (in_list s (one_more (counted n))) around (r + numbers_in is_risk p t)
      (w + numbers_in is_workload p t)) (keep_value keep p t a)) (element_counted s n)
      ∙ ap (λ (m : ℕ). kept_from keep rest (st (in_list s m) around (r + numbers_in is_risk q t)
      (w + numbers_in is_workload q t)) (keep_value keep q t a)) (more_counted n)
      ∙ elements_kept keep ts s (n + 1) around (r + numbers_in is_risk q t) (w + numbers_in is_workload q t) es
      (keep_value keep q t a)
      ∙ simp add_assoc

  members_kept : {A : Type 0} (keep : Spot → Event → A → A) (ms : Members) (s : Spot) (ks : List Key) (nx : Spot)
      (around : List Frame) (r w : ℕ) (es : List Event) (a : A)
      → kept_from keep (members_events ms ++ es) (st (in_object s ks nx) around r w) a
      ≡ kept_from keep es (st (in_object s (ks ++ keys_of (kind_of s) ms) (last_next s nx ms)) around
      (r + members_numbers is_risk s ms) (w + members_numbers is_workload s ms)) (keep_members keep s ms a)
  members_kept keep no_members s ks nx around r w es a = simp (add-zero, append-nil)
  members_kept keep (and_member at end k t ms) s ks nx around r w es a =
      let more = ks ++ key_of (kind_of s) k in
      let q = under s k in
      ap (λ x. kept_from keep x (st (in_object s more q) around r w) (keep s (key at end k) a))
      (append_assoc (events_of t) (members_events ms) es)
      ∙ value_kept keep t (in_object s more q) around r w (members_events ms ++ es) (keep s (key at end k) a)
      ∙ members_kept keep ms s more q around (r + numbers_in is_risk q t) (w + numbers_in is_workload q t) es
      (keep_value keep q t (keep s (key at end k) a))
      ∙ simp (append_assoc, add_assoc)

-- what is kept of the events of a text is what is kept of its tree
pub text_kept : {A : Type 0} (keep : Spot → Event → A → A) (t : Tree) (a : A)
    → kept keep (events_of t) a ≡ keep_value keep spot.Root t a
text_kept keep t a = ap (λ x. kept keep x a) (sym (append-nil (events_of t))) ∙ value_kept keep t outside [] 0 0 [] a

more_from : {A : Type 0} (keep : Spot → Event → A → A) (es : List Event) (e : Event) (s : State) (a : A)
    → kept_from keep (es ++ e ∷ []) s a ≡ keep (event_spot e (state_along es s).top) e (kept_from keep es s a)
more_from keep [] e s a = refl
more_from keep (d ∷ es) e s a = more_from keep es e (step d s) (keep (event_spot d s.top) d a)

-- with one event more, the last one is kept last, at its spot
pub kept_more : {A : Type 0} (keep : Spot → Event → A → A) (es : List Event) (e : Event) (a : A)
    → kept keep (es ++ e ∷ []) a ≡ keep (spot_after es e) e (kept keep es a)
kept_more keep es e a = more_from keep es e start a

-- where a walk has no fault behind an event, it had none before it, as `take` keeps a fault
pub none_before : (old new : Walk) → ((f : Fault) → old.fault ≡ Some f → new ≡ old)
    → new.fault ≡ None → old.fault ≡ None
none_before old new keeps none = by old.fault refl
  where
    by : (o : Option Fault) → old.fault ≡ o → o ≡ None
    by None e = refl
    by (Some f) e = let same : new.fault ≡ Some f = ap (λ (w : Walk). w.fault) (keeps f e) ∙ e in cc
