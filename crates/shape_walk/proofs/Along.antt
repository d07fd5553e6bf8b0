-- The events of a tree tell its faults in the order of its text.
use Rattle.std.proofs.Common.{◌≡◌, ℕ, ◌+◌, List, [], ◌∷◌, ◌++◌, sym, ◌∙◌, ap, append_assoc, append-nil, zero-add}
use Rattle.std.proofs.Common.{add-zero, add_assoc, pred}
use Rattle.json_grammar.specs.Tree.{Tree, tree, Node, Trees, no_trees, and_tree, Members, no_members, and_member, Event}
use Rattle.json_grammar.specs.Tree.{finish, events_of, node_events, trees_events, members_events}
use Rattle.instance_model.specs.declared.limits.Limits.{Limits}
use Rattle.instance_shape.specs.declared.spot.Spot.{Spot}
use Rattle.instance_shape.specs.declared.spot.Spot.TheVariants as spot
use Rattle.instance_shape.specs.Keys.{Key, key_of}
use Rattle.instance_shape.specs.Shape.{kind_of, under, element}
use Rattle.instance_shape.specs.ShapeFaults.{own_faults, key_faults, keys_of, count_trees, too_few, is_risk}
use Rattle.instance_shape.specs.ShapeFaults.{is_workload}
use Rattle.shape_walk.specs.Machine.{Frame, outside, in_object, in_list, next_spot, behind, one_more, faults_along}
use Rattle.shape_walk.specs.Machine.{start}
use Rattle.shape_walk.proofs.TextOrder.{numbers_in, node_numbers, elements_numbers, members_numbers, in_order}
use Rattle.shape_walk.proofs.TextOrder.{node_in_order, elements_in_order, members_in_order, last_next}
use Rattle.shape_walk.proofs.Counting.{counted, more_counted, element_counted, few_counted, more_is, st}

mutual
  pub value_along : (limits : Limits) (t : Tree) (f : Frame) (around : List Frame) (r w : ℕ) (es : List Event)
      → faults_along limits (events_of t ++ es) (st f around r w)
      ≡ in_order limits (next_spot f) t r w ++ faults_along limits es
      (st (behind f) around (r + numbers_in is_risk (next_spot f) t) (w + numbers_in is_workload (next_spot f) t))
  value_along limits (tree at end n) f around r w es = node_along limits at end n f around r w es

  node_along : (limits : Limits) (at end : ℕ) (n : Node) (f : Frame) (around : List Frame) (r w : ℕ) (es : List Event)
      → faults_along limits (node_events at end n ++ es) (st f around r w)
      ≡ node_in_order limits (next_spot f) at end n r w ++ faults_along limits es
      (st (behind f) around (r + node_numbers is_risk (next_spot f) n) (w + node_numbers is_workload (next_spot f) n))
  node_along limits at end Node.null f around r w es = simp add-zero
  node_along limits at end (Node.boolean b) f around r w es = simp add-zero
  node_along limits at end (Node.text x) f around r w es = simp add-zero
  node_along limits at end (Node.number x) f around r w es = simp more_is
  node_along limits at end (Node.list ts) f around r w es =
      let s = next_spot f in
      let own = own_faults limits s at (Node.list no_trees) in
      let rest = faults_along limits es
      (st (behind f) around (r + elements_numbers is_risk s 0 ts) (w + elements_numbers is_workload s 0 ts)) in
      ap (λ x. own ++ faults_along limits x (st (in_list s 0) (f ∷ around) r w))
      (append_assoc (trees_events ts) (finish (pred end) ∷ []) es)
      ∙ ap (λ x. own ++ x) (elements_along limits ts s 0 (f ∷ around) r w (finish (pred end) ∷ es))
      ∙ ap (λ (n : ℕ). own
      ++ (elements_in_order limits s 0 ts r w ++ (too_few (kind_of s) (counted n) (pred end) ++ rest)))
      (zero-add (count_trees ts))
      ∙ ap (λ x. own ++ (elements_in_order limits s 0 ts r w ++ (x ++ rest)))
      (few_counted (kind_of s) (count_trees ts) (pred end))
      ∙ simp append_assoc
  node_along limits at end (Node.object ms) f around r w es =
      let s = next_spot f in
      let own = own_faults limits s at (Node.object no_members) in
      ap (λ x. own ++ faults_along limits x (st (in_object s [] spot.Skipped) (f ∷ around) r w))
      (append_assoc (members_events ms) (finish (pred end) ∷ []) es)
      ∙ ap (λ x. own ++ x) (members_along limits ms s [] spot.Skipped (f ∷ around) r w (finish (pred end) ∷ es))
      ∙ simp append_assoc

  elements_along : (limits : Limits) (ts : Trees) (s : Spot) (n : ℕ) (around : List Frame) (r w : ℕ) (es : List Event)
      → faults_along limits (trees_events ts ++ es) (st (in_list s (counted n)) around r w)
      ≡ elements_in_order limits s n ts r w ++ faults_along limits es (st (in_list s (counted (n + count_trees ts)))
      around (r + elements_numbers is_risk s n ts) (w + elements_numbers is_workload s n ts))
  elements_along limits no_trees s n around r w es = simp add-zero
  elements_along limits (and_tree t ts) s n around r w es =
      let rest = trees_events ts ++ es in
      let q = element s n in
      ap (λ x. faults_along limits x (st (in_list s (counted n)) around r w))
      (append_assoc (events_of t) (trees_events ts) es)
      ∙ value_along limits t (in_list s (counted n)) around r w rest
      ∙ ap (λ (p : Spot). in_order limits p t r w ++ faults_along limits rest (st (in_list s (one_more (counted n)))
      around (r + numbers_in is_risk p t) (w + numbers_in is_workload p t))) (element_counted s n)
      ∙ ap (λ (m : ℕ). in_order limits q t r w ++ faults_along limits rest
      (st (in_list s m) around (r + numbers_in is_risk q t) (w + numbers_in is_workload q t))) (more_counted n)
      ∙ ap (λ x. in_order limits q t r w ++ x)
      (elements_along limits ts s (n + 1) around (r + numbers_in is_risk q t) (w + numbers_in is_workload q t) es)
      ∙ simp (append_assoc, add_assoc)

  members_along : (limits : Limits) (ms : Members) (s : Spot) (ks : List Key) (nx : Spot) (around : List Frame)
      (r w : ℕ) (es : List Event)
      → faults_along limits (members_events ms ++ es) (st (in_object s ks nx) around r w)
      ≡ members_in_order limits s ks ms r w
      ++ faults_along limits es (st (in_object s (ks ++ keys_of (kind_of s) ms) (last_next s nx ms)) around
      (r + members_numbers is_risk s ms) (w + members_numbers is_workload s ms))
  members_along limits no_members s ks nx around r w es = simp (add-zero, append-nil)
  members_along limits (and_member at end k t ms) s ks nx around r w es =
      let more = ks ++ key_of (kind_of s) k in
      let q = under s k in
      ap (λ x. key_faults limits s ks at k ++ faults_along limits x (st (in_object s more q) around r w))
      (append_assoc (events_of t) (members_events ms) es)
      ∙ ap (λ x. key_faults limits s ks at k ++ x)
      (value_along limits t (in_object s more q) around r w (members_events ms ++ es)
      ∙ ap (λ x. in_order limits q t r w ++ x)
      (members_along limits ms s more q around (r + numbers_in is_risk q t) (w + numbers_in is_workload q t) es))
      ∙ simp (append_assoc, add_assoc)

-- the same of a whole text
pub text_along : (limits : Limits) (t : Tree)
    → faults_along limits (events_of t) start ≡ in_order limits spot.Root t 0 0
text_along limits t =
    ap (λ x. faults_along limits x start) (sym (append-nil (events_of t))) ∙ value_along limits t outside [] 0 0 []
    ∙ append-nil (in_order limits spot.Root t 0 0)
