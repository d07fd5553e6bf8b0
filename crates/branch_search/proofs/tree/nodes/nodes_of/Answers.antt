use Rattle.std.proofs.Common.{◌<◌, length, ap, arith, rules, inl, inr, List}
use Rattle.std.proofs.lemmas.List.{length_push, nil_from_length}
use Rattle.certificate_tree.specs.declared.node.Node.{Node}
use Rattle.branch_search.specs.Growing.{node_at}
use Rattle.branch_search.proofs.ListLemmas.{list_start, at_top, top_known, leaf_listed, split_listed, list_end}
use Rattle.branch_search.proofs.tree.nodes.nodes_of.Goals as goal
use Rattle.branch_search.proofs.tree.nodes.nodes_of.Goals.{in-Split+in_ok-push-3+in_ok-push-4, in_default-node}
use Rattle.branch_search.proofs.tree.nodes.nodes_of.Goals.{else-loop-step-test, then-loop-step-test+in_default}

pub loop-step-init : goal.loop-step-init
loop-step-init c = record {
  count = ap (λ (xs : List Node). length xs) c.new-nodes.ensures.items;
  listed = λ shape h. rw (c.in_ok-push.ensures.items, c.new-nodes.ensures.items, c.new-stack.ensures.items)
      (list_start c.args.cells.now shape h);
}

pub bounds-cells-k : goal.bounds-cells-k
bounds-cells-k c = top_known c.args.cells.now c.requires.0 c.loop-step.nodes.items c.pop.new.self.items c.in-Some.k
    (at_top c.args.cells.now c.requires.0 c.loop-step.nodes.items c.loop-step.stack.items c.pop.new.self.items
    c.in-Some.k (c.loop-step.invariant.listed c.requires.0 c.requires.1) c.in-Some.ensures.items)

pub offset_bounds-cells-k : goal.offset_bounds-cells-k
offset_bounds-cells-k c =
    let q : c.in-Some.k < length c.args.cells.now = top_known c.args.cells.now c.requires.0 c.loop-step.nodes.items
    c.pop.new.self.items c.in-Some.k (at_top c.args.cells.now c.requires.0 c.loop-step.nodes.items
    c.loop-step.stack.items c.pop.new.self.items c.in-Some.k (c.loop-step.invariant.listed c.requires.0
    c.requires.1) c.in-Some.ensures.items) in
    search rules

pub overflow_add-cell : goal.overflow_add-cell
overflow_add-cell c =
    let q = (split_listed c.args.cells.now c.requires.0 c.loop-step.nodes.items c.pop.new.self.items c.in-Some.k
    c.in-Split.i c.in-Split.last (at_top c.args.cells.now c.requires.0 c.loop-step.nodes.items c.loop-step.stack.items
    c.pop.new.self.items c.in-Some.k (c.loop-step.invariant.listed c.requires.0 c.requires.1)
    c.in-Some.ensures.items) c.in-Split.is).known in
    search rules

pub loop-step-preserved : goal.loop-step-preserved
loop-step-preserved c =
    let a = ap (λ (xs : List Node). length xs) c.in_ok-push-2.ensures.items in
    let b = length_push c.loop-step.nodes.items (node_at c.args.cells.now c.in-Some.k) in
    record {
      count = omega (arith, a, b, c.loop-step.invariant.count);
      listed = λ s h. elim c.match-cell.branch [
        | in-Split+in_ok-push-3+in_ok-push-4 w ↦ rw (
          w.stack-is,
          w.in_ok-push-4.ensures.items,
          w.in_ok-push-3.ensures.items,
          c.in_ok-push-2.ensures.items,
        )
            (split_listed c.args.cells.now s c.loop-step.nodes.items c.pop.new.self.items c.in-Some.k
            w.in-Split.i w.in-Split.last (at_top c.args.cells.now s c.loop-step.nodes.items c.loop-step.stack.items
            c.pop.new.self.items c.in-Some.k (c.loop-step.invariant.listed s h) c.in-Some.ensures.items)
            w.in-Split.is).listed
        | in_default-node w ↦ rw (w.stack-is, c.in_ok-push-2.ensures.items)
            (leaf_listed c.args.cells.now s c.loop-step.nodes.items c.pop.new.self.items c.in-Some.k
            (at_top c.args.cells.now s c.loop-step.nodes.items c.loop-step.stack.items c.pop.new.self.items
            c.in-Some.k (c.loop-step.invariant.listed s h) c.in-Some.ensures.items) w.in_default-node.not-Split)
      ];
    }

pub returns : goal.returns
returns c = λ s h. elim c.loop-step-test.branch [
  | else-loop-step-test w ↦ list_end c.args.cells.now s c.loop-step.nodes.items c.loop-step.stack.items h
      (c.loop-step.invariant.listed s h) (inr (omega (arith, w.loop-step-test.false, c.loop-step.invariant.count)))
  | then-loop-step-test+in_default w ↦ list_end c.args.cells.now s c.loop-step.nodes.items c.loop-step.stack.items h
      (c.loop-step.invariant.listed s h) (inl (nil_from_length c.loop-step.stack.items
      (omega (arith, w.in_default.ensures.cases.0, c.loop-step.stack.ok.0))))
]
