use Rattle.std.proofs.Common.{◌≡◌, ◌∙◌, ◌+◌, ap, subst, arith, inl, inr, refl, List, [], ◌∷◌, ◌++◌, ℕ, length, get_or}
use Rattle.std.proofs.Common.{drop}
use Rattle.std.specs.Prelude.{option_map}
use Rattle.std.proofs.lemmas.List.{nil_from_length}
use Rattle.certificate_tree.specs.declared.node.Node.{Node}
use Rattle.certificate_tree.specs.declared.node.Node.TheVariants.{Split}
use Rattle.branch_search.specs.Parts.{IsOfPart}
use Rattle.branch_search.specs.Tasks.{task_of}
use Rattle.branch_search.specs.Growing.{box_at}
use Rattle.branch_search.specs.Valued.{plan_in}
use Rattle.branch_search.proofs.BegunLemmas.{IsTop, best_at_first, given_feasible, begun_first, begun_at, at_top}
use Rattle.branch_search.proofs.BegunLemmas.{leaf_from, leaf_first, leaf_laid, split_laid, begun_done}
use Rattle.branch_search.proofs.AsideLemmas.{aside_after, filed_least}
use Rattle.branch_search.proofs.splitting.beginning.begin.Goals as goal
use Rattle.branch_search.proofs.splitting.beginning.begin.Goals.{else-loop-node-test, then-loop-node-test+in_default}
use Rattle.branch_search.proofs.splitting.beginning.begin.Goals.{in-Split+in_ok-split_cell-in-Split+in_ok-push-in-Split+in_ok-push-in-Split-2}
use Rattle.branch_search.proofs.splitting.beginning.begin.Goals.{in_default-node+in_ok-lay_leaf-in_default-node}

pub loop-node-init : goal.loop-node-init
loop-node-init g c =
    let task = (task_of (g.G.Goal.value_gives c.args.goal.now) c.args.inst.now c.args.tables.now c.args.nodes.now
    (option_map (λ given. given.now) c.args.incumbent)) in
    let given = c.in_ok-best.ensures.plan in
    rw (
      c.in_ok-growth.ensures.cells,
      c.in_ok-growth.ensures.waiting,
      c.in_ok-growth.ensures.aside,
      c.in_ok-growth.ensures.best,
    ) (record {
      begun = record {
        given = c.requires.tree.0;
        of_nodes = c.requires.tree.1;
        aside = [];
        least = refl;
        begun = begun_first task (IsOfPart c.args.part) (plan_in c.in_ok-best.best) c.requires.tree.0
            c.push.new.self.items c.fits.ensures c.nodes_are_one_tree.ensures c.requires.tree.1 c.requires.lawful
            (best_at_first task (plan_in c.in_ok-best.best) given (given_feasible c.args.inst.now c.args.incumbent
            (plan_in c.in_ok-best.best) given c.requires.incumbent))
            (c.in_ok-push.ensures.items ∙ ap (λ (xs : List ℕ). xs ++ 0 ∷ []) c.new-stack.ensures.items);
      };
      few = omega arith;
      valued = c.in_ok-best.ensures.valued;
      current = c.in_ok-growth.ensures.current;
      none = c.in_ok-growth.ensures.splits;
    })

pub split_cell-requires : goal.split_cell-requires
split_cell-requires g c =
    let task = (task_of (g.G.Goal.value_gives c.args.goal.now) c.args.inst.now c.args.tables.now c.args.nodes.now
    (option_map (λ given. given.now) c.args.incumbent)) in
    let nodes = c.args.nodes.now in
    let k = c.loop-node.node-index in
    let n : Node = get_or nodes k (Split 0 0) in
    let growth = c.loop-node.growth in
    let h = c.loop-node.invariant.begun in
    let may = IsOfPart c.args.part in
    let under = c.pop.new.self.items in
    let top = at_top task may h.given growth.cells.items growth.waiting h.aside (plan_in growth.best)
    c.loop-node.stack.items under c.in-Some.number c.loop-node.seen (n ∷ drop (k + 1) nodes)
    (begun_at task may h.given growth.cells.items growth.waiting h.aside (plan_in growth.best) c.loop-node.stack.items
    c.loop-node.seen nodes k c.loop-node-test.true h.begun) c.in-Some.ensures.items in
    top.open_first.known

pub lay_leaf-requires : goal.lay_leaf-requires
lay_leaf-requires g c =
    let task = (task_of (g.G.Goal.value_gives c.args.goal.now) c.args.inst.now c.args.tables.now c.args.nodes.now
    (option_map (λ given. given.now) c.args.incumbent)) in
    let nodes = c.args.nodes.now in
    let k = c.loop-node.node-index in
    let n : Node = get_or nodes k (Split 0 0) in
    let growth = c.loop-node.growth in
    let h = c.loop-node.invariant.begun in
    let may = IsOfPart c.args.part in
    let under = c.pop.new.self.items in
    let top = at_top task may h.given growth.cells.items growth.waiting h.aside (plan_in growth.best)
    c.loop-node.stack.items under c.in-Some.number c.loop-node.seen (n ∷ drop (k + 1) nodes)
    (begun_at task may h.given growth.cells.items growth.waiting h.aside (plan_in growth.best) c.loop-node.stack.items
    c.loop-node.seen nodes k c.loop-node-test.true h.begun) c.in-Some.ensures.items in
    record {
      tables = c.requires.tables;
      number = top.open_first.known;
      boxes = (top.boxes, top.are_boxes);
      given = (leaf_first c.args.inst.now task.lists (box_at top.boxes c.in-Some.number) top.first top.others n
          (drop (k + 1) nodes) top.rest_is (leaf_from n c.in_default-node.not-Split) top.open_first.in_range).in_range;
      valued = c.loop-node.invariant.valued;
      current = c.loop-node.invariant.current;
    }

pub loop-node-preserved : goal.loop-node-preserved
loop-node-preserved g c =
    let task = (task_of (g.G.Goal.value_gives c.args.goal.now) c.args.inst.now c.args.tables.now c.args.nodes.now
    (option_map (λ given. given.now) c.args.incumbent)) in
    let nodes = c.args.nodes.now in
    let k = c.loop-node.node-index in
    let n : Node = get_or nodes k (Split 0 0) in
    let growth = c.loop-node.growth in
    let h = c.loop-node.invariant.begun in
    let may = IsOfPart c.args.part in
    let seen = c.loop-node.seen in
    let under = c.pop.new.self.items in
    let top = at_top task may h.given growth.cells.items growth.waiting h.aside (plan_in growth.best)
    c.loop-node.stack.items under c.in-Some.number seen (n ∷ drop (k + 1) nodes)
    (begun_at task may h.given growth.cells.items growth.waiting h.aside (plan_in growth.best) c.loop-node.stack.items
    seen nodes k c.loop-node-test.true h.begun) c.in-Some.ensures.items in
    elim c.match-node.branch [
      | in-Split+in_ok-split_cell-in-Split+in_ok-push-in-Split+in_ok-push-in-Split-2 w ↦
          (let here = subst (λ (x : Node). IsTop task may h.given growth.cells.items growth.waiting h.aside
          (plan_in growth.best) under c.in-Some.number seen (x ∷ drop (k + 1) nodes)) w.in-Split.is top in
          let left : w.len-left.result ≡ length growth.cells.items =
          omega (arith, w.len-left.ensures, growth.cells.ok.0) in
          rw (w.growth-is, w.stack-is, w.seen-is, w.in_ok-split_cell-in-Split.ensures) (record {
            begun = record {
              given = h.given;
              of_nodes = h.of_nodes;
              aside = h.aside;
              least = h.least;
              begun = split_laid task may h.given growth.cells.items growth.waiting h.aside (plan_in growth.best) under
                  w.push-in-Split-2.new.self.items c.in-Some.number w.in-Split.i w.in-Split.last seen
                  (drop (k + 1) nodes) here
                  (w.in_ok-push-in-Split-2.ensures.items
                  ∙ ap (λ (xs : List ℕ). xs ++ w.len-left.result ∷ []) w.in_ok-push-in-Split.ensures.items
                  ∙ ap (λ (l : ℕ). (under ++ (l + 1) ∷ []) ++ l ∷ []) left);
            };
            few = omega (arith, c.loop-node.invariant.few);
            valued = c.loop-node.invariant.valued;
            current = c.loop-node.invariant.current;
            none = c.loop-node.invariant.none;
          }))
      | in_default-node+in_ok-lay_leaf-in_default-node w ↦
          (let laid = w.in_ok-lay_leaf-in_default-node.ensures.laid in
          let may_split = w.is_of_part-may_split.result in
          rw (w.growth-is, w.stack-is, w.seen-is, laid.cells) (record {
            begun = record {
              given = h.given;
              of_nodes = h.of_nodes;
              aside = aside_after may_split laid.leaf.worth c.in-Some.number h.aside;
              least = filed_least may_split laid.leaf.worth c.in-Some.number growth.waiting
                  w.lay_leaf.new.growth.waiting growth.aside w.lay_leaf.new.growth.aside h.aside laid.filed h.least;
              begun = leaf_laid task may h.given growth.cells.items growth.waiting w.lay_leaf.new.growth.waiting h.aside
                  (plan_in growth.best) (plan_in w.lay_leaf.new.growth.best) under c.in-Some.number seen n
                  (drop (k + 1) nodes) laid.leaf may_split growth.aside w.lay_leaf.new.growth.aside c.fits.ensures
                  c.requires.lawful (leaf_from n w.in_default-node.not-Split) top (laid.leaf_is top.boxes top.are_boxes)
                  (laid.improved top.boxes top.are_boxes) w.is_of_part-may_split.ensures laid.filed;
            };
            few = omega (arith, c.loop-node.invariant.few);
            valued = w.in_ok-lay_leaf-in_default-node.ensures.valued;
            current = w.in_ok-lay_leaf-in_default-node.ensures.current;
            none = laid.splits ∙ c.loop-node.invariant.none;
          }))
    ]

pub returns-clause-state : goal.returns-clause-state
returns-clause-state g c =
    let task = (task_of (g.G.Goal.value_gives c.args.goal.now) c.args.inst.now c.args.tables.now c.args.nodes.now
    (option_map (λ given. given.now) c.args.incumbent)) in
    let growth = c.loop-node.growth in
    let h = c.loop-node.invariant.begun in
    let done = begun_done task (IsOfPart c.args.part) h.given growth.cells.items growth.waiting h.aside
    (plan_in growth.best) c.loop-node.stack.items c.loop-node.seen c.args.nodes.now c.loop-node.node-index h.begun in
    record {
      given = h.given;
      of_nodes = h.of_nodes;
      aside = h.aside;
      least = h.least;
      seen = c.loop-node.seen;
      state = rw c.loop-node.invariant.none (elim c.loop-node-test.branch [
        | else-loop-node-test w ↦ done (inl w.loop-node-test.false)
        | then-loop-node-test+in_default w ↦ done (inr (
          w.loop-node-test.true,
          nil_from_length c.loop-node.stack.items (omega (arith, w.in_default.ensures.cases.0, c.loop-node.stack.ok.0)),
        ))
      ]);
      valued = c.loop-node.invariant.valued;
      current = c.loop-node.invariant.current;
    }

pub returns-clause-none : goal.returns-clause-none
returns-clause-none g c = c.loop-node.invariant.none
