use Rattle.std.proofs.Common.{◌∙◌, sym, subst, refl, List}
use Rattle.lagrange_bound.specs.declared.span.Span.{Span}
use Rattle.branch_search.specs.declared.tree.cell.Cell.{Cell}
use Rattle.branch_search.specs.Growing.{AreBoxesOf}
use Rattle.branch_search.specs.Tasks.{free_task}
use Rattle.branch_search.specs.Settled.{IsLeafOf, IsImprovedIn}
use Rattle.branch_search.specs.Valued.{plan_in}
use Rattle.branch_search.proofs.splitting.beginning.lay_leaf.Goals as goal

pub returns-clause-laid : goal.returns-clause-laid
returns-clause-laid g c =
    let value = g.G.Goal.value_gives c.args.goal.now in
    let inst = c.args.inst.now in
    let here = λ (boxes : List (List Span)) (w : AreBoxesOf inst c.args.growth.now.cells.items boxes).
    c.set_spans.ensures.spans ∙ c.deref.ensures.value ∙ c.in_ok-spans.ensures boxes
    (subst (λ (cells : List Cell). AreBoxesOf inst cells boxes) (sym c.as_slice.ensures.value) w) in
    record {
      leaf = c.in_ok-leaf.leaf;
      cells = c.set_leaf.ensures;
      filed = c.in_ok-file_leaf.ensures;
      leaf_is = λ boxes w. subst (λ (b : List Span). IsLeafOf (free_task value inst c.args.tables.now)
          (plan_in c.settle_again.new.best) b c.in_ok-leaf.leaf) (here boxes w) c.in_ok-leaf.ensures.leaf;
      improved = λ boxes w. subst (λ (b : List Span). IsImprovedIn value inst b (plan_in c.args.growth.now.best)
          (plan_in c.settle_again.new.best)) (here boxes w) c.in_ok-leaf.ensures.improved;
      splits = refl;
    }
