use Rattle.refined_search.specs.Steps.{AddsSearchedTo}
use Rattle.refined_search.proofs.box_lists.add_box_lists.Given as goal

abbrev pub invariant-loop-splits : goal.invariant-loop-splits
invariant-loop-splits l = AddsSearchedTo l.inst l.turns l.end l.splits-index l.initial.lists.items l.lists.items
