use Rattle.std.proofs.Common.{◌≡◌, ◌+◌, ◌-◌, ◌≤◌, max, filter, length}
use Rattle.std.specs.List.{range_with_len}
use Rattle.instance_model.specs.Tables.{is_allowed}
use Rattle.branch_search.specs.node_state.Extents.{AreExtentsOf}
use Rattle.branch_search.proofs.node_state.walk.take_span.Given as goal

abbrev pub invariant-loop-s : goal.invariant-loop-s
invariant-loop-s l = record {
  order : l.fn.span.from ≤ l.s;
  within : l.s ≤ max l.fn.span.from (l.fn.span.to + 1);
  count : l.count ≡ length (filter (is_allowed l.inst l.i) (range_with_len l.fn.span.from (l.s - l.fn.span.from)));
  few : l.count ≤ l.s;
  extents : AreExtentsOf l.inst l.i (filter (is_allowed l.inst l.i)
      (range_with_len l.fn.span.from (l.s - l.fn.span.from))) l.extents;
}
