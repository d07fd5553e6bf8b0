use Rattle.std.proofs.Common.{◌≡◌, ◌+◌, ◌-◌, ◌≤◌, max, filter}
use Rattle.std.specs.List.{range_with_len}
use Rattle.instance_model.specs.Tables.{is_allowed}
use Rattle.certificate_tree.specs.Loads.{load_by_start}
use Rattle.certificate_tree.specs.Extremes.{some_extreme}
use Rattle.certificate_tree.proofs.band.extreme_load_in.Given as goal

abbrev pub invariant-loop-s : goal.invariant-loop-s
invariant-loop-s l = record {
  order : l.fn.span.from ≤ l.s;
  within : l.s ≤ max l.fn.span.from (l.fn.span.to + 1);
  value : l.best ≡ some_extreme l.side (load_by_start l.inst l.c l.t l.i) (filter (is_allowed l.inst l.i)
      (range_with_len l.fn.span.from (l.s - l.fn.span.from)));
}
