use Rattle.std.proofs.Common.{◌≡◌, map}
use Rattle.std.specs.List.{range_with_len}
use Rattle.instance_model.specs.Tables.{tmax}
use Rattle.certificate_tree.proofs.box_path.BoxPath.root.Given as goal

abbrev pub invariant-loop-i : goal.invariant-loop-i
invariant-loop-i l = l.spans.items ≡ map (λ i. record { from = 1; to = tmax l.inst i }) (range_with_len 0 l.i)
