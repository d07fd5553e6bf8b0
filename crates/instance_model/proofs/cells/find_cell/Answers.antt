use Rattle.std.proofs.Common.{arith, rules, ◌+◌, ◌-◌, ◌/◌}
use Rattle.instance_model.proofs.CellLemmas.{before_more, after_more}
use Rattle.instance_model.proofs.cells.find_cell.Goals as goal

pub loop-low-preserved-then-is_key_before : goal.loop-low-preserved-then-is_key_before
loop-low-preserved-then-is_key_before c =
    let i = c.loop-low.invariant in (
      i.0,
      before_more c.args.cells.now c.args.s c.args.t c.args.c
          (c.loop-low.low + (c.loop-low.high - c.loop-low.low) / 2) c.index-cells-middle.result c.requires (omega arith)
          c.index-cells-middle.is (search rules),
      i.2,
    )

pub loop-low-preserved : goal.loop-low-preserved
loop-low-preserved c =
    let i = c.loop-low.invariant in (
      omega arith,
      i.1,
      after_more c.args.cells.now c.args.s c.args.t c.args.c
          (c.loop-low.low + (c.loop-low.high - c.loop-low.low) / 2) c.index-cells-middle.result c.requires (omega arith)
          c.index-cells-middle.is (search rules),
    )
