use Rattle.std.proofs.Common.{arith}
use Rattle.certificate_tree.specs.declared.node.Node.TheVariants.{Split}
use Rattle.branch_search.proofs.SplitCountLemmas.{split_more}
use Rattle.branch_search.proofs.splits.split_count.Goals as goal

pub loop-node-preserved : goal.loop-node-preserved
loop-node-preserved c =
    let next = split_more c.args.nodes.now c.loop-node.node-index (Split 0 0) c.loop-node-test.true in
    record {
      count = omega (arith, next, c.split_of-count.ensures.value, c.loop-node.invariant.count);
      few = omega (arith, c.split_of-count.ensures.small, c.loop-node.invariant.few);
    }
