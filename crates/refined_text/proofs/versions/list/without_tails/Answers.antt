use Rattle.std.proofs.Common.{◌≤◌, length, arith}
use Rattle.refined_text.proofs.VersionsTailLemmas.{without_next}
use Rattle.refined_text.proofs.versions.list.without_tails.Goals as goal

pub loop-t-preserved : goal.loop-t-preserved
loop-t-preserved c =
    let few : c.loop-t.t ≤ length c.args.prices.now.tails =
    omega (arith, c.loop-t-test.true, c.periods-t-end.ensures.value, c.requires.tails_each) in
    record {
      so_far = without_next c.args.prices.now c.loop-t.limits c.set_tail.new.self c.loop-t.t c.loop-t.auto.t few
          c.loop-t.invariant.so_far c.set_tail.ensures.changed;
      in_range = c.set_tail.ensures.in_range;
    }
