use Rattle.certificate_tree.proofs.RootLemmas.{root_more}
use Rattle.certificate_tree.proofs.box_path.BoxPath.root.Goals as goal

pub loop-i-preserved : goal.loop-i-preserved
loop-i-preserved c = root_more c.args.inst.now c.loop-i.i c.tmax.result c.loop-i.spans.items c.push.new.self.items
    c.loop-i.invariant c.tmax.ensures.value c.in_ok-push.ensures.items
