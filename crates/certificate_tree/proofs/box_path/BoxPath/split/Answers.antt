use Rattle.certificate_tree.proofs.Waiting.{path_split}
use Rattle.certificate_tree.proofs.box_path.BoxPath.split.Goals as goal

pub returns-clause-done : goal.returns-clause-done
returns-clause-done c = path_split c.self.inside.ended c.self.inside.spans.items c.self.inside.changes.items
    c.args.self.now c.args.i c.args.last c.index-span.result.now c.push.new.self.items c.self.view_is c.requires.some
    c.index-span.ensures c.requires.splits.number c.in_ok-push.ensures.items
