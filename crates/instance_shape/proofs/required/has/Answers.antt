use Rattle.std.proofs.Common.{sym, ◌∙◌}
use Rattle.instance_shape.proofs.SeenLemmas.{texts_has}
use Rattle.instance_shape.proofs.required.has.Goals as goal

pub returns : goal.returns
returns c = c.contains.ensures ∙ sym (texts_has c.args.seen.now.added.keys c.args.key.now)
