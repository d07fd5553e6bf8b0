use Rattle.std.proofs.Common.{not, sym, ◌∙◌, ap}
use Rattle.instance_shape.proofs.SeenLemmas.{texts_has, texts_more, texts_same}
use Rattle.instance_shape.proofs.seen.add_text.Goals as goal

pub returns-clause-new : goal.returns-clause-new
returns-clause-new c = c.in_ok-new.ensures.new ∙ ap not (sym (texts_has c.args.seen.now.added.keys c.args.text.now))

pub returns-clause-added : goal.returns-clause-added
returns-clause-added c =
    texts_more c.args.seen.now.added.keys _ c.args.text.now _ c.in_ok-new.ensures.new c.in_ok-new.ensures.added

pub returns-clause-same : goal.returns-clause-same
returns-clause-same c =
    texts_same c.args.seen.now.added.keys _ c.args.text.now _ c.in_ok-new.ensures.new c.in_ok-new.ensures.added
