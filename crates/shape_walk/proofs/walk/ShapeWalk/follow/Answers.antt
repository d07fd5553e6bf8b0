use Rattle.std.proofs.Common.{◌∙◌, sym, ap, subst}
use Rattle.json_grammar.specs.Tree.{Event}
use Rattle.json_grammar.specs.Events.{event_view}
use Rattle.shape_walk.specs.Taking.{Takes}
use Rattle.shape_walk.proofs.walk.ShapeWalk.follow.Goals as goal

pub returns-in-Text : goal.returns-in-Text
returns-in-Text c =
    subst (λ e. Takes c.args.self.now e c.take_text.new.self c.take_text.result)
    (ap (Event.text c.in-Text.at c.in-Text.end) c.as_str-in-Text.ensures.same ∙ sym (ap event_view c.in-Text.is))
    (c.take_text.ensures c.in-Text.end)
