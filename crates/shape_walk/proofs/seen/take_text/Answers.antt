use Rattle.std.proofs.Common.{◌≡◌, ◌∙◌, sym, false}
use Rattle.instance_shape.specs.Keys.{has_key, by_text}
use Rattle.instance_shape.specs.Seen.{texts_of}
use Rattle.shape_walk.proofs.KeyLemmas.{text_case, is_new}
use Rattle.shape_walk.proofs.seen.take_text.Goals as goal

pub returns-then-new-clause-flaw : goal.returns-then-new-clause-flaw
returns-then-new-clause-flaw c at =
    let new : has_key (texts_of c.args.texts.now.added.keys) (by_text c.args.key.now) ≡ false =
    is_new _ (sym c.in_ok-new.ensures.new ∙ c.if-new.true) in
    let spot = c.args.spot in
    c.new_text_flaw-flaw.ensures at
    ∙ text_case c.args.limits.now spot c.args.texts.now.added.keys c.args.key.now c.len.result at
    c.requires new c.len.ensures.len
