use Rattle.std.proofs.Common.{◌∙◌, ◌∷◌, ◌++◌, [], ap, decimal}
use Rattle.plan_desk.specs.Written.Way.{writing}
use Rattle.plan_desk.proofs.Written.{respelled}
use Rattle.plan_text.proofs.PieceLemmas.{line_pieces}
use Rattle.plan_text.proofs.write.write_line.Goals as goal

pub returns : goal.returns
returns g c =
    respelled writing (ap (λ xs. xs ++ (32 ∷ (c.bytes.result.now ++ 10 ∷ []))) c.as_bytes.ensures.value
    ∙ line_pieces c.args.name.now c.bytes.result.now c.args.start
    (c.bytes.ensures.value ∙ c.of_natural-digits.ensures ∙ ap decimal c.from.ensures)) c.write_pieces.ensures
