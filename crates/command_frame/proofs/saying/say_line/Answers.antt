use Rattle.std.proofs.Common.{◌∙◌, ◌∷◌, ◌++◌, [], List, ℕ, sym, ap, append_assoc, decimal}
use Rattle.plan_desk.specs.Written.Way.{saying}
use Rattle.plan_desk.proofs.Written.{respelled}
use Rattle.command_frame.proofs.saying.say_line.Goals as goal

pub returns : goal.returns
returns g c =
    let words = c.args.words.now in
    respelled saying (ap (λ (xs : List ℕ). xs ++ (c.bytes.result.now ++ 10 ∷ [])) c.as_bytes.ensures.value
    ∙ ap (λ (xs : List ℕ). words ++ (xs ++ 10 ∷ [])) (c.bytes.ensures.value ∙ c.of_natural-digits.ensures)
    ∙ sym (append_assoc words (decimal c.args.n) (10 ∷ []))) c.say_pieces.ensures
