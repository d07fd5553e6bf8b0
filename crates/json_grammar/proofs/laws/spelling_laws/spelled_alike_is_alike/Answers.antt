use Rattle.std.proofs.Common.{sym, ap, subst, ◌∙◌}
use Rattle.json_grammar.specs.Grammar.{IsText}
use Rattle.json_grammar.proofs.LawsOfTexts.{one_tree}
use Rattle.json_grammar.specs.laws.Spelling.{spell}
use Rattle.json_grammar.specs.laws.Placed.{placed_at, value_of}
use Rattle.json_grammar.proofs.LawsSpelledReading.{text_is_read}
use Rattle.json_grammar.proofs.LawsSpelledNesting.{value_of-placed_at}
use Rattle.json_grammar.proofs.laws.spelling_laws.spelled_alike_is_alike.Goals as goal

pub returns : goal.returns
returns c v w h g e =
    let first = subst (λ z. IsText z (placed_at 0 v)) e (text_is_read v h.sound) in
    let same = one_tree (spell w) (placed_at 0 v) (placed_at 0 w) first (text_is_read w g.sound) in
    sym (value_of-placed_at 0 v) ∙ ap value_of same ∙ value_of-placed_at 0 w
