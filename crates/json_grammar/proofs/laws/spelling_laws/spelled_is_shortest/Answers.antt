use Rattle.json_grammar.proofs.LawsSpelledShortest.{text_short}
use Rattle.json_grammar.proofs.laws.spelling_laws.spelled_is_shortest.Goals as goal

pub returns : goal.returns
returns c = text_short
