use Rattle.json_grammar.proofs.LawsWholeUtf.{text_utf}
use Rattle.json_grammar.proofs.laws.text_laws.text_is_utf8.Goals as goal

pub returns : goal.returns
returns c = text_utf
