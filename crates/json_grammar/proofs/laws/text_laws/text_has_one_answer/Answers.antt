use Rattle.json_grammar.proofs.LawsOnePlace.{one_answer}
use Rattle.json_grammar.proofs.LawsSettling.{some_answer}
use Rattle.json_grammar.proofs.laws.text_laws.text_has_one_answer.Goals as goal

pub returns : goal.returns
returns c = record { some = some_answer; one = one_answer }
