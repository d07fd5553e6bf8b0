use Rattle.json_grammar.proofs.LawsAscending as ascending
use Rattle.json_grammar.proofs.laws.text_laws.events_ascend.Goals as goal

pub returns : goal.returns
returns c = ascending.events_ascend
