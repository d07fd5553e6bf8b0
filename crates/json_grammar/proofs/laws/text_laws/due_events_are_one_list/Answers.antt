use Rattle.json_grammar.proofs.LawsDues.{some_due, one_due}
use Rattle.json_grammar.proofs.laws.text_laws.due_events_are_one_list.Goals as goal

pub returns : goal.returns
returns c = record { some = some_due; one = one_due }
