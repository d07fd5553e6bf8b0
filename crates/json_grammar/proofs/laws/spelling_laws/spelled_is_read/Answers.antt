use Rattle.json_grammar.proofs.LawsSpelledReading.{text_is_read}
use Rattle.json_grammar.proofs.LawsSpelledNesting.{tree_is_shallow, value_of-placed_at}
use Rattle.json_grammar.proofs.laws.spelling_laws.spelled_is_read.Goals as goal

pub returns-clause-text : goal.returns-clause-text
returns-clause-text c v h = text_is_read v h.sound

pub returns-clause-shallow : goal.returns-clause-shallow
returns-clause-shallow c v h = tree_is_shallow 16 0 v h.shallow

pub returns-clause-value : goal.returns-clause-value
returns-clause-value c v = value_of-placed_at 0 v
