use Rattle.json_grammar.proofs.LawsOfTexts.{one_tree}
use Rattle.json_grammar.proofs.laws.text_laws.text_has_one_tree.Goals as goal

pub returns : goal.returns
returns c = one_tree
