use Rattle.refined_text.proofs.GrammarLeadLemmas.{refined_texts_lead}
use Rattle.refined_text.proofs.GrammarFormLemmas.{refined_lines_have_forms}
use Rattle.refined_text.proofs.grammar.laws.refined_texts_lead.Goals as goal

pub returns-clause-lead : goal.returns-clause-lead
returns-clause-lead c = refined_texts_lead

pub returns-clause-forms : goal.returns-clause-forms
returns-clause-forms c = refined_lines_have_forms
