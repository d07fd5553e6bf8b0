use Rattle.certificate_text.proofs.LeadLemmas.{texts_lead}
use Rattle.certificate_text.proofs.FormLemmas.{lines_have_forms}
use Rattle.certificate_text.proofs.laws.texts_lead.Goals as goal

pub returns-clause-lead : goal.returns-clause-lead
returns-clause-lead c = texts_lead

pub returns-clause-forms : goal.returns-clause-forms
returns-clause-forms c = lines_have_forms
