use Rattle.certificate_text.proofs.GrowLemmas.{zero_has_none, zero_up_to}
use Rattle.certificate_text.proofs.laws.zeros_have_no_entry.Goals as goal

pub returns-clause-none : goal.returns-clause-none
returns-clause-none c = zero_has_none

pub returns-clause-up_to : goal.returns-clause-up_to
returns-clause-up_to c = zero_up_to
