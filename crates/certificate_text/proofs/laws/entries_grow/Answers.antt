use Rattle.certificate_text.proofs.GrowLemmas.{up_grows, lo_grows, tail_grows, ex_grows}
use Rattle.certificate_text.proofs.laws.entries_grow.Goals as goal

pub returns-clause-up : goal.returns-clause-up
returns-clause-up c = up_grows

pub returns-clause-lo : goal.returns-clause-lo
returns-clause-lo c = lo_grows

pub returns-clause-tail : goal.returns-clause-tail
returns-clause-tail c = tail_grows

pub returns-clause-ex : goal.returns-clause-ex
returns-clause-ex c = ex_grows
