use Rattle.certificate_text.proofs.LengthLemmas.{texts_short, texts_fit_files}
use Rattle.certificate_text.proofs.laws.texts_are_short.Goals as goal

pub returns-clause-short : goal.returns-clause-short
returns-clause-short c = texts_short

pub returns-clause-fit : goal.returns-clause-fit
returns-clause-fit c = texts_fit_files
