use Rattle.refined_text.proofs.ReadToldLemmas.{refined_texts_are_told}
use Rattle.refined_text.proofs.read.laws.refined_texts_are_told.Goals as goal

pub returns : goal.returns
returns c = refined_texts_are_told
