use Rattle.move_script.proofs.ToldLemmas.{texts_are_told}
use Rattle.move_script.proofs.laws.texts_are_told.Goals as goal

pub returns : goal.returns
returns c = record { told = texts_are_told }
