use Rattle.instance_gen.proofs.LawLemmas.{texts_read}
use Rattle.instance_gen.proofs.laws.drawn_texts_are_read.Goals as goal

pub returns : goal.returns
returns c = λ seed n some few. texts_read c.texts_are_read.ensures seed n few
