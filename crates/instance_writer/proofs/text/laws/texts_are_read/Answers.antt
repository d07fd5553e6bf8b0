use Rattle.instance_writer.proofs.TextLaw.{defined}
use Rattle.instance_writer.proofs.text.laws.texts_are_read.Goals as goal

pub returns : goal.returns
returns c = λ style limits slack inst.
    defined style limits slack inst c.spelled_is_read.ensures.text c.spelled_is_read.ensures.shallow
