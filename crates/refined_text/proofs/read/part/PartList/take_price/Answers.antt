use Rattle.refined_text.proofs.ReadTakeLemmas.{no_price}
use Rattle.refined_text.proofs.read.part.PartList.take_price.Goals as goal

pub returns-in_default-clause-refused : goal.returns-in_default-clause-refused
returns-in_default-clause-refused c = λ count left.
    no_price c.args.inst.now c.args.self.now c.args.line.now count left c.requires.no_mark c.in_default.ensures.none
