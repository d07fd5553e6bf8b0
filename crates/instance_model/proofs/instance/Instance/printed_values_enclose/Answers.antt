use Rattle.instance_model.proofs.EncloseLemmas.{EnclosesReading-from}
use Rattle.instance_model.proofs.instance.Instance.printed_values_enclose.Goals as goal

pub returns : goal.returns
returns c = λ plan f numbers a r. EnclosesReading-from c.args.self.now plan f numbers c.fits.ensures a r
