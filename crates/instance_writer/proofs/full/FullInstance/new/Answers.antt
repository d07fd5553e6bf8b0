use Rattle.instance_writer.proofs.ViewLemmas.{shows_itself}
use Rattle.instance_writer.proofs.full.FullInstance.new.Goals as goal

pub returns-clause-shown : goal.returns-clause-shown
returns-clause-shown c = shows_itself c.args.inst.now c.fits.ensures
