use Rattle.instance_model.proofs.FitLemmas.{lower_read}
use Rattle.instance_model.proofs.instance.Instance.lower.Goals as goal

pub returns-clause-value : goal.returns-clause-value
returns-clause-value c = lower_read c.self.inside.parts c.args.self.now c.args.c c.args.t c.index.result.now
    c.self.view_is c.self.invariant.fits c.requires.resource c.requires.from c.requires.to c.index.ensures
