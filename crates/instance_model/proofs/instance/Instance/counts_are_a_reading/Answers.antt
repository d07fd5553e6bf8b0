use Rattle.instance_model.proofs.EncloseLemmas.{IsReading-counts}
use Rattle.instance_model.proofs.instance.Instance.counts_are_a_reading.Goals as goal

pub returns : goal.returns
returns c = IsReading-counts c.args.self.now
