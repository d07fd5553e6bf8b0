use Rattle.std.proofs.Common.{◌∙◌, ap}
use Rattle.instance_model.specs.Tables.{Tables, delta_of, durations}
use Rattle.instance_writer.proofs.full.FullInstanceInstanceView.delta.Goals as goal

pub returns : goal.returns
unfolding delta_of durations
returns c =
    c.delta.ensures.value ∙ ap (λ (inst : Tables). delta_of inst c.args.i c.args.s) c.self.view_is
