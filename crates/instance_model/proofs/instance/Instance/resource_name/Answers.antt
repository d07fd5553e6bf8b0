use Rattle.std.proofs.Common.{◌<◌, subst, sym, length, string_bytes}
use Rattle.instance_model.specs.Limits.{standard_limits}
use Rattle.instance_model.specs.Tables.{Tables}
use Rattle.instance_model.proofs.NameLemmas.{name_short}
use Rattle.instance_model.proofs.instance.Instance.resource_name.Goals as goal

pub returns-clause-short : goal.returns-clause-short
returns-clause-short c =
    let within = subst (λ (t : Tables). c.args.c < length t.resource_names) (sym c.self.view_is) c.requires in
    rw c.as_str.ensures.value (name_short string_bytes standard_limits.resources
    c.self.inside.parts.resources.texts.keys
    c.as_slice.result.now c.args.c c.index-as_slice-c.result c.self.invariant.fits.resources c.as_slice.ensures.texts
    within c.index-as_slice-c.is)
