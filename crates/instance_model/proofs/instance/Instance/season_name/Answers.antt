use Rattle.std.proofs.Common.{◌<◌, subst, sym, length, string_bytes}
use Rattle.instance_model.specs.Limits.{standard_limits}
use Rattle.instance_model.specs.Tables.{Tables}
use Rattle.instance_model.proofs.NameLemmas.{name_short}
use Rattle.instance_model.proofs.instance.Instance.season_name.Goals as goal

pub returns-clause-short : goal.returns-clause-short
returns-clause-short c =
    let within = subst (λ (t : Tables). c.args.q < length t.season_names) (sym c.self.view_is) c.requires in
    rw c.as_str.ensures.value (name_short string_bytes standard_limits.seasons c.self.inside.parts.seasons.texts.keys
    c.as_slice.result.now c.args.q c.index-as_slice-q.result c.self.invariant.fits.seasons c.as_slice.ensures.texts
    within c.index-as_slice-q.is)
