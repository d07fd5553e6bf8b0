use Rattle.instance_model.specs.Limits.{standard_limits}
use Rattle.instance_writer.proofs.TextNameTexts.{spelled}
use Rattle.instance_writer.proofs.text.names.names_are_spellable.Goals as goal

pub returns : goal.returns
returns c =
    let inst = c.args.inst.now in
    let fits = c.fits.ensures in
    record {
      resources = spelled standard_limits.resources inst.resource_names fits.resources c.resources_are_text.ensures;
      seasons = spelled standard_limits.seasons inst.season_names fits.seasons c.seasons_are_text.ensures;
      interventions = spelled standard_limits.interventions inst.names fits.names c.interventions_are_text.ensures;
      exclusions = spelled standard_limits.exclusions inst.exclusion_names fits.exclusions
          c.exclusions_are_text.ensures;
    }
