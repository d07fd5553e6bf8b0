use Rattle.std.proofs.Common.{◌∙◌}
use Rattle.scenario_rows.proofs.PartLemmas.{part_quotient}
use Rattle.scenario_rows.proofs.part.part.Goals as goal

pub returns : goal.returns
returns c =
    c.of.ensures ∙ part_quotient c.args.alpha c.args.n c.args.quantile c.args.total c.excess_above-excess.result
    c.weighted.result c.floor_div.result c.requires.alpha c.requires.some c.requires.few c.requires.quantile.small
    c.requires.total c.excess_above-excess.ensures.small c.weighted.ensures.small
    c.excess_above-excess.ensures.value c.weighted.ensures.value c.floor_div.ensures
