use Rattle.instance_writer.proofs.TextTokens.{count_spelled, part_spelled}
use Rattle.instance_writer.proofs.text.laws.counts_have_decimals.Goals as goal

pub returns-clause-counts : goal.returns-clause-counts
returns-clause-counts c = count_spelled

pub returns-clause-parts : goal.returns-clause-parts
returns-clause-parts c = part_spelled
