use Rattle.certificate_lines.specs.declared.line.Side.TheVariants.{Over, Under}
use Rattle.branch_search.proofs.node_state.range.LoadRange.replace.Goals as goal

pub with_part-self-requires : goal.with_part-self-requires
with_part-self-requires c = c.requires Over

pub with_part-self-requires-2 : goal.with_part-self-requires-2
with_part-self-requires-2 c = c.requires Under
