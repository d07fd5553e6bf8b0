use Rattle.json_events.proofs.EightDigits.{eight_is}
use Rattle.json_events.proofs.number_lanes.value_of_eight.Goals as goal

pub returns : goal.returns
returns c digits long below is = eight_is digits c.args.word long below is
