use Rattle.json_events.proofs.DigitLanes.{digits_are_first}
use Rattle.json_events.proofs.number_lanes.digits_from.Goals as goal

pub returns : goal.returns
returns c bytes = digits_are_first bytes c.args.others c.args.from
