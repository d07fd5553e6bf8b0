use Rattle.json_events.proofs.DigitLanes.{mask_is}
use Rattle.json_events.proofs.number_lanes.other_mask.Goals as goal

pub returns : goal.returns
returns c = mask_is c.args.bytes.now c.type_inv.bytes c.requires
