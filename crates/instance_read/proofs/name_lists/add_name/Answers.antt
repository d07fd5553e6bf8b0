use Rattle.std.proofs.Common.{◌∙◌, ap}
use Rattle.instance_read.specs.Keepers.{names_kept}
use Rattle.instance_read.proofs.KeepingSteps.{name_kept}
use Rattle.instance_read.proofs.name_lists.add_name.Goals as goal

pub returns : goal.returns
returns c = ap names_kept c.in_ok-push.ensures.items ∙ name_kept c.args.names.now.items c.args.name
