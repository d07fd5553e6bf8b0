-- Each call has one word fewer.
use Rattle.std.proofs.Common.{length}
use Rattle.command_words.proofs.files.+differs_from_each.Given as goal

abbrev pub decreases-differs_from_each : goal.decreases-differs_from_each
decreases-differs_from_each l = length l.others.now
