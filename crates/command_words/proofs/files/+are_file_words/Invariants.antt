-- Each call has one word fewer.
use Rattle.std.proofs.Common.{length}
use Rattle.command_words.proofs.files.+are_file_words.Given as goal

abbrev pub decreases-are_file_words : goal.decreases-are_file_words
decreases-are_file_words l = length l.words.now
