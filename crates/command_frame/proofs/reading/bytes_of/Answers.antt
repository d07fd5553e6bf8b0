use Rattle.std.proofs.Common.{rules}
use Rattle.command_frame.specs.Refusals.IsReadCause.{unread, too_long, no_memory}
use Rattle.command_frame.proofs.ReadLemmas.{counts_none}
use Rattle.command_frame.proofs.reading.bytes_of.Goals as goal

pub returns-in-Err-Failed-clause-err : goal.returns-in-Err-Failed-clause-err
returns-in-Err-Failed-clause-err g c = unread (search rules)

pub returns-in-Err-TooLong-clause-err : goal.returns-in-Err-TooLong-clause-err
returns-in-Err-TooLong-clause-err g c = too_long (search rules)

pub returns-in-Err-Memory-clause-err : goal.returns-in-Err-Memory-clause-err
returns-in-Err-Memory-clause-err g c = no_memory

pub returns-in-Err-TooLong-clause-kept : goal.returns-in-Err-TooLong-clause-kept
returns-in-Err-TooLong-clause-kept g c =
    counts_none (g.D.Desk.shows c.args.desk.now) (g.D.Desk.shows c.read_all.new.desk) c.args.long c.requires
    (search rules)
