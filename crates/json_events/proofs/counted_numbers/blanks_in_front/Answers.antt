use Rattle.std.proofs.lemmas.List.Sums.{prefix_len-le-length}
use Rattle.json_grammar.specs.laws.Machine.{is_blank}
use Rattle.json_events.proofs.counted_numbers.blanks_in_front.Goals as goal

pub returns-clause-within : goal.returns-clause-within
returns-clause-within c = rw c.blank_count.ensures (prefix_len-le-length is_blank c.args.bytes.now)
