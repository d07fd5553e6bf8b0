use Rattle.certificate_lines.proofs.LawLemmas.{one_line, no_line_feed}
use Rattle.certificate_lines.proofs.laws.lines_are_spelled_one_way.Goals as goal

pub returns : goal.returns
returns c = record { one_line = one_line; no_line_feed = no_line_feed }
