use Rattle.refined_text.proofs.LinesLawLemmas.{one_refined, no_feed}
use Rattle.refined_text.proofs.lines.laws.refined_lines_are_spelled_one_way.Goals as goal

pub returns : goal.returns
returns c = record { one_line = one_refined; no_line_feed = no_feed }
