use Rattle.std.proofs.Common.{arith}
use Rattle.json_grammar.proofs.LawsStays.{syntax_stays, shallow_stays, depth_stays}
use Rattle.json_grammar.proofs.laws.text_laws.fault_stays.Goals as goal

pub returns : goal.returns
returns c = record {
  syntax = syntax_stays;
  first = λ stream more at i h. shallow_stays stream more at (omega arith) h;
  too_deep = depth_stays;
}
