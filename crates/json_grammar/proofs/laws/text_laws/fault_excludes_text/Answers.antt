use Rattle.json_grammar.proofs.LawsLoop.{no_syntax_fault, no_depth_fault}
use Rattle.json_grammar.proofs.laws.text_laws.fault_excludes_text.Goals as goal

pub returns : goal.returns
returns c = record {
  syntax = λ stream at t f h. no_syntax_fault stream at t h f;
  too_deep = λ stream at t f h n. no_depth_fault stream at t h n f;
}
