use Rattle.std.proofs.Common.{rules, [], ap, ◌∙◌}
use Rattle.json_grammar.specs.laws.Machine.{go}
use Rattle.json_machine.specs.Machines.{levels_of, mode_of}
use Rattle.json_machine.specs.declared.machine.Mode.{Mode}
use Rattle.json_machine.proofs.machine.Machine.awaits_item.Goals as goal

pub returns-in-Some-Want : goal.returns-in-Some-Want
returns-in-Some-Want c = λ _. record {
  value = search rules;
  comma = λ k. c.in-Some-Want.ensures.moves k 0 []
      ∙ ap (λ (m : Mode). go (levels_of c.args.self.now.levels.items) (mode_of m 0 [])) c.in-Some-Want.field-0-is;
}
