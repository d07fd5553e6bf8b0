use Rattle.std.proofs.Common.{ℕ, [], false, refl, sym, subst}
use Rattle.json_machine.specs.Machines.{IsSound}
use Rattle.json_events.proofs.Standing.{stands_new}
use Rattle.json_events.proofs.pull.Pull.make.Goals as goal

pub invariant_of-result : goal.invariant_of-result
invariant_of-result c = record {
  stream = [];
  given = 0;
  finished = false;
  stands = stands_new _ c.new.ensures.starts c.new-2.ensures.at c.new-2.ensures.empty refl refl refl;
  machine = subst (λ (k : ℕ). IsSound k c.new.result) (sym c.new-2.ensures.at) c.new.ensures.sound;
}

pub returns-clause-stands : goal.returns-clause-stands
returns-clause-stands c = stands_new _ c.new.ensures.starts c.new-2.ensures.at c.new-2.ensures.empty refl refl refl
