use Rattle.ordered_keys.proofs.Apart.{set_apart}
use Rattle.ordered_keys.proofs.texts.TextSet.add.Goals as goal

pub invariant_of-self : goal.invariant_of-self
invariant_of-self c = record {
  once = set_apart c.args.self.now.texts.keys c.args.text c.insert.new.self.keys c.insert.result c.args.self.now.once
      c.insert.ensures.keys c.insert.ensures.err;
}
