use Rattle.std.proofs.Common.{refl, subst, arith, ℤ, ◌≤ℤ◌}
use Rattle.price_ladder.proofs.KeptWorthLemmas.{below_target, reaches_target, none_kept, moved_base_values}
use Rattle.price_ladder.proofs.kept.KeptLadder.try_value.Goals as goal

pub returns-then-beside-target-clause-tried : goal.returns-then-beside-target-clause-tried
returns-then-beside-target-clause-tried c = (
  refl,
  none_kept c.args.inst.now c.args.self.now.prices c.args.place c.args.v c.in_ok-beside.beside c.args.target
      c.in_ok-beside.ensures.kept
      (below_target c.in_ok-beside.beside.worth c.args.target c.ranges.target
      (omega (arith, c.in_ok-beside.ensures.small)) c.if-beside-target.true),
)

pub returns-clause-tried : goal.returns-clause-tried
returns-clause-tried c = record {
  step = c.in_ok-set_value.ensures.changed;
  in_range = c.in_ok-set_value.ensures.in_range;
  reached = subst (λ (z : ℤ). c.args.target ≤ℤ z)
      (c.in_ok-beside.ensures.kept c.set_value.new.prices c.in_ok-set_value.ensures.in_range
      c.in_ok-set_value.ensures.changed).total
      (reaches_target c.in_ok-beside.beside.worth c.args.target c.ranges.target
      (omega (arith, c.in_ok-beside.ensures.small)) c.if-beside-target.false);
}

pub returns-clause-kept : goal.returns-clause-kept
returns-clause-kept c = record {
  beside = c.in_ok-beside.ensures.kept c.set_value.new.prices c.in_ok-set_value.ensures.in_range
      c.in_ok-set_value.ensures.changed;
  bases = moved_base_values c.args.inst.now c.args.self.now.prices c.set_value.new.prices c.args.place c.args.v
      c.args.self.now.bases.items c.in_ok-set_value.ensures.changed c.requires.kept.bases;
}
