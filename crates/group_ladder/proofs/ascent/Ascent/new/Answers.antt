use Rattle.std.proofs.Common.{arith}
use Rattle.std.proofs.lemmas.Grind.{common_steps}
use Rattle.group_ladder.proofs.ascent.Ascent.new.Goals as goal

pub invariant_of-result : goal.invariant_of-result
invariant_of-result c = record {
  each_start = c.requires.starts;
  each_base = rw c.deref-14.ensures.value at c.in_ok-bases_of.ensures;
  each_range = c.requires.each;
  within = c.requires.ranges;
  each_work = rw c.deref-7.ensures.value at c.in_ok-works.ensures;
  each_band = c.in_ok-bands_of.ensures;
  each_set = c.in_ok-sets.ensures;
  each_spot = rw c.deref-12.ensures.value at c.in_ok-spots.ensures;
  each_charge = grind (arith, common_steps);
  each_tail = c.in_ok-tails.ensures;
  each_due = grind (arith, common_steps);
  each_entry = grind (arith, common_steps);
  each_chosen = grind (arith, common_steps);
  each_busy = grind (arith, common_steps);
}
