use Rattle.std.specs.Prelude.{ℤ}
use Rattle.std.proofs.Common.{rules, ◌≡◌, ◌+◌, ◌++◌, [], ◌∷◌, ℕ, List, length, drop, sym, ap, subst, length-drop, arith}
use Rattle.json_events.specs.CountedNumbers.{IsCountedItem, AreCountedRuns}
use Rattle.json_machine.proofs.PlainNumbers.{behind}
use Rattle.json_events.proofs.CountedRuns.{item_within}
use Rattle.json_events.proofs.counted_numbers.counted_numbers.Goals as goal

pub loop-counts-init : goal.loop-counts-init
loop-counts-init c = record {
  runs = subst (λ (z : List ℤ). AreCountedRuns c.args.bytes.now z 0) (sym c.requires) AreCountedRuns.none;
  within = omega arith;
  few = omega (arith, ap length c.requires);
}

pub loop-counts-preserved : goal.loop-counts-preserved
loop-counts-preserved c =
    let bs = c.args.bytes.now in
    let used = c.loop-counts.used in
    let is = c.loop-counts.invariant in
    let next = c.in-Some.item.length in
    let count = c.in-Some.item.count in
    let item = subst (λ (z : List ℕ). IsCountedItem z next count) (behind used bs) c.in-Some.ensures in
    let pushed : c.push.new.self.items ≡ c.loop-counts.counts.items ++ count ∷ [] = search rules in
    record {
      runs = subst (λ (z : List ℤ). AreCountedRuns bs z (used + next)) (sym pushed)
          (AreCountedRuns.more is.runs item);
      within = omega (arith, item_within (drop used bs) next count item, length-drop used bs, is.within);
      few = omega (arith, c.push.ensures.len, c.loop-counts-test.true, c.len.ensures.value);
    }
