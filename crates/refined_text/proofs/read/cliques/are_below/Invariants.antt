use Rattle.std.proofs.Common.{◌≡◌, ◌+◌, ◌≤◌, drop, map, length}
use Rattle.std.specs.Cmp.Lexicographic.{slice_cmp}
use Rattle.std.specs.Ordering.{nat_cmp}
use Rattle.refined_text.proofs.read.cliques.are_below.Given as goal

abbrev pub invariant-loop-k : goal.invariant-loop-k
invariant-loop-k l = record {
  within : l.k ≤ length l.b;
  rest : slice_cmp nat_cmp (map (λ i. i + 1) (drop l.k l.a)) (drop l.k l.b)
      ≡ slice_cmp nat_cmp (map (λ i. i + 1) l.a) l.b;
}
