use Rattle.std.proofs.Common.{◌≡◌, ◌+◌, ◌∷◌, ◌++◌, length, arith, length-append}
use Rattle.quantile_index.proofs.HeightLemmas.{low_join, low_same}
use Rattle.quantile_index.proofs.tree.Node.put_sides.Goals as goal

pub returns-clause-sound : goal.returns-clause-sound
returns-clause-sound c =
    let l = c.args.left in
    let r = c.args.right in
    let e = c.args.self.now.entry in
    let count : length (l.0 ++ e ∷ r.0) ≡ length l.0 + length r.0 + 1 = omega (arith, length-append l.0 (e ∷ r.0)) in
    record {
      ordered = c.requires.ordered;
      height = omega arith;
      size = omega arith;
      balanced = c.requires.balanced;
      low = low_same _ _ _ _ (low_join _ _ _ _ c.height.ensures.low c.height-2.ensures.low c.requires.balanced)
          (omega arith) count;
    }
