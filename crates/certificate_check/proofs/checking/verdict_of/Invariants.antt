use Rattle.std.proofs.Common.{ℕ, ◌-◌, ◌<◌, [], ◌∷◌, length, get_or}
use Rattle.certificate_tree.specs.Trees.{Leaf, root_box}
use Rattle.certificate_tree.specs.Validity.{ClaimLeafHolds}
use Rattle.certificate_tree.specs.PriceTables.{claim_by}
use Rattle.certificate_check.proofs.FlatLemmas.{flat_leaves}
use Rattle.certificate_check.proofs.StepLemmas.{IsAt}
use Rattle.certificate_check.proofs.checking.verdict_of.Given as goal

abbrev pub invariant-loop-node : goal.invariant-loop-node
invariant-loop-node g l = record {
  here : IsAt l.inst (length l.tables - 1) l.nodes (flat_leaves l.nodes (root_box l.inst ∷ []))
      l.node-index l.leaves l.path;
  hold : (k : ℕ) (d : Leaf) → k < l.leaves → ClaimLeafHolds (g.G.Goal.value_gives l.goal) l.inst
      (claim_by l.bound l.tables l.nodes) (get_or (flat_leaves l.nodes (root_box l.inst ∷ [])) k d);
}
