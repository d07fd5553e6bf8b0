-- What the steps of a walk over the nodes say. Cited by private functions only: no part of any promise.
use Rattle.std.specs.Prelude.{◌≡◌, ℕ, ◌<◌, ◌^◌, ℤ, pos, List, [], ◌∷◌, ◌++◌, Option, Some, None, IfSome, unsigned_abs}
use Rattle.instance_model.specs.Tables.{Tables}
use Rattle.lagrange_bound.specs.declared.span.Span.{Span}
use Rattle.certificate_lines.specs.declared.line.Bound.{Bound}
use Rattle.certificate_lines.specs.declared.line.Bound.TheVariants.{NoPlan, Least}
use Rattle.certificate_tree.specs.declared.node.Node.{Node}
use Rattle.certificate_tree.specs.Trees.{Tree, pre_order, root_box}
use Rattle.certificate_tree.specs.Ranges.{AreNodesOf}
use Rattle.certificate_tree.specs.Holding.{Worths}
use Rattle.band_rebound.specs.declared.leaf.NewLeaf.{NewLeaf}
use Rattle.band_rebound.specs.declared.growth.Growth.{Growth}
use Rattle.band_rebound.specs.Rebinding.{Becomes, TreeBecomes, worths_at, tree_worths, IsBoundOf, LeafCounts, sum_of}
use Rattle.band_rebound.specs.Rebinding.{CountsLeaf, Counts}

-- a number, or none
abbrev pub some_worth : Option ℤ → List ℤ
some_worth None = []
some_worth (Some z) = z ∷ []

-- what a bound is so far: the greatest number that one may be, where it is none
abbrev pub top_of : Bound → ℤ
top_of NoPlan = pos (10 ^ 36)
top_of (Least b) = b

-- what a leaf becomes, with what that is worth
pub record IsNewLeaf (inst : Tables) (lists : ℕ) (worths : Worths) (box : List Span) (old : Node) (new : NewLeaf)
    : Type 0 where
  pub becomes : Becomes inst lists worths box old new.node
  pub worth : worths_at inst worths box new.node ≡ some_worth new.worth
  pub small : IfSome new.worth (λ z. unsigned_abs z < 10 ^ 37)

-- the counts of a growth
abbrev pub counts_of : Growth → LeafCounts
counts_of growth = record { kept = growth.kept; changed = growth.changed }

-- a leaf was taken in
pub record TakesLeaf (leaf : Node) (made : NewLeaf) (old new : Growth) : Type 0 where
  pub nodes : new.nodes.items ≡ old.nodes.items ++ made.node ∷ []
  pub bound : (numbers : List ℤ) → IsBoundOf numbers old.bound → IsBoundOf (numbers ++ some_worth made.worth) new.bound
  pub one : LeafCounts
  pub counts_leaf : CountsLeaf leaf made.node one
  pub counts : counts_of new ≡ sum_of (counts_of old) one

-- the whole tree of these nodes was gone through
pub record IsGrown (inst : Tables) (lists : ℕ) (worths : Worths) (nodes : List Node) (growth : Growth) : Type 0 where
  pub old : Tree
  pub of_old : AreNodesOf inst lists (root_box inst) old nodes
  pub new : Tree
  pub order : pre_order new ≡ growth.nodes.items
  pub becomes : TreeBecomes inst lists worths (root_box inst) old new
  pub bound : IsBoundOf (tree_worths inst worths (root_box inst) new) growth.bound
  pub counts : Counts old new (counts_of growth)
