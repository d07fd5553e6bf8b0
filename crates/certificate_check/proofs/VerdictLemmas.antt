-- There is one verdict, and that by tables is that by the worths which they give.
use Rattle.std.proofs.Common.{◌≡◌, ℕ, ◌-◌, ◌<◌, ◌≤◌, ◌⊎◌, inl, inr, refl, sym, ap, subst, arith, List, length, All}
use Rattle.std.proofs.Common.{Bool, true, false, nat_le}
use Rattle.std.proofs.lemmas.Bool.Decides.{nat_tests}
use Rattle.instance_model.specs.Tables.{Tables}
use Rattle.instance_model.specs.Fitting.{IsFitting}
use Rattle.lagrange_bound.specs.Goals.{PlanValue}
use Rattle.lagrange_bound.specs.Tabulated.{PriceRows}
use Rattle.certificate_lines.specs.declared.line.Bound.{Bound}
use Rattle.certificate_tree.specs.declared.node.Node.{Node}
use Rattle.certificate_tree.specs.declared.node.Node.TheVariants.{Point}
use Rattle.certificate_tree.specs.Trees.{Tree, Leaf, leaves, root_box}
use Rattle.certificate_tree.specs.Ranges.{AreNodesOf}
use Rattle.certificate_tree.specs.Holding.{Worths}
use Rattle.certificate_tree.specs.Validity.{Claim, ClaimLeafHolds, FailsFirst, IsProved, IsFirstUnproved, IsTreeOfClaim}
use Rattle.certificate_tree.specs.PriceTables.{claim_by, AreTablesOf}
use Rattle.certificate_tree.specs.Laws.{NodesAreOneTree, SameWorthsProveTheSame}
use Rattle.certificate_check.specs.declared.verdict.CertVerdict.{CertVerdict}
use Rattle.certificate_check.specs.declared.verdict.CertVerdict.TheVariants.{Valid, LeafFails}
use Rattle.certificate_check.specs.Verdicts.{IsVerdictOn}

fails_or_all : (Holds : Leaf → Type 0) (ls : List Leaf) (n : ℕ) → All Holds ls → FailsFirst Holds ls n → Leaf → ⊥
fails_or_all Holds ls n h f d = f.fails d (h (n - 1) d (omega (arith, f.from, f.to)))

one_first : (Holds : Leaf → Type 0) (ls : List Leaf) (m n : ℕ) → FailsFirst Holds ls m
    → FailsFirst Holds ls n → Leaf → m < n → ⊥
one_first Holds ls m n f g d l = f.fails d (g.before (m - 1) d (omega (arith, f.from, l)))

-- two numbers are the same, or one is below the other
pub same_or_apart : (m n : ℕ) → (m ≡ n) ⊎ (m < n) ⊎ (n < m)
same_or_apart m n = at (nat_le m n) refl (nat_le n m) refl
  where
    at : (a : Bool) → nat_le m n ≡ a → (b : Bool) → nat_le n m ≡ b → (m ≡ n) ⊎ (m < n) ⊎ (n < m)
    at true e true f = inl (let x : m ≤ n = grind (arith, nat_tests) in let y : n ≤ m = grind (arith, nat_tests) in
        omega (arith, x, y))
    at true e false f = inr (inl (grind (arith, nat_tests)))
    at false e b f = inr (inr (grind (arith, nat_tests)))

-- a leaf that fails first in one tree of the nodes does so in another
moved : NodesAreOneTree → (value : PlanValue) (inst : Tables) (claim : Claim) (n : ℕ) (t u : Tree)
    → IsTreeOfClaim inst claim t → IsTreeOfClaim inst claim u
    → FailsFirst (ClaimLeafHolds value inst claim) (leaves (root_box inst) t) n
    → FailsFirst (ClaimLeafHolds value inst claim) (leaves (root_box inst) u) n
moved law value inst claim n t u a b =
    subst (λ (x : Tree). FailsFirst (ClaimLeafHolds value inst claim) (leaves (root_box inst) x) n)
    (law inst claim.lists (root_box inst) claim.nodes t u a b)

-- any leaf
some_leaf : Tables → Leaf
some_leaf inst = record { box = root_box inst; node = Point }

proved_or_fails : NodesAreOneTree → (value : PlanValue) (inst : Tables) (claim : Claim) (n : ℕ)
    → IsProved value inst claim → IsFirstUnproved value inst claim n → ⊥
proved_or_fails law value inst claim n a b =
    fails_or_all (ClaimLeafHolds value inst claim) (leaves (root_box inst) a.tree) n a.holds
    (moved law value inst claim n b.tree a.tree b.of_nodes a.of_nodes b.first) (some_leaf inst)

pub one_verdict : NodesAreOneTree → (value : PlanValue) (inst : Tables) (claim : Claim) (v w : CertVerdict)
    → IsVerdictOn value inst claim v → IsVerdictOn value inst claim w → w ≡ v
one_verdict law value inst claim Valid Valid a b = refl
one_verdict law value inst claim Valid (LeafFails n) a b = absurd (proved_or_fails law value inst claim n a b)
one_verdict law value inst claim (LeafFails n) Valid a b = absurd (proved_or_fails law value inst claim n b a)
one_verdict law value inst claim (LeafFails m) (LeafFails n) a b =
    at (moved law value inst claim n b.tree a.tree b.of_nodes a.of_nodes b.first) (same_or_apart n m)
  where
    at : FailsFirst (ClaimLeafHolds value inst claim) (leaves (root_box inst) a.tree) n → (n ≡ m) ⊎ (n < m) ⊎ (m < n)
        → LeafFails n ≡ LeafFails m
    at f (inl e) = ap LeafFails e
    at f (inr (inl l)) = absurd (one_first (ClaimLeafHolds value inst claim) (leaves (root_box inst) a.tree) n m f
        a.first (some_leaf inst) l)
    at f (inr (inr l)) = absurd (one_first (ClaimLeafHolds value inst claim) (leaves (root_box inst) a.tree) m n a.first
        f (some_leaf inst) l)

-- ---- by tables
abbrev pub claim_with : Bound → ℕ → Worths → List Node → Claim
claim_with bound lists worths nodes = record { bound = bound; lists = lists; worths = worths; nodes = nodes }

lists_are : (inst : Tables) (lists : ℕ) (worths : Worths) (tables : List PriceRows)
    → AreTablesOf inst lists worths tables → length tables - 1 ≡ lists
lists_are inst lists worths tables t = omega (arith, t.each)

pub tree_by_tables : (inst : Tables) (bound : Bound) (lists : ℕ) (worths : Worths) (tables : List PriceRows)
    (nodes : List Node) (t : Tree) → AreTablesOf inst lists worths tables → AreNodesOf inst lists (root_box inst) t nodes
    → IsTreeOfClaim inst (claim_by bound tables nodes) t
tree_by_tables inst bound lists worths tables nodes t a =
    subst (λ (k : ℕ). AreNodesOf inst k (root_box inst) t nodes) (sym (lists_are inst lists worths tables a))

pub verdict_by_tables : SameWorthsProveTheSame → (value : PlanValue) (inst : Tables) (bound : Bound) (lists : ℕ)
    (worths : Worths) (tables : List PriceRows) (nodes : List Node) (v : CertVerdict) → IsFitting inst
    → AreTablesOf inst lists worths tables → IsVerdictOn value inst (claim_by bound tables nodes) v
    → IsVerdictOn value inst (claim_with bound lists worths nodes) v
verdict_by_tables law value inst bound lists worths tables nodes v f a h =
    subst (λ (k : ℕ). IsVerdictOn value inst (claim_with bound k worths nodes) v) (lists_are inst lists worths tables a)
    (at v h)
  where
    both : (IsProved value inst (claim_by bound tables nodes)
        → IsProved value inst (claim_with bound (length tables - 1) worths nodes))
        × ((n : ℕ) → IsFirstUnproved value inst (claim_by bound tables nodes) n
        → IsFirstUnproved value inst (claim_with bound (length tables - 1) worths nodes) n)
    both = law value inst (claim_by bound tables nodes) worths f
        (λ box j l. a.same box j (omega (arith, l, lists_are inst lists worths tables a)))

    at : (w : CertVerdict) → IsVerdictOn value inst (claim_by bound tables nodes) w
        → IsVerdictOn value inst (claim_with bound (length tables - 1) worths nodes) w
    at Valid = both.0
    at (LeafFails n) = both.1 n
