use Rattle.std.proofs.Common.{◌≡◌, ℕ, ◌<◌, ◌≤◌, ◌⊎◌, inl, inr, leb, leb-true, arith, rules, List, get_or, AllPairs, ap}
use Rattle.std.specs.List.Sorted.{IsNonDecreasingBy}
use Rattle.std.proofs.Math.Nat.{eq-or-lt_of_le}
use Rattle.std.proofs.lemmas.Bool.Decides.{nat_tests}
use Rattle.std.proofs.lemmas.List.Sorted.{IsPartitionPoint-from_clause, IsPartitionedBy-leb}
use Rattle.instance_model.specs.declared.parts.LoadCell.{LoadCell}
use Rattle.instance_model.specs.Fitting.{CellBefore}
use Rattle.branch_search.proofs.node_state.walk.cells_to.Goals as goal

start_before : (a b : LoadCell) → CellBefore a b → a.start ≤ b.start
start_before a b h = grind arith

starts_ascend : (cells : List LoadCell) → AllPairs CellBefore cells
    → IsNonDecreasingBy (λ (cell : LoadCell). cell.start) cells
starts_ascend cells all i j d l m = at (eq-or-lt_of_le l)
  where
    at : (i ≡ j) ⊎ (i < j) → (get_or cells i d).start ≤ (get_or cells j d).start
    at (inl e) =
        let same : (get_or cells i d).start ≡ (get_or cells j d).start = ap (λ (k : ℕ). (get_or cells k d).start) e in
        omega (arith, same)
    at (inr k) = start_before (get_or cells i d) (get_or cells j d) (all i j d k m)

pub returns-clause-before : goal.returns-clause-before
returns-clause-before c =
    let parted = IsPartitionedBy-leb (λ (cell : LoadCell). cell.start) _ c.args.s
    (starts_ascend c.args.cells.now c.requires) in
    let point = IsPartitionPoint-from_clause (λ (cell : LoadCell). leb cell.start c.args.s) _ _
    c.partition_point.ensures.partitioned parted (λ a r q k. search rules) in
    λ k d h. leb-true _ _ (point.0 k d (omega arith) h)

pub returns-clause-behind : goal.returns-clause-behind
returns-clause-behind c =
    let parted = IsPartitionedBy-leb (λ (cell : LoadCell). cell.start) _ c.args.s
    (starts_ascend c.args.cells.now c.requires) in
    let point = IsPartitionPoint-from_clause (λ (cell : LoadCell). leb cell.start c.args.s) _ _
    c.partition_point.ensures.partitioned parted (λ a r q k. search rules) in
    λ k d h m. later (get_or c.args.cells.now k d).start c.args.s (point.1 k d h m)
  where
    later : (n s : ℕ) → leb n s ≡ Rattle.std.proofs.Common.false → s < n
    later n s e = grind (arith, nat_tests)
