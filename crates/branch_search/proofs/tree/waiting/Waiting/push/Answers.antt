use Rattle.std.specs.declared.cmp.Reverse.{Reverse}
use Rattle.std.proofs.Common.{ℕ, ℤ, to_z-of_z}
use Rattle.std.proofs.lemmas.List.Sorted.{IsPermutation-map}
use Rattle.branch_search.proofs.tree.waiting.Waiting.push.Goals as goal

pub returns : goal.returns
returns c =
    let p = IsPermutation-map {X = ℤ × ℕ} (λ (r : Reverse (ℤ × Reverse ℕ)). (r.0.0, r.0.1.0)) _ _
    c.in_ok-push.ensures.permutation in
    rw (← c.self.view_is) (rw (to_z-of_z c.ranges.worth) at p)
