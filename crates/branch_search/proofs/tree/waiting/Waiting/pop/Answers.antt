use Rattle.std.proofs.lemmas.List.Sorted.{IsPermutation-map}
use Rattle.branch_search.proofs.HeapLemmas.{least_first}
use Rattle.branch_search.proofs.tree.waiting.Waiting.pop.Goals as goal
use Rattle.branch_search.proofs.tree.waiting.Waiting.pop.Goals.{in-Some, in-None}

pub returns-clause-same : goal.returns-clause-same
returns-clause-same c =
    elim c.match-pop.branch [
      | in-Some w ↦ rw (w.result-is, w.entry_of.ensures, ← c.self.view_is)
          (IsPermutation-map (λ r. (r.0.0, r.0.1.0)) _ _ w.in-Some.ensures.permutation)
      | in-None w ↦ rw w.result-is tt
    ]

pub returns-clause-least : goal.returns-clause-least
returns-clause-least c =
    elim c.match-pop.branch [
      | in-Some w ↦ rw (w.result-is, w.entry_of.ensures)
          (least_first (λ r. (r.0.0, r.0.1.0)) _ _ (w.in-Some.ensures.below_top c.self.invariant))
      | in-None w ↦ rw w.result-is tt
    ]
