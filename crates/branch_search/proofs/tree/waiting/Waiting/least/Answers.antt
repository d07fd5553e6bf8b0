use Rattle.branch_search.proofs.HeapLemmas.{least_first}
use Rattle.branch_search.proofs.tree.waiting.Waiting.least.Goals as goal

pub returns-in-Some-clause-least : goal.returns-in-Some-clause-least
returns-in-Some-clause-least c =
    rw (c.entry_of.ensures, ← c.self.view_is)
    (least_first (λ r. (r.0.0, r.0.1.0)) c.in-Some.field-0.now _ (c.in-Some.ensures.greatest c.self.invariant))
