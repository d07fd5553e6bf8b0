use Rattle.std.proofs.Common.{◌+◌, get_or, ◌∙◌, rules}
use Rattle.std.proofs.lemmas.List.Sorted.{answers_always}
use Rattle.instance_rows.proofs.CellOrder.{precedes_is}
use Rattle.instance_rows.proofs.cells.sort_cells.Goals as goal

pub returns-clause-sorted : goal.returns-clause-sorted
returns-clause-sorted c = λ k d l m.
    let cells = c.sort_unstable_by_key.new.self.items in
    precedes_is (get_or cells (k + 1) d) (get_or cells k d)
    ∙ c.sort_unstable_by_key.ensures.sorted (λ z. (z.start, z.period, z.resource))
    (answers_always _ _ _ (λ f a r q k. search rules)) k d l m
