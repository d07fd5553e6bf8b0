use Rattle.std.proofs.lemmas.Slice.Eq.{slice_eq-Decides}
use Rattle.refined_search.proofs.RowLemmas.{entries_decide}
use Rattle.refined_search.proofs.compare.is_same_row.Goals as goal

pub returns : goal.returns
returns c = slice_eq-Decides entries_decide c.args.a.now c.args.b.now c.eq.result c.eq.ensures
