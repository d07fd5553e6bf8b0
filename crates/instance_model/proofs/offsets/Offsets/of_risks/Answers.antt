use Rattle.std.proofs.Common.{subst, sym, List, ℕ}
use Rattle.std.proofs.lemmas.Result.{IfOk-weaker}
use Rattle.instance_model.specs.Tables.{scenarios_before}
use Rattle.instance_model.specs.View.{tables_of, IsColumnOf, AreSums}
use Rattle.instance_model.proofs.ColumnLemmas.{IsColumnOf-scenarios}
use Rattle.instance_model.proofs.offsets.Offsets.of_risks.Goals as goal

pub of-requires-clause-column : goal.of-requires-clause-column
of-requires-clause-column c =
    let sums = subst (λ (xs : List ℕ). AreSums xs c.in_ok-before.before.items) c.as_slice.ensures.value
    c.in_ok-before.ensures in
    (IsColumnOf-scenarios c.args.parts.now c.in_ok-before.before.items c.requires sums).sound

pub returns-clause-column : goal.returns-clause-column
returns-clause-column c =
    let sums = subst (λ (xs : List ℕ). AreSums xs c.in_ok-before.before.items) c.as_slice.ensures.value
    c.in_ok-before.ensures in
    let column = IsColumnOf-scenarios c.args.parts.now c.in_ok-before.before.items c.requires sums in
    IfOk-weaker c.of.result _ _ (λ o e. subst (IsColumnOf c.args.parts.now.periods (scenarios_before (tables_of c.args.parts.now)))
    (sym e) column) c.of.ensures.column
