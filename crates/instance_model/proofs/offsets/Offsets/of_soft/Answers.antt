use Rattle.std.proofs.Common.{subst, sym}
use Rattle.std.proofs.lemmas.Result.{IfOk-weaker}
use Rattle.instance_model.specs.Tables.{periods_before}
use Rattle.instance_model.specs.View.{IsColumnOf}
use Rattle.instance_model.proofs.ColumnLemmas.{IsColumnOf-periods}
use Rattle.instance_model.proofs.offsets.Offsets.of_soft.Goals as goal

pub of-requires-clause-column : goal.of-requires-clause-column
of-requires-clause-column c =
    (IsColumnOf-periods c.args.parts.now.periods c.in_ok-before.before.items c.requires.few_periods
    c.in_ok-before.ensures.each c.in_ok-before.ensures.values).sound

pub returns-clause-column : goal.returns-clause-column
returns-clause-column c =
    let column = IsColumnOf-periods c.args.parts.now.periods c.in_ok-before.before.items c.requires.few_periods
    c.in_ok-before.ensures.each c.in_ok-before.ensures.values in
    IfOk-weaker c.of.result _ _ (λ o e. subst (IsColumnOf c.args.parts.now.periods periods_before) (sym e) column)
    c.of.ensures.column
