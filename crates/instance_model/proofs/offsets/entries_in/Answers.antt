use Rattle.std.proofs.Common.{◌∙◌, sym}
use Rattle.instance_model.specs.View.{tables_of, column_at}
use Rattle.instance_model.proofs.EntryLemmas.{entries_at-refused}
use Rattle.instance_model.proofs.FitLemmas.{durations_is, is_allowed_is, delta_of_is}
use Rattle.instance_model.proofs.ColumnLemmas.{entries_at_is}
use Rattle.instance_model.proofs.offsets.entries_in.Goals as goal

pub returns-then-not-is_allowed_in-clause-value : goal.returns-then-not-is_allowed_in-clause-value
returns-then-not-is_allowed_in-clause-value c =
    let t = tables_of c.args.parts.now in
    let d = durations_is c.args.parts.now c.args.i c.index.result.now c.requires.number c.index.ensures
    ∙ sym c.as_slice-durations.ensures.value in
    let a = is_allowed_is t c.args.i c.args.s c.as_slice-durations.result.now c.is_allowed_in.result d
    c.is_allowed_in.ensures.value in
    sym (entries_at-refused t (column_at c.args.before.now) c.args.i c.args.s (a ∙ c.if-not-is_allowed_in.true))

pub returns-clause-value : goal.returns-clause-value
returns-clause-value c =
    let t = tables_of c.args.parts.now in
    let d = durations_is c.args.parts.now c.args.i c.index.result.now c.requires.number c.index.ensures
    ∙ sym c.as_slice-durations.ensures.value in
    let a = is_allowed_is t c.args.i c.args.s c.as_slice-durations.result.now c.is_allowed_in.result d
    c.is_allowed_in.ensures.value in
    let e = delta_of_is t c.args.i c.args.s c.as_slice-durations.result.now d in
    let v = entries_at_is t c.args.before.now c.args.i c.args.s (a ∙ c.if-not-is_allowed_in.false) in
    rw (c.entries_between.ensures, c.past_of-past.ensures, ← e) v
