use Rattle.std.proofs.Common.{◌≡◌, Option, sym, ◌∙◌, ap, subst}
use Rattle.std.proofs.lemmas.Result.{err_from_is_err_and}
use Rattle.json_grammar.specs.Tree.{Tree}
use Rattle.instance_model.specs.Fitting.{IsFitting}
use Rattle.instance_model.specs.Tables.{Tables}
use Rattle.instance_model.specs.View.{tables_of}
use Rattle.instance_model.specs.declared.limits.Limits.{Limits}
use Rattle.instance_shape.specs.CrossFaults.{CrossFault, cross_fault}
use Rattle.instance_shape.specs.FileTables.{tables}
use Rattle.instance_shape.proofs.Fits.{fits}
use Rattle.instance_rows.specs.declared.rows.FileRows as declared
use Rattle.instance_rows.specs.Answers.{TellsFault}
use Rattle.instance_rows.specs.RowFaults.{rows_fault}
use Rattle.instance_rows.specs.RowTables.{rows_tables}
use Rattle.instance_rows.specs.Views.{AreRowsOf, rows_view}
use Rattle.instance_rows.proofs.FaultLaw.{fault_law}
use Rattle.instance_rows.proofs.SoundLaw.{sound_rows}
use Rattle.instance_rows.proofs.TableLaw.{table_law}
use Rattle.instance_rows.proofs.assembly.assemble.Goals as goal

-- the first fault across a file is that of its rows
fault_is : (limits : Limits) (root : Tree) (rows : declared.FileRows) → AreRowsOf limits root rows
    → cross_fault root ≡ rows_fault (rows_view rows)
fault_is limits root rows a = fault_law limits root a.shaped ∙ ap rows_fault (sym a.same)

pub parts-requires : goal.parts-requires
parts-requires c = sound_rows c.requires.rows.0 c.requires.rows.1.0 c.args.rows c.requires.rows.1.1

pub returns-in_err-parts-clause-told : goal.returns-in_err-parts-clause-told
returns-in_err-parts-clause-told c = λ limits root a.
    let p = err_from_is_err_and c.from_residual.result c.from_residual.ensures.1 in
    rw (p.1, p.2) (subst (λ (o : Option CrossFault). TellsFault o c.in_err-parts.field-0.0)
    (sym (fault_is limits root c.args.rows a)) c.in_err-parts.ensures.told)

pub from_parts-requires : goal.from_parts-requires
from_parts-requires c =
    let limits = c.requires.rows.0 in let root = c.requires.rows.1.0 in let a = c.requires.rows.1.1 in
    let same : tables_of c.in_ok-parts.field-0 ≡ tables c.args.slack root = c.in_ok-parts.ensures.tables
    ∙ ap (rows_tables c.args.slack) a.same ∙ sym (table_law limits c.args.slack root a.shaped) in
    record {
      fits = subst (λ (t : Tables). IsFitting t) (sym same) (fits limits c.args.slack root a.standard c.requires.slack
          a.shaped (fault_is limits root c.args.rows a ∙ c.in_ok-parts.ensures.told));
    }

pub returns-in_err-from_parts-clause-told : goal.returns-in_err-from_parts-clause-told
returns-in_err-from_parts-clause-told c = λ limits root a.
    let p = err_from_is_err_and c.from_residual-in_err-from_parts.result c.from_residual-in_err-from_parts.ensures.1 in
    rw (p.1, p.2) tt

pub returns-clause-told : goal.returns-clause-told
returns-clause-told c = λ limits root a. fault_is limits root c.args.rows a ∙ c.in_ok-parts.ensures.told

pub returns-clause-tables : goal.returns-clause-tables
returns-clause-tables c = λ limits root a.
    c.in_ok-from_parts.ensures ∙ c.in_ok-parts.ensures.tables ∙ ap (rows_tables c.args.slack) a.same
    ∙ sym (table_law limits c.args.slack root a.shaped)
