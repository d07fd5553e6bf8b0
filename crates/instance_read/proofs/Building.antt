-- What is built of a text that has ended.
use Rattle.std.proofs.Common.{◌≡◌, List, ℕ, [], None, ◌∙◌, ap}
use Rattle.std.specs.Prelude.{IfSome}
use Rattle.json_grammar.specs.Tree.{Tree}
use Rattle.instance_model.specs.declared.limits.Limits.{Limits}
use Rattle.instance_shape.specs.CrossFaults.{cross_fault}
use Rattle.instance_shape.specs.Defined.{IsTreeOf}
use Rattle.instance_shape.specs.FileFaults.{HasFileFault}
use Rattle.instance_shape.specs.Ranges.{AreStandard}
use Rattle.instance_shape.specs.ShapeFaults.{shape_faults}
use Rattle.instance_rows.specs.Answers as rows
use Rattle.instance_rows.specs.Views.{AreRowsOf, rows_view}
use Rattle.instance_rows.specs.declared.fault.RowsFault.{RowsFault}
use Rattle.instance_rows.specs.declared.fault.RowsFault.TheVariants.{Across, Memory}
use Rattle.instance_rows.specs.declared.rows.FileRows.{FileRows}
use Rattle.shape_walk.specs.Standing.{Walk}
use Rattle.instance_read.specs.Keepers.{kept_of}
use Rattle.instance_read.specs.Keeping.{rows_kept}
use Rattle.instance_read.specs.Readers.{HaveEnded}
use Rattle.instance_read.specs.PartFaults.{of_rows}
use Rattle.instance_read.specs.declared.keeper.Keeper.{Keeper}
use Rattle.instance_read.proofs.KeepingLaw.{rows_kept-events}

-- without a fault of shape the rows are those of the text
pub rows_are : (limits : Limits) (bytes : List ℕ) (walk : Walk) (keeper : Keeper) (file_rows : FileRows)
    (h : HaveEnded limits walk keeper bytes) → AreStandard limits → walk.fault ≡ None → shape_faults limits h.root ≡ []
    → rows_view file_rows ≡ rows_kept (kept_of keeper) → AreRowsOf limits h.root file_rows
rows_are limits bytes walk keeper file_rows h standard none shaped same = record {
  shaped = shaped;
  standard = standard;
  same = same ∙ ap rows_kept (h.taken.kept none) ∙ rows_kept-events limits h.root shaped;
}

-- a fault across the file is the file's
pub tells_across : (limits : Limits) (bytes : List ℕ) (root : Tree) (f : RowsFault) → IsTreeOf bytes root
    → shape_faults limits root ≡ [] → rows.TellsFault (cross_fault root) f
    → IfSome (of_rows f) (HasFileFault limits bytes)
tells_across limits bytes root (Across f) text shaped h =
    record { root = root; text = text; shaped = shaped; first = h }
tells_across limits bytes root Memory text shaped h = tt
