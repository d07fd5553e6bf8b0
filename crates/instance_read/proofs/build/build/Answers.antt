use Rattle.std.proofs.Common.{◌≡◌, ℕ, List, [], None, sym, ◌∙◌}
use Rattle.json_grammar.proofs.LawsAscending.{events_ascend}
use Rattle.instance_model.specs.declared.limits.Limits.{Limits}
use Rattle.instance_rows.specs.Views.{AreRowsOf, rows_view}
use Rattle.instance_rows.specs.declared.rows.FileRows.{FileRows}
use Rattle.instance_shape.specs.Ranges.{AreStandard}
use Rattle.instance_shape.specs.ShapeFaults.{shape_faults}
use Rattle.instance_read.specs.Keepers.{kept_of}
use Rattle.instance_read.specs.Keeping.{rows_kept}
use Rattle.instance_read.specs.Readers.{HaveEnded}
use Rattle.instance_read.proofs.Building.{rows_are, tells_across}
use Rattle.instance_read.proofs.build.build.Goals as goal
use Rattle.instance_read.proofs.build.build.Goals.{After-take_rows}

-- without a fault of shape
shaped : (c : After-take_rows) (limits : Limits) (bytes : List ℕ) (h : HaveEnded limits c.args.walk.now
    c.args.keeper.now bytes) → shape_faults limits h.root ≡ []
shaped c limits bytes h =
    (c.fault.ensures.none limits h.root (events_ascend bytes h.root h.text.text) h.taken.stands).0 c.in-None.is

rows : (c : After-take_rows) (taken : FileRows) → rows_view taken ≡ rows_kept (kept_of c.args.keeper.now)
    → (limits : Limits) (bytes : List ℕ) (h : HaveEnded limits c.args.walk.now c.args.keeper.now bytes)
    → AreStandard limits → AreRowsOf limits h.root taken
rows c taken same limits bytes h s =
    let none : c.args.walk.now.fault ≡ None = sym c.fault.ensures.same ∙ c.in-None.is in
    rows_are limits bytes c.args.walk.now c.args.keeper.now taken h s none (shaped c limits bytes h) same

pub assemble-requires-clause-rows : goal.assemble-requires-clause-rows
assemble-requires-clause-rows c =
    let h = c.requires.ended in (
      h.limits,
      (
        h.ended.root,
        rows (goal.at.assemble-requires-clause-rows c).After-take_rows c.in_ok-rows-in-None.rows c.in_ok-rows-in-None.ensures h.limits
            h.bytes h.ended h.standard,
      ),
    )

pub returns-in-Some-clause-fault : goal.returns-in-Some-clause-fault
returns-in-Some-clause-fault c = λ limits bytes s h.
    rw c.of_shape.ensures (record {
      root = h.root;
      text = h.text;
      least = (c.fault.ensures.least limits h.root (events_ascend bytes h.root h.text.text) h.taken.stands
          c.in-Some.fault).0 c.in-Some.is;
    })

pub returns-in-Ok-clause-built : goal.returns-in-Ok-clause-built
returns-in-Ok-clause-built c = λ limits bytes s h.
    let before = (goal.at.returns-in-Ok-clause-built c).After-take_rows in
    record {
      root = h.root;
      text = h.text;
      shaped = shaped before limits bytes h;
      fitting = c.in-Ok.ensures.told limits h.root
          (rows before c.in_ok-rows-in-None.rows c.in_ok-rows-in-None.ensures limits bytes h s);
      tables = c.in-Ok.ensures.tables limits h.root
          (rows before c.in_ok-rows-in-None.rows c.in_ok-rows-in-None.ensures limits bytes h s);
    }

pub returns-in-Err-clause-fault : goal.returns-in-Err-clause-fault
returns-in-Err-clause-fault c = λ limits bytes s h.
    let before = (goal.at.returns-in-Err-clause-fault c).After-take_rows in
    rw c.of_rows.ensures (tells_across limits bytes h.root c.in-Err.fault h.text (shaped before limits bytes h)
    (c.in-Err.ensures.told limits h.root (rows before c.in_ok-rows-in-None.rows c.in_ok-rows-in-None.ensures limits bytes h s)))
