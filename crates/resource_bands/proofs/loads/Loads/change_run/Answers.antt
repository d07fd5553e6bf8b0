use Rattle.std.proofs.Common.{◌≡◌, ◌+ℤ◌, sym, subst, arith, List, Option, ℕ, ℤ, set}
use Rattle.std.proofs.lemmas.List.{with_items_is}
use Rattle.instance_model.specs.Plans.{start_of}
use Rattle.resource_bands.specs.BoardLoads.{BoardLoads, IsOver}
use Rattle.resource_bands.specs.Gaps.{rows_gap, start_before, start_after, AreRowsChanged}
use Rattle.resource_bands.proofs.OverLemmas.{AreRows-over, violation_fits, IsReplaced-by, IsOver-after}
use Rattle.resource_bands.proofs.loads.Loads.change_run.Goals as goal

pub change_rows-further-requires-clause-rows : goal.change_rows-further-requires-clause-rows
change_rows-further-requires-clause-rows c =
    let over = subst (λ (v : BoardLoads). IsOver c.args.inst.now v) (sym c.self.view_is) c.requires.over in
    rw c.deref_mut.ensures.value (AreRows-over c.args.inst.now _ c.fits.ensures over)

pub plus-self-inside-requires : goal.plus-self-inside-requires
plus-self-inside-requires c =
    let over = subst (λ (v : BoardLoads). IsOver c.args.inst.now v) (sym c.self.view_is) c.requires.over in
    violation_fits c.args.inst.now _ c.change_rows-further.result c.fits.ensures over
    c.change_rows-further.ensures.small

pub returns-clause-over : goal.returns-clause-over
returns-clause-over c =
    let inst = c.args.inst.now in
    let i = c.args.i in
    let s = c.args.s in
    let change = c.args.change in
    let board = c.self.inside.board.items in
    let rows = c.change_rows-further.new.rows in
    let further = c.change_rows-further.result in
    let violation = c.plus-self-inside.result in
    let over = subst (λ (v : BoardLoads). IsOver inst v) (sym c.self.view_is) c.requires.over in
    let before =
    subst (λ (v : BoardLoads). start_of v.board i ≡ start_before change s) (sym c.self.view_is) c.requires.start in
    let lent = c.deref_mut.ensures.value in
    let changed =
    subst (λ (x : List (List ℤ)). AreRowsChanged inst i s change x rows) lent c.change_rows-further.ensures.changed in
    let gap = subst (λ (x : List (List ℤ)). rows_gap inst rows ≡ rows_gap inst x +ℤ further) lent
    c.change_rows-further.ensures.gap in
    let written = with_items_is c.self.inside.rows rows (omega (arith, changed.each, c.self.inside.rows.ok.0)) in
    let replaced = IsReplaced-by inst i s change (start_of board i) before c.requires.allowed in
    let after = IsOver-after inst _ i s change (start_after change s) rows further violation over c.requires.number
    replaced changed gap c.plus-self-inside.ensures in
    let kept = subst
    (λ (x : List (List ℤ)). IsOver inst (record {
      board = set board i (start_after change s);
      loads = x;
      violation = violation;
    })) (sym written) after in
    subst (λ (o : Option ℕ). IsOver inst
    (record {
      board = set board i o;
      loads = (Rattle.std.specs.Vec.with_items c.self.inside.rows rows).items;
      violation = violation;
    })) (sym c.start.ensures) kept
