use Rattle.std.proofs.Common.{◌≡◌, ℕ, ◌+◌, sym, subst, arith, rules, List}
use Rattle.std.proofs.lemmas.Grind.{common_steps}
use Rattle.instance_model.specs.Naturals.{count_sum}
use Rattle.instance_model.specs.Tables.{entries_of}
use Rattle.instance_model.specs.View.{tables_of, column_at, AreRowPlaces}
use Rattle.instance_model.proofs.EntryLemmas.{count_sum-zero}
use Rattle.instance_model.proofs.ColumnLemmas.{rows_more}
use Rattle.instance_model.proofs.offsets.Offsets.of.Goals as goal

pub loop-i-init : goal.loop-i-init
loop-i-init c = (sym (count_sum-zero _), omega arith, search rules, λ j h. absurd (omega arith))

pub loop-i-preserved : goal.loop-i-preserved
loop-i-preserved c =
    let t = tables_of c.args.parts.now in
    let e : c.as_slice.result.now ≡ c.args.before.items = c.as_slice.ensures.value in
    let next = subst (λ (b : List ℕ). c.in_ok-row.next ≡ count_sum (c.loop-i.i + 1) (entries_of t (column_at b))) e
    c.in_ok-row.ensures.next in
    let row = subst (λ (b : List ℕ). AreRowPlaces t (column_at b) c.loop-i.i c.in_ok-row.row.items) e
    c.in_ok-row.ensures.row in
    let rows = rows_more (AreRowPlaces t (column_at c.args.before.items)) c.loop-i.places.items c.in_ok-row.row
    c.loop-i.i c.loop-i.invariant.2 c.loop-i.invariant.3 row in
    (next, c.in_ok-row.ensures.small, grind (arith, common_steps), rw c.in_ok-push.ensures.items rows)
