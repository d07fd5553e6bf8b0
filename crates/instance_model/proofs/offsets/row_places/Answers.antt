use Rattle.std.proofs.Common.{◌≡◌, ◌+◌, ◌∙◌, sym, ap, refl, arith, rules}
use Rattle.std.proofs.lemmas.Grind.{common_steps}
use Rattle.instance_model.specs.Tables.{tmax, entries_before}
use Rattle.instance_model.specs.View.{tables_of, column_at}
use Rattle.instance_model.proofs.EntryLemmas.{entries_before-first, entries_before_more, entries_before_end}
use Rattle.instance_model.proofs.offsets.row_places.Goals as goal

pub loop-k-init : goal.loop-k-init
loop-k-init c =
    let e = entries_before-first (tables_of c.args.parts.now) (column_at c.args.before.now) c.args.i in
    (c.requires.first ∙ sym e, omega arith, search rules, λ j h. absurd (omega arith))

pub loop-k-preserved : goal.loop-k-preserved
loop-k-preserved c =
    let e = entries_before_more (tables_of c.args.parts.now) (column_at c.args.before.now) c.args.i c.loop-k.k in (
      rw (e, ← c.entries_in-at.ensures.value, c.loop-k.invariant.0) refl,
      omega arith,
      grind (arith, common_steps),
      λ j h. grind (arith, common_steps, c.loop-k.invariant.3 j, c.loop-k.invariant.0),
    )

pub returns-clause-next : goal.returns-clause-next
returns-clause-next c =
    let t = tables_of c.args.parts.now in
    let b = column_at c.args.before.now in
    let k : c.loop-k.k ≡ tmax t c.args.i = omega arith in
    c.loop-k.invariant.0 ∙ ap (λ n. entries_before t b c.args.i (n + 1)) k ∙ entries_before_end t b c.args.i
