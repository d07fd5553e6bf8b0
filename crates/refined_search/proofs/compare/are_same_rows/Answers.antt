use Rattle.std.proofs.Common.{◌∙◌, refl, sym, arith}
use Rattle.std.proofs.lemmas.Bool.{false≢true}
use Rattle.refined_search.proofs.RowLemmas.{rows_more, row_same, same_rows}
use Rattle.refined_search.proofs.compare.are_same_rows.Goals as goal

pub returns-then-not-is_same_row : goal.returns-then-not-is_same_row
returns-then-not-is_same_row c =
    let same = row_same c.args.a.now c.args.b.now c.loop-k.k c.index-a-k.result c.index-b-k.result c.loop-k-test.true
    c.if-a-b.false c.index-a-k.is c.index-b-k.is in (
      λ t. absurd (false≢true t),
      λ e. absurd (false≢true (sym c.if-not-is_same_row.true
          ∙ c.is_same_row.ensures.1 (c.as_slice.ensures.value ∙ same e ∙ sym c.as_slice-in-loop-k.ensures.value))),
    )

pub loop-k-preserved : goal.loop-k-preserved
loop-k-preserved c =
    rows_more c.args.a.now c.args.b.now c.loop-k.k c.index-a-k.result c.index-b-k.result c.loop-k-test.true
    c.if-a-b.false c.index-a-k.is c.index-b-k.is
    (sym c.as_slice.ensures.value ∙ c.is_same_row.ensures.0 c.if-not-is_same_row.false
    ∙ c.as_slice-in-loop-k.ensures.value) c.loop-k.invariant

pub returns : goal.returns
returns c = (
  λ _. same_rows c.args.a.now c.args.b.now c.loop-k.k c.if-a-b.false (omega arith) c.loop-k.invariant,
  λ _. refl,
)
