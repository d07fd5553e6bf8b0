use Rattle.std.proofs.Common.{◌∙◌, sym, arith}
use Rattle.std.proofs.lemmas.Bool.{false≢true}
use Rattle.refined_text.proofs.ReadNumberLemmas.{second_ended, first_ended}
use Rattle.refined_text.proofs.read.cliques.are_below.Goals as goal

pub returns-then-k-b : goal.returns-then-k-b
returns-then-k-b c = (
  λ t. absurd (false≢true t),
  λ less. absurd (second_ended c.loop-k.k c.args.a.now c.args.b.now c.loop-k-test.true (omega arith)
      c.loop-k.invariant.rest less),
)

pub returns : goal.returns
returns c =
    let e = first_ended c.loop-k.k c.args.a.now c.args.b.now (omega arith) (omega arith) (omega arith)
    c.loop-k.invariant.rest in (
      λ t. sym e ∙ t,
      λ less. e ∙ less,
    )
