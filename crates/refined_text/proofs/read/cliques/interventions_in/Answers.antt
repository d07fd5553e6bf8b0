use Rattle.std.proofs.Common.{◌≤◌, ◌∙◌, refl, sym}
use Rattle.std.proofs.lemmas.Bool.{false≢true}
use Rattle.std.proofs.lemmas.List.Elements.{All-more}
use Rattle.refined_text.proofs.ReadNumberLemmas.{numbers_more, number_counts}
use Rattle.refined_text.proofs.read.cliques.interventions_in.Goals as goal

pub returns-then-not-counts_to-clause-none : goal.returns-then-not-counts_to-clause-none
returns-then-not-counts_to-clause-none c = λ some few. false≢true (sym c.if-not-counts_to.true
    ∙ c.counts_to.ensures.1 (number_counts c.loop-number.number-index c.args.count c.args.numbers.now
    c.loop-number-test.true some few))

pub loop-number-preserved : goal.loop-number-preserved
loop-number-preserved c =
    let counts = c.counts_to.ensures.0 c.if-not-counts_to.false in
    record {
      read = c.in_ok-push.ensures.items ∙ numbers_more c.loop-number.number-index c.loop-number.list.items
          c.args.numbers.now _ c.loop-number-test.true refl c.loop-number.invariant.read;
      numbers = All-more (λ i. 1 ≤ i) c.args.numbers.now c.loop-number.number-index 0 c.loop-number-test.true
          c.loop-number.invariant.numbers counts.0;
    }
