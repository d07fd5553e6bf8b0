use Rattle.std.proofs.Common.{[], ◌∷◌, length, refl, sym, ◌∙◌, ap, arith}
use Rattle.std.specs.Prelude.{ℤ}
use Rattle.fixed_num.proofs.SignedLemmas.{back_from_abs}
use Rattle.instance_model.specs.RiskNumbers.{numbers_of}
use Rattle.instance_writer.specs.text.Written.{count_number}
use Rattle.instance_writer.specs.Steps.{values_text}
use Rattle.instance_writer.proofs.ListLemmas.{map-counts}
use Rattle.instance_writer.proofs.LoopLemmas.{respelled, begin_values, next_values, end_values}
use Rattle.instance_writer.proofs.Items.{count_item}
use Rattle.instance_writer.proofs.risks.put_counts.Goals as goal

pub loop-k-init : goal.loop-k-init
loop-k-init g c = record {
  ready = c.put.ensures.ready;
  values = begin_values g.S.Sink.Takes g.met.S.Sink.takes_more c.put.ensures.text;
}

pub loop-k-preserved : goal.loop-k-preserved
loop-k-preserved g c =
    let style = g.N.Numerals.style in
    let counts = numbers_of c.args.counts in
    record {
      ready = c.put_count.ensures.ready;
      values = next_values g.S.Sink.Takes g.met.S.Sink.takes_more (count_item style counts) c.loop-k.k
          c.loop-k.invariant.values
          (respelled g.S.Sink.Takes
          (ap (λ (z : ℤ). values_text c.loop-k.first (count_number style z ∷ []))
          (back_from_abs c.count.result (omega (arith, c.count.ensures.small)) ∙ c.count.ensures.value ∙ c.at.ensures))
          c.put_count.ensures.text) refl;
    }

pub returns-clause-text : goal.returns-clause-text
returns-clause-text g c =
    let style = g.N.Numerals.style in
    let counts = numbers_of c.args.counts in
    end_values g.S.Sink.Takes g.met.S.Sink.takes_more (count_item style counts) _ c.loop-k.k (length counts)
    (omega arith)
    (sym (map-counts style counts)) c.loop-k.invariant.values c.put-2.ensures.text
