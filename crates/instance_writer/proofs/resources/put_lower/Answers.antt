use Rattle.std.proofs.Common.{[], ◌∷◌, ◌+◌, refl, sym, ◌∙◌, ap, arith}
use Rattle.std.specs.Prelude.{ℤ}
use Rattle.fixed_num.proofs.SignedLemmas.{back_from_abs}
use Rattle.instance_model.specs.Tables.{lower_of}
use Rattle.instance_writer.specs.text.Written.{count_number}
use Rattle.instance_writer.specs.Steps.{values_text}
use Rattle.instance_writer.proofs.ListLemmas.{map-list_of}
use Rattle.instance_writer.proofs.LoopLemmas.{respelled, begin_values, next_values, end_values}
use Rattle.instance_writer.proofs.Items.{lower_item}
use Rattle.instance_writer.proofs.resources.put_lower.Goals as goal

pub loop-k-init : goal.loop-k-init
loop-k-init g c = record {
  ready = c.put.ensures.ready;
  values = begin_values g.S.Sink.Takes g.met.S.Sink.takes_more c.put.ensures.text;
}

pub loop-k-preserved : goal.loop-k-preserved
loop-k-preserved g c =
    let style = g.N.Numerals.style in
    record {
      ready = c.put_count.ensures.ready;
      values = next_values g.S.Sink.Takes g.met.S.Sink.takes_more (lower_item style c.args.inst.now c.args.c) c.loop-k.k
          c.loop-k.invariant.values
          (respelled g.S.Sink.Takes
          (ap (λ (z : ℤ). values_text c.loop-k.first (count_number style z ∷ []))
          (back_from_abs c.lower.result (omega (arith, c.lower.ensures.small)) ∙ c.lower.ensures.value))
          c.put_count.ensures.text) refl;
    }

pub returns-clause-text : goal.returns-clause-text
returns-clause-text g c =
    let style = g.N.Numerals.style in
    let inst = c.args.inst.now in
    end_values g.S.Sink.Takes g.met.S.Sink.takes_more (lower_item style inst c.args.c) _ c.loop-k.k inst.periods
    (omega arith)
    (sym (map-list_of (count_number style) inst.periods (λ k. lower_of inst c.args.c (k + 1))))
    c.loop-k.invariant.values c.put-2.ensures.text
