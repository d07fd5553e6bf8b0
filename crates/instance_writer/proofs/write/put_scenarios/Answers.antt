use Rattle.std.proofs.Common.{[], ◌∷◌, length, refl, sym, ap, arith}
use Rattle.instance_writer.specs.text.Written.{whole_number}
use Rattle.instance_writer.specs.Steps.{values_text}
use Rattle.instance_writer.proofs.ListLemmas.{map-scenarios}
use Rattle.instance_writer.proofs.LoopLemmas.{respelled, begin_values, next_values, end_values}
use Rattle.instance_writer.proofs.Items.{scenarios_item}
use Rattle.instance_writer.proofs.write.put_scenarios.Goals as goal

pub loop-k-init : goal.loop-k-init
loop-k-init g c = record {
  ready = c.put.ensures.ready;
  values = begin_values g.S.Sink.Takes g.met.S.Sink.takes_more c.put.ensures.text;
}

pub loop-k-preserved : goal.loop-k-preserved
loop-k-preserved g c = record {
  ready = c.put_whole.ensures.ready;
  values = next_values g.S.Sink.Takes g.met.S.Sink.takes_more (scenarios_item c.args.inst.now) c.loop-k.k
      c.loop-k.invariant.values
      (respelled g.S.Sink.Takes (ap (λ n. values_text c.loop-k.first (whole_number n ∷ [])) c.scenarios.ensures.value)
      c.put_whole.ensures.text) refl;
}

pub returns-clause-text : goal.returns-clause-text
returns-clause-text g c =
    let inst = c.args.inst.now in
    end_values g.S.Sink.Takes g.met.S.Sink.takes_more (scenarios_item inst) _ c.loop-k.k (length inst.scenarios)
    (omega (arith, c.fits.ensures.scenarios_each)) (sym (map-scenarios inst)) c.loop-k.invariant.values
    c.put-2.ensures.text
