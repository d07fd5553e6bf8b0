use Rattle.std.proofs.Common.{[], ◌∷◌, ◌+◌, sym, ◌∙◌, arith, cond}
use Rattle.instance_model.specs.Tables.{in_season_of}
use Rattle.instance_writer.specs.text.Written.{whole_number}
use Rattle.instance_writer.proofs.ListLemmas.{map-lists_below}
use Rattle.instance_writer.proofs.TextLemmas.{first_after-map}
use Rattle.instance_writer.proofs.LoopLemmas.{begin_values, next_values, end_values}
use Rattle.instance_writer.proofs.Items.{season_item}
use Rattle.instance_writer.proofs.seasons.put_season_periods.Goals as goal

pub loop-k-init : goal.loop-k-init
loop-k-init g c = record {
  ready = c.put.ensures.ready;
  values = begin_values g.S.Sink.Takes g.met.S.Sink.takes_more c.put.ensures.text;
}

pub loop-k-preserved : goal.loop-k-preserved
loop-k-preserved g c =
    let inst = c.args.inst.now in
    record {
      ready = c.put_season_period-first.ensures.ready;
      values = next_values g.S.Sink.Takes g.met.S.Sink.takes_more (season_item inst c.args.q) c.loop-k.k
          c.loop-k.invariant.values c.put_season_period-first.ensures.text
          (c.put_season_period-first.ensures.first
          ∙ sym (first_after-map c.loop-k.first whole_number
          (cond (in_season_of inst c.args.q (c.loop-k.k + 1)) ((c.loop-k.k + 1) ∷ []) [])));
    }

pub returns-clause-text : goal.returns-clause-text
returns-clause-text g c =
    let inst = c.args.inst.now in
    end_values g.S.Sink.Takes g.met.S.Sink.takes_more (season_item inst c.args.q) _ c.loop-k.k inst.periods
    (omega arith)
    (sym (map-lists_below whole_number inst.periods
    (λ k. cond (in_season_of inst c.args.q (k + 1)) ((k + 1) ∷ []) []))) c.loop-k.invariant.values c.put-2.ensures.text
