use Rattle.std.proofs.Common.{[], ◌∷◌, ◌≡◌, Bool, false, cond, map, sym, ◌∙◌, ap}
use Rattle.instance_model.specs.Tables.{in_season_of}
use Rattle.instance_writer.specs.text.Written.{whole_number}
use Rattle.instance_writer.specs.Steps.{values_text}
use Rattle.instance_writer.proofs.TextLemmas.{values_text-none}
use Rattle.instance_writer.proofs.LoopLemmas.{respelled}
use Rattle.instance_writer.proofs.seasons.put_season_period.Goals as goal

pub returns-then-not-in_season-clause-text : goal.returns-then-not-in_season-clause-text
returns-then-not-in_season-clause-text g c =
    let none : in_season_of c.args.inst.now c.args.q c.args.t ≡ false =
    sym c.in_season.ensures ∙ c.if-not-in_season.true in
    respelled g.S.Sink.Takes
    (sym
    (ap (λ (b : Bool). values_text c.args.first (map whole_number (cond b (c.args.t ∷ []) []))) none
    ∙ values_text-none c.args.first)) (g.met.S.Sink.takes_none c.args.sink.now)
