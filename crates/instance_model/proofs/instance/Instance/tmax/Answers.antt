use Rattle.std.proofs.Common.{◌≡◌, ◌∙◌, ap, subst, arith}
use Rattle.instance_model.specs.Tables.{Tables, tmax}
use Rattle.instance_model.specs.Fitting.{IsFitting}
use Rattle.instance_model.proofs.FitLemmas.{tmax_small}
use Rattle.instance_model.proofs.instance.Instance.tmax.Goals as goal

pub returns-clause-few : goal.returns-clause-few
returns-clause-few c =
    let e : c.start_count.result ≡ tmax c.args.self.now c.args.i =
    c.start_count.ensures.value ∙ ap (λ (t : Tables). tmax t c.args.i) c.self.view_is in
    omega (
      arith,
      e,
      tmax_small c.args.self.now c.args.i (subst IsFitting c.self.view_is c.self.invariant.fits) c.requires,
    )
