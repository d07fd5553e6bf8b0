use Rattle.std.proofs.Common.{◌+◌, Bool, sym, ◌∙◌, ap, subst}
use Rattle.std.specs.Prelude.{IsTrue}
use Rattle.fixed_num.specs.Sums.{list_of}
use Rattle.instance_model.specs.Tables.{Tables, is_allowed, in_run, scenarios_of, risk_of}
use Rattle.instance_writer.proofs.ViewLemmas.{same_allowed, same_run, same_risks}
use Rattle.instance_writer.proofs.risks.risks_of_run.Goals as goal

pub risks_on-requires-clause-allowed : goal.risks_on-requires-clause-allowed
risks_on-requires-clause-allowed g c =
    let inst = g.V.InstanceView.base c.args.view.now in
    let view = g.V.InstanceView.tables c.args.view.now in
    subst (λ (b : Bool). IsTrue b)
    (same_allowed inst view c.requires.shown c.args.i c.args.s c.requires.number c.requires.allowed
    ∙ ap (λ (t : Tables). is_allowed t c.args.i c.args.s) (sym c.instance.ensures)) c.requires.allowed

pub risks_on-requires-clause-running : goal.risks_on-requires-clause-running
risks_on-requires-clause-running g c =
    let inst = g.V.InstanceView.base c.args.view.now in
    let view = g.V.InstanceView.tables c.args.view.now in
    subst (λ (b : Bool). IsTrue b)
    (same_run inst view c.requires.shown c.args.i c.args.s c.requires.number c.requires.allowed c.args.t
    ∙ ap (λ (t : Tables). in_run t c.args.i c.args.s c.args.t) (sym c.instance.ensures)) c.requires.running

pub returns : goal.returns
returns g c =
    let inst = g.V.InstanceView.base c.args.view.now in
    let view = g.V.InstanceView.tables c.args.view.now in
    c.risks_on.ensures
    ∙ ap (λ (t : Tables). list_of (scenarios_of t c.args.t) (λ k. risk_of t c.args.i c.args.s c.args.t (k + 1)))
    c.instance.ensures
    ∙ same_risks inst view c.requires.shown c.args.i c.args.s c.requires.number c.requires.allowed c.args.t
    c.requires.running
