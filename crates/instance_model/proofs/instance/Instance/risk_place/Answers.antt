use Rattle.std.proofs.Common.{◌∙◌, arith}
use Rattle.instance_model.proofs.IndexLemmas.{risk_facts, risk_room}
use Rattle.instance_model.proofs.instance.Instance.risk_place.Goals as goal

pub place-requires-clause-number : goal.place-requires-clause-number
place-requires-clause-number c = (risk_facts c.self.inside c.args.self.now c.args.i c.args.s c.args.t c.self.view_is
    c.self.invariant c.requires.number c.requires.allowed c.requires.running).number

pub place-requires-clause-from : goal.place-requires-clause-from
place-requires-clause-from c = (risk_facts c.self.inside c.args.self.now c.args.i c.args.s c.args.t c.self.view_is
    c.self.invariant c.requires.number c.requires.allowed c.requires.running).start

pub place-requires-clause-among : goal.place-requires-clause-among
place-requires-clause-among c = (risk_facts c.self.inside c.args.self.now c.args.i c.args.s c.args.t c.self.view_is
    c.self.invariant c.requires.number c.requires.allowed c.requires.running).among

pub place-requires-clause-order : goal.place-requires-clause-order
place-requires-clause-order c = (risk_facts c.self.inside c.args.self.now c.args.i c.args.s c.args.t c.self.view_is
    c.self.invariant c.requires.number c.requires.allowed c.requires.running).order

pub place-requires-clause-ends : goal.place-requires-clause-ends
place-requires-clause-ends c = (risk_facts c.self.inside c.args.self.now c.args.i c.args.s c.args.t c.self.view_is
    c.self.invariant c.requires.number c.requires.allowed c.requires.running).ends

pub place-requires-clause-rises : goal.place-requires-clause-rises
place-requires-clause-rises c = (risk_facts c.self.inside c.args.self.now c.args.i c.args.s c.args.t c.self.view_is
    c.self.invariant c.requires.number c.requires.allowed c.requires.running).rises

pub place-requires-clause-small : goal.place-requires-clause-small
place-requires-clause-small c =
    let f = risk_facts c.self.inside c.args.self.now c.args.i c.args.s c.args.t c.self.view_is
    c.self.invariant c.requires.number c.requires.allowed c.requires.running in
    let r = risk_room c.self.inside c.args.self.now c.args.i c.args.s c.args.t c.self.view_is
    c.self.invariant c.requires.number c.requires.allowed c.requires.running in
    omega (arith, f.place, r.0, r.1)

pub returns-clause-place : goal.returns-clause-place
returns-clause-place c =
    c.place.ensures ∙ (risk_facts c.self.inside c.args.self.now c.args.i c.args.s c.args.t c.self.view_is
    c.self.invariant c.requires.number c.requires.allowed c.requires.running).place

pub returns-clause-within : goal.returns-clause-within
returns-clause-within c =
    let f = risk_facts c.self.inside c.args.self.now c.args.i c.args.s c.args.t c.self.view_is
    c.self.invariant c.requires.number c.requires.allowed c.requires.running in
    omega (
      arith,
      c.place.ensures,
      f.place,
      (risk_room c.self.inside c.args.self.now c.args.i c.args.s c.args.t c.self.view_is
          c.self.invariant c.requires.number c.requires.allowed c.requires.running).0,
    )

pub returns-clause-small : goal.returns-clause-small
returns-clause-small c =
    let f = risk_facts c.self.inside c.args.self.now c.args.i c.args.s c.args.t c.self.view_is
    c.self.invariant c.requires.number c.requires.allowed c.requires.running in
    let r = risk_room c.self.inside c.args.self.now c.args.i c.args.s c.args.t c.self.view_is
    c.self.invariant c.requires.number c.requires.allowed c.requires.running in
    omega (arith, c.place.ensures, f.place, r.0, r.1)
