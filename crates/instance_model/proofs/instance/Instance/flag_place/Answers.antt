use Rattle.std.proofs.Common.{◌∙◌, arith}
use Rattle.instance_model.proofs.IndexLemmas.{soft_facts, soft_room}
use Rattle.instance_model.proofs.instance.Instance.flag_place.Goals as goal

pub place-requires-clause-number : goal.place-requires-clause-number
place-requires-clause-number c = (soft_facts c.self.inside c.args.self.now c.args.i c.args.s c.args.t c.self.view_is
    c.self.invariant c.requires.number c.requires.allowed c.requires.running).number

pub place-requires-clause-from : goal.place-requires-clause-from
place-requires-clause-from c = (soft_facts c.self.inside c.args.self.now c.args.i c.args.s c.args.t c.self.view_is
    c.self.invariant c.requires.number c.requires.allowed c.requires.running).start

pub place-requires-clause-among : goal.place-requires-clause-among
place-requires-clause-among c = (soft_facts c.self.inside c.args.self.now c.args.i c.args.s c.args.t c.self.view_is
    c.self.invariant c.requires.number c.requires.allowed c.requires.running).among

pub place-requires-clause-order : goal.place-requires-clause-order
place-requires-clause-order c = (soft_facts c.self.inside c.args.self.now c.args.i c.args.s c.args.t c.self.view_is
    c.self.invariant c.requires.number c.requires.allowed c.requires.running).order

pub place-requires-clause-ends : goal.place-requires-clause-ends
place-requires-clause-ends c = (soft_facts c.self.inside c.args.self.now c.args.i c.args.s c.args.t c.self.view_is
    c.self.invariant c.requires.number c.requires.allowed c.requires.running).ends

pub place-requires-clause-rises : goal.place-requires-clause-rises
place-requires-clause-rises c = (soft_facts c.self.inside c.args.self.now c.args.i c.args.s c.args.t c.self.view_is
    c.self.invariant c.requires.number c.requires.allowed c.requires.running).rises

pub place-requires-clause-small : goal.place-requires-clause-small
place-requires-clause-small c =
    let f = soft_facts c.self.inside c.args.self.now c.args.i c.args.s c.args.t c.self.view_is
    c.self.invariant c.requires.number c.requires.allowed c.requires.running in
    let r = soft_room c.self.inside c.args.self.now c.args.i c.args.s c.args.t c.self.view_is
    c.self.invariant c.requires.number c.requires.allowed c.requires.running in
    omega (arith, f.place, r.0, r.1)

pub returns-clause-place : goal.returns-clause-place
returns-clause-place c =
    c.place.ensures ∙ (soft_facts c.self.inside c.args.self.now c.args.i c.args.s c.args.t c.self.view_is
    c.self.invariant c.requires.number c.requires.allowed c.requires.running).place

pub returns-clause-within : goal.returns-clause-within
returns-clause-within c =
    let f = soft_facts c.self.inside c.args.self.now c.args.i c.args.s c.args.t c.self.view_is
    c.self.invariant c.requires.number c.requires.allowed c.requires.running in
    omega (
      arith,
      c.place.ensures,
      f.place,
      (soft_room c.self.inside c.args.self.now c.args.i c.args.s c.args.t c.self.view_is
          c.self.invariant c.requires.number c.requires.allowed c.requires.running).0,
    )
