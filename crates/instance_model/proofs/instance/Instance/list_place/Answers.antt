use Rattle.std.proofs.Common.{◌∙◌, arith}
use Rattle.instance_model.proofs.IndexLemmas.{soft_facts, soft_room, list_facts}
use Rattle.instance_model.proofs.instance.Instance.list_place.Goals as goal

pub place_within-requires-clause-number : goal.place_within-requires-clause-number
place_within-requires-clause-number c = (soft_facts c.self.inside c.args.self.now c.args.i c.args.s c.args.t
    c.self.view_is
    c.self.invariant c.requires.number c.requires.allowed c.requires.running).number

pub place_within-requires-clause-from : goal.place_within-requires-clause-from
place_within-requires-clause-from c = (soft_facts c.self.inside c.args.self.now c.args.i c.args.s c.args.t
    c.self.view_is
    c.self.invariant c.requires.number c.requires.allowed c.requires.running).start

pub place_within-requires-clause-among : goal.place_within-requires-clause-among
place_within-requires-clause-among c = (soft_facts c.self.inside c.args.self.now c.args.i c.args.s c.args.t
    c.self.view_is
    c.self.invariant c.requires.number c.requires.allowed c.requires.running).among

pub place_within-requires-clause-order : goal.place_within-requires-clause-order
place_within-requires-clause-order c = (soft_facts c.self.inside c.args.self.now c.args.i c.args.s c.args.t
    c.self.view_is
    c.self.invariant c.requires.number c.requires.allowed c.requires.running).order

pub place_within-requires-clause-ends : goal.place_within-requires-clause-ends
place_within-requires-clause-ends c = (soft_facts c.self.inside c.args.self.now c.args.i c.args.s c.args.t
    c.self.view_is
    c.self.invariant c.requires.number c.requires.allowed c.requires.running).ends

pub place_within-requires-clause-rises : goal.place_within-requires-clause-rises
place_within-requires-clause-rises c = (soft_facts c.self.inside c.args.self.now c.args.i c.args.s c.args.t
    c.self.view_is
    c.self.invariant c.requires.number c.requires.allowed c.requires.running).rises

pub place_within-requires-clause-small : goal.place_within-requires-clause-small
place_within-requires-clause-small c =
    let f = soft_facts c.self.inside c.args.self.now c.args.i c.args.s c.args.t c.self.view_is
    c.self.invariant c.requires.number c.requires.allowed c.requires.running in
    let r = soft_room c.self.inside c.args.self.now c.args.i c.args.s c.args.t c.self.view_is
    c.self.invariant c.requires.number c.requires.allowed c.requires.running in
    omega (arith, f.place, r.0, r.1)

pub place_within-requires-clause-first : goal.place_within-requires-clause-first
place_within-requires-clause-first c = (list_facts c.self.inside c.args.self.now c.args.i c.args.s c.args.t
    c.self.view_is
    c.self.invariant c.requires.number c.requires.allowed c.requires.running).0

pub returns : goal.returns
returns c =
    c.place_within.ensures ∙ (list_facts c.self.inside c.args.self.now c.args.i c.args.s c.args.t c.self.view_is
    c.self.invariant c.requires.number c.requires.allowed c.requires.running).1
