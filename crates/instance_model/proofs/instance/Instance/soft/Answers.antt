use Rattle.std.proofs.Common.{◌∙◌, ap, arith, get_or, ℕ}
use Rattle.instance_model.specs.RunRisks.{no_list, runs_of}
use Rattle.instance_model.proofs.IndexLemmas.{in_order, read_facts, flag_read}
use Rattle.instance_model.proofs.instance.Instance.soft.Goals as goal

pub soft-requires : goal.soft-requires
soft-requires c =
    let f = read_facts c.self.inside c.args.self.now c.args.i c.args.s c.args.t c.in-AsRead.works
    c.index-in-AsRead.result.now c.self.view_is c.self.invariant c.in-AsRead.is c.index-in-AsRead.ensures
    c.requires.number c.requires.allowed c.requires.running in
    omega (arith, f.within, c.list_place.ensures)

pub returns-in-InOrder : goal.returns-in-InOrder
returns-in-InOrder c =
    let n = in_order c.self.inside c.args.self.now c.in-InOrder.numbers c.in-InOrder.soft c.self.view_is
    c.in-InOrder.is in
    flag_read c.args.self.now c.args.i c.args.s c.args.t c.flag_place.result c.in-InOrder.soft.items
    c.index.result.now n.1 c.flag_place.ensures.place c.flag_place.ensures.within c.index.ensures

pub returns-in-AsRead : goal.returns-in-AsRead
returns-in-AsRead c =
    let f = read_facts c.self.inside c.args.self.now c.args.i c.args.s c.args.t c.in-AsRead.works
    c.index-in-AsRead.result.now c.self.view_is c.self.invariant c.in-AsRead.is c.index-in-AsRead.ensures
    c.requires.number c.requires.allowed c.requires.running in
    c.soft.ensures
    ∙ ap (λ (n : ℕ). (get_or (runs_of c.index-in-AsRead.result.now) n no_list).soft) c.list_place.ensures ∙ f.soft
