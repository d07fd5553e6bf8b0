use Rattle.std.proofs.Common.{◌∙◌, ◌+◌, ◌-◌, ap, arith, length, sym, get_or, take, drop, ℕ}
use Rattle.instance_model.specs.RunRisks.{no_list, runs_of}
use Rattle.instance_model.proofs.ColumnLemmas.{risks_read}
use Rattle.instance_model.proofs.IndexLemmas.{period_from, in_order, read_facts}
use Rattle.instance_model.proofs.instance.Instance.risks_in.Goals as goal

pub scenarios-requires-clause-from : goal.scenarios-requires-clause-from
scenarios-requires-clause-from c =
    (period_from c.args.self.now c.args.i c.args.s c.args.t c.requires.allowed c.requires.running).0

pub scenarios-requires-clause-to : goal.scenarios-requires-clause-to
scenarios-requires-clause-to c =
    (period_from c.args.self.now c.args.i c.args.s c.args.t c.requires.allowed c.requires.running).1

pub part-requires-clause-end : goal.part-requires-clause-end
part-requires-clause-end c =
    let n = in_order c.self.inside c.args.self.now c.in-InOrder.numbers c.in-InOrder.soft c.self.view_is
    c.in-InOrder.is in
    omega (
      arith,
      ap length (c.as_slice.ensures.value ∙ sym n.0),
      c.risk_place-from.ensures.within,
      c.scenarios.ensures.value,
    )

pub numbers-requires : goal.numbers-requires
numbers-requires c =
    let f = read_facts c.self.inside c.args.self.now c.args.i c.args.s c.args.t c.in-AsRead.works c.index.result.now
    c.self.view_is c.self.invariant c.in-AsRead.is c.index.ensures c.requires.number c.requires.allowed
    c.requires.running in
    omega (arith, f.within, c.list_place.ensures)

pub returns-in-InOrder-clause-value : goal.returns-in-InOrder-clause-value
returns-in-InOrder-clause-value c =
    let n = in_order c.self.inside c.args.self.now c.in-InOrder.numbers c.in-InOrder.soft c.self.view_is
    c.in-InOrder.is in
    let from = c.risk_place-from.result in
    c.part.ensures
    ∙ ap (λ (k : ℕ). take (from + k - from) (drop from c.as_slice.result.now)) c.scenarios.ensures.value
    ∙ risks_read c.args.self.now c.args.i c.args.s c.args.t from c.as_slice.result.now c.risk_place-from.ensures.place
    c.risk_place-from.ensures.within (c.as_slice.ensures.value ∙ sym n.0)

pub returns-in-AsRead-clause-each : goal.returns-in-AsRead-clause-each
returns-in-AsRead-clause-each c =
    let f = read_facts c.self.inside c.args.self.now c.args.i c.args.s c.args.t c.in-AsRead.works c.index.result.now
    c.self.view_is c.self.invariant c.in-AsRead.is c.index.ensures c.requires.number c.requires.allowed
    c.requires.running in
    ap length (c.numbers.ensures
    ∙ ap (λ (n : ℕ). (get_or (runs_of c.index.result.now) n no_list).values) c.list_place.ensures) ∙ f.count

pub returns-in-AsRead-clause-value : goal.returns-in-AsRead-clause-value
returns-in-AsRead-clause-value c =
    let f = read_facts c.self.inside c.args.self.now c.args.i c.args.s c.args.t c.in-AsRead.works c.index.result.now
    c.self.view_is c.self.invariant c.in-AsRead.is c.index.ensures c.requires.number c.requires.allowed
    c.requires.running in
    c.numbers.ensures
    ∙ ap (λ (n : ℕ). (get_or (runs_of c.index.result.now) n no_list).values) c.list_place.ensures ∙ f.values
