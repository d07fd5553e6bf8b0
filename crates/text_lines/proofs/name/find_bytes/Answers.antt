use Rattle.std.proofs.Common.{arith, ◌∙◌, sym}
use Rattle.std.proofs.lemmas.Bool.{false≢true}
use Rattle.std.proofs.lemmas.Slice.Eq.{bytes_eq-Decides}
use Rattle.text_lines.proofs.NameLemmas.{same_name, none_below, none_more}
use Rattle.text_lines.proofs.name.find_bytes.Goals as goal

pub returns-then-eq-clause-name : goal.returns-then-eq-clause-name
returns-then-eq-clause-name c =
    same_name c.args.inst.now.names c.loop-i.i _ _ c.name.ensures.value
    (sym c.as_bytes.ensures.value
    ∙ (bytes_eq-Decides c.as_bytes.result.now c.args.name.now).0 (sym c.eq.ensures ∙ c.if-eq.true))

pub loop-i-preserved : goal.loop-i-preserved
loop-i-preserved c =
    none_more c.args.inst.now.names c.args.name.now _ c.loop-i.i c.loop-i.invariant c.name.ensures.value
    (λ e. false≢true
    (sym c.if-eq.false ∙ c.eq.ensures
    ∙ (bytes_eq-Decides c.as_bytes.result.now c.args.name.now).1 (c.as_bytes.ensures.value ∙ e)))

pub returns-clause-none : goal.returns-clause-none
returns-clause-none c = none_below c.args.inst.now.names c.args.name.now c.loop-i.i (omega arith) c.loop-i.invariant
