use Rattle.std.proofs.Common.{◌++◌, ◌∷◌, [], sym, ◌∙◌, ap, subst, arith, List, false, length-append}
use Rattle.instance_model.specs.RiskLists.{RiskRow}
use Rattle.instance_model.specs.RiskLists.{lists_of, AreStored}
use Rattle.instance_model.specs.declared.risk_lists.RiskHead.{RiskHead}
use Rattle.instance_model.proofs.RiskListLemmas.{lists_open}
use Rattle.instance_model.proofs.RiskStorageLemmas.{stored_open}
use Rattle.instance_model.proofs.risk_lists.RiskLists.open.Goals as goal

pub invariant_of-self-2 : goal.invariant_of-self-2
invariant_of-self-2 c =
    let xs = c.self.inside.narrow.items in let ys = c.self.inside.wide.items in
    subst (λ (hs : List RiskHead). AreStored hs xs ys) (sym c.in_ok-push.ensures.items)
    (stored_open c.self.inside.heads.items _ xs ys
    (omega (arith, c.len.ensures, c.len-2.ensures, length-append xs ys)) c.self.invariant)

pub returns-clause-ok : goal.returns-clause-ok
returns-clause-ok c =
    let xs = c.self.inside.narrow.items in let ys = c.self.inside.wide.items in
    ap (λ hs. lists_of hs (xs ++ ys)) c.in_ok-push.ensures.items
    ∙ lists_open c.self.inside.heads.items _ (xs ++ ys) (omega (
      arith,
      c.len.ensures,
      c.len-2.ensures,
      length-append xs ys,
    ))
    ∙ ap (λ (rs : List RiskRow). rs ++ record {
      period = c.args.period;
      start = c.args.start;
      values = [];
      soft = false;
    } ∷ []) c.self.view_is
