use Rattle.std.proofs.Common.{◌≡◌, ◌≤◌, ◌++◌, ◌∷◌, [], sym, ◌∙◌, ap, subst, length, arith, List, false, true}
use Rattle.std.proofs.Common.{length-append}
use Rattle.instance_model.specs.RiskLists.{lists_of, AreStored, last_first, last_soft, add_to_last}
use Rattle.instance_model.specs.declared.risk_lists.RiskHead.{RiskHead}
use Rattle.instance_model.proofs.RiskListLemmas.{lists_longer, lists_soft}
use Rattle.instance_model.proofs.RiskStorageLemmas.{last_first_within, stored_more, stored_soft}
use Rattle.instance_model.proofs.risk_lists.RiskLists.add.Goals as goal

pub add_number-requires : goal.add_number-requires
add_number-requires c = λ none.
    let hs = c.self.inside.heads.items in
    let xs = c.self.inside.narrow.items in let ys = c.self.inside.wide.items in
    let first : c.first_of_last-first.result ≡ last_first hs c.len.result =
    c.first_of_last-first.ensures ∙ ap (λ gs. last_first gs c.len.result) c.deref.ensures.value in
    let within : last_first hs c.len.result ≤ length xs =
    last_first_within hs (length (xs ++ ys)) c.len.result (length xs) c.self.invariant.ascend
    (omega (arith, none, length-append xs ys)) (omega (arith, c.len.ensures)) in
    omega (arith, first, within)

pub invariant_of-self-then-rounded : goal.invariant_of-self-then-rounded
invariant_of-self-then-rounded c =
    let hs = c.self.inside.heads.items in
    let xs = c.self.inside.narrow.items in let ys = c.self.inside.wide.items in
    let vs = c.add_number.new.narrow.items in let ws = c.add_number.new.wide.items in
    let first : c.first_of_last-first.result ≡ last_first hs c.len.result =
    c.first_of_last-first.ensures ∙ ap (λ gs. last_first gs c.len.result) c.deref.ensures.value in
    let stored : AreStored hs vs ws =
    stored_more hs xs ys vs ws (c.args.number ∷ []) c.first_of_last-first.result c.len.result first
    c.in_ok-add_number.ensures.ok c.in_ok-add_number.ensures.seam c.self.invariant in
    subst (λ (gs : List RiskHead). AreStored gs vs ws) (sym c.mark_last.ensures) (stored_soft hs vs ws stored)

pub invariant_of-self-else-rounded : goal.invariant_of-self-else-rounded
invariant_of-self-else-rounded c =
    let hs = c.self.inside.heads.items in
    let xs = c.self.inside.narrow.items in let ys = c.self.inside.wide.items in
    let vs = c.add_number.new.narrow.items in let ws = c.add_number.new.wide.items in
    let first : c.first_of_last-first.result ≡ last_first hs c.len.result =
    c.first_of_last-first.ensures ∙ ap (λ gs. last_first gs c.len.result) c.deref.ensures.value in
    stored_more hs xs ys vs ws (c.args.number ∷ []) c.first_of_last-first.result c.len.result first
    c.in_ok-add_number.ensures.ok c.in_ok-add_number.ensures.seam c.self.invariant

pub returns-then-rounded-clause-ok : goal.returns-then-rounded-clause-ok
returns-then-rounded-clause-ok c =
    let hs = c.self.inside.heads.items in
    let xs = c.self.inside.narrow.items in let ys = c.self.inside.wide.items in
    ap (λ gs. lists_of gs (c.add_number.new.narrow.items ++ c.add_number.new.wide.items)) c.mark_last.ensures
    ∙ ap (lists_of (last_soft hs)) c.in_ok-add_number.ensures.ok
    ∙ lists_soft hs (xs ++ ys) c.args.number c.self.invariant.ascend
    ∙ ap (add_to_last c.args.number true) c.self.view_is
    ∙ ap (λ b. add_to_last c.args.number b c.args.self.now) (sym c.if-rounded.true)

pub returns-else-rounded-clause-ok : goal.returns-else-rounded-clause-ok
returns-else-rounded-clause-ok c =
    let hs = c.self.inside.heads.items in
    let xs = c.self.inside.narrow.items in let ys = c.self.inside.wide.items in
    ap (lists_of hs) c.in_ok-add_number.ensures.ok
    ∙ lists_longer hs (xs ++ ys) c.args.number c.self.invariant.ascend
    ∙ ap (add_to_last c.args.number false) c.self.view_is
    ∙ ap (λ b. add_to_last c.args.number b c.args.self.now) (sym c.if-rounded.false)
