use Rattle.std.proofs.Common.{◌≡◌, ◌==◌, ℕ, ◌-◌, Bool, true, false, List, length, get_or, find, Some, sym, ◌∙◌, ap}
use Rattle.std.proofs.Common.{arith}
use Rattle.std.specs.Prelude.{slice_index}
use Rattle.std.proofs.lemmas.Bool.Decides.{nat_tests}
use Rattle.instance_shape.specs.CrossFaults.{no_risk, scenario_count, unless}
use Rattle.instance_model.specs.RiskLists.{RiskRow}
use Rattle.instance_model.specs.RiskLists.{list_view}
use Rattle.instance_rows.specs.RowFaults.{is_list_at, list_fault}
use Rattle.instance_rows.proofs.Places.{place_none, place_some, StandsAt}
use Rattle.instance_rows.proofs.order.ask.Goals as goal

pub returns-in_default-clause-told : goal.returns-in_default-clause-told
returns-in_default-clause-told c =
    let rs = c.args.asked.now.lists.now in
    ap (list_fault c.args.asked.now.counts.now c.args.asked.now.name.now c.args.period c.args.start)
    (place_none (is_list_at c.args.period c.args.start) 0 rs
    (sym (sym c.in_default.is ∙ c.find.ensures rs c.requires.known)))
    ∙ ap (λ (n : List ℕ). Some (no_risk n c.args.period c.args.start)) (sym c.in_ok-to_string.ensures.ok)

pub list-requires : goal.list-requires
list-requires c =
    let rs = c.args.asked.now.lists.now in
    let at : StandsAt (is_list_at c.args.period c.args.start) rs c.in-Some.k = place_some
    (is_list_at c.args.period c.args.start) rs c.in-Some.k
    (sym (c.find.ensures rs c.requires.known) ∙ c.in-Some.is) in
    at.below

-- the fault of the list at a place, by whether it has the right number of numbers
at_place : (counts name : List ℕ) (t s k : ℕ) (rs : List RiskRow) (r : RiskRow) (b : Bool)
    → StandsAt (is_list_at t s) rs k → r ≡ get_or rs k r → (length r.values == slice_index counts (t - 1)) ≡ b
    → list_fault counts name t s (find (is_list_at t s) rs) ≡ unless b (scenario_count name t s)
at_place counts name t s k rs r b at is e =
    ap (list_fault counts name t s) (at.first r ∙ ap Some (sym is)) ∙ ap (λ q. unless q (scenario_count name t s)) e

equal : (a b : ℕ) → a ≡ b → (a == b) ≡ true
equal a b h = grind (arith, nat_tests)

unequal : (a b : ℕ) → (a ≡ b → ⊥) → (a == b) ≡ false
unequal a b h = grind (arith, nat_tests)

pub returns-then-len-asked-clause-told : goal.returns-then-len-asked-clause-told
returns-then-len-asked-clause-told c =
    let rs = c.args.asked.now.lists.now in let r = list_view c.list.result in
    let at = place_some (is_list_at c.args.period c.args.start) rs c.in-Some.k
    (sym (c.find.ensures rs c.requires.known) ∙ c.in-Some.is) in
    at_place c.args.asked.now.counts.now c.args.asked.now.name.now c.args.period c.args.start c.in-Some.k rs r false at
    (c.list.ensures r) (unequal _ _ (λ e. c.if-len-asked.true (c.len.ensures ∙ e)))
    ∙ ap (λ (n : List ℕ). Some (scenario_count n c.args.period c.args.start)) (sym c.in_ok-to_string-2.ensures.ok)

pub returns-clause-told : goal.returns-clause-told
returns-clause-told c =
    let rs = c.args.asked.now.lists.now in let r = list_view c.list.result in
    let at = place_some (is_list_at c.args.period c.args.start) rs c.in-Some.k
    (sym (c.find.ensures rs c.requires.known) ∙ c.in-Some.is) in
    at_place c.args.asked.now.counts.now c.args.asked.now.name.now c.args.period c.args.start c.in-Some.k rs r true at
    (c.list.ensures r) (equal _ _ (sym c.len.ensures ∙ c.if-len-asked.false))
