use Rattle.std.proofs.Common.{◌≡◌, ◌≢◌, ℕ, ◌<◌, List, [], ◌∷◌, ◌++◌, Bool, true, false, sym, ◌∙◌, ap, subst}
use Rattle.std.proofs.Common.{AllPairs, arith, if◌then◌else◌, nat_eq, cond}
use Rattle.std.specs.Prelude.{vec_len, vec_capacity}
use Rattle.std.specs.List.{list_any}
use Rattle.std.specs.Ordering.{nat_cmp, is_eq}
use Rattle.ordered_keys.proofs.Apart.{numbers_apart}
use Rattle.ordered_keys.proofs.MoreKeys.{absent, any_more, number_tells}
use Rattle.ordered_keys.proofs.numbers.NumberSet.add.Goals as goal

pub invariant_of-self-2 : goal.invariant_of-self-2
invariant_of-self-2 c =
    let n = c.args.number in let ns = c.args.self.now.numbers.items in
    let room : vec_len c.reserve.new.self < vec_capacity c.reserve.new.self =
    omega (arith, c.in_ok-reserve.ensures.ok) in
    let items : c.push.new.self.items ≡ ns ++ n ∷ [] = c.push.ensures.items
    ∙ ap (λ (b : Bool). if b then c.reserve.new.self.items ++ n ∷ [] else c.reserve.new.self.items)
    (c.push.ensures.succeeds room)
    ∙ ap (λ (xs : List ℕ). xs ++ n ∷ []) c.in_ok-reserve.ensures.items in
    let new : list_any (nat_eq n) ns ≡ false = sym (c.args.self.now.same n)
    ∙ absent _ _ c.in_ok-insert.ensures.added c.if-not-branch.false in
    record {
      once = subst (AllPairs (λ a b. a ≢ b)) (sym items) (numbers_apart ns n new c.args.self.now.once);
      same = λ q. c.in_ok-insert.ensures.updates.0 q
          ∙ ap (cond (is_eq (nat_cmp n q)) true) (c.args.self.now.same q)
          ∙ any_more (nat_eq q) ns n (is_eq (nat_cmp n q)) (number_tells n q) ∙ ap (list_any (nat_eq q)) (sym items);
    }
