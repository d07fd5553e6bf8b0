use Rattle.std.proofs.Common.{◌≡◌, ◌≢◌, true, false, cond, [], ◌∷◌, ◌++◌, sym, ◌∙◌, ap, subst, arith, AllPairs}
use Rattle.std.proofs.Common.{bytes_eq}
use Rattle.std.specs.BTreeSet.{contains}
use Rattle.std.specs.List.{list_any}
use Rattle.std.specs.Ordering.{nat_cmp, is_eq}
use Rattle.std.proofs.lemmas.Grind.{common_steps}
use Rattle.ordered_keys.specs.Marks.{mark}
use Rattle.ordered_keys.proofs.Apart.{keys_apart}
use Rattle.ordered_keys.proofs.MoreKeys.{absent, any_more, longer_kept, mark_tells}
use Rattle.ordered_keys.proofs.keys.KeySet.add_short.Goals as goal

pub invariant_of-self-2 : goal.invariant_of-self-2
invariant_of-self-2 c =
    let ks = c.args.self.now.added.keys in let k = c.args.key.now in let n = c.args.number in
    let is : n ≡ mark k = c.requires.number in
    let keys : c.and-self.result.keys ≡ ks ++ k ∷ [] = c.and-self.ensures in
    let new : list_any (bytes_eq k) ks ≡ false = sym (c.args.self.now.as_numbers k c.requires.short)
    ∙ ap (contains nat_cmp c.args.self.now.short) (sym is)
    ∙ absent _ _ c.in_ok-insert.ensures.added c.if-not-branch.false in
    record {
      once = subst (AllPairs (λ a b. a ≢ b)) (sym keys) (keys_apart ks k new c.args.self.now.once);
      each = grind (arith, common_steps);
      as_numbers = λ q h. c.in_ok-insert.ensures.updates.0 (mark q)
          ∙ ap (cond (is_eq (nat_cmp n (mark q))) true) (c.args.self.now.as_numbers q h)
          ∙ any_more (bytes_eq q) ks k (is_eq (nat_cmp n (mark q)))
          (ap (λ m. is_eq (nat_cmp m (mark q))) is ∙ mark_tells k q c.requires.short h)
          ∙ ap (list_any (bytes_eq q)) (sym keys);
      as_texts = λ q l. c.args.self.now.as_texts q l ∙ longer_kept ks k q c.requires.short l
          ∙ ap (list_any (bytes_eq q)) (sym keys);
    }
