use Rattle.std.proofs.Common.{◌≡◌, ◌≢◌, true, false, cond, [], ◌∷◌, ◌++◌, sym, ◌∙◌, ap, subst, arith, AllPairs}
use Rattle.std.proofs.Common.{bytes_eq, string_bytes}
use Rattle.std.specs.BTreeSet.{contains_text}
use Rattle.std.specs.List.{list_any}
use Rattle.std.proofs.lemmas.Grind.{common_steps}
use Rattle.std.proofs.lemmas.Map.Text.{btree_set_updates_text}
use Rattle.ordered_keys.proofs.Apart.{keys_apart, turned}
use Rattle.ordered_keys.proofs.MoreKeys.{absent, any_more, shorter_kept}
use Rattle.ordered_keys.proofs.keys.KeySet.add_long.Goals as goal

pub invariant_of-self-2 : goal.invariant_of-self-2
invariant_of-self-2 c =
    let ks = c.args.self.now.added.keys in let k = c.args.key.now in let copy = c.in_ok-copy.copy in
    let is : string_bytes copy ≡ k = grind (arith, common_steps) in
    let keys : c.and-self.result.keys ≡ ks ++ k ∷ [] = c.and-self.ensures in
    let new : list_any (bytes_eq k) ks ≡ false = sym (c.args.self.now.as_texts k c.requires)
    ∙ ap (contains_text c.args.self.now.long) (sym is)
    ∙ absent _ _ c.in_ok-insert.ensures.added c.if-not-branch.false in
    record {
      once = subst (AllPairs (λ a b. a ≢ b)) (sym keys) (keys_apart ks k new c.args.self.now.once);
      each = grind (arith, common_steps);
      as_numbers = λ q h. c.args.self.now.as_numbers q h ∙ shorter_kept ks k q c.requires h
          ∙ ap (list_any (bytes_eq q)) (sym keys);
      as_texts = λ q l.
          btree_set_updates_text (string_bytes copy) c.args.self.now.long c.insert.new.self true
          c.in_ok-insert.ensures.updates q
          ∙ ap (cond (bytes_eq (string_bytes copy) q) true) (c.args.self.now.as_texts q l)
          ∙ any_more (bytes_eq q) ks k (bytes_eq (string_bytes copy) q) (ap (λ bs. bytes_eq bs q) is ∙ turned k q)
          ∙ ap (list_any (bytes_eq q)) (sym keys);
    }
