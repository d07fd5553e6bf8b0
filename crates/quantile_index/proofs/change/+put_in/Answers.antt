use Rattle.std.proofs.Common.{◌≡◌, ◌≢◌, ◌+◌, ◌∷◌, ◌++◌, ◌<◌, ap, length, rules, arith, sym, length-append}
use Rattle.quantile_index.proofs.OrderLemmas.{AllEntries-back, ordered_left, ordered_right, ordered_back, inserts_right}
use Rattle.quantile_index.proofs.change.+put_in.Goals as goal

pub balanced-requires-clause-ordered : goal.balanced-requires-clause-ordered
balanced-requires-clause-ordered g t c =
    let b = rw (c.deref.ensures, c.deref-2.ensures) at (c.is_before.ensures.before c.if-is_before.true) in
    ordered_left _ _ _ _ _ c.put_in-left.ensures.inserted b c.put_in-left.ensures.ordered
    c.into_parts-left.ensures.ordered

pub put_in-right-requires : goal.put_in-right-requires
put_in-right-requires g t c κs within =
    let l = c.into_parts-left.result.0.0 in
    let k = c.into_parts-left.result.1.value.entry in
    let r = c.into_parts-left.result.2.0 in
    let a = rw c.into_parts-left.ensures.entries at c.requires.new in
    let count : length (l ++ k ∷ r) ≡ length l + length r + 1 = omega (arith, length-append l (k ∷ r)) in
    let few = rw (c.into_parts-left.ensures.entries, count) at c.requires.few in
    let shorter : length r < length c.args.tree.0 = omega (arith, ap length c.into_parts-left.ensures.entries, count) in
    let ordered = (ordered_back l (k ∷ r) c.into_parts-left.ensures.ordered).1 in
    let new = (AllEntries-back (λ e. e ≢ c.args.node.value.entry) l (k ∷ r) a).1 in
    (search rules, (search rules, (ordered, (new, omega arith))))

pub balanced-requires-else-is_before-clause-ordered :
    goal.balanced-requires-else-is_before-clause-ordered
balanced-requires-else-is_before-clause-ordered g t c =
    let l = c.into_parts-left.result.0.0 in
    let k = c.into_parts-left.result.1.value.entry in
    let r = c.into_parts-left.result.2.0 in
    let a = rw c.into_parts-left.ensures.entries at c.requires.new in
    let other = (AllEntries-back (λ e. e ≢ c.args.node.value.entry) l (k ∷ r) a).0 in
    let b = rw (c.deref.ensures, c.deref-2.ensures) at (c.is_before.ensures.after c.if-is_before.false) in
    ordered_right _ _ _ _ _ c.put_in-right.ensures.inserted (b (λ e. other (sym e))) c.put_in-right.ensures.ordered
    c.into_parts-left.ensures.ordered

pub returns-else-is_before-clause-inserted : goal.returns-else-is_before-clause-inserted
returns-else-is_before-clause-inserted g t c =
    rw (c.into_parts-left.ensures.entries, c.balanced-else-is_before.ensures.entries)
    (inserts_right _ _ _ _ _ c.put_in-right.ensures.inserted)
