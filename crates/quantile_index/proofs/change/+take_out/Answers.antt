use Rattle.std.proofs.Common.{◌≡◌, ◌+◌, ◌∷◌, ◌++◌, ◌<◌, ap, length, rules, arith, length-append}
use Rattle.quantile_index.proofs.OrderLemmas.{ordered_front, ordered_back, is_in_left, is_in_right, ordered_less_left}
use Rattle.quantile_index.proofs.OrderLemmas.{ordered_less_right}
use Rattle.quantile_index.proofs.OrderLemmas.{ordered_less_middle, inserts_right}
use Rattle.quantile_index.proofs.change.+take_out.Goals as goal

pub take_out-node-requires : goal.take_out-node-requires
take_out-node-requires g t c κs within =
    let l = c.into_parts-left.result.0.0 in
    let k = c.into_parts-left.result.1.value.entry in
    let r = c.into_parts-left.result.2.0 in
    let i = rw c.into_parts-left.ensures.entries at c.requires.present in
    let b = rw c.deref.ensures at (c.order.ensures.less c.in-Less.is) in
    let count : length (l ++ k ∷ r) ≡ length l + length r + 1 = omega (arith, length-append l (k ∷ r)) in
    let shorter : length l < length c.args.tree.0 = omega (arith, ap length c.into_parts-left.ensures.entries, count) in
    let ordered = ordered_front l (k ∷ r) c.into_parts-left.ensures.ordered in
    let present = is_in_left _ l k r b c.into_parts-left.ensures.ordered i in
    (search rules, (search rules, (ordered, (present, omega (arith, c.requires.few)))))

pub balanced-requires-clause-ordered : goal.balanced-requires-clause-ordered
balanced-requires-clause-ordered g t c =
    ordered_less_left _ _ _ _ _ c.take_out-node.ensures.removed c.take_out-node.ensures.ordered
    c.into_parts-left.ensures.ordered

pub take_out-node-requires-in-Greater : goal.take_out-node-requires-in-Greater
take_out-node-requires-in-Greater g t c κs within =
    let l = c.into_parts-left.result.0.0 in
    let k = c.into_parts-left.result.1.value.entry in
    let r = c.into_parts-left.result.2.0 in
    let i = rw c.into_parts-left.ensures.entries at c.requires.present in
    let b = rw c.deref.ensures at (c.order.ensures.greater c.in-Greater.is) in
    let count : length (l ++ k ∷ r) ≡ length l + length r + 1 = omega (arith, length-append l (k ∷ r)) in
    let shorter : length r < length c.args.tree.0 = omega (arith, ap length c.into_parts-left.ensures.entries, count) in
    let ordered = (ordered_back l (k ∷ r) c.into_parts-left.ensures.ordered).1 in
    let present = is_in_right _ l k r b c.into_parts-left.ensures.ordered i in
    (search rules, (search rules, (ordered, (present, omega (arith, c.requires.few)))))

pub balanced-requires-in-Greater-clause-ordered : goal.balanced-requires-in-Greater-clause-ordered
balanced-requires-in-Greater-clause-ordered g t c =
    let rest = c.take_out-node-in-Greater.ensures in
    ordered_less_right _ _ _ _ _ rest.removed rest.ordered c.into_parts-left.ensures.ordered

pub joined-requires-clause-ordered : goal.joined-requires-clause-ordered
joined-requires-clause-ordered g t c = ordered_less_middle _ _ _ c.into_parts-left.ensures.ordered

pub returns-in-Greater-clause-removed : goal.returns-in-Greater-clause-removed
returns-in-Greater-clause-removed g t c =
    rw (c.into_parts-left.ensures.entries, c.balanced-in-Greater.ensures.entries)
    (inserts_right _ _ _ _ _ c.take_out-node-in-Greater.ensures.removed)

pub returns-in-Greater-clause-ordered : goal.returns-in-Greater-clause-ordered
returns-in-Greater-clause-ordered g t c =
    let rest = c.take_out-node-in-Greater.ensures in
    rw c.balanced-in-Greater.ensures.entries
    (ordered_less_right _ _ _ _ _ rest.removed rest.ordered c.into_parts-left.ensures.ordered)
