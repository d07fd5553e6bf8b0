use Rattle.std.proofs.Common.{◌+◌, ◌-◌, length, drop, sym, ap, subst, ◌∙◌, arith, pos}
use Rattle.std.proofs.lemmas.List.Elements.{All-take, All-drop}
use Rattle.quantile_index.specs.declared.tree.Node.{Node}
use Rattle.quantile_index.specs.SortKeys.{IsKeyIn}
use Rattle.quantile_index.specs.Tree.{IsSound, IsSoundLink}
use Rattle.quantile_index.proofs.TreeLemmas.{IsShare-from, entries_leaf, share_within, share_left, share_right}
use Rattle.quantile_index.proofs.TreeLemmas.{sides_shorter, IsOverwritten-from, ordered_share_left, ordered_share_right}
use Rattle.quantile_index.proofs.TreeLemmas.{entries_overwritten, sound_overwritten}
use Rattle.quantile_index.proofs.tree.Tree.+overwrite.Goals.{in-Leaf, in-Fork}
use Rattle.quantile_index.proofs.tree.Tree.+overwrite.Goals as goal

pub overwrite-requires : goal.overwrite-requires
overwrite-requires t c =
    let n = c.in-Fork.node.value in
    let keys = c.args.keys.now in
    let b = c.size-before.result in
    let share = IsShare-from c.self.inside.root c.in-Fork.node c.args.self.now keys c.deref.result.now b c.self.view_is
    c.in-Fork.is c.requires.each c.deref.ensures c.size-before.ensures in
    let left = ap (λ (m : Node). length m.left.0) c.deref_mut.ensures.value in
    let less = (sides_shorter n keys b share).0 in (
      omega (arith, left, less, c.requires.each),
      (
        share_left n keys b share ∙ sym left,
        (
          All-take (IsKeyIn c.args.from.now) b keys c.requires.read,
          ordered_share_left keys b (pos 0)
              (share_within n keys b share) c.requires.ordered,
        ),
      ),
    )

pub overwrite-requires-in-Fork : goal.overwrite-requires-in-Fork
overwrite-requires-in-Fork t c =
    let n = c.in-Fork.node.value in
    let keys = c.args.keys.now in
    let b = c.size-before.result in
    let share = IsShare-from c.self.inside.root c.in-Fork.node c.args.self.now keys c.deref.result.now b c.self.view_is
    c.in-Fork.is c.requires.each c.deref.ensures c.size-before.ensures in
    let right = ap (λ (m : Node). length m.right.0) c.deref_mut-in-Fork-2.ensures.value
    ∙ ap (λ (m : Node). length m.right.0) c.deref_mut-in-Fork.ensures.value
    ∙ ap (λ (m : Node). length m.right.0) c.deref_mut.ensures.value in
    let less = (sides_shorter n keys b share).1 in (
      omega (arith, right, less, c.requires.each),
      (
        share_right n keys b share ∙ sym right,
        (
          All-take (IsKeyIn c.args.from.now) (length keys - (b + 1)) (drop (b + 1) keys)
              (All-drop (IsKeyIn c.args.from.now) (b + 1) keys c.requires.read),
          ordered_share_right keys b (pos 0) (share_within n keys b share) c.requires.ordered,
        ),
      ),
    )

pub invariant_of-self : goal.invariant_of-self
invariant_of-self t c =
    elim c.match-self.branch [
      | in-Leaf w ↦ rw w.self-inside-is c.self.invariant
      | in-Fork w ↦
          let n = w.in-Fork.node.value in
          let keys = c.args.keys.now in
          let b = w.size-before.result in
          let share = IsShare-from c.self.inside.root w.in-Fork.node c.args.self.now keys w.deref.result.now b
          c.self.view_is w.in-Fork.is c.requires.each w.deref.ensures w.size-before.ensures in
          let over = IsOverwritten-from n w.deref_mut.result.now w.deref_mut-in-Fork.result.now
          w.deref_mut-in-Fork-2.result.now w.overwrite.new.self w.overwrite-in-Fork.new.self w.entry_at.result keys b
          _ share w.deref_mut.ensures.value w.deref_mut-in-Fork.ensures.value w.deref_mut-in-Fork-2.ensures.value
          w.overwrite.ensures.entries w.overwrite.ensures.height w.entry_at.ensures
          w.overwrite-in-Fork.ensures.entries w.overwrite-in-Fork.ensures.height in
          let sound : IsSound n = subst IsSoundLink w.in-Fork.is c.self.invariant in
          rw w.self-inside-is (sound_overwritten n _ keys b sound c.requires.ordered over)
    ]

pub returns-clause-entries : goal.returns-clause-entries
returns-clause-entries t c =
    elim c.match-self.branch [
      | in-Leaf w ↦ rw w.self-inside-is (entries_leaf c.self.inside.root c.args.self.now c.args.keys.now c.self.view_is
          w.in-Leaf.is c.requires.each)
      | in-Fork w ↦
          let n = w.in-Fork.node.value in
          let keys = c.args.keys.now in
          let b = w.size-before.result in
          let share = IsShare-from c.self.inside.root w.in-Fork.node c.args.self.now keys w.deref.result.now b
          c.self.view_is w.in-Fork.is c.requires.each w.deref.ensures w.size-before.ensures in
          let over = IsOverwritten-from n w.deref_mut.result.now w.deref_mut-in-Fork.result.now
          w.deref_mut-in-Fork-2.result.now w.overwrite.new.self w.overwrite-in-Fork.new.self w.entry_at.result keys b
          _ share w.deref_mut.ensures.value w.deref_mut-in-Fork.ensures.value w.deref_mut-in-Fork-2.ensures.value
          w.overwrite.ensures.entries w.overwrite.ensures.height w.entry_at.ensures
          w.overwrite-in-Fork.ensures.entries w.overwrite-in-Fork.ensures.height in
          rw w.self-inside-is (entries_overwritten n _ keys b over)
    ]
