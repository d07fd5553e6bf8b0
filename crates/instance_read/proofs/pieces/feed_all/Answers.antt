use Rattle.std.proofs.Common.{◌≡◌, ◌+◌, ◌-◌, ℕ, List, ◌++◌, take, drop, rules, arith, subst, sym, ◌∙◌, ap}
use Rattle.plan_desk.proofs.Unread.{take-plus}
use Rattle.instance_read.specs.Fed.{HasRead}
use Rattle.instance_read.proofs.pieces.feed_all.Goals as goal

pub pieces-preserved : goal.pieces-preserved
pieces-preserved c =
    let bytes = c.args.bytes.now in
    let fed = c.pieces.fed in
    let m = c.min.result in
    let same : (fed + m) - fed ≡ m = omega arith in
    let joined : take fed bytes ++ take ((fed + m) - fed) (drop fed bytes) ≡ take (fed + m) bytes =
    ap (λ n. take fed bytes ++ take n (drop fed bytes)) same ∙ sym (take-plus fed m bytes) in
    record {
      within = search rules;
      unfinished = c.feed.ensures.unfinished;
      read = λ limits h. subst (λ (z : List ℕ). HasRead limits c.feed.new.self z) joined
          (c.in_ok-feed.ensures.read limits (take fed bytes) (c.pieces.invariant.read limits h));
    }
