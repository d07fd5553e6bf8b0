use Rattle.std.proofs.Common.{◌∙◌, ◌+◌, ℕ, List, ◌++◌, ◌∷◌, [], sym, ap, arith, get_or}
use Rattle.instance_model.proofs.EntryLemmas.{count_sum-zero}
use Rattle.lagrange_bound.proofs.ExSumsLemmas.{ArePrefixes-none, ArePrefixes-more, sum_more}
use Rattle.lagrange_bound.proofs.ex_sums.prefix_sums.Goals as goal

pub loop-u-init : goal.loop-u-init
loop-u-init c = record {
  sum = sym (count_sum-zero (λ v. get_or c.args.numbers.now (c.args.from + v) 0));
  prefixes = ArePrefixes-none c.args.numbers.now c.args.from _
      (c.in_ok-push.ensures.items ∙ ap (λ (xs : List ℕ). xs ++ 0 ∷ []) c.in_ok-prefixes.ensures.items);
}

pub overflow_add-sum-in-loop-u : goal.overflow_add-sum-in-loop-u
overflow_add-sum-in-loop-u c =
    let more = sum_more c.args.numbers.now c.args.from c.loop-u.u c.loop-u.sum c.loop-u.invariant.sum in
    omega (arith, more, c.requires.small (c.loop-u.u + 1) (omega arith))

pub loop-u-preserved : goal.loop-u-preserved
loop-u-preserved c =
    let more = sum_more c.args.numbers.now c.args.from c.loop-u.u c.loop-u.sum c.loop-u.invariant.sum in
    record {
      sum = more;
      prefixes = ArePrefixes-more c.loop-u.u c.args.numbers.now c.args.from c.loop-u.prefixes.items _
          (c.loop-u.sum + get_or c.args.numbers.now (c.args.from + c.loop-u.u) 0) c.loop-u.invariant.prefixes more
          c.in_ok-push-2.ensures.items;
    }
