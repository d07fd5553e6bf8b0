use Rattle.std.proofs.Common.{◌≡◌, ◌-◌, ◌+◌, List, [], ◌∷◌, length, ap, arith, length-append}
use Rattle.std.proofs.lemmas.Result.{err_from_is_err_and}
use Rattle.refined_prices.specs.RefinedLists.{RefinedList}
use Rattle.refined_text.specs.read.Reading.{lists_begin}
use Rattle.refined_text.proofs.ReadStepLemmas.{fails_memory}
use Rattle.refined_text.proofs.ReadListLemmas.{some_more, some_fails, some_end}
use Rattle.refined_text.proofs.read.lists.read_lists.Goals as goal

pub returns-in_err-list-clause-err : goal.returns-in_err-list-clause-err
returns-in_err-list-clause-err c =
    let p = err_from_is_err_and c.from_residual-in_err-list.result c.from_residual-in_err-list.ensures.1 in
    let inst = c.args.inst.now in
    let xs = c.loop-k.lists.items in
    let left = c.args.count - 1 - c.loop-k.k in
    let each : length xs + left + 1 ≡ c.args.count = omega (arith, c.loop-k-test.true, c.loop-k.invariant.each) in
    rw (p.1, p.2) (some_fails inst c.args.count left c.args.lines.now c.loop-k.lines xs c.loop-k.invariant.reads each
    c.in_err-list.field-0.0 (c.in_err-list.ensures.err c.args.count))

pub returns-in_err-push-clause-err : goal.returns-in_err-push-clause-err
returns-in_err-push-clause-err c =
    let p = err_from_is_err_and c.from_residual-in_err-push.result c.from_residual-in_err-push.ensures.1 in
    rw (p.1, p.2) (fails_memory c.args.inst.now (lists_begin c.args.inst.now c.args.count) c.args.lines.now)

pub loop-k-preserved : goal.loop-k-preserved
loop-k-preserved c =
    let inst = c.args.inst.now in
    let xs = c.loop-k.lists.items in
    let left = c.args.count - 1 - c.loop-k.k in
    let each : length xs + left + 1 ≡ c.args.count = omega (arith, c.loop-k-test.true, c.loop-k.invariant.each) in
    let longer = ap (λ (ys : List RefinedList). length ys) c.in_ok-push.ensures.items in
    record {
      reads = rw c.in_ok-push.ensures.items
          (some_more inst c.args.count left c.args.lines.now c.loop-k.lines xs c.loop-k.invariant.reads each
          c.read_list.new.lines c.in_ok-list.list (c.in_ok-list.ensures.ok c.args.count));
      each = omega (arith, longer, length-append xs (c.in_ok-list.list ∷ []), c.loop-k.invariant.each);
    }

pub returns-clause-ok : goal.returns-clause-ok
returns-clause-ok c =
    let each : length c.loop-k.lists.items ≡ c.args.count =
    omega (arith, c.loop-k-test.false, c.loop-k.auto.k-end, c.loop-k.invariant.each) in
    rw c.from_vec.ensures (some_end c.args.inst.now c.args.count c.args.lines.now c.loop-k.lines c.loop-k.lists.items
    c.loop-k.invariant.reads each)
