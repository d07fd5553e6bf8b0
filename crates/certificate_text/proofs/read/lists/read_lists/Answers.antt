use Rattle.std.proofs.Common.{◌≡◌, ◌-◌, ◌<◌, List, [], ◌∷◌, length, None, ap, arith, length-append}
use Rattle.std.proofs.lemmas.Result.{err_from_is_err_and}
use Rattle.lagrange_bound.specs.Prices.{PriceList}
use Rattle.certificate_lines.specs.declared.line.CertificateLine.TheVariants as form
use Rattle.certificate_text.specs.Grammar.{lists}
use Rattle.certificate_text.specs.declared.read.refusal.Refusal.TheVariants.{Misplaced}
use Rattle.certificate_text.proofs.ReadStepLemmas.{fails_told, fails_no_line, fails_memory}
use Rattle.certificate_text.proofs.ReadEntryLemmas.{not_told, below_told}
use Rattle.certificate_text.proofs.ReadListLemmas.{lists_fail, lists_more, lists_end, lists_fail_end, only_tree}
use Rattle.certificate_text.proofs.read.lists.read_lists.Goals as goal

pub returns-in_err-prices-clause-err : goal.returns-in_err-prices-clause-err
returns-in_err-prices-clause-err c =
    let p = err_from_is_err_and c.from_residual.result c.from_residual.ensures.1 in
    let read = c.loop-k.invariant.reads in
    let left = c.args.count - length c.loop-k.lists.items in
    let some : 0 < left = omega (arith, c.loop-k-test.true, c.loop-k.invariant.each) in
    rw (p.1, p.2) (lists_fail c.args.inst.now c.args.version c.args.count c.args.lines.now c.loop-k.lines
    c.loop-k.lists.items c.in_err-prices.field-0.0 read
    (c.in_err-prices.ensures.err read.last c.args.count left read.between some))

pub returns-in_err-push-clause-err : goal.returns-in_err-push-clause-err
returns-in_err-push-clause-err c =
    let p = err_from_is_err_and c.from_residual-in_err-push.result c.from_residual-in_err-push.ensures.1 in
    rw (p.1, p.2) (fails_memory c.args.inst.now (lists c.args.version c.args.count c.args.count None) c.args.lines.now)

pub loop-k-preserved : goal.loop-k-preserved
loop-k-preserved c =
    let few : length c.loop-k.lists.items < c.args.count = omega (arith, c.loop-k-test.true, c.loop-k.invariant.each) in
    let longer = ap (λ (xs : List PriceList). length xs) c.in_ok-push.ensures.items in
    record {
      reads = rw c.in_ok-push.ensures.items
          (lists_more c.args.inst.now c.args.version c.args.count c.args.lines.now c.loop-k.lines c.read_list.new.lines
          c.loop-k.lists.items c.in_ok-prices.prices c.loop-k.invariant.reads few c.in_ok-prices.ensures.ok);
      each = omega
          (arith, longer, length-append c.loop-k.lists.items (c.in_ok-prices.prices ∷ []), c.loop-k.invariant.each);
    }

pub returns-in_err-line-clause-err : goal.returns-in_err-line-clause-err
returns-in_err-line-clause-err c =
    let p = err_from_is_err_and c.from_residual-in_err-line.result c.from_residual-in_err-line.ensures.1 in
    let each : length c.loop-k.lists.items ≡ c.args.count =
    omega (arith, c.loop-k-test.false, c.loop-k.auto._k-end, c.loop-k.invariant.each) in
    rw (p.1, p.2) (lists_fail_end c.args.inst.now c.args.version c.args.count c.args.lines.now c.loop-k.lines
    c.loop-k.lists.items c.in_err-line.field-0.0 c.loop-k.invariant.reads each
    (λ start between. fails_no_line c.args.inst.now (lists c.args.version c.args.count 0 start) c.loop-k.lines
    c.in_err-line.field-0.0 (λ z. z) c.in_err-line.ensures.err))

pub returns-then-not-is_tree-clause-err : goal.returns-then-not-is_tree-clause-err
returns-then-not-is_tree-clause-err c =
    let each : length c.loop-k.lists.items ≡ c.args.count =
    omega (arith, c.loop-k-test.false, c.loop-k.auto._k-end, c.loop-k.invariant.each) in
    lists_fail_end c.args.inst.now c.args.version c.args.count c.args.lines.now c.loop-k.lines c.loop-k.lists.items
    c.fault.result c.loop-k.invariant.reads each
    (λ start between. fails_told c.args.inst.now (lists c.args.version c.args.count 0 start) c.loop-k.lines _
    c.in_ok-line.line Misplaced _ c.fault.ensures (λ z. z) c.in_ok-line.ensures.ok
    (only_tree c.args.version c.args.count start c.loop-k.lines _ c.in_ok-line.line between c.in_ok-line.ensures.ok
    (not_told c.is_tree.result (c.in_ok-line.line ≡ form.Tree) c.is_tree.ensures c.if-not-is_tree.true)))

pub returns-clause-ok : goal.returns-clause-ok
returns-clause-ok c =
    let each : length c.loop-k.lists.items ≡ c.args.count =
    omega (arith, c.loop-k-test.false, c.loop-k.auto._k-end, c.loop-k.invariant.each) in
    rw c.from_vec.ensures (lists_end c.args.inst.now c.args.version c.args.count c.args.lines.now c.loop-k.lines
    c.next_line.new.self c.loop-k.lists.items c.in_ok-line.line c.loop-k.invariant.reads each
    c.in_ok-line.ensures.ok (below_told c.is_tree.result (c.in_ok-line.line ≡ form.Tree) c.is_tree.ensures
    c.if-not-is_tree.false))
