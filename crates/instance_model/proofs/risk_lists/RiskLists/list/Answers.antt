use Rattle.std.proofs.Common.{◌≡◌, ◌+◌, ◌<◌, ◌++◌, ℕ, ℤ, suc, List, sym, ◌∙◌, ap, length, arith, add-one, get_or, drop}
use Rattle.std.proofs.Common.{length-append}
use Rattle.std.specs.List.{slice_range}
use Rattle.instance_model.specs.RiskNumbers.{numbers_of}
use Rattle.instance_model.specs.RiskLists.{RiskRow}
use Rattle.instance_model.specs.RiskLists.{end_before, list_of}
use Rattle.instance_model.specs.declared.risk_lists.RiskHead.{RiskHead}
use Rattle.instance_model.proofs.RiskListLemmas.{length-lists_of, list_at, IsWithin, list_within}
use Rattle.instance_model.proofs.RiskStorageLemmas.{apart_at}
use Rattle.instance_model.proofs.risk_lists.RiskLists.list.Goals as goal

pub index-head-requires : goal.index-head-requires
index-head-requires c = omega (
  arith,
  c.requires,
  ap length c.self.view_is,
  length-lists_of c.self.inside.heads.items (c.self.inside.narrow.items ++ c.self.inside.wide.items),
)

pub end_of-end-requires : goal.end_of-end-requires
end_of-end-requires c = omega (
  arith,
  c.requires,
  ap length c.self.view_is,
  length-lists_of c.self.inside.heads.items (c.self.inside.narrow.items ++ c.self.inside.wide.items),
  c.deref.ensures.len,
)

-- where the numbers end, as the view has it
end_is : (hs : List RiskHead) (gs : List RiskHead) (k count n end : ℕ) → end ≡ end_before (drop (k + 1) gs) count
    → gs ≡ hs → count ≡ n → end ≡ end_before (drop (suc k) hs) n
end_is hs gs k count n end e g l = e ∙ ap (λ q. end_before (drop (k + 1) q) count) g
    ∙ ap (end_before (drop (k + 1) hs)) l ∙ ap (λ i. end_before (drop i hs) n) (add-one k)

pub part-requires-clause-start : goal.part-requires-clause-start
part-requires-clause-start c =
    let hs = c.self.inside.heads.items in
    let xs = c.self.inside.narrow.items in let ys = c.self.inside.wide.items in
    let in_range : c.args.k < length hs =
    omega (arith, c.requires, ap length c.self.view_is, length-lists_of hs (xs ++ ys)) in
    let within : IsWithin hs c.args.k (length (xs ++ ys)) c.index-head.result.now =
    list_within hs c.args.k (length (xs ++ ys)) c.index-head.result.now c.self.invariant.ascend in_range in
    let end = end_is hs c.deref.result.now c.args.k (c.len.result + c.len-2.result) (length (xs ++ ys))
    c.end_of-end.result c.end_of-end.ensures c.deref.ensures.value
    (omega (arith, c.len.ensures, c.len-2.ensures, length-append xs ys)) in
    let here = ap (λ (h : RiskHead). h.first) c.index-head.ensures in
    omega (arith, within.from, end, here)

pub part-requires-clause-end : goal.part-requires-clause-end
part-requires-clause-end c =
    let hs = c.self.inside.heads.items in
    let xs = c.self.inside.narrow.items in let ys = c.self.inside.wide.items in
    let in_range : c.args.k < length hs =
    omega (arith, c.requires, ap length c.self.view_is, length-lists_of hs (xs ++ ys)) in
    let within : IsWithin hs c.args.k (length (xs ++ ys)) c.index-head.result.now =
    list_within hs c.args.k (length (xs ++ ys)) c.index-head.result.now c.self.invariant.ascend in_range in
    let end = end_is hs c.deref.result.now c.args.k (c.len.result + c.len-2.result) (length (xs ++ ys))
    c.end_of-end.result c.end_of-end.ensures c.deref.ensures.value
    (omega (arith, c.len.ensures, c.len-2.ensures, length-append xs ys)) in
    rw (c.deref-2.ensures.value, c.deref-3.ensures.value) (omega (arith, within.to, end))

pub part-requires-clause-apart : goal.part-requires-clause-apart
part-requires-clause-apart c =
    let hs = c.self.inside.heads.items in
    let xs = c.self.inside.narrow.items in let ys = c.self.inside.wide.items in
    let in_range : c.args.k < length hs =
    omega (arith, c.requires, ap length c.self.view_is, length-lists_of hs (xs ++ ys)) in
    let apart = apart_at hs c.args.k (length xs) (length (xs ++ ys)) c.index-head.result.now c.self.invariant.apart
    in_range in
    let end = end_is hs c.deref.result.now c.args.k (c.len.result + c.len-2.result) (length (xs ++ ys))
    c.end_of-end.result c.end_of-end.ensures c.deref.ensures.value
    (omega (arith, c.len.ensures, c.len-2.ensures, length-append xs ys)) in
    let here = ap (λ (h : RiskHead). h.first) c.index-head.ensures in
    rw (c.deref-2.ensures.value, end, here) apart

-- the row of a head, with other names for its numbers
same_list : (h g : RiskHead) (hs : List RiskHead) (xs ys : List ℤ) (end : ℕ) → g ≡ h → ys ≡ slice_range xs g.first end
    → end ≡ end_before hs (length xs)
    → record { period = g.period; start = g.start; values = ys; soft = g.soft } ≡ list_of h hs xs
same_list h g hs xs ys end i e l =
    ap (λ (v : List ℤ). let r : RiskRow = record { period = g.period; start = g.start; values = v; soft = g.soft } in
    r) (e ∙ ap (slice_range xs g.first) l)
    ∙ ap (λ q. list_of q hs xs) i

pub returns : goal.returns
returns c = λ d.
    let hs = c.self.inside.heads.items in
    let xs = c.self.inside.narrow.items in let ys = c.self.inside.wide.items in
    let in_range : c.args.k < length hs =
    omega (arith, c.requires, ap length c.self.view_is, length-lists_of hs (xs ++ ys)) in
    let end = end_is hs c.deref.result.now c.args.k (c.len.result + c.len-2.result) (length (xs ++ ys))
    c.end_of-end.result c.end_of-end.ensures c.deref.ensures.value
    (omega (arith, c.len.ensures, c.len-2.ensures, length-append xs ys)) in
    same_list (get_or hs c.args.k c.index-head.result.now) c.index-head.result.now (drop (suc c.args.k) hs) (xs ++ ys)
    (numbers_of c.part.result) c.end_of-end.result c.index-head.ensures
    (c.part.ensures ∙ ap (λ vs. slice_range (vs ++ c.deref-3.result.now) c.index-head.result.now.first
    c.end_of-end.result) c.deref-2.ensures.value
    ∙ ap (λ vs. slice_range (xs ++ vs) c.index-head.result.now.first c.end_of-end.result) c.deref-3.ensures.value)
    end
    ∙ sym (list_at hs (xs ++ ys) c.args.k c.index-head.result.now d in_range)
    ∙ ap (λ rs. get_or rs c.args.k d) c.self.view_is
