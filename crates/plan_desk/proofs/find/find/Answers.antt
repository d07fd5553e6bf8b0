use Rattle.std.proofs.Common.{◌≡◌, arith, below_more, ap, sym, ◌∙◌}
use Rattle.std.specs.Prelude.{bytes_eq}
use Rattle.std.proofs.lemmas.Slice.Eq.{bytes_eq-Decides}
use Rattle.plan_desk.specs.Stored.{Stored}
use Rattle.plan_desk.specs.Mem.{file_at}
use Rattle.plan_desk.proofs.Places.{at_index, found, absent}
use Rattle.plan_desk.proofs.find.find.Goals as goal

pub returns-then-is_named : goal.returns-then-is_named
returns-then-is_named c =
    let f : file_at c.args.files.now c.loop-i.i ≡ c.index-files-i.result =
    at_index c.args.files.now c.loop-i.i c.index-files-i.result c.loop-i-test.true c.index-files-i.is in
    let same : c.args.name.now ≡ c.index-files-i.result.name =
    (bytes_eq-Decides c.args.name.now c.index-files-i.result.name).0 (sym c.is_named.ensures ∙ c.if-is_named.true) in
    found c.args.files.now c.loop-i.i c.args.name.now c.loop-i-test.true c.loop-i.invariant
    (ap (λ (x : Stored). x.name) f ∙ sym same)

pub loop-i-preserved : goal.loop-i-preserved
loop-i-preserved c =
    let f : file_at c.args.files.now c.loop-i.i ≡ c.index-files-i.result =
    at_index c.args.files.now c.loop-i.i c.index-files-i.result c.loop-i-test.true c.index-files-i.is in
    below_more _ _ c.loop-i.invariant
    (ap (λ (x : Stored). bytes_eq c.args.name.now x.name) f ∙ sym c.is_named.ensures ∙ c.if-is_named.false)

pub returns : goal.returns
returns c = absent c.args.files.now c.args.name.now (λ k h. c.loop-i.invariant k (omega arith))
