use Rattle.std.proofs.Common.{◌≡◌, ◌∙◌, arith, sym, ap, subst, get_or}
use Rattle.std.proofs.lemmas.List.{get_or_default}
use Rattle.branch_search.specs.declared.node_state.extent.Extent.{Extent}
use Rattle.branch_search.specs.declared.node_state.range.LoadRange.{LoadRange}
use Rattle.branch_search.specs.node_state.KeptLoads.{no_load}
use Rattle.branch_search.specs.node_state.Extents.{no_extent, extent_at, IsSmallRange, replaced}
use Rattle.branch_search.proofs.NodeStateBoxLemmas.{AreChangedTo-none, AreChangedTo-more}
use Rattle.branch_search.proofs.node_state.loads.replace_loads.Goals as goal

pub loop-z-init : goal.loop-z-init
loop-z-init c = AreChangedTo-none (λ w range. replaced range (extent_at c.args.before.now w) c.args.before_count
    (extent_at c.args.after.now w) c.args.after_count) c.args.loads.now

pub replace-requires : goal.replace-requires
replace-requires c =
    let z = c.loop-z.z in
    let loads = c.loop-z.loads in
    let same : get_or loads z c.index-loads-z.result ≡ get_or c.args.loads.now z no_load = get_or_default loads z
    c.index-loads-z.result no_load (omega arith) ∙ c.loop-z.invariant.kept z (omega arith) in
    subst IsSmallRange (sym same) (c.requires.small z (omega arith))

pub loop-z-preserved : goal.loop-z-preserved
loop-z-preserved c =
    let z = c.loop-z.z in
    let loads = c.loop-z.loads in
    let n = c.args.before_count in
    let m = c.args.after_count in
    let load : get_or loads z c.index-loads-z.result ≡ get_or loads z no_load =
    get_or_default loads z c.index-loads-z.result no_load (omega arith) in
    let before : c.index-before-z.result ≡ extent_at c.args.before.now z =
    c.index-before-z.is ∙ get_or_default c.args.before.now z c.index-before-z.result no_extent (omega arith) in
    let after : c.index-after-z.result ≡ extent_at c.args.after.now z =
    c.index-after-z.is ∙ get_or_default c.args.after.now z c.index-after-z.result no_extent (omega arith) in
    AreChangedTo-more (λ w range. replaced range (extent_at c.args.before.now w) n (extent_at c.args.after.now w) m) z
    c.args.loads.now loads c.replace.new.self c.loop-z.invariant (omega arith)
    (c.replace.ensures ∙ ap (λ (x : LoadRange). replaced x c.index-before-z.result n c.index-after-z.result m) load
    ∙ ap (λ (x : Extent). replaced (get_or loads z no_load) x n c.index-after-z.result m) before
    ∙ ap (λ (x : Extent). replaced (get_or loads z no_load) (extent_at c.args.before.now z) n x m) after)
