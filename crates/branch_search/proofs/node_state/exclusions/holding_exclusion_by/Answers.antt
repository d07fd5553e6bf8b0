use Rattle.std.proofs.Common.{◌≡◌, ℕ, ◌<◌, ◌⊎◌, inl, inr, sym, ◌∙◌, subst, arith, get_or}
use Rattle.std.proofs.Math.Nat.{eq-or-lt_of_le}
use Rattle.std.proofs.lemmas.Bool.{false≢true}
use Rattle.certificate_tree.specs.Holding.{ExclHolds}
use Rattle.branch_search.proofs.NodeStateExclusionLemmas.{index_long, named_is, named_within, none_by}
use Rattle.branch_search.proofs.node_state.exclusions.holding_exclusion_by.Goals as goal

pub index-requires : goal.index-requires
index-requires c = omega (
  arith,
  index_long c.args.inst.now c.index.inside.named.items (c.index.view_is ∙ c.requires.index),
  c.requires.number,
  c.index.inside.named.ok.0,
)

pub excl_holds-requires-clause-exclusion : goal.excl_holds-requires-clause-exclusion
excl_holds-requires-clause-exclusion c =
    let is = named_is c.args.inst.now c.index.inside.named.items c.args.i c.index-2.result.now
    c.as_slice-named.result.now (c.index.view_is ∙ c.requires.index) c.requires.number c.index-2.ensures
    c.as_slice-named.ensures in
    named_within c.args.inst.now c.args.i c.loop-e.e-index c.as_slice-named.result.now is (omega arith)

pub returns-then-excl_holds-clause-holds : goal.returns-then-excl_holds-clause-holds
returns-then-excl_holds-clause-holds c =
    let is = named_is c.args.inst.now c.index.inside.named.items c.args.i c.index-2.result.now
    c.as_slice-named.result.now (c.index.view_is ∙ c.requires.index) c.requires.number c.index-2.ensures
    c.as_slice-named.ensures in
    record {
      number = named_within c.args.inst.now c.args.i c.loop-e.e-index c.as_slice-named.result.now is (omega arith);
      holds = c.excl_holds.ensures.0 c.if-excl_holds.true;
    }

pub loop-e-preserved : goal.loop-e-preserved
loop-e-preserved c = λ k l. at k (eq-or-lt_of_le (omega (arith, l)))
  where
    at : (k : ℕ) → (k ≡ c.loop-e.e-index) ⊎ (k < c.loop-e.e-index)
        → ¬ ExclHolds c.args.inst.now c.args.spans.now (get_or c.as_slice-named.result.now k 0)
    at k (inl e) = λ holds. false≢true (sym c.if-excl_holds.false ∙ c.excl_holds.ensures.1 (subst
        (λ (j : ℕ). ExclHolds c.args.inst.now c.args.spans.now (get_or c.as_slice-named.result.now j 0)) e holds))
    at k (inr l) = c.loop-e.invariant k l

pub returns-clause-none : goal.returns-clause-none
returns-clause-none c =
    let is = named_is c.args.inst.now c.index.inside.named.items c.args.i c.index-2.result.now
    c.as_slice-named.result.now (c.index.view_is ∙ c.requires.index) c.requires.number c.index-2.ensures
    c.as_slice-named.ensures in
    none_by c.args.inst.now c.args.spans.now c.args.i c.loop-e.e-index c.as_slice-named.result.now is
    c.loop-e-test.false c.loop-e.invariant c.requires.others
