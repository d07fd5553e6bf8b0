-- Bytes have one answer: an instance, or a fault.
use Rattle.std.proofs.Common.{◌≡◌, ℕ, ℤ, ◌⊎◌, inl, inr, List, [], Some, None, sym, ◌∙◌, ap, subst, arith}
use Rattle.json_grammar.specs.Tree.{Tree}
use Rattle.json_grammar.proofs.LawsOfTexts.{one_tree}
use Rattle.json_grammar.proofs.LawsLoop.{no_syntax_fault, no_depth_fault}
use Rattle.json_grammar.proofs.LawsOnePlace.{one_syntax, one_depth, syntax_or_depth}
use Rattle.instance_model.specs.Tables.{Tables}
use Rattle.instance_model.specs.declared.limits.Limits.{Limits}
use Rattle.instance_shape.specs.declared.fault.Fault.{Fault}
use Rattle.instance_shape.specs.ShapeFaults.{shape_faults, IsBefore, Among, IsLeast}
use Rattle.instance_shape.specs.CrossFaults.{CrossFault, cross_fault}
use Rattle.instance_shape.specs.FileTables.{tables}
use Rattle.instance_shape.specs.Defined.{IsTreeOf, Defines, HasShapeFault, HasCrossFault}
use Rattle.instance_shape.specs.FileFaults.{FileFault, syntax, too_deep, shape, across, HasFileFault, HaveOneAnswer}

-- ---- the shape

one_least : (fs : List Fault) (f g : Fault) → IsLeast fs f → IsLeast fs g → f ≡ g
one_least fs f g a b = by (a.least g b.among) (b.least f a.among)
  where
    by : (g ≡ f) ⊎ IsBefore f g → (f ≡ g) ⊎ IsBefore g f → f ≡ g
    by (inl e) y = sym e
    by (inr x) (inl e) = e
    by (inr x) (inr y) = absurd (both x y)
      where
        both : IsBefore f g → IsBefore g f → ⊥
        both (inl l) (inl m) = omega arith
        both (inl l) (inr m) = omega (arith, m.0)
        both (inr l) (inl m) = omega (arith, l.0)
        both (inr l) (inr m) = omega (arith, l.1, m.1)

-- ---- one tree

pub same_root : (bytes : List ℕ) (r q : Tree) → IsTreeOf bytes r → IsTreeOf bytes q → r ≡ q
same_root bytes r q a b = one_tree bytes r q a.text b.text

one_instance : (limits : Limits) (slack : ℤ) (bytes : List ℕ) (a b : Tables) → Defines limits slack bytes a
    → Defines limits slack bytes b → a ≡ b
one_instance limits slack bytes a b x y =
    x.tables ∙ ap (tables slack) (same_root bytes x.root y.root x.text y.text) ∙ sym y.tables

no_shape : (limits : Limits) (bytes : List ℕ) (root : Tree) (f : Fault) → IsTreeOf bytes root
    → shape_faults limits root ≡ [] → HasShapeFault limits bytes f → ⊥
no_shape limits bytes root f t e h =
    subst (λ xs. Among xs f) (ap (shape_faults limits) (same_root bytes h.root root h.text t) ∙ e) h.least.among

no_across : (limits : Limits) (bytes : List ℕ) (root : Tree) (f : CrossFault) → IsTreeOf bytes root
    → cross_fault root ≡ None → HasCrossFault limits bytes f → ⊥
no_across limits bytes root f t e h =
    let x : cross_fault root ≡ Some f = ap cross_fault (same_root bytes root h.root t h.text) ∙ h.first in
    cc

apart : (limits : Limits) (slack : ℤ) (bytes : List ℕ) (a : Tables) (f : FileFault) → Defines limits slack bytes a
    → HasFileFault limits bytes f → ⊥
apart limits slack bytes a (syntax at) d h = no_syntax_fault bytes at d.root d.text.text h.0
apart limits slack bytes a (too_deep at) d h = no_depth_fault bytes at d.root d.text.text d.text.shallow h
apart limits slack bytes a (shape f) d h = no_shape limits bytes d.root f d.text d.shaped h
apart limits slack bytes a (across f) d h = no_across limits bytes d.root f d.text d.fitting h

one_fault : (limits : Limits) (bytes : List ℕ) (f g : FileFault) → HasFileFault limits bytes f
    → HasFileFault limits bytes g → f ≡ g
one_fault limits bytes (syntax a) (syntax b) h i = ap syntax (one_syntax bytes a b h.0 i.0)
one_fault limits bytes (syntax a) (too_deep b) h i = absurd (syntax_or_depth bytes a b h.0 h.1 i)
one_fault limits bytes (syntax a) (shape g) h i = absurd (no_syntax_fault bytes a i.root i.text.text h.0)
one_fault limits bytes (syntax a) (across g) h i = absurd (no_syntax_fault bytes a i.root i.text.text h.0)
one_fault limits bytes (too_deep a) (syntax b) h i = absurd (syntax_or_depth bytes b a i.0 i.1 h)
one_fault limits bytes (too_deep a) (too_deep b) h i = ap too_deep (one_depth bytes a b h i)
one_fault limits bytes (too_deep a) (shape g) h i = absurd (no_depth_fault bytes a i.root i.text.text i.text.shallow h)
one_fault limits bytes (too_deep a) (across g) h i = absurd (no_depth_fault bytes a i.root i.text.text i.text.shallow h)
one_fault limits bytes (shape f) (syntax b) h i = absurd (no_syntax_fault bytes b h.root h.text.text i.0)
one_fault limits bytes (shape f) (too_deep b) h i = absurd (no_depth_fault bytes b h.root h.text.text h.text.shallow i)
one_fault limits bytes (shape f) (shape g) h i =
    ap shape (one_least (shape_faults limits h.root) f g h.least
    (subst (λ r. IsLeast (shape_faults limits r) g) (same_root bytes i.root h.root i.text h.text) i.least))
one_fault limits bytes (shape f) (across g) h i = absurd (no_shape limits bytes i.root f i.text i.shaped h)
one_fault limits bytes (across f) (syntax b) h i = absurd (no_syntax_fault bytes b h.root h.text.text i.0)
one_fault limits bytes (across f) (too_deep b) h i = absurd (no_depth_fault bytes b h.root h.text.text h.text.shallow i)
one_fault limits bytes (across f) (shape g) h i = absurd (no_shape limits bytes h.root g h.text h.shaped i)
one_fault limits bytes (across f) (across g) h i =
    let x : Some f ≡ Some g = sym h.first ∙ ap cross_fault (same_root bytes h.root i.root h.text i.text) ∙ i.first in
    let e : f ≡ g = cc in
    ap across e

pub one_answer : (limits : Limits) (slack : ℤ) (bytes : List ℕ) → HaveOneAnswer limits slack bytes
one_answer limits slack bytes = record {
  instance = one_instance limits slack bytes;
  fault = one_fault limits bytes;
  apart = apart limits slack bytes;
}
