-- A leaf that holds, against a feasible plan in its box.
use Rattle.std.proofs.Common.{◌≡◌, ℕ, zero, suc, ◌<◌, ◌≤◌, refl, sym, ◌∙◌, ap, subst, arith, ℤ, ◌≤ℤ◌, ◌<ℤ◌, List, []}
use Rattle.std.proofs.Common.{◌∷◌, length, get_or, map, Option, Some, IsTrue}
use Rattle.std.proofs.lemmas.Grind.{same_number_lists}
use Rattle.fixed_num.specs.Sums.{sum_below}
use Rattle.fixed_num.proofs.SignedLemmas.{signed_arith}
use Rattle.fixed_num.proofs.SumLemmas.{sum_below_mono, sum_below_same}
use Rattle.instance_model.specs.Tables.{Tables, is_allowed, upper_of, lower_of, exclusion_of}
use Rattle.instance_model.specs.Fitting.{IsFitting}
use Rattle.instance_model.specs.Plans.{start_of, load_at, load_sum}
use Rattle.instance_model.specs.Rules.{IsFeasible}
use Rattle.instance_model.proofs.BoardLemmas.{start_of-starts}
use Rattle.instance_model.proofs.RuleLemmas.{KeepsRules-from}
use Rattle.lagrange_bound.specs.declared.span.Span.{Span}
use Rattle.lagrange_bound.specs.Least.{least_over}
use Rattle.lagrange_bound.specs.Boxes.{span_of, starts_in, IsPlanIn}
use Rattle.lagrange_bound.specs.TailLemmas.{least_over_le}
use Rattle.lagrange_bound.proofs.WorthLemmas.{named, running}
use Rattle.certificate_lines.specs.declared.line.Side.{Side}
use Rattle.certificate_lines.specs.declared.line.Side.TheVariants.{Over, Under}
use Rattle.certificate_tree.specs.Loads.{greatest_over, load_by_start, least_load, greatest_load}
use Rattle.certificate_tree.specs.Holding.{IsStartIn, BandHolds, ExclHolds, IsSingle, first_starts}
use Rattle.certificate_tree.proofs.StartLemmas.{in_starts, greatest_over_ge}

-- ---- the starts of a plan
some_same : {A : Type 0} (a b : A) → Some a ≡ Some b → a ≡ b
some_same a b e = cc

pub feasible_allowed : (inst : Tables) (starts : List ℕ) → length starts ≡ length inst.names
    → IsFeasible inst (map Some starts) → (i : ℕ) → i < length inst.names
    → IsTrue (is_allowed inst i (get_or starts i 0))
feasible_allowed inst starts each f i h =
    let w = (KeepsRules-from inst (map Some starts) f).starts i h in
    let e = some_same w.start (get_or starts i 0) (sym w.given ∙ start_of-starts starts i (rw each h)) in
    subst (λ (s : ℕ). IsTrue (is_allowed inst i s)) e w.allowed

pub start_in : (inst : Tables) (box : List Span) (starts : List ℕ) (i : ℕ) → IsPlanIn inst box starts
    → i < length inst.names → IsStartIn inst box i (get_or starts i 0)
start_in inst box starts i p l = record {
  from = p.from i l;
  to = p.to i l;
  allowed = feasible_allowed inst starts p.each p.feasible i l;
}

-- ---- loads
loads_same : (inst : Tables) (starts : List ℕ) (c t : ℕ) → length starts ≡ length inst.names
    → load_sum inst (map Some starts) c t
    ≡ sum_below (length inst.names) (λ i. load_by_start inst c t i (get_or starts i 0))
unfolding load_sum load_by_start
loads_same inst starts c t each = sum_below_same (length inst.names)
    (λ i. load_at inst c t i (start_of (map Some starts) i)) (λ i. load_at inst c t i (Some (get_or starts i 0)))
    (λ i l. ap (λ (o : Option ℕ). load_at inst c t i o) (start_of-starts starts i (rw each l)))

least_load_le : (inst : Tables) (box : List Span) (starts : List ℕ) (c t : ℕ) → IsPlanIn inst box starts
    → least_load inst box c t ≤ℤ load_sum inst (map Some starts) c t
unfolding least_load
least_load_le inst box starts c t p =
    subst (λ (z : ℤ). least_load inst box c t ≤ℤ z) (sym (loads_same inst starts c t p.each))
    (sum_below_mono (length inst.names)
    (λ i. least_over (load_by_start inst c t i) (starts_in inst i (span_of box i)))
    (λ i. load_by_start inst c t i (get_or starts i 0))
    (λ i l. least_over_le (load_by_start inst c t i) (starts_in inst i (span_of box i)) (get_or starts i 0)
    (in_starts inst i (get_or starts i 0) (span_of box i) (start_in inst box starts i p l))))

greatest_load_ge : (inst : Tables) (box : List Span) (starts : List ℕ) (c t : ℕ) → IsPlanIn inst box starts
    → load_sum inst (map Some starts) c t ≤ℤ greatest_load inst box c t
unfolding greatest_load
greatest_load_ge inst box starts c t p =
    subst (λ (z : ℤ). z ≤ℤ greatest_load inst box c t) (sym (loads_same inst starts c t p.each))
    (sum_below_mono (length inst.names) (λ i. load_by_start inst c t i (get_or starts i 0))
    (λ i. greatest_over (load_by_start inst c t i) (starts_in inst i (span_of box i)))
    (λ i l. greatest_over_ge (load_by_start inst c t i) (starts_in inst i (span_of box i)) (get_or starts i 0)
    (in_starts inst i (get_or starts i 0) (span_of box i) (start_in inst box starts i p l))))

between : (a b c : ℤ) → a ≤ℤ b → b ≤ℤ c → c <ℤ a → ⊥
between a b c h k l = omega (arith, signed_arith)

pub band_refutes : (inst : Tables) (box : List Span) (starts : List ℕ) (c t : ℕ) (side : Side)
    → IsPlanIn inst box starts → c < length inst.resource_names → 1 ≤ t → t ≤ inst.periods
    → BandHolds inst box c t side → ⊥
band_refutes inst box starts c t Over p l m n h = between (least_load inst box c t)
    (load_sum inst (map Some starts) c t) (upper_of inst c t) (least_load_le inst box starts c t p)
    ((KeepsRules-from inst (map Some starts) p.feasible).loads c t l m n).not_above h.load
band_refutes inst box starts c t Under p l m n h = between (lower_of inst c t) (load_sum inst (map Some starts) c t)
    (greatest_load inst box c t) ((KeepsRules-from inst (map Some starts) p.feasible).loads c t l m n).not_below
    (greatest_load_ge inst box starts c t p) h.load

-- ---- exclusions
pub excl_refutes : (inst : Tables) (box : List Span) (starts : List ℕ) (e : ℕ) → IsFitting inst
    → IsPlanIn inst box starts → e < length inst.exclusion_names → ExclHolds inst box e → ⊥
excl_refutes inst box starts e f p l h =
    let x = exclusion_of inst e in
    let w = named inst e f l in
    let m = h (get_or starts x.first 0) (get_or starts x.second 0) (start_in inst box starts x.first p w.0)
    (start_in inst box starts x.second p w.1) in
    (KeepsRules-from inst (map Some starts) p.feasible).seasons e m.0 l m.1.from m.1.to m.1.season (
      running inst starts x.first m.0 (omega (arith, w, p.each)) m.1.first,
      running inst starts x.second m.0 (omega (arith, w, p.each)) m.1.second,
    )

-- ---- a box of single starts
from_at : (box : List Span) (k : ℕ) → get_or (first_starts box) k 0 ≡ (span_of box k).from
from_at [] k = refl
from_at (x ∷ xs) zero = refl
from_at (x ∷ xs) (suc k) = from_at xs k

pub length-first_starts : (box : List Span) → length (first_starts box) ≡ length box
length-first_starts [] = refl
length-first_starts (x ∷ xs) = ap suc (length-first_starts xs)

pub single_plan : (inst : Tables) (box : List Span) (starts : List ℕ) → length box ≡ length inst.names
    → IsPlanIn inst box starts → IsSingle box → first_starts box ≡ starts
single_plan inst box starts len p one =
    same_number_lists (first_starts box) starts (length-first_starts box ∙ len ∙ sym p.each)
    (λ k h. let l : k < length box = omega (arith, h, length-first_starts box) in
    let m : k < length inst.names = omega (arith, l, len) in let e = one k l in let u = p.from k m in
    let v = p.to k m in from_at box k ∙ (omega (arith, e, u, v)))
