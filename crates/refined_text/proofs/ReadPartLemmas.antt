-- The entries of a price list, one after another, and the line behind them.
use Rattle.std.proofs.Common.{◌≡◌, ℕ, zero, suc, ◌-◌, ◌≤◌, refl, sym, ◌∙◌, ap, subst, arith, List, []}
use Rattle.std.proofs.Common.{◌∷◌, ◌++◌, length, map, get_or, Option, Some, None, replicate}
use Rattle.std.proofs.lemmas.List.{length-replicate}
use Rattle.std.proofs.lemmas.List.Elements.{All-nil}
use Rattle.instance_model.specs.Tables.{Tables}
use Rattle.lagrange_bound.specs.Prices.{zero_list}
use Rattle.lagrange_bound.proofs.PriceLemmas.{zero_in_range}
use Rattle.certificate_lines.specs.declared.line.CertificateLine.{CertificateLine}
use Rattle.certificate_lines.specs.declared.line.CertificateLine.TheVariants as line
use Rattle.certificate_text.specs.Grammar.{before_entries}
use Rattle.certificate_text.proofs.GrowLemmas.{zero_has_none, zero_up_to}
use Rattle.certificate_text.specs.declared.read.fault.CertFault.{CertFault}
use Rattle.certificate_text.specs.declared.read.refusal.Refusal.{Refusal}
use Rattle.certificate_text.specs.declared.read.refusal.Refusal.TheVariants.{Misplaced, OutOfRange}
use Rattle.certificate_text.specs.read.Lines.{Left}
use Rattle.certificate_text.specs.read.Reading.{fault_at}
use Rattle.refined_prices.specs.declared.group_tail.GroupTail.{GroupTail}
use Rattle.refined_text.specs.declared.lines.line.RefinedLine.{RefinedLine}
use Rattle.refined_text.specs.declared.lines.line.RefinedLine.TheVariants.{Plain}
use Rattle.refined_text.specs.text.Text.{further_lines}
use Rattle.refined_text.specs.grammar.Further.{no_further, HasEnough}
use Rattle.refined_text.specs.grammar.Grammar.{RefinedPlace, RefinedStands, RefinedFits, refined_after}
use Rattle.refined_text.specs.grammar.SoFar.{list_of}
use Rattle.refined_text.proofs.GrammarEntryLemmas.{nothing_further, lists_end}
use Rattle.refined_text.specs.read.Parts.{Part, no_part}
use Rattle.refined_text.specs.read.Taking.{RefinedRefuses, IsRefinedMark, among, IsPart, part_lines, TakesEntry}
use Rattle.refined_text.specs.read.Reading.{ReadsRefined, IsNoRefined, RefinedPasses, RefinedFails, mark_line}
use Rattle.refined_text.specs.read.Reading.{behind_mark}
use Rattle.refined_text.specs.read.Reading.{ReadsPart, ReadsPartAnd, ReadsRest}
use Rattle.refined_text.proofs.ReadStepLemmas.{passes_none, passes_more, passes_line, fails_behind, fails_no_line}
use Rattle.refined_text.proofs.ReadStepLemmas.{fails_told}

-- ---- nothing was read

none_at : (n i : ℕ) → get_or (replicate {A = Option GroupTail} n None) i None ≡ None
none_at zero i = refl
none_at (suc n) zero = refl
none_at (suc n) (suc i) = none_at n i

not_none : (x : GroupTail) → None ≡ Some x → ⊥
not_none x e = let z : ⊥ = cc in z

pub nothing_so_far : (inst : Tables) → IsPart inst (no_part inst)
unfolding zero_list
nothing_so_far inst = record {
  prices = zero_in_range inst;
  no_tails = refl;
  up_to = zero_up_to inst;
  no_cap = λ e. refl;
  no_period = λ l. refl;
  to = omega arith;
  tails_each = length-replicate inst.periods None;
  later = λ t l. none_at inst.periods (t - 1);
  tails = λ t one few tail e. absurd (not_none tail (sym (none_at inst.periods (t - 1)) ∙ e));
  enough = λ t one l. absurd (omega (arith, l));
  no_offsets = λ l. refl;
  offsets = tt;
  offsets_ascend = λ i j d l m. absurd (omega (arith, m));
  no_cliques = λ l. refl;
  few_cliques = omega arith;
  cliques = tt;
  cliques_ascend = λ i j d l m. absurd (omega (arith, m));
  members = All-nil (λ x. 2 ≤ length x.members);
}

pub no_lines : (inst : Tables) → part_lines inst (no_part inst) ≡ []
no_lines inst =
    ap (λ (ls : List CertificateLine). map Plain ls ++ further_lines (list_of (zero_list inst) (no_further inst)))
    (zero_has_none inst)
    ∙ nothing_further inst (zero_list inst) (no_further inst) before_entries (nothing_so_far inst) refl

pub part_none : (inst : Tables) (left : Left) → ReadsPart inst left (no_part inst) left
part_none inst left = record {
  passes = λ count more. subst
      (λ (ls : List RefinedLine). RefinedPasses inst (among count more (no_part inst)) left ls
      (among count more (no_part inst)) left) (sym (no_lines inst))
      (passes_none inst (among count more (no_part inst)) left);
  so_far = nothing_so_far inst;
}

-- ---- the next line

pub part_and : (inst : Tables) (old now new : Left) (part : Part) (a : RefinedLine) → ReadsPart inst old part now
    → ReadsRefined now new a → ReadsPartAnd inst old part a new
part_and inst old now new part a u r = record { between = now; reads = u; next = r }

pub part_cut : (inst : Tables) (old now : Left) (part : Part) (fault : CertFault) → ReadsPart inst old part now
    → IsNoRefined now fault → (count left : ℕ) → RefinedFails inst (among count left (no_part inst)) old fault
part_cut inst old now part fault u f count left =
    fails_behind inst (among count left (no_part inst)) (among count left part) old now (part_lines inst part) fault
    (u.passes count left) (fails_no_line inst (among count left part) now fault (λ z. z) f)

module _ (inst : Tables) (old new : Left) (part : Part) (a : RefinedLine) (u : ReadsPartAnd inst old part a new) where
  -- the line is taken
  pub part_more : (grown : Part) → TakesEntry inst part grown a → ReadsPart inst old grown new
  part_more grown t = record {
    passes = λ count left.
        let p : RefinedPlace = among count left part in
        let one = passes_line inst p u.between new a u.next (t.stands count left) (t.fits count left) in
        let to = subst (λ (q : RefinedPlace). RefinedPasses inst p u.between (a ∷ []) q new) (t.after count left) one in
        let all = passes_more inst (among count left (no_part inst)) p (among count left grown) old u.between new
        (part_lines inst part) (a ∷ []) (u.reads.passes count left) to in
        subst (λ (ls : List RefinedLine). RefinedPasses inst (among count left (no_part inst)) old ls
        (among count left grown) new) (sym t.lines) all;
    so_far = t.so_far;
  }

  -- or refused
  pub part_refused : (refusal : Refusal) (fault : CertFault) → fault ≡ fault_at new.count refusal → (count left : ℕ)
      → RefinedRefuses inst (among count left part) a refusal
      → RefinedFails inst (among count left (no_part inst)) old fault
  part_refused refusal fault e count left f =
      fails_behind inst (among count left (no_part inst)) (among count left part) old u.between (part_lines inst part)
      fault (u.reads.passes count left)
      (fails_told inst (among count left part) u.between new a refusal fault e (λ z. z) u.next f)

-- ---- the line behind all entries

mark_stands : (count left : ℕ) (part : Part) → RefinedStands (among count left part) (mark_line left)
mark_stands count zero part = (tt, refl, tt)
mark_stands count (suc left) part = (tt, omega arith, tt)

mark_fits : (inst : Tables) (count left : ℕ) (part : Part) → HasEnough inst part.further.tails part.further.period
    → RefinedFits inst (among count left part) (mark_line left)
mark_fits inst count zero part enough = (tt, enough)
mark_fits inst count (suc left) part enough = (tt, enough)

mark_told : (inst : Tables) (count left : ℕ) (part : Part) → RefinedFits inst (among count left part) (mark_line left)
    → HasEnough inst part.further.tails part.further.period
mark_told inst count zero part fits = fits.1
mark_told inst count (suc left) part fits = fits.1

mark_after : (inst : Tables) (count left : ℕ) (part : Part)
    → refined_after inst (among count left part) (mark_line left) ≡ behind_mark inst count left
mark_after inst count zero part = refl
mark_after inst count (suc left) part =
    let e : suc left - 1 ≡ left = omega arith in
    ap (λ (n : ℕ). among count n (no_part inst)) e

-- another line that begins a list or the tree doesn't stand there
other_mark : (count left : ℕ) (part : Part) (a : RefinedLine) → IsRefinedMark a → (a ≡ mark_line left → ⊥)
    → RefinedStands (among count left part) a → ⊥
other_mark count zero part (Plain line.Prices) mark other s = let w = s.1 in omega (arith, w)
other_mark count (suc left) part (Plain line.Prices) mark other s = other refl
other_mark count zero part (Plain line.Tree) mark other s = other refl
other_mark count (suc left) part (Plain line.Tree) mark other s = let w = s.1 in omega (arith, w)
other_mark count left part (Plain _) mark other s = mark
other_mark count left part _ mark other s = mark

module _ (inst : Tables) (count left : ℕ) (old new : Left) (part : Part) (a : RefinedLine)
    (u : ReadsPartAnd inst old part a new) where
  pub rest_read : a ≡ mark_line left → HasEnough inst part.further.tails part.further.period
      → ReadsRest inst count left old (list_of part.prices part.further) new
  rest_read e enough =
      let p : RefinedPlace = among count left part in
      let end = lists_end inst part.prices part.further part.last u.reads.so_far enough in
      let r = subst (λ (x : RefinedLine). ReadsRefined u.between new x) e u.next in
      let one = passes_line inst p u.between new (mark_line left) r (mark_stands count left part)
      (mark_fits inst count left part enough) in
      let to = subst (λ (q : RefinedPlace). RefinedPasses inst p u.between (mark_line left ∷ []) q new)
      (mark_after inst count left part) one in
      record {
        passes = passes_more inst (among count left (no_part inst)) p (behind_mark inst count left) old u.between new
            (part_lines inst part) (mark_line left ∷ []) (u.reads.passes count left) to;
        in_range = end.0;
        in_order = end.1;
      }

  pub rest_misplaced : (fault : CertFault) → fault ≡ fault_at new.count Misplaced → IsRefinedMark a
      → (a ≡ mark_line left → ⊥) → RefinedFails inst (among count left (no_part inst)) old fault
  rest_misplaced fault e mark other =
      part_refused inst old new part a u Misplaced fault e count left (other_mark count left part a mark other)

  pub rest_unfit : (fault : CertFault) → fault ≡ fault_at new.count OutOfRange → a ≡ mark_line left
      → (HasEnough inst part.further.tails part.further.period → ⊥)
      → RefinedFails inst (among count left (no_part inst)) old fault
  rest_unfit fault e is few = part_refused inst old new part a u OutOfRange fault e count left
      (subst (λ (x : RefinedLine). RefinedRefuses inst (among count left part) x OutOfRange) (sym is)
      (mark_stands count left part, λ fits. few (mark_told inst count left part fits)))
