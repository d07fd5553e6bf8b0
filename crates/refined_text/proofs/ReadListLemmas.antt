-- Price lists that are read one after another.
use Rattle.std.proofs.Common.{◌≡◌, ℕ, zero, suc, ◌+◌, ◌-◌, refl, sym, ◌∙◌, ap, subst, arith, List, []}
use Rattle.std.proofs.Common.{◌∷◌, ◌++◌, length, append_assoc, length-append, None}
use Rattle.std.specs.List.{flat_map}
use Rattle.std.proofs.lemmas.List.{append-nil}
use Rattle.std.proofs.lemmas.List.Elements.{All-nil, All-push}
use Rattle.instance_model.specs.Tables.{Tables}
use Rattle.certificate_lines.specs.declared.line.Version.TheVariants.{Two}
use Rattle.certificate_lines.specs.declared.line.CertificateLine.TheVariants as line
use Rattle.certificate_text.specs.Grammar.{lists}
use Rattle.certificate_text.specs.declared.read.fault.CertFault.{CertFault}
use Rattle.certificate_text.specs.declared.read.refusal.Refusal.TheVariants.{Misplaced}
use Rattle.certificate_text.specs.read.Lines.{Left}
use Rattle.certificate_text.specs.read.Reading.{fault_at}
use Rattle.refined_prices.specs.RefinedLists.{RefinedList, IsRefinedList}
use Rattle.refined_check.specs.certificate.Orders.{IsInOrder}
use Rattle.refined_text.specs.declared.lines.line.RefinedLine.{RefinedLine}
use Rattle.refined_text.specs.declared.lines.line.RefinedLine.TheVariants.{Title, Plain}
use Rattle.refined_text.specs.text.Text.{refined_entry_lines, refined_list_lines}
use Rattle.refined_text.specs.grammar.Further.{no_further, HasEnough}
use Rattle.refined_text.specs.grammar.Grammar.{RefinedPlace, within, RefinedStands, RefinedFits, refined_after}
use Rattle.refined_text.specs.read.Parts.{no_part}
use Rattle.refined_text.specs.read.Taking.{among}
use Rattle.refined_text.specs.read.Reading.{ReadsRefined, RefinedPasses, RefinedFails, mark_line}
use Rattle.refined_text.specs.read.Reading.{behind_mark}
use Rattle.refined_text.specs.read.Reading.{lists_begin, ReadsRest, ReadsSome, ReadsAll}
use Rattle.refined_text.proofs.ReadStepLemmas.{passes_more, passes_line, fails_behind, fails_told}
use Rattle.refined_text.proofs.ReadPartLemmas.{nothing_so_far}

-- ---- the first mark

begin_enough : (inst : Tables) → HasEnough inst (no_further inst).tails 0
begin_enough inst tail e =
    absurd (let none = (nothing_so_far inst).later 1 (omega arith) in let z : ⊥ = cc (none, e) in z)

first_stands : (inst : Tables) (count : ℕ) → RefinedStands (lists_begin inst count) (mark_line count)
first_stands inst zero = (tt, refl, tt)
first_stands inst (suc n) = (tt, omega arith, tt)

first_fits : (inst : Tables) (count : ℕ) → RefinedFits inst (lists_begin inst count) (mark_line count)
first_fits inst zero = (tt, begin_enough inst)
first_fits inst (suc n) = (tt, begin_enough inst)

first_after : (inst : Tables) (count : ℕ)
    → refined_after inst (lists_begin inst count) (mark_line count) ≡ behind_mark inst count count
first_after inst zero = refl
first_after inst (suc n) =
    let e : suc n - 1 ≡ n = omega arith in
    ap (λ (k : ℕ). among (suc n) k (no_part inst)) e

-- only this line stands there
first_other : (inst : Tables) (count left : ℕ) (a : RefinedLine) → (a ≡ mark_line left → ⊥)
    → RefinedStands (within (lists Two count left None) (no_further inst)) a → ⊥
first_other inst count zero (Plain line.Prices) other s = let w = s.1 in omega (arith, w)
first_other inst count (suc left) (Plain line.Prices) other s = other refl
first_other inst count zero (Plain line.Tree) other s = other refl
first_other inst count (suc left) (Plain line.Tree) other s = let w = s.1 in omega (arith, w)
first_other inst count left (Plain (line.Ex e t v)) other s = s.1.1
first_other inst count left (Plain _) other s = s.1
first_other inst count left Title other s = s
first_other inst count left _ other s = s.0

pub first_read : (inst : Tables) (count : ℕ) (old new : Left) (a : RefinedLine) → ReadsRefined old new a
    → a ≡ mark_line count
    → RefinedPasses inst (lists_begin inst count) old (mark_line count ∷ []) (behind_mark inst count count) new
first_read inst count old new a r e =
    let one = passes_line inst (lists_begin inst count) old new (mark_line count)
    (subst (λ (x : RefinedLine). ReadsRefined old new x) e r) (first_stands inst count) (first_fits inst count) in
    subst (λ (q : RefinedPlace). RefinedPasses inst (lists_begin inst count) old (mark_line count ∷ []) q new)
    (first_after inst count) one

pub first_refused : (inst : Tables) (count : ℕ) (old new : Left) (a : RefinedLine) (fault : CertFault)
    → fault ≡ fault_at new.count Misplaced → ReadsRefined old new a → (a ≡ mark_line count → ⊥)
    → RefinedFails inst (lists_begin inst count) old fault
first_refused inst count old new a fault e r other =
    fails_told inst (lists_begin inst count) old new a Misplaced fault e (λ z. z) r
    (first_other inst count count a other)

-- ---- lists

less_none : (n : ℕ) → n ≡ n - 0
less_none n = omega arith

pub some_none : (inst : Tables) (count : ℕ) (old new : Left)
    → RefinedPasses inst (lists_begin inst count) old (mark_line count ∷ []) (behind_mark inst count count) new
    → ReadsSome inst count old [] new
some_none inst count old new u = record {
  few = omega arith;
  passes = subst (λ (k : ℕ). RefinedPasses inst (lists_begin inst count) old (mark_line k ∷ [])
      (behind_mark inst count k) new) (less_none count) u;
  in_range = All-nil (IsRefinedList inst);
  in_order = All-nil IsInOrder;
}

flat-push : (inst : Tables) (xs : List RefinedList) (x : RefinedList)
    → flat_map (refined_list_lines inst) (xs ++ x ∷ []) ≡ flat_map (refined_list_lines inst) xs
    ++ refined_list_lines inst x
flat-push inst [] x = append-nil (refined_list_lines inst x)
flat-push inst (y ∷ ys) x = ap (λ (ls : List RefinedLine). refined_list_lines inst y ++ ls) (flat-push inst ys x)
    ∙ sym (append_assoc (refined_list_lines inst y) (flat_map (refined_list_lines inst) ys)
    (refined_list_lines inst x))

-- the lines up to the mark of a list, and those from there up to the next mark
regroup : (inst : Tables) (xs : List RefinedList) (x : RefinedList) (mark : RefinedLine)
    → (flat_map (refined_list_lines inst) xs ++ Plain line.Prices ∷ []) ++ (refined_entry_lines inst x ++ mark ∷ [])
    ≡ flat_map (refined_list_lines inst) (xs ++ x ∷ []) ++ mark ∷ []
regroup inst xs x mark =
    append_assoc (flat_map (refined_list_lines inst) xs) (Plain line.Prices ∷ [])
    (refined_entry_lines inst x ++ mark ∷ [])
    ∙ sym (append_assoc (flat_map (refined_list_lines inst) xs) (refined_list_lines inst x) (mark ∷ []))
    ∙ ap (λ (ls : List RefinedLine). ls ++ mark ∷ []) (sym (flat-push inst xs x))

module _ (inst : Tables) (count left : ℕ) (old now : Left) (xs : List RefinedList) (u : ReadsSome inst count old xs now)
    (each : length xs + left + 1 ≡ count) where
  -- the next list was begun
  begun : RefinedPasses inst (lists_begin inst count) old (flat_map (refined_list_lines inst) xs
      ++ Plain line.Prices ∷ []) (among count left (no_part inst)) now
  begun =
      let e : count - length xs ≡ suc left = omega (arith, each) in
      subst (λ (k : ℕ). RefinedPasses inst (lists_begin inst count) old (flat_map (refined_list_lines inst) xs
      ++ mark_line k ∷ []) (behind_mark inst count k) now) e u.passes

  pub some_more : (new : Left) (x : RefinedList) → ReadsRest inst count left now x new
      → ReadsSome inst count old (xs ++ x ∷ []) new
  some_more new x r =
      let all = passes_more inst (lists_begin inst count) (among count left (no_part inst))
      (behind_mark inst count left) old now new (flat_map (refined_list_lines inst) xs ++ Plain line.Prices ∷ [])
      (refined_entry_lines inst x ++ mark_line left ∷ []) begun r.passes in
      let longer = length-append xs (x ∷ []) in
      let e : left ≡ count - length (xs ++ x ∷ []) = omega (arith, longer, each) in
      let flat = subst (λ (ls : List RefinedLine). RefinedPasses inst (lists_begin inst count) old ls
      (behind_mark inst count left) new) (regroup inst xs x (mark_line left)) all in
      record {
        few = omega (arith, longer, each);
        passes = subst (λ (k : ℕ). RefinedPasses inst (lists_begin inst count) old
            (flat_map (refined_list_lines inst) (xs ++ x ∷ []) ++ mark_line k ∷ []) (behind_mark inst count k) new)
            e flat;
        in_range = All-push (IsRefinedList inst) xs x u.in_range r.in_range;
        in_order = All-push IsInOrder xs x u.in_order r.in_order;
      }

  pub some_fails : (fault : CertFault) → RefinedFails inst (among count left (no_part inst)) now fault
      → RefinedFails inst (lists_begin inst count) old fault
  some_fails fault f = fails_behind inst (lists_begin inst count) (among count left (no_part inst)) old now
      (flat_map (refined_list_lines inst) xs ++ Plain line.Prices ∷ []) fault begun f

pub some_end : (inst : Tables) (count : ℕ) (old new : Left) (xs : List RefinedList) → ReadsSome inst count old xs new
    → length xs ≡ count → ReadsAll inst count old xs new
some_end inst count old new xs u each =
    let e : count - length xs ≡ 0 = omega (arith, each) in
    record {
      each = each;
      passes = subst (λ (k : ℕ). RefinedPasses inst (lists_begin inst count) old (flat_map (refined_list_lines inst) xs
          ++ mark_line k ∷ []) (behind_mark inst count k) new) e u.passes;
      in_range = u.in_range;
      in_order = u.in_order;
    }
