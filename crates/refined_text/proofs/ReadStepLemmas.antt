-- Lines that are read one after another, and the fault of the first that has one.
use Rattle.std.proofs.Common.{◌≡◌, ℕ, ◌+◌, ◌<◌, inl, inr, refl, sym, ◌∙◌, ap, subst, arith, List, [], ◌∷◌, ◌++◌, length}
use Rattle.std.proofs.Common.{append_assoc, length-append}
use Rattle.std.proofs.lemmas.List.Elements.{All-append, All-nil, All-cons}
use Rattle.instance_model.specs.Tables.{Tables}
use Rattle.certificate_text.specs.declared.read.fault.CertFault.{CertFault}
use Rattle.certificate_text.specs.declared.read.fault.CertFault.TheVariants.{Cut, BadLine, Bounds, Memory}
use Rattle.certificate_text.specs.declared.read.refusal.Refusal.{Refusal}
use Rattle.certificate_text.specs.declared.read.refusal.Refusal.TheVariants.{Misplaced, OutOfRange}
use Rattle.certificate_text.specs.read.Lines.{Left}
use Rattle.certificate_text.specs.read.Reading.{fault_at}
use Rattle.refined_text.specs.declared.lines.line.RefinedLine.{RefinedLine}
use Rattle.refined_text.specs.lines.Spelling.{refined_spelling, IsRefinedLine}
use Rattle.refined_text.proofs.LinesLawLemmas.{one_refined, no_feed}
use Rattle.refined_text.specs.text.Text.{text_of_refined, refined_line_text}
use Rattle.refined_text.specs.grammar.Grammar.{RefinedPlace, HasRefinedEnded, RefinedStands, RefinedFits, refined_after}
use Rattle.refined_text.proofs.GrammarPlaceLemmas.{goes_append}
use Rattle.refined_text.proofs.GrammarTellLemmas.{refined_begins}
use Rattle.refined_text.specs.read.Faults.{HasRefinedLineFault}
use Rattle.refined_text.specs.read.Taking.{RefinedRefuses}
use Rattle.refined_text.specs.read.Reading.{ReadsRefined, IsNoRefined, RefinedPasses, RefinedFails}

pub text-append : (xs ys : List RefinedLine) → text_of_refined (xs ++ ys) ≡ text_of_refined xs ++ text_of_refined ys
text-append [] ys = refl
text-append (x ∷ xs) ys = ap (λ (t : List ℕ). refined_line_text x ++ t) (text-append xs ys)
    ∙ sym (append_assoc (refined_line_text x) (text_of_refined xs) (text_of_refined ys))

-- the text of some lines and of others behind them
pub text-behind : (xs ys : List RefinedLine) (rest : List ℕ)
    → text_of_refined xs ++ (text_of_refined ys ++ rest) ≡ text_of_refined (xs ++ ys) ++ rest
text-behind xs ys rest = sym (append_assoc (text_of_refined xs) (text_of_refined ys) rest)
    ∙ ap (λ (t : List ℕ). t ++ rest) (sym (text-append xs ys))

pub passes_none : (inst : Tables) (p : RefinedPlace) (left : Left) → RefinedPasses inst p left [] p left
passes_none inst p left = record { forms = All-nil IsRefinedLine; cut = refl; next = omega arith; leads = refl }

pub passes_more : (inst : Tables) (p q r : RefinedPlace) (a b c : Left) (xs ys : List RefinedLine)
    → RefinedPasses inst p a xs q b → RefinedPasses inst q b ys r c → RefinedPasses inst p a (xs ++ ys) r c
passes_more inst p q r a b c xs ys u v = record {
  forms = All-append IsRefinedLine xs ys u.forms v.forms;
  cut = u.cut ∙ ap (λ (t : List ℕ). text_of_refined xs ++ t) v.cut ∙ text-behind xs ys c.rest;
  next = omega (arith, u.next, v.next, length-append xs ys);
  leads = goes_append inst p q r xs ys u.leads v.leads;
}

pub passes_line : (inst : Tables) (p : RefinedPlace) (a b : Left) (line : RefinedLine) → ReadsRefined a b line
    → RefinedStands p line → RefinedFits inst p line
    → RefinedPasses inst p a (line ∷ []) (refined_after inst p line) b
passes_line inst p a b line r s f = record {
  forms = All-cons IsRefinedLine line [] r.form (All-nil IsRefinedLine);
  cut = r.cut ∙ sym (refined_begins line [] b.rest);
  next = r.next;
  leads = (s, f, refl);
}

-- a fault behind lines that were read is the fault of all
pub fails_behind : (inst : Tables) (p q : RefinedPlace) (a b : Left) (xs : List RefinedLine) (fault : CertFault)
    → RefinedPasses inst p a xs q b → RefinedFails inst q b fault → RefinedFails inst p a fault
fails_behind inst p q a b xs fault u f = record {
  lines = xs ++ f.lines;
  place = f.place;
  rest = f.rest;
  faultless = record {
    cut = u.cut ∙ ap (λ (t : List ℕ). text_of_refined xs ++ t) f.faultless.cut ∙ text-behind xs f.lines f.rest;
    forms = All-append IsRefinedLine xs f.lines u.forms f.faultless.forms;
    leads = goes_append inst p q f.place xs f.lines u.leads f.faultless.leads;
  };
  here = let e : b.count + length f.lines + 1 ≡ a.count + length (xs ++ f.lines) + 1 =
      omega (arith, u.next, length-append xs f.lines) in
      subst (λ (n : ℕ). HasRefinedLineFault inst f.place f.rest n fault) e f.here;
}

-- a fault of the first line
pub fails_here : (inst : Tables) (p : RefinedPlace) (a : Left) (fault : CertFault)
    → HasRefinedLineFault inst p a.rest (a.count + 1) fault → RefinedFails inst p a fault
fails_here inst p a fault f = record {
  lines = [];
  place = p;
  rest = a.rest;
  faultless = record { cut = refl; forms = All-nil IsRefinedLine; leads = refl };
  here = let e : a.count + 1 ≡ a.count + 0 + 1 = omega arith in
      subst (λ (n : ℕ). HasRefinedLineFault inst p a.rest n fault) e f;
}

-- want of memory
pub fails_memory : (inst : Tables) (p : RefinedPlace) (a : Left) → RefinedFails inst p a Memory
fails_memory inst p a = fails_here inst p a Memory tt

-- no line was read where one is needed
pub fails_no_line : (inst : Tables) (p : RefinedPlace) (a : Left) (fault : CertFault) → (HasRefinedEnded p → ⊥)
    → IsNoRefined a fault → RefinedFails inst p a fault
fails_no_line inst p a Memory needed f = fails_memory inst p a
fails_no_line inst p a (Bounds k) needed f = absurd f
fails_no_line inst p a (Cut k) needed f = fails_here inst p a (Cut k) (f.0, record { needed = needed; unended = f.1 })
fails_no_line inst p a (BadLine k) needed f = fails_here inst p a (BadLine k) (
  f.0,
  inl (record {
    needed = needed;
    text = f.1.text;
    more = f.1.more;
    cut = f.1.cut;
    whole = f.1.whole;
    misplaced = λ line form spelled stands. f.1.none line form spelled;
  }),
)

-- a line that was read is refused
pub fails_refused : (inst : Tables) (p : RefinedPlace) (a b : Left) (line : RefinedLine) (refusal : Refusal)
    → (HasRefinedEnded p → ⊥) → ReadsRefined a b line → RefinedRefuses inst p line refusal
    → RefinedFails inst p a (fault_at b.count refusal)
fails_refused inst p a b line Misplaced needed r f = fails_here inst p a (BadLine b.count) (
  r.next,
  inl (record {
    needed = needed;
    text = refined_spelling line;
    more = b.rest;
    cut = r.cut;
    whole = no_feed line r.form;
    misplaced = λ other form spelled stands. f
        (subst (λ (l : RefinedLine). RefinedStands p l) (sym (one_refined line other r.form form spelled)) stands);
  }),
)
fails_refused inst p a b line OutOfRange needed r f = fails_here inst p a (Bounds b.count) (
  r.next,
  record {
    line = line;
    more = b.rest;
    cut = r.cut;
    form = r.form;
    stands = f.0;
    unfit = f.1;
  },
)

-- the same, of what tells the fault
pub fails_told : (inst : Tables) (p : RefinedPlace) (a b : Left) (line : RefinedLine) (refusal : Refusal)
    (fault : CertFault) → fault ≡ fault_at b.count refusal → (HasRefinedEnded p → ⊥) → ReadsRefined a b line
    → RefinedRefuses inst p line refusal → RefinedFails inst p a fault
fails_told inst p a b line refusal fault e needed r f =
    subst (λ (x : CertFault). RefinedFails inst p a x) (sym e) (fails_refused inst p a b line refusal needed r f)

-- something is left behind the end
pub fails_past_end : (inst : Tables) (p : RefinedPlace) (a : Left) (fault : CertFault) → HasRefinedEnded p
    → 0 < length a.rest → fault ≡ BadLine (a.count + 1) → RefinedFails inst p a fault
fails_past_end inst p a fault ended some e = subst (λ (x : CertFault). RefinedFails inst p a x) (sym e)
    (fails_here inst p a (BadLine (a.count + 1)) (refl, inr (record { ended = ended; some = some })))

-- a line less is left
pub read_shorter : (a b : Left) (line : RefinedLine) → ReadsRefined a b line → length b.rest < length a.rest
read_shorter a b line r = omega (arith, ap length r.cut, length-append (refined_spelling line) (10 ∷ b.rest))
