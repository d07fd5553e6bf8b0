-- Lines that are read one after another, and the fault of the first that has one.
use Rattle.std.proofs.Common.{◌≡◌, ℕ, ◌+◌, ◌<◌, inl, inr, refl, sym, ◌∙◌, ap, subst, arith, List, [], ◌∷◌, ◌++◌, length}
use Rattle.std.proofs.Common.{append_assoc, length-append}
use Rattle.std.proofs.lemmas.List.Elements.{All-append, All-nil, All-cons}
use Rattle.text_lines.proofs.CutLemmas.{cut_once}
use Rattle.instance_model.specs.Tables.{Tables}
use Rattle.certificate_lines.specs.declared.line.CertificateLine.{CertificateLine}
use Rattle.certificate_lines.specs.Spelling.{spelling, IsLine}
use Rattle.certificate_lines.proofs.LawLemmas.{one_line, no_line_feed}
use Rattle.certificate_text.specs.Text.{text_of_lines, line_text}
use Rattle.certificate_text.specs.Grammar.{Place, Stands, Fits, after, HasEnded}
use Rattle.certificate_text.proofs.LeadLemmas.{leads_append}
use Rattle.certificate_text.specs.declared.read.fault.CertFault.{CertFault}
use Rattle.certificate_text.specs.declared.read.fault.CertFault.TheVariants.{Cut, BadLine, Bounds, Memory}
use Rattle.certificate_text.specs.declared.read.refusal.Refusal.{Refusal}
use Rattle.certificate_text.specs.declared.read.refusal.Refusal.TheVariants.{Misplaced, OutOfRange}
use Rattle.certificate_text.specs.read.Faults.{HasLineFault}
use Rattle.certificate_text.specs.read.Lines.{Left}
use Rattle.certificate_text.specs.read.Reading.{ReadsLine, IsNoLine, Passes, Fails, Refuses, fault_at, IsMore}

pub text-append : (xs ys : List CertificateLine) → text_of_lines (xs ++ ys) ≡ text_of_lines xs ++ text_of_lines ys
text-append [] ys = refl
text-append (x ∷ xs) ys = ap (λ (t : List ℕ). line_text x ++ t) (text-append xs ys)
    ∙ sym (append_assoc (line_text x) (text_of_lines xs) (text_of_lines ys))

pub passes_none : (inst : Tables) (p : Place) (left : Left) → Passes inst p left [] p left
passes_none inst p left = record { forms = All-nil IsLine; cut = refl; next = omega arith; leads = refl }

pub passes_more : (inst : Tables) (p q r : Place) (a b c : Left) (xs ys : List CertificateLine) → Passes inst p a xs q b
    → Passes inst q b ys r c → Passes inst p a (xs ++ ys) r c
passes_more inst p q r a b c xs ys u v = record {
  forms = All-append IsLine xs ys u.forms v.forms;
  cut = u.cut ∙ ap (λ (t : List ℕ). text_of_lines xs ++ t) v.cut
      ∙ sym (append_assoc (text_of_lines xs) (text_of_lines ys) c.rest)
      ∙ ap (λ (t : List ℕ). t ++ c.rest) (sym (text-append xs ys));
  next = omega (arith, u.next, v.next, length-append xs ys);
  leads = leads_append inst p q r xs ys u.leads v.leads;
}

pub passes_line : (inst : Tables) (p : Place) (a b : Left) (line : CertificateLine) → ReadsLine a b line → Stands p line
    → Fits inst p line → Passes inst p a (line ∷ []) (after inst p line) b
passes_line inst p a b line r s f = record {
  forms = All-cons IsLine line [] r.form (All-nil IsLine);
  cut = r.cut ∙ sym (spelled line b.rest);
  next = r.next;
  leads = (s, f, refl);
}
  where
    spelled : (line : CertificateLine) (rest : List ℕ) → text_of_lines (line ∷ []) ++ rest ≡ spelling line ++ 10 ∷ rest
    spelled line rest = append_assoc (line_text line) [] rest ∙ append_assoc (spelling line) (10 ∷ []) rest

-- a fault behind lines that were read is the fault of all
pub fails_behind : (inst : Tables) (p q : Place) (a b : Left) (xs : List CertificateLine) (fault : CertFault)
    → Passes inst p a xs q b → Fails inst q b fault → Fails inst p a fault
fails_behind inst p q a b xs fault u f = record {
  lines = xs ++ f.lines;
  place = f.place;
  rest = f.rest;
  faultless = record {
    cut = u.cut ∙ ap (λ (t : List ℕ). text_of_lines xs ++ t) f.faultless.cut
        ∙ sym (append_assoc (text_of_lines xs) (text_of_lines f.lines) f.rest)
        ∙ ap (λ (t : List ℕ). t ++ f.rest) (sym (text-append xs f.lines));
    forms = All-append IsLine xs f.lines u.forms f.faultless.forms;
    leads = leads_append inst p q f.place xs f.lines u.leads f.faultless.leads;
  };
  here = let e : b.count + length f.lines + 1 ≡ a.count + length (xs ++ f.lines) + 1 =
      omega (arith, u.next, length-append xs f.lines) in
      subst (λ (n : ℕ). HasLineFault inst f.place f.rest n fault) e f.here;
}

-- a fault of the first line
pub fails_here : (inst : Tables) (p : Place) (a : Left) (fault : CertFault)
    → HasLineFault inst p a.rest (a.count + 1) fault → Fails inst p a fault
fails_here inst p a fault f = record {
  lines = [];
  place = p;
  rest = a.rest;
  faultless = record { cut = refl; forms = All-nil IsLine; leads = refl };
  here = let e : a.count + 1 ≡ a.count + 0 + 1 = omega arith in
      subst (λ (n : ℕ). HasLineFault inst p a.rest n fault) e f;
}

-- want of memory
pub fails_memory : (inst : Tables) (p : Place) (a : Left) → Fails inst p a Memory
fails_memory inst p a = fails_here inst p a Memory tt

-- no line was read where one is needed
pub fails_no_line : (inst : Tables) (p : Place) (a : Left) (fault : CertFault) → (HasEnded p → ⊥)
    → IsNoLine a fault → Fails inst p a fault
fails_no_line inst p a Memory needed f = fails_memory inst p a
fails_no_line inst p a (Bounds k) needed f = absurd f
fails_no_line inst p a (Cut k) needed f = fails_here inst p a (Cut k) (f.0, record { needed = needed; unended = f.1 })
fails_no_line inst p a (BadLine k) needed f = fails_here inst p a (BadLine k) (
  f.0,
  inl (record {
    needed = needed;
    text = f.1.text;
    more = f.1.more;
    cut = f.1.cut;
    whole = f.1.whole;
    misplaced = λ line form spelled stands. f.1.none line form spelled;
  }),
)

-- a line that was read is refused
pub fails_refused : (inst : Tables) (p : Place) (a b : Left) (line : CertificateLine) (refusal : Refusal)
    → (HasEnded p → ⊥) → ReadsLine a b line → Refuses inst p line refusal → Fails inst p a (fault_at b.count refusal)
fails_refused inst p a b line Misplaced needed r f = fails_here inst p a (BadLine b.count) (
  r.next,
  inl (record {
    needed = needed;
    text = spelling line;
    more = b.rest;
    cut = r.cut;
    whole = no_line_feed line r.form;
    misplaced = λ other form spelled stands. f
        (subst (λ (l : CertificateLine). Stands p l) (sym (one_line line other r.form form spelled)) stands);
  }),
)
fails_refused inst p a b line OutOfRange needed r f = fails_here inst p a (Bounds b.count) (
  r.next,
  record {
    line = line;
    more = b.rest;
    cut = r.cut;
    form = r.form;
    stands = f.0;
    unfit = f.1;
  },
)

-- something is left behind the end
pub fails_past_end : (inst : Tables) (p : Place) (a : Left) (fault : CertFault) → HasEnded p
    → IsMore a fault → Fails inst p a fault
fails_past_end inst p a fault ended m = subst (λ (e : CertFault). Fails inst p a e) (sym m.1)
    (fails_here inst p a (BadLine (a.count + 1)) (refl, inr (record { ended = ended; some = m.0 })))

-- a line that is read is one
pub read_once : (a b c : Left) (line other : CertificateLine) → ReadsLine a b line → ReadsLine a c other → line ≡ other
read_once a b c line other r s =
    one_line line other r.form s.form (cut_once 10 (spelling line) b.rest (spelling other) c.rest
    (no_line_feed line r.form) (no_line_feed other s.form) (sym r.cut ∙ s.cut)).0

-- the same, of what tells the fault
pub fails_told : (inst : Tables) (p : Place) (a b : Left) (line : CertificateLine) (refusal : Refusal)
    (fault : CertFault) → fault ≡ fault_at b.count refusal → (HasEnded p → ⊥) → ReadsLine a b line
    → Refuses inst p line refusal → Fails inst p a fault
fails_told inst p a b line refusal fault e needed r f =
    subst (λ (x : CertFault). Fails inst p a x) (sym e) (fails_refused inst p a b line refusal needed r f)

-- a line less is left
pub read_shorter : (a b : Left) (line : CertificateLine) → ReadsLine a b line → length b.rest < length a.rest
read_shorter a b line r = omega (arith, ap length r.cut, length-append (spelling line) (10 ∷ b.rest))
