-- A text has one answer: it is that of one certificate, or has one fault.
use Rattle.std.proofs.Common.{◌≡◌, ◌≢◌, ◌⊎◌, inl, inr, ℕ, suc, ◌+◌, refl, sym, ◌∙◌, ap, subst, arith, List, [], ◌∷◌}
use Rattle.std.proofs.Common.{◌++◌, length, Result, Ok, Err}
use Rattle.std.specs.Result.{IfOk, IfErr}
use Rattle.std.specs.List.{All}
use Rattle.std.proofs.lemmas.List.Elements.{All-head, All-tail}
use Rattle.text_lines.proofs.CutLemmas.{cut_once, not_cut}
use Rattle.instance_model.specs.Tables.{Tables}
use Rattle.instance_model.specs.Fitting.{IsFitting}
use Rattle.certificate_text.specs.declared.read.fault.CertFault.{CertFault}
use Rattle.certificate_text.specs.declared.read.fault.CertFault.TheVariants.{Cut, BadLine, Bounds, Memory}
use Rattle.refined_check.specs.declared.certificate.certificate.RefinedCertificate.{RefinedCertificate}
use Rattle.refined_text.specs.declared.lines.line.RefinedLine.{RefinedLine}
use Rattle.refined_text.specs.lines.Spelling.{refined_spelling, IsRefinedLine}
use Rattle.refined_text.proofs.LinesLawLemmas.{one_refined, no_feed}
use Rattle.refined_text.specs.text.Text.{text_of_refined}
use Rattle.refined_text.specs.grammar.Grammar.{RefinedPlace, start, RefinedStands, RefinedFits, refined_after}
use Rattle.refined_text.specs.grammar.Grammar.{RefinedLeads}
use Rattle.refined_text.specs.grammar.Laws.{RefinedTextsTell}
use Rattle.refined_text.proofs.GrammarTellLemmas.{refined_begins}
use Rattle.refined_text.specs.read.Faults.{IsRefinedCut, IsRefinedBadLine, IsRefinedPastEnd, IsRefinedOutOfBounds}
use Rattle.refined_text.specs.read.Faults.{HasRefinedLineFault, HasRefinedFault, HasRefinedCertFault, IsRefinedTextOf}
use Rattle.refined_text.proofs.ReadCompleteLemmas.{none_stands, line_next, no_fault}

-- ---- one place, one fault

cut_or_bad : (place : RefinedPlace) (rest : List ℕ) → IsRefinedCut place rest
    → IsRefinedBadLine place rest ⊎ IsRefinedPastEnd place rest → ⊥
cut_or_bad place rest c (inl bad) = not_cut 10 rest bad.text bad.more bad.cut c.unended
cut_or_bad place rest c (inr past) = c.needed past.ended

cut_or_out : (inst : Tables) (place : RefinedPlace) (rest : List ℕ) → IsRefinedCut place rest
    → IsRefinedOutOfBounds inst place rest → ⊥
cut_or_out inst place rest c o = not_cut 10 rest (refined_spelling o.line) o.more o.cut c.unended

bad_or_out : (inst : Tables) (place : RefinedPlace) (rest : List ℕ)
    → IsRefinedBadLine place rest ⊎ IsRefinedPastEnd place rest → IsRefinedOutOfBounds inst place rest → ⊥
bad_or_out inst place rest (inl bad) o =
    bad.misplaced o.line o.form (cut_once 10 bad.text bad.more (refined_spelling o.line) o.more bad.whole
    (no_feed o.line o.form) (sym bad.cut ∙ o.cut)).0 o.stands
bad_or_out inst place rest (inr past) o = none_stands place o.line past.ended o.stands

-- two faults of a text are one, or one is no fault but want of memory
abbrev AreOne : CertFault → CertFault → Type 0
AreOne f g = (f ≡ Memory) ⊎ ((g ≡ Memory) ⊎ (f ≡ g))

one_here : (inst : Tables) (place : RefinedPlace) (rest : List ℕ) (n : ℕ) (f g : CertFault)
    → HasRefinedLineFault inst place rest n f → HasRefinedLineFault inst place rest n g → AreOne f g
one_here inst place rest n Memory g a b = inl refl
one_here inst place rest n (Cut k) Memory a b = inr (inl refl)
one_here inst place rest n (BadLine k) Memory a b = inr (inl refl)
one_here inst place rest n (Bounds k) Memory a b = inr (inl refl)
one_here inst place rest n (Cut k) (Cut j) a b = inr (inr (ap (λ (m : ℕ). Cut m) (a.0 ∙ sym b.0)))
one_here inst place rest n (BadLine k) (BadLine j) a b = inr (inr (ap (λ (m : ℕ). BadLine m) (a.0 ∙ sym b.0)))
one_here inst place rest n (Bounds k) (Bounds j) a b = inr (inr (ap (λ (m : ℕ). Bounds m) (a.0 ∙ sym b.0)))
one_here inst place rest n (Cut k) (BadLine j) a b = absurd (cut_or_bad place rest a.1 b.1)
one_here inst place rest n (BadLine k) (Cut j) a b = absurd (cut_or_bad place rest b.1 a.1)
one_here inst place rest n (Cut k) (Bounds j) a b = absurd (cut_or_out inst place rest a.1 b.1)
one_here inst place rest n (Bounds k) (Cut j) a b = absurd (cut_or_out inst place rest b.1 a.1)
one_here inst place rest n (BadLine k) (Bounds j) a b = absurd (bad_or_out inst place rest a.1 b.1)
one_here inst place rest n (Bounds k) (BadLine j) a b = absurd (bad_or_out inst place rest b.1 a.1)

-- ---- one text, one fault

one_fault : (inst : Tables) (first : RefinedPlace) (before : ℕ) (ls ms : List RefinedLine) (p q : RefinedPlace)
    (rest more : List ℕ) (f g : CertFault) → All IsRefinedLine ls → All IsRefinedLine ms
    → RefinedLeads inst first ls p → RefinedLeads inst first ms q
    → text_of_refined ls ++ rest ≡ text_of_refined ms ++ more
    → HasRefinedLineFault inst p rest (before + length ls + 1) f
    → HasRefinedLineFault inst q more (before + length ms + 1) g → AreOne f g
one_fault inst first before [] [] p q rest more f g forms others to on e a b =
    one_here inst p rest (before + 0 + 1) f g a
    (subst (λ (x : RefinedPlace). HasRefinedLineFault inst x rest (before + 0 + 1) g)
    (sym on ∙ to) (subst (λ (x : List ℕ). HasRefinedLineFault inst q x (before + 0 + 1) g) (sym e) b))
one_fault inst first before (l ∷ ls) [] p q rest more f g forms others to on e a b =
    inr (inl (line_next inst q more (text_of_refined ls ++ rest) l _ g (All-head IsRefinedLine l ls forms)
    (subst (λ (x : RefinedPlace). RefinedStands x l) on to.0)
    (subst (λ (x : RefinedPlace). RefinedFits inst x l) on to.1)
    (sym e ∙ refined_begins l ls rest) b))
one_fault inst first before [] (m ∷ ms) p q rest more f g forms others to on e a b =
    inl (line_next inst p rest (text_of_refined ms ++ more) m _ f (All-head IsRefinedLine m ms others)
    (subst (λ (x : RefinedPlace). RefinedStands x m) to on.0)
    (subst (λ (x : RefinedPlace). RefinedFits inst x m) to on.1)
    (e ∙ refined_begins m ms more) a)
one_fault inst first before (l ∷ ls) (m ∷ ms) p q rest more f g forms others to on e a b =
    let form = All-head IsRefinedLine l ls forms in
    let other = All-head IsRefinedLine m ms others in
    let cut = cut_once 10 (refined_spelling l) (text_of_refined ls ++ rest) (refined_spelling m)
    (text_of_refined ms ++ more)
    (no_feed l form) (no_feed m other) (sym (refined_begins l ls rest) ∙ e ∙ refined_begins m ms more) in
    let same : l ≡ m = one_refined l m form other cut.0 in
    let next : (n : ℕ) → before + suc n + 1 ≡ suc before + n + 1 = λ n. omega arith in
    one_fault inst (refined_after inst first l) (suc before) ls ms p q rest more f g (All-tail IsRefinedLine l ls forms)
    (All-tail IsRefinedLine m ms others) to.2
    (subst (λ (x : RefinedLine). RefinedLeads inst (refined_after inst first x) ms q) (sym same) on.2) cut.1
    (subst (λ (n : ℕ). HasRefinedLineFault inst p rest n f) (next (length ls)) a)
    (subst (λ (n : ℕ). HasRefinedLineFault inst q more n g) (next (length ms)) b)

-- a fault of a text, and no want of memory
fault_of : (inst : Tables) (text : List ℕ) (fault : CertFault) → HasRefinedCertFault inst text fault
    → HasRefinedFault inst text fault × (fault ≢ Memory)
fault_of inst text (Cut n) f = (f, λ e. absurd (cc e))
fault_of inst text (BadLine n) f = (f, λ e. absurd (cc e))
fault_of inst text (Bounds n) f = (f, λ e. absurd (cc e))
fault_of inst text Memory f = absurd f

-- ---- answers

-- what is spelled is read
pub all_read : RefinedTextsTell → (inst : Tables) → IsFitting inst → (bytes : List ℕ)
    (answer : Result RefinedCertificate CertFault) → IfOk answer (IsRefinedTextOf inst bytes)
    → IfErr answer (HasRefinedFault inst bytes) → (cert : RefinedCertificate) → IsRefinedTextOf inst bytes cert
    → (answer ≡ Ok cert) ⊎ (answer ≡ Err Memory)
all_read tell inst fit bytes (Ok read) found fault cert spelled = inl
    (ap (λ (x : RefinedCertificate). Ok x)
    (tell inst read cert fit found.in_range spelled.in_range (sym found.text ∙ spelled.text)))
all_read tell inst fit bytes (Err f) found fault cert spelled =
    inr (ap (λ (x : CertFault). Err x) (no_fault inst cert bytes f fit spelled.in_range spelled.text fault))

-- what is told is the fault
pub fault_told : (inst : Tables) (bytes : List ℕ) (answer : Result RefinedCertificate CertFault)
    → IfErr answer (HasRefinedFault inst bytes) → (fault : CertFault) → answer ≡ Err fault → fault ≢ Memory
    → HasRefinedCertFault inst bytes fault
fault_told inst bytes answer told Memory e some = absurd (some refl)
fault_told inst bytes answer told (Cut n) e some =
    subst (λ (a : Result RefinedCertificate CertFault). IfErr a (HasRefinedFault inst bytes)) e told
fault_told inst bytes answer told (BadLine n) e some =
    subst (λ (a : Result RefinedCertificate CertFault). IfErr a (HasRefinedFault inst bytes)) e told
fault_told inst bytes answer told (Bounds n) e some =
    subst (λ (a : Result RefinedCertificate CertFault). IfErr a (HasRefinedFault inst bytes)) e told

-- one of two faults is told, or want of memory
told_or_memory : (g fault : CertFault) (answer : Result RefinedCertificate CertFault) → answer ≡ Err g → fault ≢ Memory
    → AreOne g fault → (answer ≡ Err fault) ⊎ (answer ≡ Err Memory)
told_or_memory g fault answer is some (inl e) = inr (is ∙ ap (λ (x : CertFault). Err x) e)
told_or_memory g fault answer is some (inr (inl e)) = absurd (some e)
told_or_memory g fault answer is some (inr (inr e)) = inl (is ∙ ap (λ (x : CertFault). Err x) e)

-- a fault is told
pub all_told : (inst : Tables) → IsFitting inst → (bytes : List ℕ) (answer : Result RefinedCertificate CertFault)
    → IfOk answer (IsRefinedTextOf inst bytes) → IfErr answer (HasRefinedFault inst bytes) → (fault : CertFault)
    → HasRefinedCertFault inst bytes fault → (answer ≡ Err fault) ⊎ (answer ≡ Err Memory)
all_told inst fit bytes (Ok cert) found told fault has =
    let f = fault_of inst bytes fault has in
    absurd (f.1 (no_fault inst cert bytes fault fit found.in_range found.text f.0))
all_told inst fit bytes (Err g) found told fault has =
    let f = fault_of inst bytes fault has in
    told_or_memory g fault (Err g) refl f.1
    (one_fault inst start 0 told.lines f.0.lines told.place f.0.place told.rest f.0.rest g fault
    told.faultless.forms f.0.faultless.forms told.faultless.leads f.0.faultless.leads
    (sym told.faultless.cut ∙ f.0.faultless.cut) told.here f.0.here)
