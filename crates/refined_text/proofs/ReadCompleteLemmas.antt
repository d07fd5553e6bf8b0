-- A text of a certificate has no fault.
use Rattle.std.proofs.Common.{◌≡◌, ◌⊎◌, inl, inr, ℕ, refl, sym, ◌∙◌, ap, subst, arith, List, [], ◌∷◌, ◌++◌, length}
use Rattle.std.proofs.Common.{append_assoc}
use Rattle.std.specs.List.{All}
use Rattle.std.proofs.lemmas.List.Elements.{All-head, All-tail}
use Rattle.text_lines.proofs.CutLemmas.{cut_once, not_cut}
use Rattle.instance_model.specs.Tables.{Tables}
use Rattle.instance_model.specs.Fitting.{IsFitting}
use Rattle.certificate_text.specs.Grammar.{Place, nodes, HasEnded}
use Rattle.certificate_text.specs.declared.read.fault.CertFault.{CertFault}
use Rattle.certificate_text.specs.declared.read.fault.CertFault.TheVariants.{Cut, BadLine, Bounds, Memory}
use Rattle.certificate_text.proofs.ReadCompleteLemmas.{ended}
use Rattle.refined_check.specs.declared.certificate.certificate.RefinedCertificate.{RefinedCertificate}
use Rattle.refined_check.specs.certificate.Ranges.{IsRefinedInRange}
use Rattle.refined_text.specs.declared.lines.line.RefinedLine.{RefinedLine}
use Rattle.refined_text.specs.declared.lines.line.RefinedLine.TheVariants.{Title, Plain, Cap, Group, Offset, Clique}
use Rattle.refined_text.specs.lines.Spelling.{refined_spelling, IsRefinedLine}
use Rattle.refined_text.proofs.LinesLawLemmas.{one_refined, no_feed}
use Rattle.refined_text.specs.text.Text.{text_of_refined, refined_certificate_lines, refined_text}
use Rattle.refined_text.specs.grammar.Further.{no_further}
use Rattle.refined_text.specs.grammar.Grammar.{RefinedPlace, start, within, HasRefinedEnded, RefinedStands, RefinedFits}
use Rattle.refined_text.specs.grammar.Grammar.{refined_after, RefinedLeads, HasBegun}
use Rattle.refined_text.proofs.GrammarLeadLemmas.{refined_texts_lead}
use Rattle.refined_text.proofs.GrammarFormLemmas.{refined_lines_have_forms}
use Rattle.refined_text.proofs.GrammarTellLemmas.{refined_begins}
use Rattle.refined_text.specs.read.Faults.{IsRefinedBadLine, IsRefinedPastEnd, HasRefinedLineFault, HasRefinedFault}

-- behind the end no price list has begun
not_begun : (place : Place) → HasEnded place → HasBegun place → ⊥
not_begun (nodes m []) h b = b
not_begun _ h b = h

-- nothing stands at the end
pub none_stands : (place : RefinedPlace) (read : RefinedLine) → HasRefinedEnded place → RefinedStands place read → ⊥
none_stands start read h s = h
none_stands (within place f) Title h s = s
none_stands (within place f) (Plain a) h s = ended place a h s.1
none_stands (within place f) Cap h s = not_begun place h s.0
none_stands (within place f) (Group t ms) h s = not_begun place h s.0
none_stands (within place f) (Offset t i g v) h s = not_begun place h s.0
none_stands (within place f) (Clique t v ms) h s = not_begun place h s.0

begins_all : (a : RefinedLine) (bs : List RefinedLine)
    → text_of_refined (a ∷ bs) ≡ refined_spelling a ++ 10 ∷ text_of_refined bs
begins_all a bs = append_assoc (refined_spelling a) (10 ∷ []) (text_of_refined bs)

-- at the end with nothing left
none_left : (inst : Tables) (place : RefinedPlace) (rest : List ℕ) (n : ℕ) (fault : CertFault) → HasRefinedEnded place
    → rest ≡ [] → HasRefinedLineFault inst place rest n fault → fault ≡ Memory
none_left inst place rest n Memory end e f = refl
none_left inst place rest n (Cut k) end e f = absurd (f.1.needed end)
none_left inst place rest n (BadLine k) end e f = absurd (at f.1)
  where
    at : IsRefinedBadLine place rest ⊎ IsRefinedPastEnd place rest → ⊥
    at (inl bad) = bad.needed end
    at (inr past) = omega (arith, past.some, ap (λ (xs : List ℕ). length xs) e)
none_left inst place rest n (Bounds k) end e f = absurd (none_stands place f.1.line end f.1.stands)

-- where a line that fits is next
pub line_next : (inst : Tables) (place : RefinedPlace) (rest more : List ℕ) (a : RefinedLine) (n : ℕ)
    (fault : CertFault) → IsRefinedLine a → RefinedStands place a → RefinedFits inst place a
    → rest ≡ refined_spelling a ++ 10 ∷ more → HasRefinedLineFault inst place rest n fault → fault ≡ Memory
line_next inst place rest more a n Memory form s fit e f = refl
line_next inst place rest more a n (Cut k) form s fit e f =
    absurd (not_cut 10 rest (refined_spelling a) more e f.1.unended)
line_next inst place rest more a n (BadLine k) form s fit e f = absurd (at f.1)
  where
    at : IsRefinedBadLine place rest ⊎ IsRefinedPastEnd place rest → ⊥
    at (inl bad) = bad.misplaced a form
        (cut_once 10 bad.text bad.more (refined_spelling a) more bad.whole (no_feed a form) (sym bad.cut ∙ e)).0 s
    at (inr past) = none_stands place a past.ended s
line_next inst place rest more a n (Bounds k) form s fit e f =
    let o = f.1 in
    let same = one_refined a o.line form o.form (cut_once 10 (refined_spelling a) more (refined_spelling o.line) o.more
    (no_feed a form) (no_feed o.line o.form) (sym e ∙ o.cut)).0 in
    absurd (o.unfit (subst (λ (x : RefinedLine). RefinedFits inst place x) same fit))

-- lines that lead to the end have no fault
faultless : (inst : Tables) (first end : RefinedPlace) (all lines : List RefinedLine) (place : RefinedPlace)
    (rest : List ℕ) (n : ℕ) (fault : CertFault) → RefinedLeads inst first all end → HasRefinedEnded end
    → All IsRefinedLine all → All IsRefinedLine lines → RefinedLeads inst first lines place
    → text_of_refined all ≡ text_of_refined lines ++ rest → HasRefinedLineFault inst place rest n fault
    → fault ≡ Memory
faultless inst first end [] [] place rest n fault leads h forms others to e f =
    none_left inst place rest n fault (subst HasRefinedEnded (sym leads ∙ to) h) (sym e) f
faultless inst first end (a ∷ bs) [] place rest n fault leads h forms others to e f =
    line_next inst place rest (text_of_refined bs) a n fault (All-head IsRefinedLine a bs forms)
    (subst (λ (p : RefinedPlace). RefinedStands p a) to leads.0)
    (subst (λ (p : RefinedPlace). RefinedFits inst p a) to leads.1) (sym e ∙ begins_all a bs) f
faultless inst first end [] (l ∷ ls) place rest n fault leads h forms others to e f =
    absurd (none_stands first l (subst HasRefinedEnded (sym leads) h) to.0)
faultless inst first end (a ∷ bs) (l ∷ ls) place rest n fault leads h forms others to e f =
    let form = All-head IsRefinedLine a bs forms in
    let other = All-head IsRefinedLine l ls others in
    let cut = cut_once 10 (refined_spelling a) (text_of_refined bs) (refined_spelling l) (text_of_refined ls ++ rest)
    (no_feed a form) (no_feed l other) (sym (begins_all a bs) ∙ e ∙ refined_begins l ls rest) in
    let same : a ≡ l = one_refined a l form other cut.0 in
    faultless inst (refined_after inst first a) end bs ls place rest n fault leads.2 h
    (All-tail IsRefinedLine a bs forms) (All-tail IsRefinedLine l ls others)
    (subst (λ (x : RefinedLine). RefinedLeads inst (refined_after inst first x) ls place) (sym same) to.2) cut.1 f

pub no_fault : (inst : Tables) (cert : RefinedCertificate) (bytes : List ℕ) (fault : CertFault) → IsFitting inst
    → IsRefinedInRange inst cert → bytes ≡ refined_text inst cert → HasRefinedFault inst bytes fault → fault ≡ Memory
no_fault inst cert bytes fault fit range e f =
    faultless inst start (within (nodes (length cert.lists) []) (no_further inst)) (refined_certificate_lines inst cert)
    f.lines f.place f.rest _ fault (refined_texts_lead inst cert fit range) tt (refined_lines_have_forms inst cert fit
    range) f.faultless.forms f.faultless.leads (sym e ∙ f.faultless.cut) f.here
