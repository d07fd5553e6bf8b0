-- A text of a certificate has no fault.
use Rattle.std.proofs.Common.{◌≡◌, ◌⊎◌, inl, inr, ℕ, refl, sym, ◌∙◌, ap, subst, arith, List, [], ◌∷◌, ◌++◌, length}
use Rattle.std.proofs.Common.{append_assoc, length-append}
use Rattle.std.specs.List.{All}
use Rattle.std.proofs.lemmas.List.Elements.{All-head, All-tail}
use Rattle.text_lines.proofs.CutLemmas.{cut_once, not_cut}
use Rattle.instance_model.specs.Tables.{Tables}
use Rattle.instance_model.specs.Fitting.{IsFitting}
use Rattle.certificate_lines.specs.declared.line.CertificateLine.{CertificateLine}
use Rattle.certificate_lines.specs.declared.line.CertificateLine.TheVariants as line
use Rattle.certificate_lines.specs.Spelling.{spelling, IsLine}
use Rattle.certificate_lines.proofs.LawLemmas.{one_line, no_line_feed}
use Rattle.certificate_tree.specs.declared.certificate.Certificate.{Certificate}
use Rattle.certificate_tree.specs.Ranges.{IsInRange}
use Rattle.certificate_text.specs.Text.{text_of_lines, line_text, certificate_lines, certificate_text}
use Rattle.certificate_text.specs.Grammar.{Place, title, bound, count, lists, nodes, Stands, Fits, after, Leads}
use Rattle.certificate_text.specs.Grammar.{HasEnded}
use Rattle.certificate_text.proofs.LeadLemmas.{texts_lead}
use Rattle.certificate_text.proofs.FormLemmas.{lines_have_forms}
use Rattle.certificate_text.specs.declared.read.fault.CertFault.{CertFault}
use Rattle.certificate_text.specs.declared.read.fault.CertFault.TheVariants.{Cut, BadLine, Bounds, Memory}
use Rattle.certificate_text.specs.read.Faults.{IsBadLine, IsPastEnd, HasLineFault, HasFault}

-- nothing stands at the end
pub ended : (place : Place) (read : CertificateLine) → HasEnded place → Stands place read → ⊥
ended title read h s = h
ended (bound v) read h s = h
ended (count v) read h s = h
ended (lists v n l k) read h s = h
ended (nodes m (b ∷ bs)) read h s = h
ended (nodes n []) (line.Title version) h s = s
ended (nodes n []) (line.Bound least) h s = s
ended (nodes n []) (line.Lists m) h s = s
ended (nodes n []) line.Prices h s = s
ended (nodes n []) (line.Up c t w) h s = s
ended (nodes n []) (line.Lo c t w) h s = s
ended (nodes n []) (line.Tail t weight places) h s = s
ended (nodes n []) (line.Ex e t w) h s = s
ended (nodes n []) line.Tree h s = s
ended (nodes n []) (line.Split i m) h s = s
ended (nodes n []) (line.Cost j) h s = s
ended (nodes n []) line.Point h s = s
ended (nodes n []) (line.Band c t side) h s = s
ended (nodes n []) (line.Excl e) h s = s
ended (nodes n []) (line.Empty i) h s = s

pub begins : (a : CertificateLine) (bs : List CertificateLine) (rest : List ℕ)
    → text_of_lines (a ∷ bs) ++ rest ≡ spelling a ++ 10 ∷ (text_of_lines bs ++ rest)
begins a bs rest =
    append_assoc (line_text a) (text_of_lines bs) rest ∙ append_assoc (spelling a) (10 ∷ []) (text_of_lines bs ++ rest)

begins_all : (a : CertificateLine) (bs : List CertificateLine)
    → text_of_lines (a ∷ bs) ≡ spelling a ++ 10 ∷ text_of_lines bs
begins_all a bs = append_assoc (spelling a) (10 ∷ []) (text_of_lines bs)

not_empty : (a b : List ℕ) → [] ≡ a ++ 10 ∷ b → ⊥
not_empty a b e = omega (arith, ap (λ (xs : List ℕ). length xs) e, length-append a (10 ∷ b))

-- at the end with nothing left
none_left : (inst : Tables) (place : Place) (rest : List ℕ) (n : ℕ) (fault : CertFault) → HasEnded place → rest ≡ []
    → HasLineFault inst place rest n fault → fault ≡ Memory
none_left inst place rest n Memory end e f = refl
none_left inst place rest n (Cut k) end e f = absurd (f.1.needed end)
none_left inst place rest n (BadLine k) end e f = absurd (at f.1)
  where
    at : IsBadLine place rest ⊎ IsPastEnd place rest → ⊥
    at (inl bad) = bad.needed end
    at (inr past) = omega (arith, past.some, ap (λ (xs : List ℕ). length xs) e)
none_left inst place rest n (Bounds k) end e f = absurd (ended place f.1.line end f.1.stands)

-- where a line that fits is next
pub line_next : (inst : Tables) (place : Place) (rest more : List ℕ) (a : CertificateLine) (n : ℕ) (fault : CertFault)
    → IsLine a → Stands place a → Fits inst place a → rest ≡ spelling a ++ 10 ∷ more
    → HasLineFault inst place rest n fault → fault ≡ Memory
line_next inst place rest more a n Memory form s fit e f = refl
line_next inst place rest more a n (Cut k) form s fit e f = absurd (not_cut 10 rest (spelling a) more e f.1.unended)
line_next inst place rest more a n (BadLine k) form s fit e f = absurd (at f.1)
  where
    at : IsBadLine place rest ⊎ IsPastEnd place rest → ⊥
    at (inl bad) = bad.misplaced a form
        (cut_once 10 bad.text bad.more (spelling a) more bad.whole (no_line_feed a form) (sym bad.cut ∙ e)).0 s
    at (inr past) = ended place a past.ended s
line_next inst place rest more a n (Bounds k) form s fit e f =
    let o = f.1 in
    let same = one_line a o.line form o.form (cut_once 10 (spelling a) more (spelling o.line) o.more
    (no_line_feed a form) (no_line_feed o.line o.form) (sym e ∙ o.cut)).0 in
    absurd (o.unfit (subst (λ (x : CertificateLine). Fits inst place x) same fit))

-- lines that lead to the end have no fault
faultless : (inst : Tables) (start end : Place) (all lines : List CertificateLine) (place : Place) (rest : List ℕ)
    (n : ℕ) (fault : CertFault) → Leads inst start all end → HasEnded end → All IsLine all → All IsLine lines
    → Leads inst start lines place → text_of_lines all ≡ text_of_lines lines ++ rest
    → HasLineFault inst place rest n fault → fault ≡ Memory
faultless inst start end [] [] place rest n fault leads h forms others to e f =
    none_left inst place rest n fault (subst HasEnded (sym leads ∙ to) h) (sym e) f
faultless inst start end (a ∷ bs) [] place rest n fault leads h forms others to e f =
    line_next inst place rest (text_of_lines bs) a n fault (All-head IsLine a bs forms)
    (subst (λ (p : Place). Stands p a) to leads.0) (subst (λ (p : Place). Fits inst p a) to leads.1)
    (sym e ∙ begins_all a bs) f
faultless inst start end [] (l ∷ ls) place rest n fault leads h forms others to e f =
    absurd (ended start l (subst HasEnded (sym leads) h) to.0)
faultless inst start end (a ∷ bs) (l ∷ ls) place rest n fault leads h forms others to e f =
    let form = All-head IsLine a bs forms in
    let other = All-head IsLine l ls others in
    let cut = cut_once 10 (spelling a) (text_of_lines bs) (spelling l) (text_of_lines ls ++ rest) (no_line_feed a form)
    (no_line_feed l other) (sym (begins_all a bs) ∙ e ∙ begins l ls rest) in
    let same : a ≡ l = one_line a l form other cut.0 in
    faultless inst (after inst start a) end bs ls place rest n fault leads.2 h (All-tail IsLine a bs forms)
    (All-tail IsLine l ls others)
    (subst (λ (x : CertificateLine). Leads inst (after inst start x) ls place) (sym same) to.2) cut.1 f

pub no_fault : (inst : Tables) (cert : Certificate) (bytes : List ℕ) (fault : CertFault) → IsFitting inst
    → IsInRange inst cert → bytes ≡ certificate_text inst cert → HasFault inst bytes fault → fault ≡ Memory
no_fault inst cert bytes fault fit range e f =
    faultless inst title (nodes (length cert.lists) []) (certificate_lines inst cert) f.lines f.place f.rest _ fault
    (texts_lead inst cert range) tt (lines_have_forms inst cert fit range) f.faultless.forms f.faultless.leads
    (sym e ∙ f.faultless.cut) f.here
