-- A text is that of a certificate, or has a fault.
use Rattle.std.proofs.Common.{◌≡◌, ◌≢◌, ◌⊎◌, inl, inr, ℕ, zero, suc, ◌+◌, ◌<◌, ◌≤◌, refl, sym, ◌∙◌, ap, arith, Bool}
use Rattle.std.proofs.Common.{true, false, eqb, List, [], ◌∷◌, ◌++◌, length, append_assoc, length-append}
use Rattle.std.specs.List.{All}
use Rattle.std.proofs.lemmas.Bool.Decides.{nat_tests}
use Rattle.std.proofs.lemmas.List.{append-nil}
use Rattle.std.proofs.lemmas.List.Elements.{All-append, All-nil, All-cons}
use Rattle.instance_model.specs.Tables.{Tables}
use Rattle.certificate_lines.specs.declared.line.CertificateLine.{CertificateLine}
use Rattle.certificate_lines.specs.Spelling.{spelling, IsLine}
use Rattle.certificate_tree.specs.declared.certificate.Certificate.{Certificate}
use Rattle.certificate_text.specs.Text.{text_of_lines}
use Rattle.certificate_text.specs.Grammar.{Place, title, bound, count, lists, nodes, Stands, Fits, after, HasEnded}
use Rattle.certificate_text.specs.Laws.{LeadToCertificates}
use Rattle.certificate_text.proofs.LeadLemmas.{leads_append}
use Rattle.certificate_text.specs.declared.read.fault.CertFault.{CertFault}
use Rattle.certificate_text.specs.declared.read.fault.CertFault.TheVariants.{Cut, BadLine, Bounds}
use Rattle.certificate_text.specs.read.Faults.{BeginsWith, HasLineFault, HasFault, HasCertFault, IsTextOf}
use Rattle.certificate_text.specs.read.Laws.{TextsAreTold}
use Rattle.certificate_text.proofs.ReadStepLemmas.{text-append}
use Rattle.certificate_text.proofs.ReadCompleteLemmas.{begins}

-- a byte that ends no line
abbrev IsInside : ℕ → Type 0
IsInside b = b ≢ 10

-- a text up to its first line feed, and what is behind it
record HasFirstLine (rest : List ℕ) : Type 0 where
  text : List ℕ
  more : List ℕ
  cut : rest ≡ text ++ 10 ∷ more
  whole : All IsInside text

first_line : (rest : List ℕ) → All IsInside rest ⊎ HasFirstLine rest
first_line [] = inl (All-nil IsInside)
first_line (b ∷ rest) = at (eqb b 10) refl (first_line rest)
  where
    at : (v : Bool) → eqb b 10 ≡ v → All IsInside rest ⊎ HasFirstLine rest → All IsInside (b ∷ rest)
        ⊎ HasFirstLine (b ∷ rest)
    at true e r = let feed : b ≡ 10 = grind (arith, nat_tests) in
        inr (record { text = []; more = rest; cut = ap (λ (x : ℕ). x ∷ rest) feed; whole = All-nil IsInside })
    at false e (inl h) = let inside : b ≢ 10 = grind (arith, nat_tests) in inl (All-cons IsInside b rest inside h)
    at false e (inr f) =
        let inside : b ≢ 10 = grind (arith, nat_tests) in
        inr (record {
          text = b ∷ f.text;
          more = f.more;
          cut = ap (λ (xs : List ℕ). b ∷ xs) f.cut;
          whole = All-cons IsInside b f.text inside f.whole;
        })

ended_or_not : (place : Place) → HasEnded place ⊎ (HasEnded place → ⊥)
ended_or_not title = inr (λ h. h)
ended_or_not (bound v) = inr (λ h. h)
ended_or_not (count v) = inr (λ h. h)
ended_or_not (lists v n l k) = inr (λ h. h)
ended_or_not (nodes n []) = inl tt
ended_or_not (nodes n (b ∷ bs)) = inr (λ h. h)

module _ (law : LeadToCertificates) (inst : Tables) (bytes : List ℕ)
    (no_cert : (cert : Certificate) → IsTextOf inst bytes cert → ⊥)
    (no_fault : (fault : CertFault) → HasCertFault inst bytes fault → ⊥) where
  -- the text begins with lines that lead to the place
  abbrev Reaches : List CertificateLine → Place → List ℕ → Type 0
  Reaches lines place rest = BeginsWith inst title bytes lines place rest

  fails : (lines : List CertificateLine) (place : Place) (rest : List ℕ) (fault : CertFault) → Reaches lines place rest
      → HasLineFault inst place rest (0 + length lines + 1) fault → HasFault inst bytes fault
  fails lines place rest fault b h = record { lines = lines; place = place; rest = rest; faultless = b; here = h }

  -- the lines are all, and lead to the end
  whole : (lines : List CertificateLine) (place : Place) → HasEnded place → Reaches lines place [] → ⊥
  whole lines title h b = h
  whole lines (bound v) h b = h
  whole lines (count v) h b = h
  whole lines (lists v n l k) h b = h
  whole lines (nodes n (x ∷ xs)) h b = h
  whole lines (nodes n []) h b =
      let led = law inst lines n b.leads in
      no_cert led.0
      (record { in_range = led.1; text = b.cut ∙ append-nil (text_of_lines lines) ∙ ap text_of_lines (sym led.2) })

  -- nothing is needed any more
  over : (lines : List CertificateLine) (place : Place) (rest : List ℕ) → HasEnded place → Reaches lines place rest → ⊥
  over lines place [] h b = whole lines place h b
  over lines place (x ∷ rest) h b = no_fault (BadLine (0 + length lines + 1))
      (fails lines place (x ∷ rest) (BadLine (0 + length lines + 1)) b
      (refl, inr (record { ended = h; some = omega arith })))

  -- behind one more line
  further : (lines : List CertificateLine) (place : Place) (rest more : List ℕ) (a : CertificateLine)
      → rest ≡ spelling a ++ 10 ∷ more → IsLine a → Stands place a → Fits inst place a → Reaches lines place rest
      → Reaches (lines ++ a ∷ []) (after inst place a) more
  further lines place rest more a e form stands fit b = record {
    cut = b.cut
        ∙ ap (λ (t : List ℕ). text_of_lines lines ++ t) (e ∙ sym (begins a [] more))
        ∙ sym (append_assoc (text_of_lines lines) (text_of_lines (a ∷ [])) more)
        ∙ ap (λ (t : List ℕ). t ++ more) (sym (text-append lines (a ∷ [])));
    forms = All-append IsLine lines (a ∷ []) b.forms (All-cons IsLine a [] form (All-nil IsLine));
    leads = leads_append inst title place (after inst place a) lines (a ∷ []) b.leads (stands, fit, refl);
  }

  -- what is told behind one more line is told here
  step : (lines : List CertificateLine) (place : Place) (rest : List ℕ)
      → ((more_lines : List CertificateLine) (next : Place) (more : List ℕ) → length more < length rest
      → Reaches more_lines next more → ⊥) → Reaches lines place rest → ⊥
  step lines place rest go b = at (ended_or_not place)
    where
      n : ℕ
      n = 0 + length lines + 1

      at : HasEnded place ⊎ (HasEnded place → ⊥) → ⊥
      at (inl h) = over lines place rest h b
      at (inr needed) = from (first_line rest)
        where
          from : All IsInside rest ⊎ HasFirstLine rest → ⊥
          from (inl h) =
              no_fault (Cut n) (fails lines place rest (Cut n) b (refl, record { needed = needed; unended = h }))
          from (inr f) = no_fault (BadLine n)
              (fails lines place rest (BadLine n) b (
                refl,
                inl (record {
                  needed = needed;
                  text = f.text;
                  more = f.more;
                  cut = f.cut;
                  whole = f.whole;
                  misplaced = read;
                }),
              ))
            where
              read : (a : CertificateLine) → IsLine a → f.text ≡ spelling a → Stands place a → ⊥
              read a form spelled stands =
                  let e : rest ≡ spelling a ++ 10 ∷ f.more = f.cut ∙ ap (λ (t : List ℕ). t ++ 10 ∷ f.more) spelled in
                  let shorter : length f.more < length rest =
                  omega (arith, ap (λ (t : List ℕ). length t) e, length-append (spelling a) (10 ∷ f.more)) in
                  no_fault (Bounds n) (fails lines place rest (Bounds n) b (
                    refl,
                    record {
                      line = a;
                      more = f.more;
                      cut = e;
                      form = form;
                      stands = stands;
                      unfit = λ fit. go (lines ++ a ∷ []) (after inst place a) f.more shorter
                          (further lines place rest f.more a e form stands fit b);
                    },
                  ))

  -- by the length of what is left
  walk : (most : ℕ) (lines : List CertificateLine) (place : Place) (rest : List ℕ) → length rest ≤ most
      → Reaches lines place rest → ⊥
  walk zero lines place rest few b =
      step lines place rest (λ more_lines next more l c. absurd (omega (arith, few, l))) b
  walk (suc most) lines place rest few b =
      step lines place rest (λ more_lines next more l c. walk most more_lines next more (omega (arith, few, l)) c) b

  told : ⊥
  told = walk (length bytes) [] title bytes (omega arith) (record { cut = refl; forms = All-nil IsLine; leads = refl })

pub texts_are_told : LeadToCertificates → TextsAreTold
texts_are_told law inst bytes no_cert no_fault = told law inst bytes no_cert no_fault
