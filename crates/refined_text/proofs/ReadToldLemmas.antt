-- A text is that of a certificate, or has a fault.
use Rattle.std.proofs.Common.{◌≡◌, ◌≢◌, ◌⊎◌, inl, inr, ℕ, zero, suc, ◌+◌, ◌<◌, ◌≤◌, refl, sym, ◌∙◌, ap, arith, Bool}
use Rattle.std.proofs.Common.{true, false, eqb, List, [], ◌∷◌, ◌++◌, length, append_assoc, length-append}
use Rattle.std.specs.List.{All}
use Rattle.std.proofs.lemmas.Bool.Decides.{nat_tests}
use Rattle.std.proofs.lemmas.List.{append-nil}
use Rattle.std.proofs.lemmas.List.Elements.{All-append, All-nil, All-cons}
use Rattle.instance_model.specs.Tables.{Tables}
use Rattle.certificate_text.specs.Grammar.{nodes}
use Rattle.certificate_text.specs.declared.read.fault.CertFault.{CertFault}
use Rattle.certificate_text.specs.declared.read.fault.CertFault.TheVariants.{Cut, BadLine, Bounds}
use Rattle.refined_check.specs.declared.certificate.certificate.RefinedCertificate.{RefinedCertificate}
use Rattle.refined_text.specs.declared.lines.line.RefinedLine.{RefinedLine}
use Rattle.refined_text.specs.lines.Spelling.{refined_spelling, IsRefinedLine}
use Rattle.refined_text.specs.text.Text.{text_of_refined}
use Rattle.refined_text.specs.grammar.Grammar.{RefinedPlace, start, within, HasRefinedEnded, RefinedStands, RefinedFits}
use Rattle.refined_text.specs.grammar.Grammar.{refined_after}
use Rattle.refined_text.proofs.GrammarPlaceLemmas.{goes_append}
use Rattle.refined_text.proofs.GrammarTellLemmas.{refined_begins}
use Rattle.refined_text.specs.read.Faults.{RefinedBeginsWith, HasRefinedLineFault, HasRefinedFault, HasRefinedCertFault}
use Rattle.refined_text.specs.read.Faults.{IsRefinedTextOf}
use Rattle.refined_text.specs.read.Laws.{RefinedTextsAreTold}
use Rattle.refined_text.proofs.ReadStepLemmas.{text-append}
use Rattle.refined_text.proofs.ReadLedLemmas.{lead_to_certificates}

-- a byte that ends no line
abbrev IsInside : ℕ → Type 0
IsInside b = b ≢ 10

-- a text up to its first line feed, and what is behind it
record HasFirstLine (rest : List ℕ) : Type 0 where
  text : List ℕ
  more : List ℕ
  cut : rest ≡ text ++ 10 ∷ more
  whole : All IsInside text

first_line : (rest : List ℕ) → All IsInside rest ⊎ HasFirstLine rest
first_line [] = inl (All-nil IsInside)
first_line (b ∷ rest) = at (eqb b 10) refl (first_line rest)
  where
    at : (v : Bool) → eqb b 10 ≡ v → All IsInside rest ⊎ HasFirstLine rest → All IsInside (b ∷ rest)
        ⊎ HasFirstLine (b ∷ rest)
    at true e r = let feed : b ≡ 10 = grind (arith, nat_tests) in
        inr (record { text = []; more = rest; cut = ap (λ (x : ℕ). x ∷ rest) feed; whole = All-nil IsInside })
    at false e (inl h) = let inside : b ≢ 10 = grind (arith, nat_tests) in inl (All-cons IsInside b rest inside h)
    at false e (inr f) =
        let inside : b ≢ 10 = grind (arith, nat_tests) in
        inr (record {
          text = b ∷ f.text;
          more = f.more;
          cut = ap (λ (xs : List ℕ). b ∷ xs) f.cut;
          whole = All-cons IsInside b f.text inside f.whole;
        })

ended_or_not : (place : RefinedPlace) → HasRefinedEnded place ⊎ (HasRefinedEnded place → ⊥)
ended_or_not (within (nodes n []) f) = inl tt
ended_or_not _ = inr (λ h. h)

module _ (inst : Tables) (bytes : List ℕ)
    (no_cert : (cert : RefinedCertificate) → IsRefinedTextOf inst bytes cert → ⊥)
    (no_fault : (fault : CertFault) → HasRefinedCertFault inst bytes fault → ⊥) where
  -- the text begins with lines that lead to the place
  abbrev Reaches : List RefinedLine → RefinedPlace → List ℕ → Type 0
  Reaches lines place rest = RefinedBeginsWith inst start bytes lines place rest

  fails : (lines : List RefinedLine) (place : RefinedPlace) (rest : List ℕ) (fault : CertFault)
      → Reaches lines place rest → HasRefinedLineFault inst place rest (0 + length lines + 1) fault
      → HasRefinedFault inst bytes fault
  fails lines place rest fault b h = record { lines = lines; place = place; rest = rest; faultless = b; here = h }

  -- the lines are all, and lead to the end
  whole : (lines : List RefinedLine) (place : RefinedPlace) → HasRefinedEnded place → Reaches lines place [] → ⊥
  whole lines (within (nodes n []) f) h b =
      let led = lead_to_certificates inst lines n f b.leads in
      no_cert led.0 (record {
        in_range = led.1;
        text = b.cut ∙ append-nil (text_of_refined lines) ∙ ap text_of_refined (sym led.2);
      })
  whole lines _ h b = h

  -- nothing is needed any more
  over : (lines : List RefinedLine) (place : RefinedPlace) (rest : List ℕ) → HasRefinedEnded place
      → Reaches lines place rest → ⊥
  over lines place [] h b = whole lines place h b
  over lines place (x ∷ rest) h b = no_fault (BadLine (0 + length lines + 1))
      (fails lines place (x ∷ rest) (BadLine (0 + length lines + 1)) b
      (refl, inr (record { ended = h; some = omega arith })))

  -- behind one more line
  further : (lines : List RefinedLine) (place : RefinedPlace) (rest more : List ℕ) (a : RefinedLine)
      → rest ≡ refined_spelling a ++ 10 ∷ more → IsRefinedLine a → RefinedStands place a → RefinedFits inst place a
      → Reaches lines place rest → Reaches (lines ++ a ∷ []) (refined_after inst place a) more
  further lines place rest more a e form stands fit b = record {
    cut = b.cut
        ∙ ap (λ (t : List ℕ). text_of_refined lines ++ t) (e ∙ sym (refined_begins a [] more))
        ∙ sym (append_assoc (text_of_refined lines) (text_of_refined (a ∷ [])) more)
        ∙ ap (λ (t : List ℕ). t ++ more) (sym (text-append lines (a ∷ [])));
    forms = All-append IsRefinedLine lines (a ∷ []) b.forms (All-cons IsRefinedLine a [] form (All-nil IsRefinedLine));
    leads = goes_append inst start place (refined_after inst place a) lines (a ∷ []) b.leads (stands, fit, refl);
  }

  -- what is told behind one more line is told here
  step : (lines : List RefinedLine) (place : RefinedPlace) (rest : List ℕ)
      → ((more_lines : List RefinedLine) (next : RefinedPlace) (more : List ℕ) → length more < length rest
      → Reaches more_lines next more → ⊥) → Reaches lines place rest → ⊥
  step lines place rest go b = at (ended_or_not place)
    where
      n : ℕ
      n = 0 + length lines + 1

      at : HasRefinedEnded place ⊎ (HasRefinedEnded place → ⊥) → ⊥
      at (inl h) = over lines place rest h b
      at (inr needed) = from (first_line rest)
        where
          from : All IsInside rest ⊎ HasFirstLine rest → ⊥
          from (inl h) =
              no_fault (Cut n) (fails lines place rest (Cut n) b (refl, record { needed = needed; unended = h }))
          from (inr f) = no_fault (BadLine n)
              (fails lines place rest (BadLine n) b (
                refl,
                inl (record {
                  needed = needed;
                  text = f.text;
                  more = f.more;
                  cut = f.cut;
                  whole = f.whole;
                  misplaced = read;
                }),
              ))
            where
              read : (a : RefinedLine) → IsRefinedLine a → f.text ≡ refined_spelling a → RefinedStands place a → ⊥
              read a form spelled stands =
                  let e : rest ≡ refined_spelling a ++ 10 ∷ f.more =
                  f.cut ∙ ap (λ (t : List ℕ). t ++ 10 ∷ f.more) spelled in
                  let shorter : length f.more < length rest =
                  omega (arith, ap (λ (t : List ℕ). length t) e, length-append (refined_spelling a) (10 ∷ f.more)) in
                  no_fault (Bounds n) (fails lines place rest (Bounds n) b (
                    refl,
                    record {
                      line = a;
                      more = f.more;
                      cut = e;
                      form = form;
                      stands = stands;
                      unfit = λ fit. go (lines ++ a ∷ []) (refined_after inst place a) f.more shorter
                          (further lines place rest f.more a e form stands fit b);
                    },
                  ))

  -- by the length of what is left
  walk : (most : ℕ) (lines : List RefinedLine) (place : RefinedPlace) (rest : List ℕ) → length rest ≤ most
      → Reaches lines place rest → ⊥
  walk zero lines place rest few b =
      step lines place rest (λ more_lines next more l c. absurd (omega (arith, few, l))) b
  walk (suc most) lines place rest few b =
      step lines place rest (λ more_lines next more l c. walk most more_lines next more (omega (arith, few, l)) c) b

  told : ⊥
  told = walk (length bytes) [] start bytes (omega arith)
      (record { cut = refl; forms = All-nil IsRefinedLine; leads = refl })

pub refined_texts_are_told : RefinedTextsAreTold
refined_texts_are_told inst bytes no_cert no_fault = told inst bytes no_cert no_fault
