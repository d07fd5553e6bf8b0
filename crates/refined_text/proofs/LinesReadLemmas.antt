-- What is read of a text by its first word is read of the whole text.
use Rattle.std.proofs.Common.{◌≡◌, ◌≢◌, ℕ, List, ◌++◌, Option, Some, None, IfSome, IfNone, Result, Ok, Err, refl, sym}
use Rattle.std.proofs.Common.{◌∙◌, ap, subst}
use Rattle.std.specs.Result.{IfOk}
use Rattle.std.specs.List.{All}
use Rattle.certificate_lines.specs.declared.line.CertificateLine.{CertificateLine}
use Rattle.certificate_lines.specs.declared.line.CertificateLine.TheVariants as line
use Rattle.certificate_lines.specs.Steps.{IsBreak, keyword_text, keyword_of}
use Rattle.certificate_lines.specs.Spelling.{spelling, IsLine}
use Rattle.certificate_lines.proofs.FormLemmas.{line_cut}
use Rattle.refined_text.specs.declared.lines.line.RefinedLine.{RefinedLine}
use Rattle.refined_text.specs.declared.lines.line.RefinedLine.TheVariants.{Title, Plain, Cap, Group, Offset, Clique}
use Rattle.refined_text.specs.declared.lines.keyword.RefinedKeyword.{RefinedKeyword}
use Rattle.refined_text.specs.declared.lines.keyword.RefinedKeyword.TheVariants as key
use Rattle.refined_text.specs.lines.Spelling.{refined_spelling, IsPlain, IsRefinedLine}
use Rattle.refined_text.specs.lines.Steps.{IsOther, IsKeywordOf, first_word, Follows}
use Rattle.refined_text.specs.lines.Steps.{ReadsAs}
use Rattle.refined_text.proofs.LinesKeyLemmas.{refined_spelled, refined_cut, own_key, own_first, only_plain}

-- a line whose keyword is none of those of version 3's own is no title and no tail
plain_by_word : (a : CertificateLine) → IsOther (keyword_text (keyword_of a)) → IsPlain a
plain_by_word (line.Title version) h = h.title refl
plain_by_word (line.Bound bound) h = tt
plain_by_word (line.Lists count) h = tt
plain_by_word line.Prices h = tt
plain_by_word (line.Up c t v) h = tt
plain_by_word (line.Lo c t v) h = tt
plain_by_word (line.Tail t weight places) h = h.tail refl
plain_by_word (line.Ex e t v) h = tt
plain_by_word line.Tree h = tt
plain_by_word (line.Split i last) h = tt
plain_by_word (line.Cost list) h = tt
plain_by_word line.Point h = tt
plain_by_word (line.Band c t side) h = tt
plain_by_word (line.Excl e) h = tt
plain_by_word (line.Empty i) h = tt

module _ (text first rest : List ℕ) (cut : text ≡ first ++ rest) (whole : All (λ b. b ≢ 32) first) (b : IsBreak rest)
  where
    -- what is spelled
    abbrev pub IsSpelled : RefinedLine → Type 0
    IsSpelled a = IsRefinedLine a × (text ≡ refined_spelling a)

    -- nothing is
    abbrev pub IsUnspelled : Type 0
    IsUnspelled = (a : RefinedLine) → IsRefinedLine a → text ≡ refined_spelling a → ⊥

    -- ---- keywords of its own
    own_found : (keyword : RefinedKeyword) → (keyword ≡ key.Other → ⊥) → IsKeywordOf first keyword → (a : RefinedLine)
        → Follows keyword rest a → IsSpelled a
    own_found keyword own is a f = (
      f.form,
      cut ∙ ap (λ (xs : List ℕ). xs ++ rest) (own_first a keyword first own f.begins is)
          ∙ ap (λ (xs : List ℕ). first_word a ++ xs) f.spelled ∙ sym (refined_spelled a),
    )

    own_none : (keyword : RefinedKeyword) → IsKeywordOf first keyword
        → ((a : RefinedLine) → Follows keyword rest a → ⊥) → IsUnspelled
    own_none keyword is none a form e =
        let parts = refined_cut a text first rest cut whole b e in
        none a (record { form = form; begins = own_key a keyword first form parts.0 is; spelled = parts.1 })

    -- ---- others
    plain_found : IsOther first → (a : CertificateLine) → IsLine a → text ≡ spelling a → IsSpelled (Plain a)
    plain_found is a form e =
        let parts = line_cut a text first rest cut whole b e in
        ((plain_by_word a (subst IsOther parts.0 is), form), e)

    plain_none : IsOther first → ((a : CertificateLine) → IsLine a → text ≡ spelling a → ⊥) → IsUnspelled
    plain_none is none a form e =
        let parts = refined_cut a text first rest cut whole b e in
        only_plain a (own_key a key.Other first form parts.0 is) (λ x. IsRefinedLine x → text ≡ refined_spelling x → ⊥)
        (λ of g f. none of g.1 f) form e

    -- ---- all
    pub found : (keyword : RefinedKeyword) → IsKeywordOf first keyword → (read : Option RefinedLine)
        → ReadsAs keyword text rest read → IfSome read IsSpelled
    found key.Title is (Some a) r = own_found key.Title (λ e. absurd (cc)) is a r
    found key.Cap is (Some a) r = own_found key.Cap (λ e. absurd (cc)) is a r
    found key.Group is (Some a) r = own_found key.Group (λ e. absurd (cc)) is a r
    found key.Offset is (Some a) r = own_found key.Offset (λ e. absurd (cc)) is a r
    found key.Clique is (Some a) r = own_found key.Clique (λ e. absurd (cc)) is a r
    found key.Other is (Some (Plain a)) r = plain_found is a r.0 r.1
    found key.Other is (Some Title) r = absurd r
    found key.Other is (Some Cap) r = absurd r
    found key.Other is (Some (Group t members)) r = absurd r
    found key.Other is (Some (Offset t i g v)) r = absurd r
    found key.Other is (Some (Clique t v members)) r = absurd r
    found keyword is None r = tt

    pub none : (keyword : RefinedKeyword) → IsKeywordOf first keyword → (read : Option RefinedLine)
        → ReadsAs keyword text rest read → IfNone read IsUnspelled
    none keyword is (Some a) r = tt
    none key.Title is None r = own_none key.Title is r
    none key.Cap is None r = own_none key.Cap is r
    none key.Group is None r = own_none key.Group is r
    none key.Offset is None r = own_none key.Offset is r
    none key.Clique is None r = own_none key.Clique is r
    none key.Other is None r = plain_none is r

    -- the same of an answer, which may be want of memory
    pub all_found : {E : Type 0} (keyword : RefinedKeyword) → IsKeywordOf first keyword
        → (answer : Result (Option RefinedLine) E) → IfOk answer (ReadsAs keyword text rest)
        → IfOk answer (λ read. IfSome read IsSpelled)
    all_found keyword is (Ok read) r = found keyword is read r
    all_found keyword is (Err e) r = tt

    pub all_none : {E : Type 0} (keyword : RefinedKeyword) → IsKeywordOf first keyword
        → (answer : Result (Option RefinedLine) E) → IfOk answer (ReadsAs keyword text rest)
        → IfOk answer (λ read. IfNone read IsUnspelled)
    all_none keyword is (Ok read) r = none keyword is read r
    all_none keyword is (Err e) r = tt
