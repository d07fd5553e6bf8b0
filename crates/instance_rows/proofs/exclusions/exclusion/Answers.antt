use Rattle.std.proofs.Common.{◌≡◌, ℕ, List, Option, None, map, refl, sym, ◌∙◌, ap, arith, string_bytes}
use Rattle.std.proofs.lemmas.Result.{err_from_is_err_and}
use Rattle.instance_model.specs.Rules.{first_of}
use Rattle.instance_shape.specs.CrossFaults.{CrossFault, unless, unknown, is_among}
use Rattle.instance_rows.specs.RowFaults.{word_fault}
use Rattle.instance_rows.specs.Views.{rows_view}
use Rattle.instance_rows.proofs.Firsts.{first_more}
use Rattle.instance_rows.proofs.Telling.{told_first}
use Rattle.instance_rows.proofs.exclusions.exclusion.Goals as goal

same_word : (names : List (List ℕ)) (a b : List ℕ) → a ≡ b
    → unless (is_among names a) (unknown a) ≡ unless (is_among names b) (unknown b)
same_word names a b h = ap (λ (w : List ℕ). unless (is_among names w) (unknown w)) h

none_before : (f : ℕ → Option CrossFault) → first_of 0 f ≡ None
unfolding first_of
none_before f = refl

-- after two words
two_none : (f : ℕ → Option CrossFault) → f 0 ≡ None → f 1 ≡ None → first_of 2 f ≡ None
two_none f h k = first_more 1 f (first_more 0 f (none_before f) h) k

pub returns-in_err-first-clause-told : goal.returns-in_err-first-clause-told
returns-in_err-first-clause-told c =
    let p = err_from_is_err_and c.from_residual.result c.from_residual.ensures.1 in
    let rows = rows_view c.args.rows.now in let words = map string_bytes c.args.words.now in
    rw (p.1, p.2) (told_first 3 0 (word_fault rows words) _ _ (omega arith) (none_before (word_fault rows words))
    (same_word rows.interventions _ _ c.word.ensures) c.in_err-first.ensures.told)

pub returns-in_err-second-clause-told : goal.returns-in_err-second-clause-told
returns-in_err-second-clause-told c =
    let p = err_from_is_err_and c.from_residual-in_err-second.result c.from_residual-in_err-second.ensures.1 in
    let rows = rows_view c.args.rows.now in let words = map string_bytes c.args.words.now in
    let one : word_fault rows words 0 ≡ None =
    sym (same_word rows.interventions _ _ c.word.ensures) ∙ c.in_ok-first.ensures.told in
    rw (p.1, p.2) (told_first 3 1 (word_fault rows words) _ _ (omega arith)
    (first_more 0 (word_fault rows words) (none_before (word_fault rows words)) one)
    (same_word rows.interventions _ _ c.word-2.ensures) c.in_err-second.ensures.told)

pub returns-in_err-season-clause-told : goal.returns-in_err-season-clause-told
returns-in_err-season-clause-told c =
    let p = err_from_is_err_and c.from_residual-in_err-season.result c.from_residual-in_err-season.ensures.1 in
    let rows = rows_view c.args.rows.now in let words = map string_bytes c.args.words.now in
    let one : word_fault rows words 0 ≡ None =
    sym (same_word rows.interventions _ _ c.word.ensures) ∙ c.in_ok-first.ensures.told in
    let two : word_fault rows words 1 ≡ None =
    sym (same_word rows.interventions _ _ c.word-2.ensures) ∙ c.in_ok-second.ensures.told in
    rw (p.1, p.2) (told_first 3 2 (word_fault rows words) _ _ (omega arith) (two_none (word_fault rows words) one two)
    (same_word rows.seasons _ _ c.word-3.ensures) c.in_err-season.ensures.told)

pub returns-clause-told : goal.returns-clause-told
returns-clause-told c =
    let rows = rows_view c.args.rows.now in let words = map string_bytes c.args.words.now in
    let one : word_fault rows words 0 ≡ None =
    sym (same_word rows.interventions _ _ c.word.ensures) ∙ c.in_ok-first.ensures.told in
    let two : word_fault rows words 1 ≡ None =
    sym (same_word rows.interventions _ _ c.word-2.ensures) ∙ c.in_ok-second.ensures.told in
    let three : word_fault rows words 2 ≡ None =
    sym (same_word rows.seasons _ _ c.word-3.ensures) ∙ c.in_ok-season.ensures.told in
    first_more 2 (word_fault rows words) (two_none (word_fault rows words) one two) three
