-- A name is found among the names, or is none of them.
use Rattle.std.proofs.Common.{◌≡◌, ◌≢◌, ℕ, ◌+◌, ◌<◌, ◌≤◌, ⊎_elim, cond, List, [], length, get_or, slice_index_or}
use Rattle.std.proofs.Common.{Option, Some, None, IfSome, IfNone, sym, ◌∙◌, ap, subst, arith, rules}
use Rattle.std.specs.List.{AllPairs, Contains, position, position_or_len, slice_get}
use Rattle.std.specs.Str.{bytes_eq}
use Rattle.std.proofs.lemmas.Bool.{cases_lt, false≢true}
use Rattle.std.proofs.lemmas.Bool.Decides.{Decides-ltb}
use Rattle.std.proofs.lemmas.List.{get_or_default}
use Rattle.std.proofs.lemmas.List.Sums.{fails_before_first}
use Rattle.std.proofs.lemmas.List.Quantifiers.{position-Some}
use Rattle.std.proofs.lemmas.Option.{get_or_from_slice_get}
use Rattle.std.proofs.lemmas.Slice.Eq.{bytes_eq-Decides}

found_name : (names : List (List ℕ)) (name : List ℕ) (i : ℕ) → position (bytes_eq name) names ≡ Some i
    → slice_index_or names i [] ≡ name
found_name names name i e =
    sym ((bytes_eq-Decides name (get_or names i [])).0 (position-Some (bytes_eq name) names i [] e).1)

found_none : (names : List (List ℕ)) (name : List ℕ) → position (bytes_eq name) names ≡ None → Contains names name → ⊥
found_none names name e (k, l, at) =
    let first : ℕ = position_or_len (bytes_eq name) names in
    ⊎_elim (λ within. let found : position (bytes_eq name) names ≡ Some first =
    ap (λ b. cond b (Some first) None) ((Decides-ltb first (length names)).1 within) in absurd (cc))
    (λ past. false≢true (sym (fails_before_first (bytes_eq name) names k name (omega arith))
    ∙ (bytes_eq-Decides name (get_or names k name)).1 (sym at)))
    (cases_lt first (length names))

-- the name at a place, read and compared
pub same_name : (names : List (List ℕ)) (i : ℕ) (held name : List ℕ) → slice_get names i ≡ Some held → held ≡ name
    → slice_index_or names i [] ≡ name
same_name names i held name e h = get_or_from_slice_get names i held [] e ∙ h

-- no place below the end has the name
pub none_below : (names : List (List ℕ)) (name : List ℕ) (n : ℕ) → length names ≤ n
    → ((k : ℕ) → k < n → slice_index_or names k [] ≢ name) → Contains names name → ⊥
none_below names name n all none (k, l, at) = none k (omega arith) (get_or_default names k [] name l ∙ at)

-- one place more has another name
pub none_more : (names : List (List ℕ)) (name held : List ℕ) (n : ℕ)
    → ((k : ℕ) → k < n → slice_index_or names k [] ≢ name) → slice_get names n ≡ Some held → (held ≡ name → ⊥) → (k : ℕ)
    → k < n + 1 → slice_index_or names k [] ≢ name
none_more names name held n none e ne k l =
    ⊎_elim (λ below. none k below)
    (λ past h. let at : k ≡ n = omega (arith, l) in
    ne (sym (get_or_from_slice_get names n held [] e) ∙ sym (ap (λ j. slice_index_or names j []) at) ∙ h))
    (cases_lt k n)

-- the answer of a look-up by text, for a name of these bytes
pub found_in : (names : List (List ℕ)) (text name : List ℕ) (place : Option ℕ) → place ≡ position (bytes_eq text) names
    → text ≡ name → IfSome place (λ i. slice_index_or names i [] ≡ name)
found_in names text name None e f = search rules
found_in names text name (Some i) e f = found_name names text i (sym e) ∙ f

pub none_in : (names : List (List ℕ)) (text name : List ℕ) (place : Option ℕ) → place ≡ position (bytes_eq text) names
    → text ≡ name → IfNone place (Contains names name → ⊥)
none_in names text name None e f = λ h. found_none names text (sym e) (subst (Contains names) (sym f) h)
none_in names text name (Some i) e f = search rules

-- the same name stands at one place
pub same_place : (names : List (List ℕ)) (i j : ℕ) → AllPairs (λ a b. a ≢ b) names → i < length names → j < length names
    → slice_index_or names i [] ≡ slice_index_or names j [] → i ≡ j
same_place names i j apart li lj e =
    ⊎_elim (λ l. absurd (apart i j [] l lj e))
    (λ h. ⊎_elim (λ l. absurd (apart j i [] l li (sym e))) (λ k. omega arith) (cases_lt j i))
    (cases_lt i j)
