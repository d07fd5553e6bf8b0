-- Objects that are left out where they have no field.
use Rattle.std.proofs.Common.{◌≡◌, ◌⊎◌, ℕ, zero, suc, ◌+◌, ◌<◌, ◌≤◌, true, false, List, [], ◌∷◌, ◌++◌, refl, sym, ◌∙◌}
use Rattle.std.proofs.Common.{ap, subst, arith}
use Rattle.std.proofs.Common.{Option, Some, None, inl, inr, is_some, true≢false, decimal}
use Rattle.std.proofs.lemmas.Bool.{cases_lt}
use Rattle.json_grammar.specs.laws.Value.{Value, Field}
use Rattle.instance_shape.specs.FileTables.{lists_below}
use Rattle.instance_writer.specs.text.Written.{object_of, optional, filled, numbered}
use Rattle.instance_writer.proofs.LoopLemmas.{lists_more}
use Rattle.instance_writer.proofs.Items.{numbered_item}

abbrev IsFull : List Field → Type 0
IsFull fs = is_some (filled fs) ≡ true

full_front : (fs gs : List Field) → IsFull fs → IsFull (fs ++ gs)
full_front [] gs full = absurd (true≢false (sym full))
full_front (f ∷ fs) gs full = refl

full_back : (fs gs : List Field) → IsFull gs → IsFull (fs ++ gs)
full_back [] gs full = full
full_back (f ∷ fs) gs full = refl

-- where one of the lists has a field, all of them together have one
full_below : (n : ℕ) (f : ℕ → List Field) (k : ℕ) → k < n → IsFull (f k) → IsFull (lists_below n f)
full_below zero f k low full = absurd (omega arith)
full_below (suc n) f k low full = go (cases_lt k n) (λ l. full_below n f k l full)
  where
    go : (k < n) ⊎ (n ≤ k) → (k < n → IsFull (lists_below n f)) → IsFull (lists_below n f ++ f n)
    go (inl l) front = full_front (lists_below n f) (f n) (front l)
    go (inr h) front =
        let same : k ≡ n = omega arith in
        full_back (lists_below n f) (f n) (subst (λ j. IsFull (f j)) same full)

some_full : (key : List ℕ) (o : Option Value) → is_some o ≡ true → IsFull (optional key o)
some_full key None some = absurd (true≢false (sym some))
some_full key (Some v) some = refl

none_optional : (key : List ℕ) (o : Option Value) → is_some o ≡ false → optional key o ≡ []
none_optional key None none = refl
none_optional key (Some v) none = absurd (true≢false none)

-- ---- the search for a value among those under the numbers from 1 to n

pub some_at : (n : ℕ) (f : ℕ → Option Value) (k : ℕ) → k < n → is_some (f (k + 1)) ≡ true
    → true ≡ is_some (filled (numbered n f))
some_at n f k low some = sym (full_below n (numbered_item f) k low (some_full (decimal (k + 1)) (f (k + 1)) some))

pub none_more : (n : ℕ) (f : ℕ → Option Value) → numbered n f ≡ [] → is_some (f (n + 1)) ≡ false
    → numbered (n + 1) f ≡ []
none_more n f front none =
    lists_more n (numbered_item f) ∙ ap (λ l. l ++ numbered_item f n) front
    ∙ none_optional (decimal (n + 1)) (f (n + 1)) none

pub none_below : (n : ℕ) (f : ℕ → Option Value) (k : ℕ) → n ≡ k → numbered k f ≡ []
    → false ≡ is_some (filled (numbered n f))
none_below n f k end none = sym (ap (λ m. is_some (filled (numbered m f))) end ∙ ap (λ l. is_some (filled l)) none)

-- ---- what the search decides

-- an object that has a field isn't left out
pub filled_is : (fs : List Field) → is_some (filled fs) ≡ true → filled fs ≡ Some (object_of fs)
filled_is [] full = absurd (true≢false (sym full))
filled_is (f ∷ fs) full = refl

pub is_none_of : {X : Type 0} (o : Option X) → is_some o ≡ false → o ≡ None
is_none_of None none = refl
is_none_of (Some x) none = absurd (true≢false none)
