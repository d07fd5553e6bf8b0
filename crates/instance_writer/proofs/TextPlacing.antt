-- What is looked up in the tree of a value: the elements of a list, the entries of an
-- object, and the value under a key, a period or a start.
use Rattle.std.proofs.Common.{◌≡◌, ◌≢◌, ℕ, zero, suc, ◌+◌, ◌-◌, ◌<◌, ◌≤◌, Bool, true, false, cond, ◌&&◌, List, [], ◌∷◌}
use Rattle.std.proofs.Common.{◌++◌, length, get_or, map, Option, Some, None, refl, sym, ◌∙◌, ap, subst, arith, inl, inr}
use Rattle.std.proofs.Common.{bytes_eq, unwrap_or}
use Rattle.std.specs.Prelude.{AllPairs, ◌==◌, ◌⊎◌, slice_index_or, decimal}
use Rattle.std.specs.List.{AllZip}
use Rattle.std.proofs.lemmas.Bool.{cases_lt, cases_order, eq-eqb, ne_eqb}
use Rattle.std.proofs.lemmas.Bool.{false_from_ne_true}
use Rattle.std.proofs.lemmas.Slice.Eq.{bytes_eq-Decides}
use Rattle.json_grammar.specs.Tree.{Tree, tree, Node}
use Rattle.json_grammar.specs.laws.Value.{Value, values_of, Field, fields_of}
use Rattle.json_grammar.specs.laws.Spelling.{spell, quoted}
use Rattle.json_grammar.specs.laws.Placed.{placed_at, placed_values, placed_fields}
use Rattle.instance_shape.specs.declared.fault.Known.{Known}
use Rattle.instance_shape.specs.Keys.{text_of, is_digits, number_of}
use Rattle.instance_shape.specs.LookUp.{Entry, tree_list, elements, entry_list, entries, keys, first_value, at_key}
use Rattle.instance_shape.specs.LookUp.{at_number, number_in, known}
use Rattle.instance_shape.specs.FileTables.{lists_below}
use Rattle.instance_writer.specs.text.Written.{object_of, optional, filled, numbered, named}
use Rattle.instance_writer.proofs.TextDigits.{digits_are, number_is}

-- ---- elements and entries

-- the tree of a value whose text begins somewhere
pub record IsAt (v : Value) (t : Tree) : Type 0 where
  pub offset : ℕ
  pub is : t ≡ placed_at offset v

pub placed_is_at : (k : ℕ) (v : Value) → IsAt v (placed_at k v)
placed_is_at k v = record { offset = k; is = refl }

trees_at : (k : ℕ) (vs : List Value) → AllZip IsAt vs (tree_list (placed_values k (values_of vs)))
trees_at k [] = tt
trees_at k (v ∷ vs) = (placed_is_at k v, trees_at (suc (k + length (spell v))) vs)

-- the elements of a list are its values, in order
pub elements_at : (vs : List Value) (t : Tree) → IsAt (Value.list (values_of vs)) t → AllZip IsAt vs (elements t)
elements_at vs t h =
    subst (λ (x : Tree). AllZip IsAt vs (elements x)) (sym h.is) (trees_at (suc h.offset) vs)

-- the entry of a field
pub record IsEntry (f : Field) (e : Entry) : Type 0 where
  pub key : e.key ≡ f.key
  pub value : IsAt f.value e.value

members_at : (k : ℕ) (fs : List Field) → AllZip IsEntry fs (entry_list (placed_fields k (fields_of fs)))
members_at k [] = tt
members_at k (f ∷ fs) = (
  record { key = refl; value = placed_is_at (suc (k + length (quoted f.key))) f.value },
  members_at (suc (suc (k + length (quoted f.key)) + length (spell f.value))) fs,
)

-- the entries of an object are its fields, in order
pub entries_at : (fs : List Field) (t : Tree) → IsAt (object_of fs) t → AllZip IsEntry fs (entries t)
entries_at fs t h =
    subst (λ (x : Tree). AllZip IsEntry fs (entries x)) (sym h.is) (members_at (suc h.offset) fs)

-- ---- lists in parallel

pub zip_length : {A B : Type 0} (R : A → B → Type 0) (xs : List A) (ys : List B) → AllZip R xs ys
    → length ys ≡ length xs
zip_length R [] [] z = refl
zip_length R [] (y ∷ ys) z = absurd z
zip_length R (x ∷ xs) [] z = absurd z
zip_length R (x ∷ xs) (y ∷ ys) z = omega (arith, zip_length R xs ys z.1)

pub zip_at : {A B : Type 0} (R : A → B → Type 0) (xs : List A) (ys : List B) (i : ℕ) (d : A) (e : B) → AllZip R xs ys
    → i < length xs → R (get_or xs i d) (get_or ys i e)
zip_at R [] ys i d e z l = absurd (omega arith)
zip_at R (x ∷ xs) [] i d e z l = absurd z
zip_at R (x ∷ xs) (y ∷ ys) zero d e z l = z.0
zip_at R (x ∷ xs) (y ∷ ys) (suc i) d e z l = zip_at R xs ys i d e z.1 (omega arith)

pub zip_map : {A B C : Type 0} (R : A → B → Type 0) (f : A → C) (g : B → C) (xs : List A) (ys : List B)
    → ((x : A) (y : B) → R x y → g y ≡ f x) → AllZip R xs ys → map g ys ≡ map f xs
zip_map R f g [] [] h z = refl
zip_map R f g [] (y ∷ ys) h z = absurd z
zip_map R f g (x ∷ xs) [] h z = absurd z
zip_map R f g (x ∷ xs) (y ∷ ys) h z =
    ap (λ c. c ∷ map g ys) (h x y z.0) ∙ ap (λ cs. f x ∷ cs) (zip_map R f g xs ys h z.1)

-- the keys of an object
pub keys_at : (fs : List Field) (t : Tree) → IsAt (object_of fs) t → keys t ≡ map (λ f. f.key) fs
keys_at fs t h =
    zip_map IsEntry (λ (f : Field). f.key) (λ (e : Entry). e.key) fs (entries t) (λ f e z. z.key) (entries_at fs t h)

-- ---- the first value under keys that pass a test

-- the first value of fields whose key passes
abbrev pub first_field : (List ℕ → Bool) → List Field → Option Value
first_field p [] = None
first_field p (f ∷ fs) = cond (p f.key) (Some f.value) (first_field p fs)

-- a value that is there has its tree, and one that isn't has none
abbrev pub IsOptionAt : Option Value → Option Tree → Type 0
IsOptionAt None None = Unit {0}
IsOptionAt None (Some t) = ⊥
IsOptionAt (Some v) None = ⊥
IsOptionAt (Some v) (Some t) = IsAt v t

first_at : (p : List ℕ → Bool) (fs : List Field) (es : List Entry) → AllZip IsEntry fs es
    → IsOptionAt (first_field p fs) (first_value p es)
first_at p [] [] z = tt
first_at p [] (e ∷ es) z = absurd z
first_at p (f ∷ fs) [] z = absurd z
first_at p (f ∷ fs) (e ∷ es) z = by (p f.key) (p e.key) (ap p z.0.key) (first_at p fs es z.1)
  where
    by : (b c : Bool) → c ≡ b → IsOptionAt (first_field p fs) (first_value p es)
        → IsOptionAt (cond b (Some f.value) (first_field p fs)) (cond c (Some e.value) (first_value p es))
    by true true q r = z.0.value
    by false false q r = r
    by true false q r = cc
    by false true q r = cc

-- the value under a required key
pub known_at : (k : Known) (fs : List Field) (v : Value) (t : Tree) → first_field (bytes_eq (text_of k)) fs ≡ Some v
    → IsAt (object_of fs) t → IsAt v (known k t)
known_at k fs v t e h =
    by (at_key (text_of k) t)
    (subst (λ (o : Option Value). IsOptionAt o (at_key (text_of k) t)) e
    (first_at (bytes_eq (text_of k)) fs (entries t) (entries_at fs t h)))
  where
    by : (o : Option Tree) → IsOptionAt (Some v) o → IsAt v (unwrap_or o (tree 0 0 Node.null))
    by None h = absurd h
    by (Some x) h = h

-- ---- fields by number or name

-- the first of two, where there is one
abbrev first_of_two : Option Value → Option Value → Option Value
first_of_two None o = o
first_of_two (Some v) o = Some v

first_field-append : (p : List ℕ → Bool) (xs ys : List Field)
    → first_field p (xs ++ ys) ≡ first_of_two (first_field p xs) (first_field p ys)
first_field-append p [] ys = refl
first_field-append p (x ∷ xs) ys = by (p x.key) (first_field-append p xs ys)
  where
    by : (b : Bool) → first_field p (xs ++ ys) ≡ first_of_two (first_field p xs) (first_field p ys)
        → cond b (Some x.value) (first_field p (xs ++ ys))
        ≡ first_of_two (cond b (Some x.value) (first_field p xs)) (first_field p ys)
    by true h = refl
    by false h = h

first_optional : (p : List ℕ → Bool) (key : List ℕ) (o : Option Value) → first_field p (optional key o)
    ≡ cond (p key) o None
first_optional p key None = by (p key)
  where
    by : (b : Bool) → ◌≡◌ {A = Option Value} None (cond b None None)
    by true = refl
    by false = refl
first_optional p key (Some v) = refl

or_none : (x : Option Value) → first_of_two x None ≡ x
or_none None = refl
or_none (Some v) = refl

none_first : (p : List ℕ → Bool) → first_field p [] ≡ None
none_first p = refl

or_none_first : (y : Option Value) → first_of_two None y ≡ y
or_none_first y = refl

none_passes : (p : List ℕ → Bool) (n : ℕ) (key : ℕ → List ℕ) (o : ℕ → Option Value)
    → ((j : ℕ) → j < n → p (key j) ≡ false) → first_field p (lists_below n (λ j. optional (key j) (o j))) ≡ None
none_passes p zero key o h = refl
none_passes p (suc n) key o h =
    first_field-append p (lists_below n (λ j. optional (key j) (o j))) (optional (key n) (o n))
    ∙ ap (λ x. first_of_two x (first_field p (optional (key n) (o n))))
    (none_passes p n key o (λ j l. h j (omega arith)))
    ∙ or_none_first (first_field p (optional (key n) (o n))) ∙ first_optional p (key n) (o n)
    ∙ ap (λ b. cond b (o n) None) (h n (omega arith))

-- of fields of which one key passes it is the one of that key
pub one_passes : (p : List ℕ → Bool) (n k : ℕ) (key : ℕ → List ℕ) (o : ℕ → Option Value) → k < n → p (key k) ≡ true
    → ((j : ℕ) → j < n → j ≢ k → p (key j) ≡ false)
    → first_field p (lists_below n (λ j. optional (key j) (o j))) ≡ o k
one_passes p zero k key o l h other = absurd (omega arith)
one_passes p (suc n) k key o l h other =
    first_field-append p (lists_below n (λ j. optional (key j) (o j))) (optional (key n) (o n))
    ∙ by (cases_lt k n) (λ m. one_passes p n k key o m h (λ j q. other j (omega arith)))
  where
    by : (k < n) ⊎ (n ≤ k)
        → (k < n → first_field p (lists_below n (λ j. optional (key j) (o j))) ≡ o k)
        → first_of_two (first_field p (lists_below n (λ j. optional (key j) (o j))))
        (first_field p (optional (key n) (o n))) ≡ o k
    by (inl m) r =
        let none : first_field p (optional (key n) (o n)) ≡ None =
        first_optional p (key n) (o n) ∙ ap (λ b. cond b (o n) None) (other n (omega arith) (λ e. omega (arith, e))) in
        ap (λ x. first_of_two x (first_field p (optional (key n) (o n))))
        (r m) ∙ ap (λ y. first_of_two (o k) y) none ∙ or_none (o k)
    by (inr m) r =
        let same : k ≡ n = omega arith in
        let passes : p (key n) ≡ true = subst (λ j. p (key j) ≡ true) same h in
        ap (λ x. first_of_two x (first_field p (optional (key n) (o n))))
        (none_passes p n key o (λ j q. other j (omega arith) (λ e. omega (arith, e))))
        ∙ or_none_first (first_field p (optional (key n) (o n))) ∙ first_optional p (key n) (o n)
        ∙ ap (λ b. cond b (o n) None) passes ∙ ap o (sym same)

numbered_first : (n k : ℕ) (f : ℕ → Option Value) → n < 1_000_000_000 → 1 ≤ k → k ≤ n
    → first_field (λ key. is_digits key && (number_of key == k)) (numbered n f) ≡ f k
numbered_first n k f small some few =
    let back : k - 1 + 1 ≡ k = omega arith in
    one_passes (λ key. is_digits key && (number_of key == k)) n (k - 1) (λ j. decimal (j + 1)) (λ j. f (j + 1))
    (omega arith)
    (passes (k - 1 + 1) k (omega arith) back)
    (λ j l q. fails (j + 1) k (omega arith) (λ e. q (omega (arith, e))))
    ∙ ap f back
  where
    passes : (m k : ℕ) → m < 1_000_000_000 → m ≡ k
        → (is_digits (decimal m) && (number_of (decimal m) == k)) ≡ true
    passes m k l e = rw (digits_are m l) (eq-eqb (number_of (decimal m)) k (number_is m l ∙ e))

    fails : (m k : ℕ) → m < 1_000_000_000 → m ≢ k → (is_digits (decimal m) && (number_of (decimal m) == k)) ≡ false
    fails m k l e =
        rw (digits_are m l) (ne_eqb (number_of (decimal m)) k (λ q. e (sym (number_is m l) ∙ q)))

-- the value under a period or start
pub number_at : (n k : ℕ) (f : ℕ → Option Value) (t : Tree) → n < 1_000_000_000 → 1 ≤ k → k ≤ n
    → IsAt (object_of (numbered n f)) t → IsOptionAt (f k) (at_number k t)
number_at n k f t small some few h =
    subst (λ (o : Option Value). IsOptionAt o (at_number k t)) (numbered_first n k f small some few)
    (first_at (λ key. is_digits key && (number_of key == k)) (numbered n f) (entries t) (entries_at (numbered n f) t h))

-- of a value that is left out where it has no field
pub number_in_filled : (n k : ℕ) (f : ℕ → Option Value) (o : Option Tree) → n < 1_000_000_000 → 1 ≤ k → k ≤ n
    → IsOptionAt (filled (numbered n f)) o → IsOptionAt (f k) (number_in k o)
number_in_filled n k f o small some few h = by (numbered n f) refl o h
  where
    by : (fs : List Field) → numbered n f ≡ fs → (o : Option Tree) → IsOptionAt (filled fs) o
        → IsOptionAt (f k) (number_in k o)
    by [] e None h =
        let none : f k ≡ None = sym (numbered_first n k f small some few)
        ∙ ap (first_field (λ key. is_digits key && (number_of key == k))) e ∙ empty in
        subst (λ (x : Option Value). IsOptionAt x None) (sym none) tt
      where
        empty : first_field (λ key. is_digits key && (number_of key == k)) [] ≡ None
        empty = none_first (λ key. is_digits key && (number_of key == k))
    by [] e (Some t) h = absurd h
    by (x ∷ fs) e None h = absurd h
    by (x ∷ fs) e (Some t) h =
        number_at n k f t small some few (subst (λ (ys : List Field). IsAt (object_of ys) t) (sym e) h)

-- the value under a name
pub name_at : (names : List (List ℕ)) (c : ℕ) (f : ℕ → Option Value) (t : Tree) → AllPairs (λ a b. a ≢ b) names
    → c < length names → IsAt (object_of (named names f)) t
    → IsOptionAt (f c) (at_key (slice_index_or names c []) t)
name_at names c f t apart l h =
    let p = bytes_eq (slice_index_or names c []) in
    subst (λ (o : Option Value). IsOptionAt o (at_key (slice_index_or names c []) t))
    (one_passes p (length names) c (λ j. slice_index_or names j []) f l
    ((bytes_eq-Decides (slice_index_or names c []) (slice_index_or names c [])).1 refl)
    (λ j m q. false_from_ne_true (p (slice_index_or names j []))
    (λ e. differ c j l m (λ r. q (sym r))
    ((bytes_eq-Decides (slice_index_or names c []) (slice_index_or names j [])).0 e))))
    (first_at p (named names f) (entries t) (entries_at (named names f) t h))
  where
    differ : (a b : ℕ) → a < length names → b < length names → a ≢ b
        → slice_index_or names a [] ≡ slice_index_or names b [] → ⊥
    differ a b l m n e = by (cases_order a b)
      where
        by : (a ≡ b) ⊎ ((a < b) ⊎ (b < a)) → ⊥
        by (inl q) = n q
        by (inr (inl q)) = apart a b [] q m e
        by (inr (inr q)) = apart b a [] q l (sym e)
