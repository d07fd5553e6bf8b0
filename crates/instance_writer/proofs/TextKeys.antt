-- Objects of periods or starts, and objects of names, have no fault at their keys.
use Rattle.std.proofs.Common.{◌≡◌, ◌≢◌, ℕ, zero, suc, ◌+◌, ◌<◌, ◌≤◌, Bool, true, false, cond, not, ◌&&◌, List, []}
use Rattle.std.proofs.Common.{◌∷◌, length, Option, Some, None, refl, sym, ◌∙◌, subst, arith}
use Rattle.std.proofs.Common.{decimal, length-append}
use Rattle.std.specs.Prelude.{All, AllPairs, nat_le, nat_lt, slice_index_or}
use Rattle.std.proofs.lemmas.Bool.{ltb-true, lt-ltb, le-leb, cond-true, ne_eqb, false_from_ne_true}
use Rattle.std.proofs.lemmas.Bool.Decides.{nat_tests}
use Rattle.std.proofs.lemmas.Fmt.{IsAscii-decimal}
use Rattle.std.proofs.lemmas.Slice.Eq.{bytes_eq-Decides}
use Rattle.std.proofs.lemmas.Str.{IsUtf8-from_ascii}
use Rattle.std.proofs.lemmas.List.Elements.{All-nil, All-cons, All-head, All-tail, All-get_or}
use Rattle.json_grammar.specs.Grammar.{AreDigits}
use Rattle.json_grammar.specs.Tree.{Node, Members}
use Rattle.json_grammar.specs.laws.Value.{Value, Field, field, fields_of}
use Rattle.json_grammar.specs.laws.Spellable.{IsSpellableText}
use Rattle.json_grammar.specs.laws.Placed.{placed_fields}
use Rattle.instance_model.specs.declared.limits.Limits.{Limits}
use Rattle.instance_model.specs.Fitting.{IsName, AreNames}
use Rattle.instance_shape.specs.declared.spot.Spot.{Spot}
use Rattle.instance_shape.specs.Keys.{Key, by_text, by_number, key_of, same_key, is_name, is_digits, number_of}
use Rattle.instance_shape.specs.Keys.{all_bytes}
use Rattle.instance_shape.specs.Keys.{is_printed}
use Rattle.instance_shape.specs.Shape.{kind_of, required, under}
use Rattle.instance_shape.specs.ShapeFaults.{takes_names, takes_numbers, key_limit, first_past, missing}
use Rattle.instance_shape.specs.ShapeFaults.{keys_faults, keys_of, own_faults, inside_faults}
use Rattle.instance_shape.specs.FileTables.{lists_below, is_count}
use Rattle.instance_shape.proofs.Clear.{clear_both}
use Rattle.instance_shape.proofs.ListsBelow.{all_lists, all_cond, pairs_cond, pairs_lists}
use Rattle.instance_writer.specs.text.Written.{object_of, optional, filled, numbered, named}
use Rattle.instance_writer.proofs.TextDigits.{digits_are, number_is}
use Rattle.instance_writer.proofs.TextFine.{IsFine, IsFineField, IsGoodKey, keys_clear, object_fine}
use Rattle.instance_writer.proofs.TextListed.{lists_below_same}
use Rattle.instance_writer.proofs.TextTokens.{decimal_is, digits_of_int}

-- ---- fields that may be left out

pub all_optional : (P : Field → Type 0) (key : List ℕ) (o : Option Value)
    → ((v : Value) → o ≡ Some v → P (field key v)) → All P (optional key o)
all_optional P key None h = All-nil P
all_optional P key (Some v) h = All-cons P (field key v) [] (h v refl) (All-nil P)

few_optional : (key : List ℕ) (o : Option Value) → length (optional key o) ≤ 1
few_optional key None = omega arith
few_optional key (Some v) = omega arith

pub few_fields : (n : ℕ) (key : ℕ → List ℕ) (o : ℕ → Option Value)
    → length (lists_below n (λ k. optional (key k) (o k))) ≤ n
few_fields zero key o = omega arith
few_fields (suc n) key o = omega (
  arith,
  length-append (lists_below n (λ k. optional (key k) (o k))) (optional (key n) (o n)),
  few_fields n key o,
  few_optional (key n) (o n),
)

alone : (R : Field → Field → Type 0) (key : List ℕ) (o : Option Value) → AllPairs R (optional key o)
alone R key None = λ i j d k l. absurd (omega arith)
alone R key (Some v) = λ i j d k l. absurd (omega arith)

-- fields of which each comes before the later ones, as their keys show
fields_apart : (R : Field → Field → Type 0) (n : ℕ) (key : ℕ → List ℕ) (o : ℕ → Option Value)
    → ((a b : ℕ) (x y : Field) → a < b → b < n → x.key ≡ key a → y.key ≡ key b → R x y)
    → AllPairs R (lists_below n (λ k. optional (key k) (o k)))
fields_apart R n key o h =
    subst (λ (fs : List Field). AllPairs R fs)
    (sym (lists_below_same n (λ k. optional (key k) (o k)) within
    (λ k l. sym (cond-true (nat_lt k n) (optional (key k) (o k)) [] (lt-ltb k n l)))))
    (pairs_lists R (λ k x. (k < n) × (x.key ≡ key k)) n within
    (λ a b x y l p q. h a b x y l q.0 p.1 q.1)
    (λ k. all_cond (λ x. (k < n) × (x.key ≡ key k)) (nat_lt k n) (optional (key k) (o k))
    (λ t. all_optional (λ x. (k < n) × (x.key ≡ key k)) (key k) (o k) (λ v e. (ltb-true k n t, refl))))
    (λ k. pairs_cond R (nat_lt k n) (optional (key k) (o k)) (alone R (key k) (o k))))
  where
    within : ℕ → List Field
    within k = cond (nat_lt k n) (optional (key k) (o k)) []

-- ---- periods and starts

-- what an object of periods or starts has as a key
abbrev pub number_key : List ℕ → Key
number_key k = cond (is_digits k) (by_number (number_of k)) (by_text k)

-- a spot of objects of periods or starts
pub record TakesNumbers (limits : Limits) (s : Spot) : Type 0 where
  pub one : (key : List ℕ) → key_of (kind_of s) key ≡ number_key key ∷ []
  pub no_names : takes_names (kind_of s) ≡ false
  pub none_missing : (ks : List Key) (last : ℕ) → missing (required s) ks last ≡ []
  pub room : (n at : ℕ) → first_past (key_limit limits s) n at ≡ []
  pub own : (at : ℕ) (ms : Members) → own_faults limits s at (Node.object ms) ≡ []
  pub plain : is_count (kind_of s) ≡ false

number_keys_apart : (m n : ℕ) → m < 1_000_000_000 → n < 1_000_000_000 → m ≢ n
    → same_key (number_key (decimal m)) (number_key (decimal n)) ≡ false
number_keys_apart m n l k h =
    rw (digits_are m l, digits_are n k)
    (ne_eqb (number_of (decimal m)) (number_of (decimal n)) (λ e. h (sym (number_is m l) ∙ e ∙ number_is n k)))

good_number : (limits : Limits) (s : Spot) (n : ℕ) → TakesNumbers limits s → n < 1_000_000_000
    → IsGoodKey s (decimal n)
good_number limits s n t h = record {
  name = rw t.no_names refl;
  number = by (takes_numbers (kind_of s)) (is_digits (decimal n)) (digits_are n h);
}
  where
    by : (b c : Bool) → c ≡ true → b && not c ≡ false
    by true true e = refl
    by true false e = cc
    by false c e = refl

pub numbered_inside : (limits : Limits) (s : Spot) (n : ℕ) (f : ℕ → Option Value) → TakesNumbers limits s
    → n < 1_000_000_000 → (k last : ℕ)
    → inside_faults limits s last (Node.object (placed_fields k (fields_of (numbered n f)))) ≡ []
numbered_inside limits s n f t small k last =
    clear_both (keys_faults limits s [] (placed_fields k (fields_of (numbered n f)))) _
    (keys_clear limits s number_key t.one (numbered n f) [] k
    (all_lists (λ x. IsGoodKey s x.key) n (λ k. optional (decimal (k + 1)) (f (k + 1)))
    (λ k l. all_optional (λ x. IsGoodKey s x.key) (decimal (k + 1)) (f (k + 1))
    (λ v e. good_number limits s (k + 1) t (omega arith))))
    (λ i d l. refl)
    (fields_apart (λ x y. same_key (number_key y.key) (number_key x.key) ≡ false) n (λ k. decimal (k + 1))
    (λ k. f (k + 1))
    (λ a b x y l m p q. rw (p, q) (number_keys_apart (b + 1) (a + 1) (omega arith) (omega arith)
    (λ e. omega (arith, e)))))
    (λ m at l. t.room m at))
    (t.none_missing (keys_of (kind_of s) (placed_fields k (fields_of (numbered n f)))) last)

digit_above : {ds : List ℕ} → AreDigits ds → All (λ b. 32 ≤ b) ds
digit_above AreDigits.none = All-nil (λ b. 32 ≤ b)
digit_above (AreDigits.more {b} {bs} h hs) =
    let low = h.low in
    All-cons (λ b. 32 ≤ b) b bs (omega arith) (digit_above hs)

pub number_spelled : (n : ℕ) → n < 1_000_000_000 → IsSpellableText (decimal n)
number_spelled n h = record {
  utf8 = IsUtf8-from_ascii (decimal n) (IsAscii-decimal n (omega arith));
  printable = digit_above (digits_of_int (decimal_is n (omega arith)).int);
}

-- an object of periods or starts is fine where each value in it is
pub numbered_fine : (limits : Limits) (d : ℕ) (s q : Spot) (n : ℕ) (f : ℕ → Option Value) → TakesNumbers limits s
    → n < 1_000_000_000 → ((key : List ℕ) → under s key ≡ q)
    → ((k : ℕ) (v : Value) → f k ≡ Some v → IsFine limits d q v) → IsFine limits (suc d) s (object_of (numbered n f))
numbered_fine limits d s q n f t small u h =
    object_fine limits d s (numbered n f) t.own t.plain (numbered_inside limits s n f t small)
    (all_lists (IsFineField limits d s) n (λ k. optional (decimal (k + 1)) (f (k + 1)))
    (λ k l. all_optional (IsFineField limits d s) (decimal (k + 1)) (f (k + 1)) (λ v e. record {
      key = number_spelled (k + 1) (omega arith);
      value = subst (λ (x : Spot). IsFine limits d x v) (sym (u (decimal (k + 1)))) (h (k + 1) v e);
    })))

filled_is : (fs : List Field) (v : Value) → filled fs ≡ Some v → object_of fs ≡ v
filled_is [] v e = cc
filled_is (f ∷ fs) v e = cc

-- and so is one that is left out where it has no field
pub filled_fine : (limits : Limits) (d : ℕ) (s q : Spot) (n : ℕ) (f : ℕ → Option Value) (v : Value)
    → TakesNumbers limits s → n < 1_000_000_000 → ((key : List ℕ) → under s key ≡ q)
    → ((k : ℕ) (v : Value) → f k ≡ Some v → IsFine limits d q v) → filled (numbered n f) ≡ Some v
    → IsFine limits (suc d) s v
filled_fine limits d s q n f v t small u h e =
    subst (λ (x : Value). IsFine limits (suc d) s x) (filled_is (numbered n f) v e)
    (numbered_fine limits d s q n f t small u h)

-- ---- names

printed_all : (bs : List ℕ) → All (λ b. (32 < b) × (b ≢ 127)) bs → all_bytes is_printed bs ≡ true
printed_all [] h = refl
printed_all (b ∷ bs) h =
    let p = All-head (λ b. (32 < b) × (b ≢ 127)) b bs h in
    let low = p.0 in
    let other = p.1 in
    let one : is_printed b ≡ true = grind (arith, nat_tests) in
    rw one (printed_all bs (All-tail (λ b. (32 < b) × (b ≢ 127)) b bs h))

pub name_is : (name : List ℕ) → IsName name → is_name name ≡ true
name_is name h =
    let some : nat_le 1 (length name) ≡ true = le-leb 1 (length name) (omega (arith, h.some)) in
    let short : nat_le (length name) 128 ≡ true = le-leb (length name) 128 h.short in
    rw (some, short) (printed_all name h.printed)

-- a spot of objects of names, with a limit on their number or none
pub record TakesNames (limits : Limits) (s : Spot) (n : ℕ) : Type 0 where
  pub one : (key : List ℕ) → key_of (kind_of s) key ≡ by_text key ∷ []
  pub no_numbers : takes_numbers (kind_of s) ≡ false
  pub none_missing : (ks : List Key) (last : ℕ) → missing (required s) ks last ≡ []
  pub room : (m at : ℕ) → m < n → first_past (key_limit limits s) m at ≡ []
  pub own : (at : ℕ) (ms : Members) → own_faults limits s at (Node.object ms) ≡ []
  pub plain : is_count (kind_of s) ≡ false

good_name : (limits : Limits) (s : Spot) (n : ℕ) (name : List ℕ) → TakesNames limits s n → IsName name
    → IsGoodKey s name
good_name limits s n name t h = record {
  name = by (takes_names (kind_of s)) (is_name name) (name_is name h);
  number = rw t.no_numbers refl;
}
  where
    by : (b c : Bool) → c ≡ true → b && not c ≡ false
    by true true e = refl
    by true false e = cc
    by false c e = refl

pub names_inside : (limits : Limits) (s : Spot) (limit : ℕ) (names : List (List ℕ)) (f : ℕ → Option Value)
    → TakesNames limits s (length names) → AreNames limit names → (k last : ℕ)
    → inside_faults limits s last (Node.object (placed_fields k (fields_of (named names f)))) ≡ []
names_inside limits s limit names f t h k last =
    clear_both (keys_faults limits s [] (placed_fields k (fields_of (named names f)))) _
    (keys_clear limits s by_text t.one (named names f) [] k
    (all_lists (λ x. IsGoodKey s x.key) (length names) (λ k. optional (slice_index_or names k []) (f k))
    (λ k l. all_optional (λ x. IsGoodKey s x.key) (slice_index_or names k []) (f k)
    (λ v e. good_name limits s (length names) (slice_index_or names k []) t
    (All-get_or IsName names k [] l h.shaped))))
    (λ i d l. refl)
    (fields_apart (λ x y. same_key (by_text y.key) (by_text x.key) ≡ false) (length names)
    (λ k. slice_index_or names k []) f
    (λ a b x y l m p q. rw (p, q) (false_from_ne_true _
    (λ e. h.apart a b [] l m
    (sym ((bytes_eq-Decides (slice_index_or names b []) (slice_index_or names a [])).0 e))))))
    (λ m at l. t.room m at (omega (arith, l, few_fields (length names) (λ k. slice_index_or names k []) f))))
    (t.none_missing (keys_of (kind_of s) (placed_fields k (fields_of (named names f)))) last)

-- an object of names is fine where each value in it is
pub named_fine : (limits : Limits) (d : ℕ) (s q : Spot) (limit : ℕ) (names : List (List ℕ)) (f : ℕ → Option Value)
    → TakesNames limits s (length names) → AreNames limit names → All IsSpellableText names
    → ((key : List ℕ) → under s key ≡ q)
    → ((k : ℕ) (v : Value) → k < length names → f k ≡ Some v → IsFine limits d q v)
    → IsFine limits (suc d) s (object_of (named names f))
named_fine limits d s q limit names f t a spelled u h =
    object_fine limits d s (named names f) t.own t.plain (names_inside limits s limit names f t a)
    (all_lists (IsFineField limits d s) (length names) (λ k. optional (slice_index_or names k []) (f k))
    (λ k l. all_optional (IsFineField limits d s) (slice_index_or names k []) (f k) (λ v e. record {
      key = All-get_or IsSpellableText names k [] l spelled;
      value = subst (λ (x : Spot). IsFine limits d x v) (sym (u (slice_index_or names k []))) (h k v l e);
    })))
