-- Values that are spelled, are shallow, and have no fault of shape and no rounded number
-- at a spot: numbers, texts, lists and objects, each by what is in it.
use Rattle.std.proofs.Common.{◌≡◌, ℕ, suc, ◌+◌, ◌<◌, ◌≤◌, Bool, true, false, cond, not, ◌&&◌, ◌||◌}
use Rattle.std.proofs.Common.{List, [], ◌∷◌, ◌++◌, length, get_or, refl, sym, ◌∙◌, ap, subst, arith}
use Rattle.std.proofs.Common.{length-append}
use Rattle.std.specs.Prelude.{All, AllPairs}
use Rattle.std.proofs.lemmas.List.Elements.{All-head, All-tail, All-weaker}
use Rattle.json_grammar.specs.Grammar.{IsNumber}
use Rattle.json_grammar.specs.Tree.{Tree, tree, Node, Members}
use Rattle.json_grammar.specs.laws.Value.{Value, values_of, Field, fields_of, depth}
use Rattle.json_grammar.specs.laws.Spellable.{IsSpellableText, IsSound}
use Rattle.json_grammar.proofs.LawsSpelledParts.{AreSound-values_of, IsSoundField, AreSoundFields-fields_of}
use Rattle.json_grammar.proofs.LawsSpelledParts.{values_depth-values_of}
use Rattle.json_grammar.proofs.LawsSpelledParts.{fields_depth-fields_of}
use Rattle.json_grammar.specs.laws.Spelling.{spell, quoted}
use Rattle.json_grammar.specs.laws.Placed.{placed_at, placed_values, placed_fields}
use Rattle.instance_model.specs.declared.limits.Limits.{Limits}
use Rattle.instance_shape.specs.declared.fault.Flaw.{Flaw}
use Rattle.instance_shape.specs.declared.fault.Flaw.TheVariants as flaw
use Rattle.instance_shape.specs.declared.spot.Spot.{Spot}
use Rattle.instance_shape.specs.Keys.{Key, key_of, same_key, has_key, is_double, is_name, is_digits}
use Rattle.instance_shape.specs.Shape.{Placed, placed, placed_elements, placed_members, kind_of, element}
use Rattle.instance_shape.specs.Shape.{under}
use Rattle.instance_shape.specs.ShapeFaults.{where_so, takes_names, takes_numbers, key_limit, first_past}
use Rattle.instance_shape.specs.ShapeFaults.{keys_faults, own_faults, inside_faults, tree_faults, values_faults}
use Rattle.instance_shape.specs.LookUp.{differs_at}
use Rattle.instance_shape.specs.FileTables.{is_count, rounded}
use Rattle.instance_shape.proofs.Clear.{values_faults-append, clear_both}
use Rattle.instance_writer.specs.text.Written.{object_of}

-- ---- faults that aren't there

pub no_fault : (b : Bool) (at : ℕ) (f : Flaw) → b ≡ false → where_so b at f ≡ []
no_fault false at f h = refl
no_fault true at f h = cc

-- values one after another without a fault and without a rounded number
pub record AreClear (limits : Limits) (ps : List Placed) : Type 0 where
  pub clear : values_faults limits ps ≡ []
  pub exact : rounded ps ≡ 0

none_clear : (limits : Limits) → AreClear limits []
none_clear limits = record { clear = refl; exact = refl }

rounded-append : (ps qs : List Placed) → rounded (ps ++ qs) ≡ rounded ps + rounded qs
rounded-append [] qs = omega arith
rounded-append (p ∷ ps) qs = omega (arith, rounded-append ps qs)

both_clear : (limits : Limits) (ps qs : List Placed) → AreClear limits ps → AreClear limits qs
    → AreClear limits (ps ++ qs)
both_clear limits ps qs a b = record {
  clear = values_faults-append limits ps qs
      ∙ clear_both (values_faults limits ps) (values_faults limits qs) a.clear b.clear;
  exact = omega (arith, rounded-append ps qs, a.exact, b.exact);
}

-- ---- a value at a spot

-- a value that is spelled, nested at most so deep, and without a fault of shape and a rounded number at a spot
pub record IsFine (limits : Limits) (n : ℕ) (s : Spot) (v : Value) : Type 0 where
  pub sound : IsSound v
  pub shallow : depth v ≤ n
  pub clear : (k : ℕ) → AreClear limits (placed s (placed_at k v))

pub deeper_fine : (limits : Limits) (n m : ℕ) (s : Spot) (v : Value) → n ≤ m → IsFine limits n s v
    → IsFine limits m s v
deeper_fine limits n m s v l h = record { sound = h.sound; shallow = omega (arith, h.shallow); clear = h.clear }

not_rounded : (b c : Bool) → (b ≡ true → c ≡ false) → ◌≡◌ {A = ℕ} (cond (b && c) 1 0) 0
not_rounded true c h = rw (h refl) refl
not_rounded false c h = refl

-- a value alone has no fault, and is no number that was rounded
alone_clear : (limits : Limits) (s : Spot) (t : Tree) → tree_faults limits s t ≡ []
    → (is_count (kind_of s) ≡ true → differs_at t ≡ false) → AreClear limits (record { spot = s; tree = t } ∷ [])
alone_clear limits s t h d = record {
  clear = clear_both (tree_faults limits s t) [] h refl;
  exact = omega (arith, not_rounded (is_count (kind_of s)) (differs_at t) d);
}

-- ---- numbers and texts

pub number_fine : (limits : Limits) (n : ℕ) (s : Spot) (token : List ℕ) → IsNumber token
    → ((at : ℕ) → own_faults limits s at (Node.number token) ≡ [])
    → (is_count (kind_of s) ≡ true → differs_at (tree 0 0 (Node.number token)) ≡ false)
    → IsFine limits n s (Value.number token)
number_fine limits n s token h own d = record {
  sound = h;
  shallow = omega arith;
  clear = λ k. alone_clear limits s (placed_at k (Value.number token))
      (clear_both (own_faults limits s k (Node.number token)) [] (own k) refl) d;
}

pub text_fine : (limits : Limits) (n : ℕ) (s : Spot) (text : List ℕ) → IsSpellableText text
    → ((at : ℕ) → own_faults limits s at (Node.text text) ≡ []) → is_count (kind_of s) ≡ false
    → IsFine limits n s (Value.text text)
text_fine limits n s text h own plain = record {
  sound = h;
  shallow = omega arith;
  clear = λ k. alone_clear limits s (placed_at k (Value.text text))
      (clear_both (own_faults limits s k (Node.text text)) [] (own k) refl) (λ e. cc);
}

-- ---- lists

values_clear : (limits : Limits) (n : ℕ) (s q : Spot) (vs : List Value) (m k : ℕ)
    → ((j : ℕ) → m ≤ j → j < m + length vs → element s j ≡ q) → All (IsFine limits n q) vs
    → AreClear limits (placed_elements s m (placed_values k (values_of vs)))
values_clear limits n s q [] m k e h = none_clear limits
values_clear limits n s q (v ∷ vs) m k e h =
    both_clear limits (placed (element s m) (placed_at k v)) _
    (subst (λ (x : Spot). AreClear limits (placed x (placed_at k v))) (sym (e m (omega arith) (omega arith)))
    ((All-head (IsFine limits n q) v vs h).clear k))
    (values_clear limits n s q vs (m + 1) (suc (k + length (spell v)))
    (λ j l r. e j (omega arith) (omega arith)) (All-tail (IsFine limits n q) v vs h))

pub list_fine : (limits : Limits) (n : ℕ) (s q : Spot) (vs : List Value)
    → ((at end k : ℕ) → tree_faults limits s (tree at end (Node.list (placed_values k (values_of vs)))) ≡ [])
    → is_count (kind_of s) ≡ false → ((m : ℕ) → m < length vs → element s m ≡ q) → All (IsFine limits n q) vs
    → IsFine limits (suc n) s (Value.list (values_of vs))
list_fine limits n s q vs own plain e h = record {
  sound = AreSound-values_of vs (All-weaker (IsFine limits n q) IsSound (λ v f. f.sound) vs h);
  shallow = omega (
    arith,
    values_depth-values_of n vs
        (All-weaker (IsFine limits n q) (λ v. depth v ≤ n) (λ v f. f.shallow) vs h),
  );
  clear = λ k. both_clear limits (record { spot = s; tree = placed_at k (Value.list (values_of vs)) } ∷ []) _
      (alone_clear limits s (placed_at k (Value.list (values_of vs)))
      (own k (k + length (spell (Value.list (values_of vs)))) (suc k)) (λ c. cc))
      (values_clear limits n s q vs 0 (suc k) (λ j l r. e j (omega arith)) h);
}

-- ---- objects

-- a field with a key that is spelled, and a value that is fine under it
pub record IsFineField (limits : Limits) (n : ℕ) (s : Spot) (f : Field) : Type 0 where
  pub key : IsSpellableText f.key
  pub value : IsFine limits n (under s f.key) f.value

fields_clear : (limits : Limits) (n : ℕ) (s : Spot) (fs : List Field) → All (IsFineField limits n s) fs → (k : ℕ)
    → AreClear limits (placed_members s (placed_fields k (fields_of fs)))
fields_clear limits n s [] h k = none_clear limits
fields_clear limits n s (f ∷ fs) h k =
    both_clear limits (placed (under s f.key) (placed_at (suc (k + length (quoted f.key))) f.value)) _
    ((All-head (IsFineField limits n s) f fs h).value.clear (suc (k + length (quoted f.key))))
    (fields_clear limits n s fs (All-tail (IsFineField limits n s) f fs h)
    (suc (suc (k + length (quoted f.key)) + length (spell f.value))))

pub object_fine : (limits : Limits) (n : ℕ) (s : Spot) (fs : List Field)
    → ((at : ℕ) (ms : Members) → own_faults limits s at (Node.object ms) ≡ []) → is_count (kind_of s) ≡ false
    → ((k last : ℕ) → inside_faults limits s last (Node.object (placed_fields k (fields_of fs))) ≡ [])
    → All (IsFineField limits n s) fs → IsFine limits (suc n) s (object_of fs)
object_fine limits n s fs own plain inside h = record {
  sound = AreSoundFields-fields_of fs (All-weaker (IsFineField limits n s) IsSoundField
      (λ f g. record { key = g.key; value = g.value.sound }) fs h);
  shallow = omega (
    arith,
    fields_depth-fields_of n fs
        (All-weaker (IsFineField limits n s) (λ f. depth f.value ≤ n) (λ f g. g.value.shallow) fs h),
  );
  clear = λ k. both_clear limits (record { spot = s; tree = placed_at k (object_of fs) } ∷ []) _
      (alone_clear limits s (placed_at k (object_of fs))
      (clear_both (own_faults limits s k (Node.object (placed_fields (suc k) (fields_of fs)))) _
      (own k (placed_fields (suc k) (fields_of fs))) (inside (suc k) _)) (λ c. cc))
      (fields_clear limits n s fs h (suc k));
}

-- ---- keys

-- a key has the form that an object at a spot wants
pub record IsGoodKey (s : Spot) (key : List ℕ) : Type 0 where
  pub name : takes_names (kind_of s) && not (is_name key) ≡ false
  pub number : takes_numbers (kind_of s) && not (is_digits key) ≡ false

has_key-append : (ks : List Key) (j k : Key) → has_key ks k ≡ false → same_key k j ≡ false
    → has_key (ks ++ j ∷ []) k ≡ false
has_key-append [] j k h e = rw e refl
has_key-append (i ∷ ks) j k h e = by (same_key k i) h (has_key-append ks j k)
  where
    by : (b : Bool) → b || has_key ks k ≡ false
        → (has_key ks k ≡ false → same_key k j ≡ false → has_key (ks ++ j ∷ []) k ≡ false)
        → b || has_key (ks ++ j ∷ []) k ≡ false
    by true h r = cc
    by false h r = r h e

-- keys in the right form, no two of them equal, and no more than the limit
pub keys_clear : (limits : Limits) (s : Spot) (as_key : List ℕ → Key)
    → ((key : List ℕ) → key_of (kind_of s) key ≡ as_key key ∷ []) → (fs : List Field) → (earlier : List Key) (k : ℕ)
    → All (λ f. IsGoodKey s f.key) fs → All (λ f. has_key earlier (as_key f.key) ≡ false) fs
    → AllPairs (λ f g. same_key (as_key g.key) (as_key f.key) ≡ false) fs
    → ((n at : ℕ) → n < length earlier + length fs → first_past (key_limit limits s) n at ≡ [])
    → keys_faults limits s earlier (placed_fields k (fields_of fs)) ≡ []
keys_clear limits s as_key one [] earlier k good new apart room = refl
keys_clear limits s as_key one (f ∷ fs) earlier k good new apart room =
    let at = k in
    let key = f.key in
    let form = All-head (λ f. IsGoodKey s f.key) f fs good in
    let double : is_double earlier (key_of (kind_of s) key) ≡ false =
    ap (is_double earlier) (one key) ∙ All-head (λ f. has_key earlier (as_key f.key) ≡ false) f fs new in
    let a = where_so (is_double earlier (key_of (kind_of s) key)) at flaw.Double in
    let b = where_so (takes_names (kind_of s) && not (is_name key)) at flaw.BadName in
    let c = where_so (takes_numbers (kind_of s) && not (is_digits key)) at flaw.Shape in
    let d = first_past (key_limit limits s) (length earlier) at in
    let here : a ++ b ++ c ++ d ≡ [] =
    clear_both (a ++ b ++ c) d (clear_both (a ++ b) c
    (clear_both a b (no_fault _ at flaw.Double double) (no_fault _ at flaw.BadName form.name))
    (no_fault _ at flaw.Shape form.number)) (room (length earlier) at (omega arith)) in
    let longer : length (earlier ++ as_key key ∷ []) ≡ length earlier + 1 =
    length-append earlier (as_key key ∷ []) in
    let rest : keys_faults limits s (earlier ++ as_key key ∷ [])
    (placed_fields (suc (suc (k + length (quoted key)) + length (spell f.value))) (fields_of fs)) ≡ [] =
    keys_clear limits s as_key one fs (earlier ++ as_key key ∷ []) _
    (All-tail (λ f. IsGoodKey s f.key) f fs good)
    (λ i e l. has_key-append earlier (as_key key) (as_key (get_or fs i e).key)
    (new (suc i) e (omega arith)) (apart 0 (suc i) e (omega arith) (omega arith)))
    (λ i j e l m. apart (suc i) (suc j) e (omega arith) (omega arith))
    (λ n at l. room n at (omega (arith, longer))) in
    clear_both (a ++ b ++ c ++ d) _ here
    (ap (λ ks. keys_faults limits s (earlier ++ ks)
    (placed_fields (suc (suc (k + length (quoted key)) + length (spell f.value))) (fields_of fs))) (one key) ∙ rest)
