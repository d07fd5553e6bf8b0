-- The keys of an object of names without a fault of shape are names, no two the same, and no more than the limit.
use Rattle.std.proofs.Common.{◌≡◌, ◌≢◌, ℕ, ◌+◌, ◌<◌, ◌≤◌, ◌&&◌, Bool, true, false, not, List, [], ◌∷◌, ◌++◌, map}
use Rattle.std.proofs.Common.{length, Option, Some, refl, sym, ◌∙◌, ap, subst, arith, bytes_eq, length-append}
use Rattle.std.specs.Prelude.{All, AllPairs, nat_le, ◌==◌, ◌||◌, slice_index_or}
use Rattle.std.proofs.lemmas.Bool.{or_parts, not-false, both_ways, and_parts, leb-true}
use Rattle.std.proofs.lemmas.Bool.Decides.{nat_tests}
use Rattle.std.proofs.lemmas.List.Elements.{All-nil, All-cons}
use Rattle.std.proofs.lemmas.List.Kept.{AllPairs-cons}
use Rattle.std.proofs.lemmas.Slice.Eq.{bytes_eq-Decides}
use Rattle.json_grammar.specs.Tree.{Tree, tree, Node, Members, no_members, and_member}
use Rattle.instance_model.specs.declared.limits.Limits.{Limits}
use Rattle.instance_model.specs.Fitting.{IsName, AreNames}
use Rattle.instance_shape.specs.declared.fault.Flaw.TheVariants as flaw
use Rattle.instance_shape.specs.declared.fault.Known.{Known}
use Rattle.instance_shape.specs.declared.fault.Which.{Which}
use Rattle.instance_shape.specs.declared.spot.Kind.{Kind}
use Rattle.instance_shape.specs.declared.spot.Kind.TheVariants as kind
use Rattle.instance_shape.specs.declared.spot.Spot.{Spot}
use Rattle.instance_shape.specs.Keys.{Key, by_text, key_of, has_key, same_key, is_double, is_name, is_digits}
use Rattle.instance_shape.specs.Keys.{is_printed, all_bytes, text_of}
use Rattle.instance_shape.specs.Shape.{kind_of, under}
use Rattle.instance_shape.specs.ShapeFaults.{where_so, keys_faults, key_faults, key_limit, first_past, takes_names}
use Rattle.instance_shape.specs.ShapeFaults.{takes_numbers}
use Rattle.instance_shape.specs.LookUp.{entry_list, keys, known}
use Rattle.instance_shape.proofs.Clear.{IsClear, clear_left, clear_right, not_so, inside_clear}
use Rattle.instance_shape.proofs.ClearParts.{known_clear}

-- ---- a name

printed_all : (bs : List ℕ) → all_bytes is_printed bs ≡ true → All (λ b. (32 < b) × (b ≢ 127)) bs
printed_all [] h = All-nil (λ b. (32 < b) × (b ≢ 127))
printed_all (b ∷ bs) h =
    let both = and_parts (is_printed b) (all_bytes is_printed bs) h in
    All-cons (λ b. (32 < b) × (b ≢ 127)) b bs (test b both.0) (printed_all bs both.1)
  where
    test : (b : ℕ) → is_printed b ≡ true → (32 < b) × (b ≢ 127)
    test b h = grind (arith, nat_tests)

name_is : (k : List ℕ) → is_name k ≡ true → IsName k
name_is k h =
    let both = and_parts (nat_le 1 (length k) && nat_le (length k) 128) (all_bytes is_printed k) h in
    let sizes = and_parts (nat_le 1 (length k)) (nat_le (length k) 128) both.0 in
    record {
      some = leb-true 1 (length k) sizes.0;
      short = leb-true (length k) 128 sizes.1;
      printed = printed_all k both.1;
    }

-- ---- one key

-- the keys of an object at a spot are names, and no more than a limit
pub record HoldsNames (limits : Limits) (s : Spot) (limit : ℕ) : Type 0 where
  pub names : kind_of s ≡ kind.Names
  pub which : Which
  pub limited : key_limit limits s ≡ Some (limit, which)

record IsGoodKey (limit : ℕ) (earlier : List Key) (k : List ℕ) : Type 0 where
  new : has_key earlier (by_text k) ≡ false
  shaped : IsName k
  room : (length earlier == limit) ≡ false

good_key : (limits : Limits) (s : Spot) (limit : ℕ) (e : List Key) (k : List ℕ) (at : ℕ) → HoldsNames limits s limit
    → key_faults limits s e at k ≡ [] → IsGoodKey limit e k
good_key limits s limit e k at n h =
    let double = where_so (is_double e (key_of (kind_of s) k)) at flaw.Double in
    let bad = where_so (takes_names (kind_of s) && not (is_name k)) at flaw.BadName in
    let odd = where_so (takes_numbers (kind_of s) && not (is_digits k)) at flaw.Shape in
    let two : double ++ bad ≡ [] = clear_left (double ++ bad) odd
    (clear_left (double ++ bad ++ odd) (first_past (key_limit limits s) (length e) at) h) in
    let past : first_past (key_limit limits s) (length e) at ≡ [] =
    clear_right (double ++ bad ++ odd) (first_past (key_limit limits s) (length e) at) h in
    let not_double : is_double e (key_of (kind_of s) k) ≡ false =
    not_so (is_double e (key_of (kind_of s) k)) at flaw.Double (clear_left double bad two) in
    let not_bad : takes_names (kind_of s) && not (is_name k) ≡ false =
    not_so (takes_names (kind_of s) && not (is_name k)) at flaw.BadName (clear_right double bad two) in
    let not_past : where_so (length e == limit) at (flaw.Limit n.which) ≡ [] =
    subst (λ (l : Option (ℕ × Which)). first_past l (length e) at ≡ []) n.limited past in
    record {
      new = subst (λ (kd : Kind). is_double e (key_of kd k) ≡ false) n.names not_double;
      shaped = name_is k
          (not-false (is_name k) (subst (λ (kd : Kind). takes_names kd && not (is_name k) ≡ false) n.names not_bad));
      room = not_so (length e == limit) at (flaw.Limit n.which) not_past;
    }

-- ---- all keys

-- names behind earlier keys: new, of the right shape, no two the same, and no more than the limit allows
record AreGood (limit : ℕ) (earlier : List Key) (names : List (List ℕ)) : Type 0 where
  few : length earlier + length names ≤ limit
  new : All (λ k. has_key earlier (by_text k) ≡ false) names
  shaped : All IsName names
  apart : AllPairs (λ a b. a ≢ b) names

has_key-more : (e : List Key) (j k : Key) → has_key (e ++ j ∷ []) k ≡ has_key e k || same_key k j
has_key-more [] j k = by (same_key k j)
  where
    by : (b : Bool) → b || false ≡ b
    by true = refl
    by false = refl
has_key-more (i ∷ e) j k = by (same_key k i) (has_key-more e j k)
  where
    by : (b : Bool) → has_key (e ++ j ∷ []) k ≡ has_key e k || same_key k j
        → b || has_key (e ++ j ∷ []) k ≡ (b || has_key e k) || same_key k j
    by true h = refl
    by false h = h

-- a name that is new behind one key more is new behind the keys before, and isn't that key
new_before : (e : List Key) (j k : List ℕ) → has_key (e ++ by_text j ∷ []) (by_text k) ≡ false
    → (has_key e (by_text k) ≡ false) × (j ≢ k)
new_before e j k h =
    let both = or_parts (has_key e (by_text k)) (bytes_eq k j) (sym (has_key-more e (by_text j) (by_text k)) ∙ h) in
    (both.0, λ q. both_ways (bytes_eq k j) both.1 ((bytes_eq-Decides k j).1 (sym q)))

one_more : (n m : ℕ) → n ≤ m → (n == m) ≡ false → n + 1 ≤ m
one_more n m h k = grind (arith, nat_tests)

good_names : (limits : Limits) (s : Spot) (limit : ℕ) (e : List Key) (ms : Members) → HoldsNames limits s limit
    → length e ≤ limit → keys_faults limits s e ms ≡ [] → AreGood limit e (map (λ n. n.key) (entry_list ms))
good_names limits s limit e no_members n l h = record {
  few = omega arith;
  new = All-nil (λ k. has_key e (by_text k) ≡ false);
  shaped = All-nil IsName;
  apart = λ i j d k m. absurd (omega arith);
}
good_names limits s limit e (and_member at end k t ms) n l h =
    let names = map (λ n. n.key) (entry_list ms) in
    let g : IsGoodKey limit e k = good_key limits s limit e k at n (clear_left (key_faults limits s e at k) _ h) in
    let more : e ++ key_of (kind_of s) k ≡ e ++ by_text k ∷ [] = ap (λ kd. e ++ key_of kd k) n.names in
    let size : length (e ++ by_text k ∷ []) ≡ length e + 1 = length-append e (by_text k ∷ []) in
    let rest : keys_faults limits s (e ++ by_text k ∷ []) ms ≡ [] =
    subst (λ (q : List Key). keys_faults limits s q ms ≡ []) more (clear_right (key_faults limits s e at k) _ h) in
    let r : AreGood limit (e ++ by_text k ∷ []) names = good_names limits s limit (e ++ by_text k ∷ []) ms n
    (omega (arith, size, one_more (length e) limit l g.room)) rest in
    record {
      few = omega (arith, size, r.few);
      new = All-cons (λ q. has_key e (by_text q) ≡ false) k names g.new
          (λ i d m. (new_before e k (slice_index_or names i d) (r.new i d m)).0);
      shaped = All-cons IsName k names g.shaped r.shaped;
      apart = AllPairs-cons (λ a b. a ≢ b) k names
          (λ i d m. (new_before e k (slice_index_or names i d) (r.new i d m)).1) r.apart;
    }

-- ---- an object of names

no_names : (limit : ℕ) → AreNames limit []
no_names limit = record { few = omega arith; shaped = All-nil IsName; apart = λ i j d k m. absurd (omega arith) }

keys_fit : (limits : Limits) (s : Spot) (limit : ℕ) (t : Tree) → HoldsNames limits s limit → IsClear limits s t
    → AreNames limit (keys t)
keys_fit limits s limit (tree at end (Node.object ms)) n h =
    let g : AreGood limit [] (map (λ n. n.key) (entry_list ms)) = good_names limits s limit [] ms n (omega arith)
    (clear_left (keys_faults limits s [] ms) _ (inside_clear limits s at end (Node.object ms) h)) in
    record { few = omega (arith, g.few); shaped = g.shaped; apart = g.apart }
keys_fit limits s limit (tree at end _) n h = no_names limit

-- the keys of the object under a required key are names
pub names_fit : (limits : Limits) (s : Spot) (k : Known) (limit most : ℕ) (t : Tree)
    → HoldsNames limits (under s (text_of k)) limit → limit ≤ most → IsClear limits s t
    → AreNames most (keys (known k t))
names_fit limits s k limit most t n l h =
    let a : AreNames limit (keys (known k t)) = known_clear limits s k t (λ v. AreNames limit (keys v)) h
    (no_names limit) (λ v c. keys_fit limits (under s (text_of k)) limit v n c) in
    record { few = omega (arith, l, a.few); shaped = a.shaped; apart = a.apart }
