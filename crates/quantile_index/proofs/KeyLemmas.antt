-- Sort keys of sums: their entries in the order of the keys are the ranking of the sums.
use Rattle.std.proofs.Common.{◌≡◌, ℕ, zero, suc, ◌+◌, ◌%◌, ◌^◌, ◌<◌, ◌≤◌, ℤ, pos, negsuc}
use Rattle.std.proofs.Common.{◌+ℤ◌, ◌*ℤ◌, ◌≤ℤ◌, false, List, [], ◌∷◌, ◌++◌, length, map, get_or, take, drop}
use Rattle.std.proofs.Common.{count_by, cond}
use Rattle.std.proofs.Common.{refl, sym, ap, subst, ◌∙◌, inl, inr, arith, All, nat_cmp, is_lt, unsigned_abs}
use Rattle.std.specs.List.Sorted.{IsPermutation, IsSortedBy}
use Rattle.std.proofs.Math.Nat.{mod-lt}
use Rattle.std.proofs.lemmas.Nat.{div-add-mod'}
use Rattle.std.proofs.lemmas.Bool.{cases_Bool, eq-eqb, eqb-true}
use Rattle.std.specs.Int.{w128}
use Rattle.std.proofs.Common.{to_z, of_z}
use Rattle.std.proofs.lemmas.Int.{ints, to_z_pos}
use Rattle.std.proofs.lemmas.List.{length-map, ext_get_or, get_or_default, get_or-map}
use Rattle.std.proofs.lemmas.List.Sorted.{IsPermutation-map, sum_by-IsPermutation}
use Rattle.fixed_num.specs.Floors.{floor_of}
use Rattle.fixed_num.proofs.FloorLemmas.{floor_of_unique, floor_of_mono}
use Rattle.fixed_num.proofs.SignedLemmas.{signed_arith, back_from_abs}
use Rattle.quantile_index.specs.declared.entry.Entry.{Entry}
use Rattle.quantile_index.specs.Order.{IsBefore, IsOrdered}
use Rattle.quantile_index.specs.Ranking.{numbered, has_scenario, IsSameBag, IsRanking}
use Rattle.quantile_index.specs.SortKeys.{key_of, place_of, entry_of, IsKeyIn, key_above, key_less}
use Rattle.quantile_index.proofs.BagLemmas.{count_yes, count_no, none_numbered, length-numbered}
use Rattle.quantile_index.proofs.OrderLemmas.{before_trans, AllEntries-map}

-- ---- keys

-- a number is 1,024 times its quotient and its place
pub record IsSplit (key : ℤ) : Type 0 where
  pub parts : key ≡ (floor_of key 1024 *ℤ pos 1024) +ℤ pos (place_of key)
  pub few : place_of key < 1024

pub IsSplit-any : (key : ℤ) → IsSplit key
unfolding place_of
IsSplit-any (pos a) =
    let d = div-add-mod' a 1024 in
    let m : a % 1024 < 1024 = mod-lt a (omega arith) in
    record { parts = omega (arith, signed_arith, d); few = m }
IsSplit-any (negsuc a) =
    let d = div-add-mod' a 1024 in
    let m : a % 1024 < 1024 = mod-lt a (omega arith) in
    record { parts = omega (arith, signed_arith, d, m); few = omega (arith, m) }

floor_key : (s : ℤ) (k : ℕ) → k < 1024 → s ≡ floor_of (key_of s k) 1024
unfolding key_of
floor_key s k l = floor_of_unique ((s *ℤ pos 1024) +ℤ pos k) s 1024 (omega arith) (omega (arith, signed_arith))
    (omega (arith, signed_arith, l))

key_is : (s : ℤ) (k : ℕ) → key_of s k ≡ (s *ℤ pos 1024) +ℤ pos k
unfolding key_of
key_is s k = refl

pub key_small : (s : ℤ) (k : ℕ) → unsigned_abs s < 10 ^ 24 → k < 1024 → unsigned_abs (key_of s k) < 10 ^ 30
unfolding key_of
key_small s k a b = omega (arith, signed_arith, a, b)

-- the key as the code computes it, from bits
pub key_bits : (s : ℤ) (k : ℕ) → unsigned_abs s < 10 ^ 24 → k < 1024
    → to_z w128 (of_z w128 (to_z w128 (of_z w128 (to_z w128 (of_z w128 s) *ℤ pos 1024)) +ℤ to_z w128 k)) ≡ key_of s k
unfolding key_of
key_bits s k a b =
    let times : unsigned_abs (s *ℤ pos 1024) < 2 ^ 127 = omega (arith, signed_arith, a) in
    let plus : unsigned_abs ((s *ℤ pos 1024) +ℤ pos k) < 2 ^ 127 = omega (arith, signed_arith, a, b) in
    rw (
      back_from_abs s (omega (arith, a)),
      back_from_abs (s *ℤ pos 1024) times,
      to_z_pos w128 k (omega (arith, b)),
      back_from_abs ((s *ℤ pos 1024) +ℤ pos k) plus,
    ) refl

place_key : (s : ℤ) (k : ℕ) → k < 1024 → place_of (key_of s k) ≡ k
place_key s k l = at (key_of s k) (key_is s k) (floor_key s k l) (IsSplit-any (key_of s k))
  where
    at : (key : ℤ) → key ≡ (s *ℤ pos 1024) +ℤ pos k → s ≡ floor_of key 1024 → IsSplit key → place_of key ≡ k
    at key e f split =
        let same : key ≡ (s *ℤ pos 1024) +ℤ pos (place_of key) = rw f split.parts in
        omega (arith, signed_arith, e, same)

entry_key : (s : ℤ) (k : ℕ) → k < 1024 → entry_of (key_of s k) ≡ record { sum = s; scenario = k + 1 }
unfolding entry_of
entry_key s k l =
    ap (λ (z : ℤ). record { sum = z; scenario = place_of (key_of s k) + 1 }) (sym (floor_key s k l))
    ∙ ap (λ (j : ℕ). record { sum = s; scenario = j + 1 }) (place_key s k l)

-- the entry of a key of some sums
pub entry_in : (sums : List ℤ) (key : ℤ) (s : ℤ) (k : ℕ) → IsKeyIn sums key → k ≡ place_of key
    → s ≡ get_or sums k (pos 0) → entry_of key ≡ record { sum = s; scenario = k + 1 }
entry_in sums key s k h p q =
    ap entry_of (h.value ∙ sym (ap (λ (j : ℕ). key_of (get_or sums j (pos 0)) j) p))
    ∙ entry_key (get_or sums k (pos 0)) k (rw p (IsSplit-any key).few)
    ∙ ap (λ (z : ℤ). record { sum = z; scenario = k + 1 }) (sym q)

-- ---- what was read

get_or-numbered : (n : ℕ) (sums : List ℤ) (k : ℕ) (d : Entry) → k < length sums
    → get_or (numbered n sums) k d ≡ record { sum = get_or sums k (pos 0); scenario = n + k }
get_or-numbered n [] k d h = absurd (omega (arith, h))
get_or-numbered n (s ∷ sums) zero d h =
    let e : n ≡ n + 0 = omega arith in
    ap (λ (j : ℕ). record { sum = s; scenario = j }) e
get_or-numbered n (s ∷ sums) (suc k) d h =
    let e : n + 1 + k ≡ n + suc k = omega arith in
    get_or-numbered (n + 1) sums k d (omega (arith, h))
    ∙ ap (λ (j : ℕ). record { sum = get_or sums k (pos 0); scenario = j }) e

-- each sum has its key
pub record AreRead (sums keys : List ℤ) : Type 0 where
  pub few : length sums ≤ 1024
  pub each : length keys ≡ length sums
  pub key : (k : ℕ) → k < length sums → get_or keys k (pos 0) ≡ key_of (get_or sums k (pos 0)) k
  pub small : (k : ℕ) → k < length sums → unsigned_abs (get_or keys k (pos 0)) < 10 ^ 30

pub entries_read : (sums keys : List ℤ) → AreRead sums keys → map entry_of keys ≡ numbered 1 sums
entries_read sums keys r =
    let none : Entry = record { sum = pos 0; scenario = 0 } in
    ext_get_or none (map entry_of keys) (numbered 1 sums)
    (length-map keys entry_of ∙ r.each ∙ sym (length-numbered 1 sums)) (λ k l.
    let low : k < length sums = omega (arith, l, length-map keys entry_of, r.each) in
    let next : k + 1 ≡ 1 + k = omega arith in
    get_or-map entry_of keys k (pos 0) none (omega (arith, low, r.each))
    ∙ ap entry_of (r.key k low)
    ∙ entry_key (get_or sums k (pos 0)) k (omega (arith, low, r.few))
    ∙ ap (λ (j : ℕ). record { sum = get_or sums k (pos 0); scenario = j }) next
    ∙ sym (get_or-numbered 1 sums k none low))

pub keys_read : (sums keys : List ℤ) → AreRead sums keys → All (IsKeyIn sums) keys
keys_read sums keys r = λ k d l.
    let low : k < length sums = omega (arith, l, r.each) in
    let is : get_or keys k d ≡ key_of (get_or sums k (pos 0)) k = get_or_default keys k d (pos 0) l ∙ r.key k low in
    let place = place_key (get_or sums k (pos 0)) k (omega (arith, low, r.few)) in
    let small : unsigned_abs (key_of (get_or sums k (pos 0)) k) < 10 ^ 30 = rw (sym (r.key k low)) (r.small k low) in
    subst (IsKeyIn sums) (sym is) (record {
      within = rw place low;
      value = sym (ap (λ (j : ℕ). key_of (get_or sums j (pos 0)) j) place);
      small = small;
    })

pub entries_written : (keys : List ℤ) (entries : List Entry) → length entries ≡ length keys
    → ((k : ℕ) (d : Entry) → k < length keys → get_or entries k d ≡ entry_of (get_or keys k (pos 0)))
    → entries ≡ map entry_of keys
entries_written keys entries each h =
    let none : Entry = record { sum = pos 0; scenario = 0 } in
    ext_get_or none entries (map entry_of keys) (each ∙ sym (length-map keys entry_of)) (λ k l.
    let low : k < length keys = omega (arith, l, each) in
    h k none low ∙ sym (get_or-map entry_of keys k (pos 0) none low))

-- ---- the order that a sort makes

not_less : (x y : ℤ) → key_less y x ≡ false → x ≤ℤ y
not_less x y h = grind (arith, ints)

-- of two keys of which the second isn't less, the first comes before where the scenarios differ
not_after : (x y : ℤ) → key_less y x ≡ false → ((entry_of x).scenario ≡ (entry_of y).scenario → ⊥)
    → IsBefore (entry_of x) (entry_of y)
unfolding entry_of
not_after x y h other =
    let low = not_less x y h in
    let a = IsSplit-any x in
    let b = IsSplit-any y in
    let apart : (place_of x ≡ place_of y) → ⊥ = λ e. other (ap (λ (k : ℕ). k + 1) e) in
    record {
      not_above = floor_of_mono x y 1024 (omega arith) low;
      tie = λ l. omega (arith, signed_arith, low, a.parts, b.parts, a.few, b.few, l, apart);
    }

numbered_once : (n : ℕ) (sums : List ℤ) (s : ℕ) → count_by (has_scenario s) (numbered n sums) ≤ 1
numbered_once n [] s = omega arith
numbered_once n (x ∷ sums) s =
    let first : Entry = record { sum = x; scenario = n } in
    elim (cases_Bool (has_scenario s first)) [
      | inl q ↦
          let same : n ≡ s = eqb-true n s q in
          let none = none_numbered s (n + 1) sums (omega (arith, same)) in
          let one = count_yes (has_scenario s) first (numbered (n + 1) sums) q in
          omega (arith, none, one)
      | inr q ↦
          let none = count_no (has_scenario s) first (numbered (n + 1) sums) q in
          let rest = numbered_once (n + 1) sums s in
          omega (arith, none, rest)
    ]

-- two entries of one scenario are counted twice
twice : (e f : Entry) (xs : List Entry) → e.scenario ≡ f.scenario → 1 < count_by (has_scenario e.scenario) (e ∷ f ∷ xs)
twice e f xs same =
    let first = count_yes (has_scenario e.scenario) e (f ∷ xs) (eq-eqb e.scenario e.scenario refl) in
    let second = count_yes (has_scenario e.scenario) f xs (eq-eqb f.scenario e.scenario (sym same)) in
    omega (arith, first, second)

less_counted : (s : ℕ) (e : Entry) (xs : List Entry) → count_by (has_scenario s) xs ≤ count_by (has_scenario s) (e ∷ xs)
less_counted s e xs =
    elim (cases_Bool (has_scenario s e)) [
      | inl q ↦ let c = count_yes (has_scenario s) e xs q in omega (arith, c)
      | inr q ↦ let c = count_no (has_scenario s) e xs q in omega (arith, c)
    ]

ordered_keys : (keys : List ℤ) → ((s : ℕ) → count_by (has_scenario s) (map entry_of keys) ≤ 1)
    → IsSortedBy key_less keys → IsOrdered (map entry_of keys)
ordered_keys [] once sorted = tt
ordered_keys (p ∷ []) once sorted = (tt, tt)
ordered_keys (p ∷ q ∷ keys) once sorted =
    let first = not_after p q (sorted 0 p (omega arith) (omega arith)) (λ same.
    let one = once (entry_of p).scenario in
    let two = twice (entry_of p) (entry_of q) (map entry_of keys) same in
    absurd (omega (arith, one, two))) in
    let rest = ordered_keys (q ∷ keys)
    (λ s. let one = once s in let fewer = less_counted s (entry_of p) (map entry_of (q ∷ keys)) in
    omega (arith, one, fewer))
    (λ k d low more.
    let next : suc k + 1 ≡ suc (k + 1) = omega arith in
    subst (λ (j : ℕ). key_less (get_or (p ∷ q ∷ keys) j d) (get_or (q ∷ keys) k d) ≡ false) next
    (sorted (suc k) d (omega arith) (omega (arith, more)))) in (
      (
        first,
        AllEntries-map (λ z. IsBefore (entry_of q) z) (λ z. IsBefore (entry_of p) z)
            (λ z r. before_trans (entry_of p) (entry_of q) z first r) (map entry_of keys) rest.0,
      ),
      rest,
    )

-- keys that were made and sorted give the ranking of the sums
pub IsRanking-sorted : (sums : List ℤ) (read sorted : List ℤ) → map entry_of read ≡ numbered 1 sums
    → IsPermutation read sorted → IsSortedBy key_less sorted → IsRanking (map entry_of sorted) sums
IsRanking-sorted sums read sorted e moved up =
    let moves = IsPermutation-map entry_of read sorted moved in
    let bag : IsSameBag (map entry_of sorted) (numbered 1 sums) =
    record {
      counts = λ p. sum_by-IsPermutation (λ y. cond (p y) 1 0) (map entry_of read) (map entry_of sorted) moves
          ∙ ap (count_by p) e;
    } in
    record {
      ordered = ordered_keys sorted (λ s. let c = bag.counts (has_scenario s) in
          let one = numbered_once 1 sums s in omega (arith, c, one)) up;
      bag = bag;
    }

-- ---- keys by how far they are above the least

pub keys_above : (least : ℤ) (keys : List ℤ) (narrow : List ℕ) → length narrow ≡ length keys
    → ((k : ℕ) → k < length keys → get_or keys k (pos 0) ≡ key_above least (get_or narrow k 0))
    → keys ≡ map (key_above least) narrow
keys_above least keys narrow each h =
    ext_get_or (pos 0) keys (map (key_above least) narrow) (sym each ∙ sym (length-map narrow (key_above least)))
    (λ k l. h k l ∙ sym (get_or-map (key_above least) narrow k 0 (pos 0) (omega (arith, l, each))))

narrow_not_less : (m n : ℕ) → is_lt (nat_cmp m n) ≡ false → n ≤ m
narrow_not_less m n h = grind arith

not_less_from : (x y : ℤ) → y ≤ℤ x → key_less x y ≡ false
not_less_from x y h = grind (arith, ints)

above_not_less : (least : ℤ) (m n : ℕ) → is_lt (nat_cmp m n) ≡ false
    → key_less (key_above least m) (key_above least n) ≡ false
above_not_less least m n h =
    let low = narrow_not_less m n h in
    not_less_from (key_above least m) (key_above least n) (omega (arith, ints, low))

-- keys are in order where these numbers are
pub sorted_above : (least : ℤ) (narrow : List ℕ) → IsSortedBy (λ m n. is_lt (nat_cmp m n)) narrow
    → IsSortedBy key_less (map (key_above least) narrow)
sorted_above least narrow up = λ k d low more.
    let next : k + 1 < length narrow = omega (arith, more, length-map narrow (key_above least)) in
    rw (
      get_or-map (key_above least) narrow (k + 1) 0 d next,
      get_or-map (key_above least) narrow k 0 d (omega (arith, next)),
    ) (above_not_less least (get_or narrow (k + 1) 0) (get_or narrow k 0) (up k 0 low next))

-- ---- a list around one of its keys

pub map_parts : (keys : List ℤ) (i : ℕ) (d : ℤ) → i < length keys
    → map entry_of (take i keys) ++ entry_of (get_or keys i d)
    ∷ map entry_of (drop (i + 1) keys) ≡ map entry_of keys
map_parts [] i d h = absurd (omega (arith, h))
map_parts (p ∷ keys) zero d h = refl
map_parts (p ∷ keys) (suc i) d h =
    let next : suc i + 1 ≡ suc (i + 1) = omega arith in
    ap (λ (j : ℕ). map entry_of (take (suc i) (p ∷ keys)) ++ entry_of (get_or keys i d)
    ∷ map entry_of (drop j (p ∷ keys))) next
    ∙ ap (λ (xs : List Entry). entry_of p ∷ xs) (map_parts keys i d (omega (arith, h)))
