-- Entries counted, and those of a row when one sum changes.
use Rattle.std.proofs.Common.{◌≡◌, ◌≢◌, ℕ, zero, suc, ◌+◌, ◌<◌, ◌≤◌, ℤ, Bool, true, false, cond, ◌&&◌, eqb, int_le, pos}
use Rattle.std.proofs.Common.{List, [], ◌∷◌, ◌++◌, length}
use Rattle.std.proofs.Common.{get_or, take, count_by, refl, sym, ap, subst, ◌∙◌, inl, inr, arith}
use Rattle.std.proofs.Math.ListN.{set}
use Rattle.std.proofs.lemmas.Bool.{and_parts, cases_Bool, eq-eqb, ne_eqb, eqb-true, both_ways}
use Rattle.std.proofs.lemmas.Int.{ints}
use Rattle.std.proofs.lemmas.List.{append-nil, length-take, take_more}
use Rattle.std.proofs.lemmas.List.Sums.{sum_by-cons, sum_by-append}
use Rattle.quantile_index.specs.declared.entry.Entry.{Entry}
use Rattle.quantile_index.specs.Order.{AllEntries, Inserts, IsIn}
use Rattle.quantile_index.specs.Ranking.{numbered, IsSameBag, has_scenario}

-- ---- counts of one entry and the others
pub count_yes : {X : Type 0} (p : X → Bool) (x : X) (xs : List X) → p x ≡ true
    → count_by p (x ∷ xs) ≡ suc (count_by p xs)
count_yes {X} p x xs h =
    sum_by-cons (λ y. cond (p y) 1 0) x xs ∙ ap (λ b. cond b 1 0 + count_by p xs) h ∙ one_more (count_by p xs)
  where
    one_more : (n : ℕ) → 1 + n ≡ suc n
    one_more n = omega arith

pub count_no : {X : Type 0} (p : X → Bool) (x : X) (xs : List X) → p x ≡ false → count_by p (x ∷ xs) ≡ count_by p xs
count_no {X} p x xs h =
    sum_by-cons (λ y. cond (p y) 1 0) x xs ∙ ap (λ b. cond b 1 0 + count_by p xs) h ∙ none_more (count_by p xs)
  where
    none_more : (n : ℕ) → 0 + n ≡ n
    none_more n = omega arith

-- how much one entry adds to a count
unfoldable pub score : (Entry → Bool) → Entry → ℕ
score p x = cond (p x) 1 0

pub count-cons : (p : Entry → Bool) (x : Entry) (xs : List Entry) → count_by p (x ∷ xs) ≡ score p x + count_by p xs
unfolding score
count-cons p x xs = sum_by-cons (λ y. cond (p y) 1 0) x xs

pub score_yes : (p : Entry → Bool) (x : Entry) → p x ≡ true → score p x ≡ 1
unfolding score
score_yes p x h = ap (λ b. cond b 1 0) h

pub count-append : (p : Entry → Bool) (xs ys : List Entry) → count_by p (xs ++ ys) ≡ count_by p xs + count_by p ys
count-append p xs ys = sum_by-append (λ y. cond (p y) 1 0) xs ys

pub count_inserts : (p : Entry → Bool) (e : Entry) (l m : List Entry) → Inserts e l m
    → count_by p m ≡ score p e + count_by p l
count_inserts p e l m i =
    let before = ap (count_by p) i.before ∙ count-append p i.front i.back in
    let after = ap (count_by p) i.after ∙ count-append p i.front (e ∷ i.back) in
    omega (arith, before, after, count-cons p e i.back)

-- an entry taken out of both, and put into both
pub bag_taken : (e : Entry) (rest entries left all : List Entry) → Inserts e rest entries → Inserts e left all
    → IsSameBag entries all →
    IsSameBag rest left
bag_taken e rest entries left all i j b =
    record { counts = λ p. omega (arith, count_inserts p e rest entries i, count_inserts p e left all j, b.counts p) }

pub bag_put : (e : Entry) (rest entries left all : List Entry) → Inserts e rest entries → Inserts e left all
    → IsSameBag rest left →
    IsSameBag entries all
bag_put e rest entries left all i j b =
    record { counts = λ p. omega (arith, count_inserts p e rest entries i, count_inserts p e left all j, b.counts p) }

-- ---- lengths
pub length-numbered : (n : ℕ) (sums : List ℤ) → length (numbered n sums) ≡ length sums
length-numbered n [] = refl
length-numbered n (s ∷ sums) = ap suc (length-numbered (n + 1) sums)

count_every : (xs : List Entry) → count_by (λ _. true) xs ≡ length xs
count_every [] = refl
count_every (x ∷ xs) = count_yes (λ _. true) x xs refl ∙ ap suc (count_every xs)

length_bag : (xs ys : List Entry) → IsSameBag xs ys → length xs ≡ length ys
length_bag xs ys b = sym (count_every xs) ∙ b.counts (λ _. true) ∙ count_every ys

-- as many entries as sums
pub length_ranked : (entries : List Entry) (sums : List ℤ) → IsSameBag entries (numbered 1 sums)
    → length entries ≡ length sums
length_ranked entries sums b = length_bag entries (numbered 1 sums) b ∙ length-numbered 1 sums

-- ---- an entry by its parts, and as a test
entry_is : (e : Entry) (s : ℤ) (k : ℕ) → e.sum ≡ s → e.scenario ≡ k → e ≡ record { sum = s; scenario = k }
entry_is e s k p q = ap (λ (y : ℤ). record e { sum = y }) p ∙ ap (λ (j : ℕ). record { sum = s; scenario = j }) q

abbrev pub is_same : Entry → Entry → Bool
is_same e x = int_le x.sum e.sum && int_le e.sum x.sum && eqb x.scenario e.scenario

le_both : (a b : ℤ) → int_le a b ≡ true → int_le b a ≡ true → a ≡ b
le_both a b h k = grind (arith, ints)

pub int_le_self : (a : ℤ) → int_le a a ≡ true
int_le_self a = grind (arith, ints)

same_is : (e x : Entry) → is_same e x ≡ true → e ≡ x
same_is e x h =
    let a = and_parts (int_le x.sum e.sum && int_le e.sum x.sum) (eqb x.scenario e.scenario) h in
    let b = and_parts (int_le x.sum e.sum) (int_le e.sum x.sum) a.0 in
    entry_is e x.sum x.scenario (le_both e.sum x.sum b.1 b.0) (sym (eqb-true x.scenario e.scenario a.1))

is_same_self : (e : Entry) → is_same e e ≡ true
is_same_self e = rw (int_le_self e.sum, eq-eqb e.scenario e.scenario refl) refl

is_in_from_count : (e : Entry) (xs : List Entry) → 0 < count_by (is_same e) xs → IsIn e xs
is_in_from_count e [] h = absurd (omega arith)
is_in_from_count e (x ∷ xs) h =
    elim (cases_Bool (is_same e x)) [
      | inl q ↦ inl (same_is e x q)
      | inr q ↦ inr (is_in_from_count e xs (let c = count_no (is_same e) x xs q in omega arith))
    ]

-- an entry of the one is an entry of the other
is_in_bag : (e : Entry) (left all entries : List Entry) → Inserts e left all
    → count_by (is_same e) entries ≡ count_by (is_same e) all →
    IsIn e entries
is_in_bag e left all entries i h =
    let c = count_inserts (is_same e) e left all i in
    let s = score_yes (is_same e) e (is_same_self e) in is_in_from_count e entries (omega arith)

-- ---- scenarios
pub none_numbered : (k n : ℕ) (sums : List ℤ) → k < n → count_by (has_scenario k) (numbered n sums) ≡ 0
none_numbered k n [] h = refl
none_numbered k n (s ∷ sums) h =
    let first : Entry = record { sum = s; scenario = n } in
    count_no (has_scenario k) first (numbered (n + 1) sums) (ne_eqb n k (omega arith))
    ∙ none_numbered k (n + 1) sums (omega arith)

none_past : (k n : ℕ) (sums : List ℤ) → n + length sums ≤ k → count_by (has_scenario k) (numbered n sums) ≡ 0
none_past k n [] h = refl
none_past k n (s ∷ sums) h =
    let first : Entry = record { sum = s; scenario = n } in
    count_no (has_scenario k) first (numbered (n + 1) sums) (ne_eqb n k (omega arith))
    ∙ none_past k (n + 1) sums (omega arith)

-- where no entry has its scenario, an entry is new
all_new : (e : Entry) (xs : List Entry) → count_by (has_scenario e.scenario) xs ≡ 0 → AllEntries (λ x. x ≢ e) xs
all_new e [] h = tt
all_new e (x ∷ xs) h =
    elim (cases_Bool (has_scenario e.scenario x)) [
      | inl q ↦ let c = count_yes (has_scenario e.scenario) x xs q in absurd (omega arith)
      | inr q ↦ (
        (λ same. both_ways (has_scenario e.scenario x) q (eq-eqb x.scenario e.scenario (ap (λ y. y.scenario) same))),
        all_new e xs (let c = count_no (has_scenario e.scenario) x xs q in omega arith),
      )
    ]

-- ---- a change of one sum
-- old is the entry of scenario n + i, and new that scenario's with the sum v
pub record IsChange (n : ℕ) (sums : List ℤ) (i : ℕ) (v : ℤ) (old new : Entry) : Type 0 where
  pub within : i < length sums
  pub default : ℤ
  pub old_sum : old.sum ≡ get_or sums i default
  pub old_scenario : old.scenario ≡ n + i
  pub new_sum : new.sum ≡ v
  pub new_scenario : new.scenario ≡ n + i

-- the entries of the other scenarios, before the change and after it
record Others (n : ℕ) (sums : List ℤ) (i : ℕ) (v : ℤ) (old new : Entry) : Type 0 where
  pub left : List Entry
  pub was : Inserts old left (numbered n sums)
  pub becomes : Inserts new left (numbered n (set sums i v))
  pub others : count_by (has_scenario (n + i)) left ≡ 0

inserts_first : (e : Entry) (xs ys : List Entry) → ys ≡ e ∷ xs → Inserts e xs ys
inserts_first e xs ys h = record { front = []; back = xs; before = refl; after = h }

inserts_behind : (x e : Entry) (l m : List Entry) → Inserts e l m → Inserts e (x ∷ l) (x ∷ m)
inserts_behind x e l m i = record {
  front = x ∷ i.front;
  back = i.back;
  before = ap (λ z. x ∷ z) i.before;
  after = ap (λ z. x ∷ z) i.after;
}

change_later : (n : ℕ) (s : ℤ) (sums : List ℤ) (i : ℕ) (v : ℤ) (old new : Entry)
    → IsChange n (s ∷ sums) (suc i) v old new →
    IsChange (n + 1) sums i v old new
change_later n s sums i v old new c = record {
  within = let h = c.within in omega arith;
  default = c.default;
  old_sum = c.old_sum;
  old_scenario = let o = c.old_scenario in omega arith;
  new_sum = c.new_sum;
  new_scenario = let m = c.new_scenario in omega arith;
}

others_first : (n : ℕ) (s : ℤ) (sums : List ℤ) (v : ℤ) (old new : Entry) → IsChange n (s ∷ sums) zero v old new
    → Others n (s ∷ sums) zero v old new
others_first n s sums v old new c =
    let rest = numbered (n + 1) sums in
    let o = entry_is old s n c.old_sum (let e = c.old_scenario in omega arith) in
    let m = entry_is new v n c.new_sum (let e = c.new_scenario in omega arith) in
    record {
      left = rest;
      was = inserts_first old rest (numbered n (s ∷ sums)) (ap (λ e. e ∷ rest) (sym o));
      becomes = inserts_first new rest (numbered n (v ∷ sums)) (ap (λ e. e ∷ rest) (sym m));
      others = none_numbered (n + 0) (n + 1) sums (omega arith);
    }

others_behind : (n : ℕ) (s : ℤ) (sums : List ℤ) (i : ℕ) (v : ℤ) (old new : Entry) → Others (n + 1) sums i v old new →
    Others n (s ∷ sums) (suc i) v old new
others_behind n s sums i v old new r =
    let first : Entry = record { sum = s; scenario = n } in
    let same : n + 1 + i ≡ n + suc i = omega arith in
    record {
      left = first ∷ r.left;
      was = inserts_behind first old r.left (numbered (n + 1) sums) r.was;
      becomes = inserts_behind first new r.left (numbered (n + 1) (set sums i v)) r.becomes;
      others =
          let none : count_by (has_scenario (n + suc i)) r.left ≡ 0 =
          subst (λ (k : ℕ). count_by (has_scenario k) r.left ≡ 0) same r.others in
          count_no (has_scenario (n + suc i)) first r.left (ne_eqb n (n + suc i) (omega arith)) ∙ none;
    }

others_of : (n : ℕ) (sums : List ℤ) (i : ℕ) (v : ℤ) (old new : Entry) → IsChange n sums i v old new
    → Others n sums i v old new
others_of n [] i v old new c = let h = c.within in absurd (omega arith)
others_of n (s ∷ sums) zero v old new c = others_first n s sums v old new c
others_of n (s ∷ sums) (suc i) v old new c =
    others_behind n s sums i v old new (others_of (n + 1) sums i v old new (change_later n s sums i v old new c))

-- after old was taken out and new put in, the entries are those of the changed sums
pub bag_changed : (entries rest changed : List Entry) (sums : List ℤ) (i : ℕ) (v : ℤ) (old new : Entry)
    → IsSameBag entries (numbered 1 sums) →
    IsChange 1 sums i v old new → Inserts old rest entries → Inserts new rest changed
    → IsSameBag changed (numbered 1 (set sums i v))
bag_changed entries rest changed sums i v old new b c out into =
    let o = others_of 1 sums i v old new c in
    bag_put new rest changed o.left (numbered 1 (set sums i v)) into o.becomes
    (bag_taken old rest entries o.left (numbered 1 sums) out o.was b)

-- among the others there is none of that scenario
pub rest_new : (entries rest : List Entry) (sums : List ℤ) (i : ℕ) (v : ℤ) (old new : Entry)
    → IsSameBag entries (numbered 1 sums) →
    IsChange 1 sums i v old new → Inserts old rest entries → AllEntries (λ x. x ≢ new) rest
rest_new entries rest sums i v old new b c out =
    let o = others_of 1 sums i v old new c in
    let same = bag_taken old rest entries o.left (numbered 1 sums) out o.was b in
    let none : count_by (has_scenario (1 + i)) rest ≡ 0 = same.counts (has_scenario (1 + i)) ∙ o.others in
    all_new new rest (rw c.new_scenario none)

-- the entry of a scenario is there
pub is_in_ranked : (entries : List Entry) (sums : List ℤ) (i : ℕ) (d : ℤ) (e : Entry)
    → IsSameBag entries (numbered 1 sums) → i < length sums →
    e.sum ≡ get_or sums i d → e.scenario ≡ 1 + i → IsIn e entries
is_in_ranked entries sums i d e b h s k =
    let c : IsChange 1 sums i e.sum e e =
    record { within = h; default = d; old_sum = s; old_scenario = k; new_sum = refl; new_scenario = k } in
    let o = others_of 1 sums i e.sum e e c in
    is_in_bag e o.left (numbered 1 sums) entries o.was (b.counts (is_same e))

-- each scenario has an entry
pub scenario_counted : (entries : List Entry) (sums : List ℤ) (i k : ℕ) → IsSameBag entries (numbered 1 sums)
    → i < length sums → k ≡ 1 + i →
    0 < count_by (has_scenario k) entries
scenario_counted entries sums i k b h e = rw e (at (get_or sums i (pos 0)) refl)
  where
    at : (s : ℤ) → s ≡ get_or sums i (pos 0) → 0 < count_by (has_scenario (1 + i)) entries
    at s q =
        let x : Entry = record { sum = s; scenario = 1 + i } in
        let c : IsChange 1 sums i s x x = record {
          within = h;
          default = pos 0;
          old_sum = q;
          old_scenario = refl;
          new_sum = refl;
          new_scenario = refl;
        } in
        let o = others_of 1 sums i s x x c in
        let n = count_inserts (has_scenario (1 + i)) x o.left (numbered 1 sums) o.was in
        let y = score_yes (has_scenario (1 + i)) x (eq-eqb (1 + i) (1 + i) refl) in
        omega (arith, b.counts (has_scenario (1 + i)))

scenario_from : (n : ℕ) (sums : List ℤ) (x : Entry) → IsIn x (numbered n sums) → n ≤ x.scenario
scenario_from n [] x i = absurd i
scenario_from n (s ∷ sums) x (inl p) = let e = ap (λ (y : Entry). y.scenario) p in omega arith
scenario_from n (s ∷ sums) x (inr i) = let h = scenario_from (n + 1) sums x i in omega arith

numbered_member : (n : ℕ) (sums : List ℤ) (i : ℕ) (d : ℤ) (x : Entry) → IsIn x (numbered n sums) → x.scenario ≡ n + i
    → x.sum ≡ get_or sums i d
numbered_member n [] i d x h e = absurd h
numbered_member n (s ∷ sums) zero d x (inl p) e = ap (λ (y : Entry). y.sum) p
numbered_member n (s ∷ sums) zero d x (inr h) e = let q = scenario_from (n + 1) sums x h in absurd (omega arith)
numbered_member n (s ∷ sums) (suc i) d x (inl p) e = let q = ap (λ (y : Entry). y.scenario) p in absurd (omega arith)
numbered_member n (s ∷ sums) (suc i) d x (inr h) e = numbered_member (n + 1) sums i d x h (omega arith)

-- an entry of a scenario has that scenario's sum
pub taken_sum : (entries rest : List Entry) (sums : List ℤ) (i : ℕ) (d : ℤ) (x : Entry)
    → IsSameBag entries (numbered 1 sums) →
    Inserts x rest entries → x.scenario ≡ 1 + i → x.sum ≡ get_or sums i d
taken_sum entries rest sums i d x b into is =
    numbered_member 1 sums i d x (is_in_bag x rest entries (numbered 1 sums) into (sym (b.counts (is_same x)))) is

-- ---- one sum more
numbered-append : (n m : ℕ) (xs ys : List ℤ) → m ≡ n + length xs
    → numbered n (xs ++ ys) ≡ numbered n xs ++ numbered m ys
numbered-append n m [] ys e = let s : n ≡ m = omega arith in ap (λ j. numbered j ys) s
numbered-append n m (x ∷ xs) ys e =
    ap (λ l. record { sum = x; scenario = n } ∷ l) (numbered-append (n + 1) m xs ys (omega arith))

-- the entry of the next scenario is put in
pub bag_grown : (entries grown : List Entry) (sums : List ℤ) (i : ℕ) (d : ℤ) (e : Entry) → i < length sums →
    IsSameBag entries (numbered 1 (take i sums)) → e.sum ≡ get_or sums i d → e.scenario ≡ i + 1
    → Inserts e entries grown →
    IsSameBag grown (numbered 1 (take (i + 1) sums))
bag_grown entries grown sums i d e h b s k into =
    let had = numbered 1 (take i sums) in
    let more : numbered 1 (take (i + 1) sums) ≡ had ++ record { sum = get_or sums i d; scenario = i + 1 } ∷ [] =
    ap (numbered 1) (take_more sums i d h)
    ∙ numbered-append 1 (i + 1) (take i sums) (get_or sums i d ∷ []) (omega (arith, length-take i sums)) in
    let becomes : Inserts e had (numbered 1 (take (i + 1) sums)) = record {
      front = had;
      back = [];
      before = sym (append-nil had);
      after = more ∙ ap (λ x. had ++ x ∷ []) (sym (entry_is e (get_or sums i d) (i + 1) s k));
    } in
    bag_put e entries grown had (numbered 1 (take (i + 1) sums)) into becomes b

pub next_new : (entries : List Entry) (sums : List ℤ) (i : ℕ) (e : Entry) → i < length sums
    → IsSameBag entries (numbered 1 (take i sums)) →
    e.scenario ≡ i + 1 → AllEntries (λ x. x ≢ e) entries
next_new entries sums i e h b is =
    let past = none_past (i + 1) 1 (take i sums) (omega (arith, length-take i sums)) in
    let none : count_by (has_scenario (i + 1)) entries ≡ 0 = b.counts (has_scenario (i + 1)) ∙ past in
    all_new e entries (rw is none)
