-- Sums of the prices of exclusions and cliques, by intervention and period, and over a run.
use Rattle.std.proofs.Common.{◌≡◌, ℕ, zero, suc, ◌+◌, ◌-◌, ◌*◌, ◌<◌, ◌≤◌, ◌^◌, refl, sym, ◌∙◌, ap, subst}
use Rattle.std.proofs.Common.{arith, Bool, true, false, cond, ◌&&◌, ◌||◌, ◌==◌, eqb, List, [], ◌∷◌, length, get_or}
use Rattle.std.proofs.Common.{set, take}
use Rattle.std.specs.List.{AllByRecursion}
use Rattle.std.proofs.lemmas.Bool.{false≢true}
use Rattle.std.proofs.lemmas.Bool.Decides.{Decides-eqb, nat_tests}
use Rattle.std.proofs.lemmas.List.{take_more, take_all}
use Rattle.std.proofs.lemmas.List.Recursion.{or_push}
use Rattle.std.proofs.lemmas.Nat.{mul-add-lt}
use Rattle.instance_model.specs.Naturals.{count_sum}
use Rattle.instance_model.specs.Tables.{Tables, in_run, exclusion_of}
use Rattle.instance_model.proofs.EntryLemmas.{count_sum_more, count_sum_same}
use Rattle.lagrange_bound.specs.declared.ex_price.ExPrice.{ExPrice}
use Rattle.lagrange_bound.specs.Prices.{IsExPrice}
use Rattle.lagrange_bound.specs.ExSums.{named_value, value_at, ex_at, sum_place, AreExSums}
use Rattle.lagrange_bound.specs.Worth.{ex_share, ex_part}
use Rattle.lagrange_bound.proofs.ExLemmas.{count_sum-add, count_sum-none}
use Rattle.lagrange_bound.proofs.ExSumsLemmas.{added_at, same_period}
use Rattle.refined_prices.specs.declared.clique.Clique.{Clique}
use Rattle.refined_prices.specs.Cliques.{IsPricedClique, is_member, clique_share, clique_part}
use Rattle.refined_prices.specs.tables.PaidSums.{clique_value, clique_at, AreByRun}

-- ---- one clique is added, member by member

member_more : (xs : List ℕ) (j i : ℕ) → j < length xs
    → is_member (take (j + 1) xs) i ≡ (is_member (take j xs) i || (get_or xs j 0 == i))
unfolding is_member
member_more xs j i l =
    ap (λ (ys : List ℕ). is_member ys i) (take_more xs j 0 l)
    ∙ or_push (λ ys. is_member ys i) (λ x. x == i) refl (λ _ _. refl) (take j xs) (get_or xs j 0)

-- one that stands behind others of a strict order is none of them
not_before : (xs : List ℕ) (j i : ℕ) → ((k : ℕ) → k < j → k < length xs → get_or xs k 0 < i)
    → is_member (take j xs) i ≡ false
unfolding is_member
not_before [] zero i h = refl
not_before [] (suc j) i h = refl
not_before (x ∷ xs) zero i h = refl
not_before (x ∷ xs) (suc j) i h =
    let rest : is_member (take j xs) i ≡ false = not_before xs j i
    (λ k l m. h (suc k) (omega (arith, l)) (omega (arith, m))) in
    let below = h zero (omega arith) (omega arith) in
    let here : (x == i) ≡ false = other x i below in
    rw (here, rest) refl
  where
    other : (a b : ℕ) → a < b → (a == b) ≡ false
    other a b l = grind (arith, nat_tests)

-- what the first members have of the price
abbrev pub value_so_far : Clique → ℕ → ℕ → ℕ → ℕ
value_so_far x j i t = cond ((x.period == t) && is_member (take j x.members) i) x.value 0

pub so_far_none : (x : Clique) (i t n : ℕ) → n ≡ n + value_so_far x 0 i t
unfolding is_member
so_far_none x i t n = at (x.period == t)
  where
    at : (b : Bool) → n ≡ n + cond (b && false) x.value 0
    at true = omega arith
    at false = omega arith

pub so_far_more : (inst : Tables) (x : Clique) (j w m place v : ℕ) (old now : List ℕ) → IsPricedClique inst x
    → j < length x.members → m ≡ get_or x.members j 0 → w ≡ inst.periods → place ≡ m * w + (x.period - 1)
    → length now ≡ length inst.names * inst.periods → v ≡ get_or now place 0 + x.value
    → ((i t : ℕ) → i < length inst.names → 1 ≤ t → t ≤ inst.periods
    → get_or now (sum_place inst i t) 0 ≡ get_or old (sum_place inst i t) 0 + value_so_far x j i t)
    → (i t : ℕ) → i < length inst.names → 1 ≤ t → t ≤ inst.periods
    → get_or (set now place v) (sum_place inst i t) 0
    ≡ get_or old (sum_place inst i t) 0 + value_so_far x (j + 1) i t
so_far_more inst x j w m place v old now ok l em ew ep each ev h i t hi from to =
    let one = ok.from in let few = ok.to in
    let p : x.period - 1 < inst.periods = omega (arith, one, few) in
    let q : t - 1 < inst.periods = omega (arith, from, to) in
    let number : m < length inst.names = subst (λ (k : ℕ). k < length inst.names) (sym em) (ok.members.numbers j 0 l) in
    let place' : place ≡ m * inst.periods + (x.period - 1) = ep ∙ ap (λ (k : ℕ). m * k + (x.period - 1)) ew in
    let within : m * inst.periods + (x.period - 1) < length now =
    omega (arith, each, mul-add-lt m inst.periods (x.period - 1) (length inst.names) number p) in
    let a = added_at inst.periods m (x.period - 1) i (t - 1) x.value now p q within in
    let is : set now place v ≡ set now (m * inst.periods + (x.period - 1))
    (get_or now (m * inst.periods + (x.period - 1)) 0 + x.value) =
    ap (λ (k : ℕ). set now k v) place' ∙ ap (set now (m * inst.periods + (x.period - 1)))
    (ev ∙ ap (λ (k : ℕ). get_or now k 0 + x.value) place') in
    ap (λ (ys : List ℕ). get_or ys (sum_place inst i t) 0) is ∙ a
    ∙ ap (λ (b : Bool). get_or now (sum_place inst i t) 0 + cond (eqb m i && b) x.value 0)
    (same_period x.period t one from)
    ∙ ap (λ (k : ℕ). k + cond (eqb m i && eqb x.period t) x.value 0) (h i t hi from to)
    ∙ joined (get_or old (sum_place inst i t) 0) (eqb x.period t) (is_member (take j x.members) i) (eqb m i)
    (is_member (take (j + 1) x.members) i)
    (member_more x.members j i l ∙ ap (λ (k : ℕ). is_member (take j x.members) i || (k == i)) (sym em)) apart
  where
    apart : eqb m i ≡ true → is_member (take j x.members) i ≡ false
    apart e = not_before x.members j i (λ k low len. subst (λ (n : ℕ). get_or x.members k 0 < n)
        (sym em ∙ (Decides-eqb m i).0 e) (ok.members.ascend k j 0 low l))

    joined : (n : ℕ) (b c d e : Bool) → e ≡ (c || d) → (d ≡ true → c ≡ false)
        → (n + cond (b && c) x.value 0) + cond (d && b) x.value 0 ≡ n + cond (b && e) x.value 0
    joined n true true true e is first = absurd (false≢true (sym (first refl)))
    joined n true true false e is first = rw is (omega arith)
    joined n true false true e is first = rw is (omega arith)
    joined n true false false e is first = rw is (omega arith)
    joined n false c true e is first = omega arith
    joined n false c false e is first = omega arith

pub so_far_all : (x : Clique) (j i t n k : ℕ) → length x.members ≤ j → k ≡ n + value_so_far x j i t
    → k ≡ n + clique_value x i t
so_far_all x j i t n k l h =
    h ∙ ap (λ (ys : List ℕ). n + cond ((x.period == t) && is_member ys i) x.value 0) (take_all j x.members l)

so_far_small : (x : Clique) (j i t : ℕ) → value_so_far x j i t ≤ x.value
so_far_small x j i t = at ((x.period == t) && is_member (take j x.members) i)
  where
    at : (b : Bool) → cond b x.value 0 ≤ x.value
    at true = omega arith
    at false = omega arith

-- the number at the place of the next member has room
pub room_at : (inst : Tables) (x : Clique) (j w m place : ℕ) (old now : List ℕ) → IsPricedClique inst x
    → j < length x.members → m ≡ get_or x.members j 0 → w ≡ inst.periods → place ≡ m * w + (x.period - 1)
    → ((i t : ℕ) → i < length inst.names → 1 ≤ t → t ≤ inst.periods
    → get_or old (sum_place inst i t) 0 ≤ 2 ^ 62)
    → ((i t : ℕ) → i < length inst.names → 1 ≤ t → t ≤ inst.periods
    → get_or now (sum_place inst i t) 0 ≡ get_or old (sum_place inst i t) 0 + value_so_far x j i t)
    → get_or now place 0 ≤ 2 ^ 62 + 1_000_000_000
room_at inst x j w m place old now ok l em ew ep small h =
    let number : m < length inst.names = subst (λ (k : ℕ). k < length inst.names) (sym em) (ok.members.numbers j 0 l) in
    let place' : place ≡ sum_place inst m x.period = ep ∙ ap (λ (k : ℕ). m * k + (x.period - 1)) ew in
    let a = h m x.period number ok.from ok.to in
    let b = small m x.period number ok.from ok.to in
    let c = so_far_small x j m x.period in
    let d = ok.small in
    let e : get_or now place 0 ≡ get_or now (sum_place inst m x.period) 0 =
    ap (λ (k : ℕ). get_or now k 0) place' in
    omega (arith, a, b, c, d, e)

pub place_within : (inst : Tables) (x : Clique) (j w m place n : ℕ) → IsPricedClique inst x
    → j < length x.members → m ≡ get_or x.members j 0 → w ≡ inst.periods → place ≡ m * w + (x.period - 1)
    → n ≡ length inst.names * inst.periods → place < n
place_within inst x j w m place n ok l em ew ep each =
    let one = ok.from in let few = ok.to in
    let p : x.period - 1 < inst.periods = omega (arith, one, few) in
    let number : m < length inst.names = subst (λ (k : ℕ). k < length inst.names) (sym em) (ok.members.numbers j 0 l) in
    let place' : place ≡ m * inst.periods + (x.period - 1) = ep ∙ ap (λ (k : ℕ). m * k + (x.period - 1)) ew in
    omega (arith, place', each, mul-add-lt m inst.periods (x.period - 1) (length inst.names) number p)

-- ---- clique by clique

clique_at_more : (xs : List Clique) (k i t : ℕ) (d : Clique) → k < length xs
    → clique_at (take (k + 1) xs) i t ≡ clique_at (take k xs) i t + clique_value (get_or xs k d) i t
unfolding clique_at
clique_at_more [] k i t d l = absurd (omega (arith, l))
clique_at_more (x ∷ xs) zero i t d l = omega arith
clique_at_more (x ∷ xs) (suc k) i t d l =
    let next : suc k + 1 ≡ suc (k + 1) = omega arith in
    let ih = clique_at_more xs k i t d (omega (arith, l)) in
    rw next (omega (arith, ih))

-- what the exclusions and the first cliques count
abbrev pub paid_so_far : Tables → List ExPrice → List Clique → ℕ → ℕ → ℕ
paid_so_far inst ex cliques i t = ex_at inst ex i t + clique_at cliques i t

pub AreByRun-ex : (inst : Tables) (ex : List ExPrice) (sums : List ℕ) → AreExSums inst ex sums
    → AreByRun inst (paid_so_far inst ex []) sums
unfolding clique_at
AreByRun-ex inst ex sums h = record {
  each = h.each;
  at = λ i t l from to. let e = h.at i t l from to in omega (arith, e);
}

pub AreByRun-more : (inst : Tables) (ex : List ExPrice) (xs : List Clique) (k : ℕ) (x : Clique) (old new : List ℕ)
    → k < length xs → ((d : Clique) → x ≡ get_or xs k d) → AreByRun inst (paid_so_far inst ex (take k xs)) old
    → length new ≡ length old
    → ((i t : ℕ) → i < length inst.names → 1 ≤ t → t ≤ inst.periods
    → get_or new (sum_place inst i t) 0 ≡ get_or old (sum_place inst i t) 0 + clique_value x i t)
    → AreByRun inst (paid_so_far inst ex (take (k + 1) xs)) new
AreByRun-more inst ex xs k x old new l is h same added = record {
  each = same ∙ h.each;
  at = λ i t w from to.
      let a = added i t w from to in
      let b = h.at i t w from to in
      let c = clique_at_more xs k i t x l in
      let d : clique_value x i t ≡ clique_value (get_or xs k x) i t =
      ap (λ (y : Clique). clique_value y i t) (is x) in
      omega (arith, a, b, c, d);
}

pub AreByRun-all : (inst : Tables) (ex : List ExPrice) (xs : List Clique) (k : ℕ) (sums : List ℕ) → length xs ≤ k
    → AreByRun inst (paid_so_far inst ex (take k xs)) sums → AreByRun inst (paid_so_far inst ex xs) sums
AreByRun-all inst ex xs k sums l h =
    subst (λ (ys : List Clique). AreByRun inst (paid_so_far inst ex ys) sums) (take_all k xs l) h

-- ---- how much they count

value_at_small : (inst : Tables) (x : ExPrice) (i t : ℕ) → IsExPrice inst x → value_at inst x i t ≤ 2_000_000_000
value_at_small inst x i t h =
    let small = h.small in
    by (x.period == t) (eqb (exclusion_of inst x.exclusion).first i) (eqb (exclusion_of inst x.exclusion).second i)
    x.value small
  where
    by : (a b c : Bool) (v : ℕ) → v ≤ 1_000_000_000 → cond a (v * (cond b 1 0 + cond c 1 0)) 0 ≤ 2_000_000_000
    by true true true v s = omega arith
    by true true false v s = omega arith
    by true false true v s = omega arith
    by true false false v s = omega arith
    by false b c v s = omega arith

ex_at_small : (inst : Tables) (xs : List ExPrice) (i t : ℕ) → AllByRecursion (IsExPrice inst) xs
    → ex_at inst xs i t ≤ length xs * 2_000_000_000
unfolding ex_at
ex_at_small inst [] i t all = omega arith
ex_at_small inst (x ∷ xs) i t all =
    let ih = ex_at_small inst xs i t all.1 in
    let one = value_at_small inst x i t all.0 in
    omega (arith, ih, one)

clique_at_small : (inst : Tables) (xs : List Clique) (i t : ℕ) → AllByRecursion (IsPricedClique inst) xs
    → clique_at xs i t ≤ length xs * 1_000_000_000
unfolding clique_at
clique_at_small inst [] i t all = omega arith
clique_at_small inst (x ∷ xs) i t all =
    let ih = clique_at_small inst xs i t all.1 in
    let small = all.0.small in
    let one = by ((x.period == t) && is_member x.members i) x.value small in
    omega (arith, ih, one)
  where
    by : (b : Bool) (v : ℕ) → v ≤ 1_000_000_000 → cond b v 0 ≤ 1_000_000_000
    by true v s = s
    by false v s = omega arith

taken_cliques : (inst : Tables) (k : ℕ) (xs : List Clique) → AllByRecursion (IsPricedClique inst) xs
    → AllByRecursion (IsPricedClique inst) (take k xs) × (length (take k xs) ≤ length xs)
taken_cliques inst zero [] all = (tt, omega arith)
taken_cliques inst (suc k) [] all = (tt, omega arith)
taken_cliques inst zero (x ∷ xs) all = (tt, omega arith)
taken_cliques inst (suc k) (x ∷ xs) all =
    let w = taken_cliques inst k xs all.1 in
    let l = w.1 in
    ((all.0, w.0), omega (arith, l))

-- what they count in a period is far from the end of 64 bits
pub paid_small : (inst : Tables) (ex : List ExPrice) (xs : List Clique) (k i t : ℕ) → AllByRecursion (IsExPrice inst) ex
    → length ex ≤ 33_554_432 → AllByRecursion (IsPricedClique inst) xs → length xs ≤ 4096
    → paid_so_far inst ex (take k xs) i t ≤ 2 ^ 25 * 2_000_000_000 + 4096 * 1_000_000_000
paid_small inst ex xs k i t all few cliques few' =
    let w = taken_cliques inst k xs cliques in
    let l = w.1 in
    let a = ex_at_small inst ex i t all in
    let b = clique_at_small inst (take k xs) i t w.0 in
    omega (arith, a, b, few, few', l)

-- ---- over a run

-- the sum of a function over the periods of a run
abbrev pub over_run : Tables → ℕ → ℕ → (ℕ → ℕ) → ℕ
over_run inst i s f = count_sum inst.periods (λ u. cond (in_run inst i s (u + 1)) (f (u + 1)) 0)

zero_add : (n : ℕ) → 0 + n ≡ n
zero_add n = omega arith

picked_none : (m p v : ℕ) → m < p → count_sum m (λ u. cond (p == (u + 1)) v 0) ≡ 0
unfolding count_sum
picked_none zero p v h = refl
picked_none (suc m) p v h =
    let ih = picked_none m p v (omega (arith, h)) in
    let no : (p == (m + 1)) ≡ false = other p (m + 1) (omega (arith, h)) in
    rw (no, ih) refl
  where
    other : (a b : ℕ) → b < a → (a == b) ≡ false
    other a b l = grind (arith, nat_tests)

picked : (n p v : ℕ) → 1 ≤ p → p ≤ n → count_sum n (λ u. cond (p == (u + 1)) v 0) ≡ v
unfolding count_sum
picked zero p v one few = absurd (omega (arith, one, few))
picked (suc n) p v one few = by (p == (n + 1)) refl (λ l. picked n p v one l)
  where
    by : (b : Bool) → (p == (n + 1)) ≡ b → (p ≤ n → count_sum n (λ u. cond (p == (u + 1)) v 0) ≡ v)
        → count_sum n (λ u. cond (p == (u + 1)) v 0) + cond (p == (n + 1)) v 0 ≡ v
    by true e _ =
        let q : p ≡ n + 1 = (Decides-eqb p (n + 1)).0 e in
        let z = picked_none n p v (omega (arith, q)) in
        rw (e, z) (zero_add v)
    by false e more =
        let ne : p ≡ n + 1 → ⊥ = λ q. false≢true (sym e ∙ (Decides-eqb p (n + 1)).1 q) in
        let ih = more (omega (arith, few, ne)) in
        rw e (omega (arith, ih))

-- a value in one period counts where the run has the period
over_run_one : (inst : Tables) (i s p v : ℕ) → 1 ≤ p → p ≤ inst.periods
    → over_run inst i s (λ t. cond (p == t) v 0) ≡ cond (in_run inst i s p) v 0
over_run_one inst i s p v one few =
    count_sum_same inst.periods (λ u. cond (in_run inst i s (u + 1)) (cond (p == (u + 1)) v 0) 0)
    (λ u. cond (p == (u + 1)) (cond (in_run inst i s p) v 0) 0) (λ u l. by u (p == (u + 1)) refl)
    ∙ picked inst.periods p (cond (in_run inst i s p) v 0) one few
  where
    none : (b : Bool) → ◌≡◌ {A = ℕ} (cond b 0 0) 0
    none true = refl
    none false = refl

    by : (u : ℕ) (b : Bool) → (p == (u + 1)) ≡ b
        → cond (in_run inst i s (u + 1)) (cond (p == (u + 1)) v 0) 0
        ≡ cond (p == (u + 1)) (cond (in_run inst i s p) v 0) 0
    by u true e =
        let q : p ≡ u + 1 = (Decides-eqb p (u + 1)).0 e in
        rw e (ap (λ (t : ℕ). cond (in_run inst i s t) v 0) (sym q))
    by u false e = rw e (none (in_run inst i s (u + 1)))

over_run-none : (inst : Tables) (i s : ℕ) → over_run inst i s (λ t. 0) ≡ 0
over_run-none inst i s =
    count_sum_same inst.periods (λ u. cond (in_run inst i s (u + 1)) 0 0) (λ u. 0)
    (λ u l. none (in_run inst i s (u + 1))) ∙ count_sum-none inst.periods
  where
    none : (b : Bool) → ◌≡◌ {A = ℕ} (cond b 0 0) 0
    none true = refl
    none false = refl

over_run-add : (inst : Tables) (i s : ℕ) (f g : ℕ → ℕ)
    → over_run inst i s (λ t. f t + g t) ≡ over_run inst i s f + over_run inst i s g
over_run-add inst i s f g =
    count_sum_same inst.periods (λ u. cond (in_run inst i s (u + 1)) (f (u + 1) + g (u + 1)) 0)
    (λ u. cond (in_run inst i s (u + 1)) (f (u + 1)) 0 + cond (in_run inst i s (u + 1)) (g (u + 1)) 0)
    (λ u l. both (in_run inst i s (u + 1)) (f (u + 1)) (g (u + 1)))
    ∙ count_sum-add inst.periods (λ u. cond (in_run inst i s (u + 1)) (f (u + 1)) 0)
    (λ u. cond (in_run inst i s (u + 1)) (g (u + 1)) 0)
  where
    both : (b : Bool) (m n : ℕ) → cond b (m + n) 0 ≡ cond b m 0 + cond b n 0
    both true m n = refl
    both false m n = refl

ex_over_run : (inst : Tables) (xs : List ExPrice) (i s : ℕ) → AllByRecursion (IsExPrice inst) xs
    → over_run inst i s (ex_at inst xs i) ≡ ex_part inst xs i s
unfolding ex_at ex_part ex_share
ex_over_run inst [] i s all = over_run-none inst i s
ex_over_run inst (x ∷ xs) i s all =
    let ih = ex_over_run inst xs i s all.1 in
    over_run-add inst i s (value_at inst x i) (ex_at inst xs i)
    ∙ ap (λ (n : ℕ). n + over_run inst i s (ex_at inst xs i))
    (over_run_one inst i s x.period (named_value inst x i) all.0.from all.0.to)
    ∙ ap (λ (n : ℕ). cond (in_run inst i s x.period) (named_value inst x i) 0 + n) ih

clique_over_run : (inst : Tables) (xs : List Clique) (i s : ℕ) → AllByRecursion (IsPricedClique inst) xs
    → over_run inst i s (clique_at xs i) ≡ clique_part inst xs i s
unfolding clique_at clique_part clique_share
clique_over_run inst [] i s all = over_run-none inst i s
clique_over_run inst (x ∷ xs) i s all =
    let ih = clique_over_run inst xs i s all.1 in
    over_run-add inst i s (clique_value x i) (clique_at xs i)
    ∙ ap (λ (n : ℕ). n + over_run inst i s (clique_at xs i))
    (count_sum_same inst.periods (λ u. cond (in_run inst i s (u + 1)) (clique_value x i (u + 1)) 0)
    (λ u. cond (in_run inst i s (u + 1)) (cond (x.period == (u + 1)) (cond (is_member x.members i) x.value 0) 0) 0)
    (λ u l. ap (λ (n : ℕ). cond (in_run inst i s (u + 1)) n 0)
    (apart (x.period == (u + 1)) (is_member x.members i)))
    ∙ over_run_one inst i s x.period (cond (is_member x.members i) x.value 0) all.0.from all.0.to
    ∙ back (in_run inst i s x.period) (is_member x.members i))
    ∙ ap (λ (n : ℕ). cond (is_member x.members i && in_run inst i s x.period) x.value 0 + n) ih
  where
    apart : (a b : Bool) → cond (a && b) x.value 0 ≡ cond a (cond b x.value 0) 0
    apart true b = refl
    apart false b = refl

    back : (a b : Bool) → cond a (cond b x.value 0) 0 ≡ cond (b && a) x.value 0
    back true true = refl
    back true false = refl
    back false true = refl
    back false false = refl

-- over a run they add up to what the prices add at the start
pub paid_over_run : (inst : Tables) (ex : List ExPrice) (xs : List Clique) (i s : ℕ)
    → AllByRecursion (IsExPrice inst) ex → AllByRecursion (IsPricedClique inst) xs
    → over_run inst i s (paid_so_far inst ex xs i) ≡ ex_part inst ex i s + clique_part inst xs i s
paid_over_run inst ex xs i s all cliques =
    over_run-add inst i s (ex_at inst ex i) (clique_at xs i)
    ∙ ap (λ (n : ℕ). n + over_run inst i s (clique_at xs i)) (ex_over_run inst ex i s all)
    ∙ ap (λ (n : ℕ). ex_part inst ex i s + n) (clique_over_run inst xs i s cliques)

-- what counts in the period after u of a run
abbrev pub paid_in : Tables → List ExPrice → List Clique → ℕ → ℕ → ℕ → ℕ
paid_in inst ex xs i s u = cond (in_run inst i s (u + 1)) (paid_so_far inst ex xs i (u + 1)) 0

pub paid_idle : (inst : Tables) (ex : List ExPrice) (xs : List Clique) (i s u : ℕ) → in_run inst i s (u + 1) ≡ false
    → paid_in inst ex xs i s u ≡ 0
paid_idle inst ex xs i s u h = ap (λ (b : Bool). cond b (paid_so_far inst ex xs i (u + 1)) 0) h

pub paid_step : (inst : Tables) (ex : List ExPrice) (xs : List Clique) (i s t sum r : ℕ) → 1 ≤ t
    → in_run inst i s t ≡ true → r ≡ paid_so_far inst ex xs i t → sum ≡ count_sum (t - 1) (paid_in inst ex xs i s)
    → sum + r ≡ count_sum (t + 1 - 1) (paid_in inst ex xs i s)
paid_step inst ex xs i s t sum r one h e value =
    let back : t - 1 + 1 ≡ t = omega (arith, one) in
    let next : t - 1 + 1 ≡ t + 1 - 1 = omega (arith, one) in
    let here : paid_in inst ex xs i s (t - 1) ≡ r =
    ap (λ (v : ℕ). cond (in_run inst i s v) (paid_so_far inst ex xs i v) 0) back
    ∙ ap (λ (b : Bool). cond b (paid_so_far inst ex xs i t) 0) h ∙ sym e in
    let more = count_sum_more (t - 1) (paid_in inst ex xs i s) in
    let whole : sum + r ≡ count_sum (t - 1 + 1) (paid_in inst ex xs i s) = omega (arith, value, here, more) in
    whole ∙ ap (λ (n : ℕ). count_sum n (paid_in inst ex xs i s)) next

pub paid_small_all : (inst : Tables) (ex : List ExPrice) (xs : List Clique) (i t : ℕ)
    → AllByRecursion (IsExPrice inst) ex → length ex ≤ 33_554_432 → AllByRecursion (IsPricedClique inst) xs
    → length xs ≤ 4096 → paid_so_far inst ex xs i t ≤ 2 ^ 25 * 2_000_000_000 + 4096 * 1_000_000_000
paid_small_all inst ex xs i t all few cliques few' =
    subst (λ (ys : List Clique). paid_so_far inst ex ys i t ≤ 2 ^ 25 * 2_000_000_000 + 4096 * 1_000_000_000)
    (take_all (length xs) xs (omega arith)) (paid_small inst ex xs (length xs) i t all few cliques few')

-- ---- sums of natural numbers that begin or end with nothing

pub count_sum-idle : (n : ℕ) (f : ℕ → ℕ) → ((k : ℕ) → k < n → f k ≡ 0) → count_sum n f ≡ 0
count_sum-idle n f h = count_sum_same n f (λ k. 0) h ∙ count_sum-none n

pub count_sum_ends : (m n : ℕ) (f : ℕ → ℕ) → m ≤ n → ((k : ℕ) → m ≤ k → k < n → f k ≡ 0)
    → count_sum m f ≡ count_sum n f
count_sum_ends m n f l h = at (n - m) n (omega (arith, l)) h
  where
    at : (d n : ℕ) → m + d ≡ n → ((k : ℕ) → m ≤ k → k < n → f k ≡ 0) → count_sum m f ≡ count_sum n f
    at zero n e h = ap (λ (j : ℕ). count_sum j f) (omega (arith, e))
    at (suc d) n e h =
        let p : (m + d) + 1 ≡ n = omega (arith, e) in
        let ih : count_sum m f ≡ count_sum (m + d) f = at d (m + d) refl (λ k a b. h k a (omega (arith, b, e))) in
        let last : f (m + d) ≡ 0 = h (m + d) (omega arith) (omega (arith, e)) in
        let more = count_sum_more (m + d) f in
        let total : count_sum m f ≡ count_sum ((m + d) + 1) f = omega (arith, ih, last, more) in
        total ∙ ap (λ (j : ℕ). count_sum j f) p
