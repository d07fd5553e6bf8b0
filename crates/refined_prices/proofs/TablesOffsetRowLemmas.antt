-- The offsets of an intervention as a row, and how wide it is.
use Rattle.std.proofs.Common.{◌≡◌, ◌≢◌, ℕ, zero, suc, ◌+◌, ◌-◌, ◌*◌, ◌<◌, ◌≤◌, ◌⊎◌, inl, inr, refl, sym, ◌∙◌, ap, subst}
use Rattle.std.proofs.Common.{arith, Bool, true, false, cond, ◌&&◌, ◌||◌, ◌==◌, List, [], ◌∷◌, ◌++◌, length, get_or}
use Rattle.std.proofs.Common.{set}
use Rattle.std.proofs.Common.{take, drop, replicate, All, Option, Some, None}
use Rattle.std.specs.List.{AllByRecursion}
use Rattle.std.proofs.lemmas.Bool.{cases_eq, cases_lt}
use Rattle.std.proofs.lemmas.Bool.Decides.{Decides-eqb}
use Rattle.std.proofs.lemmas.List.{drop_more, drop_all, take_all, get_or-set_same, get_or-set_other}
use Rattle.std.proofs.lemmas.List.{get_or_past, length-replicate, length-set}
use Rattle.std.proofs.lemmas.List.Elements.{All-from_recursion, All-filter, filter_passes, filter_more}
use Rattle.std.proofs.lemmas.Nat.{same_from_place, mul-add-lt}
use Rattle.instance_model.specs.Naturals.{count_sum}
use Rattle.instance_model.specs.Tables.{Tables}
use Rattle.refined_prices.specs.declared.member.Member.{Member}
use Rattle.refined_prices.specs.declared.group_tail.GroupTail.{GroupTail}
use Rattle.refined_prices.specs.declared.offset.Offset.{Offset}
use Rattle.refined_prices.specs.Groups.{weight_in, IsGroup, IsGroupTail}
use Rattle.refined_prices.specs.Offsets.{group_tail_at, group_count, is_offset_of, offset_of, IsOffset}
use Rattle.refined_prices.proofs.GroupSizes.{count_sum_within}
use Rattle.refined_prices.specs.tables.GroupTests.{has_scenario, in_groups}
use Rattle.refined_prices.specs.tables.OffsetRows.{own_offsets, AreWithin, group_place, IsOffsetRow}
use Rattle.refined_prices.proofs.TablesGroupTestLemmas.{has_at, in_more, in_found, disjoint_apart, member_within}

-- ---- the offsets of one intervention

-- its offsets say what all offsets say of it
own_same : (xs : List Offset) (t i g : ℕ) → offset_of (own_offsets xs i) t i g ≡ offset_of xs t i g
unfolding offset_of
own_same [] t i g = refl
own_same (x ∷ xs) t i g = at (x.intervention == i) refl (own_same xs t i g)
  where
    none : (a b : Bool) → (a && false && b) ≡ false
    none true b = refl
    none false b = refl

    at : (b : Bool) → (x.intervention == i) ≡ b → offset_of (own_offsets xs i) t i g ≡ offset_of xs t i g
        → offset_of (own_offsets (x ∷ xs) i) t i g ≡ offset_of (x ∷ xs) t i g
    at true e ih =
        ap (λ (b : Bool). offset_of (cond b (x ∷ own_offsets xs i) (own_offsets xs i)) t i g) e
        ∙ ap (λ (n : ℕ). cond (is_offset_of t i g x) x.value n) ih
    at false e ih =
        ap (λ (b : Bool). offset_of (cond b (x ∷ own_offsets xs i) (own_offsets xs i)) t i g) e ∙ ih
        ∙ sym (ap (λ (b : Bool). cond ((x.period == t) && b && (x.group == g)) x.value (offset_of xs t i g)) e
        ∙ ap (λ (b : Bool). cond b x.value (offset_of xs t i g)) (none (x.period == t) (x.group == g)))

pub own_more : (xs : List Offset) (k i : ℕ) (x : Offset) (old new : List Offset) → k < length xs
    → ((d : Offset) → x ≡ get_or xs k d) → old ≡ own_offsets (take k xs) i
    → new ≡ old ++ cond (x.intervention == i) (x ∷ []) [] → new ≡ own_offsets (take (k + 1) xs) i
own_more xs k i x old new l is h e =
    e ∙ ap (λ (ys : List Offset). ys ++ cond (x.intervention == i) (x ∷ []) []) h
    ∙ ap (λ (y : Offset). own_offsets (take k xs) i ++ cond (y.intervention == i) (y ∷ []) []) (is x)
    ∙ sym (filter_more (λ y. y.intervention == i) xs k x l)

pub own_all : (xs : List Offset) (k i : ℕ) (own : List Offset) → length xs ≤ k → own ≡ own_offsets (take k xs) i
    → own ≡ own_offsets xs i
own_all xs k i own l h = h ∙ ap (λ (ys : List Offset). own_offsets ys i) (take_all k xs l)

-- each is in range and of this intervention
pub own_in_range : (inst : Tables) (tails : List (Option GroupTail)) (xs : List Offset) (i : ℕ)
    → AllByRecursion (IsOffset inst tails) xs → All (IsOffset inst tails) (own_offsets xs i)
own_in_range inst tails xs i h =
    All-filter (λ x. x.intervention == i) (IsOffset inst tails) xs (All-from_recursion (IsOffset inst tails) xs h)

pub own_intervention : (xs : List Offset) (i k : ℕ) (d : Offset) → k < length (own_offsets xs i)
    → (get_or (own_offsets xs i) k d).intervention ≡ i
own_intervention xs i k d l = (Decides-eqb (get_or (own_offsets xs i) k d).intervention i).0
    (filter_passes (λ x. x.intervention == i) xs k d l)

-- the same of a list that is these
pub own_ok : (inst : Tables) (tails : List (Option GroupTail)) (xs own read : List Offset) (i j : ℕ) (d : Offset)
    → AllByRecursion (IsOffset inst tails) xs → own ≡ own_offsets xs i → read ≡ own → j < length read
    → IsOffset inst tails (get_or read j d)
own_ok inst tails xs own read i j d all e es =
    subst (λ (ys : List Offset). All (IsOffset inst tails) ys) (sym (es ∙ e)) (own_in_range inst tails xs i all) j d

pub own_mine : (xs own : List Offset) (i : ℕ) → own ≡ own_offsets xs i → (j : ℕ) (d : Offset) → j < length own
    → (get_or own j d).intervention ≡ i
own_mine xs own i e j d = subst (λ (ys : List Offset). j < length ys → (get_or ys j d).intervention ≡ i) (sym e)
    (own_intervention xs i j d)

-- ---- a row, offset by offset from the last one on

-- the row has the last k of n offsets
pub record IsRowSoFar (inst : Tables) (xs : List Offset) (width i k : ℕ) (row : List ℕ) : Type 0 where
  pub each : length row ≡ inst.periods * width
  pub at : (t g : ℕ) → 1 ≤ t → t ≤ inst.periods → g < width
      → get_or row (group_place width t g) 0 ≡ offset_of (drop (length xs - k) xs) t i g

zeros_at : (n k : ℕ) → get_or (replicate {A = ℕ} n 0) k 0 ≡ 0
zeros_at zero k = refl
zeros_at (suc n) zero = refl
zeros_at (suc n) (suc k) = zeros_at n k

pub IsRowSoFar-none : (inst : Tables) (xs : List Offset) (width i n : ℕ) (row : List ℕ)
    → row ≡ replicate {A = ℕ} n 0 → n ≡ inst.periods * width → IsRowSoFar inst xs width i 0 row
unfolding offset_of
IsRowSoFar-none inst xs width i n row is e = record {
  each = ap length is ∙ length-replicate n 0 ∙ e;
  at = λ t g one few l. ap (λ (ys : List ℕ). get_or ys (group_place width t g) 0) is
      ∙ zeros_at n (group_place width t g)
      ∙ sym (ap (λ (ys : List Offset). offset_of ys t i g) (drop_all (length xs - 0) xs (omega arith)));
}

same_place : (width t g u h : ℕ) → 1 ≤ t → 1 ≤ u → g < width → h < width
    → group_place width t g ≡ group_place width u h → (t ≡ u) × (g ≡ h)
same_place width t g u h one one' low low' e =
    let s = same_from_place (t - 1) g (u - 1) h width low low' e in
    let first = s.0 in
    (omega (arith, first, one, one'), s.1)

pub place_in_row : (inst : Tables) (tails : List (Option GroupTail)) (width : ℕ) (x : Offset)
    → AreWithin tails width → IsOffset inst tails x → group_place width x.period x.group < inst.periods * width
place_in_row inst tails width x w ok =
    let one = ok.from in let few = ok.to in let low = ok.group in let each = w.each x.period in
    let r = mul-add-lt (x.period - 1) width x.group inst.periods (omega (arith, one, few)) (omega (arith, low, each)) in
    omega (arith, r)

pub IsRowSoFar-more : (inst : Tables) (tails : List (Option GroupTail)) (xs : List Offset) (width i k n : ℕ)
    (x : Offset) (old new : List ℕ) → AreWithin tails width → All (IsOffset inst tails) xs
    → ((j : ℕ) (d : Offset) → j < length xs → (get_or xs j d).intervention ≡ i) → n ≡ length xs → k < n
    → ((d : Offset) → x ≡ get_or xs (n - 1 - k) d) → IsRowSoFar inst xs width i k old
    → new ≡ set old (group_place width x.period x.group) x.value → IsRowSoFar inst xs width i (k + 1) new
unfolding offset_of
IsRowSoFar-more inst tails xs width i k n x old new w all own en l is h e = record {
  each = ap length e ∙ length-set old (group_place width x.period x.group) x.value ∙ h.each;
  at = λ t g one few low. ap (λ (ys : List ℕ). get_or ys (group_place width t g) 0) e
      ∙ at t g one few low (cases_eq (group_place width x.period x.group) (group_place width t g))
      ∙ ap (λ (ys : List Offset). offset_of ys t i g) (sym front);
}
  where
    j : ℕ
    j = n - 1 - k

    low_j : j < length xs
    low_j = omega (arith, en, l)

    ok : IsOffset inst tails x
    ok = subst (IsOffset inst tails) (sym (is x)) (all j x low_j)

    mine : x.intervention ≡ i
    mine = subst (λ (y : Offset). y.intervention ≡ i) (sym (is x)) (own j x low_j)

    front : drop (length xs - (k + 1)) xs ≡ x ∷ drop (length xs - k) xs
    front =
        let a : length xs - (k + 1) ≡ j = omega (arith, en, l) in
        let b : j + 1 ≡ length xs - k = omega (arith, en, l) in
        ap (λ (m : ℕ). drop m xs) a ∙ drop_more xs j x low_j
        ∙ ap (λ (y : Offset). y ∷ drop (j + 1) xs) (sym (is x)) ∙ ap (λ (m : ℕ). x ∷ drop m xs) b

    group_low : x.group < width
    group_low = let a = ok.group in let b = w.each x.period in omega (arith, a, b)

    hit : (t g : ℕ) → t ≡ x.period → g ≡ x.group → is_offset_of t i g x ≡ true
    hit t g p q =
        let a : (x.period == t) ≡ true = (Decides-eqb x.period t).1 (sym p) in
        let b : (x.intervention == i) ≡ true = (Decides-eqb x.intervention i).1 mine in
        let c : (x.group == g) ≡ true = (Decides-eqb x.group g).1 (sym q) in
        rw (a, b, c) refl

    miss : (t g : ℕ) → (x.period ≡ t → x.group ≡ g → ⊥) → is_offset_of t i g x ≡ false
    miss t g apart = by (x.period == t) (x.intervention == i) (x.group == g) refl refl refl
      where
        by : (a b c : Bool) → (x.period == t) ≡ a → (x.intervention == i) ≡ b → (x.group == g) ≡ c
            → is_offset_of t i g x ≡ false
        by true true true p q r = absurd (apart ((Decides-eqb x.period t).0 p) ((Decides-eqb x.group g).0 r))
        by true true false p q r = rw (p, q, r) refl
        by true false c p q r = rw (p, q) refl
        by false b c p q r = rw p refl

    at : (t g : ℕ) → 1 ≤ t → t ≤ inst.periods → g < width
        → (group_place width x.period x.group ≡ group_place width t g)
        ⊎ (group_place width x.period x.group ≡ group_place width t g → ⊥)
        → get_or (set old (group_place width x.period x.group) x.value) (group_place width t g) 0
        ≡ cond (is_offset_of t i g x) x.value (offset_of (drop (length xs - k) xs) t i g)
    at t g one few low (inl same) =
        let s = same_place width x.period x.group t g ok.from one group_low low same in
        let hits = hit t g (sym s.0) (sym s.1) in
        let each = h.each in
        let within : group_place width x.period x.group < length old =
        omega (arith, place_in_row inst tails width x w ok, each) in
        subst (λ (m : ℕ). get_or (set old (group_place width x.period x.group) x.value) m 0 ≡ x.value) same
        (get_or-set_same old (group_place width x.period x.group) x.value 0 within)
        ∙ sym (ap (λ (b : Bool). cond b x.value (offset_of (drop (length xs - k) xs) t i g)) hits)
    at t g one few low (inr other) =
        let elsewhere = miss t g (λ p q. other (ap (λ (u : ℕ). group_place width u x.group) p
        ∙ ap (group_place width t) q)) in
        let apart : group_place width t g ≢ group_place width x.period x.group = λ f. other (sym f) in
        get_or-set_other old (group_place width x.period x.group) (group_place width t g) x.value 0 apart
        ∙ h.at t g one few low
        ∙ sym (ap (λ (b : Bool). cond b x.value (offset_of (drop (length xs - k) xs) t i g)) elsewhere)

pub IsOffsetRow-from : (inst : Tables) (all xs : List Offset) (width i k : ℕ) (row : List ℕ)
    → xs ≡ own_offsets all i → length xs ≤ k → IsRowSoFar inst xs width i k row
    → IsOffsetRow inst all width i row
IsOffsetRow-from inst all xs width i k row is l h = record {
  each = h.each;
  at = λ t g one few low.
      let none : length xs - k ≡ 0 = omega (arith, l) in
      h.at t g one few low ∙ ap (λ (m : ℕ). offset_of (drop m xs) t i g) none
      ∙ ap (λ (ys : List Offset). offset_of ys t i g) is ∙ own_same all t i g;
}

-- ---- how many groups a tail has

strict_count : (n : ℕ) (p q : ℕ → Bool) (j : ℕ) → ((k : ℕ) → p k ≡ true → q k ≡ true) → j < n → p j ≡ false
    → q j ≡ true → count_sum n (λ k. cond (p k) 1 0) + 1 ≤ count_sum n (λ k. cond (q k) 1 0)
unfolding count_sum
strict_count zero p q j h l left got = absurd (omega (arith, l))
strict_count (suc n) p q j h l left got =
    by (cases_eq j n) (λ e. strict_count n p q j h (omega (arith, l, e)) left got)
  where
    weak : (m : ℕ) → count_sum m (λ k. cond (p k) 1 0) ≤ count_sum m (λ k. cond (q k) 1 0)
    weak zero = omega arith
    weak (suc m) = let ih = weak m in let one = single m (p m) refl in omega (arith, ih, one)
      where
        single : (m : ℕ) (b : Bool) → p m ≡ b → cond (p m) 1 0 ≤ cond (q m) 1 0
        single m true e = let f = h m e in rw (e, f) (omega arith)
        single m false e = rw e (omega arith)

    by : (j ≡ n) ⊎ (j ≡ n → ⊥)
        → ((j ≡ n → ⊥) → count_sum n (λ k. cond (p k) 1 0) + 1 ≤ count_sum n (λ k. cond (q k) 1 0))
        → (count_sum n (λ k. cond (p k) 1 0) + cond (p n) 1 0) + 1
        ≤ count_sum n (λ k. cond (q k) 1 0) + cond (q n) 1 0
    by (inl e) _ =
        let no' : p n ≡ false = ap p (sym e) ∙ left in
        let yes' : q n ≡ true = ap q (sym e) ∙ got in
        let w = weak n in
        rw (no', yes') (omega (arith, w))
    by (inr e) more =
        let ih = more e in
        let one = last (p n) refl in
        omega (arith, ih, one)
      where
        last : (b : Bool) → p n ≡ b → cond (p n) 1 0 ≤ cond (q n) 1 0
        last true f = let g = h n f in rw (f, g) (omega arith)
        last false f = rw f (omega arith)

-- a group isn't empty
some_member : (n total : ℕ) (group : List Member) → IsGroup n total group → 1 ≤ total → 0 < length group
unfolding weight_in
some_member n total [] h one = let e : 0 ≡ total = h.adds_up in absurd (omega (arith, e, one))
some_member n total (x ∷ xs) h one = omega arith

-- each group takes one scenario at least
groups_counted : (n rank m : ℕ) (tail : GroupTail) → IsGroupTail n rank tail → m ≤ length tail.groups
    → m ≤ count_sum (n + 1) (λ k. cond (in_groups (take m tail.groups) k) 1 0)
groups_counted n rank zero tail h l = omega arith
groups_counted n rank (suc m) tail h l =
    let ih = groups_counted n rank m tail h (omega (arith, l)) in
    let step = strict_count (n + 1) (in_groups (take m tail.groups)) (in_groups (take (m + 1) tail.groups)) scenario
    kept (omega (arith, member_within n tail.weight 0 group d ok some)) fresh taken in
    let next : suc m ≡ m + 1 = omega arith in
    rw next (omega (arith, ih, step))
  where
    d : Member
    d = record { scenario = 0; weight = 0 }

    low : m < length tail.groups
    low = omega (arith, l)

    group : List Member
    group = get_or tail.groups m []

    ok : IsGroup n tail.weight (get_or tail.groups m [])
    ok = h.groups m [] low

    some : 0 < length (get_or tail.groups m [])
    some = some_member n tail.weight (get_or tail.groups m []) ok h.some_weight

    scenario : ℕ
    scenario = (get_or (get_or tail.groups m []) 0 d).scenario

    has : has_scenario (get_or tail.groups m []) scenario ≡ true
    has = has_at (get_or tail.groups m []) 0 scenario d some refl

    kept : (k : ℕ) → in_groups (take m tail.groups) k ≡ true → in_groups (take (m + 1) tail.groups) k ≡ true
    kept k e = in_more tail.groups m k low
        ∙ ap (λ (b : Bool). b || has_scenario (get_or tail.groups m []) k) e

    fresh : in_groups (take m tail.groups) scenario ≡ false
    fresh = by (in_groups (take m tail.groups) scenario) refl
      where
        by : (b : Bool) → in_groups (take m tail.groups) scenario ≡ b → in_groups (take m tail.groups) scenario ≡ false
        by false e = e
        by true e =
            let w = in_found tail.groups m scenario e in
            absurd (disjoint_apart (get_or tail.groups w.0 []) (get_or tail.groups m []) scenario
            (h.apart w.0 m [] w.1 low) w.3 has)

    taken : in_groups (take (m + 1) tail.groups) scenario ≡ true
    taken = in_more tail.groups m scenario low
        ∙ ap (λ (b : Bool). in_groups (take m tail.groups) scenario || b) has
        ∙ either (in_groups (take m tail.groups) scenario)
      where
        either : (b : Bool) → (b || true) ≡ true
        either true = refl
        either false = refl

pub groups_few : (n rank : ℕ) (tail : GroupTail) → IsGroupTail n rank tail → length tail.groups ≤ n + 1
groups_few n rank tail h =
    let a = groups_counted n rank (length tail.groups) tail h (omega arith) in
    let b = count_sum_within (n + 1) 1 (λ k. cond (in_groups (take (length tail.groups) tail.groups) k) 1 0)
    (λ k. single (in_groups (take (length tail.groups) tail.groups) k)) in
    omega (arith, a, b)
  where
    single : (b : Bool) → cond b 1 0 ≤ 1
    single true = omega arith
    single false = omega arith

-- ---- how wide a row is

-- no tail of the first periods is wider
pub record AreWithinSoFar (tails : List (Option GroupTail)) (n width : ℕ) : Type 0 where
  pub few : width ≤ 1025
  pub each : (u : ℕ) → u < n → group_count (get_or tails u None) ≤ width

pub AreWithinSoFar-none : (tails : List (Option GroupTail)) → AreWithinSoFar tails 0 0
AreWithinSoFar-none tails = record { few = omega arith; each = λ u l. absurd (omega (arith, l)) }

pub AreWithinSoFar-more : (tails : List (Option GroupTail)) (n width count new : ℕ) → AreWithinSoFar tails n width
    → count ≡ group_count (get_or tails n None) → count ≤ 1025 → width ≤ new → count ≤ new
    → new ≤ 1025 → AreWithinSoFar tails (n + 1) new
AreWithinSoFar-more tails n width count new h e few a b c = record {
  few = c;
  each = λ u l. at u l (cases_eq u n);
}
  where
    at : (u : ℕ) → u < n + 1 → (u ≡ n) ⊎ (u ≡ n → ⊥) → group_count (get_or tails u None) ≤ new
    at u l (inl same) =
        let here : group_count (get_or tails u None) ≡ count =
        ap (λ (k : ℕ). group_count (get_or tails k None)) same ∙ sym e in
        omega (arith, here, b)
    at u l (inr other) = let before = h.each u (omega (arith, l, other)) in omega (arith, before, a)

pub AreWithin-from : (tails : List (Option GroupTail)) (n width : ℕ) → AreWithinSoFar tails n width
    → length tails ≤ n → AreWithin tails width
AreWithin-from tails n width h l = record {
  few = h.few;
  each = λ t. at t (cases_lt (t - 1) n);
}
  where
    at : (t : ℕ) → (t - 1 < n) ⊎ (n ≤ t - 1) → group_count (group_tail_at tails t) ≤ width
    at t (inl low) = h.each (t - 1) low
    at t (inr high) =
        let none : get_or tails (t - 1) None ≡ None = get_or_past tails (t - 1) None (omega (arith, l, high)) in
        rw none (omega arith)

pub count_few : (n rank : ℕ) (tail : Option GroupTail) → n ≤ 1024
    → ((x : GroupTail) → tail ≡ Some x → IsGroupTail n rank x) → group_count tail ≤ 1025
count_few n rank None few h = omega arith
count_few n rank (Some x) few h = let g = groups_few n rank x (h x refl) in omega (arith, g, few)
