-- What the tests of groups find.
use Rattle.std.proofs.Common.{◌≡◌, ◌≢◌, ℕ, zero, suc, ◌+◌, ◌<◌, ◌≤◌, ◌⊎◌, inl, inr, refl, sym, ◌∙◌, ap, subst}
use Rattle.std.proofs.Common.{arith, Bool, true, false, ◌||◌, ◌==◌, List, [], ◌∷◌, length, get_or, set, take, drop, All}
use Rattle.std.proofs.Common.{AllPairs, replicate}
use Rattle.std.proofs.lemmas.Bool.{cases_eq, false≢true}
use Rattle.std.proofs.lemmas.Bool.Decides.{Decides-eqb, nat_tests}
use Rattle.std.proofs.lemmas.List.{drop_more, drop_all, take_more, take_all, get_or-map, length-map}
use Rattle.std.proofs.lemmas.List.{get_or-set_same, get_or-set_other, get_or-replicate, length-replicate}
use Rattle.std.proofs.lemmas.List.{get_or_default}
use Rattle.std.proofs.lemmas.List.Elements.{All-nil, All-cons, All-head, All-tail, All-map}
use Rattle.std.proofs.lemmas.List.Recursion.{or_at, or_push}
use Rattle.lagrange_bound.specs.Least.{AscendAbove}
use Rattle.refined_prices.specs.declared.member.Member.{Member}
use Rattle.refined_prices.specs.Groups.{scenarios_in, weight_in, IsGroup, AreDisjoint}
use Rattle.refined_prices.specs.tables.GroupTests.{IsNext, has_scenario, in_groups, AreFree}

-- ---- one group

-- the rest of a group, behind the member with scenario last and weights that add up to a sum so far
abbrev pub IsGroupOn : ℕ → ℕ → ℕ → ℕ → List Member → Type 0
IsGroupOn n total last sum [] = sum ≡ total
IsGroupOn n total last sum (x ∷ xs) = IsNext n last x × IsGroupOn n total x.scenario (sum + x.weight) xs

pub on_more : (n total last sum k : ℕ) (xs : List Member) (d : Member) → k < length xs → IsNext n last (get_or xs k d)
    → IsGroupOn n total (get_or xs k d).scenario (sum + (get_or xs k d).weight) (drop (k + 1) xs)
    → IsGroupOn n total last sum (drop k xs)
on_more n total last sum k xs d l next rest =
    subst (IsGroupOn n total last sum) (sym (drop_more xs k d l)) (next, rest)

pub on_less : (n total last sum k : ℕ) (xs : List Member) (d : Member) → k < length xs
    → IsGroupOn n total last sum (drop k xs)
    → IsNext n last (get_or xs k d)
    × IsGroupOn n total (get_or xs k d).scenario (sum + (get_or xs k d).weight) (drop (k + 1) xs)
on_less n total last sum k xs d l h = subst (IsGroupOn n total last sum) (drop_more xs k d l) h

pub on_end : (n total last sum k : ℕ) (xs : List Member) → length xs ≤ k → sum ≡ total
    → IsGroupOn n total last sum (drop k xs)
on_end n total last sum k xs l h = subst (IsGroupOn n total last sum) (sym (drop_all k xs l)) h

pub on_ended : (n total last sum k : ℕ) (xs : List Member) → length xs ≤ k → IsGroupOn n total last sum (drop k xs)
    → sum ≡ total
on_ended n total last sum k xs l h = subst (IsGroupOn n total last sum) (drop_all k xs l) h

-- the same, part by part
record IsGroupBehind (n total last sum : ℕ) (xs : List Member) : Type 0 where
  ascend : AscendAbove last (scenarios_in xs)
  within : All (λ k. k ≤ n) (scenarios_in xs)
  some_weight : All (λ x. 1 ≤ x.weight) xs
  small_weight : All (λ x. x.weight ≤ 1000) xs
  adds_up : sum + weight_in xs ≡ total

behind_from_on : (n total last sum : ℕ) (xs : List Member) → IsGroupOn n total last sum xs
    → IsGroupBehind n total last sum xs
unfolding weight_in
behind_from_on n total last sum [] h = record {
  ascend = tt;
  within = All-nil (λ k. k ≤ n);
  some_weight = All-nil (λ x. 1 ≤ x.weight);
  small_weight = All-nil (λ x. x.weight ≤ 1000);
  adds_up = omega (arith, h);
}
behind_from_on n total last sum (x ∷ xs) h =
    let w = behind_from_on n total x.scenario (sum + x.weight) xs h.1 in
    let rest = w.adds_up in
    record {
      ascend = (h.0.above, w.ascend);
      within = All-cons (λ k. k ≤ n) x.scenario (scenarios_in xs) h.0.within w.within;
      some_weight = All-cons (λ y. 1 ≤ y.weight) x xs h.0.some_weight w.some_weight;
      small_weight = All-cons (λ y. y.weight ≤ 1000) x xs h.0.small_weight w.small_weight;
      adds_up = omega (arith, rest);
    }

on_from_behind : (n total last sum : ℕ) (xs : List Member) → IsGroupBehind n total last sum xs
    → IsGroupOn n total last sum xs
unfolding weight_in
on_from_behind n total last sum [] h = let e = h.adds_up in omega (arith, e)
on_from_behind n total last sum (x ∷ xs) h =
    let e = h.adds_up in (
      record {
        above = h.ascend.0;
        within = All-head (λ k. k ≤ n) x.scenario (scenarios_in xs) h.within;
        some_weight = All-head (λ y. 1 ≤ y.weight) x xs h.some_weight;
        small_weight = All-head (λ y. y.weight ≤ 1000) x xs h.small_weight;
      },
      on_from_behind n total x.scenario (sum + x.weight) xs (record {
        ascend = h.ascend.1;
        within = All-tail (λ k. k ≤ n) x.scenario (scenarios_in xs) h.within;
        some_weight = All-tail (λ y. 1 ≤ y.weight) x xs h.some_weight;
        small_weight = All-tail (λ y. y.weight ≤ 1000) x xs h.small_weight;
        adds_up = omega (arith, e);
      }),
    )

pub IsGroup-from_on : (n total : ℕ) (xs : List Member) → IsGroupOn n total 0 0 xs → IsGroup n total xs
IsGroup-from_on n total xs h =
    let w = behind_from_on n total 0 0 xs h in
    let e = w.adds_up in
    record {
      ascend = w.ascend;
      within = w.within;
      some_weight = w.some_weight;
      small_weight = w.small_weight;
      adds_up = omega (arith, e);
    }

pub on_from_IsGroup : (n total : ℕ) (xs : List Member) → IsGroup n total xs → IsGroupOn n total 0 0 xs
on_from_IsGroup n total xs h =
    let e = h.adds_up in
    on_from_behind n total 0 0 xs (record {
      ascend = h.ascend;
      within = h.within;
      some_weight = h.some_weight;
      small_weight = h.small_weight;
      adds_up = omega (arith, e);
    })

-- each scenario of a group is one of the period
pub member_within : (n total p : ℕ) (xs : List Member) (d : Member) → IsGroup n total xs → p < length xs
    → (get_or xs p d).scenario ≤ n
member_within n total p xs d h l =
    let low : p < length (scenarios_in xs) = omega (arith, length-map xs (λ (x : Member). x.scenario), l) in
    subst (λ (k : ℕ). k ≤ n) (get_or-map (λ (x : Member). x.scenario) xs p d 0 l) (h.within p 0 low)

-- so each has a flag
pub members_flagged : (n total : ℕ) (xs : List Member) (taken : List Bool) → IsGroup n total xs
    → length taken ≡ n + 1 → All (λ x. x.scenario < length taken) xs
members_flagged n total xs taken h e p d l = omega (arith, member_within n total p xs d h l, e)

-- ---- the scenarios of groups

pub has_more : (xs : List Member) (j k : ℕ) (d : Member) → j < length xs
    → has_scenario (take (j + 1) xs) k ≡ (has_scenario (take j xs) k || ((get_or xs j d).scenario == k))
unfolding has_scenario
has_more xs j k d l =
    ap (λ (ys : List Member). has_scenario ys k) (take_more xs j d l)
    ∙ or_push (λ ys. has_scenario ys k) (λ x. x.scenario == k) refl (λ _ _. refl) (take j xs) (get_or xs j d)

pub has_none : (k : ℕ) → has_scenario [] k ≡ false
unfolding has_scenario
has_none k = refl

pub has_at : (xs : List Member) (p k : ℕ) (d : Member) → p < length xs → (get_or xs p d).scenario ≡ k
    → has_scenario xs k ≡ true
unfolding has_scenario
has_at xs p k d l e = or_at (λ ys. has_scenario ys k) (λ x. x.scenario == k) refl (λ _ _. refl) xs p d l
    ((Decides-eqb (get_or xs p d).scenario k).1 e)

pub has_found : (xs : List Member) (k : ℕ) → has_scenario xs k ≡ true
    → (p : ℕ) × (p < length xs) × ((d : Member) → (get_or xs p d).scenario ≡ k)
unfolding has_scenario
has_found [] k e = absurd (false≢true e)
has_found (x ∷ xs) k e = at (x.scenario == k) refl e (has_found xs k)
  where
    at : (b : Bool) → (x.scenario == k) ≡ b → (b || has_scenario xs k) ≡ true
        → (has_scenario xs k ≡ true → (p : ℕ) × (p < length xs) × ((d : Member) → (get_or xs p d).scenario ≡ k))
        → (p : ℕ) × (p < length (x ∷ xs)) × ((d : Member) → (get_or (x ∷ xs) p d).scenario ≡ k)
    at true here _ _ = (zero, omega arith, λ d. (Decides-eqb x.scenario k).0 here)
    at false _ rest more =
        let w = more rest in
        let l = w.1 in
        (suc w.0, omega (arith, l), w.2)

pub in_more : (groups : List (List Member)) (m k : ℕ) → m < length groups
    → in_groups (take (m + 1) groups) k ≡ (in_groups (take m groups) k || has_scenario (get_or groups m []) k)
unfolding in_groups
in_more groups m k l =
    ap (λ (ys : List (List Member)). in_groups ys k) (take_more groups m [] l)
    ∙ or_push (λ ys. in_groups ys k) (λ group. has_scenario group k) refl (λ _ _. refl) (take m groups)
    (get_or groups m [])

in_at : (groups : List (List Member)) (m i k : ℕ) → i < m → i < length groups
    → has_scenario (get_or groups i []) k ≡ true → in_groups (take m groups) k ≡ true
unfolding in_groups
in_at [] m i k low l e = absurd (omega (arith, l))
in_at (g ∷ gs) zero i k low l e = absurd (omega (arith, low))
in_at (g ∷ gs) (suc m) zero k low l e = rw e refl
in_at (g ∷ gs) (suc m) (suc i) k low l e =
    let rest : in_groups (take m gs) k ≡ true = in_at gs m i k (omega (arith, low)) (omega (arith, l)) e in
    rw rest (either (has_scenario g k))
  where
    either : (x : Bool) → (x || true) ≡ true
    either true = refl
    either false = refl

pub in_found : (groups : List (List Member)) (m k : ℕ) → in_groups (take m groups) k ≡ true
    → (i : ℕ) × (i < m) × (i < length groups) × (has_scenario (get_or groups i []) k ≡ true)
unfolding in_groups
in_found [] zero k e = absurd (false≢true e)
in_found [] (suc m) k e = absurd (false≢true e)
in_found (g ∷ gs) zero k e = absurd (false≢true e)
in_found (g ∷ gs) (suc m) k e = at (has_scenario g k) refl e (in_found gs m k)
  where
    at : (b : Bool) → has_scenario g k ≡ b → (b || in_groups (take m gs) k) ≡ true
        → (in_groups (take m gs) k ≡ true
        → (i : ℕ) × (i < m) × (i < length gs) × (has_scenario (get_or gs i []) k ≡ true))
        → (i : ℕ) × (i < suc m) × (i < length (g ∷ gs)) × (has_scenario (get_or (g ∷ gs) i []) k ≡ true)
    at true here _ _ = (zero, omega arith, omega arith, here)
    at false _ rest more =
        let w = more rest in
        let low = w.1 in let l = w.2 in
        (suc w.0, omega (arith, low), omega (arith, l), w.3)

-- ---- disjoint groups

disjoint_from : (a b : List Member) → ((k : ℕ) → has_scenario a k ≡ true → has_scenario b k ≡ true → ⊥)
    → AreDisjoint a b
disjoint_from a b h =
    All-map (λ j. All (λ k. j ≢ k) (scenarios_in b)) (λ (x : Member). x.scenario) a
    (λ p d l. All-map (λ k. (get_or a p d).scenario ≢ k) (λ (x : Member). x.scenario) b
    (λ q e m. λ same. h (get_or a p d).scenario (has_at a p (get_or a p d).scenario d l refl)
    (has_at b q (get_or a p d).scenario e m (sym same))))

pub disjoint_apart : (a b : List Member) (k : ℕ) → AreDisjoint a b → has_scenario a k ≡ true
    → has_scenario b k ≡ true → ⊥
disjoint_apart a b k h e f =
    let p = has_found a k e in
    let q = has_found b k f in
    let d : Member = record { scenario = 0; weight = 0 } in
    let lp = p.1 in let lq = q.1 in
    let low : p.0 < length (scenarios_in a) = omega (arith, length-map a (λ (x : Member). x.scenario), lp) in
    let low' : q.0 < length (scenarios_in b) = omega (arith, length-map b (λ (x : Member). x.scenario), lq) in
    let x : get_or (scenarios_in a) p.0 0 ≡ k = get_or-map (λ (y : Member). y.scenario) a p.0 d 0 lp ∙ p.2 d in
    let y : get_or (scenarios_in b) q.0 0 ≡ k = get_or-map (λ (y : Member). y.scenario) b q.0 d 0 lq ∙ q.2 d in
    h p.0 0 low q.0 0 low' (x ∙ sym y)

-- ---- group by group

-- the first m groups are groups, no scenario is in two of them, and the flags tell which are in one
pub record AreTaken (n total m : ℕ) (groups : List (List Member)) (taken : List Bool) : Type 0 where
  pub each : length taken ≡ n + 1
  pub groups_so_far : (j : ℕ) → j < m → IsGroup n total (get_or groups j [])
  pub apart : (i j : ℕ) → i < j → j < m → AreDisjoint (get_or groups i []) (get_or groups j [])
  pub taken_so_far : (k : ℕ) → k ≤ n → get_or taken k false ≡ in_groups (take m groups) k

pub AreTaken-none : (n total : ℕ) (groups : List (List Member)) (taken : List Bool)
    → taken ≡ replicate {A = Bool} (n + 1) false → AreTaken n total 0 groups taken
unfolding in_groups
AreTaken-none n total groups taken e = record {
  each = ap length e ∙ length-replicate (n + 1) false;
  groups_so_far = λ j l. absurd (omega (arith, l));
  apart = λ i j h l. absurd (omega (arith, l));
  taken_so_far = λ k l. ap (λ (xs : List Bool). get_or xs k false) e
      ∙ get_or-replicate (n + 1) k false false (omega (arith, l));
}

free_at : (group : List Member) (taken : List Bool) (k : ℕ) → AreFree taken group → has_scenario group k ≡ true
    → get_or taken k false ≡ false
free_at group taken k free e =
    let p = has_found group k e in
    let d : Member = record { scenario = 0; weight = 0 } in
    subst (λ (j : ℕ). get_or taken j false ≡ false) (p.2 d) (free p.0 d p.1)

pub AreTaken-more : (n total m : ℕ) (groups : List (List Member)) (group : List Member) (old new : List Bool)
    → AreTaken n total m groups old → m < length groups → group ≡ get_or groups m [] → IsGroup n total group
    → AreFree old group → length new ≡ n + 1
    → ((k : ℕ) → k ≤ n → get_or new k false ≡ (get_or old k false || has_scenario group k))
    → AreTaken n total (m + 1) groups new
AreTaken-more n total m groups group old new h l is ok free each added = record {
  each = each;
  groups_so_far = λ j w. groups_at j w (cases_eq j m);
  apart = λ i j w v. apart_at i j w v (cases_eq j m);
  taken_so_far = λ k w. added k w ∙ ap (λ (b : Bool). b || has_scenario group k) (h.taken_so_far k w)
      ∙ ap (λ (g : List Member). in_groups (take m groups) k || has_scenario g k) is ∙ sym (in_more groups m k l);
}
  where
    groups_at : (j : ℕ) → j < m + 1 → (j ≡ m) ⊎ (j ≡ m → ⊥) → IsGroup n total (get_or groups j [])
    groups_at j w (inl e) = subst (λ (i : ℕ). IsGroup n total (get_or groups i [])) (sym e)
        (subst (IsGroup n total) is ok)
    groups_at j w (inr e) = h.groups_so_far j (omega (arith, w, e))

    last : (i : ℕ) → i < m → AreDisjoint (get_or groups i []) (get_or groups m [])
    last i w = subst (AreDisjoint (get_or groups i [])) is (disjoint_from (get_or groups i []) group
        (λ k e f. false≢true (sym (free_at group old k free f)
        ∙ h.taken_so_far k (within k f)
        ∙ in_at groups m i k w (omega (arith, w, l)) e)))
      where
        within : (k : ℕ) → has_scenario group k ≡ true → k ≤ n
        within k f =
            let p = has_found group k f in
            let d : Member = record { scenario = 0; weight = 0 } in
            subst (λ (j : ℕ). j ≤ n) (p.2 d) (member_within n total p.0 group d ok p.1)

    apart_at : (i j : ℕ) → i < j → j < m + 1 → (j ≡ m) ⊎ (j ≡ m → ⊥)
        → AreDisjoint (get_or groups i []) (get_or groups j [])
    apart_at i j w v (inl e) = subst (λ (k : ℕ). AreDisjoint (get_or groups i []) (get_or groups k [])) (sym e)
        (last i (omega (arith, w, e)))
    apart_at i j w v (inr e) = h.apart i j w (omega (arith, v, e))

-- after all groups
pub AreTaken-all : (n total m : ℕ) (groups : List (List Member)) (taken : List Bool)
    → AreTaken n total m groups taken → length groups ≤ m
    → All (IsGroup n total) groups × AllPairs AreDisjoint groups
AreTaken-all n total m groups taken h l = (
  λ j d w. subst (IsGroup n total) (get_or_default groups j [] d w) (h.groups_so_far j (omega (arith, w, l))),
  λ i j d w v.
      subst (λ (g : List Member). AreDisjoint g (get_or groups j d))
      (get_or_default groups i [] d (omega (arith, w, v)))
      (subst (AreDisjoint (get_or groups i [])) (get_or_default groups j [] d v)
      (h.apart i j w (omega (arith, v, l)))),
)

-- a group that isn't one, or isn't free
pub refused_group : (n total m : ℕ) (groups : List (List Member)) (group : List Member) (taken : List Bool)
    → AreTaken n total m groups taken → m < length groups → group ≡ get_or groups m []
    → (IsGroup n total group × AreFree taken group → ⊥)
    → All (IsGroup n total) groups × AllPairs AreDisjoint groups → ⊥
refused_group n total m groups group taken h l is bad w =
    let ok : IsGroup n total group = subst (IsGroup n total) (sym is) (w.0 m [] l) in
    bad (ok, λ p d v. free ok p d v (get_or taken (get_or group p d).scenario false) refl)
  where
    free : IsGroup n total group → (p : ℕ) (d : Member) → p < length group → (b : Bool)
        → get_or taken (get_or group p d).scenario false ≡ b → get_or taken (get_or group p d).scenario false ≡ false
    free ok p d v false e = e
    free ok p d v true e =
        let k = (get_or group p d).scenario in
        let i = in_found groups m (get_or group p d).scenario
        (sym (h.taken_so_far (get_or group p d).scenario (member_within n total p group d ok v)) ∙ e) in
        absurd (disjoint_apart (get_or groups i.0 []) group (get_or group p d).scenario
        (subst (AreDisjoint (get_or groups i.0 [])) (sym is) (w.1 i.0 m [] i.1 l)) i.3
        (has_at group p (get_or group p d).scenario d v refl))

-- ---- flags, member by member

pub flags_none : (flags : List Bool) (k : ℕ) → get_or flags k false ≡ (get_or flags k false || has_scenario [] k)
unfolding has_scenario
flags_none flags k = at (get_or flags k false)
  where
    at : (b : Bool) → b ≡ (b || false)
    at true = refl
    at false = refl

pub flags_more : (xs : List Member) (j k s : ℕ) (d : Member) (old now : List Bool) → j < length xs
    → s ≡ (get_or xs j d).scenario → s < length now
    → get_or now k false ≡ (get_or old k false || has_scenario (take j xs) k)
    → get_or (set now s true) k false ≡ (get_or old k false || has_scenario (take (j + 1) xs) k)
flags_more xs j k s d old now l is low h = by (cases_eq s k)
  where
    both : (a b c : Bool) → c ≡ true → true ≡ (a || (b || c))
    both true b c e = refl
    both false true c e = refl
    both false false c e = sym e

    same : (a b c : Bool) → c ≡ false → (a || b) ≡ (a || (b || c))
    same true b c e = refl
    same false true c e = refl
    same false false c e = sym e

    other : (a b : ℕ) → (a ≡ b → ⊥) → (a == b) ≡ false
    other a b e = grind (arith, nat_tests)

    by : (s ≡ k) ⊎ (s ≡ k → ⊥)
        → get_or (set now s true) k false ≡ (get_or old k false || has_scenario (take (j + 1) xs) k)
    by (inl e) =
        subst (λ (m : ℕ). get_or (set now s true) m false ≡ true) e (get_or-set_same now s true false low)
        ∙ both (get_or old k false) (has_scenario (take j xs) k) ((get_or xs j d).scenario == k)
        ((Decides-eqb (get_or xs j d).scenario k).1 (sym is ∙ e))
        ∙ ap (λ (b : Bool). get_or old k false || b) (sym (has_more xs j k d l))
    by (inr e) =
        let apart : k ≢ s = λ f. e (sym f) in
        get_or-set_other now s k true false apart ∙ h
        ∙ same (get_or old k false) (has_scenario (take j xs) k) ((get_or xs j d).scenario == k)
        (other (get_or xs j d).scenario k (λ f. e (is ∙ f)))
        ∙ ap (λ (b : Bool). get_or old k false || b) (sym (has_more xs j k d l))

pub flags_all : (xs : List Member) (j k : ℕ) (old now : List Bool) → length xs ≤ j
    → get_or now k false ≡ (get_or old k false || has_scenario (take j xs) k)
    → get_or now k false ≡ (get_or old k false || has_scenario xs k)
flags_all xs j k old now l h =
    h ∙ ap (λ (ys : List Member). get_or old k false || has_scenario ys k) (take_all j xs l)
