-- Values and the numbers of their lines, and lists in parts.
use Rattle.std.proofs.Common.{◌≡◌, ◌⊎◌, inl, inr, ℕ, suc, ◌+◌, ◌-◌, ◌<◌, ◌≤◌, refl, sym, ◌∙◌, ap, subst, arith, List}
use Rattle.std.proofs.Common.{[], ◌∷◌, ◌++◌, length, map, get_or, set, Option, Some, None, IsTrue, cond, true, false}
use Rattle.std.proofs.Common.{◌==◌, nat_lt, Less, Equal, Greater}
use Rattle.std.specs.List.{All, AllPairs}
use Rattle.std.specs.Cmp.Lexicographic.{slice_cmp}
use Rattle.std.specs.Ordering.{is_lt, nat_cmp, ordering_then}
use Rattle.std.specs.declared.cmp.Ordering.{Ordering}
use Rattle.std.proofs.lemmas.Bool.{cases_eq, cases_lt}
use Rattle.std.proofs.lemmas.Bool.Decides.{nat_tests}
use Rattle.std.proofs.lemmas.List.{length-append, get_or_append_left}
use Rattle.certificate_text.proofs.KeyLemmas.{less_one}
use Rattle.refined_prices.specs.declared.member.Member.{Member}
use Rattle.refined_prices.specs.declared.group_tail.GroupTail.{GroupTail}
use Rattle.refined_prices.specs.declared.offset.Offset.{Offset}
use Rattle.refined_prices.specs.declared.clique.Clique.{Clique}
use Rattle.refined_prices.specs.Offsets.{group_tail_at, OffsetBefore}
use Rattle.refined_prices.specs.Cliques.{CliqueBefore}
use Rattle.refined_text.specs.text.Text.{line_member}
use Rattle.refined_text.specs.grammar.Further.{group_of, offset_of_line, clique_of_line, with_group, with_group_at}
use Rattle.refined_text.specs.grammar.Further.{OffsetBelow}
use Rattle.refined_text.specs.grammar.Further.{CliqueBelow}

-- ---- lists in parts

pub at_seam : {A : Type 0} (done : List A) (x : A) (more : List A) (d : A)
    → get_or (done ++ x ∷ more) (length done) d ≡ x
at_seam [] x more d = refl
at_seam (y ∷ done) x more d = at_seam done x more d

pub set_seam : {A : Type 0} (done : List A) (x y : A) (more : List A)
    → set (done ++ x ∷ more) (length done) y ≡ done ++ y ∷ more
set_seam [] x y more = refl
set_seam {A = A} (z ∷ done) x y more = ap (λ (xs : List A). z ∷ xs) (set_seam done x y more)

-- the elements before one of them, where each stands so to each later one
pub pairs_before : {A : Type 0} (R : A → A → Type 0) (xs ys : List A) (y : A) → AllPairs R (xs ++ y ∷ ys)
    → All (λ x. R x y) xs
pairs_before {A = A} R xs ys y h k d l =
    let pair : R (get_or (xs ++ y ∷ ys) k d) (get_or (xs ++ y ∷ ys) (length xs) d) =
    h k (length xs) d l (omega (arith, length-append xs (y ∷ ys))) in
    let upper : R (get_or (xs ++ y ∷ ys) k d) y =
    subst (λ (z : A). R (get_or (xs ++ y ∷ ys) k d) z) (at_seam xs y ys d) pair in
    subst (λ (z : A). R z y) (get_or_append_left xs (y ∷ ys) d k l) upper

-- ---- tails

pub tail_seam : (done : List (Option GroupTail)) (x : Option GroupTail) (more : List (Option GroupTail))
    → group_tail_at (done ++ x ∷ more) (length done + 1) ≡ x
tail_seam done x more =
    ap (λ (k : ℕ). get_or (done ++ x ∷ more) k None) (less_one (length done)) ∙ at_seam done x more None

pub group_seam : (done : List (Option GroupTail)) (x : Option GroupTail) (more : List (Option GroupTail))
    (group : List Member)
    → with_group_at (done ++ x ∷ more) (length done + 1) group ≡ done ++ Some (with_group x group) ∷ more
group_seam done x more group =
    ap (λ (k : ℕ). set (done ++ x ∷ more) k
    (Some (with_group (group_tail_at (done ++ x ∷ more) (length done + 1)) group))) (less_one (length done))
    ∙ set_seam done x (Some (with_group (group_tail_at (done ++ x ∷ more) (length done + 1)) group)) more
    ∙ ap (λ (o : Option GroupTail). done ++ Some (with_group o group) ∷ more) (tail_seam done x more)

-- ---- groups

pub group_again : (group : List Member) → group_of (map line_member group) ≡ group
group_again [] = refl
group_again (x ∷ xs) = ap (λ (ys : List Member). x ∷ ys) (group_again xs)

-- ---- offsets

pub offset_again : (x : Offset) → offset_of_line x.period (x.intervention + 1) (x.group + 1) x.value ≡ x
offset_again x =
    let i = less_one x.intervention in
    let g = less_one x.group in
    λ j. record { period = x.period; intervention = i j; group = g j; value = x.value }

pub offset_below : (x y : Offset) → OffsetBefore y x → OffsetBelow x.period (x.intervention + 1) (x.group + 1) y
offset_below x y (inl h) = inl h
offset_below x y (inr (e, inl h)) = inr (e, inl (omega (arith, h)))
offset_below x y (inr (e, inr (f, h))) = inr (e, inr (ap (λ i. i + 1) f, omega (arith, h)))

pub offset_before : (y : Offset) (t i g v : ℕ) → 1 ≤ i → 1 ≤ g → OffsetBelow t i g y
    → OffsetBefore y (offset_of_line t i g v)
offset_before y t i g v some one (inl h) = inl h
offset_before y t i g v some one (inr (e, inl h)) = inr (e, inl (omega (arith, h)))
offset_before y t i g v some one (inr (e, inr (f, h))) =
    inr (e, inr (omega (arith, f), omega (arith, h)))

-- ---- cliques

pub members_again : (xs : List ℕ) → map (λ i. i - 1) (map (λ i. i + 1) xs) ≡ xs
members_again [] = refl
members_again (x ∷ xs) =
    let e = less_one x in let f = members_again xs in λ j. e j ∷ f j

pub clique_again : (x : Clique) → clique_of_line x.period x.value (map (λ i. i + 1) x.members) ≡ x
clique_again x =
    let e = members_again x.members in
    λ j. record { period = x.period; value = x.value; members = e j }

less_yes : (a b : ℕ) → a < b → nat_lt a b ≡ true
less_yes a b h = grind (arith, nat_tests)

less_no : (a b : ℕ) → b ≤ a → nat_lt a b ≡ false
less_no a b h = grind (arith, nat_tests)

same_yes : (a b : ℕ) → a ≡ b → (a == b) ≡ true
same_yes a b h = grind (arith, nat_tests)

same_no : (a b : ℕ) → (a ≡ b → ⊥) → (a == b) ≡ false
same_no a b h = grind (arith, nat_tests)

up_less : (a b : ℕ) → nat_lt (a + 1) (b + 1) ≡ nat_lt a b
up_less a b = at (cases_lt a b)
  where
    at : (a < b) ⊎ (b ≤ a) → nat_lt (a + 1) (b + 1) ≡ nat_lt a b
    at (inl h) = less_yes (a + 1) (b + 1) (omega (arith, h)) ∙ sym (less_yes a b h)
    at (inr h) = less_no (a + 1) (b + 1) (omega (arith, h)) ∙ sym (less_no a b h)

up_same : (a b : ℕ) → ((a + 1) == (b + 1)) ≡ (a == b)
up_same a b = at (cases_eq a b)
  where
    at : (a ≡ b) ⊎ (a ≡ b → ⊥) → ((a + 1) == (b + 1)) ≡ (a == b)
    at (inl e) = same_yes (a + 1) (b + 1) (omega (arith, e)) ∙ sym (same_yes a b e)
    at (inr n) = same_no (a + 1) (b + 1) (λ e. n (omega (arith, e))) ∙ sym (same_no a b n)

up_cmp : (a b : ℕ) → nat_cmp (a + 1) (b + 1) ≡ nat_cmp a b
up_cmp a b =
    let l = up_less a b in
    let s = up_same a b in
    λ j. cond (l j) Less (cond (s j) Equal Greater)

pub cmp_up : (xs ys : List ℕ)
    → slice_cmp nat_cmp (map (λ i. i + 1) xs) (map (λ i. i + 1) ys) ≡ slice_cmp nat_cmp xs ys
cmp_up [] [] = refl
cmp_up [] (y ∷ ys) = refl
cmp_up (x ∷ xs) [] = refl
cmp_up (x ∷ xs) (y ∷ ys) =
    let e = up_cmp x y in
    let f = cmp_up xs ys in
    λ j. ordering_then (e j) (f j)

pub clique_below : (x y : Clique) → CliqueBefore y x → CliqueBelow x.period (map (λ i. i + 1) x.members) y
clique_below x y (inl h) = inl h
clique_below x y (inr (e, h)) =
    inr (e, subst (λ (o : Ordering). IsTrue (is_lt o)) (sym (cmp_up y.members x.members)) h)

-- numbers from 1 on
pub members_back : (xs : List ℕ) → All (λ i. 1 ≤ i) xs → map (λ i. i + 1) (map (λ i. i - 1) xs) ≡ xs
members_back [] h = refl
members_back (x ∷ xs) h =
    let some : 1 ≤ x = h 0 x (omega arith) in
    let e : x - 1 + 1 ≡ x = omega (arith, some) in
    let f = members_back xs (λ k d l. h (suc k) d (omega (arith, l))) in
    λ j. e j ∷ f j

pub clique_before : (y : Clique) (t v : ℕ) (members : List ℕ) → All (λ i. 1 ≤ i) members → CliqueBelow t members y
    → CliqueBefore y (clique_of_line t v members)
clique_before y t v members some (inl h) = inl h
clique_before y t v members some (inr (e, h)) =
    let back : IsTrue (is_lt (slice_cmp nat_cmp (map (λ i. i + 1) y.members)
    (map (λ i. i + 1) (map (λ i. i - 1) members)))) =
    subst (λ (ms : List ℕ). IsTrue (is_lt (slice_cmp nat_cmp (map (λ i. i + 1) y.members) ms)))
    (sym (members_back members some)) h in
    inr (e, subst (λ (o : Ordering). IsTrue (is_lt o)) (cmp_up y.members (map (λ i. i - 1) members)) back)
