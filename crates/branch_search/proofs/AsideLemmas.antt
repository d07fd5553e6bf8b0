-- The leaves that are set aside, beside those that wait.
use Rattle.std.proofs.Common.{◌≡◌, ℕ, ◌<◌, inl, inr, refl, sym, subst, arith, ℤ, ◌≤ℤ◌, ◌^◌, List, [], ◌∷◌, ◌++◌}
use Rattle.std.proofs.Common.{◌⊎◌, All, Bool, true, false, IsTrue, Option, Some, None, IfSome, unsigned_abs}
use Rattle.std.specs.Prelude.{IsPermutation, ◌↔◌}
use Rattle.std.specs.Int.{int_min}
use Rattle.std.proofs.lemmas.Bool.{false≢true}
use Rattle.std.proofs.lemmas.Int.{by_lt_z}
use Rattle.std.proofs.lemmas.List.{append-nil}
use Rattle.std.proofs.lemmas.List.Elements.{All-nil, All-cons, All-append, All-contains, All-weaker}
use Rattle.std.proofs.lemmas.List.Elements.{Contains-append_left, Contains-append_right}
use Rattle.std.proofs.lemmas.List.Sorted.{IsPermutation-refl, IsPermutation-sym, IsPermutation-middle}
use Rattle.std.proofs.lemmas.List.Sorted.{IsPermutation-append_left}
use Rattle.fixed_num.proofs.SignedLemmas.{signed_arith}
use Rattle.branch_search.specs.declared.best.Best.{Best}
use Rattle.branch_search.specs.Valued.{IsBelow}
use Rattle.branch_search.specs.Entries.{with_entry}
use Rattle.branch_search.specs.Aside.{lesser_of, IsLeast, IsLeastWorth, IsFiled}
use Rattle.branch_search.specs.Parted.{IsNoEntry}
use Rattle.branch_search.specs.States.{IsLeftWorth, NoneIsLeft}
use Rattle.branch_search.proofs.LeafLemmas.{at_most_trans, below_is_at_most, at_most_below}
use Rattle.branch_search.proofs.EntryLemmas.{all_with}

-- ---- all entries

with_append : (worth : Option ℤ) (k : ℕ) (xs ys : List (ℤ × ℕ))
    → with_entry worth k xs ++ ys ≡ with_entry worth k (xs ++ ys)
with_append None k xs ys = refl
with_append (Some z) k xs ys = refl

-- one more waits
pub more_wait : (worth : Option ℤ) (k : ℕ) (old new aside : List (ℤ × ℕ)) → IsPermutation (with_entry worth k old) new
    → IsPermutation (with_entry worth k (old ++ aside)) (new ++ aside)
more_wait worth k old new aside p =
    subst (λ (xs : List (ℤ × ℕ)). IsPermutation xs (new ++ aside)) (with_append worth k old aside)
    (IsPermutation-append_left aside (with_entry worth k old) new p)

-- one more is set aside
more_aside : (worth : Option ℤ) (k : ℕ) (waiting aside : List (ℤ × ℕ))
    → IsPermutation (with_entry worth k (waiting ++ aside)) (waiting ++ with_entry worth k aside)
more_aside None k waiting aside = IsPermutation-refl (waiting ++ aside)
more_aside (Some z) k waiting aside =
    IsPermutation-sym (waiting ++ (z, k) ∷ aside) ((z, k) ∷ (waiting ++ aside))
    (IsPermutation-middle waiting (z, k) aside)

-- what is set aside then
abbrev pub aside_after : Bool → Option ℤ → ℕ → List (ℤ × ℕ) → List (ℤ × ℕ)
aside_after true worth k aside = aside
aside_after false worth k aside = with_entry worth k aside

pub filed_all : (may_split : Bool) (worth : Option ℤ) (k : ℕ) (old new : List (ℤ × ℕ)) (before after : Option ℤ)
    (aside : List (ℤ × ℕ)) → IsFiled may_split worth k old new before after
    → IsPermutation (with_entry worth k (old ++ aside)) (new ++ aside_after may_split worth k aside)
filed_all true worth k old new before after aside h = more_wait worth k old new aside h.0
filed_all false worth k old new before after aside h =
    subst (λ (ws : List (ℤ × ℕ)). IsPermutation (with_entry worth k (old ++ aside)) (ws ++ with_entry worth k aside))
    (sym h.0) (more_aside worth k old aside)

-- ---- numbers that are no entries

-- of the other numbers
pub filed_waits : (may_split : Bool) (worth : Option ℤ) (k : ℕ) (old new : List (ℤ × ℕ)) (before after : Option ℤ)
    → IsFiled may_split worth k old new before after → (j : ℕ) → (j ≡ k → ⊥) → IsNoEntry old j → IsNoEntry new j
filed_waits true worth k old new before after h j d free =
    all_with (λ (e : ℤ × ℕ). e.1 ≡ j → ⊥) worth k old new h.0 (λ z e f. d (sym f)) free
filed_waits false worth k old new before after h j d free =
    subst (λ (ws : List (ℤ × ℕ)). IsNoEntry ws j) (sym h.0) free

pub filed_stays : (may_split : Bool) (worth : Option ℤ) (k : ℕ) (aside : List (ℤ × ℕ)) (j : ℕ) → (j ≡ k → ⊥)
    → IsNoEntry aside j → IsNoEntry (aside_after may_split worth k aside) j
filed_stays true worth k aside j d free = free
filed_stays false None k aside j d free = free
filed_stays false (Some z) k aside j d free =
    All-cons (λ (e : ℤ × ℕ). e.1 ≡ j → ⊥) (z, k) aside (λ f. d (sym f)) free

-- the number itself does not wait, or is not set aside
pub filed_here : (may_split : Bool) (May : Type 0) (worth : Option ℤ) (k : ℕ) (old new aside : List (ℤ × ℕ))
    (before after : Option ℤ) → IsTrue may_split ↔ May → IsFiled may_split worth k old new before after
    → IsNoEntry old k → IsNoEntry aside k
    → (May × IsNoEntry (aside_after may_split worth k aside) k) ⊎ ((May → ⊥) × IsNoEntry new k)
filed_here true May worth k old new aside before after own h w a = inl (own.0 refl, a)
filed_here false May worth k old new aside before after own h w a = inr (
  λ m. false≢true (own.1 m),
  subst (λ (ws : List (ℤ × ℕ)). IsNoEntry ws k) (sym h.0) w,
)

-- ---- the least worth

at_most_itself : (z : ℤ) → z ≤ℤ z
at_most_itself z = omega (arith, signed_arith)

min_first : (a b : ℤ) → a ≤ℤ b → int_min a b ≡ a
min_first a b l = omega (arith, signed_arith, l)

min_second : (a b : ℤ) → b ≤ℤ a → int_min a b ≡ b
min_second a b l = omega (arith, signed_arith, l)

least_left : (xs ys : List (ℤ × ℕ)) (a b : ℤ) → IsLeast xs a → IsLeast ys b → a ≤ℤ b → IsLeast (xs ++ ys) a
least_left xs ys a b h k l = record {
  number = h.number;
  member = Contains-append_left xs ys (a, h.number) h.member;
  least = All-append (λ (o : ℤ × ℕ). a ≤ℤ o.0) xs ys h.least
      (All-weaker (λ (o : ℤ × ℕ). b ≤ℤ o.0) (λ (o : ℤ × ℕ). a ≤ℤ o.0) (λ o m. at_most_trans a b o.0 l m) ys k.least);
}

least_right : (xs ys : List (ℤ × ℕ)) (a b : ℤ) → IsLeast xs a → IsLeast ys b → b ≤ℤ a → IsLeast (xs ++ ys) b
least_right xs ys a b h k l = record {
  number = k.number;
  member = Contains-append_right xs ys (b, k.number) k.member;
  least = All-append (λ (o : ℤ × ℕ). b ≤ℤ o.0) xs ys
      (All-weaker (λ (o : ℤ × ℕ). a ≤ℤ o.0) (λ (o : ℤ × ℕ). b ≤ℤ o.0) (λ o m. at_most_trans b a o.0 l m) xs h.least)
      k.least;
}

pub least_of_both : (x y : Option ℤ) (xs ys : List (ℤ × ℕ)) → IsLeastWorth x xs → IsLeastWorth y ys
    → IsLeastWorth (lesser_of x y) (xs ++ ys)
least_of_both None None xs ys h k = subst (λ (zs : List (ℤ × ℕ)). zs ++ ys ≡ []) (sym h) k
least_of_both None (Some b) xs ys h k = subst (λ (zs : List (ℤ × ℕ)). IsLeast (zs ++ ys) b) (sym h) k
least_of_both (Some a) None xs ys h k = subst (λ (zs : List (ℤ × ℕ)). IsLeast (xs ++ zs) a) (sym k)
    (subst (λ (zs : List (ℤ × ℕ)). IsLeast zs a) (sym (append-nil xs)) h)
least_of_both (Some a) (Some b) xs ys h k = by_lt_z a b
    (λ l. subst (IsLeast (xs ++ ys)) (sym (min_first a b (below_is_at_most a b l)))
    (least_left xs ys a b h k (below_is_at_most a b l)))
    (λ l. subst (IsLeast (xs ++ ys)) (sym (min_second a b l)) (least_right xs ys a b h k l))

one_least : (z : ℤ) (k : ℕ) → IsLeast ((z, k) ∷ []) z
one_least z k = record {
  number = k;
  member = (0, omega arith, refl);
  least = All-cons (λ (o : ℤ × ℕ). z ≤ℤ o.0) (z, k) [] (at_most_itself z) (All-nil (λ (o : ℤ × ℕ). z ≤ℤ o.0));
}

least_with : (worth before : Option ℤ) (k : ℕ) (aside : List (ℤ × ℕ)) → IsLeastWorth before aside
    → IsLeastWorth (lesser_of worth before) (with_entry worth k aside)
least_with None before k aside h = h
least_with (Some z) before k aside h = least_of_both (Some z) before ((z, k) ∷ []) aside (one_least z k) h

pub filed_least : (may_split : Bool) (worth : Option ℤ) (k : ℕ) (old new : List (ℤ × ℕ)) (before after : Option ℤ)
    (aside : List (ℤ × ℕ)) → IsFiled may_split worth k old new before after → IsLeastWorth before aside
    → IsLeastWorth after (aside_after may_split worth k aside)
filed_least true worth k old new before after aside h l =
    subst (λ (x : Option ℤ). IsLeastWorth x aside) (sym h.1) l
filed_least false worth k old new before after aside h l =
    subst (λ (x : Option ℤ). IsLeastWorth x (with_entry worth k aside)) (sym h.1) (least_with worth before k aside l)

-- ---- sizes

pub least_small : (x : Option ℤ) (xs : List (ℤ × ℕ)) → IsLeastWorth x xs
    → All (λ entry. unsigned_abs entry.0 < 10 ^ 37) xs → IfSome x (λ z. unsigned_abs z < 10 ^ 37)
least_small None xs h s = tt
least_small (Some z) xs h s =
    All-contains (λ (e : ℤ × ℕ). unsigned_abs e.0 < 10 ^ 37) xs (z, h.number) s h.member

pub lesser_small : (x y : Option ℤ) → IfSome x (λ z. unsigned_abs z < 10 ^ 37)
    → IfSome y (λ z. unsigned_abs z < 10 ^ 37) → IfSome (lesser_of x y) (λ z. unsigned_abs z < 10 ^ 37)
lesser_small None y h k = k
lesser_small (Some a) None h k = h
lesser_small (Some a) (Some b) h k = by_lt_z a b
    (λ l. subst (λ (z : ℤ). unsigned_abs z < 10 ^ 37) (sym (min_first a b (below_is_at_most a b l))) h)
    (λ l. subst (λ (z : ℤ). unsigned_abs z < 10 ^ 37) (sym (min_second a b l)) k)

-- ---- what is left of them

-- a lesser number is below the value of the best plan where another one is
pub below_less : (best : Option Best) (y z : ℤ) → y ≤ℤ z → IsBelow best z → IsBelow best y
below_less None y z l h = tt
below_less (Some best) y z l h = at_most_below y z best.value l h

pub left_of_least : (best : Option Best) (x : Option ℤ) (xs : List (ℤ × ℕ)) (z : ℤ) → IsLeastWorth x xs → x ≡ Some z
    → IsBelow best z → IsLeftWorth best xs z
left_of_least best x xs z h e b =
    let w = subst (λ (o : Option ℤ). IsLeastWorth o xs) e h in
    record { number = w.number; member = w.member; least = w.least; below = b }

pub none_of_least : (best : Option Best) (x : Option ℤ) (xs : List (ℤ × ℕ)) (z : ℤ) → IsLeastWorth x xs → x ≡ Some z
    → (IsBelow best z → ⊥) → NoneIsLeft best xs
none_of_least best x xs z h e b =
    let w = subst (λ (o : Option ℤ). IsLeastWorth o xs) e h in
    All-weaker (λ (o : ℤ × ℕ). z ≤ℤ o.0) (λ (o : ℤ × ℕ). IsBelow best o.0 → ⊥)
    (λ o l m. b (below_less best z o.0 l m)) xs w.least

pub none_of_none : (best : Option Best) (x : Option ℤ) (xs : List (ℤ × ℕ)) → IsLeastWorth x xs → x ≡ None
    → NoneIsLeft best xs
none_of_none best x xs h e =
    let w = subst (λ (o : Option ℤ). IsLeastWorth o xs) e h in
    subst (NoneIsLeft best) (sym w) (All-nil (λ (o : ℤ × ℕ). IsBelow best o.0 → ⊥))
