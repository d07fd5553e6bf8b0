-- Elements that a loop over a list reads.
use Rattle.std.proofs.Common.{◌≡◌, ℕ, ◌<◌, ◌≤◌, ◌⊎◌, inl, inr, ◌∙◌, ap, sym, arith, cond, max, List, length, get_or}
use Rattle.std.proofs.Common.{Less, Equal, Greater}
use Rattle.std.specs.declared.cmp.Ordering.{Ordering}
use Rattle.std.specs.Cmp.{nat_cmp_is}
use Rattle.std.specs.Ordering.{is_lt, nat_cmp, ord_max}
use Rattle.std.proofs.Math.Nat.{max-eq_left, max-eq_right}
use Rattle.std.proofs.lemmas.Bool.{cases_eq, cases_lt}
use Rattle.std.proofs.lemmas.List.{get_or_read, get_or_default}

-- of a list that is another, at any default
pub read_as : {X : Type 0} (xs ys : List X) (k : ℕ) (x : X) → xs ≡ ys → k < length xs → x ≡ get_or xs k x → (d : X)
    → x ≡ get_or ys k d
read_as {X} xs ys k x e l is d = get_or_read xs k x l is d ∙ ap (λ (zs : List X). get_or zs k d) e

-- the same where the element is read at a default
pub read_at : {X : Type 0} (xs ys : List X) (k : ℕ) (b : X) → xs ≡ ys → k < length xs → (d : X)
    → get_or xs k b ≡ get_or ys k d
read_at {X} xs ys k b e l d = get_or_default xs k b d l ∙ ap (λ (zs : List X). get_or zs k d) e

-- the greater of two numbers
pub greater_is : (a b : ℕ) → ord_max nat_cmp a b ≡ max a b
greater_is a b = by (cases_lt b a)
  where
    not_less : (b ≡ a) ⊎ (b ≡ a → ⊥) → a ≤ b → cond (is_lt (nat_cmp b a)) a b ≡ max a b
    not_less (inl e) l =
        ap (λ (o : Ordering). cond (is_lt o) a b) (sym (nat_cmp_is b a Equal e)) ∙ sym (max-eq_right l)
    not_less (inr e) l =
        ap (λ (o : Ordering). cond (is_lt o) a b) (sym (nat_cmp_is b a Greater (omega (arith, e, l))))
        ∙ sym (max-eq_right l)

    by : (b < a) ⊎ (a ≤ b) → cond (is_lt (nat_cmp b a)) a b ≡ max a b
    by (inl l) = ap (λ (o : Ordering). cond (is_lt o) a b) (sym (nat_cmp_is b a Less l))
        ∙ sym (max-eq_left (omega (arith, l)))
    by (inr l) = not_less (cases_eq b a) l
