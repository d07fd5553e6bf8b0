-- Steps that were tried one after the other: some are taken, or all fail and the list is as it was.
use Rattle.std.proofs.Common.{◌≡◌, ℕ, ◌+◌, ◌<◌, ◌≤◌, ◌⊎◌, inl, inr, refl, ◌∙◌, subst, arith, ℤ, ◌<ℤ◌, Bool, true, false}
use Rattle.std.proofs.Common.{int_le, Result, IfOk, unsigned_abs, ◌^◌}
use Rattle.std.specs.Int.{w128}
use Rattle.std.proofs.lemmas.Bool.{cases_lt}
use Rattle.std.proofs.lemmas.Int.{to_z-of_z}
use Rattle.std.proofs.lemmas.Result.{IfOk-weaker}
use mir.Val.{SFits}
use borrow.Author.Differences.{below_in, le-false}
use Rattle.fixed_num.proofs.Bits.{by_bits}
use Rattle.fixed_num.proofs.SignedLemmas.{back_from_abs}
use Rattle.instance_model.specs.Tables.{Tables}
use Rattle.lagrange_bound.specs.Prices.{PriceList, IsPriceList}
use Rattle.price_ladder.specs.Raised.{root_worth}
use Rattle.price_ladder.specs.Tried.{IsTaken, NoneReaches, IsTried}

-- a kind of steps, from a list to another
abbrev pub Kind : Type 1
Kind = PriceList → PriceList → Type 0

pub taken_wider : (inst : Tables) (target : ℤ) (a b : PriceList → Type 0) (new : PriceList) → (a new → b new)
    → IsTaken inst target a new → IsTaken inst target b new
taken_wider inst target a b new f h = record { step = f h.step; in_range = h.in_range; reached = h.reached }

pub none_wider : (inst : Tables) (target : ℤ) (a b : PriceList → Type 0) → ((p : PriceList) → b p → a p)
    → NoneReaches inst target a → NoneReaches inst target b
none_wider inst target a b f h = record { none = λ p r k. h.none p r (f p k) }

-- the same kind in other words
pub tried_as : (inst : Tables) (old new : PriceList) (target : ℤ) (a b : PriceList → Type 0) (r : Bool)
    → ((p : PriceList) → a p → b p) → ((p : PriceList) → b p → a p) → IsTried inst old new target a r
    → IsTried inst old new target b r
tried_as inst old new target a b true f g h = taken_wider inst target a b new (f new) h
tried_as inst old new target a b false f g h = (h.0, none_wider inst target a b g h.1)

-- steps of one kind fail, and those of another are tried
pub tried_then : (inst : Tables) (old mid new : PriceList) (target : ℤ) (a b c : Kind) (r : Bool)
    → ((p : PriceList) → b old p → c old p) → ((p : PriceList) → c old p → a old p ⊎ b old p)
    → IsTried inst old mid target (a old) false → IsTried inst mid new target (b mid) r
    → IsTried inst old new target (c old) r
tried_then inst old mid new target a b c r f g h k =
    at r (subst (λ (m : PriceList). IsTried inst m new target (b m) r) h.0 k)
  where
    both : NoneReaches inst target (a old) → NoneReaches inst target (b old) → NoneReaches inst target (c old)
    both x y = record { none = λ p r s. pick p r (g p s) }
      where
        pick : (p : PriceList) → IsPriceList inst p → a old p ⊎ b old p → root_worth inst p <ℤ target
        pick p r (inl s) = x.none p r s
        pick p r (inr s) = y.none p r s

    at : (r : Bool) → IsTried inst old new target (b old) r → IsTried inst old new target (c old) r
    at true t = taken_wider inst target (b old) (c old) new (f new) t
    at false t = (t.0, both h.1 t.1)

-- ---- in a loop

-- the list is as it was, and the steps of the numbers from a to n - 1 fail
pub record HaveFailed (inst : Tables) (old now : PriceList) (target : ℤ) (kind : ℕ → Kind) (a n : ℕ) : Type 0 where
  pub same : now ≡ old
  pub none : (k : ℕ) → a ≤ k → k < n → NoneReaches inst target (kind k old)

pub failed_none : (inst : Tables) (old : PriceList) (target : ℤ) (kind : ℕ → Kind) (a : ℕ)
    → HaveFailed inst old old target kind a a
failed_none inst old target kind a = record { same = refl; none = λ k l m. absurd (omega (arith, l, m)) }

pub failed_more : (inst : Tables) (old mid new : PriceList) (target : ℤ) (kind : ℕ → Kind) (a n : ℕ)
    → HaveFailed inst old mid target kind a n → IsTried inst mid new target (kind n mid) false
    → HaveFailed inst old new target kind a (n + 1)
failed_more inst old mid new target kind a n h t =
    record { same = t.0 ∙ h.same; none = λ k l m. at k l m (cases_lt k n) }
  where
    at : (k : ℕ) → a ≤ k → k < n + 1 → (k < n) ⊎ (n ≤ k) → NoneReaches inst target (kind k old)
    at k l m (inl p) = h.none k l p
    at k l m (inr p) =
        let e : n ≡ k = omega arith in
        subst (λ (j : ℕ). NoneReaches inst target (kind j old)) e
        (subst (λ (q : PriceList). NoneReaches inst target (kind n q)) h.same t.1)

-- one number has no steps
pub failed_idle : (inst : Tables) (old mid : PriceList) (target : ℤ) (kind : ℕ → Kind) (a n : ℕ)
    → HaveFailed inst old mid target kind a n → ((p : PriceList) → kind n old p → ⊥)
    → HaveFailed inst old mid target kind a (n + 1)
failed_idle inst old mid target kind a n h none = failed_more inst old mid mid target kind a n h
    (refl, record { none = λ p r s. absurd (none p (subst (λ (q : PriceList). kind n q p) h.same s)) })

pub failed_all : (inst : Tables) (old now : PriceList) (target : ℤ) (kind : ℕ → Kind) (c : Kind) (a n : ℕ)
    → ((p : PriceList) → c old p → (k : ℕ) × (a ≤ k) × (k < n) × kind k old p) → HaveFailed inst old now target kind a n
    → IsTried inst old now target (c old) false
failed_all inst old now target kind c a n f h = (h.same, record { none = λ p r s. at p r (f p s) })
  where
    at : (p : PriceList) → IsPriceList inst p → (k : ℕ) × (a ≤ k) × (k < n) × kind k old p → root_worth inst p <ℤ target
    at p r (k, l, m, s) = (h.none k l m).none p r s

-- a step of one number is taken
pub failed_taken : (inst : Tables) (old mid new : PriceList) (target : ℤ) (kind : ℕ → Kind) (c : Kind) (a n : ℕ)
    → (kind n old new → c old new) → HaveFailed inst old mid target kind a n
    → IsTried inst mid new target (kind n mid) true → IsTried inst old new target (c old) true
failed_taken inst old mid new target kind c a n f h t =
    taken_wider inst target (kind n mid) (c old) new (λ s. f (subst (λ (q : PriceList). kind n q new) h.same s)) t

-- steps of one kind fail, and one of another is taken
pub taken_after : (inst : Tables) (old mid new : PriceList) (target : ℤ) (a b c : Kind) → (b old new → c old new)
    → IsTried inst old mid target (a old) false → IsTried inst mid new target (b mid) true
    → IsTried inst old new target (c old) true
taken_after inst old mid new target a b c f h t =
    taken_wider inst target (b mid) (c old) new (λ s. f (subst (λ (q : PriceList). b q new) h.0 s)) t

-- ---- as the code has them

-- what was tried, at a target and an answer that are others by name
pub tried_to : (inst : Tables) (old new : PriceList) (t u : ℤ) (kind : PriceList → Type 0) (b r : Bool) → t ≡ u → b ≡ r
    → IsTried inst old new t kind b → IsTried inst old new u kind r
tried_to inst old new t u kind b r e f h =
    subst (λ (x : Bool). IsTried inst old new u kind x) f (subst (λ (z : ℤ). IsTried inst old new z kind b) e h)

-- steps of one kind fail, and those of another are tried last
pub tried_last : {E : Type 0} (x : Result Bool E) (inst : Tables) (old mid new : PriceList) (t u : ℤ) (a b c : Kind)
    → t ≡ u → ((p : PriceList) → b old p → c old p) → ((p : PriceList) → c old p → a old p ⊎ b old p)
    → IsTried inst old mid u (a old) false → IfOk x (IsTried inst mid new t (b mid))
    → IfOk x (IsTried inst old new u (c old))
tried_last x inst old mid new t u a b c e f g h k = IfOk-weaker x (IsTried inst mid new t (b mid))
    (IsTried inst old new u (c old))
    (λ r s. tried_then inst old mid new u a b c r f g h (tried_to inst mid new t u (b mid) r r e refl s)) k

-- the same kind in other words
pub tried_last_as : {E : Type 0} (x : Result Bool E) (inst : Tables) (old new : PriceList) (t u : ℤ)
    (a b : PriceList → Type 0) → t ≡ u → ((p : PriceList) → a p → b p) → ((p : PriceList) → b p → a p)
    → IfOk x (IsTried inst old new t a) → IfOk x (IsTried inst old new u b)
tried_last_as x inst old new t u a b e f g k = IfOk-weaker x (IsTried inst old new t a) (IsTried inst old new u b)
    (λ r s. tried_as inst old new u a b r f g (tried_to inst old new t u a r r e refl s)) k

-- a worth that the code finds below the target
pub falls_short : (inst : Tables) (p : PriceList) (t w : ℤ) → SFits w128 t → unsigned_abs w < 10 ^ 37
    → int_le (by_bits t) (by_bits w) ≡ false → w ≡ root_worth inst p → root_worth inst p <ℤ t
falls_short inst p t w fits small below e =
    let a : by_bits t ≡ t = to_z-of_z w128 t fits in
    let b : by_bits w ≡ w = back_from_abs w (omega (arith, small)) in
    let f : int_le t w ≡ false = rw (a, b) at below in
    subst (λ (z : ℤ). z <ℤ t) e (below_in w t (le-false t w f))
