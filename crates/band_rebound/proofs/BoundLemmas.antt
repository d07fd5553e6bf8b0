-- The bound of what leaves are worth.
use Rattle.std.proofs.Common.{◌≡◌, ◌⊎◌, inl, inr, ◌<◌, ◌≤◌, ◌^◌, refl, sym, ap, subst, arith, ℤ, pos}
use Rattle.std.proofs.Common.{◌-ℤ◌, ◌<ℤ◌}
use Rattle.std.proofs.Common.{◌≤ℤ◌, List, [], ◌∷◌, ◌++◌, length, All, Contains, unsigned_abs}
use Rattle.std.proofs.lemmas.List.{append-nil}
use Rattle.std.proofs.lemmas.List.Elements.{All-nil, All-head, All-contains, All-push, All-weaker, Contains-push}
use Rattle.std.proofs.lemmas.List.Elements.{Contains-append_left}
use Rattle.fixed_num.proofs.SignedLemmas.{signed_arith}
use Rattle.certificate_lines.specs.declared.line.Bound.{Bound}
use Rattle.certificate_lines.specs.declared.line.Bound.TheVariants.{NoPlan, Least}
use Rattle.certificate_tree.specs.Holding.{IsAtLeast}
use Rattle.certificate_tree.specs.Ranges.{IsBoundInRange}
use Rattle.band_rebound.specs.Rebinding.{IsLeastWorth, IsBoundOf, IsNoLower}
use Rattle.band_rebound.specs.Steps.{top_of}

at_most : (a b c : ℤ) → a ≤ℤ b → b ≤ℤ c → a ≤ℤ c
at_most a b c h k = omega (arith, signed_arith)

at_most_itself : (a : ℤ) → a ≤ℤ a
at_most_itself a = omega (arith, signed_arith)

just_above : (a b : ℤ) → a <ℤ b → a ≤ℤ b
just_above a b l = omega (arith, signed_arith)

both_ways : (a b : ℤ) → a ≤ℤ b → b ≤ℤ a → a ≡ b
both_ways a b h k = omega (arith, signed_arith)

-- ---- one number more

-- the first one
pub bound_first : (worths : List ℤ) (z b : ℤ) → worths ≡ [] → b ≤ℤ pos (10 ^ 36) → b ≤ℤ z
    → (b ≡ pos (10 ^ 36)) ⊎ (b ≡ z) → IsBoundOf (worths ++ z ∷ []) (Least b)
bound_first worths z b none most below among =
    subst (λ (ws : List ℤ). IsLeastWorth (ws ++ z ∷ []) b) (sym none) (record {
      some = omega arith;
      most = most;
      least = All-push (λ x. b ≤ℤ x) [] z (All-nil (λ x. b ≤ℤ x)) below;
      among = at among;
    })
  where
    at : (b ≡ pos (10 ^ 36)) ⊎ (b ≡ z) → (b ≡ pos (10 ^ 36)) ⊎ Contains (z ∷ []) b
    at (inl e) = inl e
    at (inr e) = inr (subst (Contains (z ∷ [])) (sym e) (Contains-push [] z))

longer : {A : Type 0} (xs : List A) (x : A) → 0 < length (xs ++ x ∷ [])
longer [] x = omega arith
longer (y ∷ ys) x = omega arith

-- one more, which is less
pub bound_less : (worths : List ℤ) (z b : ℤ) → IsBoundOf worths (Least b) → z <ℤ b
    → IsBoundOf (worths ++ z ∷ []) (Least z)
bound_less worths z b h l = record {
  some = longer worths z;
  most = at_most z b (pos (10 ^ 36)) (just_above z b l) h.most;
  least = All-push (λ x. z ≤ℤ x) worths z
      (All-weaker (λ x. b ≤ℤ x) (λ x. z ≤ℤ x) (λ x m. at_most z b x (just_above z b l) m) worths h.least)
      (at_most_itself z);
  among = inr (Contains-push worths z);
}

-- one more, which is not
pub bound_stays : (worths : List ℤ) (z b : ℤ) → IsBoundOf worths (Least b) → b ≤ℤ z
    → IsBoundOf (worths ++ z ∷ []) (Least b)
bound_stays worths z b h l = record {
  some = longer worths z;
  most = h.most;
  least = All-push (λ x. b ≤ℤ x) worths z h.least l;
  among = at h.among;
}
  where
    at : (b ≡ pos (10 ^ 36)) ⊎ Contains worths b → (b ≡ pos (10 ^ 36)) ⊎ Contains (worths ++ z ∷ []) b
    at (inl e) = inl e
    at (inr c) = inr (Contains-append_left worths (z ∷ []) b c)

pub bound_same : (worths : List ℤ) (bound : Bound) → IsBoundOf worths bound → IsBoundOf (worths ++ []) bound
bound_same worths bound h = subst (λ (ws : List ℤ). IsBoundOf ws bound) (sym (append-nil worths)) h

-- one more, beside what the bound is so far
pub with_less : (bound : Bound) (worths : List ℤ) (z top : ℤ) → top ≡ top_of bound → IsBoundOf worths bound → z <ℤ top
    → IsBoundOf (worths ++ z ∷ []) (Least z)
with_less NoPlan worths z top e h l =
    bound_first worths z z h (just_above z (pos (10 ^ 36)) (subst (λ (t : ℤ). z <ℤ t) e l)) (at_most_itself z)
    (inr refl)
with_less (Least b) worths z top e h l = bound_less worths z b h (subst (λ (t : ℤ). z <ℤ t) e l)

not_below : (a b : ℤ) → (a <ℤ b → ⊥) → b ≤ℤ a
not_below a b n = grind (arith, signed_arith)

pub with_stays : (bound : Bound) (worths : List ℤ) (z top : ℤ) → top ≡ top_of bound → IsBoundOf worths bound
    → (z <ℤ top → ⊥) → IsBoundOf (worths ++ z ∷ []) (Least top)
with_stays NoPlan worths z top e h n =
    bound_first worths z top h (subst (λ (t : ℤ). t ≤ℤ pos (10 ^ 36)) (sym e) (at_most_itself (pos (10 ^ 36))))
    (not_below z top n) (inl e)
with_stays (Least b) worths z top e h n =
    subst (λ (t : ℤ). (z <ℤ t → ⊥) → IsBoundOf (worths ++ z ∷ []) (Least t)) (sym e)
    (λ m. bound_stays worths z b h (not_below z b m)) n

-- ---- what a bound says

pub all_at_least : (worths : List ℤ) (bound : Bound) → IsBoundOf worths bound → All (IsAtLeast bound) worths
all_at_least worths NoPlan none =
    subst (λ (ws : List ℤ). All (IsAtLeast NoPlan) ws) (sym none) (All-nil (IsAtLeast NoPlan))
all_at_least worths (Least b) h = h.least

-- numbers from -10^36 on
abbrev pub AreHigh : List ℤ → Type 0
AreHigh worths = All (λ z. (pos 0 -ℤ pos (10 ^ 36)) ≤ℤ z) worths

within : (b : ℤ) → (pos 0 -ℤ pos (10 ^ 36)) ≤ℤ b → b ≤ℤ pos (10 ^ 36) → unsigned_abs b ≤ 10 ^ 36
within b l m = omega (arith, signed_arith)

pub bound_in_range : (worths : List ℤ) (bound : Bound) → AreHigh worths → IsBoundOf worths bound
    → IsBoundInRange bound
bound_in_range worths NoPlan high h = tt
bound_in_range worths (Least b) high h = at h.among
  where
    at : (b ≡ pos (10 ^ 36)) ⊎ Contains worths b → unsigned_abs b ≤ 10 ^ 36
    at (inl e) = subst (λ (z : ℤ). unsigned_abs z ≤ 10 ^ 36) (sym e) (omega arith)
    at (inr c) = within b (All-contains (λ z. (pos 0 -ℤ pos (10 ^ 36)) ≤ℤ z) worths b high c) h.most

range_at_most : (a : ℤ) → unsigned_abs a ≤ 10 ^ 36 → a ≤ℤ pos (10 ^ 36)
range_at_most a h = omega (arith, signed_arith)

-- where all numbers are at least a bound, theirs is no lower
pub no_lower : (worths : List ℤ) (old new : Bound) → IsBoundInRange old → All (IsAtLeast old) worths
    → IsBoundOf worths new → IsNoLower old new
no_lower worths old NoPlan range all h = tt
no_lower worths NoPlan (Least b) range all h = at worths all h.some
  where
    at : (ws : List ℤ) → All (IsAtLeast NoPlan) ws → 0 < length ws → ⊥
    at [] all l = omega (arith, l)
    at (z ∷ ws) all l = All-head (IsAtLeast NoPlan) z ws all
no_lower worths (Least a) (Least b) range all h = at h.among
  where
    at : (b ≡ pos (10 ^ 36)) ⊎ Contains worths b → a ≤ℤ b
    at (inl e) = subst (λ (z : ℤ). a ≤ℤ z) (sym e) (range_at_most a range)
    at (inr c) = All-contains (IsAtLeast (Least a)) worths b all c

-- ---- there is one bound

least_below : (worths : List ℤ) (a b : ℤ) → IsLeastWorth worths a → IsLeastWorth worths b → a ≤ℤ b
least_below worths a b h k = at k.among
  where
    at : (b ≡ pos (10 ^ 36)) ⊎ Contains worths b → a ≤ℤ b
    at (inl e) = subst (λ (z : ℤ). a ≤ℤ z) (sym e) h.most
    at (inr c) = All-contains (λ z. a ≤ℤ z) worths b h.least c

none_is_short : (worths : List ℤ) (b : ℤ) → worths ≡ [] → IsLeastWorth worths b → ⊥
none_is_short worths b none h =
    let short : length worths ≡ 0 = ap (λ (ws : List ℤ). length ws) none in omega (arith, short, h.some)

pub one_bound : (worths : List ℤ) (a b : Bound) → IsBoundOf worths a → IsBoundOf worths b → a ≡ b
one_bound worths NoPlan NoPlan h k = refl
one_bound worths NoPlan (Least b) h k = absurd (none_is_short worths b h k)
one_bound worths (Least a) NoPlan h k = absurd (none_is_short worths a k h)
one_bound worths (Least a) (Least b) h k =
    ap Least (both_ways a b (least_below worths a b h k) (least_below worths b a k h))
