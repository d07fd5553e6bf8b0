-- The cliques of a price list, as they are read.
use Rattle.std.proofs.Common.{◌≡◌, inl, inr, ℕ, ◌+◌, refl, sym, ◌∙◌, ap, subst, arith, List, map}
use Rattle.std.proofs.Common.{IsTrue, Bool, true, Less, Equal, Greater}
use Rattle.std.specs.declared.cmp.Ordering.{Ordering}
use Rattle.std.specs.Cmp.Lexicographic.{slice_cmp}
use Rattle.std.specs.Ordering.{is_lt, nat_cmp}
use Rattle.std.proofs.lemmas.Cmp.{nat_list_cmp_total}
use Rattle.refined_prices.specs.declared.clique.Clique.{Clique}
use Rattle.refined_prices.specs.Cliques.{CliqueBefore}
use Rattle.refined_text.specs.grammar.Further.{CliqueBelow}
use Rattle.refined_text.proofs.GrammarValueLemmas.{cmp_up}

less : (o : Ordering) → is_lt o ≡ true → o ≡ Less
less Less e = refl
less Equal e = absurd (cc)
less Greater e = absurd (cc)

-- a clique is below what one behind it is below of
pub below_clique : (t : ℕ) (members : List ℕ) (x y : Clique) → CliqueBefore x y → CliqueBelow t members y
    → CliqueBelow t members x
below_clique t ms x y (inl h) (inl k) = inl (omega (arith, h, k))
below_clique t ms x y (inl h) (inr k) = let e = k.0 in inl (omega (arith, h, e))
below_clique t ms x y (inr h) (inl k) = let e = h.0 in inl (omega (arith, k, e))
below_clique t ms x y (inr h) (inr k) =
    let up : List ℕ → List ℕ = λ xs. map (λ i. i + 1) xs in
    let one = cmp_up x.members y.members ∙ less (slice_cmp nat_cmp x.members y.members) h.1 in
    let two = less (slice_cmp nat_cmp (up y.members) ms) k.1 in
    inr (h.0 ∙ k.0, ap is_lt (nat_list_cmp_total.trans (up x.members) (up y.members) ms one two))

-- the members decide between cliques of one period
pub members_below : (t : ℕ) (x : Clique) (a members : List ℕ) (r : Bool) → x.period ≡ t → a ≡ x.members
    → (IsTrue r → IsTrue (is_lt (slice_cmp nat_cmp (map (λ i. i + 1) a) members)))
    × (IsTrue (is_lt (slice_cmp nat_cmp (map (λ i. i + 1) a) members)) → IsTrue r)
    → (IsTrue r → CliqueBelow t members x) × (CliqueBelow t members x → IsTrue r)
members_below t x a ms r same is told = (
  λ yes. inr (same, subst (λ (b : List ℕ). IsTrue (is_lt (slice_cmp nat_cmp (map (λ i. i + 1) b) ms))) is (told.0 yes)),
  back,
)
  where
    back : CliqueBelow t ms x → IsTrue r
    back (inl h) = absurd (omega (arith, h, same))
    back (inr h) = told.1 (subst (λ (b : List ℕ). IsTrue (is_lt (slice_cmp nat_cmp (map (λ i. i + 1) b) ms))) (sym is)
        h.1)
