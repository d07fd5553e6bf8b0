-- Lists that begin with a run of one kind of bytes.
use Rattle.std.proofs.Common.{◌≡◌, ℕ, ◌<◌, List, [], ◌∷◌, ◌++◌, length, slice_index, refl, sym, ◌∙◌, ap, subst, arith}
use Rattle.std.specs.List.{All}
use Rattle.std.proofs.lemmas.List.Elements.{All-head, All-tail}
use Rattle.plan_text.specs.Runs.{IsSplit}

-- no list that begins with P, where none may
no_more : (P : ℕ → Type 0) (b : List ℕ) (y : ℕ) (ys : List ℕ) → b ≡ y ∷ ys → P y
    → (0 < length b → P (slice_index b 0) → ⊥) → ⊥
no_more P b y ys e p ends =
    let some : 0 < length b = omega (arith, ap length e) in
    let head : slice_index b 0 ≡ y = ap (λ xs. slice_index xs 0) e in
    ends some (subst P (sym head) p)

-- a list is cut into a run and a rest that does not go on with it in one way only
pub same_runs : (P : ℕ → Type 0) (a b c d : List ℕ) → a ++ b ≡ c ++ d → All P a → All P c
    → (0 < length b → P (slice_index b 0) → ⊥) → (0 < length d → P (slice_index d 0) → ⊥) → (a ≡ c) × (b ≡ d)
same_runs P [] b [] d e pa pc nb nd = (refl, e)
same_runs P [] b (y ∷ c) d e pa pc nb nd = absurd (no_more P b y (c ++ d) e (All-head P y c pc) nb)
same_runs P (x ∷ a) b [] d e pa pc nb nd = absurd (no_more P d x (a ++ b) (sym e) (All-head P x a pa) nd)
same_runs P (x ∷ a) b (y ∷ c) d e pa pc nb nd =
    let tails : a ++ b ≡ c ++ d = cc in
    let heads : x ≡ y = cc in
    let more = same_runs P a b c d tails (All-tail P x a pa) (All-tail P y c pc) nb nd in
    (cc, more.1)

-- the same of a list that was cut
pub split_once : (P : ℕ → Type 0) (xs front rest a b : List ℕ) → IsSplit P xs front rest → xs ≡ a ++ b → All P a
    → (0 < length b → P (slice_index b 0) → ⊥) → (front ≡ a) × (rest ≡ b)
split_once P xs front rest a b s e pa nb = same_runs P front rest a b (sym s.joined ∙ e) s.front_all pa s.ends nb
