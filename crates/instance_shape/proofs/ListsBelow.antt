-- Lists one after another, by number or by entry: how long they are together,
-- what holds of each element, and their order.
use Rattle.std.proofs.Common.{◌≡◌, ℕ, zero, suc, ◌*◌, ◌<◌, Bool, true, false, cond, List, [], ◌∷◌, ◌++◌, length, refl}
use Rattle.std.proofs.Common.{arith, length-append}
use Rattle.std.specs.Prelude.{All, AllPairs}
use Rattle.std.specs.List.{sum_by}
use Rattle.std.proofs.lemmas.List.Elements.{All-nil, All-head, All-tail, All-append, All-weaker}
use Rattle.std.proofs.lemmas.List.Kept.{AllPairs-cons}
use Rattle.std.proofs.lemmas.List.Sums.{sum_by-cons}
use Rattle.json_grammar.specs.Tree.{Tree}
use Rattle.instance_model.specs.Naturals.{count_sum}
use Rattle.instance_shape.specs.LookUp.{Entry}
use Rattle.instance_shape.specs.FileTables.{lists_below, all_below}

-- ---- lengths

pub length-lists_below : {A : Type 0} (n : ℕ) (f : ℕ → List A)
    → length (lists_below n f) ≡ count_sum n (λ k. length (f k))
unfolding count_sum
length-lists_below zero f = refl
length-lists_below (suc n) f = omega (arith, length-append (lists_below n f) (f n), length-lists_below n f)

pub length-all_below : {A : Type 0} (f : Tree → List A) (es : List Entry)
    → length (all_below es f) ≡ sum_by (λ e. length (f e.value)) es
length-all_below f [] = refl
length-all_below f (e ∷ es) = omega (
  arith,
  length-append (f e.value) (all_below es f),
  length-all_below f es,
  sum_by-cons (λ (e : Entry). length (f e.value)) e es,
)

-- lists of the same length
pub all_below-same : {A : Type 0} (f : Tree → List A) (n : ℕ) (es : List Entry) → All (λ e. length (f e.value) ≡ n) es
    → length (all_below es f) ≡ length es * n
all_below-same f n [] a = omega arith
all_below-same f n (e ∷ es) a =
    omega (
      arith,
      length-append (f e.value) (all_below es f),
      All-head (λ e. length (f e.value) ≡ n) e es a,
      all_below-same f n es (All-tail (λ e. length (f e.value) ≡ n) e es a),
    )

-- ---- what holds of each element

pub all_lists : {A : Type 0} (P : A → Type 0) (n : ℕ) (f : ℕ → List A) → ((k : ℕ) → k < n → All P (f k))
    → All P (lists_below n f)
all_lists P zero f h = All-nil P
all_lists P (suc n) f h =
    All-append P (lists_below n f) (f n) (all_lists P n f (λ k l. h k (omega arith))) (h n (omega arith))

pub all_cond : {A : Type 0} (P : A → Type 0) (b : Bool) (xs : List A) → (b ≡ true → All P xs) → All P (cond b xs [])
all_cond P true xs a = a refl
all_cond P false xs a = All-nil P

pub all_over : {A : Type 0} (P : A → Type 0) (f : Tree → List A) (es : List Entry) → ((v : Tree) → All P (f v))
    → All P (all_below es f)
all_over P f [] h = All-nil P
all_over P f (e ∷ es) h = All-append P (f e.value) (all_below es f) (h e.value) (all_over P f es h)

-- ---- order

pairs_nil : {A : Type 0} (R : A → A → Type 0) → AllPairs R []
pairs_nil R = λ i j d k l. absurd (omega arith)

pairs_tail : {A : Type 0} (R : A → A → Type 0) (x : A) (xs : List A) → AllPairs R (x ∷ xs) → AllPairs R xs
pairs_tail R x xs a = λ i j d k l. a (suc i) (suc j) d (omega arith) (omega arith)

pairs_head : {A : Type 0} (R : A → A → Type 0) (x : A) (xs : List A) → AllPairs R (x ∷ xs) → All (R x) xs
pairs_head R x xs a = λ k d l. a 0 (suc k) d (omega arith) (omega arith)

pairs_append : {A : Type 0} (R : A → A → Type 0) (xs ys : List A) → AllPairs R xs → AllPairs R ys
    → All (λ x. All (R x) ys) xs → AllPairs R (xs ++ ys)
pairs_append R [] ys a b c = b
pairs_append R (x ∷ xs) ys a b c =
    AllPairs-cons R x (xs ++ ys) (All-append (R x) xs ys (pairs_head R x xs a) (All-head (λ x. All (R x) ys) x xs c))
    (pairs_append R xs ys (pairs_tail R x xs a) b (All-tail (λ x. All (R x) ys) x xs c))

pub pairs_cond : {A : Type 0} (R : A → A → Type 0) (b : Bool) (xs : List A) → AllPairs R xs → AllPairs R (cond b xs [])
pairs_cond R true xs a = a
pairs_cond R false xs a = pairs_nil R

-- lists in order, of which each comes before the later ones, as what holds of its elements shows
pub pairs_lists : {A : Type 0} (R : A → A → Type 0) (P : ℕ → A → Type 0) (n : ℕ) (f : ℕ → List A)
    → ((a b : ℕ) (x y : A) → a < b → P a x → P b y → R x y) → ((k : ℕ) → All (P k) (f k)) → ((k : ℕ) → AllPairs R (f k))
    → AllPairs R (lists_below n f)
pairs_lists R P zero f r p q = pairs_nil R
pairs_lists R P (suc n) f r p q =
    pairs_append R (lists_below n f) (f n) (pairs_lists R P n f r p q) (q n)
    (all_lists (λ x. All (R x) (f n)) n f
    (λ k l. All-weaker (P k) (λ x. All (R x) (f n))
    (λ x h. All-weaker (P n) (R x) (λ y g. r k n x y l h g) (f n) (p n)) (f k) (p k)))
