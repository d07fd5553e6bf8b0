-- Loops over the scenarios of a period, as the code goes over them.
use Rattle.std.proofs.Common.{◌≡◌, ℕ, ◌+◌, ◌<◌, sym, ◌∙◌, ap, arith, Bool, true, false, cond, List, [], ◌∷◌, ◌++◌}
use Rattle.std.proofs.Common.{length, get_or, take, filter, count_by}
use Rattle.std.specs.List.{range_with_len}
use Rattle.std.proofs.lemmas.List.{take_all, append-nil}
use Rattle.std.proofs.lemmas.List.Elements.{filter_more}
use Rattle.std.proofs.lemmas.List.FromFn.{get_or-range_with_len, length-range_with_len}
use Rattle.std.proofs.lemmas.List.Sums.{count_by_more_yes, count_by_more_no}

-- the numbers 1, .., j of 1, .., n
abbrev pub first : ℕ → ℕ → List ℕ
first n j = take j (range_with_len 1 n)

pub first_all : (n j : ℕ) → j ≡ n → first n j ≡ range_with_len 1 n
first_all n j e = take_all j (range_with_len 1 n) (omega (arith, length-range_with_len 1 n))

next : (n j : ℕ) → j < n → get_or (range_with_len 1 n) j 0 ≡ j + 1
next n j l = get_or-range_with_len 1 n j 0 l ∙ swap j
  where
    swap : (j : ℕ) → 1 + j ≡ j + 1
    swap j = omega arith

within : (n j : ℕ) → j < n → j < length (range_with_len 1 n)
within n j l = omega (arith, length-range_with_len 1 n)

pub counted_yes : (p : ℕ → Bool) (n j c : ℕ) → j < n → c ≡ count_by p (first n j) → p (j + 1) ≡ true
    → c + 1 ≡ count_by p (first n (j + 1))
counted_yes p n j c l h t =
    let e : p (get_or (range_with_len 1 n) j 0) ≡ true = ap p (next n j l) ∙ t in
    ap (λ (k : ℕ). k + 1) h ∙ sym (count_by_more_yes p (range_with_len 1 n) j 0 (within n j l) e)

pub counted_no : (p : ℕ → Bool) (n j c : ℕ) → j < n → c ≡ count_by p (first n j) → p (j + 1) ≡ false
    → c ≡ count_by p (first n (j + 1))
counted_no p n j c l h t =
    let e : p (get_or (range_with_len 1 n) j 0) ≡ false = ap p (next n j l) ∙ t in
    h ∙ sym (count_by_more_no p (range_with_len 1 n) j 0 (within n j l) e)

pub kept_yes : (p : ℕ → Bool) (n j : ℕ) (ks : List ℕ) → j < n → ks ≡ filter p (first n j) → p (j + 1) ≡ true
    → ks ++ (j + 1) ∷ [] ≡ filter p (first n (j + 1))
kept_yes p n j ks l h t =
    let e : p (get_or (range_with_len 1 n) j 0) ≡ true = ap p (next n j l) ∙ t in
    ap (λ (xs : List ℕ). xs ++ (j + 1) ∷ []) h ∙ ap (λ (k : ℕ). filter p (first n j) ++ k ∷ []) (sym (next n j l))
    ∙ sym (filter_more p (range_with_len 1 n) j 0 (within n j l)
    ∙ ap (λ (b : Bool). filter p (first n j) ++ cond b (get_or (range_with_len 1 n) j 0 ∷ []) []) e)

pub kept_no : (p : ℕ → Bool) (n j : ℕ) (ks : List ℕ) → j < n → ks ≡ filter p (first n j) → p (j + 1) ≡ false
    → ks ≡ filter p (first n (j + 1))
kept_no p n j ks l h t =
    let e : p (get_or (range_with_len 1 n) j 0) ≡ false = ap p (next n j l) ∙ t in
    h ∙ sym (filter_more p (range_with_len 1 n) j 0 (within n j l)
    ∙ ap (λ (b : Bool). filter p (first n j) ++ cond b (get_or (range_with_len 1 n) j 0 ∷ []) []) e
    ∙ append-nil (filter p (first n j)))
