-- A file that is read piece by piece.
use Rattle.std.proofs.Common.{◌≡◌, ℕ, zero, suc, ◌+◌, List, [], ◌∷◌, ◌++◌, length, take, drop, refl, sym, ◌∙◌, ap}
use Rattle.std.proofs.Common.{arith, append_assoc, length-drop, subst, take-append-drop, ◌≤◌}
use Rattle.std.proofs.lemmas.List.{append-nil}
use Rattle.std.specs.Prelude.{Option, Some, None, option_map, IfSome, IfErr, Result, Ok, Err}
use Rattle.plan_desk.specs.declared.read_fault.ReadFault.{ReadFault}
use Rattle.plan_desk.specs.Desk.{Shown, Input, ShowsSame, after_read, all_read, input_after_read}

-- what is true of a fault is true of the one that was answered
pub at_fault : {T : Type 0} (r : Result T ReadFault) (fault : ReadFault) (P : ReadFault → Type 0)
    → IfErr r (λ e. e ≡ fault) → P fault → IfErr r P
at_fault (Ok x) fault P is p = tt
at_fault (Err e) fault P is p = subst P (sym is) p

pub take-plus : (i k : ℕ) (xs : List ℕ) → take (i + k) xs ≡ take i xs ++ take k (drop i xs)
take-plus zero k xs = let e : zero + k ≡ k = omega arith in rw e refl
take-plus (suc i) k [] = let e : suc i + k ≡ suc (i + k) = omega arith in rw e (sym (none k))
  where
    none : (k : ℕ) → take {A = ℕ} k [] ≡ []
    none zero = refl
    none (suc k) = refl
take-plus (suc i) k (x ∷ xs) = let e : suc i + k ≡ suc (i + k) = omega arith in
    rw e (ap (λ (l : List ℕ). x ∷ l) (take-plus i k xs))

pub drop-plus : (k n : ℕ) (xs : List ℕ) → drop n (drop k xs) ≡ drop (k + n) xs
drop-plus zero n xs = let e : zero + n ≡ n = omega arith in rw e refl
drop-plus (suc k) n [] = let e : suc k + n ≡ suc (k + n) = omega arith in rw e (none n)
  where
    none : (n : ℕ) → drop {A = ℕ} n [] ≡ []
    none zero = refl
    none (suc n) = refl
drop-plus (suc k) n (x ∷ xs) = let e : suc k + n ≡ suc (k + n) = omega arith in rw e (drop-plus k n xs)

drop-told : (k n : ℕ) (o : Option (List ℕ)) → option_map (drop n) (option_map (drop k) o) ≡ option_map (drop (k + n)) o
drop-told k n None = refl
drop-told k n (Some xs) = ap (λ (l : List ℕ). Some l) (drop-plus k n xs)

-- nothing was read
pub read_none : (s : Shown) → ShowsSame s (after_read 0 s)
read_none s = record { input = λ j. record s.input { unread = go s.input.unread j }; output = refl; said = refl }
  where
    go : (o : Option (List ℕ)) → o ≡ option_map (drop 0) o
    go None = refl
    go (Some xs) = refl

-- k bytes were read, and then n
pub read_more : (old mid new : Shown) (k n : ℕ) → ShowsSame mid (after_read k old) → ShowsSame new (after_read n mid)
    → ShowsSame new (after_read (k + n) old)
read_more old mid new k n e f = record {
  input =
      f.input ∙ ap (input_after_read n) e.input ∙ (λ j. record old.input { unread = drop-told k n old.input.unread j });
  output = f.output ∙ e.output;
  said = f.said ∙ e.said;
}

-- k bytes were read, and nothing is left to read
pub read_all_of : (old mid new : Shown) (k : ℕ) → ShowsSame mid (after_read k old) → ShowsSame new (after_read 0 mid)
    → IfSome mid.input.unread (λ rest. rest ≡ []) → ShowsSame new (all_read old)
read_all_of old mid new k e f none = record {
  input = f.input ∙ ap (input_after_read 0) e.input
      ∙ (λ j. record old.input {
        unread = go old.input.unread (subst (λ (i : Input). IfSome i.unread (λ rest. rest ≡ [])) e.input none) j;
      });
  output = f.output ∙ e.output;
  said = f.said ∙ e.said;
}
  where
    go : (o : Option (List ℕ)) → IfSome (option_map (drop k) o) (λ rest. rest ≡ [])
        → option_map (drop 0) (option_map (drop k) o) ≡ option_map (λ _. []) o
    go None none = refl
    go (Some xs) none = ap (λ (l : List ℕ). Some l) none

-- nothing is left to read behind the first k bytes
pub end_of : (i mid : Input) (k : ℕ) (old new : List ℕ) → mid ≡ input_after_read k i
    → IfSome mid.unread (λ rest. rest ≡ []) → IfSome i.unread (λ rest. (k ≤ length rest) × (new ≡ old ++ take k rest))
    → IfSome i.unread (λ rest. new ≡ old ++ rest)
end_of i mid k old new e end so_far =
    go i.unread (subst (λ (m : Input). IfSome m.unread (λ rest. rest ≡ [])) e end) so_far
  where
    go : (o : Option (List ℕ)) → IfSome (option_map (drop k) o) (λ rest. rest ≡ [])
        → IfSome o (λ rest. (k ≤ length rest) × (new ≡ old ++ take k rest)) → IfSome o (λ rest. new ≡ old ++ rest)
    go None none so = so
    go (Some rest) none so = so.1 ∙ ap (λ (l : List ℕ). old ++ l) (sym (append-nil (take k rest))
        ∙ ap (λ (l : List ℕ). take k rest ++ l) (sym none) ∙ take-append-drop k rest)

-- n more bytes stand behind the first k
pub read_on : (i mid : Input) (k n : ℕ) (old so_far now piece : List ℕ) → mid ≡ input_after_read k i
    → IfSome i.unread (λ rest. (k ≤ length rest) × (so_far ≡ old ++ take k rest))
    → IfSome mid.unread (λ rest. (n ≤ length rest) × (piece ≡ take n rest))
    → now ≡ so_far ++ piece
    → IfSome i.unread (λ rest. (k + n ≤ length rest) × (now ≡ old ++ take (k + n) rest))
read_on i mid k n old so_far now piece e so next is =
    go i.unread so (subst (λ (m : Input). IfSome m.unread (λ rest. (n ≤ length rest) × (piece ≡ take n rest))) e next)
  where
    go : (o : Option (List ℕ)) → IfSome o (λ rest. (k ≤ length rest) × (so_far ≡ old ++ take k rest))
        → IfSome (option_map (drop k) o) (λ rest. (n ≤ length rest) × (piece ≡ take n rest))
        → IfSome o (λ rest. (k + n ≤ length rest) × (now ≡ old ++ take (k + n) rest))
    go None so next = so
    go (Some rest) so next = (
      omega (arith, length-drop k rest, so.0, next.0),
      is ∙ ap (λ (l : List ℕ). l ++ piece) so.1
          ∙ ap (λ (l : List ℕ). old ++ take k rest ++ l) next.1 ∙ append_assoc old (take k rest) (take n (drop k rest))
          ∙ ap (λ (l : List ℕ). old ++ l) (sym (take-plus k n rest)),
    )
