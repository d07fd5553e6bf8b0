-- What becomes of lists of risks when a list is opened, and when the last one gains a number.
use Rattle.std.proofs.Common.{◌≡◌, ℕ, zero, suc, ◌+◌, ◌-◌, ◌<◌, ◌≤◌, ℤ, Bool, true, false, List, [], ◌∷◌, ◌++◌, length}
use Rattle.std.proofs.Common.{get_or, take, drop, set, refl, sym, ◌∙◌, ap, arith, length-drop, ◌||◌}
use Rattle.std.proofs.Common.{append_assoc, length-append}
use Rattle.std.proofs.lemmas.List.{take-append-le, drop-append-le}
use Rattle.std.proofs.lemmas.List.{append-nil, take_all}
use Rattle.std.specs.List.{slice_range}
use Rattle.instance_model.specs.declared.risk_lists.RiskHead.{RiskHead}
use Rattle.instance_model.specs.RiskLists.{RiskRow}
use Rattle.instance_model.specs.RiskLists.{end_before, list_of, lists_of, AreHeads, add_to_last, add_all_to_last}
use Rattle.instance_model.specs.RiskLists.{last_first, last_soft}

pub length-lists_of : (hs : List RiskHead) (xs : List ℤ) → length (lists_of hs xs) ≡ length hs
length-lists_of [] xs = refl
length-lists_of (h ∷ hs) xs = ap suc (length-lists_of hs xs)

-- ---- a list is opened

pub heads_open : (hs : List RiskHead) (h : RiskHead) (n : ℕ) → h.first ≡ n → AreHeads hs n → AreHeads (hs ++ h ∷ []) n
heads_open [] h n e a = (omega arith, tt)
heads_open (g ∷ []) h n e a = (omega (arith, a.0, e), (omega arith, tt))
heads_open (g ∷ (k ∷ hs)) h n e a = (a.0, heads_open (k ∷ hs) h n e a.1)

nothing : (xs : List ℤ) (n m : ℕ) → n ≡ m → slice_range xs n m ≡ []
nothing xs n m e = let z : m - n ≡ 0 = omega arith in ap (λ k. take k (drop n xs)) z

pub lists_open : (hs : List RiskHead) (h : RiskHead) (xs : List ℤ) → h.first ≡ length xs
    → lists_of (hs ++ h ∷ []) xs ≡ lists_of hs xs ++ record {
      period = h.period;
      start = h.start;
      values = [];
      soft = h.soft;
    } ∷ []
lists_open [] h xs e = ap (λ (v : List ℤ). let r : RiskRow = record {
  period = h.period;
  start = h.start;
  values = v;
  soft = h.soft;
} in r ∷ []) (nothing xs h.first (length xs) e)
lists_open (g ∷ []) h xs e =
    ap (λ (n : ℕ). let r : RiskRow = record {
      period = g.period;
      start = g.start;
      values = slice_range xs g.first n;
      soft = g.soft;
    } in r ∷ lists_of (h ∷ []) xs) e
    ∙ ap (λ q. list_of g [] xs ∷ q) (lists_open [] h xs e)
lists_open (g ∷ (k ∷ hs)) h xs e = ap (λ q. list_of g (k ∷ hs) xs ∷ q) (lists_open (k ∷ hs) h xs e)

-- ---- the last list gains a number

first_low : (h : RiskHead) (hs : List RiskHead) (n : ℕ) → AreHeads (h ∷ hs) n → h.first ≤ n
first_low h [] n a = a.0
first_low h (g ∷ hs) n a = omega (arith, a.0, first_low g hs n a.1)

pub heads_longer : (hs : List RiskHead) (n m : ℕ) → n ≤ m → AreHeads hs n → AreHeads hs m
heads_longer [] n m l a = tt
heads_longer (h ∷ []) n m l a = (omega (arith, a.0, l), tt)
heads_longer (h ∷ (g ∷ hs)) n m l a = (a.0, heads_longer (g ∷ hs) n m l a.1)

-- a part that ends before the new number
before_new : (xs : List ℤ) (x : ℤ) (a b : ℕ) → a ≤ b → b ≤ length xs
    → slice_range (xs ++ x ∷ []) a b ≡ slice_range xs a b
before_new xs x a b h l =
    ap (take (b - a)) (drop-append-le a xs (x ∷ []) (omega arith))
    ∙ take-append-le (b - a) (drop a xs) (x ∷ []) (omega (arith, length-drop a xs))

-- a part with all from a place on
pub all_from : (xs : List ℤ) (a : ℕ) → slice_range xs a (length xs) ≡ drop a xs
all_from xs a = take_all (length xs - a) (drop a xs) (omega (arith, length-drop a xs))

with_new : (xs : List ℤ) (x : ℤ) (a : ℕ) → a ≤ length xs → slice_range (xs ++ x ∷ []) a (length (xs ++ x ∷ []))
    ≡ slice_range xs a (length xs) ++ x ∷ []
with_new xs x a h =
    all_from (xs ++ x ∷ []) a ∙ drop-append-le a xs (x ∷ []) h ∙ ap (λ q. q ++ x ∷ []) (sym (all_from xs a))

or_false : (b : Bool) → b || false ≡ b
or_false true = refl
or_false false = refl

or_true : (b : Bool) → b || true ≡ true
or_true true = refl
or_true false = refl

pub lists_longer : (hs : List RiskHead) (xs : List ℤ) (x : ℤ) → AreHeads hs (length xs)
    → lists_of hs (xs ++ x ∷ []) ≡ add_to_last x false (lists_of hs xs)
lists_longer [] xs x a = refl
lists_longer (h ∷ []) xs x a =
    ap (λ (v : List ℤ). let r : RiskRow = record { period = h.period; start = h.start; values = v; soft = h.soft } in
    r ∷ []) (with_new xs x h.first a.0)
    ∙ ap (λ (b : Bool). let r : RiskRow = record {
      period = h.period;
      start = h.start;
      values = slice_range xs h.first (length xs) ++ x ∷ [];
      soft = b;
    } in r ∷ []) (sym (or_false h.soft))
lists_longer (h ∷ (g ∷ hs)) xs x a =
    ap (λ (v : List ℤ). let r : RiskRow = record { period = h.period; start = h.start; values = v; soft = h.soft } in
    r ∷ lists_of (g ∷ hs) (xs ++ x ∷ [])) (before_new xs x h.first g.first a.0 (first_low g hs (length xs) a.1))
    ∙ ap (λ q. list_of h (g ∷ hs) xs ∷ q) (lists_longer (g ∷ hs) xs x a.1)

pub end_soft : (hs : List RiskHead) (n : ℕ) → end_before (last_soft hs) n ≡ end_before hs n
end_soft [] n = refl
end_soft (h ∷ []) n = refl
end_soft (h ∷ (g ∷ hs)) n = refl

pub heads_soft : (hs : List RiskHead) (n : ℕ) → AreHeads hs n → AreHeads (last_soft hs) n
heads_soft [] n a = a
heads_soft (h ∷ []) n a = a
heads_soft (h ∷ (g ∷ hs)) n a = (omega (arith, a.0, end_soft (g ∷ hs) n), heads_soft (g ∷ hs) n a.1)

pub lists_soft : (hs : List RiskHead) (xs : List ℤ) (x : ℤ) → AreHeads hs (length xs)
    → lists_of (last_soft hs) (xs ++ x ∷ []) ≡ add_to_last x true (lists_of hs xs)
lists_soft [] xs x a = refl
lists_soft (h ∷ []) xs x a =
    ap (λ (v : List ℤ). let r : RiskRow = record { period = h.period; start = h.start; values = v; soft = true } in
    r ∷ []) (with_new xs x h.first a.0)
    ∙ ap (λ (b : Bool). let r : RiskRow = record {
      period = h.period;
      start = h.start;
      values = slice_range xs h.first (length xs) ++ x ∷ [];
      soft = b;
    } in r ∷ []) (sym (or_true h.soft))
lists_soft (h ∷ (g ∷ hs)) xs x a =
    ap (λ (n : ℕ). let r : RiskRow =
    record { period = h.period; start = h.start; values = slice_range (xs ++ x ∷ []) h.first n; soft = h.soft } in
    r ∷ lists_of (last_soft (g ∷ hs)) (xs ++ x ∷ [])) (end_soft (g ∷ hs) (length (xs ++ x ∷ [])))
    ∙ ap (λ (v : List ℤ). let r : RiskRow = record { period = h.period; start = h.start; values = v; soft = h.soft } in
    r ∷ lists_of (last_soft (g ∷ hs)) (xs ++ x ∷ [])) (before_new xs x h.first g.first a.0
    (first_low g hs (length xs) a.1))
    ∙ ap (λ q. list_of h (g ∷ hs) xs ∷ q) (lists_soft (g ∷ hs) xs x a.1)

pub lists_all : (hs : List RiskHead) (xs cs : List ℤ) → AreHeads hs (length xs)
    → lists_of hs (xs ++ cs) ≡ add_all_to_last cs (lists_of hs xs)
lists_all hs xs [] a = ap (lists_of hs) (append-nil xs)
lists_all hs xs (c ∷ cs) a =
    let longer : length xs ≤ length (xs ++ c ∷ []) = omega (arith, length-append xs (c ∷ [])) in
    ap (lists_of hs) (sym (append_assoc xs (c ∷ []) cs))
    ∙ lists_all hs (xs ++ c ∷ []) cs (heads_longer hs (length xs) (length (xs ++ c ∷ [])) longer a)
    ∙ ap (add_all_to_last cs) (lists_longer hs xs c a)

-- ---- one list

pub list_at : (hs : List RiskHead) (xs : List ℤ) (k : ℕ) (h : RiskHead) (d : RiskRow) → k < length hs
    → get_or (lists_of hs xs) k d ≡ list_of (get_or hs k h) (drop (suc k) hs) xs
list_at [] xs k h d l = absurd (omega arith)
list_at (g ∷ hs) xs zero h d l = refl
list_at (g ∷ hs) xs (suc k) h d l = list_at hs xs k h d (omega arith)

pub end_at : (hs : List RiskHead) (k n : ℕ) (h : RiskHead) → k < length hs
    → end_before (drop k hs) n ≡ (get_or hs k h).first
end_at [] k n h l = absurd (omega arith)
end_at (g ∷ hs) zero n h l = refl
end_at (g ∷ hs) (suc k) n h l = end_at hs k n h (omega arith)

pub end_last : (hs : List RiskHead) (k n : ℕ) → length hs ≤ k → end_before (drop k hs) n ≡ n
end_last [] zero n l = refl
end_last [] (suc k) n l = refl
end_last (g ∷ hs) zero n l = absurd (omega arith)
end_last (g ∷ hs) (suc k) n l = end_last hs k n (omega arith)

-- a list begins before its end, which is not behind the last number
pub record IsWithin (hs : List RiskHead) (k n : ℕ) (h : RiskHead) : Type 0 where
  pub from : (get_or hs k h).first ≤ end_before (drop (suc k) hs) n
  pub to : end_before (drop (suc k) hs) n ≤ n

pub end_within : (hs : List RiskHead) (n : ℕ) → AreHeads hs n → end_before hs n ≤ n
end_within [] n a = omega arith
end_within (h ∷ hs) n a = first_low h hs n a

pub list_within : (hs : List RiskHead) (k n : ℕ) (h : RiskHead) → AreHeads hs n → k < length hs → IsWithin hs k n h
list_within [] k n h a l = absurd (omega arith)
list_within (g ∷ hs) zero n h a l = record { from = a.0; to = end_within hs n a.1 }
list_within (g ∷ hs) (suc k) n h a l = let r : IsWithin hs k n h = list_within hs k n h a.1 (omega arith) in
    record { from = r.from; to = r.to }

-- ---- the last head is marked

pub last_soft-set : (hs : List RiskHead) (n : ℕ) (h : RiskHead) → n + 1 ≡ length hs → h ≡ get_or hs n h
    → set hs n (record { period = h.period; start = h.start; first = h.first; soft = true }) ≡ last_soft hs
last_soft-set [] n h e i = absurd (omega arith)
last_soft-set (g ∷ []) zero h e i = ap (λ (k : RiskHead). let r : RiskHead =
    record { period = k.period; start = k.start; first = k.first; soft = true } in r ∷ []) i
last_soft-set (g ∷ []) (suc n) h e i = absurd (omega arith)
last_soft-set (g ∷ (k ∷ hs)) zero h e i = absurd (omega arith)
last_soft-set (g ∷ (k ∷ hs)) (suc n) h e i = ap (λ q. g ∷ q) (last_soft-set (k ∷ hs) n h (omega arith) i)

-- ---- where the last head begins

pub last_first-at : (hs : List RiskHead) (n : ℕ) (h : RiskHead) (place : ℕ) → n + 1 ≡ length hs → h ≡ get_or hs n h
    → h.first ≡ last_first hs place
last_first-at [] n h place e i = absurd (omega arith)
last_first-at (g ∷ []) zero h place e i = ap (λ (k : RiskHead). k.first) i
last_first-at (g ∷ []) (suc n) h place e i = absurd (omega arith)
last_first-at (g ∷ (k ∷ hs)) zero h place e i = absurd (omega arith)
last_first-at (g ∷ (k ∷ hs)) (suc n) h place e i = last_first-at (k ∷ hs) n h place (omega arith) i
