-- Numbers of 8 bytes with those of 16 behind them: a part of either, and lists that stand whole in one of the two.
use Rattle.std.proofs.Common.{◌≡◌, ℕ, zero, suc, ◌+◌, ◌-◌, ◌<◌, ◌≤◌, ◌⊎◌, inl, inr, ⊎_elim, ℤ, List, [], ◌∷◌, ◌++◌}
use Rattle.std.proofs.Common.{length, take, drop, get_or, refl, sym, ap, subst, Result, Ok, Err, OnOk, OnErr}
use Rattle.std.proofs.Common.{◌∙◌, arith, append_assoc, length-append}
use Rattle.std.proofs.Math.Seq.{drop-append-add}
use Rattle.std.proofs.lemmas.List.{take-append-drop}
use Rattle.std.specs.List.{slice_range}
use Rattle.instance_model.specs.declared.risk_lists.RiskHead.{RiskHead}
use Rattle.instance_model.specs.RiskLists.{end_before, AreHeads, AreApart, AreStored, IsSeamKept, last_first, last_soft}
use Rattle.instance_model.proofs.RiskListLemmas.{all_from, end_within, end_soft, heads_longer, heads_open, heads_soft}

-- a part of the wide numbers
pub wide_part : (xs ys : List ℤ) (a b : ℕ) → length xs ≤ a → slice_range ys (a - length xs) (b - length xs)
    ≡ slice_range (xs ++ ys) a b
wide_part xs ys a b h =
    let n : b - length xs - (a - length xs) ≡ b - a = omega arith in
    let m : length xs + (a - length xs) ≡ a = omega arith in
    ap (λ k. take k (drop (a - length xs) ys)) n
    ∙ ap (take (b - a)) (sym (drop-append-add xs ys (a - length xs)) ∙ ap (λ k. drop k (xs ++ ys)) m)

-- the numbers from a place on, moved behind the others
pub moved_behind : (xs : List ℤ) (x : ℤ) (n : ℕ) → take n xs ++ (slice_range xs n (length xs) ++ x ∷ []) ≡ xs ++ x ∷ []
moved_behind xs x n =
    ap (λ q. take n xs ++ (q ++ x ∷ [])) (all_from xs n) ∙ sym (append_assoc (take n xs) (drop n xs) (x ∷ []))
    ∙ ap (λ q. q ++ x ∷ []) (take-append-drop n xs)

-- the last list begins among the narrow numbers where there are no others
pub last_first_within : (hs : List RiskHead) (n place most : ℕ) → AreHeads hs n → n ≤ most → place ≤ most
    → last_first hs place ≤ most
last_first_within [] n place most a l p = p
last_first_within (h ∷ []) n place most a l p = omega (arith, a.0)
last_first_within (h ∷ (g ∷ hs)) n place most a l p = last_first_within (g ∷ hs) n place most a.1 l p

-- ---- no list stands on both sides of the seam

-- all numbers stand before the seam
pub apart_before : (hs : List RiskHead) (seam n : ℕ) → n ≤ seam → AreHeads hs n → AreApart hs seam n
apart_before [] seam n l a = tt
apart_before (h ∷ hs) seam n l a = (inl (omega (arith, end_within hs n a.1)), apart_before hs seam n l a.1)

-- the last list, behind the seam, gains numbers
pub apart_longer : (hs : List RiskHead) (seam n m : ℕ) → seam < n → AreApart hs seam n → AreApart hs seam m
apart_longer [] seam n m l a = tt
apart_longer (h ∷ []) seam n m l a = (inr (omega (arith, a.0)), tt)
apart_longer (h ∷ (g ∷ hs)) seam n m l a = (a.0, apart_longer (g ∷ hs) seam n m l a.1)

first_below : (h : RiskHead) (hs : List RiskHead) (n place : ℕ) → AreHeads (h ∷ hs) n
    → h.first ≤ last_first (h ∷ hs) place
first_below h [] n place a = omega arith
first_below h (g ∷ hs) n place a = omega (arith, a.0, first_below g hs n place a.1)

-- the seam moves to the last list
pub apart_last : (hs : List RiskHead) (n m place : ℕ) → AreHeads hs n → AreApart hs (last_first hs place) m
apart_last [] n m place a = tt
apart_last (h ∷ []) n m place a = (inr (omega arith), tt)
apart_last (h ∷ (g ∷ hs)) n m place a = (inl (first_below g hs n place a.1), apart_last (g ∷ hs) n m place a.1)

-- a list is opened
pub apart_open : (hs : List RiskHead) (h : RiskHead) (seam n : ℕ) → h.first ≡ n → seam ≤ n → AreApart hs seam n
    → AreApart (hs ++ h ∷ []) seam n
apart_open [] h seam n e l a = (inr (omega arith), tt)
apart_open (g ∷ []) h seam n e l a = (subst (λ k. (k ≤ seam) ⊎ (seam ≤ g.first)) (sym e) a.0, (inr (omega arith), tt))
apart_open (g ∷ (k ∷ hs)) h seam n e l a = (a.0, apart_open (k ∷ hs) h seam n e l a.1)

-- the last list is marked as soft
pub apart_soft : (hs : List RiskHead) (seam n : ℕ) → AreApart hs seam n → AreApart (last_soft hs) seam n
apart_soft [] seam n a = a
apart_soft (h ∷ []) seam n a = a
apart_soft (h ∷ (g ∷ hs)) seam n a = (
  subst (λ k. (k ≤ seam) ⊎ (seam ≤ h.first)) (sym (end_soft (g ∷ hs) n)) a.0,
  apart_soft (g ∷ hs) seam n a.1,
)

-- one list
pub apart_at : (hs : List RiskHead) (k seam n : ℕ) (h : RiskHead) → AreApart hs seam n → k < length hs
    → (end_before (drop (suc k) hs) n ≤ seam) ⊎ (seam ≤ (get_or hs k h).first)
apart_at [] k seam n h a l = absurd (omega arith)
apart_at (g ∷ hs) zero seam n h a l = a.0
apart_at (g ∷ hs) (suc k) seam n h a l = apart_at hs k seam n h a.1 (omega arith)

-- ---- the invariant

pub stored_open : (hs : List RiskHead) (h : RiskHead) (xs ys : List ℤ) → h.first ≡ length (xs ++ ys)
    → AreStored hs xs ys → AreStored (hs ++ h ∷ []) xs ys
stored_open hs h xs ys e a = record {
  ascend = heads_open hs h (length (xs ++ ys)) e a.ascend;
  apart = apart_open hs h (length xs) (length (xs ++ ys)) e (omega (arith, length-append xs ys)) a.apart;
}

pub stored_soft : (hs : List RiskHead) (xs ys : List ℤ) → AreStored hs xs ys → AreStored (last_soft hs) xs ys
stored_soft hs xs ys a = record {
  ascend = heads_soft hs (length (xs ++ ys)) a.ascend;
  apart = apart_soft hs (length xs) (length (xs ++ ys)) a.apart;
}

pub stored_more : (hs : List RiskHead) (xs ys vs ws more : List ℤ) (first place : ℕ) → first ≡ last_first hs place
    → vs ++ ws ≡ xs ++ ys ++ more → IsSeamKept xs ys vs ws ⊎ (length vs ≡ first) → AreStored hs xs ys
    → AreStored hs vs ws
stored_more hs xs ys vs ws more first place f e s a =
    let longer : length (xs ++ ys) ≤ length (vs ++ ws) = omega (arith, ap length e, length-append (xs ++ ys) more) in
    let ascend : AreHeads hs (length (vs ++ ws)) =
    heads_longer hs (length (xs ++ ys)) (length (vs ++ ws)) longer a.ascend in
    let at : ℕ → Type 0 = λ n. AreApart hs n (length (vs ++ ws)) in
    let fits : length ws ≡ 0 → at (length vs) = λ none.
    apart_before hs (length vs) (length (vs ++ ws)) (omega (arith, none, length-append vs ws)) ascend in
    let stays : (0 < length ys) × (length vs ≡ length xs) → at (length vs) = λ same.
    subst at (sym same.1) (apart_longer hs (length xs) (length (xs ++ ys)) (length (vs ++ ws))
    (omega (arith, same.0, length-append xs ys)) a.apart) in
    let moves : length vs ≡ first → at (length vs) = λ moved.
    subst at (sym (moved ∙ f)) (apart_last hs (length (xs ++ ys)) (length (vs ++ ws)) place a.ascend) in
    record { ascend = ascend; apart = ⊎_elim (⊎_elim fits stays) moves s }

-- numbers are added, or all is as it was
pub stored_tried : {T E : Type 0} (r : Result T E) (hs : List RiskHead) (xs ys vs ws more : List ℤ)
    → OnOk r (vs ++ ws ≡ xs ++ ys ++ more) → OnOk r (IsSeamKept xs ys vs ws) → OnErr r ((vs ≡ xs) × (ws ≡ ys))
    → AreStored hs xs ys → AreStored hs vs ws
stored_tried (Ok u) hs xs ys vs ws more e s k a =
    stored_more hs xs ys vs ws more (last_first hs 0) 0 refl e (inl s) a
stored_tried (Err u) hs xs ys vs ws more e s k a =
    subst (λ n. AreStored hs n ws) (sym k.0) (subst (λ w. AreStored hs xs w) (sym k.1) a)
