-- What is kept of many numbers that are exactly counts, at a spot of counts.
use Rattle.std.proofs.Common.{◌≡◌, ℕ, ◌+◌, ◌<◌, List, [], ◌∷◌, ◌++◌, false, take, get_or, length, refl, sym, ◌∙◌, ap}
use Rattle.std.specs.Prelude.{ℤ}
use Rattle.std.proofs.lemmas.List.{take_more}
use Rattle.json_grammar.specs.Tree.{Event}
use Rattle.instance_shape.specs.declared.spot.Spot.{Spot}
use Rattle.instance_shape.specs.declared.spot.Spot.TheVariants as spot
use Rattle.instance_shape.specs.declared.spot.Kind.TheVariants as kind
use Rattle.instance_shape.specs.Shape.{kind_of}
use Rattle.instance_model.specs.RiskLists.{RiskRow, add_all_to_last}
use Rattle.shape_walk.specs.declared.taken.Read.TheVariants.{Count}
use Rattle.shape_walk.specs.CountEvents.{HasCount, HaveCounts}
use Rattle.shape_walk.specs.Reads.{read_of}
use Rattle.instance_read.specs.Keeping.{Kept, keep, keep_read, keep_rows, keep_each, keep_counts}

-- of a number it doesn't matter where it stands and how it is written, beside its count
any_number : (s : Spot) (at : ℕ) (token : List ℕ) (c : ℤ) (a : Kept)
    → keep_read s (Event.number at token) (Count c false) a ≡ keep_rows s (Event.number 0 []) (Count c false) a
any_number spot.Root at token c a = refl
any_number _ at token c a = refl

count_kept : (s : Spot) (e : Event) (c : ℤ) (a : Kept) → kind_of s ≡ kind.Count → HasCount e c
    → keep s e a ≡ keep_rows s (Event.number 0 []) (Count c false) a
count_kept s (Event.number at token) c a k n =
    let read : read_of s (Event.number at token) ≡ Count c false = rw (k, n) refl in
    ap (λ r. keep_read s (Event.number at token) r a) read ∙ any_number s at token c a
count_kept s _ c a k n = absurd n

pub counts_kept : (s : Spot) (numbers : List Event) (counts : List ℤ) (a : Kept) → kind_of s ≡ kind.Count
    → HaveCounts numbers counts → keep_each s numbers a ≡ keep_counts s counts a
counts_kept s [] [] a k n = refl
counts_kept s [] (c ∷ cs) a k n = absurd n
counts_kept s (e ∷ es) [] a k n = absurd n
counts_kept s (e ∷ es) (c ∷ cs) a k n = ap (keep_each s es) (count_kept s e c a k n.0)
    ∙ counts_kept s es cs (keep_rows s (Event.number 0 []) (Count c false) a) k n.1

-- counts behind each other
pub counts_kept-append : (s : Spot) (cs ds : List ℤ) (a : Kept)
    → keep_counts s (cs ++ ds) a ≡ keep_counts s ds (keep_counts s cs a)
counts_kept-append s [] ds a = refl
counts_kept-append s (c ∷ cs) ds a =
    counts_kept-append s cs ds (keep_rows s (Event.number 0 []) (Count c false) a)

-- one more of some counts
pub next_kept : (s : Spot) (cs : List ℤ) (i : ℕ) (c d : ℤ) (first before after : Kept) → i < length cs
    → c ≡ get_or cs i d → before ≡ keep_counts s (take i cs) first
    → after ≡ keep_rows s (Event.number 0 []) (Count c false) before → after ≡ keep_counts s (take (i + 1) cs) first
next_kept s cs i c d first before after l e b a =
    a ∙ ap (λ z. keep_rows s (Event.number 0 []) (Count z false) before) e
    ∙ ap (keep_rows s (Event.number 0 []) (Count (get_or cs i d) false)) b
    ∙ sym (counts_kept-append s (take i cs) (get_or cs i d ∷ []) first)
    ∙ ap (λ xs. keep_counts s xs first) (sym (take_more cs i d l))

-- other risks in the intervention that is open
abbrev pub with_risks : List RiskRow → Kept → Kept
with_risks rs a = record a { works = record a.works { begun = record a.works.begun { risks = rs } } }

-- risks go to the list that is open
pub risks_kept : (counts : List ℤ) (a : Kept)
    → keep_counts spot.RiskNumber counts a ≡ with_risks (add_all_to_last counts a.works.begun.risks) a
risks_kept [] a = refl
risks_kept (c ∷ cs) a = risks_kept cs (keep_rows spot.RiskNumber (Event.number 0 []) (Count c false) a)
