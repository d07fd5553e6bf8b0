-- One turn of a loop over a list.
use Rattle.std.proofs.Common.{◌≡◌, ℕ, suc, ◌+◌, ◌<◌, List, [], ◌∷◌, ◌++◌, map, length, take, drop, get_or, Option, None}
use Rattle.std.proofs.Common.{sym, ◌∙◌, ap, add-one, append-nil}
use Rattle.std.specs.Prelude.{flat_map}
use Rattle.std.proofs.lemmas.List.{take-append-drop, map-append}
use Rattle.std.proofs.lemmas.Grind.{flat_map-append}
use Rattle.std.proofs.Math.Seq.{drop-cons, take-suc}
use Rattle.instance_shape.specs.CrossFaults.{CrossFault, first_in}
use Rattle.instance_shape.specs.FileTables.{lists_below}
use Rattle.instance_rows.specs.declared.fault.RowsFault.{RowsFault}
use Rattle.instance_rows.specs.Answers.{TellsFault}
use Rattle.instance_rows.proofs.Firsts.{first_in-append, or_else_none, or_else_some}
use Rattle.instance_rows.proofs.Telling.{told_on}

pub parted : {A : Type 0} (xs : List A) (i : ℕ) (x : A) → i < length xs → x ≡ get_or xs i x
    → xs ≡ take i xs ++ (x ∷ drop (i + 1) xs)
parted xs i x h e = sym (take-append-drop i xs)
    ∙ ap (λ r. take i xs ++ r)
    (drop-cons xs i x h ∙ ap (λ y. y ∷ drop (suc i) xs) (sym e) ∙ ap (λ n. x ∷ drop n xs) (sym (add-one i)))

pub taken_more : {A : Type 0} (xs : List A) (i : ℕ) (x : A) → i < length xs → x ≡ get_or xs i x
    → take (i + 1) xs ≡ take i xs ++ x ∷ []
taken_more xs i x h e = ap (λ n. take n xs) (add-one i) ∙ take-suc xs i x h ∙ ap (λ y. take i xs ++ y ∷ []) (sym e)

-- ---- faults

pub first_in_more : {X Y : Type 0} (f : Y → Option CrossFault) (v : X → Y) (xs : List X) (i : ℕ) (x : X)
    → i < length xs → x ≡ get_or xs i x
    → first_in f (map v (take i xs)) ≡ None → f (v x) ≡ None → first_in f (map v (take (i + 1) xs)) ≡ None
first_in_more f v xs i x h e none here =
    ap (λ ys. first_in f (map v ys)) (taken_more xs i x h e) ∙ ap (first_in f) (map-append v (take i xs) (x ∷ []))
    ∙ first_in-append f (map v (take i xs)) (v x ∷ [])
    ∙ or_else_none (first_in f (map v (take i xs))) _ none ∙ or_else_none (f (v x)) None here

pub told_in : {X Y : Type 0} (f : Y → Option CrossFault) (v : X → Y) (xs : List X) (i : ℕ) (x : X) (e : RowsFault)
    → i < length xs → x ≡ get_or xs i x
    → first_in f (map v (take i xs)) ≡ None → TellsFault (f (v x)) e → TellsFault (first_in f (map v xs)) e
told_in f v xs i x e h is none t =
    told_on (f (v x)) (first_in f (map v xs)) e t (λ y k.
    ap (λ ys. first_in f (map v ys)) (parted xs i x h is)
    ∙ ap (first_in f) (map-append v (take i xs) (x ∷ drop (i + 1) xs))
    ∙ first_in-append f (map v (take i xs)) (v x ∷ map v (drop (i + 1) xs))
    ∙ or_else_none (first_in f (map v (take i xs))) _ none
    ∙ or_else_some (f (v x)) (first_in f (map v (drop (i + 1) xs))) y k)

-- ---- lists

pub mapped_more : {X Y : Type 0} (v : X → Y) (xs : List X) (i : ℕ) (x : X) → i < length xs → x ≡ get_or xs i x
    → map v (take (i + 1) xs) ≡ map v (take i xs) ++ v x ∷ []
mapped_more v xs i x h e = ap (map v) (taken_more xs i x h e) ∙ map-append v (take i xs) (x ∷ [])

pub lists_more : {A : Type 0} (n : ℕ) (f : ℕ → List A) → lists_below (n + 1) f ≡ lists_below n f ++ f n
lists_more n f = ap (λ k. lists_below k f) (add-one n)

pub joined_more : {X Y Z : Type 0} (g : Y → List Z) (v : X → Y) (xs : List X) (i : ℕ) (x : X)
    → i < length xs → x ≡ get_or xs i x
    → flat_map g (map v (take (i + 1) xs)) ≡ flat_map g (map v (take i xs)) ++ g (v x)
joined_more g v xs i x h e =
    ap (flat_map g) (mapped_more v xs i x h e) ∙ flat_map-append g (map v (take i xs)) (v x ∷ [])
    ∙ ap (λ q. flat_map g (map v (take i xs)) ++ q) (append-nil (g (v x)))
