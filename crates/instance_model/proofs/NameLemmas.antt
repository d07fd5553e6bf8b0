-- Names of an instance.
use Rattle.std.proofs.Common.{◌≡◌, ℕ, ◌+◌, ◌<◌, ◌≤◌, refl, sym, ◌∙◌, ap, arith, List, [], ◌∷◌, length, get_or, All}
use Rattle.std.proofs.Common.{Bool, not, cond, map, nat_lt, position, Some, None, zero, suc, subst, true, false}
use Rattle.std.specs.List.{prefix_len, position_or_len}
use Rattle.std.specs.Prelude.{slice_get, bytes_eq, Contains}
use Rattle.std.proofs.lemmas.Bool.{false≢true}
use Rattle.std.proofs.lemmas.Grind.{common_steps}
use Rattle.std.proofs.lemmas.Slice.Eq.{bytes_eq-Decides}
use Rattle.std.proofs.lemmas.List.Sums.{fails_before_first}
use Rattle.std.proofs.lemmas.List.Quantifiers.{position-Some}
use Rattle.std.proofs.lemmas.List.{length-map}
use Rattle.std.proofs.lemmas.List.Elements.{All-head, All-tail}
use Rattle.instance_model.specs.Fitting.{IsName, AreNames}

-- where a list of values is searched by what a function makes of them
prefix_len-map : {X Y : Type 0} (p : Y → Bool) (f : X → Y) (xs : List X)
    → prefix_len p (map f xs) ≡ prefix_len (λ x. p (f x)) xs
prefix_len-map p f [] = refl
prefix_len-map p f (x ∷ xs) = ap (λ n. cond (p (f x)) (1 + n) 0) (prefix_len-map p f xs)

pub position-map : {X Y : Type 0} (p : Y → Bool) (f : X → Y) (xs : List X)
    → position p (map f xs) ≡ position (λ x. p (f x)) xs
position-map p f xs =
    let e = prefix_len-map (λ y. not (p y)) f xs in
    ap (λ (n : ℕ). cond (nat_lt n (length (map f xs))) (Some n) None) e
    ∙ ap (λ (m : ℕ). cond (nat_lt (prefix_len (λ x. not (p (f x))) xs) m)
    (Some (prefix_len (λ x. not (p (f x))) xs)) None) (length-map xs f)

name_at : {X : Type 0} (f : X → List ℕ) (keys : List X) (i : ℕ) (x : X) → All IsName (map f keys) → i < length keys
    → x ≡ get_or keys i x → IsName (f x)
name_at f [] i x all l e = absurd (omega (arith, l))
name_at f (y ∷ keys) zero x all l e = subst (λ z. IsName (f z)) (sym e) (All-head IsName (f y) (map f keys) all)
name_at f (y ∷ keys) (suc i) x all l e =
    name_at f keys i x (All-tail IsName (f y) (map f keys) all) (omega (arith, l)) e

-- a name that is read has at most 128 bytes
pub name_short : {X : Type 0} (f : X → List ℕ) (limit : ℕ) (keys xs : List X) (i : ℕ) (x : X)
    → AreNames limit (map f keys) → xs ≡ keys → i < length (map f keys) → x ≡ get_or xs i x → length (f x) ≤ 128
name_short {X} f limit keys xs i x names same l e =
    (name_at f keys i x names.shaped (omega (arith, l, length-map keys f))
    (subst (λ (ys : List X). x ≡ get_or ys i x) same e)).short

place_of : (xs : List (List ℕ)) (i : ℕ) (d : List ℕ) → i < length xs → slice_get xs i ≡ Some (get_or xs i d)
place_of [] i d h = absurd (omega (arith, h))
place_of (x ∷ xs) zero d h = refl
place_of (x ∷ xs) (suc i) d h = place_of xs i d (omega (arith, h))

-- the name at the place that is found
pub found_name : (names : List (List ℕ)) (name : List ℕ) (i : ℕ) → Some i ≡ position (bytes_eq name) names
    → slice_get names i ≡ Some name
found_name names name i e =
    let w = position-Some (bytes_eq name) names i [] (sym e) in
    let same : name ≡ get_or names i [] = (bytes_eq-Decides name (get_or names i [])).0 w.1 in
    place_of names i [] w.0 ∙ ap Some (sym same)

-- where none is found, no place has the name
pub no_name : (names : List (List ℕ)) (name : List ℕ) → None ≡ position (bytes_eq name) names → ¬ Contains names name
no_name names name e (k, l, same) =
    let past : length names ≤ position_or_len (bytes_eq name) names = grind (arith, common_steps, sym e) in
    let fails : bytes_eq name (get_or names k name) ≡ false =
    fails_before_first (bytes_eq name) names k name (omega (arith, l, past)) in
    let passes : bytes_eq name (get_or names k name) ≡ true =
    (bytes_eq-Decides name (get_or names k name)).1 (sym same) in
    false≢true (sym fails ∙ passes)
