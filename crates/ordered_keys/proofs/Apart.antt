-- Lists in which no element stands twice, with one element more that isn't in them.
use Rattle.std.proofs.Common.{◌≡◌, ◌≢◌, ℕ, Bool, false, true, List, [], ◌∷◌, ◌++◌, sym, ◌∙◌, ap, refl, subst}
use Rattle.std.proofs.Common.{get_or, map, AllPairs, String, string_bytes, bytes_eq, nat_eq, eq-eqb}
use Rattle.std.specs.List.{list_any}
use Rattle.std.specs.Prelude.{◌||◌, if◌then◌else◌, string_eq, Result, Ok, Err, OnOk, OnErr}
use Rattle.std.proofs.lemmas.Bool.{false≢true}
use Rattle.std.proofs.lemmas.List.{map-append}
use Rattle.std.proofs.lemmas.List.Folds.{list_any_at}
use Rattle.std.proofs.lemmas.List.Quantifiers.{all_pairs_push}
use Rattle.std.proofs.lemmas.Slice.Eq.{bytes_eq-Decides}
use Rattle.indexmap.specs.IndexSet.{insert_key}

-- texts are equal either way round
turned_by : (xs ys : List ℕ) (b c : Bool) → bytes_eq xs ys ≡ b → bytes_eq ys xs ≡ c → bytes_eq xs ys ≡ bytes_eq ys xs
turned_by xs ys true c e f = e ∙ sym ((bytes_eq-Decides ys xs).1 (sym ((bytes_eq-Decides xs ys).0 e)))
turned_by xs ys false true e f =
    absurd (false≢true (sym e ∙ (bytes_eq-Decides xs ys).1 (sym ((bytes_eq-Decides ys xs).0 f))))
turned_by xs ys false false e f = e ∙ sym f

pub turned : (xs ys : List ℕ) → bytes_eq xs ys ≡ bytes_eq ys xs
turned xs ys = turned_by xs ys (bytes_eq xs ys) (bytes_eq ys xs) refl refl

apart_more : {X : Type 0} (is : X → Bool) (xs : List X) (y : X) → ((x : X) → x ≡ y → is x ≡ true)
    → list_any is xs ≡ false → AllPairs (λ a b. a ≢ b) xs → AllPairs (λ a b. a ≢ b) (xs ++ y ∷ [])
apart_more is xs y told new apart = all_pairs_push (λ a b. a ≢ b) xs y apart (λ k d l same.
    false≢true (sym new ∙ list_any_at is xs k d l (told (get_or xs k d) same)))

pub keys_apart : (ks : List (List ℕ)) (k : List ℕ) → list_any (bytes_eq k) ks ≡ false → AllPairs (λ a b. a ≢ b) ks
    → AllPairs (λ a b. a ≢ b) (ks ++ k ∷ [])
keys_apart ks k = apart_more (bytes_eq k) ks k (λ x e. (bytes_eq-Decides k x).1 (sym e))

pub numbers_apart : (ns : List ℕ) (n : ℕ) → list_any (nat_eq n) ns ≡ false → AllPairs (λ a b. a ≢ b) ns
    → AllPairs (λ a b. a ≢ b) (ns ++ n ∷ [])
numbers_apart ns n = apart_more (nat_eq n) ns n (λ x e. eq-eqb n x (sym e))

any_of : {Y : Type 0} (bs : List ℕ) (xs : List (String Y))
    → list_any (bytes_eq bs) (map string_bytes xs) ≡ list_any (λ k. bytes_eq bs (string_bytes k)) xs
any_of bs [] = refl
any_of bs (x ∷ xs) = ap (λ b. bytes_eq bs (string_bytes x) || b) (any_of bs xs)

pub texts_apart : {Y : Type 0} (xs : List (String Y)) (t : String Y)
    → list_any (λ k. bytes_eq (string_bytes t) (string_bytes k)) xs ≡ false
    → AllPairs (λ a b. a ≢ b) (map string_bytes xs) → AllPairs (λ a b. a ≢ b) (map string_bytes (xs ++ t ∷ []))
texts_apart xs t new apart =
    subst (AllPairs (λ a b. a ≢ b)) (sym (map-append string_bytes xs (t ∷ [])))
    (keys_apart (map string_bytes xs) (string_bytes t) (any_of (string_bytes t) xs ∙ new) apart)

-- texts that a set holds once one was to be added, which came about or didn't
pub set_apart : {Y R E : Type 0} (xs : List (String Y)) (t : String Y) (ys : List (String Y)) (r : Result R E)
    → AllPairs (λ a b. a ≢ b) (map string_bytes xs) → OnOk r (ys ≡ insert_key string_eq xs t) → OnErr r (ys ≡ xs)
    → AllPairs (λ a b. a ≢ b) (map string_bytes ys)
set_apart xs t ys (Ok added) apart keys same =
    subst (λ zs. AllPairs (λ a b. a ≢ b) (map string_bytes zs)) (sym keys) (by (list_any (string_eq t) xs) refl)
  where
    by : (b : Bool) → list_any (string_eq t) xs ≡ b
        → AllPairs (λ a b. a ≢ b) (map string_bytes (if b then xs else xs ++ t ∷ []))
    by true e = apart
    by false e = texts_apart xs t e apart
set_apart xs t ys (Err refused) apart keys same =
    subst (λ zs. AllPairs (λ a b. a ≢ b) (map string_bytes zs)) (sym same) apart
