-- The keys of a set that has grown.
use Rattle.std.proofs.Common.{◌≡◌, ℕ, List, [], ◌∷◌, ◌++◌, Bool, true, false, not, refl, ◌∙◌, ap, IsTrue}
use Rattle.std.specs.List.{list_any}
use Rattle.std.specs.Prelude.{◌||◌, bytes_eq, if◌then◌else◌}
use Rattle.instance_shape.specs.Keys.{by_text, has_key}
use Rattle.instance_shape.specs.Seen.{texts_of}

pub texts_has : (ks : List (List ℕ)) (k : List ℕ) → has_key (texts_of ks) (by_text k) ≡ list_any (bytes_eq k) ks
texts_has [] k = refl
texts_has (j ∷ js) k = ap (λ b. bytes_eq k j || b) (texts_has js k)

texts_push : (ks : List (List ℕ)) (k : List ℕ) → texts_of (ks ++ k ∷ []) ≡ texts_of ks ++ by_text k ∷ []
texts_push [] k = refl
texts_push (j ∷ js) k = ap (λ x. by_text j ∷ x) (texts_push js k)

-- where the key is new, it comes last
pub texts_more : (ks js : List (List ℕ)) (k : List ℕ) (new : Bool)
    → new ≡ not (list_any (bytes_eq k) ks) → js ≡ (if list_any (bytes_eq k) ks then ks else ks ++ k ∷ []) → IsTrue new
    → texts_of js ≡ texts_of ks ++ by_text k ∷ []
texts_more ks js k new e h t = by (list_any (bytes_eq k) ks) e h
  where
    by : (b : Bool) → new ≡ not b → js ≡ (if b then ks else ks ++ k ∷ [])
        → texts_of js ≡ texts_of ks ++ by_text k ∷ []
    by true e h = cc
    by false e h = ap texts_of h ∙ texts_push ks k

-- where the key is one of them, the keys are the same
pub texts_same : (ks js : List (List ℕ)) (k : List ℕ) (new : Bool)
    → new ≡ not (list_any (bytes_eq k) ks) → js ≡ (if list_any (bytes_eq k) ks then ks else ks ++ k ∷ []) → new ≡ false
    → texts_of js ≡ texts_of ks
texts_same ks js k new e h f = by (list_any (bytes_eq k) ks) e h
  where
    by : (b : Bool) → new ≡ not b → js ≡ (if b then ks else ks ++ k ∷ []) → texts_of js ≡ texts_of ks
    by true e h = ap texts_of h
    by false e h = cc
