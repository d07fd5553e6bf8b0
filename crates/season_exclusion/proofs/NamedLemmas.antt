-- The exclusions that name an intervention.
use Rattle.std.proofs.Common.{◌≡◌, ℕ, zero, suc, ◌+◌, ◌<◌, refl, sym, ◌∙◌, ap, arith, Bool, true, false, cond, eqb}
use Rattle.std.proofs.Common.{List, [], ◌∷◌, ◌++◌, get_or, map, subst, add-one}
use Rattle.std.specs.List.{All, Contains, filter, range_with_len}
use Rattle.std.proofs.lemmas.Bool.Decides.{nat_tests}
use Rattle.std.proofs.lemmas.List.FromFn.{filter_of_map_range_with_len_more}
use Rattle.std.proofs.lemmas.List.Elements.{All-nil, All-cons, All-append, All-weaker, Contains-append_left}
use Rattle.std.proofs.lemmas.List.Elements.{Contains-append_right}
use Rattle.instance_model.specs.declared.parts.Exclusion.{Exclusion}
use Rattle.instance_model.specs.Tables.{Tables, exclusion_of}
use Rattle.season_exclusion.specs.Broken.{is_named, naming_to}

map_same : (xs : List ℕ) → map (λ x. x) xs ≡ xs
map_same [] = refl
map_same (x ∷ xs) = ap (λ (ys : List ℕ). x ∷ ys) (map_same xs)

pub naming_to-none : (inst : Tables) (i : ℕ) → naming_to inst 0 i ≡ []
unfolding naming_to
naming_to-none inst i = refl

pub naming_to-more : (inst : Tables) (n i : ℕ)
    → naming_to inst (n + 1) i ≡ naming_to inst n i ++ cond (is_named (exclusion_of inst n) i) (n ∷ []) []
unfolding naming_to
naming_to-more inst n i =
    let p : ℕ → Bool = λ e. is_named (exclusion_of inst e) i in
    let more = filter_of_map_range_with_len_more p (λ e. e) 0 n n (omega arith) in
    ap (filter p) (sym (map_same (range_with_len 0 (n + 1)))) ∙ more
    ∙ ap (λ (xs : List ℕ). filter p xs ++ cond (p n) (n ∷ []) []) (map_same (range_with_len 0 n))

-- an exclusion is one of the first n, and names intervention i
pub record IsOneNaming (inst : Tables) (n i e : ℕ) : Type 0 where
  pub within : e < n
  pub named : is_named (exclusion_of inst e) i ≡ true

last_one : (inst : Tables) (n i : ℕ) (b : Bool) → is_named (exclusion_of inst n) i ≡ b
    → All (IsOneNaming inst (n + 1) i) (cond b (n ∷ []) [])
last_one inst n i true e = All-cons (IsOneNaming inst (n + 1) i) n [] (record { within = omega arith; named = e })
    (All-nil (IsOneNaming inst (n + 1) i))
last_one inst n i false e = All-nil (IsOneNaming inst (n + 1) i)

pub naming_to-names : (inst : Tables) (n i : ℕ) → All (IsOneNaming inst n i) (naming_to inst n i)
naming_to-names inst zero i = rw (naming_to-none inst i) (All-nil (IsOneNaming inst 0 i))
naming_to-names inst (suc n) i =
    let before = All-weaker (IsOneNaming inst n i) (IsOneNaming inst (n + 1) i) (λ e o. let w = o.within in
    record { within = omega (arith, w); named = o.named }) (naming_to inst n i) (naming_to-names inst n i) in
    let all = All-append (IsOneNaming inst (n + 1) i) (naming_to inst n i)
    (cond (is_named (exclusion_of inst n) i) (n ∷ []) []) before
    (last_one inst n i (is_named (exclusion_of inst n) i) refl) in
    subst (λ (m : ℕ). All (IsOneNaming inst m i) (naming_to inst m i)) (add-one n) (rw (naming_to-more inst n i) all)

pub naming_to-each : (inst : Tables) (n i e : ℕ) → e < n → is_named (exclusion_of inst e) i ≡ true
    → Contains (naming_to inst n i) e
naming_to-each inst zero i e l h = absurd (omega (arith, l))
naming_to-each inst (suc n) i e l h = subst (λ (m : ℕ). Contains (naming_to inst m i) e) (add-one n)
    (rw (naming_to-more inst n i) (at (eqb e n) refl (λ m. naming_to-each inst n i e m h)))
  where
    at : (b : Bool) → eqb e n ≡ b → (e < n → Contains (naming_to inst n i) e)
        → Contains (naming_to inst n i ++ cond (is_named (exclusion_of inst n) i) (n ∷ []) []) e
    at true q before =
        let here : e ≡ n = grind (arith, nat_tests) in
        let name = rw here at h in
        Contains-append_right (naming_to inst n i) _ e (rw (name, here) (0, omega arith, refl))
    at false q before =
        let other : e < n = grind (arith, nat_tests) in
        Contains-append_left (naming_to inst n i) _ e (before other)

-- the lists after the next exclusion was noted
pub naming_to-noted : (inst : Tables) (e i : ℕ) (x : Exclusion) (old new : List (List ℕ)) → x ≡ exclusion_of inst e
    → get_or old i [] ≡ naming_to inst e i → get_or new i [] ≡ get_or old i [] ++ cond (is_named x i) (e ∷ []) []
    → get_or new i [] ≡ naming_to inst (e + 1) i
naming_to-noted inst e i x old new is before noted =
    noted ∙ ap (λ (xs : List ℕ). xs ++ cond (is_named x i) (e ∷ []) []) before
    ∙ ap (λ (y : Exclusion). naming_to inst e i ++ cond (is_named y i) (e ∷ []) []) is
    ∙ sym (naming_to-more inst e i)
