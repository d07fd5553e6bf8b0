-- What the test of a clique finds.
use Rattle.std.proofs.Common.{◌≡◌, ℕ, ◌<◌, inl, inr, refl, sym, ◌∙◌, subst, Bool, true, false}
use Rattle.std.proofs.Common.{List, length, get_or, ◌==◌, ◌||◌, IsTrue, Contains}
use Rattle.std.proofs.lemmas.Bool.{eq-eqb}
use Rattle.std.proofs.lemmas.List.{get_or_default}
use Rattle.std.proofs.lemmas.List.Elements.{All-get_or}
use Rattle.instance_model.specs.declared.parts.Exclusion.{Exclusion}
use Rattle.instance_model.specs.Tables.{Tables, in_season_of, exclusion_of}
use Rattle.season_exclusion.specs.Broken.{is_named, naming_of}
use Rattle.season_exclusion.proofs.NamedLemmas.{IsOneNaming, naming_to-names, naming_to-each}
use Rattle.refined_prices.specs.Cliques.{Names, Excludes, ExcludeEachOther}

-- an exclusion of the list is known
pub named_number : (inst : Tables) (i k : ℕ) (xs : List ℕ) → xs ≡ naming_of inst i → k < length xs
    → get_or xs k 0 < length inst.exclusion_names
named_number inst i k xs e l =
    let all = naming_to-names inst (length inst.exclusion_names) i in
    let low : k < length (naming_of inst i) = subst (λ (ys : List ℕ). k < length ys) e l in
    rw e (All-get_or (IsOneNaming inst (length inst.exclusion_names) i) (naming_of inst i) k 0 low all).within

-- one exclusion was found
pub found : (inst : Tables) (e t i j : ℕ) (x : Exclusion) → e < length inst.exclusion_names → x ≡ exclusion_of inst e
    → Names x i j → in_season_of inst x.season t ≡ true → ExcludeEachOther inst t i j
found inst e t i j x number is names season = record {
  exclusion = e;
  number = number;
  excludes = record {
    season = subst (λ (y : Exclusion). IsTrue (in_season_of inst y.season t)) is season;
    names = subst (λ (y : Exclusion). Names y i j) is names;
  };
}

-- none of the list excludes the two, so none at all
pub none_found : (inst : Tables) (t i j : ℕ) (xs : List ℕ) → xs ≡ naming_of inst i
    → ((k : ℕ) → k < length xs → ¬ Excludes inst (get_or xs k 0) t i j) → ¬ ExcludeEachOther inst t i j
none_found inst t i j xs is none w =
    at (naming_to-each inst (length inst.exclusion_names) i w.exclusion w.number (by w.excludes.names))
  where
    first : (a b : ℕ) → a ≡ i → ((a == i) || (b == i)) ≡ true
    first a b e = let t = eq-eqb a i e in rw t refl

    second : (a b : ℕ) → b ≡ i → ((a == i) || (b == i)) ≡ true
    second a b e = let t = eq-eqb b i e in rw t (either (a == i))
      where
        either : (x : Bool) → (x || true) ≡ true
        either true = refl
        either false = refl

    by : Names (exclusion_of inst w.exclusion) i j → is_named (exclusion_of inst w.exclusion) i ≡ true
    by (inl p) = first (exclusion_of inst w.exclusion).first (exclusion_of inst w.exclusion).second p.0
    by (inr p) = second (exclusion_of inst w.exclusion).first (exclusion_of inst w.exclusion).second p.1

    at : Contains (naming_of inst i) w.exclusion → ⊥
    at (k, l, e) =
        let low : k < length xs = rw is l in
        let here : get_or xs k 0 ≡ w.exclusion = rw is (get_or_default (naming_of inst i) k 0 w.exclusion l ∙ e) in
        none k low (subst (λ (d : ℕ). Excludes inst d t i j) (sym here) w.excludes)
