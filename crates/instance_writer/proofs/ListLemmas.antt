-- Lists of numbers, element by element.
use Rattle.std.proofs.Common.{◌≡◌, ℕ, zero, suc, ◌+◌, ◌-◌, ◌<◌, ◌≤◌, List, [], ◌∷◌, ◌++◌, length, take, get_or, map}
use Rattle.std.proofs.Common.{refl, sym, ◌∙◌}
use Rattle.std.proofs.Common.{ap, arith, add-one}
use Rattle.std.proofs.lemmas.List.{map-append, take_more, take_all}
use Rattle.std.specs.Prelude.{ℤ, pos}
use Rattle.fixed_num.specs.Sums.{list_of}
use Rattle.fixed_num.proofs.SumLemmas.{list_of_more}
use Rattle.json_grammar.specs.laws.Value.{Value}
use Rattle.instance_model.specs.Tables.{Tables, tmax, durations, delta_of, scenarios_of}
use Rattle.instance_shape.specs.FileTables.{lists_below}
use Rattle.instance_writer.specs.text.Styles.{Style}
use Rattle.instance_writer.specs.text.Written.{whole_number, count_number}
use Rattle.instance_writer.proofs.Items.{count_item}

pub lists_same : {A : Type 0} (n : ℕ) (f h : ℕ → List A) → ((k : ℕ) → k < n → f k ≡ h k)
    → lists_below n f ≡ lists_below n h
lists_same zero f h same = refl
lists_same {A = A} (suc n) f h same =
    ap (λ (l : List A). l ++ f n) (lists_same n f h (λ k low. same k (omega arith)))
    ∙ ap (λ (l : List A). lists_below n h ++ l) (same n (omega arith))

pub map-lists_below : {A B : Type 0} (h : A → B) (n : ℕ) (f : ℕ → List A)
    → map h (lists_below n f) ≡ lists_below n (λ k. map h (f k))
map-lists_below h zero f = refl
map-lists_below {B = B} h (suc n) f =
    map-append h (lists_below n f) (f n) ∙ ap (λ (l : List B). l ++ map h (f n)) (map-lists_below h n f)

pub map-list_of : (h : ℤ → Value) (n : ℕ) (f : ℕ → ℤ) → map h (list_of n f) ≡ lists_below n (λ k. h (f k) ∷ [])
map-list_of h zero f = refl
map-list_of h (suc n) f =
    ap (map h) (ap (λ k. list_of k f) (sym (add-one n)) ∙ list_of_more n f) ∙ map-append h (list_of n f) (f n ∷ [])
    ∙ ap (λ l. l ++ h (f n) ∷ []) (map-list_of h n f)

map_of_first : (h : ℕ → Value) (xs : List ℕ) (n : ℕ) → n ≤ length xs
    → map h (take n xs) ≡ lists_below n (λ k. h (get_or xs k 0) ∷ [])
map_of_first h xs zero low = refl
map_of_first h xs (suc n) low =
    ap (map h) (ap (λ k. take k xs) (sym (add-one n)) ∙ take_more xs n 0 (omega arith))
    ∙ map-append h (take n xs) (get_or xs n 0 ∷ [])
    ∙ ap (λ l. l ++ h (get_or xs n 0) ∷ []) (map_of_first h xs n (omega arith))

map_of_all : (h : ℕ → Value) (xs : List ℕ) → map h xs ≡ lists_below (length xs) (λ k. h (get_or xs (k + 1 - 1) 0) ∷ [])
map_of_all h xs =
    ap (map h) (sym (take_all (length xs) xs (omega arith))) ∙ map_of_first h xs (length xs) (omega arith)
    ∙ lists_same (length xs) (λ k. h (get_or xs k 0) ∷ []) (λ k. h (get_or xs (k + 1 - 1) 0) ∷ [])
    (λ k low. let same : k ≡ k + 1 - 1 = omega arith in ap (λ j. h (get_or xs j 0) ∷ []) same)

pub map-durations : (inst : Tables) (i : ℕ) → map whole_number (durations inst i)
    ≡ lists_below (tmax inst i) (λ k. whole_number (delta_of inst i (k + 1)) ∷ [])
unfolding tmax delta_of
map-durations inst i = map_of_all whole_number (durations inst i)

pub map-scenarios : (inst : Tables) → map whole_number inst.scenarios
    ≡ lists_below (length inst.scenarios) (λ k. whole_number (scenarios_of inst (k + 1)) ∷ [])
unfolding scenarios_of
map-scenarios inst = map_of_all whole_number inst.scenarios

counts_of_first : (h : ℤ → Value) (xs : List ℤ) (n : ℕ) → n ≤ length xs
    → map h (take n xs) ≡ lists_below n (λ k. h (get_or xs k (pos 0)) ∷ [])
counts_of_first h xs zero low = refl
counts_of_first h xs (suc n) low =
    ap (map h) (ap (λ k. take k xs) (sym (add-one n)) ∙ take_more xs n (pos 0) (omega arith))
    ∙ map-append h (take n xs) (get_or xs n (pos 0) ∷ [])
    ∙ ap (λ l. l ++ h (get_or xs n (pos 0)) ∷ []) (counts_of_first h xs n (omega arith))

pub map-counts : (style : Style) (xs : List ℤ)
    → map (count_number style) xs ≡ lists_below (length xs) (count_item style xs)
map-counts style xs =
    ap (map (count_number style)) (sym (take_all (length xs) xs (omega arith)))
    ∙ counts_of_first (count_number style) xs (length xs) (omega arith)
