-- What the parts of a placed value are read as: whole numbers, counts, millionths and words.
use Rattle.std.proofs.Common.{◌≡◌, ℕ, zero, suc, ◌<◌, Bool, false, List, [], ◌∷◌, ◌++◌, map, length}
use Rattle.std.proofs.Common.{get_or, Option, Some, None, refl, sym, ◌∙◌, ap, subst, arith, ℤ, unwrap_or, option_map}
use Rattle.std.specs.Prelude.{All}
use Rattle.std.specs.List.{AllZip}
use Rattle.std.proofs.lemmas.List.{append_assoc, map-append}
use Rattle.std.proofs.lemmas.List.Elements.{All-head, All-tail}
use Rattle.json_grammar.specs.Tree.{Tree, tree, Node}
use Rattle.json_grammar.specs.laws.Value.{Value, Field, field}
use Rattle.instance_shape.specs.LookUp.{Entry, elements, whole_at, text_at, count_at, differs_at, part_at}
use Rattle.instance_shape.specs.FileTables.{lists_below, all_below, some_differs}
use Rattle.instance_writer.specs.text.Conditions.{SpellsCount, SpellsPart}
use Rattle.instance_writer.specs.text.Styles.{Style}
use Rattle.instance_writer.specs.text.Written.{whole_number, whole_list, count_number, count_list}
use Rattle.instance_writer.proofs.TextListed.{lists_below_same, length-singles, get_or-singles}
use Rattle.instance_writer.proofs.TextPlacing.{IsAt, IsEntry, IsOptionAt, elements_at, zip_length, zip_at}
use Rattle.instance_writer.proofs.TextTokens.{whole_read}

-- ---- numbers and words

pub whole_is : (n : ℕ) (t : Tree) → n < 1_000_000_000 → IsAt (whole_number n) t → whole_at t ≡ n
whole_is n t l h = ap whole_at h.is ∙ ap (λ (o : Option ℕ). unwrap_or o 0) (whole_read n l)

pub part_is : (style : Style) (m : ℕ) (t : Tree) → SpellsPart style m → IsAt (Value.number (style.part m)) t
    → part_at t ≡ m
part_is style m t e h = ap part_at h.is ∙ ap (λ (o : Option ℕ). unwrap_or o 0) e.exact

pub count_is : (style : Style) (z : ℤ) (t : Tree) → SpellsCount style z → IsAt (count_number style z) t
    → count_at t ≡ z
count_is style z t e h =
    ap count_at h.is ∙ ap (λ (o : Option (ℤ × Bool)). unwrap_or (option_map (λ f. f.0) o) (ℤ.pos 0)) e.exact

pub unrounded : (style : Style) (z : ℤ) (t : Tree) → SpellsCount style z → IsAt (count_number style z) t
    → differs_at t ≡ false
unrounded style z t e h =
    ap differs_at h.is ∙ ap (λ (o : Option (ℤ × Bool)). unwrap_or (option_map (λ f. f.1) o) false) e.exact

pub word_is : (x : List ℕ) (t : Tree) → IsAt (Value.text x) t → text_at t ≡ x
word_is x t h = ap text_at h.is

-- ---- lists of them

wholes_in : (ns : List ℕ) (ts : List Tree) → All (λ n. n < 1_000_000_000) ns
    → AllZip IsAt (map whole_number ns) ts → map whole_at ts ≡ ns
wholes_in [] [] a z = refl
wholes_in [] (t ∷ ts) a z = absurd z
wholes_in (n ∷ ns) [] a z = absurd z
wholes_in (n ∷ ns) (t ∷ ts) a z =
    ap (λ m. m ∷ map whole_at ts) (whole_is n t (All-head (λ n. n < 1_000_000_000) n ns a) z.0)
    ∙ ap (λ ms. n ∷ ms) (wholes_in ns ts (All-tail (λ n. n < 1_000_000_000) n ns a) z.1)

pub wholes_are : (ns : List ℕ) (t : Tree) → All (λ n. n < 1_000_000_000) ns → IsAt (whole_list ns) t
    → map whole_at (elements t) ≡ ns
wholes_are ns t a h = wholes_in ns (elements t) a (elements_at (map whole_number ns) t h)

counts_in : (style : Style) (g : ℤ → ℤ) (zs : List ℤ) (ts : List Tree) → All (SpellsCount style) zs
    → AllZip IsAt (map (count_number style) zs) ts → map (λ t. g (count_at t)) ts ≡ map g zs
counts_in style g [] [] a z = refl
counts_in style g [] (t ∷ ts) a z = absurd z
counts_in style g (n ∷ zs) [] a z = absurd z
counts_in style g (n ∷ zs) (t ∷ ts) a z =
    ap (λ m. g m ∷ map (λ t. g (count_at t)) ts) (count_is style n t (All-head (SpellsCount style) n zs a) z.0)
    ∙ ap (λ ms. g n ∷ ms) (counts_in style g zs ts (All-tail (SpellsCount style) n zs a) z.1)

-- what a function makes of the counts of a list
pub counts_are : (style : Style) (g : ℤ → ℤ) (zs : List ℤ) (t : Tree) → All (SpellsCount style) zs
    → IsAt (count_list style zs) t → map (λ x. g (count_at x)) (elements t) ≡ map g zs
counts_are style g zs t a h = counts_in style g zs (elements t) a (elements_at (map (count_number style) zs) t h)

none_differs : (style : Style) (zs : List ℤ) (ts : List Tree) → All (SpellsCount style) zs
    → AllZip IsAt (map (count_number style) zs) ts → some_differs ts ≡ false
none_differs style [] [] a z = refl
none_differs style [] (t ∷ ts) a z = absurd z
none_differs style (n ∷ zs) [] a z = absurd z
none_differs style (n ∷ zs) (t ∷ ts) a z =
    rw (unrounded style n t (All-head (SpellsCount style) n zs a) z.0)
    (none_differs style zs ts (All-tail (SpellsCount style) n zs a) z.1)

-- the risks of a start and period, and that none of them was rounded
pub list_read : (style : Style) (zs : List ℤ) (o : Option Tree) → All (SpellsCount style) zs
    → IsOptionAt (Some (count_list style zs)) o
    → map count_at (unwrap_or (option_map elements o) []) ≡ map (λ z. z) zs
list_read style zs None a h = absurd h
list_read style zs (Some t) a h = counts_are style (λ z. z) zs t a h

pub list_unrounded : (style : Style) (zs : List ℤ) (o : Option Tree) → All (SpellsCount style) zs
    → IsOptionAt (Some (count_list style zs)) o → some_differs (unwrap_or (option_map elements o) []) ≡ false
list_unrounded style zs None a h = absurd h
list_unrounded style zs (Some t) a h =
    none_differs style zs (elements t) a (elements_at (map (count_number style) zs) t h)

-- ---- what entries give, by place

lists_below_shift : {A : Type 0} (n : ℕ) (f : ℕ → List A)
    → lists_below (suc n) f ≡ f 0 ++ lists_below n (λ i. f (suc i))
lists_below_shift zero f = sym (nil_right (f 0))
  where
    nil_right : {A : Type 0} (xs : List A) → xs ++ [] ≡ xs
    nil_right [] = refl
    nil_right (x ∷ xs) = ap (λ ys. x ∷ ys) (nil_right xs)
lists_below_shift (suc n) f =
    ap (λ xs. xs ++ f (suc n)) (lists_below_shift n f)
    ∙ append_assoc (f 0) (lists_below n (λ i. f (suc i))) (f (suc n))

by_place : {A : Type 0} (f : Tree → List A) (es : List Entry) (d : Entry)
    → all_below es f ≡ lists_below (length es) (λ i. f (get_or es i d).value)
by_place f [] d = refl
by_place f (e ∷ es) d =
    ap (λ xs. f e.value ++ xs) (by_place f es d)
    ∙ sym (lists_below_shift (length es) (λ i. f (get_or (e ∷ es) i d).value))

no_entry : Entry
no_entry = record { key = []; value = tree 0 0 Node.null }

-- of entries with n values, each read in its way
pub all_below_is : {A : Type 0} (n : ℕ) (key : ℕ → List ℕ) (v : ℕ → Value) (es : List Entry) (f : Tree → List A)
    (g : ℕ → List A) → AllZip IsEntry (lists_below n (λ k. field (key k) (v k) ∷ [])) es
    → ((k : ℕ) (t : Tree) → k < n → IsAt (v k) t → f t ≡ g k) → all_below es f ≡ lists_below n g
all_below_is n key v es f g z h =
    let fs = lists_below n (λ k. field (key k) (v k) ∷ []) in
    let none = field [] Value.null in
    let size : length es ≡ n = zip_length IsEntry fs es z ∙ length-singles n (λ k. field (key k) (v k)) in
    by_place f es no_entry
    ∙ ap (λ m. lists_below m (λ i. f (get_or es i no_entry).value)) size
    ∙ lists_below_same n (λ i. f (get_or es i no_entry).value) g
    (λ k l.
    let m : k < length fs = omega (arith, l, length-singles n (λ k. field (key k) (v k))) in
    let there = zip_at IsEntry fs es k none no_entry z m in
    let which : get_or fs k none ≡ field (key k) (v k) = get_or-singles n k (λ k. field (key k) (v k)) none l in
    h k (get_or es k no_entry).value l
    (subst (λ (x : Field). IsAt x.value (get_or es k no_entry).value) which there.value))

one_each : {A : Type 0} (f : Tree → A) (es : List Entry) → map (λ e. f e.value) es ≡ all_below es (λ t. f t ∷ [])
one_each f [] = refl
one_each f (e ∷ es) = ap (λ xs. f e.value ∷ xs) (one_each f es)

pub map_is : {A : Type 0} (n : ℕ) (key : ℕ → List ℕ) (v : ℕ → Value) (es : List Entry) (f : Tree → A) (g : ℕ → A)
    → AllZip IsEntry (lists_below n (λ k. field (key k) (v k) ∷ [])) es
    → ((k : ℕ) (t : Tree) → k < n → IsAt (v k) t → f t ≡ g k)
    → map (λ e. f e.value) es ≡ lists_below n (λ k. g k ∷ [])
map_is n key v es f g z h =
    one_each f es ∙ all_below_is n key v es (λ t. f t ∷ []) (λ k. g k ∷ []) z (λ k t l a. ap (λ x. x ∷ []) (h k t l a))

pub map-lists_below : {A B : Type 0} (f : A → B) (n : ℕ) (g : ℕ → List A)
    → map f (lists_below n g) ≡ lists_below n (λ k. map f (g k))
map-lists_below f zero g = refl
map-lists_below f (suc n) g =
    map-append f (lists_below n g) (g n) ∙ ap (λ xs. xs ++ map f (g n)) (map-lists_below f n g)
