-- Lines that are written one after the other.
use Rattle.std.proofs.Common.{◌≡◌, ℕ, ◌+◌, ◌-◌, ◌*◌, ◌/◌, ◌%◌, ◌<◌, ◌≤◌, arith, Bool, true, false, cond, ◌==◌, List, []}
use Rattle.std.proofs.Common.{◌∷◌, ◌++◌, length, take, drop, get_or, map, Option, Some, None, Result, Ok, Err, IsErr}
use Rattle.std.proofs.Common.{refl, sym, ◌∙◌, ap, subst, append_assoc}
use Rattle.std.specs.List.{flat_map}
use Rattle.std.proofs.Math.Nat.{add-mul, one-mul}
use Rattle.std.proofs.Math.Seq.{take-add}
use Rattle.std.proofs.lemmas.Nat.{mul-le, div-mul-add, mod-mul-add, row_fits_turned}
use Rattle.std.proofs.lemmas.List.{append-nil, take_more, take_all, take-append-drop, map-append, map_more}
use Rattle.std.proofs.lemmas.List.{length-take-le, length-drop, get_or-take, get_or-drop}
use Rattle.std.proofs.lemmas.Grind.{flat_map-append}
use Rattle.plan_desk.specs.declared.call.Failed.{Failed}
use Rattle.plan_desk.specs.Desk.{Shown}
use Rattle.plan_desk.specs.Written.{PutsText, HasPut}
use Rattle.plan_desk.specs.Written.Way.{writing}
use Rattle.plan_desk.proofs.Written.{begins, cut, fails, grows, last, respelled}
use Rattle.instance_model.specs.Tables.{Tables}
use Rattle.lagrange_bound.specs.declared.tail.Tail.{Tail}
use Rattle.lagrange_bound.specs.Prices.{PriceList, IsPriceList, tail_of}
use Rattle.certificate_lines.specs.declared.line.Side.{Side}
use Rattle.certificate_lines.specs.declared.line.Side.TheVariants.{Over, Under}
use Rattle.certificate_lines.specs.declared.line.CertificateLine.{CertificateLine}
use Rattle.certificate_text.specs.Text.{limit_lines, tail_lines, line_text, text_of_lines}
use Rattle.certificate_text.specs.Steps.{limit_table, limit_form, limit_of, price_lines, row_lines}
use Rattle.certificate_text.proofs.KeyLemmas.{less_one}
use Rattle.certificate_text.proofs.LimitLemmas.{limits_append, is_zero, zero_of}
use Rattle.certificate_text.proofs.TailLemmas.{tail_line, tails_append}

-- these lines were written
abbrev pub HasLines : List CertificateLine → (old new : Shown) → Type 0
HasLines lines old new = HasPut writing (text_of_lines lines) old new

-- these lines are written by a call
abbrev pub PutsLines : {T : Type 0} → List CertificateLine → (old new : Shown) → Result T Failed → Type 0
PutsLines lines old new result = PutsText writing (text_of_lines lines) old new result

pub text-append : (xs ys : List CertificateLine) → text_of_lines (xs ++ ys) ≡ text_of_lines xs ++ text_of_lines ys
text-append xs ys = flat_map-append line_text xs ys

-- a last call writes what is left
pub lines_last : {T : Type 0} {old mid new : Shown} (r : Result T Failed) (xs ys : List CertificateLine)
    → HasLines xs old mid → PutsLines ys mid new r → PutsLines (xs ++ ys) old new r
lines_last r xs ys first puts = respelled writing (sym (text-append xs ys)) (last writing r first puts)

-- a call failed, and more lines were to follow
pub lines_cut : {T U : Type 0} {e : Failed} {old new : Shown} (r : Result T Failed) → IsErr r
    → (xs ys : List CertificateLine) → PutsLines {T = U} xs old new (Err e) → PutsLines (xs ++ ys) old new r
lines_cut r is xs ys puts = respelled writing (sym (text-append xs ys)) (cut writing r is (text_of_lines ys) puts)

-- ---- one step of a loop
pub nothing : (lines : List CertificateLine) (s : Shown) → lines ≡ [] → HasLines lines s s
nothing lines s e = subst (λ ls. HasLines ls s s) (sym e) (begins writing s)

module _ (front more next : List CertificateLine) (step : next ≡ front ++ more) where
  pub step_on : {T : Type 0} {x : T} {old mid new : Shown} → HasLines front old mid → PutsLines more mid new (Ok x)
      → HasLines next old new
  step_on written puts = grows writing (ap text_of_lines step ∙ text-append front more) written puts

  pub step_stops : {T U : Type 0} {e : Failed} {old mid new : Shown} (r : Result T Failed) → IsErr r
      → (rest whole : List CertificateLine) → whole ≡ next ++ rest → HasLines front old mid → PutsLines {T =
      U} more mid new (Err e) → PutsLines whole old new r
  step_stops r is rest whole f written puts =
      fails writing r is (text_of_lines rest)
      (ap text_of_lines f
      ∙ text-append next rest
      ∙ ap (λ text. text ++ text_of_lines rest) (ap text_of_lines step ∙ text-append front more)
      ∙ append_assoc (text_of_lines front) (text_of_lines more) (text_of_lines rest)) written puts

-- ---- lines that are listed, one for each element
module _ {A : Type 0} (f : A → CertificateLine) (xs : List A) (n : ℕ) (d : A) (low : n < length xs) where
  pub map_step : map f (take (n + 1) xs) ≡ map f (take n xs) ++ f (get_or xs n d) ∷ []
  map_step = map_more f xs n d low

  pub map_rest : map f xs ≡ map f (take (n + 1) xs) ++ map f (drop (n + 1) xs)
  map_rest = ap (map f) (sym (take-append-drop (n + 1) xs)) ∙ map-append f (take (n + 1) xs) (drop (n + 1) xs)

-- some for each element
module _ {A : Type 0} (f : A → List CertificateLine) (xs : List A) (n : ℕ) (d : A) (low : n < length xs) where
  pub flat_step : flat_map f (take (n + 1) xs) ≡ flat_map f (take n xs) ++ f (get_or xs n d)
  flat_step =
      ap (flat_map f) (take_more xs n d low) ∙ flat_map-append f (take n xs) (get_or xs n d ∷ [])
      ∙ ap (λ ls. flat_map f (take n xs) ++ ls) (append-nil (f (get_or xs n d)))

  pub flat_rest : flat_map f xs ≡ flat_map f (take (n + 1) xs) ++ flat_map f (drop (n + 1) xs)
  flat_rest =
      ap (flat_map f) (sym (take-append-drop (n + 1) xs)) ∙ flat_map-append f (take (n + 1) xs) (drop (n + 1) xs)

-- ---- tails
pub tails_none : (t : ℕ) → tail_lines t [] ≡ []
unfolding tail_lines
tails_none t = refl

one_tail : (t : ℕ) (tail : Tail) → tail_lines t (Some tail ∷ []) ≡ tail_line t tail ∷ []
unfolding tail_lines
one_tail t tail = refl

pub tail_some : (t : ℕ) (o : Option Tail) (tail : Tail) → o ≡ Some tail
    → text_of_lines (tail_lines t (o ∷ [])) ≡ line_text (tail_line t tail)
tail_some t o tail e = ap (λ (p : Option Tail). text_of_lines (tail_lines t (p ∷ []))) e
    ∙ ap text_of_lines (one_tail t tail) ∙ append-nil (line_text (tail_line t tail))

pub tail_none : (t : ℕ) (o : Option Tail) → o ≡ None → tail_lines t (o ∷ []) ≡ []
unfolding tail_lines
tail_none t o e = ap (λ (p : Option Tail). tail_lines t (p ∷ [])) e

pub tails_step : (inst : Tables) (prices : PriceList) (n : ℕ) → IsPriceList inst prices → n < inst.periods
    → tail_lines 1 (take (n + 1) prices.tails) ≡ tail_lines 1 (take n prices.tails)
    ++ tail_lines (n + 1) (tail_of prices (n + 1) ∷ [])
tails_step inst prices n ok low =
    let each = ok.tails_each in
    let within : n < length prices.tails = omega (arith, each, low) in
    let count : 1 + length (take n prices.tails) ≡ n + 1 = let l =
    length-take-le n prices.tails (omega (arith, within)) in omega (arith, l) in
    let place : n ≡ n + 1 - 1 = sym (less_one n) in
    ap (tail_lines 1) (take_more prices.tails n None within)
    ∙ tails_append 1 (take n prices.tails) (get_or prices.tails n None ∷ [])
    ∙ ap (λ u. tail_lines 1 (take n prices.tails) ++ tail_lines u (get_or prices.tails n None ∷ [])) count
    ∙ ap (λ k. tail_lines 1 (take n prices.tails) ++ tail_lines (n + 1) (get_or prices.tails k None ∷ [])) place

pub tails_rest : (prices : PriceList) (n : ℕ) → tail_lines 1 prices.tails ≡ tail_lines 1 (take (n + 1) prices.tails)
    ++ tail_lines (1 + length (take (n + 1) prices.tails)) (drop (n + 1) prices.tails)
tails_rest prices n = ap (tail_lines 1) (sym (take-append-drop (n + 1) prices.tails))
    ∙ tails_append 1 (take (n + 1) prices.tails) (drop (n + 1) prices.tails)

-- ---- limits
pub limits_none : (form : ℕ → ℕ → ℕ → CertificateLine) (n k : ℕ) → limit_lines form n k [] ≡ []
unfolding limit_lines
limits_none form n k = refl

one_limit : (form : ℕ → ℕ → ℕ → CertificateLine) (n k v : ℕ)
    → limit_lines form n k (v ∷ []) ≡ cond (v == 0) [] (form (k / n + 1) (k % n + 1) v ∷ [])
unfolding limit_lines
one_limit form n k v = refl

pub price_none : (side : Side) (c t v : ℕ) → v ≡ 0 → price_lines side c t v ≡ []
price_none side c t v e = ap (λ b. cond b [] (limit_form side c t v ∷ [])) (is_zero v e)

pub price_some : (side : Side) (c t v : ℕ) → (v ≡ 0 → ⊥) → price_lines side c t v ≡ limit_form side c t v ∷ []
price_some side c t v h = at (v == 0) refl
  where
    at : (b : Bool) → (v == 0) ≡ b → cond b [] (limit_form side c t v ∷ []) ≡ limit_form side c t v ∷ []
    at true e = absurd (h (zero_of v e))
    at false e = refl

abbrev row : Tables → Side → PriceList → ℕ → List ℕ
row inst side prices c = take inst.periods (drop (c * inst.periods) (limit_table side prices))

table_each : (inst : Tables) (side : Side) (prices : PriceList) → IsPriceList inst prices
    → length (limit_table side prices) ≡ length inst.resource_names * inst.periods
table_each inst Over prices ok = ok.up_each
table_each inst Under prices ok = ok.lo_each

module _ (inst : Tables) (side : Side) (prices : PriceList) (c : ℕ) (ok : IsPriceList inst prices)
    (low : c < length inst.resource_names) where
  row_length : length (row inst side prices c) ≡ inst.periods
  row_length =
      let each = table_each inst side prices ok in
      let l = row_fits_turned c inst.periods inst.periods (length inst.resource_names) low (omega arith) in
      let d = length-drop (c * inst.periods) (limit_table side prices) in
      length-take-le inst.periods (drop (c * inst.periods) (limit_table side prices)) (omega (arith, each, l, d))

  price_at : (n : ℕ) → n < inst.periods → get_or (row inst side prices c) n 0 ≡ limit_of inst side prices c (n + 1)
  price_at n h = at side
    where
      in_row : (table : List ℕ) → get_or (take inst.periods (drop (c * inst.periods) table)) n 0
          ≡ get_or table (c * inst.periods + (n + 1 - 1)) 0
      in_row table = get_or-take inst.periods (drop (c * inst.periods) table) n 0 h
          ∙ get_or-drop (c * inst.periods) table n 0
          ∙ ap (λ k. get_or table (c * inst.periods + k) 0) (sym (less_one n))

      at : (s : Side) → get_or (row inst s prices c) n 0 ≡ limit_of inst s prices c (n + 1)
      at Over = in_row prices.up
      at Under = in_row prices.lo

  row_price : (n : ℕ) → n < inst.periods
      → limit_lines (limit_form side) inst.periods (c * inst.periods + n) (get_or (row inst side prices c) n 0 ∷ [])
      ≡ price_lines side (c + 1) (n + 1) (limit_of inst side prices c (n + 1))
  row_price n h =
      let v : ℕ = get_or (row inst side prices c) n 0 in
      one_limit (limit_form side) inst.periods (c * inst.periods + n) v
      ∙ ap (λ a. cond (v == 0) [] (limit_form side (a + 1) ((c * inst.periods + n) % inst.periods + 1) v ∷ []))
      (div-mul-add c inst.periods n h)
      ∙ ap (λ a. cond (v == 0) [] (limit_form side (c + 1) (a + 1) v ∷ [])) (mod-mul-add c inst.periods n h)
      ∙ ap (price_lines side (c + 1) (n + 1)) (price_at n h)

  pub row_step : (n : ℕ) → n < inst.periods
      → limit_lines (limit_form side) inst.periods (c * inst.periods) (take (n + 1) (row inst side prices c))
      ≡ limit_lines (limit_form side) inst.periods (c * inst.periods) (take n (row inst side prices c))
      ++ price_lines side (c + 1) (n + 1) (limit_of inst side prices c (n + 1))
  row_step n h =
      let within : n < length (row inst side prices c) = omega (arith, h, row_length) in
      let count : c * inst.periods + length (take n (row inst side prices c)) ≡ c * inst.periods + n =
      ap (λ k. c * inst.periods + k) (length-take-le n (row inst side prices c) (omega (arith, within))) in
      ap (limit_lines (limit_form side) inst.periods (c * inst.periods)) (take_more (row inst side prices c) n 0 within)
      ∙ limits_append (limit_form side) inst.periods (c * inst.periods) (take n (row inst side prices c))
      (get_or (row inst side prices c) n 0 ∷ [])
      ∙ ap (λ k. limit_lines (limit_form side) inst.periods (c * inst.periods) (take n (row inst side prices c))
      ++ limit_lines (limit_form side) inst.periods k (get_or (row inst side prices c) n 0 ∷ [])) count
      ∙ ap (λ ls. limit_lines (limit_form side) inst.periods (c * inst.periods) (take n (row inst side prices c)) ++ ls)
      (row_price n h)

  pub row_rest : (n : ℕ) → row_lines inst side prices c ≡ limit_lines (limit_form side) inst.periods (c
      * inst.periods) (take (n + 1) (row inst side prices c)) ++ limit_lines (limit_form side) inst.periods
      (c * inst.periods + length (take (n + 1) (row inst side prices c))) (drop (n + 1) (row inst side prices c))
  row_rest n =
      ap (limit_lines (limit_form side) inst.periods (c * inst.periods)) (sym
      (take-append-drop (n + 1) (row inst side prices c)))
      ∙ limits_append (limit_form side) inst.periods (c * inst.periods) (take (n + 1) (row inst side prices c))
      (drop (n + 1) (row inst side prices c))

  pub row_whole : (n : ℕ) → inst.periods ≤ n → take n (row inst side prices c) ≡ row inst side prices c
  row_whole n h = take_all n (row inst side prices c) (omega (arith, h, row_length))

  pub rows_step : limit_lines (limit_form side) inst.periods 0 (take ((c + 1) * inst.periods) (limit_table side prices))
      ≡ limit_lines (limit_form side) inst.periods 0 (take (c * inst.periods) (limit_table side prices))
      ++ row_lines inst side prices c
  rows_step =
      let table : List ℕ = limit_table side prices in
      let n : ℕ = inst.periods in
      let next : (c + 1) * n ≡ c * n + n = let e = add-mul c 1 n in let f = one-mul n in omega (arith, e, f) in
      let each = table_each inst side prices ok in
      let fits = row_fits_turned c inst.periods inst.periods (length inst.resource_names) low (omega arith) in
      let count : 0 + length (take (c * n) table) ≡ c * n = let t =
      length-take-le (c * n) table (omega (arith, each, fits)) in omega (arith, t) in
      ap (λ k. limit_lines (limit_form side) n 0 (take k table)) next
      ∙ ap (limit_lines (limit_form side) n 0) (take-add (c * n) n table)
      ∙ limits_append (limit_form side) n 0 (take (c * n) table) (row inst side prices c)
      ∙ ap (λ k. limit_lines (limit_form side) n 0 (take (c * n) table)
      ++ limit_lines (limit_form side) n k (row inst side prices c)) count

  pub rows_rest : limit_lines (limit_form side) inst.periods 0 (limit_table side prices)
      ≡ limit_lines (limit_form side) inst.periods 0 (take ((c + 1) * inst.periods) (limit_table side prices))
      ++ limit_lines (limit_form side) inst.periods
      (0 + length (take ((c + 1) * inst.periods) (limit_table side prices)))
      (drop ((c + 1) * inst.periods) (limit_table side prices))
  rows_rest =
      let k : ℕ = (c + 1) * inst.periods in
      ap (limit_lines (limit_form side) inst.periods 0) (sym (take-append-drop k (limit_table side prices)))
      ∙ limits_append (limit_form side) inst.periods 0 (take k (limit_table side prices))
      (drop k (limit_table side prices))

pub rows_whole : (inst : Tables) (side : Side) (prices : PriceList) (c : ℕ) → IsPriceList inst prices
    → length inst.resource_names ≤ c → take (c * inst.periods) (limit_table side prices) ≡ limit_table side prices
rows_whole inst side prices c ok h =
    let each = table_each inst side prices ok in
    let l = mul-le (length inst.resource_names) inst.periods c inst.periods h (omega arith) in
    take_all (c * inst.periods) (limit_table side prices) (omega (arith, each, l))
