-- One entry more, behind all others.
use Rattle.std.proofs.Common.{◌≡◌, ◌≢◌, ◌⊎◌, inl, inr, ℕ, zero, suc, ◌+◌, ◌-◌, ◌*◌, ◌/◌, ◌%◌, ◌<◌, ◌≤◌, refl, sym, ◌∙◌}
use Rattle.std.proofs.Common.{ap, subst, arith, Bool, true, false, cond, ◌&&◌, ◌==◌, List, [], ◌∷◌, ◌++◌, length, map}
use Rattle.std.proofs.Common.{get_or, set, Option, Some, None, append_assoc, replicate}
use Rattle.std.specs.List.{AllByRecursion}
use Rattle.std.proofs.Math.Nat.{eq-or-lt_of_le}
use Rattle.std.proofs.lemmas.Nat.{mul-add-lt, same_from_place}
use Rattle.std.proofs.lemmas.List.{append-nil, map-append, get_or_past, get_or-set_other}
use Rattle.std.proofs.lemmas.Bool.Decides.{nat_tests}
use Rattle.instance_model.specs.Tables.{Tables}
use Rattle.lagrange_bound.specs.declared.tail.Tail.{Tail}
use Rattle.lagrange_bound.specs.declared.ex_price.ExPrice.{ExPrice}
use Rattle.lagrange_bound.specs.Prices.{PriceList, IsPriceList, IsExPrice, ExBefore, tail_of, ex_of, zero_list}
use Rattle.lagrange_bound.specs.Changes.{with_up, with_lo, with_tail, IsBandPlace}
use Rattle.certificate_lines.specs.declared.line.CertificateLine.{CertificateLine}
use Rattle.certificate_lines.specs.declared.line.CertificateLine.TheVariants as line
use Rattle.certificate_text.specs.Text.{limit_lines, tail_lines, ex_line, entry_lines}
use Rattle.certificate_text.specs.Grammar.{EntryKey, KeyBelow, up_key, lo_key, tail_key, ex_key}
use Rattle.certificate_text.specs.Entries.{IsUpTo}
use Rattle.certificate_text.specs.Laws.{ZeroHasNone, ZeroIsUpTo, UpGrows, LoGrows, TailGrows, ExGrows}
use Rattle.certificate_text.proofs.KeyLemmas.{key, below_or_not, some_columns, key_trans, key_apart, kind_rises}
use Rattle.certificate_text.proofs.KeyLemmas.{place_key, place_order, place_row, place_column, place_is, place_within}
use Rattle.certificate_text.proofs.KeyLemmas.{column_within, key_of_place}
use Rattle.certificate_text.proofs.LimitLemmas.{limit_line, none_left, limits_grow}
use Rattle.certificate_text.proofs.TailLemmas.{tail_line, no_tails, tails_grow}
use Rattle.certificate_text.proofs.ExLemmas.{IsSome, NotBefore, ex_nil, ex_push}

-- ---- lists
-- more at the end of a first part that nothing follows
first_grows : {A : Type 0} (new old rest more : List A) → new ≡ old ++ more → rest ≡ []
    → new ++ rest ≡ (old ++ rest) ++ more
first_grows {A = A} new old rest more e f =
    ap (λ (r : List A). new ++ r) f ∙ append-nil new ∙ e
    ∙ ap (λ (r : List A). r ++ more) (sym (append-nil old) ∙ ap (λ (r : List A). old ++ r) (sym f))

-- more at the end of what follows
second_grows : {A : Type 0} (front new old more : List A) → new ≡ old ++ more → front ++ new ≡ (front ++ old) ++ more
second_grows {A = A} front new old more e = ap (λ (r : List A). front ++ r) e ∙ sym (append_assoc front old more)

two_none : {A : Type 0} (xs ys : List A) → xs ≡ [] → ys ≡ [] → xs ++ ys ≡ []
two_none {A = A} xs ys e f = ap (λ (r : List A). r ++ ys) e ∙ f

-- ---- tables of limits
-- the places of the table of these prices that have keys above the last are 0
abbrev pub IsZeroAbove : Tables → ℕ → List ℕ → EntryKey → Type 0
IsZeroAbove inst kind table last = (c t : ℕ) → IsBandPlace inst c t → KeyBelow last (key kind (c + 1) t)
    → get_or table (c * inst.periods + (t - 1)) 0 ≡ 0

module _ (inst : Tables) (kind : ℕ) (table : List ℕ)
    (each : length table ≡ length inst.resource_names * inst.periods) where
  zero_here : (last : EntryKey) (i : ℕ) → IsZeroAbove inst kind table last
      → KeyBelow last (place_key kind inst.periods i) → get_or table i 0 ≡ 0
  zero_here last i zeros above = at (below_or_not i (length table))
    where
      at : (i < length table) ⊎ (length table ≤ i) → get_or table i 0 ≡ 0
      at (inr h) = get_or_past table i 0 h
      at (inl h) =
          let some = some_columns (length inst.resource_names) inst.periods i (omega (arith, h, each)) in
          let place : IsBandPlace inst (i / inst.periods) (i % inst.periods + 1) = record {
            resource = place_within (length inst.resource_names) inst.periods i some (omega (arith, h, each));
            from = omega arith;
            to = column_within inst.periods i some;
          } in
          ap (λ k. get_or table k 0) (sym (place_is inst.periods i))
          ∙ zeros (i / inst.periods) (i % inst.periods + 1) place above

  -- a table whose kind is above that of the last entry is of zeros
  zero_table : (last : EntryKey) → IsZeroAbove inst kind table last → last.kind < kind → (i : ℕ) → get_or table i 0 ≡ 0
  zero_table last zeros h i = zero_here last i zeros (inl h)

  module _ (last : EntryKey) (zeros : IsZeroAbove inst kind table last) (c t v : ℕ) (place : IsBandPlace inst c t)
      (some : 1 ≤ v) (above : KeyBelow last (key kind (c + 1) t)) where
    within : c * inst.periods + (t - 1) < length table
    within = let l = mul-add-lt c inst.periods (t - 1) (length inst.resource_names) place.resource (omega
        (arith, place.from, place.to)) in omega (arith, l, each)

    -- from its place on, all are zeros
    zeros_from : (i : ℕ) → c * inst.periods + (t - 1) ≤ i → get_or table i 0 ≡ 0
    zeros_from i h = at (eq-or-lt_of_le h)
      where
        own : KeyBelow last (place_key kind inst.periods (c * inst.periods + (t - 1)))
        own = subst (λ k. KeyBelow last k) (sym (key_of_place kind inst.periods c t place.from place.to)) above

        at : (c * inst.periods + (t - 1) ≡ i) ⊎ (c * inst.periods + (t - 1) < i) → get_or table i 0 ≡ 0
        at (inl e) = zero_here last i zeros (subst (λ k. KeyBelow last (place_key kind inst.periods k)) e own)
        at (inr l) = zero_here last i zeros
            (key_trans last (place_key kind inst.periods (c * inst.periods + (t - 1)))
            (place_key kind inst.periods i) own
            (place_order kind inst.periods (c * inst.periods + (t - 1)) i (omega (arith, place.from, place.to)) l))

    pub table_grows : (form : ℕ → ℕ → ℕ → CertificateLine)
        → limit_lines form inst.periods 0 (set table (c * inst.periods + (t - 1)) v)
        ≡ limit_lines form inst.periods 0 table ++ form (c + 1) t v ∷ []
    table_grows form =
        let none : 0 + (c * inst.periods + (t - 1)) ≡ c * inst.periods + (t - 1) = omega arith in
        limits_grow form inst.periods 0 table (c * inst.periods + (t - 1)) v within some zeros_from
        ∙ ap (λ j. limit_lines form inst.periods 0 table ++ limit_line form inst.periods j v ∷ []) none
        ∙ ap (λ a. limit_lines form inst.periods 0 table ++ form (a + 1) ((c * inst.periods + (t - 1)) % inst.periods
        + 1) v ∷ []) (place_row inst.periods c t place.from place.to)
        ∙ ap (λ a. limit_lines form inst.periods 0 table ++ form (c + 1) a v ∷ [])
        (place_column inst.periods c t place.from place.to)

    pub table_up_to : IsZeroAbove inst kind (set table (c * inst.periods + (t - 1)) v) (key kind (c + 1) t)
    table_up_to d u other h =
        get_or-set_other table (c * inst.periods + (t - 1)) (d * inst.periods + (u - 1)) v 0 apart
        ∙ zeros d u other (key_trans last (key kind (c + 1) t) (key kind (d + 1) u) above h)
      where
        apart : d * inst.periods + (u - 1) ≢ c * inst.periods + (t - 1)
        apart e =
            let same = same_from_place d (u - 1) c (t - 1) inst.periods (omega (arith, other.from, other.to))
            (omega (arith, place.from, place.to)) e in
            let row = same.0 in
            let column = same.1 in
            key_apart (key kind (c + 1) t) (key kind (d + 1) u) h refl (omega (arith, row))
            (omega (arith, column, other.from, place.from))

-- ---- tails
-- the periods with keys above the last have no tail
abbrev pub IsNoneAbove : Tables → PriceList → EntryKey → Type 0
IsNoneAbove inst prices last = (t : ℕ) → 1 ≤ t → t ≤ inst.periods → KeyBelow last (tail_key t) → tail_of prices t ≡ None

module _ (inst : Tables) (prices : PriceList) (ok : IsPriceList inst prices) (last : EntryKey)
    (none : IsNoneAbove inst prices last) where
  none_here : (i : ℕ) → i < length prices.tails → KeyBelow last (tail_key (i + 1)) → get_or prices.tails i None ≡ None
  none_here i h above =
      let each = ok.tails_each in
      let e : i + 1 - 1 ≡ i = omega arith in
      subst (λ k. get_or prices.tails k None ≡ None) e (none (i + 1) (omega arith) (omega (arith, h, each)) above)

  none_at_all : last.kind < 3 → tail_lines 1 prices.tails ≡ []
  none_at_all h = no_tails 1 prices.tails (λ i l. none_here i l (inl h))

  module _ (t : ℕ) (tail : Tail) (from : 1 ≤ t) (to : t ≤ inst.periods) (above : KeyBelow last (tail_key t)) where
    tails_more : tail_lines 1 (set prices.tails (t - 1) (Some tail)) ≡ tail_lines 1 prices.tails
        ++ line.Tail t tail.weight tail.places ∷ []
    tails_more =
        let each = ok.tails_each in
        let e : 1 + (t - 1) ≡ t = omega arith in
        tails_grow 1 prices.tails (t - 1) tail (omega (arith, each)) (λ i h l. none_here i l (next i h))
        ∙ ap (λ j. tail_lines 1 prices.tails ++ tail_line j tail ∷ []) e
      where
        next : (i : ℕ) → t - 1 ≤ i → KeyBelow last (tail_key (i + 1))
        next i h = at (eq-or-lt_of_le h)
          where
            at : (t - 1 ≡ i) ⊎ (t - 1 < i) → KeyBelow last (tail_key (i + 1))
            at (inl e) = let f : t ≡ i + 1 = omega (arith, e) in subst (λ k. KeyBelow last (tail_key k)) f above
            at (inr l) = key_trans last (tail_key t) (tail_key (i + 1)) above (inr (refl, inl (omega (arith, l))))

    tails_up_to : IsNoneAbove inst (with_tail prices t (Some tail)) (tail_key t)
    tails_up_to u low high h =
        get_or-set_other prices.tails (t - 1) (u - 1) (Some tail) None apart
        ∙ none u low high (key_trans last (tail_key t) (tail_key u) above h)
      where
        apart : u - 1 ≢ t - 1
        apart e = key_apart (tail_key t) (tail_key u) h refl (omega (arith, e)) refl

-- ---- prices of exclusions
pub some_each : (inst : Tables) (xs : List ExPrice) → AllByRecursion (IsExPrice inst) xs → AllByRecursion IsSome xs
some_each inst [] h = tt
some_each inst (x ∷ xs) h = (h.0.some, some_each inst xs h.1)

no_ex : (inst : Tables) (prices : PriceList) (last : EntryKey) → IsPriceList inst prices → IsUpTo inst prices last
    → last.kind < 4 → prices.ex ≡ []
no_ex inst prices last ok upto h = ex_nil prices.ex (some_each inst prices.ex ok.ex) (λ e t. upto.ex e t (inl h))

no_ex_lines : (inst : Tables) (prices : PriceList) (last : EntryKey) → IsPriceList inst prices → IsUpTo inst prices last
    → last.kind < 4 → map ex_line prices.ex ≡ []
no_ex_lines inst prices last ok upto h = ap (λ (xs : List ExPrice). map ex_line xs) (no_ex inst prices last ok upto h)

-- ---- the laws
pub up_grows : UpGrows
up_grows inst prices last c t v ok upto place some above =
    let low = kind_rises last (up_key (c + 1) t) above in
    let grown = table_grows inst 1 prices.up ok.up_each last upto.up c t v place some above line.Up in
    let lo = none_left line.Lo inst.periods 0 prices.lo
    (zero_table inst 2 prices.lo ok.lo_each last upto.lo (omega (arith, low))) in
    let tails = none_at_all inst prices ok last upto.tails (omega (arith, low)) in
    let ex = no_ex_lines inst prices last ok upto (omega (arith, low)) in
    record {
      lines = first_grows (limit_lines line.Up inst.periods 0 (with_up inst prices c t v).up)
          (limit_lines line.Up inst.periods 0 prices.up)
          (limit_lines line.Lo inst.periods 0 prices.lo ++ (tail_lines 1 prices.tails ++ map ex_line prices.ex))
          (line.Up (c + 1) t v ∷ []) grown (two_none _ _ lo (two_none _ _ tails ex));
      up_to = record {
        up = table_up_to inst 1 prices.up ok.up_each last upto.up c t v place some above;
        lo = λ d u p h. upto.lo d u p (key_trans last (up_key (c + 1) t) (lo_key (d + 1) u) above h);
        tails = λ u p q h. upto.tails u p q (key_trans last (up_key (c + 1) t) (tail_key u) above h);
        ex = λ d u h. upto.ex d u (key_trans last (up_key (c + 1) t) (ex_key (d + 1) u) above h);
      };
    }

pub lo_grows : LoGrows
lo_grows inst prices last c t v ok upto place some above =
    let low = kind_rises last (lo_key (c + 1) t) above in
    let grown = table_grows inst 2 prices.lo ok.lo_each last upto.lo c t v place some above line.Lo in
    let tails = none_at_all inst prices ok last upto.tails (omega (arith, low)) in
    let ex = no_ex_lines inst prices last ok upto (omega (arith, low)) in
    record {
      lines = second_grows (limit_lines line.Up inst.periods 0 prices.up)
          (limit_lines line.Lo inst.periods 0 (with_lo inst prices c t v).lo
          ++ (tail_lines 1 prices.tails ++ map ex_line prices.ex))
          (limit_lines line.Lo inst.periods 0 prices.lo ++ (tail_lines 1 prices.tails ++ map ex_line prices.ex))
          (line.Lo (c + 1) t v ∷ [])
          (first_grows (limit_lines line.Lo inst.periods 0 (with_lo inst prices c t v).lo)
          (limit_lines line.Lo inst.periods 0 prices.lo) (tail_lines 1 prices.tails ++ map ex_line prices.ex)
          (line.Lo (c + 1) t v ∷ []) grown (two_none _ _ tails ex));
      up_to = record {
        up = λ d u p h. upto.up d u p (key_trans last (lo_key (c + 1) t) (up_key (d + 1) u) above h);
        lo = table_up_to inst 2 prices.lo ok.lo_each last upto.lo c t v place some above;
        tails = λ u p q h. upto.tails u p q (key_trans last (lo_key (c + 1) t) (tail_key u) above h);
        ex = λ d u h. upto.ex d u (key_trans last (lo_key (c + 1) t) (ex_key (d + 1) u) above h);
      };
    }

pub tail_grows : TailGrows
tail_grows inst prices last t tail ok upto from to above =
    let low = kind_rises last (tail_key t) above in
    let grown = tails_more inst prices ok last upto.tails t tail from to above in
    let ex = no_ex_lines inst prices last ok upto (omega (arith, low)) in
    let ups : List CertificateLine = limit_lines line.Up inst.periods 0 prices.up in
    let los : List CertificateLine = limit_lines line.Lo inst.periods 0 prices.lo in
    let new : List CertificateLine = tail_lines 1 (with_tail prices t (Some tail)).tails in
    let old : List CertificateLine = tail_lines 1 prices.tails in
    let rest : List CertificateLine = map ex_line prices.ex in
    let more : List CertificateLine = line.Tail t tail.weight tail.places ∷ [] in
    record {
      lines = second_grows ups (los ++ (new ++ rest)) (los ++ (old ++ rest)) more
          (second_grows los (new ++ rest) (old ++ rest) more (first_grows new old rest more grown ex));
      up_to = record {
        up = λ d u p h. upto.up d u p (key_trans last (tail_key t) (up_key (d + 1) u) above h);
        lo = λ d u p h. upto.lo d u p (key_trans last (tail_key t) (lo_key (d + 1) u) above h);
        tails = tails_up_to inst prices ok last upto.tails t tail from to above;
        ex = λ d u h. upto.ex d u (key_trans last (tail_key t) (ex_key (d + 1) u) above h);
      };
    }

pub ex_order : (x z : ExPrice) → ExBefore x z
    → KeyBelow (ex_key (x.exclusion + 1) x.period) (ex_key (z.exclusion + 1) z.period)
ex_order x z (inl h) = inr (refl, inl (omega arith))
ex_order x z (inr (e, h)) = inr (refl, inr (ap (λ i. i + 1) e, h))

-- the key of each pair from that of x on is above what is below the key of x
pub ex_above : (last : EntryKey) (x z : ExPrice) → KeyBelow last (ex_key (x.exclusion + 1) x.period) → NotBefore x z
    → KeyBelow last (ex_key (z.exclusion + 1) z.period)
ex_above last x z above (inl h) =
    key_trans last (ex_key (x.exclusion + 1) x.period) (ex_key (z.exclusion + 1) z.period) above (ex_order x z h)
ex_above last x z above (inr (e, f)) = subst (λ i. KeyBelow last (ex_key (i + 1) z.period)) e
    (subst (λ i. KeyBelow last (ex_key (x.exclusion + 1) i)) f above)

both_same : (d u e t : ℕ) → ((d == e) && (u == t)) ≡ true → (d ≡ e) × (u ≡ t)
both_same d u e t h = (first d u e t h, second d u e t h)
  where
    first : (d u e t : ℕ) → ((d == e) && (u == t)) ≡ true → d ≡ e
    first d u e t h = grind (arith, nat_tests)

    second : (d u e t : ℕ) → ((d == e) && (u == t)) ≡ true → u ≡ t
    second d u e t h = grind (arith, nat_tests)

ex_up_to : (xs ys : List ExPrice) (last : EntryKey) (e t v : ℕ)
    → ((d u : ℕ) → KeyBelow last (ex_key (d + 1) u) → ex_of xs d u ≡ 0) → KeyBelow last (ex_key (e + 1) t)
    → ((d u : ℕ) → ex_of ys d u ≡ cond ((d == e) && (u == t)) v (ex_of xs d u)) → (d u : ℕ)
    → KeyBelow (ex_key (e + 1) t) (ex_key (d + 1) u) → ex_of ys d u ≡ 0
ex_up_to xs ys last e t v none above set d u h = at ((d == e) && (u == t)) refl (set d u)
  where
    at : (b : Bool) → ((d == e) && (u == t)) ≡ b → ex_of ys d u ≡ cond b v (ex_of xs d u) → ex_of ys d u ≡ 0
    at false p q = q ∙ none d u (key_trans last (ex_key (e + 1) t) (ex_key (d + 1) u) above h)
    at true p q =
        let same = both_same d u e t p in
        let row = same.0 in
        let column = same.1 in
        absurd (key_apart (ex_key (e + 1) t) (ex_key (d + 1) u) h refl (omega (arith, row)) (sym column))

pub ex_grows : ExGrows
ex_grows inst old new last e t v ok okn upto set some above =
    let x : ExPrice = record { exclusion = e; period = t; value = v } in
    let more : List CertificateLine = line.Ex (e + 1) t v ∷ [] in
    let ups : List CertificateLine = limit_lines line.Up inst.periods 0 old.up in
    let los : List CertificateLine = limit_lines line.Lo inst.periods 0 old.lo in
    let tails : List CertificateLine = tail_lines 1 old.tails in
    let pushed = ex_push old.ex new.ex e t v ok.ex_ascend okn.ex_ascend (some_each inst old.ex ok.ex)
    (some_each inst new.ex okn.ex) some (λ z n. upto.ex z.exclusion z.period (ex_above last x z above n)) set.ex in
    let grown : map ex_line new.ex ≡ map ex_line old.ex ++ more =
    ap (λ (xs : List ExPrice). map ex_line xs) pushed ∙ map-append ex_line old.ex (x ∷ []) in
    let same : entry_lines inst new ≡ ups ++ (los ++ (tails ++ map ex_line new.ex)) =
    λ j. limit_lines line.Up inst.periods 0 (set.up j)
    ++ (limit_lines line.Lo inst.periods 0 (set.lo j) ++ (tail_lines 1 (set.tails j) ++ map ex_line new.ex)) in
    record {
      lines = same ∙ second_grows ups (los ++ (tails ++ map ex_line new.ex)) (los ++ (tails ++ map ex_line old.ex)) more
          (second_grows los (tails ++ map ex_line new.ex) (tails ++ map ex_line old.ex) more
          (second_grows tails (map ex_line new.ex) (map ex_line old.ex) more grown));
      up_to = record {
        up = λ d u p h. ap (λ xs. get_or xs (d * inst.periods + (u - 1)) 0) set.up
            ∙ upto.up d u p (key_trans last (ex_key (e + 1) t) (up_key (d + 1) u) above h);
        lo = λ d u p h. ap (λ xs. get_or xs (d * inst.periods + (u - 1)) 0) set.lo
            ∙ upto.lo d u p (key_trans last (ex_key (e + 1) t) (lo_key (d + 1) u) above h);
        tails = λ u p q h. ap (λ (xs : List (Option Tail)). get_or xs (u - 1) None) set.tails
            ∙ upto.tails u p q (key_trans last (ex_key (e + 1) t) (tail_key u) above h);
        ex = ex_up_to old.ex new.ex last e t v upto.ex above set.ex;
      };
    }

abbrev zeros_of : ℕ → List ℕ
zeros_of n = replicate n 0

zeros : (n i : ℕ) → get_or (zeros_of n) i 0 ≡ 0
zeros zero i = refl
zeros (suc n) zero = refl
zeros (suc n) (suc i) = zeros n i

abbrev nones_of : ℕ → List (Option Tail)
nones_of n = replicate n None

nones : (n i : ℕ) → get_or (nones_of n) i None ≡ None
nones zero i = refl
nones (suc n) zero = refl
nones (suc n) (suc i) = nones n i

pub zero_has_none : ZeroHasNone
unfolding zero_list
zero_has_none inst =
    let n : ℕ = length inst.resource_names * inst.periods in
    two_none _ _ (none_left line.Up inst.periods 0 (zeros_of n) (zeros n))
    (two_none _ _ (none_left line.Lo inst.periods 0 (zeros_of n) (zeros n))
    (two_none _ _ (no_tails 1 (nones_of inst.periods) (λ i h. nones inst.periods i)) refl))

pub zero_up_to : ZeroIsUpTo
unfolding zero_list ex_of
zero_up_to inst =
    let n : ℕ = length inst.resource_names * inst.periods in
    record {
      up = λ c t p h. zeros n (c * inst.periods + (t - 1));
      lo = λ c t p h. zeros n (c * inst.periods + (t - 1));
      tails = λ t p q h. nones inst.periods (t - 1);
      ex = λ e t h. refl;
    }
