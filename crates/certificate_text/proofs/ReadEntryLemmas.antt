-- The entries of a price list, one after another.
use Rattle.std.proofs.Common.{◌≡◌, Bool, true, false, ℕ, ◌+◌, ◌-◌, ◌≤◌, refl, sym, ◌∙◌, ap, subst, arith, List, [], ◌∷◌}
use Rattle.std.proofs.Common.{Option, Some, IsTrue}
use Rattle.std.specs.Bool.{OnTrue, OnFalse}
use Rattle.std.proofs.lemmas.Bool.{false≢true}
use Rattle.instance_model.specs.Tables.{Tables}
use Rattle.lagrange_bound.specs.Prices.{PriceList, IsPriceList, zero_list}
use Rattle.lagrange_bound.specs.Changes.{with_up, with_lo, IsBandPlace}
use Rattle.certificate_lines.specs.declared.line.Version.{Version}
use Rattle.certificate_lines.specs.declared.line.Version.TheVariants.{One, Two}
use Rattle.certificate_lines.specs.declared.line.CertificateLine.{CertificateLine}
use Rattle.certificate_lines.specs.declared.line.CertificateLine.TheVariants as line
use Rattle.certificate_tree.specs.Ranges.{HasPricesOf}
use Rattle.certificate_text.specs.Text.{entry_lines}
use Rattle.certificate_text.specs.Grammar.{Place, lists, EntryKey, KeyBelow, Stands, Fits, after, before_entries}
use Rattle.certificate_text.specs.Grammar.{up_key, lo_key, tail_key, ex_key}
use Rattle.certificate_text.specs.Entries.{IsUpTo}
use Rattle.certificate_text.specs.Laws.{Grows}
use Rattle.certificate_text.proofs.GrowLemmas.{up_grows, lo_grows, tail_grows, ex_grows, zero_has_none, zero_up_to}
use Rattle.certificate_text.specs.declared.read.fault.CertFault.{CertFault}
use Rattle.certificate_text.specs.read.Lines.{Left}
use Rattle.certificate_text.specs.read.Reading.{Passes, Fails, IsMark, IsEntry, EntryFits, SetsEntry, ReadsEntry}
use Rattle.certificate_text.specs.read.Reading.{ReadsEntries}
use Rattle.certificate_text.proofs.ReadStepLemmas.{passes_none, passes_more, passes_line, fails_behind}

pub told_false : (b : Bool) (P : Type 0) → b ≡ false → OnFalse b P → P
told_false false P e h = h
told_false true P e h = absurd (false≢true (sym e))

pub told_true : (b : Bool) (P : Type 0) → b ≡ true → OnTrue b P → P
told_true true P e h = h
told_true false P e h = absurd (false≢true e)

pub not_told : (b : Bool) (P : Type 0) → (IsTrue b → P) × (P → IsTrue b) → b ≡ false → P → ⊥
not_told b P w e p = false≢true (sym e ∙ w.1 p)

zero_ex : (inst : Tables) → (zero_list inst).ex ≡ []
unfolding zero_list
zero_ex inst = refl

-- an entry above the last one stands where it is
pub stands_entry : (version : Version) (count left : ℕ) (last key : EntryKey) (line : CertificateLine)
    → IsEntry version line key → KeyBelow last key → Stands (lists version count left (Some last)) line
stands_entry v n l last key (line.Title version) f b = absurd f
stands_entry v n l last key (line.Bound least) f b = absurd f
stands_entry v n l last key (line.Lists count) f b = absurd f
stands_entry v n l last key line.Prices f b = absurd f
stands_entry v n l last key (line.Up c t w) f b = subst (λ (k : EntryKey). KeyBelow last k) f b
stands_entry v n l last key (line.Lo c t w) f b = subst (λ (k : EntryKey). KeyBelow last k) f b
stands_entry v n l last key (line.Tail t weight places) f b = subst (λ (k : EntryKey). KeyBelow last k) f b
stands_entry v n l last key (line.Ex e t w) f b = (f.0, subst (λ (k : EntryKey). KeyBelow last k) f.1 b)
stands_entry v n l last key line.Tree f b = absurd f
stands_entry v n l last key (line.Split i m) f b = absurd f
stands_entry v n l last key (line.Cost j) f b = absurd f
stands_entry v n l last key line.Point f b = absurd f
stands_entry v n l last key (line.Band c t side) f b = absurd f
stands_entry v n l last key (line.Excl e) f b = absurd f
stands_entry v n l last key (line.Empty i) f b = absurd f

-- the place behind an entry
pub after_entry : (inst : Tables) (version : Version) (count left : ℕ) (last key : EntryKey) (line : CertificateLine)
    → IsEntry version line key → after inst (lists version count left (Some last)) line
    ≡ lists version count left (Some key)
after_entry inst v n l last key (line.Title version) f = absurd f
after_entry inst v n l last key (line.Bound least) f = absurd f
after_entry inst v n l last key (line.Lists count) f = absurd f
after_entry inst v n l last key line.Prices f = absurd f
after_entry inst v n l last key (line.Up c t w) f = ap (λ (k : EntryKey). lists v n l (Some k)) (sym f)
after_entry inst v n l last key (line.Lo c t w) f = ap (λ (k : EntryKey). lists v n l (Some k)) (sym f)
after_entry inst v n l last key (line.Tail t weight places) f = ap (λ (k : EntryKey). lists v n l (Some k)) (sym f)
after_entry inst v n l last key (line.Ex e t w) f = ap (λ (k : EntryKey). lists v n l (Some k)) (sym f.1)
after_entry inst v n l last key line.Tree f = absurd f
after_entry inst v n l last key (line.Split i m) f = absurd f
after_entry inst v n l last key (line.Cost j) f = absurd f
after_entry inst v n l last key line.Point f = absurd f
after_entry inst v n l last key (line.Band c t side) f = absurd f
after_entry inst v n l last key (line.Excl e) f = absurd f
after_entry inst v n l last key (line.Empty i) f = absurd f

-- the ranges of an entry
pub fits_entry : (inst : Tables) (version : Version) (count left : ℕ) (last : Option EntryKey) (line : CertificateLine)
    → EntryFits inst line → Fits inst (lists version count left last) line
fits_entry inst v n l last (line.Title version) f = absurd f
fits_entry inst v n l last (line.Bound least) f = absurd f
fits_entry inst v n l last (line.Lists count) f = absurd f
fits_entry inst v n l last line.Prices f = absurd f
fits_entry inst v n l last (line.Up c t w) f = f
fits_entry inst v n l last (line.Lo c t w) f = f
fits_entry inst v n l last (line.Tail t weight places) f = f
fits_entry inst v n l last (line.Ex e t w) f = f
fits_entry inst v n l last line.Tree f = absurd f
fits_entry inst v n l last (line.Split i m) f = absurd f
fits_entry inst v n l last (line.Cost j) f = absurd f
fits_entry inst v n l last line.Point f = absurd f
fits_entry inst v n l last (line.Band c t side) f = absurd f
fits_entry inst v n l last (line.Excl e) f = absurd f
fits_entry inst v n l last (line.Empty i) f = absurd f

pub fits_back : (inst : Tables) (version : Version) (count left : ℕ) (last : Option EntryKey) (key : EntryKey)
    (line : CertificateLine) → IsEntry version line key
    → Fits inst (lists version count left last) line → EntryFits inst line
fits_back inst v n l last key (line.Title version) f g = absurd f
fits_back inst v n l last key (line.Bound least) f g = absurd f
fits_back inst v n l last key (line.Lists count) f g = absurd f
fits_back inst v n l last key line.Prices f g = absurd f
fits_back inst v n l last key (line.Up c t w) f g = g
fits_back inst v n l last key (line.Lo c t w) f g = g
fits_back inst v n l last key (line.Tail t weight places) f g = g
fits_back inst v n l last key (line.Ex e t w) f g = g
fits_back inst v n l last key line.Tree f g = absurd f
fits_back inst v n l last key (line.Split i m) f g = absurd f
fits_back inst v n l last key (line.Cost j) f g = absurd f
fits_back inst v n l last key line.Point f g = absurd f
fits_back inst v n l last key (line.Band c t side) f g = absurd f
fits_back inst v n l last key (line.Excl e) f g = absurd f
fits_back inst v n l last key (line.Empty i) f g = absurd f

-- what neither is an entry nor begins a list or the tree doesn't stand among entries
pub no_entry : (version : Version) (count left : ℕ) (last : EntryKey) (line : CertificateLine) → (IsMark line → ⊥)
    → ((key : EntryKey) → IsEntry version line key → ⊥) → Stands (lists version count left (Some last)) line → ⊥
no_entry v n l last (line.Title version) unmarked none s = s
no_entry v n l last (line.Bound least) unmarked none s = s
no_entry v n l last (line.Lists count) unmarked none s = s
no_entry v n l last line.Prices unmarked none s = unmarked tt
no_entry v n l last (line.Up c t w) unmarked none s = none (up_key c t) refl
no_entry v n l last (line.Lo c t w) unmarked none s = none (lo_key c t) refl
no_entry v n l last (line.Tail t weight places) unmarked none s = none (tail_key t) refl
no_entry v n l last (line.Ex e t w) unmarked none s = none (ex_key e t) (s.0, refl)
no_entry v n l last line.Tree unmarked none s = unmarked tt
no_entry v n l last (line.Split i m) unmarked none s = s
no_entry v n l last (line.Cost j) unmarked none s = s
no_entry v n l last line.Point unmarked none s = s
no_entry v n l last (line.Band c t side) unmarked none s = s
no_entry v n l last (line.Excl e) unmarked none s = s
no_entry v n l last (line.Empty i) unmarked none s = s

-- nor does an entry that isn't above the last one
pub low_entry : (version : Version) (count left : ℕ) (last key : EntryKey) (line : CertificateLine)
    → IsEntry version line key → (KeyBelow last key → ⊥) → Stands (lists version count left (Some last)) line → ⊥
low_entry v n l last key (line.Title version) f low s = absurd f
low_entry v n l last key (line.Bound least) f low s = absurd f
low_entry v n l last key (line.Lists count) f low s = absurd f
low_entry v n l last key line.Prices f low s = absurd f
low_entry v n l last key (line.Up c t w) f low s = low (subst (λ (k : EntryKey). KeyBelow last k) (sym f) s)
low_entry v n l last key (line.Lo c t w) f low s = low (subst (λ (k : EntryKey). KeyBelow last k) (sym f) s)
low_entry v n l last key (line.Tail t weight places) f low s = low (subst (λ (k : EntryKey). KeyBelow last k) (sym f) s)
low_entry v n l last key (line.Ex e t w) f low s = low (subst (λ (k : EntryKey). KeyBelow last k) (sym f.1) s.1)
low_entry v n l last key line.Tree f low s = absurd f
low_entry v n l last key (line.Split i m) f low s = absurd f
low_entry v n l last key (line.Cost j) f low s = absurd f
low_entry v n l last key line.Point f low s = absurd f
low_entry v n l last key (line.Band c t side) f low s = absurd f
low_entry v n l last key (line.Excl e) f low s = absurd f
low_entry v n l last key (line.Empty i) f low s = absurd f

back_one : (c : ℕ) → 1 ≤ c → c - 1 + 1 ≡ c
back_one c h = omega (arith, h)

-- an entry that is set is one line more
pub set_grows : (inst : Tables) (old new : PriceList) (version : Version) (last key : EntryKey) (line : CertificateLine)
    → IsPriceList inst old → IsPriceList inst new → IsUpTo inst old last → IsEntry version line key → KeyBelow last key
    → EntryFits inst line → SetsEntry inst old new line → Grows inst old new line key
set_grows inst old new v last key (line.Title version) p q up f b fits sets = absurd f
set_grows inst old new v last key (line.Bound least) p q up f b fits sets = absurd f
set_grows inst old new v last key (line.Lists count) p q up f b fits sets = absurd f
set_grows inst old new v last key line.Prices p q up f b fits sets = absurd f
set_grows inst old new v last key (line.Up c t w) p q up f b fits sets =
    let e = back_one c fits.some_resource in
    let place : IsBandPlace inst (c - 1) t =
    record { resource = omega (arith, fits.some_resource, fits.resource); from = fits.from; to = fits.to } in
    let above = subst (λ (k : EntryKey). KeyBelow last k) (f ∙ ap (λ (d : ℕ). up_key d t) (sym e)) b in
    let g = up_grows inst old last (c - 1) t w p up place fits.some above in
    subst (λ (k : EntryKey). Grows inst old new (line.Up c t w) k) (sym f)
    (subst (λ (x : PriceList). Grows inst old x (line.Up c t w) (up_key c t)) (sym sets)
    (subst (λ (d : ℕ). Grows inst old (with_up inst old (c - 1) t w) (line.Up d t w) (up_key d t)) e g))
set_grows inst old new v last key (line.Lo c t w) p q up f b fits sets =
    let e = back_one c fits.some_resource in
    let place : IsBandPlace inst (c - 1) t =
    record { resource = omega (arith, fits.some_resource, fits.resource); from = fits.from; to = fits.to } in
    let above = subst (λ (k : EntryKey). KeyBelow last k) (f ∙ ap (λ (d : ℕ). lo_key d t) (sym e)) b in
    let g = lo_grows inst old last (c - 1) t w p up place fits.some above in
    subst (λ (k : EntryKey). Grows inst old new (line.Lo c t w) k) (sym f)
    (subst (λ (x : PriceList). Grows inst old x (line.Lo c t w) (lo_key c t)) (sym sets)
    (subst (λ (d : ℕ). Grows inst old (with_lo inst old (c - 1) t w) (line.Lo d t w) (lo_key d t)) e g))
set_grows inst old new v last key (line.Tail t weight places) p q up f b fits sets =
    let above = subst (λ (k : EntryKey). KeyBelow last k) f b in
    let g = tail_grows inst old last t (record { weight = weight; places = places }) p up fits.0 fits.1 above in
    subst (λ (k : EntryKey). Grows inst old new (line.Tail t weight places) k) (sym f)
    (subst (λ (x : PriceList). Grows inst old x (line.Tail t weight places) (tail_key t)) (sym sets) g)
set_grows inst old new v last key (line.Ex e t w) p q up f b fits sets =
    let i = back_one e fits.0 in
    let above = subst (λ (k : EntryKey). KeyBelow last k) (f.1 ∙ ap (λ (d : ℕ). ex_key d t) (sym i)) b in
    let g = ex_grows inst old new last (e - 1) t w p q up sets fits.1.some above in
    subst (λ (k : EntryKey). Grows inst old new (line.Ex e t w) k) (sym f.1)
    (subst (λ (d : ℕ). Grows inst old new (line.Ex d t w) (ex_key d t)) i g)
set_grows inst old new v last key line.Tree p q up f b fits sets = absurd f
set_grows inst old new v last key (line.Split i m) p q up f b fits sets = absurd f
set_grows inst old new v last key (line.Cost j) p q up f b fits sets = absurd f
set_grows inst old new v last key line.Point p q up f b fits sets = absurd f
set_grows inst old new v last key (line.Band c t side) p q up f b fits sets = absurd f
set_grows inst old new v last key (line.Excl e) p q up f b fits sets = absurd f
set_grows inst old new v last key (line.Empty i) p q up f b fits sets = absurd f

-- and keeps to the version
pub set_keeps : (inst : Tables) (old new : PriceList) (version : Version) (key : EntryKey) (line : CertificateLine)
    → IsEntry version line key → SetsEntry inst old new line → HasPricesOf version old → HasPricesOf version new
set_keeps inst old new One key (line.Title version) f sets h = absurd f
set_keeps inst old new One key (line.Bound least) f sets h = absurd f
set_keeps inst old new One key (line.Lists count) f sets h = absurd f
set_keeps inst old new One key line.Prices f sets h = absurd f
set_keeps inst old new One key (line.Up c t w) f sets h = ap (λ (x : PriceList). x.ex) sets ∙ h
set_keeps inst old new One key (line.Lo c t w) f sets h = ap (λ (x : PriceList). x.ex) sets ∙ h
set_keeps inst old new One key (line.Tail t weight places) f sets h = ap (λ (x : PriceList). x.ex) sets ∙ h
set_keeps inst old new One key (line.Ex e t w) f sets h = absurd (let z : ⊥ = cc (f.0) in z)
set_keeps inst old new One key line.Tree f sets h = absurd f
set_keeps inst old new One key (line.Split i m) f sets h = absurd f
set_keeps inst old new One key (line.Cost j) f sets h = absurd f
set_keeps inst old new One key line.Point f sets h = absurd f
set_keeps inst old new One key (line.Band c t side) f sets h = absurd f
set_keeps inst old new One key (line.Excl e) f sets h = absurd f
set_keeps inst old new One key (line.Empty i) f sets h = absurd f
set_keeps inst old new Two key line f sets h = tt

pub entries_none : (inst : Tables) (version : Version) (left : Left) (prices : PriceList) → prices ≡ zero_list inst
    → IsPriceList inst prices → ReadsEntries inst version left prices before_entries left
entries_none inst version left prices e p = record {
  passes = λ count more. subst
      (λ (ls : List CertificateLine). Passes inst (lists version count more (Some before_entries)) left ls
      (lists version count more (Some before_entries)) left) (sym (ap (entry_lines inst) e ∙ zero_has_none inst))
      (passes_none inst (lists version count more (Some before_entries)) left);
  in_range = p;
  has_prices = no_ex version;
  up_to = subst (λ (x : PriceList). IsUpTo inst x before_entries) (sym e) (zero_up_to inst);
}
  where
    no_ex : (version : Version) → HasPricesOf version prices
    no_ex One = ap (λ (x : PriceList). x.ex) e ∙ zero_ex inst
    no_ex Two = tt

pub entries_more : (inst : Tables) (version : Version) (old now new : Left) (prices changed : PriceList)
    (last key : EntryKey) → ReadsEntries inst version old prices last now
    → ReadsEntry inst version now new prices changed last key → ReadsEntries inst version old changed key new
entries_more inst version old now new prices changed last key u r =
    let grows = set_grows inst prices changed version last key r.entry u.in_range r.in_range u.up_to r.key_is
    r.above r.fits r.sets in
    record {
      passes = λ count left.
          let p = lists version count left (Some last) in
          let q = lists version count left (Some key) in
          let one = passes_line inst p now new r.entry r.reads
          (stands_entry version count left last key r.entry r.key_is r.above)
          (fits_entry inst version count left (Some last) r.entry r.fits) in
          let to = subst (λ (x : Place). Passes inst p now (r.entry ∷ []) x new)
          (after_entry inst version count left last key r.entry r.key_is) one in
          let all = passes_more inst (lists version count left (Some before_entries)) p q old now new
          (entry_lines inst prices) (r.entry ∷ []) (u.passes count left) to in
          subst (λ (ls : List CertificateLine). Passes inst (lists version count left (Some before_entries)) old ls q
          new) (sym grows.lines) all;
      in_range = r.in_range;
      has_prices = set_keeps inst prices changed version key r.entry r.key_is r.sets u.has_prices;
      up_to = grows.up_to;
    }

pub entry_fails : (inst : Tables) (version : Version) (old now : Left) (prices : PriceList) (last : EntryKey)
    (fault : CertFault) → ReadsEntries inst version old prices last now
    → ((count left : ℕ) → Fails inst (lists version count left (Some last)) now fault) → (count left : ℕ)
    → Fails inst (lists version count left (Some before_entries)) old fault
entry_fails inst version old now prices last fault u f count left = fails_behind inst
    (lists version count left (Some before_entries)) (lists version count left (Some last)) old now
    (entry_lines inst prices) fault (u.passes count left) (f count left)

pub below_told : (b : Bool) (P : Type 0) → (IsTrue b → P) × (P → IsTrue b) → b ≡ true → P
below_told b P w e = w.0 e
