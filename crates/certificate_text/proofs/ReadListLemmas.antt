-- Price lists that are read one after another.
use Rattle.std.proofs.Common.{◌≡◌, ℕ, ◌-◌, ◌<◌, refl, sym, ◌∙◌, ap, subst, arith, List, [], ◌∷◌, ◌++◌, length}
use Rattle.std.proofs.Common.{append_assoc, length-append, Option, Some, None}
use Rattle.std.specs.List.{flat_map}
use Rattle.std.proofs.lemmas.List.Elements.{All-nil, All-push}
use Rattle.instance_model.specs.Tables.{Tables}
use Rattle.lagrange_bound.specs.Prices.{PriceList, IsPriceList}
use Rattle.certificate_lines.specs.declared.line.Version.{Version}
use Rattle.certificate_lines.specs.declared.line.CertificateLine.{CertificateLine}
use Rattle.certificate_lines.specs.declared.line.CertificateLine.TheVariants as line
use Rattle.certificate_tree.specs.Ranges.{HasPricesOf}
use Rattle.certificate_tree.specs.Trees.{root_box}
use Rattle.certificate_text.specs.Text.{entry_lines, list_lines}
use Rattle.certificate_text.specs.Grammar.{lists, nodes, EntryKey, Stands, before_entries}
use Rattle.certificate_text.specs.declared.read.fault.CertFault.{CertFault}
use Rattle.certificate_text.specs.read.Lines.{Left}
use Rattle.certificate_text.specs.read.Reading.{ReadsLine, Passes, Fails, IsMark, IsBetween, ReadsAllEntries, ReadsList}
use Rattle.certificate_text.specs.read.Reading.{ReadsLists, ReadsAllLists}
use Rattle.certificate_text.proofs.ReadStepLemmas.{passes_none, passes_more, passes_line, fails_behind}

-- between price lists nothing stands but what begins a list or the tree
pub only_marks : (version : Version) (count left : ℕ) (start : Option EntryKey) (now new : Left)
    (read : CertificateLine) → IsBetween start now → ReadsLine now new read
    → Stands (lists version count left start) read → IsMark read
only_marks v n l (Some last) now new read between r s = between new read r
only_marks v n l None now new (line.Title version) between r s = s
only_marks v n l None now new (line.Bound least) between r s = s
only_marks v n l None now new (line.Lists count) between r s = s
only_marks v n l None now new line.Prices between r s = tt
only_marks v n l None now new (line.Up c t w) between r s = s
only_marks v n l None now new (line.Lo c t w) between r s = s
only_marks v n l None now new (line.Tail t weight places) between r s = s
only_marks v n l None now new (line.Ex e t w) between r s = absurd s.1
only_marks v n l None now new line.Tree between r s = tt
only_marks v n l None now new (line.Split i m) between r s = s
only_marks v n l None now new (line.Cost j) between r s = s
only_marks v n l None now new line.Point between r s = s
only_marks v n l None now new (line.Band c t side) between r s = s
only_marks v n l None now new (line.Excl e) between r s = s
only_marks v n l None now new (line.Empty i) between r s = s

-- where a list is due, only its first line stands
pub only_prices : (version : Version) (count left : ℕ) (start : Option EntryKey) (now new : Left)
    (read : CertificateLine) → IsBetween start now → 0 < left → ReadsLine now new read → (read ≡ line.Prices → ⊥)
    → Stands (lists version count left start) read → ⊥
only_prices v n l start now new read between some r other s =
    at read (only_marks v n l start now new read between r s) other s
  where
    at : (read : CertificateLine) → IsMark read → (read ≡ line.Prices → ⊥) → Stands (lists v n l start) read → ⊥
    at (line.Title version) m other s = absurd m
    at (line.Bound least) m other s = absurd m
    at (line.Lists count) m other s = absurd m
    at line.Prices m other s = other refl
    at (line.Up c t w) m other s = absurd m
    at (line.Lo c t w) m other s = absurd m
    at (line.Tail t weight places) m other s = absurd m
    at (line.Ex e t w) m other s = absurd m
    at line.Tree m other s = omega (arith, some, s)
    at (line.Split i k) m other s = absurd m
    at (line.Cost j) m other s = absurd m
    at line.Point m other s = absurd m
    at (line.Band c t side) m other s = absurd m
    at (line.Excl e) m other s = absurd m
    at (line.Empty i) m other s = absurd m

-- where none is due, only the first line of the tree stands
pub only_tree : (version : Version) (count : ℕ) (start : Option EntryKey) (now new : Left) (read : CertificateLine)
    → IsBetween start now → ReadsLine now new read → (read ≡ line.Tree → ⊥)
    → Stands (lists version count 0 start) read → ⊥
only_tree v n start now new read between r other s = at read (only_marks v n 0 start now new read between r s) other s
  where
    at : (read : CertificateLine) → IsMark read → (read ≡ line.Tree → ⊥) → Stands (lists v n 0 start) read → ⊥
    at (line.Title version) m other s = absurd m
    at (line.Bound least) m other s = absurd m
    at (line.Lists count) m other s = absurd m
    at line.Prices m other s = omega (arith, s)
    at (line.Up c t w) m other s = absurd m
    at (line.Lo c t w) m other s = absurd m
    at (line.Tail t weight places) m other s = absurd m
    at (line.Ex e t w) m other s = absurd m
    at line.Tree m other s = other refl
    at (line.Split i k) m other s = absurd m
    at (line.Cost j) m other s = absurd m
    at line.Point m other s = absurd m
    at (line.Band c t side) m other s = absurd m
    at (line.Excl e) m other s = absurd m
    at (line.Empty i) m other s = absurd m

-- a line that begins a list
pub passes_prices : (inst : Tables) (version : Version) (count left : ℕ) (start : Option EntryKey) (now new : Left)
    (read : CertificateLine) → ReadsLine now new read → read ≡ line.Prices → 0 < left
    → Passes inst (lists version count left start) now (line.Prices ∷ [])
    (lists version count (left - 1) (Some before_entries)) new
passes_prices inst v n l start now new read r e some = passes_line inst (lists v n l start) now new line.Prices
    (subst (λ (x : CertificateLine). ReadsLine now new x) e r) some tt

-- the line that begins the tree
pub passes_tree : (inst : Tables) (version : Version) (count : ℕ) (start : Option EntryKey) (now new : Left)
    (read : CertificateLine) → ReadsLine now new read → read ≡ line.Tree
    → Passes inst (lists version count 0 start) now (line.Tree ∷ []) (nodes count (root_box inst ∷ [])) new
passes_tree inst v n start now new read r e = passes_line inst (lists v n 0 start) now new line.Tree
    (subst (λ (x : CertificateLine). ReadsLine now new x) e r) refl tt

pub list_read : (inst : Tables) (version : Version) (start : Option EntryKey) (old now new : Left)
    (read : CertificateLine) (prices : PriceList) → ReadsLine old now read → read ≡ line.Prices
    → ReadsAllEntries inst version now prices new → ReadsList inst version start old prices new
list_read inst v start old now new read prices r e u = record {
  last = u.last;
  passes = λ count left some. passes_more inst (lists v count left start)
      (lists v count (left - 1) (Some before_entries)) (lists v count (left - 1) (Some u.last)) old now new
      (line.Prices ∷ []) (entry_lines inst prices) (passes_prices inst v count left start old now read r e some)
      (u.entries.passes count (left - 1));
  in_range = u.entries.in_range;
  has_prices = u.entries.has_prices;
  between = u.between;
}

pub list_fails : (inst : Tables) (version : Version) (count left : ℕ) (start : Option EntryKey) (old now : Left)
    (read : CertificateLine) (fault : CertFault) → ReadsLine old now read → read ≡ line.Prices → 0 < left
    → Fails inst (lists version count (left - 1) (Some before_entries)) now fault
    → Fails inst (lists version count left start) old fault
list_fails inst v n l start old now read fault r e some f = fails_behind inst (lists v n l start)
    (lists v n (l - 1) (Some before_entries)) old now (line.Prices ∷ []) fault
    (passes_prices inst v n l start old now read r e some) f

less_none : (n : ℕ) → n ≡ n - 0
less_none n = omega arith

pub lists_none : (inst : Tables) (version : Version) (count : ℕ) (left : Left)
    → ReadsLists inst version count left [] left
lists_none inst v n left = record {
  few = omega arith;
  last = None;
  passes = subst (λ (k : ℕ). Passes inst (lists v n n None) left [] (lists v n k None) left) (less_none n)
      (passes_none inst (lists v n n None) left);
  in_range = All-nil (IsPriceList inst);
  has_prices = All-nil (HasPricesOf v);
  between = tt;
}

flat-push : (inst : Tables) (xs : List PriceList) (x : PriceList)
    → flat_map (list_lines inst) (xs ++ x ∷ []) ≡ flat_map (list_lines inst) xs ++ list_lines inst x
flat-push inst [] x = nil (list_lines inst x)
  where
    nil : (ls : List CertificateLine) → ls ++ [] ≡ ls
    nil [] = refl
    nil (l ∷ ls) = ap (λ (ys : List CertificateLine). l ∷ ys) (nil ls)
flat-push inst (y ∷ ys) x = ap (λ (ls : List CertificateLine). list_lines inst y ++ ls) (flat-push inst ys x)
    ∙ sym (append_assoc (list_lines inst y) (flat_map (list_lines inst) ys) (list_lines inst x))

pub lists_more : (inst : Tables) (version : Version) (count : ℕ) (old now new : Left) (read : List PriceList)
    (prices : PriceList) → ReadsLists inst version count old read now → length read < count
    → ((start : Option EntryKey) → ReadsList inst version start now prices new)
    → ReadsLists inst version count old (read ++ prices ∷ []) new
lists_more inst v n old now new read prices u some r =
    let one = r u.last in
    let left = n - length read in
    let e : left - 1 ≡ n - length (read ++ prices ∷ []) = omega (arith, length-append read (prices ∷ []), some) in
    let all = passes_more inst (lists v n n None) (lists v n left u.last) (lists v n (left - 1) (Some one.last)) old now
    new (flat_map (list_lines inst) read) (list_lines inst prices) u.passes
    (one.passes n left (omega (arith, some))) in
    let flat = subst (λ (ls : List CertificateLine). Passes inst (lists v n n None) old ls
    (lists v n (left - 1) (Some one.last)) new) (sym (flat-push inst read prices)) all in
    record {
      few = omega (arith, length-append read (prices ∷ []), some);
      last = Some one.last;
      passes = subst (λ (k : ℕ). Passes inst (lists v n n None) old (flat_map (list_lines inst) (read ++ prices ∷ []))
          (lists v n k (Some one.last)) new) e flat;
      in_range = All-push (IsPriceList inst) read prices u.in_range one.in_range;
      has_prices = All-push (HasPricesOf v) read prices u.has_prices one.has_prices;
      between = one.between;
    }

pub lists_fail : (inst : Tables) (version : Version) (count : ℕ) (old now : Left) (read : List PriceList)
    (fault : CertFault) → (u : ReadsLists inst version count old read now)
    → Fails inst (lists version count (count - length read) u.last) now fault
    → Fails inst (lists version count count None) old fault
lists_fail inst v n old now read fault u f = fails_behind inst (lists v n n None) (lists v n (n - length read) u.last)
    old now (flat_map (list_lines inst) read) fault u.passes f

-- all lists were read
none_left : (n k : ℕ) → k ≡ n → n - k ≡ 0
none_left n k e = omega (arith, e)

pub lists_end : (inst : Tables) (version : Version) (count : ℕ) (old now new : Left) (read : List PriceList)
    (tree : CertificateLine) → ReadsLists inst version count old read now → length read ≡ count → ReadsLine now new tree
    → tree ≡ line.Tree → ReadsAllLists inst version count old read new
lists_end inst v n old now new read tree u each r e = record {
  each = each;
  passes = passes_more inst (lists v n n None) (lists v n 0 u.last) (nodes n (root_box inst ∷ [])) old now new
      (flat_map (list_lines inst) read) (line.Tree ∷ [])
      (subst (λ (k : ℕ). Passes inst (lists v n n None) old (flat_map (list_lines inst) read) (lists v n k u.last) now)
      (none_left n (length read) each) u.passes)
      (passes_tree inst v n u.last now new tree r e);
  in_range = u.in_range;
  has_prices = u.has_prices;
}

pub lists_fail_end : (inst : Tables) (version : Version) (count : ℕ) (old now : Left) (read : List PriceList)
    (fault : CertFault) → ReadsLists inst version count old read now → length read ≡ count
    → ((start : Option EntryKey) → IsBetween start now → Fails inst (lists version count 0 start) now fault)
    → Fails inst (lists version count count None) old fault
lists_fail_end inst v n old now read fault u each f = lists_fail inst v n old now read fault u
    (subst (λ (k : ℕ). Fails inst (lists v n k u.last) now fault)
    (sym (none_left n (length read) each)) (f u.last u.between))
