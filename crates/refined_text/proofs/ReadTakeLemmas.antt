-- Entries that are taken into a price list, and those that are refused.
use Rattle.std.proofs.Common.{◌≡◌, ℕ, refl, sym, ◌∙◌, ap, subst, List, [], ◌∷◌, ◌++◌, map}
use Rattle.std.proofs.Common.{Option, Some, None, Result, Ok, Err}
use Rattle.std.specs.Option.{IfNone}
use Rattle.std.specs.Result.{IfOk}
use Rattle.std.proofs.lemmas.List.{append-nil, map-append}
use Rattle.instance_model.specs.Tables.{Tables}
use Rattle.lagrange_bound.specs.Prices.{PriceList}
use Rattle.certificate_lines.specs.declared.line.Version.TheVariants.{Two}
use Rattle.certificate_lines.specs.declared.line.CertificateLine.{CertificateLine}
use Rattle.certificate_lines.specs.declared.line.CertificateLine.TheVariants as line
use Rattle.certificate_text.specs.Text.{entry_lines}
use Rattle.certificate_text.specs.Grammar.{EntryKey}
use Rattle.certificate_text.specs.Laws.{Grows}
use Rattle.certificate_text.specs.declared.read.refusal.Refusal.{Refusal}
use Rattle.certificate_text.specs.declared.read.refusal.Refusal.TheVariants.{Misplaced}
use Rattle.certificate_text.specs.read.Reading.{IsMark, IsEntry, SetsEntry}
use Rattle.certificate_text.proofs.ReadEntryLemmas.{stands_entry, after_entry, fits_entry, no_entry}
use Rattle.certificate_text.proofs.ReadEntryLemmas.{set_grows}
use Rattle.refined_text.specs.declared.lines.members.LineMember.{LineMember}
use Rattle.refined_text.specs.declared.lines.line.RefinedLine.{RefinedLine}
use Rattle.refined_text.specs.declared.lines.line.RefinedLine.TheVariants.{Plain, Cap, Group}
use Rattle.refined_text.specs.declared.lines.line.RefinedLine.TheVariants as refined
use Rattle.refined_text.specs.lines.Spelling.{IsPlain}
use Rattle.refined_text.specs.text.Text.{further_lines}
use Rattle.refined_text.specs.grammar.Further.{Further, group_of}
use Rattle.refined_text.specs.grammar.Grammar.{ComesFirst, EndsList, further_after, within}
use Rattle.refined_text.specs.grammar.SoFar.{IsSoFar, list_of}
use Rattle.refined_text.proofs.GrammarEntryLemmas.{nothing_further, caps_grow, groups_of_lines_grow}
use Rattle.refined_text.proofs.GrammarEntryLemmas.{offsets_of_lines_grow, cliques_of_lines_grow}
use Rattle.refined_text.specs.read.Parts.{Part}
use Rattle.refined_text.specs.read.Taking.{RefinedRefuses, among, IsPart, part_lines, TakesEntry, TakesPrice}
use Rattle.refined_text.specs.read.Taking.{TakesCap, TakesGroup, TakesOffset, TakesClique}

-- ---- a price on a limit or an exclusion

comes_first : (a : CertificateLine) (kind : ℕ) → kind ≡ 0 → ComesFirst a kind
comes_first (line.Up c t v) kind e = e
comes_first (line.Lo c t v) kind e = e
comes_first (line.Ex e t v) kind z = z
comes_first _ kind e = tt

entry_ends : (inst : Tables) (f : Further) (a : CertificateLine) (key : EntryKey) → IsEntry Two a key
    → EndsList inst f a
entry_ends inst f line.Prices key e = absurd e
entry_ends inst f line.Tree key e = absurd e
entry_ends inst f _ key e = tt

entry_after : (inst : Tables) (f : Further) (a : CertificateLine) (key : EntryKey) → IsEntry Two a key
    → further_after inst f a ≡ f
entry_after inst f line.Prices key e = absurd e
entry_after inst f line.Tree key e = absurd e
entry_after inst f _ key e = refl

tails_stay : (inst : Tables) (old new : PriceList) (a : CertificateLine) → IsPlain a → SetsEntry inst old new a
    → new.tails ≡ old.tails
tails_stay inst old new (line.Up c t v) plain sets = ap (λ (x : PriceList). x.tails) sets
tails_stay inst old new (line.Lo c t v) plain sets = ap (λ (x : PriceList). x.tails) sets
tails_stay inst old new (line.Tail t weight places) plain sets = absurd plain
tails_stay inst old new (line.Ex e t v) plain sets = sets.tails
tails_stay inst old new _ plain sets = absurd sets

module _ (inst : Tables) (old new : Part) (a : CertificateLine) (s : IsPart inst old) (plain : IsPlain a)
    (t : TakesPrice inst old new a) where
  grows : Grows inst old.prices new.prices a new.last
  grows = set_grows inst old.prices new.prices Two old.last new.last a s.prices t.in_range s.up_to t.is_entry t.above
      t.fits t.sets

  so_far : IsSoFar inst new.prices old.further new.last
  so_far = record {
    prices = t.in_range;
    no_tails = tails_stay inst old.prices new.prices a plain t.sets ∙ s.no_tails;
    up_to = grows.up_to;
    no_cap = s.no_cap;
    no_period = s.no_period;
    to = s.to;
    tails_each = s.tails_each;
    later = s.later;
    tails = s.tails;
    enough = s.enough;
    no_offsets = s.no_offsets;
    offsets = s.offsets;
    offsets_ascend = s.offsets_ascend;
    no_cliques = s.no_cliques;
    few_cliques = s.few_cliques;
    cliques = s.cliques;
    cliques_ascend = s.cliques_ascend;
    members = s.members;
  }

  none : further_lines (list_of old.prices old.further) ≡ []
  none = nothing_further inst old.prices old.further old.last s t.first

  lines : part_lines inst (record new { further = old.further }) ≡ part_lines inst old ++ Plain a ∷ []
  lines =
      ap (λ (ls : List RefinedLine). map Plain (entry_lines inst new.prices) ++ ls) none
      ∙ append-nil (map Plain (entry_lines inst new.prices))
      ∙ ap (λ (ls : List CertificateLine). map Plain ls) grows.lines
      ∙ map-append Plain (entry_lines inst old.prices) (a ∷ [])
      ∙ ap (λ (ls : List RefinedLine). ls ++ Plain a ∷ []) (sym (append-nil (map Plain (entry_lines inst old.prices))))
      ∙ ap (λ (ls : List RefinedLine). (map Plain (entry_lines inst old.prices) ++ ls) ++ Plain a ∷ []) (sym none)

  pub price_taken : TakesEntry inst old new (Plain a)
  price_taken = record {
    stands = λ count left. (
      plain,
      stands_entry Two count left old.last new.last a t.is_entry t.above,
      comes_first a old.further.kind t.first,
    );
    fits = λ count left. (
      fits_entry inst Two count left (Some old.last) a t.fits,
      entry_ends inst old.further a new.last t.is_entry,
    );
    after = λ count left.
        let here = after_entry inst Two count left old.last new.last a t.is_entry in
        let besides = entry_after inst old.further a new.last t.is_entry ∙ sym t.same in
        λ i. within (here i) (besides i);
    lines = subst (λ (f : Further). part_lines inst (record new { further = f }) ≡ part_lines inst old ++ Plain a ∷ [])
        (sym t.same) lines;
    so_far = subst (λ (f : Further). IsSoFar inst new.prices f new.last) (sym t.same) so_far;
  }

-- a line that is no entry, and begins neither a list nor the tree
pub no_price : (inst : Tables) (part : Part) (a : CertificateLine) (count left : ℕ) → (IsMark a → ⊥)
    → ((key : EntryKey) → IsEntry Two a key → ⊥) → RefinedRefuses inst (among count left part) (Plain a) Misplaced
no_price inst part a count left unmarked none = λ s. no_entry Two count left part.last a unmarked none s.1

-- ---- entries of version 3's own

module _ (inst : Tables) (old new : Part) (s : IsPart inst old) where
  pub cap_taken : TakesCap old new → TakesEntry inst old new Cap
  cap_taken t =
      let g = caps_grow inst old.prices old.further old.last s t.first in
      subst (λ (x : Part). TakesEntry inst old x Cap) (sym t.is)
      (record {
        stands = λ count left. (tt, t.first);
        fits = λ count left. tt;
        after = λ count left. refl;
        lines = g.lines;
        so_far = g.so_far;
      })

  pub group_taken : (p : ℕ) (ms : List LineMember) → TakesGroup inst old new p (group_of ms)
      → TakesEntry inst old new (Group p ms)
  group_taken p ms t =
      let g = groups_of_lines_grow inst old.prices old.further old.last p ms s t.next t.fits in
      subst (λ (x : Part). TakesEntry inst old x (Group p ms)) (sym t.is)
      (record {
        stands = λ count left. (tt, t.next);
        fits = λ count left. t.fits;
        after = λ count left. refl;
        lines = g.lines;
        so_far = g.so_far;
      })

  pub offset_taken : (p i g v : ℕ) → TakesOffset inst old new p i g v
      → TakesEntry inst old new (refined.Offset p i g v)
  offset_taken p i g v t =
      let w = offsets_of_lines_grow inst old.prices old.further old.last p i g v s t.next t.fits in
      subst (λ (x : Part). TakesEntry inst old x (refined.Offset p i g v)) (sym t.is)
      (record {
        stands = λ count left. (tt, t.next);
        fits = λ count left. t.fits;
        after = λ count left. refl;
        lines = w.lines;
        so_far = w.so_far;
      })

  pub clique_taken : (p v : ℕ) (ms : List ℕ) → TakesClique inst old new p v ms
      → TakesEntry inst old new (refined.Clique p v ms)
  clique_taken p v ms t =
      let g = cliques_of_lines_grow inst old.prices old.further old.last p v ms s t.next t.fits in
      subst (λ (x : Part). TakesEntry inst old x (refined.Clique p v ms)) (sym t.is)
      (record {
        stands = λ count left. (tt, t.next);
        fits = λ count left. t.fits;
        after = λ count left. refl;
        lines = g.lines;
        so_far = g.so_far;
      })

-- ---- what was told of a line

pub taken_as : {E : Type 0} (told : Result (Option Refusal) E) (P Q : Type 0) → (P → Q)
    → IfOk told (λ o. IfNone o P) → IfOk told (λ o. IfNone o Q)
taken_as (Ok None) P Q f h = f h
taken_as (Ok (Some refusal)) P Q f h = tt
taken_as (Err e) P Q f h = tt

pub none_as : (told : Option Refusal) (P Q : Type 0) → (P → Q) → IfNone told P → IfNone told Q
none_as None P Q f h = f h
none_as (Some refusal) P Q f h = tt
