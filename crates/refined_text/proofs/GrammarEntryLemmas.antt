-- The lines of a list that an entry of version 3 is taken into.
use Rattle.std.proofs.Common.{◌≡◌, ℕ, ◌+◌, ◌-◌, ◌≤◌, refl, sym, ◌∙◌, ap, subst, arith}
use Rattle.std.proofs.Common.{List, [], ◌∷◌, ◌++◌, map, get_or, None, append_assoc}
use Rattle.std.specs.List.{All}
use Rattle.std.proofs.lemmas.List.{append-nil, map-append}
use Rattle.instance_model.specs.Tables.{Tables}
use Rattle.lagrange_bound.specs.Prices.{PriceList}
use Rattle.refined_prices.specs.declared.member.Member.{Member}
use Rattle.refined_prices.specs.declared.offset.Offset.{Offset}
use Rattle.refined_prices.specs.declared.clique.Clique.{Clique}
use Rattle.certificate_text.specs.Text.{entry_lines}
use Rattle.certificate_text.specs.Grammar.{EntryKey}
use Rattle.certificate_text.proofs.KeyLemmas.{less_one}
use Rattle.refined_text.specs.declared.lines.members.LineMember.{LineMember}
use Rattle.refined_text.specs.declared.lines.line.RefinedLine.{RefinedLine}
use Rattle.refined_text.specs.declared.lines.line.RefinedLine.TheVariants.{Plain, Cap, Group}
use Rattle.refined_text.specs.declared.lines.line.RefinedLine.TheVariants as refined
use Rattle.refined_text.specs.text.Text.{line_member, group_line, group_lines, cap_lines, offset_line, clique_line}
use Rattle.refined_text.specs.text.Text.{further_lines, refined_entry_lines}
use Rattle.refined_text.specs.grammar.Further.{Further, group_of, with_group_at, with_cap, with_group_of, with_offset}
use Rattle.refined_text.specs.grammar.Further.{with_clique, offset_of_line, clique_of_line, IsNextGroup, GroupFits}
use Rattle.refined_text.proofs.GrammarValueLemmas.{members_back}
use Rattle.refined_text.specs.grammar.SoFar.{IsSoFar, list_of}
use Rattle.refined_text.specs.grammar.Laws.{CapGrows, GroupGrows, OffsetGrows, CliqueGrows, ListsEnd}
use Rattle.refined_text.proofs.GrammarSoFarLemmas.{cap_so_far, group_so_far, offset_so_far, clique_so_far}
use Rattle.refined_text.proofs.GrammarSoFarLemmas.{list_in_range}
use Rattle.refined_text.proofs.GrammarSoFarLemmas.{list_in_order}
use Rattle.refined_text.proofs.GrammarGrowLemmas.{no_groups, groups_grow}

-- ---- parts of lists that grow at the end

-- the last part grows
behind : {A : Type 0} (front new old : List A) (x : A) → new ≡ old ++ x ∷ [] → front ++ new ≡ (front ++ old) ++ x ∷ []
behind {A = A} front new old x e = ap (λ (ys : List A). front ++ ys) e ∙ sym (append_assoc front old (x ∷ []))

-- a part grows behind which nothing is
before_nothing : {A : Type 0} (new old rest : List A) (x : A) → new ≡ old ++ x ∷ [] → rest ≡ []
    → new ++ rest ≡ (old ++ rest) ++ x ∷ []
before_nothing {A = A} new old rest x e none =
    ap (λ (ys : List A). new ++ ys) none ∙ append-nil new ∙ e
    ∙ ap (λ (ys : List A). ys ++ x ∷ []) (sym (ap (λ (ys : List A). old ++ ys) none ∙ append-nil old))

two_none : {A : Type 0} (xs ys : List A) → xs ≡ [] → ys ≡ [] → xs ++ ys ≡ []
two_none {A = A} xs ys e f = ap (λ (zs : List A). zs ++ ys) e ∙ f

module _ (inst : Tables) (p : PriceList) (f : Further) (last : EntryKey) (s : IsSoFar inst p f last) where
  abbrev groups : List RefinedLine
  groups = group_lines 1 f.tails

  abbrev offsets : List RefinedLine
  offsets = map offset_line f.offsets

  abbrev cliques : List RefinedLine
  cliques = map clique_line f.cliques

  abbrev plain : List RefinedLine
  plain = map Plain (entry_lines inst p)

  none_of_groups : f.kind ≡ 0 → groups ≡ []
  none_of_groups first =
      let early = s.no_period (omega (arith, first)) in
      no_groups 1 f.tails (λ i l. ap (λ (k : ℕ). get_or f.tails k None) (sym (less_one i))
      ∙ s.later (i + 1) (omega (arith, early)))

  no_offset_lines : f.kind ≤ 2 → offsets ≡ []
  no_offset_lines l = ap (λ (xs : List Offset). map offset_line xs) (s.no_offsets l)

  no_clique_lines : f.kind ≤ 3 → cliques ≡ []
  no_clique_lines l = ap (λ (xs : List Clique). map clique_line xs) (s.no_cliques l)

  -- no entry of version 3's own was read
  pub nothing_further : f.kind ≡ 0 → further_lines (list_of p f) ≡ []
  nothing_further first =
      two_none (cap_lines f.capped) _ (ap cap_lines (s.no_cap first))
      (two_none groups _ (none_of_groups first)
      (two_none offsets cliques (no_offset_lines (omega (arith, first))) (no_clique_lines (omega (arith, first)))))

  pub cap_grows : f.kind ≡ 0
      → refined_entry_lines inst (list_of p (with_cap f)) ≡ refined_entry_lines inst (list_of p f) ++ Cap ∷ []
  cap_grows first =
      let rest : groups ++ (offsets ++ cliques) ≡ [] = two_none groups _ (none_of_groups first)
      (two_none offsets cliques (no_offset_lines (omega (arith, first))) (no_clique_lines (omega (arith, first)))) in
      behind plain (further_lines (list_of p (with_cap f))) (further_lines (list_of p f)) Cap
      (ap (λ (ls : List RefinedLine). Cap ∷ ls) rest
      ∙ ap (λ (ls : List RefinedLine). ls ++ Cap ∷ []) (sym (nothing_further first)))

  pub group_grows : (t : ℕ) (g : List Member) → IsNextGroup f t g → GroupFits inst f t g
      → refined_entry_lines inst (list_of p (with_group_of f t g))
      ≡ refined_entry_lines inst (list_of p f) ++ group_line t g ∷ []
  group_grows t g next fit =
      let each = s.tails_each in
      let from = fit.from in
      let to = fit.to in
      let low = next.period in
      let place : 1 + (t - 1) ≡ t = omega (arith, from) in
      let grown : group_lines 1 (with_group_at f.tails t g) ≡ groups ++ group_line t g ∷ [] =
      groups_grow 1 f.tails (t - 1) g (omega (arith, each, from, to))
      (λ i h l. ap (λ (k : ℕ). get_or f.tails k None) (sym (less_one i))
      ∙ s.later (i + 1) (omega (arith, low, h, from)))
      ∙ ap (λ (u : ℕ). groups ++ group_line u g ∷ []) place in
      behind plain (further_lines (list_of p (with_group_of f t g))) (further_lines (list_of p f)) (group_line t g)
      (behind (cap_lines f.capped) (group_lines 1 (with_group_at f.tails t g) ++ (offsets ++ cliques))
      (groups ++ (offsets ++ cliques)) (group_line t g)
      (before_nothing (group_lines 1 (with_group_at f.tails t g)) groups (offsets ++ cliques) (group_line t g) grown
      (two_none offsets cliques (no_offset_lines next.kind)
      (no_clique_lines (let k = next.kind in omega (arith, k))))))

  pub offset_grows : (x : Offset) → f.kind ≤ 3
      → refined_entry_lines inst (list_of p (with_offset f x))
      ≡ refined_entry_lines inst (list_of p f) ++ offset_line x ∷ []
  offset_grows x low =
      behind plain (further_lines (list_of p (with_offset f x))) (further_lines (list_of p f)) (offset_line x)
      (behind (cap_lines f.capped) (groups ++ (map offset_line (f.offsets ++ x ∷ []) ++ cliques))
      (groups ++ (offsets ++ cliques)) (offset_line x)
      (behind groups (map offset_line (f.offsets ++ x ∷ []) ++ cliques) (offsets ++ cliques) (offset_line x)
      (before_nothing (map offset_line (f.offsets ++ x ∷ [])) offsets cliques (offset_line x)
      (map-append offset_line f.offsets (x ∷ [])) (no_clique_lines low))))

  pub clique_grows : (x : Clique) → refined_entry_lines inst (list_of p (with_clique f x))
      ≡ refined_entry_lines inst (list_of p f) ++ clique_line x ∷ []
  clique_grows x =
      behind plain (further_lines (list_of p (with_clique f x))) (further_lines (list_of p f)) (clique_line x)
      (behind (cap_lines f.capped) (groups ++ (offsets ++ map clique_line (f.cliques ++ x ∷ [])))
      (groups ++ (offsets ++ cliques)) (clique_line x)
      (behind groups (offsets ++ map clique_line (f.cliques ++ x ∷ [])) (offsets ++ cliques) (clique_line x)
      (behind offsets (map clique_line (f.cliques ++ x ∷ [])) cliques (clique_line x)
      (map-append clique_line f.cliques (x ∷ [])))))

-- ---- lines, from the numbers that they have

pub group_back : (ms : List LineMember) → map line_member (group_of ms) ≡ ms
group_back [] = refl
group_back (x ∷ xs) = ap (λ (ys : List LineMember). x ∷ ys) (group_back xs)

pub offset_back : (t i g v : ℕ) → 1 ≤ i → 1 ≤ g → offset_line (offset_of_line t i g v) ≡ refined.Offset t i g v
offset_back t i g v some one =
    let a : i - 1 + 1 ≡ i = omega (arith, some) in
    let b : g - 1 + 1 ≡ g = omega (arith, one) in
    λ j. refined.Offset t (a j) (b j) v

pub clique_back : (t v : ℕ) (ms : List ℕ) → All (λ i. 1 ≤ i) ms
    → clique_line (clique_of_line t v ms) ≡ refined.Clique t v ms
clique_back t v ms some = ap (λ (xs : List ℕ). refined.Clique t v xs) (members_back ms some)

-- ---- the laws

pub caps_grow : CapGrows
caps_grow inst p f last s first =
    record { lines = cap_grows inst p f last s first; so_far = cap_so_far inst p f last s first }

pub groups_of_lines_grow : GroupGrows
groups_of_lines_grow inst p f last t ms s next fit = record {
  lines = subst (λ (xs : List LineMember). refined_entry_lines inst (list_of p (with_group_of f t (group_of ms)))
      ≡ refined_entry_lines inst (list_of p f) ++ refined.Group t xs ∷ []) (group_back ms)
      (group_grows inst p f last s t (group_of ms) next fit);
  so_far = group_so_far inst p f last s t (group_of ms) next fit;
}

pub offsets_of_lines_grow : OffsetGrows
offsets_of_lines_grow inst p f last t i g v s next fit = record {
  lines = subst (λ (l : RefinedLine). refined_entry_lines inst (list_of p (with_offset f (offset_of_line t i g v)))
      ≡ refined_entry_lines inst (list_of p f) ++ l ∷ [])
      (offset_back t i g v fit.some_intervention fit.some_group)
      (offset_grows inst p f last s (offset_of_line t i g v) next.kind);
  so_far = offset_so_far inst p f last s t i g v next fit;
}

pub cliques_of_lines_grow : CliqueGrows
cliques_of_lines_grow inst p f last t v ms s next fit = record {
  lines = subst (λ (l : RefinedLine). refined_entry_lines inst (list_of p (with_clique f (clique_of_line t v ms)))
      ≡ refined_entry_lines inst (list_of p f) ++ l ∷ []) (clique_back t v ms fit.numbers)
      (clique_grows inst p f last s (clique_of_line t v ms));
  so_far = clique_so_far inst p f last s t v ms next fit;
}

pub lists_end : ListsEnd
lists_end inst p f last s enough = (list_in_range inst p f last s enough, list_in_order inst p f last s enough)
