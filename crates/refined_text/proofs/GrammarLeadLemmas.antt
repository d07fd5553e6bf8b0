-- The lines of a certificate in range lead from the first line to the end.
use Rattle.std.proofs.Common.{◌≡◌, ℕ, zero, suc, ◌+◌, ◌-◌, ◌<◌, ◌≤◌, refl, sym, ◌∙◌, ap, subst, arith, Bool, true}
use Rattle.std.proofs.Common.{false, List, [], ◌∷◌, ◌++◌, length, map, get_or, replicate, Option, Some, None}
use Rattle.std.proofs.Common.{append_assoc}
use Rattle.std.specs.List.{All, AllPairs, AllByRecursion, flat_map}
use Rattle.std.proofs.lemmas.List.{append-nil, length-append, length-map}
use Rattle.std.proofs.lemmas.List.Elements.{recursion_from_All, All-weaker, All-nil, All-map}
use Rattle.instance_model.specs.Tables.{Tables, scenarios_of, rank_of}
use Rattle.instance_model.specs.Fitting.{IsFitting}
use Rattle.instance_model.proofs.FitLemmas.{rank_of_from}
use Rattle.lagrange_bound.specs.declared.tail.Tail.{Tail}
use Rattle.lagrange_bound.specs.Prices.{PriceList}
use Rattle.refined_prices.specs.declared.member.Member.{Member}
use Rattle.refined_prices.specs.declared.group_tail.GroupTail.{GroupTail}
use Rattle.refined_prices.specs.declared.offset.Offset.{Offset}
use Rattle.refined_prices.specs.declared.clique.Clique.{Clique}
use Rattle.refined_prices.specs.Groups.{weight_in, IsGroup, AreDisjoint, IsGroupTail}
use Rattle.refined_prices.specs.Offsets.{group_tail_at, IsOffset, OffsetBefore}
use Rattle.refined_prices.specs.Cliques.{IsPricedClique, CliqueBefore}
use Rattle.refined_prices.specs.RefinedLists.{RefinedList, IsRefinedList}
use Rattle.certificate_lines.specs.declared.line.Version.TheVariants.{Two}
use Rattle.certificate_lines.specs.declared.line.CertificateLine.TheVariants as line
use Rattle.certificate_tree.specs.declared.node.Node.{Node}
use Rattle.certificate_tree.specs.declared.node.Node.TheVariants as node
use Rattle.certificate_tree.specs.Trees.{Tree, root_box}
use Rattle.certificate_text.specs.Text.{limit_lines, tail_lines, entry_lines, node_line, tree_lines}
use Rattle.certificate_text.specs.Grammar.{EntryKey, before_entries, Place, lists, nodes, Leads}
use Rattle.certificate_text.proofs.TailLemmas.{no_tails}
use Rattle.certificate_text.proofs.TellLemmas.{each_append, limits_each, ex_each}
use Rattle.certificate_text.proofs.LeadLemmas.{entries_lead, tree_leads}
use Rattle.refined_check.specs.certificate.Orders.{GroupBefore, AreGroupsInOrder, IsInOrder}
use Rattle.refined_text.specs.declared.lines.line.RefinedLine.{RefinedLine}
use Rattle.refined_text.specs.declared.lines.line.RefinedLine.TheVariants.{Plain}
use Rattle.refined_text.specs.text.Text.{group_line, group_lines, cap_lines, offset_line, clique_line}
use Rattle.refined_text.specs.text.Text.{further_lines, refined_entry_lines, refined_list_lines}
use Rattle.refined_text.specs.grammar.Further.{Further, no_further, groups_of, with_group}
use Rattle.refined_text.specs.grammar.Further.{HasEnough, IsNextGroup, GroupFits}
use Rattle.refined_text.specs.grammar.Further.{OffsetBelow, CliqueBelow, with_group_of}
use Rattle.refined_text.specs.grammar.Grammar.{within, HasBegun, RefinedLeads}
use Rattle.refined_text.specs.grammar.Laws.{RefinedTextsLead}
use Rattle.refined_text.proofs.GrammarPlaceLemmas.{goes_append, IsInside, inside_goes}
use Rattle.refined_text.proofs.GrammarValueLemmas.{pairs_before, tail_seam, group_seam, group_again, offset_again}
use Rattle.refined_text.proofs.GrammarValueLemmas.{offset_below, clique_again, clique_below}

-- what has been read, by its parts
abbrev pub read_so_far : (kind period : ℕ) → Bool → List (Option GroupTail) → List Offset → List Clique → Further
read_so_far kind period capped tails offsets cliques =
    record {
      kind = kind;
      period = period;
      capped = capped;
      tails = tails;
      offsets = offsets;
      cliques = cliques;
    }

-- no tails
abbrev nones : ℕ → List (Option GroupTail)
nones n = replicate n None

module _ (inst : Tables) (place : Place) (begun : HasBegun place) where
  -- lines lead on from what has been read to more
  abbrev pub Goes : Further → List RefinedLine → Further → Type 0
  Goes old lines new = RefinedLeads inst (within place old) lines (within place new)

  goes_on : (f g h : Further) (xs ys : List RefinedLine) → Goes f xs g → Goes g ys h → Goes f (xs ++ ys) h
  goes_on f g h xs ys a b = goes_append inst (within place f) (within place g) (within place h) xs ys a b

  -- ---- the cap

  record CapRead (b : Bool) : Type 0 where
    kind : ℕ
    low : kind ≤ 2
    goes : Goes (no_further inst) (cap_lines b) (read_so_far kind 0 b (nones inst.periods) [] [])

  cap_goes : (b : Bool) → CapRead b
  cap_goes true = record { kind = 1; low = omega arith; goes = ((begun, refl), tt, refl) }
  cap_goes false = record { kind = 0; low = omega arith; goes = refl }

  -- ---- groups

  one_group : (f new : Further) (t : ℕ) (group : List Member) → IsNextGroup f t group → GroupFits inst f t group
      → with_group_of f t group ≡ new → Goes f (group_line t group ∷ []) new
  one_group f new t group next fits e =
      let same = group_again group in (
        (begun, subst (IsNextGroup f t) (sym same) next),
        subst (GroupFits inst f t) (sym same) fits,
        ap (λ (g : List Member). within place (with_group_of f t g)) same
            ∙ ap (λ (x : Further). within place x) e,
      )

  -- a group behind the others of its period
  module _ (b : Bool) (done more : List (Option GroupTail)) (x : Option GroupTail) (group : List Member) (k p : ℕ)
      (low : k ≤ 2) (early : p ≤ length done + 1) (here : length done < inst.periods) where
    abbrev here_before : Further
    here_before = read_so_far k p b (done ++ x ∷ more) [] []

    abbrev here_behind : Further
    here_behind = read_so_far 2 (length done + 1) b (done ++ Some (with_group x group) ∷ more) [] []

    group_goes : All (λ other. GroupBefore other group) (groups_of x) → 1 ≤ (with_group x group).weight
        → (with_group x group).weight ≤ 1000
        → IsGroup (scenarios_of inst (length done + 1)) (with_group x group).weight group
        → All (λ other. AreDisjoint other group) (groups_of x)
        → ((p ≡ length done + 1 → ⊥) → HasEnough inst (done ++ x ∷ more) p)
        → Goes here_before (group_line (length done + 1) group ∷ []) here_behind
    group_goes above some small own apart closed =
        let e = sym (tail_seam done x more) in
        let t : ℕ = length done + 1 in
        one_group here_before here_behind t group
        (record {
          kind = low;
          period = early;
          above = subst (λ (o : Option GroupTail). All (λ other. GroupBefore other group) (groups_of o)) e above;
        })
        (record {
          from = omega arith;
          to = omega (arith, here);
          some_weight = subst (λ (o : Option GroupTail). 1 ≤ (with_group o group).weight) e some;
          small_weight = subst (λ (o : Option GroupTail). (with_group o group).weight ≤ 1000) e small;
          own = subst (λ (o : Option GroupTail). IsGroup (scenarios_of inst t) (with_group o group).weight group) e
              own;
          apart = subst (λ (o : Option GroupTail). All (λ other. AreDisjoint other group) (groups_of o)) e apart;
          closed = closed;
        })
        (ap (λ (tails : List (Option GroupTail)). read_so_far 2 t b tails [] []) (group_seam done x more group))

  -- all further groups of a period
  module _ (b : Bool) (done more : List (Option GroupTail)) (w : ℕ) (here : length done < inst.periods) (some : 1 ≤ w)
      (small : w ≤ 1000) where
    abbrev with_groups : List (List Member) → Further
    with_groups gs =
        read_so_far 2 (length done + 1) b (done ++ Some (record { weight = w; groups = gs }) ∷ more) [] []

    groups_go : (read rest : List (List Member))
        → AllByRecursion (IsGroup (scenarios_of inst (length done + 1)) w) rest → AllPairs GroupBefore (read ++ rest)
        → AllPairs AreDisjoint (read ++ rest)
        → Goes (with_groups read) (map (group_line (length done + 1)) rest) (with_groups (read ++ rest))
    groups_go read [] each order apart =
        ap (λ (gs : List (List Member)). within place (with_groups gs)) (sym (append-nil read))
    groups_go read (g ∷ rest) each order apart =
        let join = append_assoc read (g ∷ []) rest in
        let one = group_goes b done more (Some (record { weight = w; groups = read })) g 2 (length done + 1)
        (omega arith) (omega arith) here (pairs_before GroupBefore read rest g order) some small each.0
        (pairs_before AreDisjoint read rest g apart) (λ f. absurd (f refl)) in
        let later = groups_go (read ++ g ∷ []) rest each.1 (subst (AllPairs GroupBefore) (sym join) order)
        (subst (AllPairs AreDisjoint) (sym join) apart) in
        goes_on (with_groups read) (with_groups (read ++ g ∷ [])) (with_groups (read ++ g ∷ rest))
        (group_line (length done + 1) g ∷ []) (map (group_line (length done + 1)) rest) one
        (subst (λ (gs : List (List Member)). Goes (with_groups (read ++ g ∷ []))
        (map (group_line (length done + 1)) rest) (with_groups gs)) join later)

  -- ---- tails

  -- lines were read up to all tails
  record TailsRead (b : Bool) (old : Further) (lines : List RefinedLine)
      (tails : List (Option GroupTail)) : Type 0 where
    kind : ℕ
    period : ℕ
    low : kind ≤ 2
    enough : HasEnough inst tails period
    goes : Goes old lines (read_so_far kind period b tails [] [])

  -- a tail in range, with its groups in order, all lines of one period
  module _ (b : Bool) (done more : List (Option GroupTail)) (k p : ℕ) (low : k ≤ 2) (early : p ≤ length done)
      (here : length done < inst.periods) where
    tail_goes : (w : ℕ) (groups : List (List Member))
        → IsGroupTail (scenarios_of inst (length done + 1)) (rank_of inst (length done + 1))
        (record { weight = w; groups = groups }) → AllPairs GroupBefore groups
        → rank_of inst (length done + 1) ≤ scenarios_of inst (length done + 1)
        → HasEnough inst (done ++ None ∷ more) p
        → Goes (read_so_far k p b (done ++ None ∷ more) [] []) (map (group_line (length done + 1)) groups)
        (read_so_far 2 (length done + 1) b (done ++ Some (record { weight = w; groups = groups }) ∷ more) [] [])
    tail_goes w [] ok order few closed = absurd (let e = ok.enough in omega (arith, e, few))
    tail_goes w (g ∷ rest) ok order few closed =
        let t : ℕ = length done + 1 in
        let each = recursion_from_All (IsGroup (scenarios_of inst t) w) (g ∷ rest) ok.groups in
        let sum : weight_in g ≡ w = each.0.adds_up in
        let one = group_goes b done more None g k p low (omega (arith, early)) here
        (All-nil (λ other. GroupBefore other g)) (subst (λ (v : ℕ). 1 ≤ v) (sym sum) ok.some_weight)
        (subst (λ (v : ℕ). v ≤ 1000) (sym sum) ok.small_weight)
        (subst (λ (v : ℕ). IsGroup (scenarios_of inst t) v g) (sym sum) each.0)
        (All-nil (λ other. AreDisjoint other g)) (λ f. closed) in
        let first = subst (λ (v : ℕ). Goes (read_so_far k p b (done ++ None ∷ more) [] []) (group_line t g ∷ [])
        (read_so_far 2 t b (done ++ Some (record { weight = v; groups = g ∷ [] }) ∷ more) [] [])) sum one in
        let later = groups_go b done more w here ok.some_weight ok.small_weight (g ∷ []) rest each.1 order ok.apart in
        goes_on (read_so_far k p b (done ++ None ∷ more) [] [])
        (read_so_far 2 t b (done ++ Some (record { weight = w; groups = g ∷ [] }) ∷ more) [] [])
        (read_so_far 2 t b (done ++ Some (record { weight = w; groups = g ∷ rest }) ∷ more) [] [])
        (group_line t g ∷ []) (map (group_line t) rest) first later

  -- each of these tails is in range for its period, where n are before them
  abbrev TailsFit : ℕ → List (Option GroupTail) → Type 0
  TailsFit n rest =
      (i : ℕ) (tail : GroupTail) → i < length rest → get_or rest i None ≡ Some tail
      → IsGroupTail (scenarios_of inst (n + 1 + i)) (rank_of inst (n + 1 + i)) tail

  next_fit : (n : ℕ) (x : Option GroupTail) (rest : List (Option GroupTail)) → TailsFit n (x ∷ rest)
      → TailsFit (n + 1) rest
  next_fit n x rest fit i tail h e =
      let f : n + 1 + suc i ≡ n + 1 + 1 + i = omega arith in
      subst (λ (u : ℕ). IsGroupTail (scenarios_of inst u) (rank_of inst u) tail) f
      (fit (suc i) tail (omega (arith, h)) e)

  own_fit : (n : ℕ) (tail : GroupTail) (rest : List (Option GroupTail)) → TailsFit n (Some tail ∷ rest)
      → IsGroupTail (scenarios_of inst (n + 1)) (rank_of inst (n + 1)) tail
  own_fit n tail rest fit =
      let f : n + 1 + 0 ≡ n + 1 = omega arith in
      subst (λ (u : ℕ). IsGroupTail (scenarios_of inst u) (rank_of inst u) tail) f (fit 0 tail (omega arith) refl)

  tails_go : IsFitting inst → (b : Bool) (done rest : List (Option GroupTail)) (k p : ℕ) → k ≤ 2 → p ≤ length done
      → length done + length rest ≤ inst.periods → TailsFit (length done) rest
      → AllByRecursion AreGroupsInOrder rest → HasEnough inst (done ++ nones (length rest)) p
      → TailsRead b (read_so_far k p b (done ++ nones (length rest)) [] []) (group_lines (length done + 1) rest)
      (done ++ rest)
  unfolding group_lines
  tails_go fits b done [] k p low early few fit order enough =
      record { kind = k; period = p; low = low; enough = enough; goes = refl }
  tails_go fits b done (None ∷ rest) k p low early few fit order enough =
      let long = length-append done (None ∷ []) in
      let n : length (done ++ None ∷ []) ≡ length done + 1 = omega (arith, long) in
      let join = append_assoc done (None ∷ []) (nones (length rest)) in
      let whole = append_assoc done (None ∷ []) rest in
      let later = tails_go fits b (done ++ None ∷ []) rest k p low (omega (arith, early, n)) (omega (arith, few, n))
      (subst (λ (m : ℕ). TailsFit m rest) (sym n) (next_fit (length done) None rest fit)) order.1
      (subst (λ (ts : List (Option GroupTail)). HasEnough inst ts p) (sym join) enough) in
      let at = subst (λ (m : ℕ). TailsRead b
      (read_so_far k p b ((done ++ None ∷ []) ++ nones (length rest)) [] []) (group_lines (m + 1) rest)
      ((done ++ None ∷ []) ++ rest)) n later in
      let from = subst (λ (ts : List (Option GroupTail)). TailsRead b (read_so_far k p b ts [] [])
      (group_lines (length done + 1 + 1) rest) ((done ++ None ∷ []) ++ rest)) join at in
      subst (λ (ts : List (Option GroupTail)). TailsRead b
      (read_so_far k p b (done ++ None ∷ nones (length rest)) [] [])
      (group_lines (length done + 1 + 1) rest) ts) whole from
  tails_go fits b done (Some tail ∷ rest) k p low early few fit order enough =
      let t : ℕ = length done + 1 in
      let long = length-append done (Some tail ∷ []) in
      let n : length (done ++ Some tail ∷ []) ≡ length done + 1 = omega (arith, long) in
      let join = append_assoc done (Some tail ∷ []) (nones (length rest)) in
      let whole = append_assoc done (Some tail ∷ []) rest in
      let here : length done < inst.periods = omega (arith, few) in
      let own = own_fit (length done) tail rest fit in
      let rank = rank_of_from inst t fits (omega arith) (omega (arith, here)) in
      let first = tail_goes b done (nones (length rest)) k p low early here tail.weight tail.groups own order.0 rank.1
      enough in
      let full : HasEnough inst (done ++ Some tail ∷ nones (length rest)) t =
      λ other e. subst (λ (x : GroupTail). scenarios_of inst t + 1 ≤ length x.groups + rank_of inst t)
      (some_same tail other (sym (tail_seam done (Some tail) (nones (length rest))) ∙ e)) own.enough in
      let later = tails_go fits b (done ++ Some tail ∷ []) rest 2 t (omega arith) (omega (arith, n))
      (omega (arith, few, n)) (subst (λ (m : ℕ). TailsFit m rest) (sym n) (next_fit (length done) (Some tail) rest fit))
      order.1 (subst (λ (ts : List (Option GroupTail)). HasEnough inst ts t) (sym join) full) in
      let at = subst (λ (m : ℕ). TailsRead b
      (read_so_far 2 t b ((done ++ Some tail ∷ []) ++ nones (length rest)) [] []) (group_lines (m + 1) rest)
      ((done ++ Some tail ∷ []) ++ rest)) n later in
      let from = subst (λ (ts : List (Option GroupTail)). TailsRead b (read_so_far 2 t b ts [] [])
      (group_lines (length done + 1 + 1) rest) ((done ++ Some tail ∷ []) ++ rest)) join at in
      let to = subst (λ (ts : List (Option GroupTail)). TailsRead b
      (read_so_far 2 t b (done ++ Some tail ∷ nones (length rest)) [] []) (group_lines (length done + 1 + 1) rest) ts)
      whole from in
      record {
        kind = to.kind;
        period = to.period;
        low = to.low;
        enough = to.enough;
        goes = goes_on (read_so_far k p b (done ++ None ∷ nones (length rest)) [] [])
            (read_so_far 2 t b (done ++ Some tail ∷ nones (length rest)) [] [])
            (read_so_far to.kind to.period b (done ++ Some tail ∷ rest) [] [])
            (map (group_line t) tail.groups) (group_lines (t + 1) rest) first to.goes;
      }
    where
      some_same : (x y : GroupTail) → Some x ≡ Some y → x ≡ y
      some_same x y e = cc

  -- ---- offsets

  module _ (b : Bool) (tails : List (Option GroupTail)) (p : ℕ) (enough : HasEnough inst tails p) where
    record OffsetsRead (k : ℕ) (done : List Offset) (lines : List RefinedLine) (all : List Offset) : Type 0 where
      kind : ℕ
      low : kind ≤ 3
      goes : Goes (read_so_far k p b tails done []) lines (read_so_far kind p b tails all [])

    one_offset : (k : ℕ) (done : List Offset) (x : Offset) → k ≤ 3 → All (λ y. OffsetBefore y x) done
        → IsOffset inst tails x
        → Goes (read_so_far k p b tails done []) (offset_line x ∷ []) (read_so_far 3 p b tails (done ++ x ∷ []) [])
    one_offset k done x low before own =
        let same = offset_again x in (
          (
            begun,
            record {
              kind = low;
              above = All-weaker (λ y. OffsetBefore y x) (OffsetBelow x.period (x.intervention + 1) (x.group + 1))
                  (λ y h. offset_below x y h) done before;
            },
          ),
          record {
            some_intervention = omega arith;
            some_group = omega arith;
            offset = subst (IsOffset inst tails) (sym same) own;
            closed = enough;
          },
          ap (λ (y : Offset). within place (read_so_far 3 p b tails (done ++ y ∷ []) [])) same,
        )

    offsets_go : (k : ℕ) (done rest : List Offset) → k ≤ 3 → AllByRecursion (IsOffset inst tails) rest
        → AllPairs OffsetBefore (done ++ rest) → OffsetsRead k done (map offset_line rest) (done ++ rest)
    offsets_go k done [] low each order = record {
      kind = k;
      low = low;
      goes = ap (λ (xs : List Offset). within place (read_so_far k p b tails xs [])) (sym (append-nil done));
    }
    offsets_go k done (x ∷ rest) low each order =
        let join = append_assoc done (x ∷ []) rest in
        let one = one_offset k done x low (pairs_before OffsetBefore done rest x order) each.0 in
        let later = offsets_go 3 (done ++ x ∷ []) rest (omega arith) each.1
        (subst (AllPairs OffsetBefore) (sym join) order) in
        record {
          kind = later.kind;
          low = later.low;
          goes = goes_on (read_so_far k p b tails done []) (read_so_far 3 p b tails (done ++ x ∷ []) [])
              (read_so_far later.kind p b tails (done ++ x ∷ rest) []) (offset_line x ∷ []) (map offset_line rest) one
              (subst (λ (xs : List Offset). Goes (read_so_far 3 p b tails (done ++ x ∷ []) []) (map offset_line rest)
              (read_so_far later.kind p b tails xs [])) join later.goes);
        }

    -- ---- cliques

    record CliquesRead (k : ℕ) (offsets : List Offset) (done : List Clique) (lines : List RefinedLine)
        (all : List Clique) : Type 0 where
      kind : ℕ
      goes : Goes (read_so_far k p b tails offsets done) lines (read_so_far kind p b tails offsets all)

    one_clique : (k : ℕ) (offsets : List Offset) (done : List Clique) (x : Clique) → All (λ y. CliqueBefore y x) done
        → IsPricedClique inst x → 2 ≤ length x.members → length done < 4096
        → Goes (read_so_far k p b tails offsets done) (clique_line x ∷ [])
        (read_so_far 4 p b tails offsets (done ++ x ∷ []))
    one_clique k offsets done x before own some few =
        let same = clique_again x in (
          (
            begun,
            All-weaker (λ y. CliqueBefore y x) (CliqueBelow x.period (map (λ i. i + 1) x.members))
                (λ y h. clique_below x y h) done before,
          ),
          record {
            numbers = up x.members;
            some = omega (arith, some, length-map x.members (λ i. i + 1));
            few = few;
            clique = subst (IsPricedClique inst) (sym same) own;
            closed = enough;
          },
          ap (λ (y : Clique). within place (read_so_far 4 p b tails offsets (done ++ y ∷ []))) same,
        )
      where
        up : (xs : List ℕ) → All (λ i. 1 ≤ i) (map (λ i. i + 1) xs)
        up xs = All-map (λ i. 1 ≤ i) (λ i. i + 1) xs (λ k d l. omega arith)

    cliques_go : (k : ℕ) (offsets : List Offset) (done rest : List Clique) → AllByRecursion (IsPricedClique inst) rest
        → AllByRecursion (λ x. 2 ≤ length x.members) rest → length done + length rest ≤ 4096
        → AllPairs CliqueBefore (done ++ rest) → CliquesRead k offsets done (map clique_line rest) (done ++ rest)
    cliques_go k offsets done [] each some few order = record {
      kind = k;
      goes = ap (λ (xs : List Clique). within place (read_so_far k p b tails offsets xs)) (sym (append-nil done));
    }
    cliques_go k offsets done (x ∷ rest) each some few order =
        let join = append_assoc done (x ∷ []) rest in
        let one = one_clique k offsets done x (pairs_before CliqueBefore done rest x order) each.0 some.0
        (omega (arith, few)) in
        let later = cliques_go 4 offsets (done ++ x ∷ []) rest each.1 some.1
        (omega (arith, few, length-append done (x ∷ []))) (subst (AllPairs CliqueBefore) (sym join) order) in
        record {
          kind = later.kind;
          goes = goes_on (read_so_far k p b tails offsets done) (read_so_far 4 p b tails offsets (done ++ x ∷ []))
              (read_so_far later.kind p b tails offsets (done ++ x ∷ rest)) (clique_line x ∷ []) (map clique_line rest)
              one
              (subst (λ (xs : List Clique). Goes (read_so_far 4 p b tails offsets (done ++ x ∷ []))
              (map clique_line rest) (read_so_far later.kind p b tails offsets xs)) join later.goes);
        }

  -- ---- all of them

  -- all entries of version 3's own were read of a list
  pub record FurtherRead (list : RefinedList) : Type 0 where
    pub kind : ℕ
    pub period : ℕ
    pub enough : HasEnough inst list.tails period
    pub goes : Goes (no_further inst) (further_lines list)
        (read_so_far kind period list.capped list.tails list.offsets list.cliques)

  no_tail : (n : ℕ) (tail : GroupTail) → group_tail_at (nones n) 0 ≡ Some tail → ⊥
  no_tail zero tail e = absurd (let z : ⊥ = cc in z)
  no_tail (suc n) tail e = absurd (let z : ⊥ = cc in z)

  pub further_goes : IsFitting inst → (list : RefinedList) → IsRefinedList inst list → IsInOrder list
      → FurtherRead list
  further_goes fits list ok order =
      let each = ok.tails_each in
      let one = cap_goes list.capped in
      let two = subst (λ (n : ℕ). TailsRead list.capped (read_so_far one.kind 0 list.capped (nones n) [] [])
      (group_lines 1 list.tails) list.tails) each
      (tails_go fits list.capped [] list.tails one.kind 0 one.low (omega arith) (omega (arith, each)) fit
      (recursion_from_All AreGroupsInOrder list.tails order.groups)
      (λ tail e. absurd (no_tail (length list.tails) tail e))) in
      let low : two.kind ≤ 3 = let l = two.low in omega (arith, l) in
      let three = offsets_go list.capped list.tails two.period two.enough two.kind [] list.offsets low
      ok.offsets ok.offsets_ascend in
      let four = cliques_go list.capped list.tails two.period two.enough three.kind list.offsets [] list.cliques
      ok.cliques (recursion_from_All (λ x. 2 ≤ length x.members) list.cliques order.members)
      (let few = ok.few_cliques in omega (arith, few)) ok.cliques_ascend in
      let capped : Further = read_so_far one.kind 0 list.capped (nones inst.periods) [] [] in
      let grouped : Further = read_so_far two.kind two.period list.capped list.tails [] [] in
      let offset : Further = read_so_far three.kind two.period list.capped list.tails list.offsets [] in
      let end : Further = read_so_far four.kind two.period list.capped list.tails list.offsets list.cliques in
      let groups : List RefinedLine = group_lines 1 list.tails in
      let offsets : List RefinedLine = map offset_line list.offsets in
      let cliques : List RefinedLine = map clique_line list.cliques in
      record {
        kind = four.kind;
        period = two.period;
        enough = two.enough;
        goes = goes_on (no_further inst) capped end (cap_lines list.capped) (groups ++ (offsets ++ cliques)) one.goes
            (goes_on capped grouped end groups (offsets ++ cliques) two.goes
            (goes_on grouped offset end offsets cliques three.goes four.goes));
      }
    where
      fit : TailsFit 0 list.tails
      fit i tail h e =
          let each = ok.tails_each in
          let f : 0 + 1 + i - 1 ≡ i = omega arith in
          ok.tails (0 + 1 + i) (omega arith) (omega (arith, h, each)) tail (ap (λ k. get_or list.tails k None) f ∙ e)

-- ---- a price list

-- no tails of today's lists
abbrev tails_none : ℕ → List (Option Tail)
tails_none n = replicate n None

-- the prices on limits and exclusions have lines of these alone
pub inside_entries : (inst : Tables) (prices : PriceList) → prices.tails ≡ replicate inst.periods None
    → AllByRecursion IsInside (entry_lines inst prices)
inside_entries inst prices none =
    each_append IsInside (limit_lines line.Up inst.periods 0 prices.up) _
    (limits_each IsInside line.Up (λ c t v. tt) inst.periods 0 prices.up)
    (each_append IsInside (limit_lines line.Lo inst.periods 0 prices.lo) _
    (limits_each IsInside line.Lo (λ c t v. tt) inst.periods 0 prices.lo)
    (each_append IsInside (tail_lines 1 prices.tails) _ (no_lines prices.tails none)
    (ex_each IsInside (λ x. tt) prices.ex)))
  where
    empty : (n i : ℕ) → get_or (tails_none n) i None ≡ None
    empty zero i = refl
    empty (suc n) zero = refl
    empty (suc n) (suc i) = empty n i

    no_lines : (tails : List (Option Tail)) → tails ≡ replicate inst.periods None
        → AllByRecursion IsInside (tail_lines 1 tails)
    no_lines tails e = subst (AllByRecursion IsInside)
        (sym (no_tails 1 tails (λ i l. ap (λ (ts : List (Option Tail)). get_or ts i None) e ∙ empty inst.periods i))) tt

pub record EntriesRead (inst : Tables) (m left : ℕ) (list : RefinedList) : Type 0 where
  pub last : EntryKey
  pub further : Further
  pub enough : HasEnough inst further.tails further.period
  pub goes : RefinedLeads inst (within (lists Two m left (Some before_entries)) (no_further inst))
      (refined_entry_lines inst list) (within (lists Two m left (Some last)) further)

entries_go : (inst : Tables) → IsFitting inst → (m left : ℕ) (list : RefinedList) → IsRefinedList inst list
    → IsInOrder list → EntriesRead inst m left list
entries_go inst fits m left list ok order =
    let plain = entries_lead inst Two m left list.prices tt ok.prices in
    let first = inside_goes inst (lists Two m left (Some before_entries)) (lists Two m left (Some plain.0))
    (no_further inst) (entry_lines inst list.prices) refl (inside_entries inst list.prices ok.no_tails) plain.1 in
    let more = further_goes inst (lists Two m left (Some plain.0)) tt fits list ok order in
    let end : Further = read_so_far more.kind more.period list.capped list.tails list.offsets list.cliques in
    record {
      last = plain.0;
      further = end;
      enough = more.enough;
      goes = goes_append inst (within (lists Two m left (Some before_entries)) (no_further inst))
          (within (lists Two m left (Some plain.0)) (no_further inst)) (within (lists Two m left (Some plain.0)) end)
          (map Plain (entry_lines inst list.prices)) (further_lines list) first more.goes;
    }

-- price lists, each begun where one has still to begin
record ListsRead (inst : Tables) (m : ℕ) (ls : List RefinedList) (last : Option EntryKey) (old : Further) : Type 0 where
  end : Option EntryKey
  further : Further
  enough : HasEnough inst further.tails further.period
  goes : RefinedLeads inst (within (lists Two m (length ls) last) old) (flat_map (refined_list_lines inst) ls)
      (within (lists Two m 0 end) further)

lists_go : (inst : Tables) → IsFitting inst → (m : ℕ) (ls : List RefinedList) (last : Option EntryKey) (old : Further)
    → HasEnough inst old.tails old.period → AllByRecursion (IsRefinedList inst) ls → AllByRecursion IsInOrder ls
    → ListsRead inst m ls last old
lists_go inst fits m [] last old enough ok order = record { end = last; further = old; enough = enough; goes = refl }
lists_go inst fits m (l ∷ ls) last old enough ok order =
    let one = entries_go inst fits m (length ls) l ok.0 order.0 in
    let rest = lists_go inst fits m ls (Some one.last) one.further one.enough ok.1 order.1 in
    let both = goes_append inst (within (lists Two m (length ls) (Some before_entries)) (no_further inst))
    (within (lists Two m (length ls) (Some one.last)) one.further) (within (lists Two m 0 rest.end) rest.further)
    (refined_entry_lines inst l) (flat_map (refined_list_lines inst) ls) one.goes rest.goes in
    let e : length ls ≡ suc (length ls) - 1 = omega arith in
    record {
      end = rest.end;
      further = rest.further;
      enough = rest.enough;
      goes = (
        (tt, omega arith, tt),
        (tt, enough),
        subst (λ (n : ℕ). RefinedLeads inst (within (lists Two m n (Some before_entries)) (no_further inst))
            (refined_entry_lines inst l ++ flat_map (refined_list_lines inst) ls)
            (within (lists Two m 0 rest.end) rest.further)) e both,
      );
    }

-- ---- the tree

node_inside : (n : Node) → IsInside (node_line n)
node_inside (node.Split i last) = tt
node_inside (node.Cost list) = tt
node_inside node.Point = tt
node_inside (node.Band c t side) = tt
node_inside (node.Excl e) = tt
node_inside (node.Empty i) = tt

nodes_inside : (ns : List Node) → AllByRecursion IsInside (map node_line ns)
nodes_inside [] = tt
nodes_inside (n ∷ ns) = (node_inside n, nodes_inside ns)

pub refined_texts_lead : RefinedTextsLead
refined_texts_lead inst cert fits ok =
    let m : ℕ = length cert.lists in
    let some = lists_go inst fits m cert.lists None (no_further inst) (λ tail e. absurd (none inst.periods tail e))
    (recursion_from_All (IsRefinedList inst) cert.lists ok.lists)
    (recursion_from_All IsInOrder cert.lists ok.in_order) in
    let t : Tree = ok.tree.0 in
    let plain = subst (λ (ns : List Node). Leads inst (nodes m (root_box inst ∷ [])) (map node_line ns) (nodes m []))
    ok.tree.1.order (tree_leads inst m t (root_box inst) [] ok.tree.1.in_range) in
    let inside = inside_goes inst (nodes m (root_box inst ∷ [])) (nodes m []) (no_further inst)
    (map node_line cert.nodes) refl (nodes_inside cert.nodes) plain in
    let tree : RefinedLeads inst (within (lists Two m 0 some.end) some.further) (map Plain (tree_lines cert.nodes))
    (within (nodes m []) (no_further inst)) = ((tt, refl, tt), (tt, some.enough), inside) in (
      tt,
      tt,
      (
        (tt, tt, tt),
        (ok.bound, tt),
        (
          (tt, tt, tt),
          (ok.few, tt),
          goes_append inst (within (lists Two m m None) (no_further inst))
              (within (lists Two m 0 some.end) some.further) (within (nodes m []) (no_further inst))
              (flat_map (refined_list_lines inst) cert.lists) (map Plain (tree_lines cert.nodes)) some.goes tree,
        ),
      ),
    )
  where
    none : (n : ℕ) (tail : GroupTail) → group_tail_at (nones n) 0 ≡ Some tail → ⊥
    none zero tail e = absurd (let z : ⊥ = cc in z)
    none (suc n) tail e = absurd (let z : ⊥ = cc in z)
