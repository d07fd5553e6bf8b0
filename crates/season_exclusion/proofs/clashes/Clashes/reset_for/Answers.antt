use Rattle.std.proofs.Common.{◌≡◌, ◌∙◌, ◌<◌, ℕ, Bool, List, [], false, sym, ap, arith, length, get_or, set, subst}
use Rattle.std.specs.List.{All, Contains}
use Rattle.std.proofs.lemmas.List.{get_or_default, with_items_is}
use Rattle.season_exclusion.specs.Broken.{is_broken, count_set}
use Rattle.season_exclusion.specs.KeptClashes.{KeptClashes, IsOver}
use Rattle.season_exclusion.proofs.OverLemmas.{AreRetested, IsOver-after, count_set-over, named_within}
use Rattle.season_exclusion.proofs.clashes.Clashes.reset_for.Goals as goal

pub retest-self-inside-requires-clause-named : goal.retest-self-inside-requires-clause-named
retest-self-inside-requires-clause-named c =
    let inst = c.args.inst.now in
    let i = c.args.i in
    let over = subst (λ (v : KeptClashes). IsOver inst v) (sym c.self.view_is) c.requires.over in
    let list = c.as_slice.ensures ∙ c.index-named.ensures
    ∙ get_or_default c.self.inside.named.items i c.index-named.result.now [] (omega (arith, over.named_each)) in
    subst (All (λ e. e < length inst.exclusion_names)) (sym list) (named_within inst _ i over c.requires.number)

pub retest-self-inside-requires-clause-count : goal.retest-self-inside-requires-clause-count
retest-self-inside-requires-clause-count c =
    let over = subst (λ (v : KeptClashes). IsOver c.args.inst.now v) (sym c.self.view_is) c.requires.over in
    count_set-over c.args.inst.now _ over ∙ ap count_set (sym c.deref_mut.ensures.value)

pub returns-clause-over : goal.returns-clause-over
returns-clause-over c =
    let inst = c.args.inst.now in
    let i = c.args.i in
    let starts = c.args.starts.now in
    let flags = c.retest-self-inside.new.flags in
    let over = subst (λ (v : KeptClashes). IsOver inst v) (sym c.self.view_is) c.requires.over in
    let list = c.as_slice.ensures ∙ c.index-named.ensures
    ∙ get_or_default c.self.inside.named.items i c.index-named.result.now [] (omega (arith, over.named_each))
    ∙ over.named i c.requires.number in
    let lent = c.deref_mut.ensures.value in
    let each = c.retest-self-inside.ensures.each ∙ ap length lent in
    let written = with_items_is c.self.inside.broken flags (omega (arith, each, c.self.inside.broken.ok.0)) in
    let but_for = subst (λ (v : KeptClashes). starts ≡ set v.starts i (get_or starts i 0))
    (sym c.self.view_is) c.requires.but_for in
    let named =
    subst (All (λ e. get_or flags e false ≡ is_broken inst starts e)) list c.retest-self-inside.ensures.named in
    let tested : AreRetested inst starts i c.self.inside.broken.items flags = record {
      each = each;
      named = named;
      others = λ e other.
          c.retest-self-inside.ensures.others e (λ w. other (subst (λ (xs : List ℕ). Contains xs e) list w))
          ∙ ap (λ (xs : List Bool). get_or xs e false) lent;
    } in
    let after = IsOver-after inst _ i (get_or starts i 0) starts flags c.retest-self-inside.result over
    c.requires.allowed but_for tested c.retest-self-inside.ensures.count in
    subst (λ (xs : List Bool). IsOver inst
    (record {
      starts = set c.self.inside.starts.items i (get_or starts i 0);
      broken = xs;
      count = c.retest-self-inside.result;
      named = c.self.inside.named.items;
    })) (sym written) after
