use Rattle.std.proofs.Common.{◌≡◌, ◌∙◌, ◌<◌, ℕ, List, [], sym, ap, arith, length, get_or, subst, cond, ◌∷◌, ◌++◌}
use Rattle.std.proofs.lemmas.List.{get_or-replicate, length-replicate, with_items_is}
use Rattle.season_exclusion.specs.Broken.{is_named}
use Rattle.season_exclusion.proofs.NamedLemmas.{naming_to-none, naming_to-noted}
use Rattle.season_exclusion.proofs.named.named_lists.Goals as goal

pub loop-e-init : goal.loop-e-init
loop-e-init c =
    let n = c.interventions.result in
    record {
      each = ap length c.in_ok-lists.ensures ∙ length-replicate n _ ∙ c.interventions.ensures.value;
      named = λ i l. ap (λ (xs : List (List ℕ)). get_or xs i []) c.in_ok-lists.ensures
          ∙ get_or-replicate n i [] [] (omega (arith, l, c.interventions.ensures.value))
          ∙ sym (naming_to-none c.args.inst.now i);
    }

pub loop-e-preserved : goal.loop-e-preserved
loop-e-preserved c =
    let inst = c.args.inst.now in
    let e = c.loop-e.e in
    let old = c.loop-e.lists in
    let new = c.note.new.lists in
    let x = c.exclusion.result in
    let lent = c.deref_mut.ensures.value in
    let each = c.note.ensures.each ∙ ap length lent in
    let written = with_items_is old new (omega (arith, each, old.ok.0)) in
    let noted : (i : ℕ) → i < length c.deref_mut.result.now → get_or new i [] ≡ get_or old.items i [] ++ cond (is_named
    x i) (e ∷ []) [] = λ i l. subst
    (λ (xs : List (List ℕ)). get_or new i [] ≡ get_or xs i [] ++ cond (is_named x i) (e ∷ []) []) lent
    (c.in_ok-note.ensures.noted i l) in
    record {
      each = ap length written ∙ each ∙ c.loop-e.invariant.each;
      named = λ i l. ap (λ (xs : List (List ℕ)). get_or xs i []) written
          ∙ naming_to-noted inst e i x old.items new c.exclusion.ensures.value (c.loop-e.invariant.named i l)
          (noted i (omega (arith, l, ap length lent, c.loop-e.invariant.each)));
    }
