-- Lists that are added behind others.
use Rattle.std.proofs.Common.{◌≡◌, inl, inr, ℕ, ◌+◌, ◌*◌, ◌<◌, ◌≤◌, ◌≤ℤ◌, refl, sym, ◌∙◌, ap, subst, arith, List, []}
use Rattle.std.proofs.Common.{◌∷◌}
use Rattle.std.proofs.Common.{◌++◌, ◌⊎◌, ◌-◌, min}
use Rattle.std.proofs.Common.{length, get_or, Option, Some, None, Bor, length-append, append_assoc}
use Rattle.std.specs.Prelude.{Any, IfSome, option_map}
use Rattle.std.proofs.lemmas.List.{get_or_append_left, get_or-append-add, get_or_default}
use Rattle.std.proofs.lemmas.List.Elements.{All-push}
use Rattle.std.proofs.lemmas.Grind.{same_number_lists}
use Rattle.std.proofs.Math.Nat.{min-le_left, le-min, eq-or-lt_of_le}
use Rattle.instance_model.specs.Tables.{Tables}
use Rattle.instance_model.specs.Keys.{IsOpening}
use Rattle.lagrange_bound.specs.Prices.{PriceList}
use Rattle.certificate_tree.proofs.Refuting.{feasible_allowed}
use Rattle.price_ladder.specs.Raised.{IsRaised as IsRaisedFor, least_total, root_worth}
use Rattle.branch_search.specs.Best.{IsFeasiblePlan}
use Rattle.local_search.specs.Openings.{IsWithoutStart}
use Rattle.refined_prices.specs.RefinedLists.{RefinedList, IsRefinedList, zero_refined}
use Rattle.refined_check.specs.certificate.Orders.{IsInOrder}
use Rattle.refined_check.specs.Singles.{refined_of}
use Rattle.refined_search.specs.Alike.{PriceAlike, IsUnlike, AddUnlike}
use Rattle.refined_search.specs.Lists.{HasRaised, AreListsFor, short_searches}
use Rattle.refined_search.specs.Steps.{MayStand, AddsOne, AddsSome, AddsAtMostOne, AddsRaised, AddsSearched}
use Rattle.refined_search.specs.Steps.{AddsSearchedTo, FindsPlan}
use Rattle.refined_search.proofs.AlikeLemmas.{alike_itself}

append-nil : {A : Type 0} (xs : List A) → xs ++ [] ≡ xs
append-nil [] = refl
append-nil (x ∷ xs) = ap (λ (ys : List _). x ∷ ys) (append-nil xs)

-- ---- one that is among some is among more

any_left : {A : Type 0} (P : A → Type 0) (xs ys : List A) → Any P xs → Any P (xs ++ ys)
any_left P xs ys (k, x, l, e, p) =
    (k, x, omega (arith, l, length-append xs ys), get_or_append_left xs ys x k l ∙ e, p)

any_last : {A : Type 0} (P : A → Type 0) (xs : List A) (x : A) → P x → Any P (xs ++ x ∷ [])
any_last P xs x p =
    let end : length xs + 0 ≡ length xs = omega arith in (
      length xs,
      x,
      omega (arith, length-append xs (x ∷ [])),
      subst (λ (n : ℕ). get_or (xs ++ x ∷ []) n x ≡ x) end (get_or-append-add xs (x ∷ []) 0 x),
      p,
    )

-- ---- one that prices alike, or none

pub found_alike : (inst : Tables) (list : RefinedList) (lists : List RefinedList) (k : ℕ) (x : RefinedList)
    → k < length lists → get_or lists k x ≡ x → PriceAlike inst x list
    → Any (λ other. PriceAlike inst other list) lists
found_alike inst list lists k x l e alike = (k, x, l, e, alike)

-- where none of them is so, none among them is
pub none_found : (inst : Tables) (list : RefinedList) (lists : List RefinedList)
    → ((k : ℕ) (d : RefinedList) → k < length lists → PriceAlike inst (get_or lists k d) list → ⊥)
    → Any (λ other. PriceAlike inst other list) lists → ⊥
none_found inst list lists none (k, x, l, e, alike) =
    none k x l (subst (λ (other : RefinedList). PriceAlike inst other list) (sym e) alike)

-- where none among them is so, none of them is
pub none_alike : (inst : Tables) (list : RefinedList) (lists : List RefinedList)
    → (Any (λ other. PriceAlike inst other list) lists → ⊥) → IsUnlike inst lists list
none_alike inst list lists none k d l alike =
    none (k, get_or lists k d, l, get_or_default lists k (get_or lists k d) d l, alike)

-- ---- lists that are added

-- none is
pub adds_none : (inst : Tables) (lists : List RefinedList) → MayStand inst lists → AddsSome inst lists lists
adds_none inst lists may = record { may_stand = may; more = []; behind = sym (append-nil lists); unlike = tt }

-- one is, or not
pub adds_one : (inst : Tables) (list : RefinedList) (old new : List RefinedList) → MayStand inst old
    → IsRefinedList inst list → IsInOrder list → length old < 16 → AddsOne inst list old new → AddsSome inst old new
adds_one inst list old new may range order room (inl (e, found)) =
    subst (λ (ls : List RefinedList). AddsSome inst old ls) (sym e) (adds_none inst old may)
adds_one inst list old new may range order room (inr (e, unlike)) = record {
  may_stand = subst (MayStand inst) (sym e) (record {
    few = omega (arith, length-append old (list ∷ []), room);
    in_range = All-push (IsRefinedList inst) old list may.in_range range;
    in_order = All-push IsInOrder old list may.in_order order;
  });
  more = list ∷ [];
  behind = e;
  unlike = (unlike, tt);
}

unlike_more : (inst : Tables) (old more further : List RefinedList) → AddUnlike inst old more
    → AddUnlike inst (old ++ more) further → AddUnlike inst old (more ++ further)
unlike_more inst old [] further h k = subst (λ (ls : List RefinedList). AddUnlike inst ls further) (append-nil old) k
unlike_more inst old (x ∷ xs) further h k = (
  h.0,
  unlike_more inst (old ++ x ∷ []) xs further h.1
      (subst (λ (ls : List RefinedList). AddUnlike inst ls further) (sym (append_assoc old (x ∷ []) xs)) k),
)

-- some are, and then others
pub adds_more : (inst : Tables) (old mid new : List RefinedList) → AddsSome inst old mid → AddsSome inst mid new
    → AddsSome inst old new
adds_more inst old mid new a b = record {
  may_stand = b.may_stand;
  more = a.more ++ b.more;
  behind = b.behind ∙ ap (λ (ls : List RefinedList). ls ++ b.more) a.behind ∙ append_assoc old a.more b.more;
  unlike = unlike_more inst (zero_refined inst ∷ old) a.more b.more a.unlike
      (subst (λ (ls : List RefinedList). AddUnlike inst (zero_refined inst ∷ ls) b.more) a.behind b.unlike);
}

-- how long they are
adds_length : (inst : Tables) (old new : List RefinedList) (adds : AddsSome inst old new)
    → length new ≡ length old + length adds.more
adds_length inst old new adds = ap length adds.behind ∙ length-append old adds.more

one_longer : (inst : Tables) (list : RefinedList) (old new : List RefinedList) → AddsOne inst list old new
    → length new ≤ length old + 1
one_longer inst list old new (inl (e, found)) = omega (arith, ap length e)
one_longer inst list old new (inr (e, unlike)) = omega (arith, ap length e, length-append old (list ∷ []))

-- one at most is, as long as there are fewer than so many
pub adds_at_most_one : (inst : Tables) (list : RefinedList) (end : ℕ) (old new : List RefinedList)
    → MayStand inst old → IsRefinedList inst list → IsInOrder list → end ≤ 16 → length old < end
    → AddsOne inst list old new → AddsAtMostOne inst end old new
adds_at_most_one inst list end old new may range order few room is =
    let longer = one_longer inst list old new is in
    record {
      adds = adds_one inst list old new may range order (omega (arith, few, room)) is;
      one = longer;
      within = omega (arith, longer, room);
    }

pub stays_at_most_one : (inst : Tables) (end : ℕ) (lists : List RefinedList) → MayStand inst lists
    → length lists ≤ end → AddsAtMostOne inst end lists lists
stays_at_most_one inst end lists may within =
    record { adds = adds_none inst lists may; one = omega arith; within = within }

-- ---- lists for which there are turns

pub searched_none : (inst : Tables) (turns end : ℕ) (lists : List RefinedList) → MayStand inst lists
    → length lists ≤ end → AddsSearchedTo inst turns end 0 lists lists
searched_none inst turns end lists may within = record {
  adds = adds_none inst lists may;
  within = within;
  counted = omega arith;
  searched = λ k l. absurd (omega (arith, l));
}

searched_next : (turns index : ℕ) → get_or short_searches index 0 * 4 ≤ turns
    → ((k : ℕ) → k < index → get_or short_searches k 0 * 4 ≤ turns)
    → (k : ℕ) → k < index + 1 → get_or short_searches k 0 * 4 ≤ turns
searched_next turns index here before k l =
    let below : k ≤ index = omega (arith, l) in at (eq-or-lt_of_le below)
  where
    at : (k ≡ index) ⊎ (k < index) → get_or short_searches k 0 * 4 ≤ turns
    at (inl e) = subst (λ (j : ℕ). get_or short_searches j 0 * 4 ≤ turns) (sym e) here
    at (inr less) = before k less

pub searched_more : (inst : Tables) (turns end index : ℕ) (old mid new : List RefinedList)
    → get_or short_searches index 0 * 4 ≤ turns → AddsSearchedTo inst turns end index old mid
    → AddsAtMostOne inst end mid new → AddsSearchedTo inst turns end (index + 1) old new
searched_more inst turns end index old mid new asked a b =
    let counted = a.counted in
    let one = b.one in
    record {
      adds = adds_more inst old mid new a.adds b.adds;
      within = b.within;
      counted = omega (arith, counted, one);
      searched = searched_next turns index asked a.searched;
    }

pub searched_all : (inst : Tables) (turns end index : ℕ) (old new : List RefinedList)
    → AddsSearchedTo inst turns end index old new → AddsSearched inst turns end old new
searched_all inst turns end index old new a =
    let counted = a.counted in
    record { adds = a.adds; within = a.within; searched = λ k l. a.searched k (omega (arith, counted, l)) }

-- ---- the one that is raised

-- one that prices alike with the list that is told stands among them
among_added : (inst : Tables) (prices : PriceList) (list : RefinedList) (old new : List RefinedList)
    → list ≡ refined_of inst prices → AddsOne inst list old new
    → Any (λ (other : RefinedList). PriceAlike inst other (refined_of inst prices)) (zero_refined inst ∷ new)
among_added inst prices list old new told (inl (e, found)) =
    let Alike : RefinedList → RefinedList → Type 0 = λ l other. PriceAlike inst other l in
    subst (λ (ls : List RefinedList). Any (Alike (refined_of inst prices)) (zero_refined inst ∷ ls)) (sym e)
    (subst (λ (l : RefinedList). Any (Alike l) (zero_refined inst ∷ old)) told found)
among_added inst prices list old new told (inr (e, unlike)) =
    let Alike : RefinedList → RefinedList → Type 0 = λ l other. PriceAlike inst other l in
    subst (λ (ls : List RefinedList). Any (Alike (refined_of inst prices)) (zero_refined inst ∷ ls)) (sym e)
    (any_last (Alike (refined_of inst prices)) (zero_refined inst ∷ old) list
    (subst (PriceAlike inst list) told (alike_itself inst list)))

pub has_raised_from : (inst : Tables) (starts : List ℕ) (prices : PriceList) (list : RefinedList)
    (old new : List RefinedList) → IsRaisedFor inst starts prices → least_total inst ≤ℤ root_worth inst prices
    → list ≡ refined_of inst prices → AddsOne inst list old new → HasRaised inst starts new
has_raised_from inst starts prices list old new raised not_below told adds = record {
  prices = prices;
  raised = raised;
  not_below_zeros = not_below;
  among = among_added inst prices list old new told adds;
}

has_raised_more : (inst : Tables) (starts : List ℕ) (lists more : List RefinedList) → HasRaised inst starts lists
    → HasRaised inst starts (lists ++ more)
has_raised_more inst starts lists more h = record {
  prices = h.prices;
  raised = h.raised;
  not_below_zeros = h.not_below_zeros;
  among = any_left (λ (other : RefinedList). PriceAlike inst other (refined_of inst h.prices))
      (zero_refined inst ∷ lists) more h.among;
}

-- ---- all of them

module _ (inst : Tables) (incumbent : Option (List ℕ)) (turns most end : ℕ) (old ladder groups new : List RefinedList)
    (ends : end ≡ length old + min most (16 - length old)) (a : AddsRaised inst incumbent end old ladder)
    (b : AddsAtMostOne inst end ladder groups) (d : AddsSearched inst turns end groups new) where
  first_two : AddsSome inst old groups
  first_two = adds_more inst old ladder groups a.adds.adds b.adds

  all_more : AddsSome inst old new
  all_more = adds_more inst old groups new first_two d.adds

  added_counted : length all_more.more ≤ most
  added_counted =
      let same = adds_length inst old new all_more in
      let within = d.within in
      let least = min-le_left most (16 - length old) in
      omega (arith, same, within, least, ends)

  added_searched : (k : ℕ) → k + 2 < length all_more.more → get_or short_searches k 0 * 4 ≤ turns
  added_searched k l =
      let same = adds_length inst old new all_more in
      let one = a.adds.one in
      let two = b.one in
      d.searched k (omega (arith, same, one, two, l))

  room_left : length old < 16 → 1 ≤ most → length old < end
  room_left room some =
      let least : 1 ≤ min most (16 - length old) = le-min some (omega (arith, room)) in
      omega (arith, ends, least)

  later_lists : new ≡ ladder ++ (b.adds.more ++ d.adds.more)
  later_lists =
      let later = adds_more inst ladder groups new b.adds d.adds in
      d.adds.behind ∙ ap (λ (ls : List RefinedList). ls ++ d.adds.more) b.adds.behind
      ∙ append_assoc ladder b.adds.more d.adds.more

  pub lists_are : AreListsFor inst incumbent old turns most new
  lists_are = record {
    few = all_more.may_stand.few;
    in_range = all_more.may_stand.in_range;
    in_order = all_more.may_stand.in_order;
    more = all_more.more;
    behind = all_more.behind;
    unlike = all_more.unlike;
    counted = added_counted;
    searched = added_searched;
    raised = λ room some starts plan. subst (HasRaised inst starts) (sym later_lists)
        (has_raised_more inst starts ladder (b.adds.more ++ d.adds.more) (a.raised (room_left room some) starts plan));
  }

-- ---- the plan

least_below : (inst : Tables) (a b : List ℕ) → IsOpening inst a → IsOpening inst b → (k : ℕ) → k < length inst.names
    → get_or a k 0 ≤ get_or b k 0
least_below inst a b x y k l = x.least k (get_or b k 0) l (y.allowed.allowed k (omega (arith, l, y.allowed.each)))

-- the least allowed starts are one plan
one_opening : (inst : Tables) (a b : List ℕ) → IsOpening inst a → IsOpening inst b → a ≡ b
one_opening inst a b x y = same_number_lists a b (omega (arith, x.allowed.each, y.allowed.each)) (λ k l.
    let n : k < length inst.names = omega (arith, l, x.allowed.each) in
    omega (arith, least_below inst a b x y k n, least_below inst b a y x k n))

pub plan_given : (inst : Tables) (plan : List ℕ) → IsFeasiblePlan inst plan → FindsPlan inst (Some plan) (Some plan)
plan_given inst plan feasible = (
  record {
    each = feasible.each;
    allowed = λ i l. feasible_allowed inst plan feasible.each feasible.feasible i (omega (arith, l, feasible.each));
  },
  λ other e. e,
)

-- one that is lent, and a copy of it
pub plan_lent : (inst : Tables) (incumbent : Option (Bor (List ℕ))) (plan : Bor (List ℕ)) (made : List ℕ)
    → IfSome incumbent (λ given. IsFeasiblePlan inst given.now) → incumbent ≡ Some plan → made ≡ plan.now
    → FindsPlan inst (option_map (λ given. given.now) incumbent) (Some made)
plan_lent inst None plan made h e same = absurd (never e)
  where
    never : ◌≡◌ {A = Option (Bor (List ℕ))} None (Some plan) → ⊥
    never e = cc
plan_lent inst (Some given) plan made h e same =
    subst (λ (s : List ℕ). FindsPlan inst (Some given.now) (Some s)) (sym all) (plan_given inst given.now h)
  where
    one : ◌≡◌ {A = Option (Bor (List ℕ))} (Some given) (Some plan) → given ≡ plan
    one e = cc

    all : made ≡ given.now
    all = same ∙ sym (ap (λ (b : Bor (List ℕ)). b.now) (one e))

pub plan_opens : (inst : Tables) (starts : List ℕ) → IsOpening inst starts → FindsPlan inst None (Some starts)
plan_opens inst starts opens = (opens.allowed, λ other also. one_opening inst other starts also opens)

pub no_plan : (inst : Tables) (i : ℕ) → IsWithoutStart inst i → FindsPlan inst None None
no_plan inst i without starts opens =
    without.none (get_or starts i 0) (opens.allowed.allowed i (omega (arith, without.number, opens.allowed.each)))

-- a list raised for the plan that was found is one for the plan
pub raised_for : (inst : Tables) (incumbent : Option (List ℕ)) (found : List ℕ) (end : ℕ) (old new : List RefinedList)
    → FindsPlan inst incumbent (Some found) → AddsAtMostOne inst end old new → HasRaised inst found new
    → AddsRaised inst incumbent end old new
raised_for inst incumbent found end old new plan adds has = record {
  adds = adds;
  raised = λ room starts is. subst (λ (s : List ℕ). HasRaised inst s new) (sym (plan.1 starts is)) has;
}

pub none_raised : (inst : Tables) (incumbent : Option (List ℕ)) (end : ℕ) (lists : List RefinedList)
    → MayStand inst lists → length lists ≤ end → FindsPlan inst incumbent None
    → AddsRaised inst incumbent end lists lists
none_raised inst incumbent end lists may within none = record {
  adds = stays_at_most_one inst end lists may within;
  raised = λ room starts is. absurd (none starts is);
}

pub no_room : (inst : Tables) (incumbent : Option (List ℕ)) (end : ℕ) (lists : List RefinedList) → MayStand inst lists
    → length lists ≤ end → end ≤ length lists → AddsRaised inst incumbent end lists lists
no_room inst incumbent end lists may within full = record {
  adds = stays_at_most_one inst end lists may within;
  raised = λ room starts is. absurd (omega (arith, room, full));
}
