-- A list that an entry of version 3's own is taken into has one line more.
use Rattle.std.proofs.Common.{◌≡◌, ℕ, zero, suc, ◌+◌, ◌-◌, ◌<◌, ◌≤◌, refl, sym, ◌∙◌, ap, arith}
use Rattle.std.proofs.Common.{List, [], ◌∷◌, ◌++◌, length, map, get_or, set, Option, Some, None}
use Rattle.std.proofs.Common.{append_assoc}
use Rattle.std.specs.List.{All}
use Rattle.std.proofs.lemmas.List.{append-nil, map-append, get_or-set_same, get_or-set_other}
use Rattle.std.proofs.lemmas.List.Elements.{All-nil, All-cons, All-push}
use Rattle.std.proofs.lemmas.List.Quantifiers.{all_pairs_push}
use Rattle.instance_model.specs.Tables.{Tables, scenarios_of}
use Rattle.refined_prices.specs.declared.member.Member.{Member}
use Rattle.refined_prices.specs.declared.group_tail.GroupTail.{GroupTail}
use Rattle.refined_prices.specs.Groups.{IsGroup, AreDisjoint}
use Rattle.refined_prices.specs.Offsets.{group_tail_at}
use Rattle.refined_check.specs.certificate.Orders.{GroupBefore}
use Rattle.refined_text.specs.declared.lines.line.RefinedLine.{RefinedLine}
use Rattle.refined_text.specs.text.Text.{group_line, group_lines}
use Rattle.refined_text.specs.grammar.Further.{groups_of, with_group, with_group_at}
use Rattle.refined_text.specs.grammar.SoFar.{IsPartTail}

-- ---- lines

-- no tails have no lines
pub no_groups : (t : ℕ) (tails : List (Option GroupTail))
    → ((i : ℕ) → i < length tails → get_or tails i None ≡ None) → group_lines t tails ≡ []
unfolding group_lines
no_groups t [] h = refl
no_groups t (None ∷ tails) h = no_groups (t + 1) tails (λ i l. h (suc i) (omega (arith, l)))
no_groups t (Some tail ∷ tails) h = absurd (let e = h 0 (omega arith) in let z : ⊥ = cc in z)

-- a group behind all others has its line at the end
pub groups_grow : (t : ℕ) (tails : List (Option GroupTail)) (p : ℕ) (g : List Member) → p < length tails
    → ((i : ℕ) → p < i → i < length tails → get_or tails i None ≡ None)
    → group_lines t (set tails p (Some (with_group (get_or tails p None) g)))
    ≡ group_lines t tails ++ group_line (t + p) g ∷ []
unfolding group_lines
groups_grow t [] p g h none = absurd (omega (arith, h))
groups_grow t (None ∷ tails) zero g h none =
    let e : t ≡ t + 0 = omega arith in
    let rest = no_groups (t + 1) tails (λ i l. none (suc i) (omega arith) (omega (arith, l))) in
    rw rest (ap (λ (j : ℕ). group_line j g ∷ []) e)
groups_grow t (Some tail ∷ tails) zero g h none =
    let e : t ≡ t + 0 = omega arith in
    let rest = no_groups (t + 1) tails (λ i l. none (suc i) (omega arith) (omega (arith, l))) in
    let own : List RefinedLine = map (group_line t) tail.groups in
    rw rest
    (append-nil (map (group_line t) (tail.groups ++ g ∷ [])) ∙ map-append (group_line t) tail.groups (g ∷ [])
    ∙ ap (λ (ls : List RefinedLine). ls ++ group_line t g ∷ []) (sym (append-nil own))
    ∙ ap (λ (j : ℕ). (own ++ []) ++ group_line j g ∷ []) e)
groups_grow t (None ∷ tails) (suc p) g h none =
    let e : t + 1 + p ≡ t + suc p = omega arith in
    groups_grow (t + 1) tails p g (omega (arith, h)) (λ i l m. none (suc i) (omega (arith, l)) (omega (arith, m)))
    ∙ ap (λ (j : ℕ). group_lines (t + 1) tails ++ group_line j g ∷ []) e
groups_grow t (Some tail ∷ tails) (suc p) g h none =
    let e : t + 1 + p ≡ t + suc p = omega arith in
    let own : List RefinedLine = map (group_line t) tail.groups in
    ap (λ (ls : List RefinedLine). own ++ ls)
    (groups_grow (t + 1) tails p g (omega (arith, h)) (λ i l m. none (suc i) (omega (arith, l)) (omega (arith, m)))
    ∙ ap (λ (j : ℕ). group_lines (t + 1) tails ++ group_line j g ∷ []) e)
    ∙ sym (append_assoc own (group_lines (t + 1) tails) (group_line (t + suc p) g ∷ []))

-- ---- tails

-- the tail of the period of a group that was taken, and those of others
pub own_tail : (tails : List (Option GroupTail)) (t : ℕ) (g : List Member) → 1 ≤ t → t ≤ length tails
    → group_tail_at (with_group_at tails t g) t ≡ Some (with_group (group_tail_at tails t) g)
own_tail tails t g from to =
    get_or-set_same tails (t - 1) (Some (with_group (group_tail_at tails t) g)) None (omega (arith, from, to))

pub other_tail : (tails : List (Option GroupTail)) (t u : ℕ) (g : List Member) → 1 ≤ t → 1 ≤ u → (u ≡ t → ⊥)
    → group_tail_at (with_group_at tails t g) u ≡ group_tail_at tails u
other_tail tails t u g from one apart =
    get_or-set_other tails (t - 1) (u - 1) (Some (with_group (group_tail_at tails t) g)) None
    (λ e. apart (omega (arith, from, one, e)))

-- a tail with a group more is one as far as it has been read
pub part_grows : (inst : Tables) (t : ℕ) (o : Option GroupTail) (g : List Member)
    → ((tail : GroupTail) → o ≡ Some tail → IsPartTail inst t tail) → 1 ≤ (with_group o g).weight
    → (with_group o g).weight ≤ 1000 → IsGroup (scenarios_of inst t) (with_group o g).weight g
    → All (λ other. AreDisjoint other g) (groups_of o) → All (λ other. GroupBefore other g) (groups_of o)
    → IsPartTail inst t (with_group o g)
part_grows inst t None g part some small own apart above = record {
  some_weight = some;
  small_weight = small;
  groups = All-cons (IsGroup (scenarios_of inst t) (with_group None g).weight) g [] own
      (All-nil (IsGroup (scenarios_of inst t) (with_group None g).weight));
  apart = λ i j d l m. absurd (omega (arith, l, m));
  order = λ i j d l m. absurd (omega (arith, l, m));
}
part_grows inst t (Some tail) g part some small own apart above =
    let old = part tail refl in
    record {
      some_weight = some;
      small_weight = small;
      groups = All-push (IsGroup (scenarios_of inst t) tail.weight) tail.groups g old.groups own;
      apart = all_pairs_push AreDisjoint tail.groups g old.apart apart;
      order = all_pairs_push GroupBefore tail.groups g old.order above;
    }
