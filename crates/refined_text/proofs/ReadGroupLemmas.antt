-- The groups of a period, as they are read.
use Rattle.std.proofs.Common.{◌≡◌, ◌≢◌, ℕ, ◌+◌, ◌<◌, ◌≤◌, sym, ◌∙◌, ap, subst, arith, List, length}
use Rattle.std.proofs.Common.{get_or, drop, IsTrue, nat_lt}
use Rattle.std.specs.List.{All}
use Rattle.std.proofs.lemmas.Bool.Decides.{nat_tests}
use Rattle.std.proofs.lemmas.List.{drop_more, drop_all, get_or-map, length-map}
use Rattle.std.proofs.lemmas.List.Elements.{All-map}
use Rattle.refined_prices.specs.declared.member.Member.{Member}
use Rattle.refined_prices.specs.Groups.{scenarios_in, weight_in, IsGroup, AreDisjoint}
use Rattle.refined_text.specs.declared.lines.members.LineMember.{LineMember}
use Rattle.refined_text.specs.grammar.Further.{member_of, group_of}

pub less_told : (a b : ℕ) → IsTrue (nat_lt a b) → a < b
less_told a b h = grind (arith, nat_tests)

pub less_true : (a b : ℕ) → a < b → IsTrue (nat_lt a b)
less_true a b h = grind (arith, nat_tests)

-- ---- weights

pub weight_more : (sum k : ℕ) (group : List Member) (d : Member) → k < length group
    → sum + weight_in (drop k group) ≡ weight_in group
    → sum + (get_or group k d).weight + weight_in (drop (k + 1) group) ≡ weight_in group
unfolding weight_in
weight_more sum k group d l e =
    let here = ap weight_in (drop_more group k d l) in
    omega (arith, here, e)

pub weight_all : (sum k : ℕ) (group : List Member) → length group ≤ k
    → sum + weight_in (drop k group) ≡ weight_in group → sum ≡ weight_in group
unfolding weight_in
weight_all sum k group l e = let here = ap weight_in (drop_all k group l) in omega (arith, here, e)

-- ---- numbers of a line

-- those of a group aren't too large
pub member_small : (n total k : ℕ) (ms : List LineMember) (d : LineMember) → IsGroup n total (group_of ms)
    → k < length ms → ((get_or ms k d).scenario ≤ n) × ((get_or ms k d).weight ≤ 1000)
member_small n total k ms d h l =
    let longer : k < length (group_of ms) = omega (arith, length-map ms member_of, l) in
    let longest : k < length (scenarios_in (group_of ms)) =
    omega (arith, length-map (group_of ms) (λ (x : Member). x.scenario), longer) in
    let here : get_or (group_of ms) k (member_of d) ≡ member_of (get_or ms k d) =
    get_or-map member_of ms k d (member_of d) l in
    let scenario : get_or (scenarios_in (group_of ms)) k 0 ≡ (get_or ms k d).scenario =
    get_or-map (λ (x : Member). x.scenario) (group_of ms) k (member_of d) 0 longer
    ∙ ap (λ (x : Member). x.scenario) here in (
      subst (λ (j : ℕ). j ≤ n) scenario (h.within k 0 longest),
      subst (λ (x : Member). x.weight ≤ 1000) here (h.small_weight k (member_of d) longer),
    )

-- ---- scenarios that two groups have in common

pub lacks_all : (s k : ℕ) (group : List Member) → length group ≤ k
    → ((j : ℕ) (d : Member) → j < k → s ≢ (get_or group j d).scenario) → All (λ j. s ≢ j) (scenarios_in group)
lacks_all s k group l h = All-map (λ j. s ≢ j) (λ (x : Member). x.scenario) group (λ j d m. h j d (omega (arith, l, m)))

pub has_one : (s k : ℕ) (group : List Member) (d : Member) → k < length group → (get_or group k d).scenario ≡ s
    → All (λ j. s ≢ j) (scenarios_in group) → ⊥
has_one s k group d l e all =
    let longer : k < length (scenarios_in group) = omega (arith, length-map group (λ (x : Member). x.scenario), l) in
    all k 0 longer (sym (get_or-map (λ (x : Member). x.scenario) group k d 0 l ∙ e))

pub disjoint_all : (k : ℕ) (a b : List Member) → length a ≤ k
    → ((j : ℕ) (d : Member) → j < k → All (λ i. (get_or a j d).scenario ≢ i) (scenarios_in b)) → AreDisjoint a b
disjoint_all k a b l h =
    All-map (λ j. All (λ i. j ≢ i) (scenarios_in b)) (λ (x : Member). x.scenario) a
    (λ j d m. h j d (omega (arith, l, m)))

pub disjoint_at : (k : ℕ) (a b : List Member) (d : Member) → k < length a → AreDisjoint a b
    → All (λ i. (get_or a k d).scenario ≢ i) (scenarios_in b)
disjoint_at k a b d l h =
    let longer : k < length (scenarios_in a) = omega (arith, length-map a (λ (x : Member). x.scenario), l) in
    subst (λ (j : ℕ). All (λ i. j ≢ i) (scenarios_in b)) (get_or-map (λ (x : Member). x.scenario) a k d 0 l)
    (h k 0 longer)
