-- The names that are kept of an object without a fault are its keys.
use Rattle.std.proofs.Common.{◌≡◌, ℕ, ◌||◌, Bool, true, false, cond, List, [], ◌∷◌, ◌++◌, map, refl, sym, ◌∙◌, ap}
use Rattle.std.proofs.Common.{subst, bytes_eq, append_assoc, append-nil, arith}
use Rattle.std.specs.List.{list_any}
use Rattle.json_grammar.specs.Tree.{Tree, tree, Node, Members, no_members, and_member, Event, key}
use Rattle.instance_model.specs.declared.limits.Limits.{Limits}
use Rattle.instance_shape.specs.declared.fault.Known.TheVariants as is
use Rattle.instance_shape.specs.declared.spot.Spot.{Spot}
use Rattle.instance_shape.specs.declared.spot.Spot.TheVariants as spot
use Rattle.instance_shape.specs.declared.spot.Kind.TheVariants as kind
use Rattle.instance_shape.specs.Keys.{Key, by_text, key_of, has_key}
use Rattle.instance_shape.specs.Shape.{kind_of, has_shape, under}
use Rattle.instance_shape.specs.ShapeFaults.{key_faults, keys_faults}
use Rattle.instance_shape.specs.LookUp.{Entry, entries, entry_list, keys, known}
use Rattle.instance_shape.proofs.Clear.{IsClear, clear_left, clear_right, inside_clear}
use Rattle.shape_walk.specs.Kept.{keep_value}
use Rattle.instance_read.specs.Keeping.{keep_names, with_name, is_resources, is_seasons, is_interventions}
use Rattle.instance_read.specs.Keeping.{is_exclusions}
use Rattle.instance_read.proofs.Branches.{is_beside, is_inner, inner_under, inner_element}
use Rattle.instance_read.proofs.Carried.{value_idle}
use Rattle.instance_read.proofs.Once.{new_key}
use Rattle.instance_read.proofs.RootParts.{root_kept, HasPart, root_part}
use Rattle.instance_read.proofs.Wholes.{each_entry, IsKeyOf, object_kept}

-- ---- names one after another

among_names : (names : List (List ℕ)) (k : List ℕ)
    → has_key (map by_text names) (by_text k) ≡ list_any (bytes_eq k) names
among_names [] k = refl
among_names (j ∷ names) k = ap (λ b. bytes_eq k j || b) (among_names names k)

map_last : (names : List (List ℕ)) (k : List ℕ) → map by_text names ++ by_text k ∷ [] ≡ map by_text (names ++ k ∷ [])
map_last [] k = refl
map_last (j ∷ names) k = ap (λ r. by_text j ∷ r) (map_last names k)

-- a name of each entry
abbrev add_names : List Entry → List (List ℕ) → List (List ℕ)
add_names es names = each_entry (λ k t ns. with_name k ns) es names

names_added : (limits : Limits) (s : Spot) (names : List (List ℕ)) (ms : Members) → kind_of s ≡ kind.Names
    → keys_faults limits s (map by_text names) ms ≡ []
    → add_names (entry_list ms) names ≡ names ++ map (λ e. e.key) (entry_list ms)
names_added limits s names no_members i h = sym (append-nil names)
names_added limits s names (and_member at end k t ms) i h =
    let texts : key_of (kind_of s) k ≡ by_text k ∷ [] = ap (λ q. key_of q k) i in
    let new : list_any (bytes_eq k) names ≡ false = sym (among_names names k)
    ∙ new_key limits s (map by_text names) at k texts
    (clear_left (key_faults limits s (map by_text names) at k) _ h) in
    let rest : keys_faults limits s (map by_text (names ++ k ∷ [])) ms ≡ [] =
    subst (λ (ks : List Key). keys_faults limits s ks ms ≡ [])
    (ap (λ r. map by_text names ++ r) texts ∙ map_last names k)
    (clear_right (key_faults limits s (map by_text names) at k) _ h) in
    ap (λ b. add_names (entry_list ms) (cond b names (names ++ k ∷ []))) new
    ∙ names_added limits s (names ++ k ∷ []) ms i rest
    ∙ append_assoc names (k ∷ []) (map (λ e. e.key) (entry_list ms))

entries_added : (limits : Limits) (s : Spot) (t : Tree) → kind_of s ≡ kind.Names → IsClear limits s t
    → add_names (entries t) [] ≡ keys t
entries_added limits s (tree at end (Node.object ms)) i h = names_added limits s [] ms i
    (clear_left (keys_faults limits s [] ms) _ (inside_clear limits s at end (Node.object ms) h))
entries_added limits s (tree at end _) i h = refl

-- ---- an object of names

idle_names : (here : Spot → Bool) (q : Spot) (e : Event) (a : List (List ℕ)) → here q ≡ false
    → keep_names here q e a ≡ a
idle_names here q (key at end k) a h = ap (λ b. cond b (with_name k a) a) h
idle_names here q _ a h = refl

names_kept : (limits : Limits) (here : Spot → Bool) (s : Spot) (t : Tree) → kind_of s ≡ kind.Names → here s ≡ true
    → ((q : Spot) → is_inner q ≡ true → here q ≡ false)
    → ((k : List ℕ) → is_inner (under s k) ≡ true) → IsClear limits s t
    → keep_value (keep_names here) s t [] ≡ keys t
names_kept limits here s t i h outside below clear =
    object_kept limits (keep_names here) s (λ ns. ns) (λ k x ns. with_name k ns) one (λ ns. ns)
    (λ n. ap (λ q. has_shape q n) i) (λ at a. refl) (λ at a. refl) t [] clear
    ∙ entries_added limits s t i clear
  where
    inner_idle : (q : Spot) (e : Event) (a : List (List ℕ)) → is_inner q ≡ true → keep_names here q e a ≡ a
    inner_idle q e a p = idle_names here q e a (outside q p)

    one : (at end : ℕ) (k : List ℕ) (x : Tree) (a : List (List ℕ)) → IsKeyOf (kind_of s) k
        → IsClear limits (under s k) x
        → keep_value (keep_names here) (under s k) x (keep_names here s (key at end k) a) ≡ with_name k a
    one at end k x a g c =
        value_idle (keep_names here) is_inner inner_under inner_element inner_idle (under s k) x
        (keep_names here s (key at end k) a) (below k)
        ∙ ap (λ b. cond b (with_name k a) a) h

-- ---- of a text

not_resources : (q : Spot) → is_beside 1 q ≡ true → is_resources q ≡ false
not_resources spot.Resources h = cc
not_resources _ h = refl

inner_not_resources : (q : Spot) → is_inner q ≡ true → is_resources q ≡ false
inner_not_resources spot.Resources h = cc
inner_not_resources _ h = refl

pub resources_kept : (limits : Limits) (root : Tree) → IsClear limits spot.Root root
    → keep_value (keep_names is_resources) spot.Root root [] ≡ keys (known is.Resources root)
resources_kept limits root h =
    let part : HasPart limits is.Resources spot.Resources root =
    root_part limits root 0 is.Resources spot.Resources h (omega arith) refl refl in
    root_kept (keep_names is_resources) 1 is.Resources spot.Resources refl refl refl
    (λ q e a p. idle_names is_resources q e a (not_resources q p))
    (λ e a. idle_names is_resources spot.Root e a refl) limits root part.value [] h part.found
    ∙ names_kept limits is_resources spot.Resources (known is.Resources root) refl refl
    inner_not_resources (λ k. refl) part.clear

not_seasons : (q : Spot) → is_beside 2 q ≡ true → is_seasons q ≡ false
not_seasons spot.Seasons h = cc
not_seasons _ h = refl

inner_not_seasons : (q : Spot) → is_inner q ≡ true → is_seasons q ≡ false
inner_not_seasons spot.Seasons h = cc
inner_not_seasons _ h = refl

pub seasons_kept : (limits : Limits) (root : Tree) → IsClear limits spot.Root root
    → keep_value (keep_names is_seasons) spot.Root root [] ≡ keys (known is.Seasons root)
seasons_kept limits root h =
    let part : HasPart limits is.Seasons spot.Seasons root =
    root_part limits root 1 is.Seasons spot.Seasons h (omega arith) refl refl in
    root_kept (keep_names is_seasons) 2 is.Seasons spot.Seasons refl refl refl
    (λ q e a p. idle_names is_seasons q e a (not_seasons q p)) (λ e a. idle_names is_seasons spot.Root e a refl)
    limits root part.value [] h part.found
    ∙ names_kept limits is_seasons spot.Seasons (known is.Seasons root) refl refl
    inner_not_seasons (λ k. refl) part.clear

not_interventions : (q : Spot) → is_beside 3 q ≡ true → is_interventions q ≡ false
not_interventions spot.Interventions h = cc
not_interventions _ h = refl

inner_not_interventions : (q : Spot) → is_inner q ≡ true → is_interventions q ≡ false
inner_not_interventions spot.Interventions h = cc
inner_not_interventions _ h = refl

pub interventions_kept : (limits : Limits) (root : Tree) → IsClear limits spot.Root root
    → keep_value (keep_names is_interventions) spot.Root root [] ≡ keys (known is.Interventions root)
interventions_kept limits root h =
    let part : HasPart limits is.Interventions spot.Interventions root =
    root_part limits root 2 is.Interventions spot.Interventions h (omega arith) refl refl in
    root_kept (keep_names is_interventions) 3 is.Interventions spot.Interventions refl refl refl
    (λ q e a p. idle_names is_interventions q e a (not_interventions q p))
    (λ e a. idle_names is_interventions spot.Root e a refl) limits root part.value [] h part.found
    ∙ names_kept limits is_interventions spot.Interventions (known is.Interventions root) refl refl
    inner_not_interventions (λ k. refl) part.clear

not_exclusions : (q : Spot) → is_beside 4 q ≡ true → is_exclusions q ≡ false
not_exclusions spot.Exclusions h = cc
not_exclusions _ h = refl

inner_not_exclusions : (q : Spot) → is_inner q ≡ true → is_exclusions q ≡ false
inner_not_exclusions spot.Exclusions h = cc
inner_not_exclusions _ h = refl

pub exclusions_kept : (limits : Limits) (root : Tree) → IsClear limits spot.Root root
    → keep_value (keep_names is_exclusions) spot.Root root [] ≡ keys (known is.Exclusions root)
exclusions_kept limits root h =
    let part : HasPart limits is.Exclusions spot.Exclusions root =
    root_part limits root 3 is.Exclusions spot.Exclusions h (omega arith) refl refl in
    root_kept (keep_names is_exclusions) 4 is.Exclusions spot.Exclusions refl refl refl
    (λ q e a p. idle_names is_exclusions q e a (not_exclusions q p))
    (λ e a. idle_names is_exclusions spot.Root e a refl) limits root part.value [] h part.found
    ∙ names_kept limits is_exclusions spot.Exclusions (known is.Exclusions root) refl refl
    inner_not_exclusions (λ k. refl) part.clear
