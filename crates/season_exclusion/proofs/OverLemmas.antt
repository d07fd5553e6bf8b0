-- What is kept of the exclusions is right after one start was changed.
use Rattle.std.proofs.Common.{◌≡◌, ℕ, ◌<◌, refl, sym, ◌∙◌, arith, Bool, true, false, ◌≢◌, List, [], length, get_or, set}
use Rattle.std.proofs.Common.{subst}
use Rattle.std.specs.List.{All, Contains}
use Rattle.std.proofs.lemmas.Bool.Decides.{nat_tests}
use Rattle.instance_model.specs.declared.parts.Exclusion.{Exclusion}
use Rattle.instance_model.specs.Tables.{Tables, exclusion_of}
use Rattle.instance_model.specs.Plans.{AreAllowedStarts}
use Rattle.season_exclusion.specs.Broken.{is_broken, is_named, naming_of, count_set}
use Rattle.season_exclusion.specs.KeptClashes.{KeptClashes, IsOver}
use Rattle.season_exclusion.proofs.BrokenLemmas.{is_broken-other, count_set-broken}
use Rattle.season_exclusion.proofs.NamedLemmas.{naming_to-names, naming_to-each}

not_named : (x : Exclusion) (i : ℕ) → is_named x i ≡ false → (x.first ≢ i) × (x.second ≢ i)
not_named x i e = (grind (arith, nat_tests), grind (arith, nat_tests))

-- those that name intervention i were tested again, and the others are as they were
pub record AreRetested (inst : Tables) (starts : List ℕ) (i : ℕ) (old new : List Bool) : Type 0 where
  pub each : length new ≡ length old
  pub named : All (λ e. get_or new e false ≡ is_broken inst starts e) (naming_of inst i)
  pub others : (e : ℕ) → ¬ Contains (naming_of inst i) e → get_or new e false ≡ get_or old e false

retested : (inst : Tables) (starts : List ℕ) (i s : ℕ) (old new : List Bool)
    → AreRetested inst (set starts i s) i old new
    → ((e : ℕ) → e < length inst.exclusion_names → get_or old e false ≡ is_broken inst starts e) → (e : ℕ)
    → e < length inst.exclusion_names → get_or new e false ≡ is_broken inst (set starts i s) e
retested inst starts i s old new h right e l = at (is_named (exclusion_of inst e) i) refl
  where
    found : Contains (naming_of inst i) e → get_or new e false ≡ is_broken inst (set starts i s) e
    found w = let (k, m, p) = w in
        subst (λ (d : ℕ). get_or new d false ≡ is_broken inst (set starts i s) d) p (h.named k e m)

    stays : (is_named (exclusion_of inst e) i ≡ false) → ¬ Contains (naming_of inst i) e
    stays q w =
        let (k, m, p) = w in
        let one = subst (λ (d : ℕ). is_named (exclusion_of inst d) i ≡ true) p
        (naming_to-names inst (length inst.exclusion_names) i k e m).named in
        let no : true ≡ false = sym one ∙ q in
        absurd (cc)

    at : (b : Bool) → is_named (exclusion_of inst e) i ≡ b → get_or new e false ≡ is_broken inst (set starts i s) e
    at true q = found (naming_to-each inst (length inst.exclusion_names) i e l q)
    at false q =
        let other = not_named (exclusion_of inst e) i q in
        h.others e (stays q) ∙ right e l ∙ sym (is_broken-other inst starts i s e other.0 other.1)

-- after the change of one start, what is kept is right again
pub IsOver-after : (inst : Tables) (v : KeptClashes) (i s : ℕ) (starts : List ℕ) (flags : List Bool) (count : ℕ)
    → IsOver inst v → AreAllowedStarts inst starts → starts ≡ set v.starts i s
    → AreRetested inst starts i v.broken flags → count ≡ count_set flags
    → IsOver inst (record { starts = set v.starts i s; broken = flags; count = count; named = v.named })
IsOver-after inst v i s starts flags count over allowed is h c =
    let changed = subst (λ (x : List ℕ). AreRetested inst x i v.broken flags) is h in
    let right = retested inst v.starts i s v.broken flags changed over.broken in
    record {
      starts = subst (AreAllowedStarts inst) is allowed;
      each = h.each ∙ over.each;
      broken = right;
      count = c ∙ count_set-broken inst (set v.starts i s) flags (h.each ∙ over.each) right;
      named_each = over.named_each;
      named = over.named;
    }

-- the count that is kept is that of the flags
pub count_set-over : (inst : Tables) (v : KeptClashes) → IsOver inst v → v.count ≡ count_set v.broken
count_set-over inst v over = over.count ∙ sym (count_set-broken inst v.starts v.broken over.each over.broken)

-- what is kept of starts at first
pub record AreFlagsOf (inst : Tables) (starts : List ℕ) (flags : List Bool) : Type 0 where
  pub each : length flags ≡ length inst.exclusion_names
  pub broken : (e : ℕ) → e < length inst.exclusion_names → get_or flags e false ≡ is_broken inst starts e

pub record AreListsOf (inst : Tables) (lists : List (List ℕ)) : Type 0 where
  pub each : length lists ≡ length inst.names
  pub named : (i : ℕ) → i < length inst.names → get_or lists i [] ≡ naming_of inst i

pub IsOver-made : (inst : Tables) (starts kept : List ℕ) (flags : List Bool) (count : ℕ) (lists : List (List ℕ))
    → kept ≡ starts → AreAllowedStarts inst starts → AreFlagsOf inst starts flags → count ≡ count_set flags
    → AreListsOf inst lists → IsOver inst (record { starts = kept; broken = flags; count = count; named = lists })
IsOver-made inst starts kept flags count lists is allowed f c named =
    rw is (record {
      starts = allowed;
      each = f.each;
      broken = f.broken;
      count = c ∙ count_set-broken inst starts flags f.each f.broken;
      named_each = named.each;
      named = named.named;
    })

-- the named exclusions are exclusions
pub named_within : (inst : Tables) (v : KeptClashes) (i : ℕ) → IsOver inst v → i < length inst.names
    → All (λ e. e < length inst.exclusion_names) (get_or v.named i [])
named_within inst v i over l =
    let names = naming_to-names inst (length inst.exclusion_names) i in
    rw (over.named i l) (λ k d m. (names k d m).within)
