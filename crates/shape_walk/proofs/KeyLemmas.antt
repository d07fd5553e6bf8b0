-- What is wrong with a key, by how the keys of its object count.
use Rattle.std.proofs.Common.{◌≡◌, ℕ, List, ◌++◌, [], ◌∷◌, Bool, true, false, cond, not, sym, ◌∙◌, ap, subst, refl}
use Rattle.std.proofs.Common.{length, ◌&&◌, Some, None, arith, append-nil}
use Rattle.instance_model.specs.declared.limits.Limits.{Limits}
use Rattle.instance_shape.specs.declared.fault.Flaw.TheVariants as flaw
use Rattle.instance_shape.specs.declared.fault.Fault.{Fault}
use Rattle.instance_shape.specs.declared.spot.Spot.{Spot}
use Rattle.instance_shape.specs.declared.spot.Spot.TheVariants as spot
use Rattle.instance_shape.specs.declared.spot.Kind.{Kind}
use Rattle.instance_shape.specs.declared.spot.Kind.TheVariants as kind
use Rattle.instance_shape.specs.Keys.{Key, by_text, by_number, key_of, has_key, is_name, is_digits, number_of}
use Rattle.instance_shape.specs.Keys.{is_double}
use Rattle.instance_shape.specs.Seen.{texts_of, numbers_of}
use Rattle.instance_shape.specs.Shape.{kind_of}
use Rattle.instance_shape.specs.ShapeFaults.{where_so, key_faults, takes_names, takes_numbers, first_past, key_limit}
use Rattle.shape_walk.specs.Flaws.{first_flaw}
use Rattle.shape_walk.specs.declared.taken.Read.TheVariants.{Whole}
use Rattle.shape_walk.specs.Reads.{read_of_key}
use Rattle.shape_walk.specs.Seen.{counts_by_text}

length-texts_of : (ks : List (List ℕ)) → length (texts_of ks) ≡ length ks
length-texts_of [] = refl
length-texts_of (k ∷ ks) = omega (arith, length-texts_of ks)

-- a new key that counts by its text is no period or start
new_by_text : (kd : Kind) (ks : List Key) (k : List ℕ) (at : ℕ) (rest : List Fault) → counts_by_text kd ≡ true
    → has_key ks (by_text k) ≡ false
    → where_so (takes_names kd && not (is_name k)) at flaw.BadName ++ rest
    ≡ where_so (is_double ks (key_of kd k)) at flaw.Double ++ where_so (takes_names kd && not (is_name k)) at
    flaw.BadName ++ where_so (takes_numbers kd && not (is_digits k)) at flaw.Shape ++ rest
new_by_text kind.Record ks k at rest h e = simp e
new_by_text kind.Names ks k at rest h e = simp (e, append-nil)
new_by_text _ ks k at rest h e = cc

-- a new key that counts by its text
pub text_case : (limits : Limits) (s : Spot) (ks : List (List ℕ)) (k : List ℕ) (before at : ℕ)
    → counts_by_text (kind_of s) ≡ true
    → has_key (texts_of ks) (by_text k) ≡ false → before ≡ length ks
    → first_flaw (where_so (takes_names (kind_of s) && not (is_name k)) at flaw.BadName
    ++ first_past (key_limit limits s) before at) ≡ first_flaw (key_faults limits s (texts_of ks) at k)
text_case limits s ks k before at h e f =
    ap (λ n. first_flaw (where_so (takes_names (kind_of s) && not (is_name k)) at flaw.BadName
    ++ first_past (key_limit limits s) n at)) (f ∙ sym (length-texts_of ks))
    ∙ ap first_flaw
    (new_by_text (kind_of s) (texts_of ks) k at (first_past (key_limit limits s) (length (texts_of ks)) at) h e)

no_text : (ns : List ℕ) (k : List ℕ) → has_key (numbers_of ns) (by_text k) ≡ false
no_text [] k = refl
no_text (n ∷ ns) k = no_text ns k

no_digits : (b : Bool) (n : ℕ) → None ≡ cond b (Some n) None → b ≡ false
no_digits true n h = cc
no_digits false n h = refl

pub are_digits : (b : Bool) (n m : ℕ) → Some m ≡ cond b (Some n) None → b ≡ true
are_digits true n m h = refl
are_digits false n m h = cc

pub digits_write : (b : Bool) (n m : ℕ) → Some m ≡ cond b (Some n) None → n ≡ m
digits_write true n m h = cc
digits_write false n m h = cc

-- a key that is a period or start counts as its number, which is read
pub number_key : (kd : Kind) (k : List ℕ) (n : ℕ) → kd ≡ kind.Numbers → is_digits k ≡ true → number_of k ≡ n
    → key_of kd k ≡ by_number n ∷ []
number_key kd k n h d e = rw (h, d, e) refl

pub number_read : (kd : Kind) (k : List ℕ) (n : ℕ) → kd ≡ kind.Numbers → is_digits k ≡ true → number_of k ≡ n
    → read_of_key kd k ≡ Whole n
number_read kd k n h d e = rw (h, d, e) refl

-- a key that has to be a period or start and isn't
pub number_case : (limits : Limits) (s : Spot) (ns : List ℕ) (k : List ℕ) (at : ℕ) → kind_of s ≡ kind.Numbers
    → None ≡ cond (is_digits k) (Some (number_of k)) None
    → Some flaw.Shape ≡ first_flaw (key_faults limits s (numbers_of ns) at k)
number_case limits s ns k at h e =
    let d : is_digits k ≡ false = no_digits (is_digits k) (number_of k) e in
    let rest : List Fault = first_past (key_limit limits s) (length (numbers_of ns)) at in
    let P : Kind → Type 0 = λ kd. Some flaw.Shape
    ≡ first_flaw
    (where_so (is_double (numbers_of ns) (key_of kd k)) at flaw.Double ++ where_so (takes_names kd && not (is_name k))
    at flaw.BadName ++ where_so (takes_numbers kd && not (is_digits k)) at flaw.Shape ++ rest) in
    subst P (sym h) (simp (d, no_text))

number_wrong : (ks : List Key) (k : List ℕ) (n at : ℕ) → is_digits k ≡ true → number_of k ≡ n
    → first_flaw (where_so (is_double ks (key_of kind.Numbers k)) at flaw.Double
    ++ [] ++ where_so (not (is_digits k)) at flaw.Shape ++ [])
    ≡ cond (has_key ks (by_number n)) (Some flaw.Double) None
number_wrong ks k n at d e = by (has_key ks (by_number n)) refl
  where
    by : (b : Bool) → has_key ks (by_number n) ≡ b
        → first_flaw (where_so (is_double ks (key_of kind.Numbers k)) at flaw.Double
        ++ [] ++ where_so (not (is_digits k)) at flaw.Shape ++ [])
        ≡ cond b (Some flaw.Double) None
    by true h = simp (d, e, h)
    by false h = simp (d, e, h)

-- what is wrong with a key that is a period or start
pub number_flaw : (limits : Limits) (s : Spot) (ns : List ℕ) (k : List ℕ) (n at : ℕ) → kind_of s ≡ kind.Numbers
    → is_digits k ≡ true → number_of k ≡ n
    → first_flaw (key_faults limits s (numbers_of ns) at k)
    ≡ cond (has_key (numbers_of ns) (by_number n)) (Some flaw.Double) None
number_flaw limits spot.WorkloadResource ns k n at h d e = number_wrong (numbers_of ns) k n at d e
number_flaw limits spot.WorkloadPeriod ns k n at h d e = number_wrong (numbers_of ns) k n at d e
number_flaw limits spot.Risk ns k n at h d e = number_wrong (numbers_of ns) k n at d e
number_flaw limits spot.RiskPeriod ns k n at h d e = number_wrong (numbers_of ns) k n at d e
number_flaw limits _ ns k n at h d e = cc

pub is_new : (b : Bool) → not b ≡ true → b ≡ false
is_new true h = cc
is_new false h = refl
