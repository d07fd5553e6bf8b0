-- Files by their places: the first file of a name, and what a change to one file leaves of the others.
use Rattle.std.proofs.Common.{◌≡◌, ◌≢◌, ℕ, zero, suc, ◌<◌, Bool, true, false, List, [], ◌∷◌, ◌++◌, length, set, refl}
use Rattle.std.proofs.Common.{sym, ◌∙◌, ap, arith, subst, get_or, length-append}
use Rattle.std.specs.Prelude.{Option, Some, None, if◌then◌else◌, bytes_eq}
use Rattle.std.proofs.lemmas.Slice.Eq.{bytes_eq-Decides}
use Rattle.std.proofs.lemmas.List.{length-set}
use Rattle.std.proofs.lemmas.Bool.{true≢false}
use Rattle.plan_desk.specs.Stored.{Stored}
use Rattle.plan_desk.specs.Desk.{put_at}
use Rattle.plan_desk.specs.Mem.{first_of, held_by, IsAt, IsPut, file_at}

-- `files[i]` is the file at this place
pub at_index : (fs : List Stored) (i : ℕ) (f : Stored) → i < length fs → f ≡ get_or fs i f → file_at fs i ≡ f
at_index [] i f lt e = absurd (omega arith)
at_index (g ∷ fs) zero f lt e = sym e
at_index (g ∷ fs) (suc i) f lt e = at_index fs i f (omega arith) e

pub found : (fs : List Stored) (i : ℕ) (name : List ℕ) → i < length fs
    → ((k : ℕ) → k < i → bytes_eq name (file_at fs k).name ≡ false) → (file_at fs i).name ≡ name → IsAt fs i name
found [] i name lt before is = absurd (omega arith)
found (f ∷ fs) zero name lt before is = is
found (f ∷ fs) (suc i) name lt before is =
    (before 0 (omega arith), found fs i name (omega arith) (λ k h. before (suc k) (omega arith)) is)

pub absent : (fs : List Stored) (name : List ℕ) → ((k : ℕ) → k < length fs → bytes_eq name (file_at fs k).name ≡ false)
    → held_by fs name ≡ None
absent [] name before = refl
absent (f ∷ fs) name before = ap (λ (b : Bool). if b then Some f.bytes else held_by fs name) (before 0 (omega arith))
    ∙ absent fs name (λ k h. before (suc k) (omega arith))

cond_true : {A : Type 0} (b : Bool) (x y : A) → b ≡ true → (if b then x else y) ≡ x
cond_true b x y e = ap (λ (t : Bool). if t then x else y) e

cond_false : {A : Type 0} (b : Bool) (x y : A) → b ≡ false → (if b then x else y) ≡ y
cond_false b x y e = ap (λ (t : Bool). if t then x else y) e

same_eq : (a b : List ℕ) → a ≡ b → bytes_eq a b ≡ true
same_eq a b e = (bytes_eq-Decides a b).1 e

pub at_within : (fs : List Stored) (i : ℕ) (name : List ℕ) → IsAt fs i name → i < length fs
at_within [] i name at = absurd at
at_within (f ∷ fs) zero name at = omega arith
at_within (f ∷ fs) (suc i) name at = omega (arith, at_within fs i name at.1)

pub at_name : (fs : List Stored) (i : ℕ) (name : List ℕ) → IsAt fs i name → (file_at fs i).name ≡ name
at_name [] i name at = absurd at
at_name (f ∷ fs) zero name at = at
at_name (f ∷ fs) (suc i) name at = at_name fs i name at.1

-- the first file of its name
pub at_own : (fs : List Stored) (i : ℕ) (name : List ℕ) → IsAt fs i name → IsAt fs i (file_at fs i).name
at_own fs i name at = subst (IsAt fs i) (sym (at_name fs i name at)) at

pub first_at : (part : Stored → Option (List ℕ)) (fs : List Stored) (i : ℕ) (name : List ℕ) → IsAt fs i name
    → first_of part fs name ≡ part (file_at fs i)
first_at part [] i name at = absurd at
first_at part (f ∷ fs) zero name at = cond_true (bytes_eq name f.name) _ _ (same_eq _ _ (sym at))
first_at part (f ∷ fs) (suc i) name at = cond_false (bytes_eq name f.name) _ _ at.0 ∙ first_at part fs i name at.1

-- where a file of the same name stands in its place
first_of-set : (part : Stored → Option (List ℕ)) (fs : List Stored) (i : ℕ) (name : List ℕ) (g : Stored)
    → IsAt fs i name → g.name ≡ name → (other : List ℕ)
    → first_of part (set fs i g) other ≡ put_at name (part g) (first_of part fs) other
first_of-set part [] i name g at is other = absurd at
first_of-set part (f ∷ fs) zero name g at is other =
    go (bytes_eq other name) (ap (bytes_eq other) is) (ap (bytes_eq other) at)
  where
    go : (b : Bool) → bytes_eq other g.name ≡ b → bytes_eq other f.name ≡ b
        → (if bytes_eq other g.name then part g else first_of part fs other)
        ≡ (if b then part g else (if bytes_eq other f.name then part f else first_of part fs other))
    go true e h = cond_true _ _ _ e
    go false e h = cond_false _ _ _ e ∙ sym (cond_false _ _ _ h)
first_of-set part (f ∷ fs) (suc i) name g at is other =
    go (bytes_eq other f.name) refl (bytes_eq other name) refl (first_of-set part fs i name g at.1 is other)
  where
    go : (a : Bool) → bytes_eq other f.name ≡ a → (b : Bool) → bytes_eq other name ≡ b
        → first_of part (set fs i g) other ≡ (if bytes_eq other name then part g else first_of part fs other)
        → (if a then part f else first_of part (set fs i g) other)
        ≡ (if b then part g else (if a then part f else first_of part fs other))
    go true e true h rest =
        let x : other ≡ f.name = (bytes_eq-Decides other f.name).0 e in
        let y : other ≡ name = (bytes_eq-Decides other name).0 h in
        absurd (true≢false (sym (same_eq name f.name (sym y ∙ x)) ∙ at.0))
    go true e false h rest = refl
    go false e b h rest = rest ∙ ap (λ (t : Bool). if t then part g else first_of part fs other) h

-- and where one stands behind those of other names
first_of-behind : (part : Stored → Option (List ℕ)) (fs : List Stored) (g : Stored) → held_by fs g.name ≡ None
    → (other : List ℕ) → first_of part (fs ++ g ∷ []) other ≡ put_at g.name (part g) (first_of part fs) other
first_of-behind part [] g none other = refl
first_of-behind part (f ∷ fs) g none other = go (bytes_eq other f.name) refl (bytes_eq g.name f.name) refl
    (bytes_eq other g.name) refl (λ h. first_of-behind part fs g h other)
  where
    go : (a : Bool) → bytes_eq other f.name ≡ a → (n : Bool) → bytes_eq g.name f.name ≡ n → (b : Bool)
        → bytes_eq other g.name ≡ b
        → (held_by fs g.name ≡ None
        → first_of part (fs ++ g ∷ []) other ≡ (if bytes_eq other g.name then part g else first_of part fs other))
        → (if a then part f else first_of part (fs ++ g ∷ []) other)
        ≡ (if b then part g else (if a then part f else first_of part fs other))
    go a x true y b z rest =
        let is_some : Some f.bytes ≡ None =
        sym (ap (λ (t : Bool). if t then Some f.bytes else held_by fs g.name) y) ∙ none in
        absurd (cc is_some)
    go true x false y true z rest =
        let p : other ≡ f.name = (bytes_eq-Decides other f.name).0 x in
        let q : other ≡ g.name = (bytes_eq-Decides other g.name).0 z in
        absurd (true≢false (sym (same_eq g.name f.name (sym q ∙ p)) ∙ y))
    go true x false y false z rest = refl
    go false x false y b z rest =
        let none_after : held_by fs g.name ≡ None =
        sym (ap (λ (t : Bool). if t then Some f.bytes else held_by fs g.name) y) ∙ none in
        rest none_after ∙ ap (λ (t : Bool). if t then part g else first_of part fs other) z

name-set : (fs : List Stored) (i : ℕ) (g : Stored) (k : ℕ) → g.name ≡ (file_at fs i).name
    → (file_at (set fs i g) k).name ≡ (file_at fs k).name
name-set [] i g k is = refl
name-set (f ∷ fs) zero g zero is = is
name-set (f ∷ fs) zero g (suc k) is = refl
name-set (f ∷ fs) (suc i) g zero is = refl
name-set (f ∷ fs) (suc i) g (suc k) is = name-set fs i g k is

file_at-set : (fs : List Stored) (i : ℕ) (g : Stored) → i < length fs → file_at (set fs i g) i ≡ g
file_at-set [] i g lt = absurd (omega arith)
file_at-set (f ∷ fs) zero g lt = refl
file_at-set (f ∷ fs) (suc i) g lt = file_at-set fs i g (omega arith)

file_at-beside : (fs : List Stored) (i : ℕ) (g : Stored) (k : ℕ) → k ≢ i → file_at (set fs i g) k ≡ file_at fs k
file_at-beside [] i g k ne = refl
file_at-beside (f ∷ fs) zero g zero ne = absurd (ne refl)
file_at-beside (f ∷ fs) zero g (suc k) ne = refl
file_at-beside (f ∷ fs) (suc i) g zero ne = refl
file_at-beside (f ∷ fs) (suc i) g (suc k) ne = file_at-beside fs i g k (λ e. ne (ap suc e))

-- the first file of a name keeps its place
at-set : (fs : List Stored) (i : ℕ) (g : Stored) (k : ℕ) (name : List ℕ) → g.name ≡ (file_at fs i).name → IsAt fs k name
    → IsAt (set fs i g) k name
at-set [] i g k name is at = absurd at
at-set (f ∷ fs) zero g zero name is at = is ∙ at
at-set (f ∷ fs) zero g (suc k) name is at = (ap (bytes_eq name) is ∙ at.0, at.1)
at-set (f ∷ fs) (suc i) g zero name is at = at
at-set (f ∷ fs) (suc i) g (suc k) name is at = (at.0, at-set fs i g k name is at.1)

-- there is one first file of a name
pub one_place : (fs : List Stored) (i j : ℕ) (name : List ℕ) → IsAt fs i name → IsAt fs j name → i ≡ j
one_place [] i j name x y = absurd x
one_place (f ∷ fs) zero zero name x y = refl
one_place (f ∷ fs) zero (suc j) name x y = absurd (true≢false (sym (same_eq name f.name (sym x)) ∙ y.0))
one_place (f ∷ fs) (suc i) zero name x y = absurd (true≢false (sym (same_eq name f.name (sym y)) ∙ x.0))
one_place (f ∷ fs) (suc i) (suc j) name x y = ap suc (one_place fs i j name x.1 y.1)

at-behind : (fs : List Stored) (g : Stored) → held_by fs g.name ≡ None → IsAt (fs ++ g ∷ []) (length fs) g.name
at-behind [] g none = refl
at-behind (f ∷ fs) g none = go (bytes_eq g.name f.name) refl (at-behind fs g)
  where
    go : (b : Bool) → bytes_eq g.name f.name ≡ b → (held_by fs g.name ≡ None → IsAt (fs ++ g ∷ []) (length fs) g.name)
        → (bytes_eq g.name f.name ≡ false) × IsAt (fs ++ g ∷ []) (length fs) g.name
    go true e rest =
        let is_some : Some f.bytes ≡ None =
        sym (ap (λ (t : Bool). if t then Some f.bytes else held_by fs g.name) e) ∙ none in
        absurd (cc is_some)
    go false e rest = (e, rest (sym (ap (λ (t : Bool). if t then Some f.bytes else held_by fs g.name) e) ∙ none))

name-behind : (fs : List Stored) (g : Stored) (k : ℕ) → k < length fs
    → (file_at (fs ++ g ∷ []) k).name ≡ (file_at fs k).name
name-behind [] g k lt = absurd (omega arith)
name-behind (f ∷ fs) g zero lt = refl
name-behind (f ∷ fs) g (suc k) lt = name-behind fs g k (omega arith)

-- a file of this name was there
pub put_over : (old new : List Stored) (i : ℕ) (f : Stored) → IsAt old i f.name
    → new ≡ set old i (record f { name = (file_at old i).name }) → IsPut old new i f
put_over old new i f at e =
    let is : (file_at old i).name ≡ f.name = at_name old i f.name at in
    let put : new ≡ set old i f = e ∙ ap (λ (n : List ℕ). set old i (record f { name = n })) is in
    subst (λ (l : List Stored). IsPut old l i f) (sym put) (record {
      first = at-set old i f i f.name (sym is) at;
      files = λ part j other. first_of-set part old i f.name f at refl other j;
      names = λ k lt. (omega (arith, length-set old i f, lt), name-set old i f k (sym is));
    })

-- no file of this name was there
pub put_behind : (old new : List Stored) (i : ℕ) (f : Stored) → i ≡ length old → held_by old f.name ≡ None
    → new ≡ old ++ f ∷ [] → IsPut old new i f
put_behind old new i f at none e =
    subst (λ (l : List Stored). IsPut old l i f) (sym e)
    (subst (λ (k : ℕ). IsPut old (old ++ f ∷ []) k f) (sym at) (record {
      first = at-behind old f none;
      files = λ part j other. first_of-behind part old f none other j;
      names = λ k lt. (omega (arith, length-append old (f ∷ []), lt), name-behind old f k lt);
    }))

-- the file at a place has other bytes
module _ (old : List Stored) (i : ℕ) (g : Stored) (first : IsAt old i (file_at old i).name)
    (is : g.name ≡ (file_at old i).name) where
  pub same_name_at : (k : ℕ) → (file_at (set old i g) k).name ≡ (file_at old k).name
  same_name_at k = name-set old i g k is

  pub file_here : file_at (set old i g) i ≡ g
  file_here = file_at-set old i g (at_within old i _ first)

  pub file_there : (k : ℕ) → k ≢ i → file_at (set old i g) k ≡ file_at old k
  file_there k ne = file_at-beside old i g k ne

  pub first_after : (part : Stored → Option (List ℕ))
      → first_of part (set old i g) ≡ put_at (file_at old i).name (part g) (first_of part old)
  first_after part = λ j other. first_of-set part old i (file_at old i).name g first is other j

  pub still_at : (k : ℕ) → IsAt old k (file_at old k).name → IsAt (set old i g) k (file_at (set old i g) k).name
  still_at k at = subst (IsAt (set old i g) k) (sym (same_name_at k)) (at-set old i g k (file_at old k).name is at)
