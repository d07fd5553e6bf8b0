-- What follows where a test or a case has some result.
use Rattle.std.proofs.Common.{◌≡◌, Bool, true, false, cond, Option, Some, None, refl, subst}

-- the two ways that a test can go
pub branch : {R : Type 0} (G : R → Type 0) (c : Bool) (x y : Option R) (r : R) → cond c x y ≡ Some r
    → (c ≡ true → x ≡ Some r → G r) → (c ≡ false → y ≡ Some r → G r) → G r
branch G true x y r e on off = on refl e
branch G false x y r e on off = off refl e

pub taken : {R : Type 0} (G : R → Type 0) (x r : R) → Some x ≡ Some r → G x → G r
taken G x r e g = let h : x ≡ r = cc in subst G h g

pub none_some : {R : Type 0} (r : R) → None ≡ Some r → ⊥
none_some r e = cc

pub guarded : {R : Type 0} (G : R → Type 0) (c : Bool) (x r : R) → cond c (Some x) None ≡ Some r
    → (c ≡ true → G x) → G r
guarded G true x r e on = taken G x r e (on refl)
guarded G false x r e on = absurd (none_some r e)
