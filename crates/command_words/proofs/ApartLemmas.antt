-- Names of which no two are the same, pair by pair.
use Rattle.std.proofs.Common.{◌≡◌, ◌≢◌, ℕ, List, [], ◌∷◌, Bool, true, false, refl, sym, ◌∙◌}
use Rattle.std.specs.Prelude.{bytes_eq, not, ◌&&◌}
use Rattle.std.proofs.lemmas.Slice.Eq.{bytes_eq-Decides}
use Rattle.command_words.specs.Files.{differs_from_each, are_apart}

both : (a b : Bool) → (a && b) ≡ true → (a ≡ true) × (b ≡ true)
both true b e = (refl, e)
both false b e = cc

is_not : (a : Bool) → not a ≡ true → a ≡ false
is_not true e = cc
is_not false e = refl

apart : (a b : List ℕ) → not (bytes_eq a b) ≡ true → a ≢ b
apart a b h e = never (sym ((bytes_eq-Decides a b).1 e) ∙ is_not (bytes_eq a b) h)
  where
    never : true ≡ false → ⊥
    never n = cc

-- a name that is none of some, and the rest of them
pub differs : (name other : List ℕ) (others : List (List ℕ)) → differs_from_each name (other ∷ others) ≡ true
    → (name ≢ other) × (differs_from_each name others ≡ true)
unfolding differs_from_each
differs name other others h =
    let two = both (not (bytes_eq name other)) (differs_from_each name others) h in (apart name other two.0, two.1)

-- four names
pub record AreFour (a b c d : List ℕ) : Type 0 where
  pub ab : a ≢ b
  pub ac : a ≢ c
  pub ad : a ≢ d
  pub bc : b ≢ c
  pub bd : b ≢ d
  pub cd : c ≢ d

pub four_apart : (a b c d : List ℕ) → are_apart (a ∷ b ∷ c ∷ d ∷ []) ≡ true → AreFour a b c d
unfolding are_apart
four_apart a b c d h =
    let first = both (differs_from_each a (b ∷ c ∷ d ∷ [])) (are_apart (b ∷ c ∷ d ∷ [])) h in
    let second = both (differs_from_each b (c ∷ d ∷ [])) (are_apart (c ∷ d ∷ [])) first.1 in
    let third = both (differs_from_each c (d ∷ [])) (are_apart (d ∷ [])) second.1 in
    let b_and = differs a b (c ∷ d ∷ []) first.0 in
    let c_and = differs a c (d ∷ []) b_and.1 in
    let d_and = differs a d [] c_and.1 in
    let bc_and = differs b c (d ∷ []) second.0 in
    let bd_and = differs b d [] bc_and.1 in
    let cd_and = differs c d [] third.0 in
    record { ab = b_and.0; ac = c_and.0; ad = d_and.0; bc = bc_and.0; bd = bd_and.0; cd = cd_and.0 }
