-- The order of keys.
use Rattle.std.proofs.Common.{arith, inl, inr, ◌∙◌}
use Rattle.fixed_num.proofs.SignedLemmas.{signed_arith}
use Rattle.instance_model.specs.declared.key.Key.{Key}
use Rattle.instance_model.specs.Keys.{KeyBelow}

-- no key is below itself
pub KeyBelow-same : (key : Key) → KeyBelow key key → ⊥
KeyBelow-same key b = elim b [ inl v ↦ omega (arith, signed_arith) | inr s ↦ omega (arith, signed_arith) ]

-- a key below one that is below a third is below the third
pub KeyBelow-trans : (a b c : Key) → KeyBelow a b → KeyBelow b c → KeyBelow a c
KeyBelow-trans a b c ab bc = elim ab [
  | inl v ↦ elim bc [
    | inl w ↦ inl (omega (arith, signed_arith))
    | inr w ↦ let e = w.0 in
        inl (omega (arith, signed_arith))
  ]
  | inr v ↦ elim bc [
    | inl w ↦ let e = v.0 in inl (omega (arith, signed_arith))
    | inr w ↦ let e = v.1 in let f = w.1 in
        inr (v.0 ∙ w.0, omega (arith, signed_arith))
  ]
]
