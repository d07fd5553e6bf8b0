-- The bytes of the files have one answer.
use Rattle.std.proofs.Common.{◌≡◌, ◌<◌, ◌≤◌, ℕ, List, [], ◌∷◌, length, sym, ap, subst, arith, refl}
use Rattle.instance_model.specs.declared.limits.Limits.{Limits}
use Rattle.instance_model.specs.Tables.{Tables}
use Rattle.certificate_tree.proofs.OneTree.{nodes_are_one_tree}
use Rattle.band_rebound.specs.declared.rebounded.ReboundTree.{ReboundTree}
use Rattle.band_rebound.proofs.ReboundLemmas.{one_rebound_tree}
use Rattle.command_frame.specs.Ending.{IsOneAnswer}
use Rattle.command_frame.specs.Files.{by_bytes, OnCertificateBy}
use Rattle.command_frame.specs.Kinds.{CertificateKind}
use Rattle.command_frame.proofs.AnswerLemmas.{instance_once, certificate_once}
use Rattle.command_rebound.specs.Rebinding.{BecomesBy, with_tree, rebound_report, out_write, RebindsBy}
use Rattle.command_rebound.specs.Rebinding.{AnswersReboundBy}
use Rattle.command_rebound.specs.Rebinding.RebindsBy.{rebound, too_long}

module _ {C : Type 0} (kind : CertificateKind C) where
  -- a certificate becomes one other
  pub same_answer : (inst : Tables) (cert : C) (a b : ReboundTree) → BecomesBy kind inst cert a
      → BecomesBy kind inst cert b → a ≡ b
  same_answer inst cert a b x y =
      let claim = kind.claim inst cert in
      sym (one_rebound_tree nodes_are_one_tree inst claim.lists claim.worths claim.nodes a b x y)

  -- its text is not both within a limit and longer
  pub not_both : (inst : Tables) (cert : C) (a b : ReboundTree) (most : ℕ) → BecomesBy kind inst cert a
      → BecomesBy kind inst cert b → length (kind.text inst (with_tree kind cert a)) ≤ most
      → most < length (kind.text inst (with_tree kind cert b)) → ⊥
  not_both inst cert a b most x y within long =
      let here = subst (λ (r : ReboundTree). most < length (kind.text inst (with_tree kind cert r)))
      (sym (same_answer inst cert a b x y)) long in
      omega (arith, within, here)

  rebinds_once : (limits : Limits) (inst : Tables) (out : List ℕ) (cert : C)
      → IsOneAnswer (RebindsBy kind limits inst out cert)
  rebinds_once limits inst out cert a b (rebound x h) (rebound y k) =
      ap (λ (r : ReboundTree). record {
        status = 0;
        text = rebound_report inst r;
        writes = out_write kind inst out (with_tree kind cert r) ∷ [];
      }) (same_answer inst cert x y h.is k.is)
  rebinds_once limits inst out cert a b (rebound x h) (too_long y k) =
      absurd (not_both inst cert x y limits.certificate_bytes h.is k.is h.within k.long)
  rebinds_once limits inst out cert a b (too_long x h) (rebound y k) =
      absurd (not_both inst cert y x limits.certificate_bytes k.is h.is k.within h.long)
  rebinds_once limits inst out cert a b (too_long x h) (too_long y k) = refl

  pub rebound_once : (limits : Limits) (slack : ℕ) (instance cert out : List ℕ)
      → IsOneAnswer (AnswersReboundBy kind limits by_bytes slack instance cert out)
  rebound_once limits slack instance cert out =
      instance_once limits slack 2 instance
      (λ inst. OnCertificateBy kind.texts limits inst by_bytes 3 cert (RebindsBy kind limits inst out))
      (λ inst. certificate_once limits inst 3 cert (RebindsBy kind limits inst out) (rebinds_once limits inst out))
