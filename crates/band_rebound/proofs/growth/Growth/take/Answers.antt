use Rattle.std.proofs.Common.{ℕ, ◌+◌, inl, inr, refl, sym, ◌∙◌, ap, arith}
use Rattle.std.proofs.lemmas.Bool.{false≢true}
use Rattle.band_rebound.proofs.growth.Growth.take.Goals as goal

pub returns-then-is_same : goal.returns-then-is_same
returns-then-is_same c =
    let self = c.args.self.now in
    record {
      nodes = c.in_ok-push.ensures.items;
      bound = c.bound_with-self.ensures;
      one = record { kept = 1; changed = 0 };
      counts_leaf = inl (c.is_same.ensures.0 c.if-is_same.true, refl);
      counts = ap (λ (n : ℕ). record { kept = self.kept + 1; changed = n }) (omega arith);
    }

pub returns-else-is_same : goal.returns-else-is_same
returns-else-is_same c =
    let self = c.args.self.now in
    record {
      nodes = c.in_ok-push.ensures.items;
      bound = c.bound_with-self.ensures;
      one = record { kept = 0; changed = 1 };
      counts_leaf = inr (λ e. false≢true (sym c.if-is_same.false ∙ c.is_same.ensures.1 e), refl);
      counts = ap (λ (n : ℕ). record { kept = n; changed = self.changed + 1 }) (omega arith);
    }
