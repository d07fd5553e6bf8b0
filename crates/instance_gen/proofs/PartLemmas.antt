-- Limits, seasons and exclusions with one more.
use Rattle.std.proofs.Common.{arith, ◌≡◌, ℕ, ◌+◌, sym, List, [], ◌∷◌, ◌++◌, append-nil}
use Rattle.std.proofs.Common.{Bool, ◌&&◌, nat_le, ℤ}
use Rattle.std.proofs.lemmas.List.{replicate-append-replicate}
use Rattle.std.proofs.lemmas.List.FromFn.{map-range_with_len_more}
use Rattle.instance_gen.specs.Drawing.{whole}
use Rattle.instance_gen.specs.Drawn.{drawn_exclusion, drawn_exclusions, level_limits, season_from}

pub limits-none : (before : List ℤ) (limit : ℕ) → before ≡ before ++ level_limits 0 limit
unfolding level_limits
limits-none before limit = sym (append-nil before)

pub limits-more : (k limit : ℕ) → level_limits (k + 1) limit ≡ level_limits k limit ++ whole limit ∷ []
unfolding level_limits
limits-more k limit = sym (replicate-append-replicate k 1 (whole limit))

pub season-none : (before : List Bool) (a b : ℕ) → before ≡ before ++ season_from 0 a b
unfolding season_from
season-none before a b = sym (append-nil before)

pub season-more : (k a b : ℕ)
    → season_from (k + 1) a b ≡ season_from k a b ++ (nat_le a (k + 1) && nat_le (k + 1) b) ∷ []
unfolding season_from
season-more k a b = map-range_with_len_more (λ t. nat_le a t && nat_le t b) 1 k (k + 1) (omega arith)

pub exclusions-more : (k : ℕ) → drawn_exclusions (k + 1) ≡ drawn_exclusions k ++ drawn_exclusion k ∷ []
unfolding drawn_exclusions
exclusions-more k = map-range_with_len_more drawn_exclusion 0 k k (omega arith)
