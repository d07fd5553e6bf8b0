use Rattle.std.proofs.Common.{◌≡◌, ◌∙◌, ◌-◌, ℕ, ap, sym, arith, length, get_or}
use Rattle.std.proofs.lemmas.List.Sorted.{length_permutation}
use Rattle.plan_table.proofs.FigureLemmas.{small_at_rank, figure_at_rank}
use Rattle.plan_table.proofs.figures.ranked_of.Goals as goal

pub returns : goal.returns
returns c =
    let xs = c.args.sums.now.items in
    let ys = c.sort_unstable.new.self.items in
    let s = c.sort_unstable.ensures.sorted in
    let p = c.sort_unstable.ensures.permutation in
    let some = c.requires.from in
    let few = c.requires.to in
    let small = c.requires.small in
    let each : length xs ≡ length ys = sym (length_permutation xs ys p) in
    let last : c.len.result ≡ length xs = omega (arith, c.len.ensures, c.sort_unstable.new.self.ok.0, each) in
    record {
      least = figure_at_rank 1 xs ys c.index.result.now s p (omega arith) (omega arith) small c.index.ensures;
      quantile = figure_at_rank c.args.rank xs ys c.index-2.result.now s p some few small c.index-2.ensures;
      greatest = figure_at_rank (length xs) xs ys c.index-3.result.now s p (omega arith) (omega arith) small
          (c.index-3.ensures ∙ ap (λ (k : ℕ). get_or ys (k - 1) c.index-3.result.now) last);
      quantile_small = small_at_rank c.args.rank xs ys c.index-2.result.now s p some few small c.index-2.ensures;
    }
