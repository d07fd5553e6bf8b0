use Rattle.std.proofs.Common.{◌≡◌, ◌∙◌, ap, rules}
use Rattle.season_exclusion.specs.Broken.{count_set}
use Rattle.season_exclusion.proofs.OverLemmas.{AreFlagsOf, AreListsOf, IsOver-made}
use Rattle.season_exclusion.proofs.clashes.Clashes.make.Goals as goal

pub returns-clause-over : goal.returns-clause-over
returns-clause-over c =
    let inst = c.args.inst.now in
    let starts = c.args.starts.now in
    let kept : c.in_ok-starts.starts.items ≡ starts = search rules in
    let flags : AreFlagsOf inst starts c.in_ok-broken.broken.items =
    record { each = c.in_ok-broken.ensures.each; broken = c.in_ok-broken.ensures.broken } in
    let lists : AreListsOf inst c.in_ok-named.named.items =
    record { each = c.in_ok-named.ensures.each; named = c.in_ok-named.ensures.named } in
    let count = c.count_set-count.ensures ∙ ap count_set c.deref.ensures.value in
    IsOver-made inst starts c.in_ok-starts.starts.items c.in_ok-broken.broken.items c.count_set-count.result
    c.in_ok-named.named.items kept c.requires flags count lists
