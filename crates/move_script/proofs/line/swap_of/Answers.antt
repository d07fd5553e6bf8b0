use Rattle.std.proofs.Common.{◌≡◌, length, get_or, codes, arith, rules}
use Rattle.std.proofs.lemmas.Bool.Decides.{Decides-eqb}
use Rattle.text_lines.proofs.CutLemmas.{not_cut}
use Rattle.move_script.proofs.LineLemmas.{behind, no_swap, no_names}
use Rattle.move_script.proofs.line.swap_of.Goals as goal
use Rattle.move_script.proofs.line.swap_of.Goals.{then-is_empty-via-then-is_empty}
use Rattle.move_script.proofs.line.swap_of.Goals.{then-is_empty-via-else-is_empty+then-is_empty-2}
use Rattle.move_script.proofs.line.swap_of.Goals.{then-is_empty-via-else-is_empty+else-is_empty-2+then-contains}

pub returns-in_err-name-clause-none : goal.returns-in_err-name-clause-none
returns-in_err-name-clause-none c =
    let words = c.in_ok-words.words in
    rw c.from_residual-in_err-name.ensures
    (no_swap c.args.line.now words.now (behind c.args.line.now (codes "swap ") words c.in_ok-words.ensures.cases)
    (λ name other word other_word e. not_cut 32 words.now name other e c.in_err-name.ensures.none))

pub returns-then-is_empty-clause-none : goal.returns-then-is_empty-clause-none
returns-then-is_empty-clause-none c =
    let words = c.in_ok-words.words in
    no_swap c.args.line.now words.now (behind c.args.line.now (codes "swap ") words c.in_ok-words.ensures.cases)
    (no_names words.now c.in_ok-name.name.now c.in_ok-name.other.now c.in_ok-name.ensures.cut
    c.in_ok-name.ensures.first (λ word other_word.
    elim c.then-is_empty.branch [
      | then-is_empty-via-then-is_empty w ↦ let none : length c.in_ok-name.name.now ≡ 0 = search rules in
          omega (arith, none, word.some)
      | then-is_empty-via-else-is_empty+then-is_empty-2 w ↦ let none : length c.in_ok-name.other.now ≡ 0 =
          search rules in omega (arith, none, other_word.some)
      | then-is_empty-via-else-is_empty+else-is_empty-2+then-contains w ↦
          let at = w.if-contains.ensures.cases in
          let blank : get_or c.in_ok-name.other.now at.0 0 ≡ 32 =
          (Decides-eqb (get_or c.in_ok-name.other.now at.0 0) 32).0 (at.2 0) in
          other_word.unbroken at.0 0 at.1 blank
    ]))
