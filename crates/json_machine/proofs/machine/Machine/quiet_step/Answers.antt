use Rattle.std.proofs.Common.{◌≡◌, ◌∙◌, sym, ap, true, Bool, ℕ, List, [], ◌∷◌, ◌++◌}
use Rattle.json_grammar.specs.laws.Machine.{step, go, is_plain}
use Rattle.json_machine.specs.Machines.{mode_of}
use Rattle.json_machine.specs.declared.machine.Mode.{Mode}
use Rattle.json_machine.specs.declared.machine.Mode.TheVariants.{Str}
use Rattle.json_machine.specs.declared.within.Within.TheVariants.{Plain}
use Rattle.json_machine.proofs.Runs.{plain_goes}
use Rattle.json_machine.proofs.machine.Machine.quiet_step.Goals as goal

string_stays : (k : ℕ) (levels : List Bool) (mode : Mode) (at : ℕ) (token new : List ℕ) (is_key : Bool) (b : ℕ)
    → mode ≡ Str is_key Plain → new ≡ token ++ b ∷ [] → is_plain b ≡ true
    → step k levels (mode_of mode at token) b ≡ go levels (mode_of mode at new)
string_stays k levels mode at token new is_key b e f h = rw (e, f) (plain_goes k b at levels is_key token h)

pub returns-in_ok-push-in-Plain-clause-moves : goal.returns-in_ok-push-in-Plain-clause-moves
returns-in_ok-push-in-Plain-clause-moves c _ =
    string_stays c.args.k _ c.args.self.now.mode c.args.self.now.at c.args.self.now.token.items _
    c.in-Str.field-0 c.args.byte
    (c.in-Str.is ∙ ap (Str c.in-Str.field-0) c.in-Plain.is)
    c.in_ok-push-in-Plain.ensures.items
    (sym c.is_plain.ensures ∙ c.if-is_plain.true)
