-- What is told of a certificate that was made.
use Rattle.std.proofs.Common.{◌≡◌, ◌⊎◌, inl, inr, ◌<◌, ◌≤◌, ◌+◌, ◌-◌, ◌^◌, ℕ, ℤ, pos, ◌-ℤ◌, ◌≤ℤ◌, sym, subst, List, []}
use Rattle.std.proofs.Common.{◌∷◌, length, arith}
use Rattle.std.proofs.Math.Nat.{min-le_left}
use Rattle.std.specs.Prelude.{Ok, Err}
use Rattle.plan_desk.specs.Desk.{Shown}
use Rattle.plan_desk.specs.Contents.{OnlyReads, KeepsFiles}
use Rattle.instance_model.specs.declared.limits.Limits.{Limits}
use Rattle.instance_model.specs.Tables.{Tables}
use Rattle.instance_model.specs.Fitting.{IsFitting}
use Rattle.lagrange_bound.specs.Goals.{risk_base, risk_value, ValuesAreSmall}
use Rattle.lagrange_bound.specs.Worth.{WorthsAreSmall}
use Rattle.lagrange_bound.specs.Tabulated.{PriceRows}
use Rattle.certificate_tree.specs.declared.node.Node.{Node}
use Rattle.certificate_tree.specs.Validity.{Claim, IsProved}
use Rattle.certificate_tree.specs.PriceTables.{table_worths, AreTablesOf}
use Rattle.certificate_tree.specs.Laws.{NodesAreOneTree, ProvedBoundsPlans}
use Rattle.certificate_text.proofs.KeyLemmas.{below_or_not}
use Rattle.certificate_text.specs.Lengths.{counted}
use Rattle.certificate_text.proofs.CountLemmas.{counted_small, counted_large}
use Rattle.band_rebound.specs.declared.rebounded.ReboundTree.{ReboundTree}
use Rattle.band_rebound.specs.Rebinding.{ReachLeastBound}
use Rattle.band_rebound.specs.Rebounds.{IsReboundBy}
use Rattle.band_rebound.proofs.SameLemmas.{rebound_same}
use Rattle.band_rebound.proofs.ReboundLemmas.{is_right_tree, reach_least_bound}
use Rattle.command_frame.specs.Sources.{Source}
use Rattle.command_frame.specs.Lines.{write_line}
use Rattle.command_frame.specs.Ending.{Answer, reply, Ends}
use Rattle.command_frame.specs.Files.{reading}
use Rattle.command_frame.specs.Kinds.{CertificateKind, IsLawfulKind}
use Rattle.command_frame.specs.Refusals.{SaysOrFails}
use Rattle.command_frame.specs.Writing.{PutsFile}
use Rattle.command_frame.specs.Writing.TellsAnswer.{written, unwritten}
use Rattle.command_frame.proofs.EndLemmas.{memory_ends}
use Rattle.command_frame.proofs.WriteLemmas.{puts_none, puts_first, puts_more, told_ends}
use Rattle.command_frame.specs.Outputs.{long_output_line}
use Rattle.command_rebound.specs.declared.making.Made.{Made}
use Rattle.command_rebound.specs.Rebinding.{BecomesBy, with_tree, rebound_report, out_write, RebindsBy}
use Rattle.command_rebound.specs.Rebinding.{AnswersReboundBy, DueRebound}
use Rattle.command_rebound.specs.Rebinding.RebindsBy.{rebound, too_long}
use Rattle.command_rebound.specs.Made.{AreRead, IsRightFor, IsMade, TellsNew, TellsRebound}
use Rattle.command_rebound.specs.Made.TellsNew.{long, short}
use Rattle.command_rebound.specs.Made.TellsRebound.{told, no_memory}
use Rattle.command_rebound.proofs.ReadingLemmas.{read_answers}
use Rattle.command_rebound.proofs.ReboundRun.{rebound_stays}

-- the number that counts a length says whether it is above a limit that is small
pub counted_above : (n m most : ℕ) → m ≡ counted n → most < m → most < n
counted_above n m most e l = let below : counted n ≤ n = min-le_left n (2 ^ 64 - 1) in omega (arith, below, e, l)

-- and that it isn't
pub counted_within : (n m most : ℕ) → m ≡ counted n → most ≤ 2 ^ 32 → m ≤ most → n ≤ most
counted_within n m most e small l = at (below_or_not n (2 ^ 64 - 1))
  where
    at : (n < 2 ^ 64 - 1) ⊎ (2 ^ 64 - 1 ≤ n) → n ≤ most
    at (inl h) = let same = counted_small n (omega (arith, h)) in omega (arith, same, e, l)
    at (inr h) = let same = counted_large n h in absurd (omega (arith, same, e, l, small))

-- ---- what a certificate becomes

module _ {C : Type 0} (kind : CertificateKind C) (inst : Tables) (cert : C) (tree : ReboundTree) (fit : IsFitting inst)
    (lawful : IsLawfulKind kind inst) (range : kind.range inst cert) where
  abbrev claim : Claim
  claim = kind.claim inst cert

  -- by the tables of its lists
  pub becomes_by : (tables : List PriceRows) (nodes : List Node) → nodes ≡ claim.nodes
      → AreTablesOf inst claim.lists claim.worths tables
      → IsReboundBy inst (length tables - 1) (table_worths tables) nodes tree → BecomesBy kind inst cert tree
  becomes_by tables nodes nodes_are are is =
      rebound_same inst claim.lists (table_worths tables) claim.worths are.same claim.nodes tree fit
      (subst (λ (n : ℕ). IsReboundBy inst n (table_worths tables) claim.nodes tree) (one_less are.each)
      (subst (λ (ns : List Node). IsReboundBy inst (length tables - 1) (table_worths tables) ns tree) nodes_are is))
    where
      one_less : length tables ≡ claim.lists + 1 → length tables - 1 ≡ claim.lists
      one_less e = omega (arith, e)

  reach : WorthsAreSmall risk_base → ReachLeastBound inst claim.worths
  reach worths = λ box is_box starts.
      subst (λ (z : ℤ). (pos 0 -ℤ pos (10 ^ 36)) ≤ℤ z)
      (sym ((lawful.claims cert range).zeros box 0 (omega arith) is_box starts))
      (reach_least_bound inst [] fit worths box is_box starts)

  -- the new certificate is right
  pub is_right_for : NodesAreOneTree → ProvedBoundsPlans → WorthsAreSmall risk_base → ValuesAreSmall risk_value
      → BecomesBy kind inst cert tree → IsRightFor kind inst cert tree
  is_right_for one law worths values is =
      let claims = lawful.claims cert range in
      let right = is_right_tree inst claim.lists claim.worths claim.nodes tree fit one law values is in
      let remade = lawful.remade cert tree.bound tree.nodes in
      record {
        is = is;
        claims = remade;
        in_range = lawful.in_range cert tree.bound tree.nodes is.new range (right.in_range (reach worths)) is.of_new;
        valid = subst (λ (c : Claim). IsProved risk_value inst c) (sym remade) right.proved;
        no_lower = right.no_lower claims.boxes claim.bound claims.bound;
      }

-- ---- what is told of it

-- the new certificate was written, and the report was said
pub written_new : {C : Type 0} (kind : CertificateKind C) (limits : Limits) (inst : Tables) (cert : C)
    (out report : List ℕ) {T E : Type 0} {x : T} (old mid new : Shown) (status : ℕ)
    → length (kind.text inst cert) ≤ limits.certificate_bytes
    → PutsFile {E = E} (out_write kind inst out cert).file old mid (Ok x) → KeepsFiles mid new
    → SaysOrFails 0 report mid new status
    → TellsNew kind limits inst cert out report old new status
written_new kind limits inst cert out report {T = T} old mid new status within puts keeps says =
    short within
    (written mid (puts_more {U = Unit {0}} (out_write kind inst out cert) [] old mid mid (Ok (tt {0})) puts
    (puts_none (tt {0}) mid)) keeps says)

-- its writing stopped, and that was said
pub unwritten_new : {C : Type 0} (kind : CertificateKind C) (limits : Limits) (inst : Tables) (cert : C)
    (out report : List ℕ) {T E : Type 0} {e : E} (old mid new : Shown) (status : ℕ)
    → length (kind.text inst cert) ≤ limits.certificate_bytes
    → PutsFile {T = T} (out_write kind inst out cert).file old mid (Err e) → KeepsFiles mid new
    → SaysOrFails 8 (write_line 4) mid new status
    → TellsNew kind limits inst cert out report old new status
unwritten_new kind limits inst cert out report old mid new status within puts keeps says =
    short within (unwritten mid 4 (puts_first (Unit {0}) (out_write kind inst out cert) [] old mid puts) keeps says)

-- what is told of the new certificate is an answer to the old one
module _ {C : Type 0} (kind : CertificateKind C) (limits : Limits) (inst : Tables) (cert : C) (out : List ℕ)
    (made : Made) (is : IsMade kind inst cert made) where
  is_answer : length (kind.text inst (with_tree kind cert made.tree)) ≤ limits.certificate_bytes
      → RebindsBy kind limits inst out cert (record {
        status = 0;
        text = rebound_report inst made.tree;
        writes = out_write kind inst out (with_tree kind cert made.tree) ∷ [];
      })
  is_answer within = rebound made.tree (record {
    is = is.right.is;
    claims = is.right.claims;
    valid = is.right.valid;
    checkable = (is.acceptable limits (with_tree kind cert made.tree)
        (record { in_range = is.right.in_range; valid = is.right.valid; within = within })).checkable;
    no_lower = is.right.no_lower;
    within = within;
  })

  pub told_new : (old new : Shown) (status : ℕ)
      → TellsNew kind limits inst (with_tree kind cert made.tree) out (rebound_report inst made.tree) old new status
      → TellsRebound kind limits inst cert out old new status
  told_new old new status (long more keeps says) =
      told (reply 12 (long_output_line 4)) (too_long made.tree (record { is = is.right.is; long = more }))
      (written old (puts_none {T = Unit {0}} tt old) keeps says)
  told_new old new status (short within tells) = told _ (is_answer within) tells

-- ---- the end of a run

module _ {C : Type 0} (kind : CertificateKind C) (limits : Limits) (source : Source) (cert_name out : List ℕ)
    (old mid new : Shown) (reads : OnlyReads old mid) (inst : Tables) (cert : C)
    (read : AreRead kind limits source cert_name old inst cert) where
  abbrev Answering : Shown → Answer → Type 0
  Answering at = AnswersReboundBy kind limits (reading old at) source.slack source.instance cert_name out

  pub read_ends : (status : ℕ) → mid.faults ≡ old.faults → TellsRebound kind limits inst cert out mid new status
      → Ends (DueRebound kind limits source cert_name out old) old new status
  read_ends status last (told a rebinds tells) =
      told_ends Answering old mid a reads last
      (read_answers kind limits source cert_name out old mid inst cert a read rebinds) new status
      (λ at. rebound_stays kind limits source cert_name out old mid at) tells
  read_ends status last (no_memory keeps says) = memory_ends Answering old mid new status reads keeps last says
