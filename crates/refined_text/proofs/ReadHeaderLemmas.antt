-- The first three lines.
use Rattle.std.proofs.Common.{◌≡◌, ℕ, ◌≤◌, refl, sym, ◌∙◌, ap, subst, [], ◌∷◌, Result}
use Rattle.std.specs.Result.{IfOk, IfErr}
use Rattle.std.proofs.lemmas.Result.{IfOk-weaker, IfErr-weaker}
use Rattle.instance_model.specs.Tables.{Tables}
use Rattle.certificate_lines.specs.declared.line.Version.TheVariants.{Two}
use Rattle.certificate_lines.specs.declared.line.Bound.{Bound}
use Rattle.certificate_lines.specs.declared.line.CertificateLine.{CertificateLine}
use Rattle.certificate_lines.specs.declared.line.CertificateLine.TheVariants as line
use Rattle.certificate_tree.specs.Ranges.{IsBoundInRange}
use Rattle.certificate_text.specs.Grammar.{bound, count, Stands}
use Rattle.certificate_text.specs.declared.read.fault.CertFault.{CertFault}
use Rattle.certificate_text.specs.declared.read.refusal.Refusal.{Refusal}
use Rattle.certificate_text.specs.declared.read.refusal.Refusal.TheVariants.{Misplaced}
use Rattle.certificate_text.specs.read.Lines.{Left}
use Rattle.certificate_text.specs.read.Reading.{fault_at, Refuses}
use Rattle.refined_text.specs.declared.lines.line.RefinedLine.{RefinedLine}
use Rattle.refined_text.specs.declared.lines.line.RefinedLine.TheVariants.{Title, Plain}
use Rattle.refined_text.specs.lines.Spelling.{IsPlain}
use Rattle.refined_text.specs.grammar.Further.{no_further}
use Rattle.refined_text.specs.grammar.Grammar.{start, within, ComesFirst, RefinedStands}
use Rattle.refined_text.specs.read.Taking.{RefinedRefuses}
use Rattle.refined_text.specs.read.Reading.{ReadsRefined, RefinedPasses, RefinedFails, lists_begin}
use Rattle.refined_text.proofs.ReadStepLemmas.{passes_line, fails_told}
use Rattle.refined_text.proofs.ReadTreeLemmas.{plain_refused}

-- ---- the title

pub title_read : (inst : Tables) (old new : Left) (a : RefinedLine) → ReadsRefined old new a → a ≡ Title
    → RefinedPasses inst start old (Title ∷ []) (within (bound Two) (no_further inst)) new
title_read inst old new a r e =
    passes_line inst start old new Title (subst (λ (x : RefinedLine). ReadsRefined old new x) e r) tt tt

no_title : (a : RefinedLine) → (a ≡ Title → ⊥) → RefinedStands start a → ⊥
no_title Title other s = other refl
no_title _ other s = s

pub title_refused : (inst : Tables) (old new : Left) (a : RefinedLine) (fault : CertFault)
    → fault ≡ fault_at new.count Misplaced → ReadsRefined old new a → (a ≡ Title → ⊥)
    → RefinedFails inst start old fault
title_refused inst old new a fault e r other =
    fails_told inst start old new a Misplaced fault e (λ z. z) r (no_title a other)

-- ---- the bound

bound_only : (a : CertificateLine) (kind : ℕ) → Stands (bound Two) a → IsPlain a × ComesFirst a kind
bound_only (line.Bound least) kind s = (tt, tt)
bound_only _ kind s = absurd s

pub bound_found : (a : RefinedLine) (b : CertificateLine) (read : Result Bound Refusal) → a ≡ Plain b
    → IfOk read (λ least. (b ≡ line.Bound least) × IsBoundInRange least)
    → IfOk read (λ least. (a ≡ Plain (line.Bound least)) × IsBoundInRange least)
bound_found a b read e h = IfOk-weaker read (λ least. (b ≡ line.Bound least) × IsBoundInRange least)
    (λ least. (a ≡ Plain (line.Bound least)) × IsBoundInRange least)
    (λ least p. (e ∙ ap (λ (x : CertificateLine). Plain x) p.0, p.1)) h

pub bound_refused : (inst : Tables) (a : RefinedLine) (b : CertificateLine) (read : Result Bound Refusal)
    → a ≡ Plain b → IfErr read (Refuses inst (bound Two) b)
    → IfErr read (RefinedRefuses inst (within (bound Two) (no_further inst)) a)
bound_refused inst a b read e h = IfErr-weaker read (Refuses inst (bound Two) b)
    (RefinedRefuses inst (within (bound Two) (no_further inst)) a)
    (λ refusal r. subst (λ (x : RefinedLine). RefinedRefuses inst (within (bound Two) (no_further inst)) x refusal)
    (sym e) (plain_refused inst (bound Two) (no_further inst) b refusal (bound_only b 0) r)) h

pub bound_read : (inst : Tables) (old new : Left) (a : RefinedLine) (least : Bound) → ReadsRefined old new a
    → a ≡ Plain (line.Bound least) → IsBoundInRange least
    → RefinedPasses inst (within (bound Two) (no_further inst)) old (Plain (line.Bound least) ∷ [])
    (within (count Two) (no_further inst)) new
bound_read inst old new a least r e range =
    passes_line inst (within (bound Two) (no_further inst)) old new (Plain (line.Bound least))
    (subst (λ (x : RefinedLine). ReadsRefined old new x) e r) (tt, tt, tt) (range, tt)

-- ---- how many price lists follow

count_only : (a : CertificateLine) (kind : ℕ) → Stands (count Two) a → IsPlain a × ComesFirst a kind
count_only (line.Lists n) kind s = (tt, tt)
count_only _ kind s = absurd s

pub count_found : (a : RefinedLine) (b : CertificateLine) (read : Result ℕ Refusal) → a ≡ Plain b
    → IfOk read (λ n. (b ≡ line.Lists n) × (n ≤ 16)) → IfOk read (λ n. (a ≡ Plain (line.Lists n)) × (n ≤ 16))
count_found a b read e h = IfOk-weaker read (λ n. (b ≡ line.Lists n) × (n ≤ 16))
    (λ n. (a ≡ Plain (line.Lists n)) × (n ≤ 16))
    (λ n p. (e ∙ ap (λ (x : CertificateLine). Plain x) p.0, p.1)) h

pub count_refused : (inst : Tables) (a : RefinedLine) (b : CertificateLine) (read : Result ℕ Refusal) → a ≡ Plain b
    → IfErr read (Refuses inst (count Two) b)
    → IfErr read (RefinedRefuses inst (within (count Two) (no_further inst)) a)
count_refused inst a b read e h = IfErr-weaker read (Refuses inst (count Two) b)
    (RefinedRefuses inst (within (count Two) (no_further inst)) a)
    (λ refusal r. subst (λ (x : RefinedLine). RefinedRefuses inst (within (count Two) (no_further inst)) x refusal)
    (sym e) (plain_refused inst (count Two) (no_further inst) b refusal (count_only b 0) r)) h

pub count_read : (inst : Tables) (old new : Left) (a : RefinedLine) (n : ℕ) → ReadsRefined old new a
    → a ≡ Plain (line.Lists n) → n ≤ 16
    → RefinedPasses inst (within (count Two) (no_further inst)) old (Plain (line.Lists n) ∷ [])
    (lists_begin inst n) new
count_read inst old new a n r e few =
    passes_line inst (within (count Two) (no_further inst)) old new (Plain (line.Lists n))
    (subst (λ (x : RefinedLine). ReadsRefined old new x) e r) (tt, tt, tt) (few, tt)
