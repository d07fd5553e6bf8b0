-- What the steps of writing a certificate say. Cited by private functions only: no part of any promise.
use Rattle.std.specs.Prelude.{ℕ, ◌*◌, ◌==◌, if◌then◌else◌, List, [], ◌∷◌, length, take, drop}
use Rattle.instance_model.specs.Tables.{Tables}
use Rattle.lagrange_bound.specs.Prices.{PriceList, up_of, lo_of}
use Rattle.certificate_lines.specs.declared.line.Side.{Side}
use Rattle.certificate_lines.specs.declared.line.Side.TheVariants.{Over, Under}
use Rattle.certificate_lines.specs.declared.line.CertificateLine.{CertificateLine}
use Rattle.certificate_lines.specs.declared.line.CertificateLine.TheVariants as line
use Rattle.certificate_tree.specs.declared.certificate.Certificate.{Certificate}
use Rattle.certificate_text.specs.Text.{limit_lines}

-- the prices on the upper or on the lower limits
abbrev pub limit_table : Side → PriceList → List ℕ
limit_table Over prices = prices.up
limit_table Under prices = prices.lo

-- the form of their lines
abbrev pub limit_form : Side → ℕ → ℕ → ℕ → CertificateLine
limit_form Over = line.Up
limit_form Under = line.Lo

-- one of these prices
abbrev pub limit_of : Tables → Side → PriceList → ℕ → ℕ → ℕ
limit_of inst Over prices c t = up_of inst prices c t
limit_of inst Under prices c t = lo_of inst prices c t

-- the line of a price, where it isn't 0
abbrev pub price_lines : Side → ℕ → ℕ → ℕ → List CertificateLine
price_lines side c t v = if v == 0 then [] else limit_form side c t v ∷ []

-- the lines of the prices of one resource
abbrev pub row_lines : Tables → Side → PriceList → ℕ → List CertificateLine
row_lines inst side prices c = limit_lines (limit_form side) inst.periods (c * inst.periods)
    (take inst.periods (drop (c * inst.periods) (limit_table side prices)))

-- the first three lines of a certificate
abbrev pub header_lines : Certificate → List CertificateLine
header_lines cert = line.Title cert.version ∷ line.Bound cert.bound ∷ line.Lists (length cert.lists) ∷ []
