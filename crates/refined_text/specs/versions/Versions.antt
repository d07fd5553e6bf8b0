-- A certificate of version 1 or 2 as one by refined price lists.
use Rattle.std.specs.Prelude.{map}
use Rattle.instance_model.specs.Tables.{Tables}
use Rattle.certificate_tree.specs.declared.certificate.Certificate.{Certificate}
use Rattle.refined_check.specs.declared.certificate.certificate.RefinedCertificate.{RefinedCertificate}
use Rattle.refined_check.specs.Singles.{refined_of}

-- the same bound and nodes, and each price list as a refined one
abbrev pub refined_certificate_of : Tables → Certificate → RefinedCertificate
refined_certificate_of inst cert =
    record { bound = cert.bound; lists = map (refined_of inst) cert.lists; nodes = cert.nodes }
