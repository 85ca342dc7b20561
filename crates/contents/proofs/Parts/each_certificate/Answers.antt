-- `contents::Parts::each_certificate` meets its contract: the last of them ends where the bundle does.
use Rattle.std.proofs.Common.{ap₂, ◌∙◌}
use Rattle.contents.specs.Certificates.{whole, certificates-whole}
use Rattle.contents.proofs.Parts.each_certificate.Goals as goal

pub invariant_of-result : goal.invariant_of-result
invariant_of-result c = let parts = c.args.self.now in record { whole = ap₂ whole parts.edition_is parts.certificates_are ∙ certificates-whole _ _ }

pub returns : goal.returns
returns c = record { edition = c.args.self.now.edition_is; rest = c.args.self.now.certificates_are }
