-- The net that the code has read from a bundle.
use Rattle.std.specs.Prelude.{◌≡◌, List, ℕ, Ok}
use Rattle.std.proofs.Common.{sym}
use Rattle.std.specs.Borrow.{Bor}
use Rattle.bundles.specs.Readers.{events_in, bundle_head}
use Rattle.bundles.specs.HeadReading.{HeadAt, HeadIsRead, head_read, kept_read}
use Rattle.bundles.specs.Keeping.{kept}
use Rattle.bundles.specs.declared.net.Net as bundles

-- a net that was read from a bundle is the bundle's
pub record NetOf (b : List ℕ) (net : bundles.Net) : Type 0 where
  pub found : HeadAt (kept net)
  pub events : events_in b ≡ net.n
  pub same : net.bundle.now ≡ b
  pub read : HeadIsRead b

pub net-of : (bundle : Bor (List ℕ)) (net : bundles.Net) → Ok (kept net) ≡ head_read bundle (bundle_head bundle.now 0) → NetOf bundle.now net
net-of bundle net e =
    let (found, same, read) = kept_read bundle (kept net) (sym e) in
    record { found = found; events = rw same at found.events; same = same; read = read }
