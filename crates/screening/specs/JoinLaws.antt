-- What the laws of joined nets are stated with. They are in proofs/JoinLaws.antt.
use Rattle.std.specs.Prelude.{◌≡◌, List, [], ℕ}
use Rattle.nets.specs.Nets.{join}
use Rattle.bundles.specs.Readers.{events_in, net_in}
use Rattle.bundles.specs.HeadReading.{HeadIsRead}

-- ---- the whole answer

-- the bundle `none` is read, has no places, and the event count of b where that is read
pub record NoPlaces (b none : List ℕ) : Type 0 where
  pub read : HeadIsRead none
  pub places : net_in none ≡ []
  pub events : HeadIsRead b → events_in b ≡ events_in none

-- three bundles are read, over the same events, and the place list of `whole` is that of `first`, then that of `second`
pub record JoinOf (first second whole : List ℕ) : Type 0 where
  pub first_read : HeadIsRead first
  pub second-read : HeadIsRead second
  pub whole-read : HeadIsRead whole
  pub first-events : events_in first ≡ events_in whole
  pub second-events : events_in second ≡ events_in whole
  pub places : net_in whole ≡ join (net_in first) (net_in second)
