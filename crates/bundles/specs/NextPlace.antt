-- The places of a bundle: that the code's place j is that of the net, and where they are, one after another.
use Rattle.std.specs.Prelude.{◌≡◌, List, ℕ, ◌+◌, ◌*◌, ◌≤◌, ◌<◌, get_or}
use Rattle.std.proofs.Common.{sym, ◌∙◌, zero-mul, suc-mul, add-one, arith}
use Rattle.std.proofs.Math.Path.{ap}
use Rattle.laws.specs.Lists.{get_d_map}
use Rattle.nets.specs.Nets.{Place, no_place}
use Rattle.places.specs.Machine.{place_of}
use Rattle.places.specs.declared.Place as Declared
use Rattle.bundles.specs.Layout.{to_place, to_net}
use Rattle.bundles.specs.Readers.{net_in}
use Rattle.bundles.specs.NumberReading.{items_at, items-length, get_d_items}
use Rattle.bundles.specs.PlaceReading.{place_size, fields_at, place_on, machine_place, place_means, place_inside, Kept, spot_of, place_there}
use Rattle.bundles.specs.HeadReading.{HeadAt}

-- of `count` places from `first` on, j are done, and `spot` is the offset of the next one
pub record Next (n first count spot j : ℕ) : Type 0 where
  pub most : j ≤ count
  pub offset : spot ≡ first + 2 * (j * place_size n)

pub next_start : (n first count : ℕ) → Next n first count first 0
next_start n first count = record { most = omega arith; offset = omega (arith, zero-mul (place_size n)) }

module _ {n first count spot j : ℕ} (next : Next n first count spot j) (h : j < count) where
  -- it is there
  pub next-there : (size : ℕ) → first + 2 * (count * place_size n) ≤ size → spot + 2 * place_size n ≤ size
  next-there size inside = omega (arith, place_inside n first count j size h inside, next.offset)

  -- the code's place there is place j from `first` on
  pub next_place : (b : List ℕ) {q : Declared.Place} → q ≡ machine_place (fields_at n b spot)
      → place_of q ≡ place_on n b (first + 2 * (j * place_size n))
  next_place b e = ap place_of e ∙ place_means (fields_at n b spot) ∙ ap (place_on n b) next.offset

  pub next-again : Next n first count (spot + 2 * place_size n) (j + 1)
  next-again = record { most = omega arith; offset = omega (arith, next.offset, suc-mul j (place_size n), add-one j) }

-- ---- A bundle whose head was read

-- place j of a bundle's net
abbrev pub place_in : List ℕ → ℕ → Place
place_in b j = get_or (net_in b) j no_place

module _ {net : Kept} (found : HeadAt net) (j : ℕ) (h : j < net.count) where
  pub place_is : place_in net.bundle.now j ≡ place_there net j
  unfolding to_net
  place_is =
      let n = net.n in
      let b = net.bundle.now in
      let d = fields_at n b 0 in
      let items = items_at (place_size n) (fields_at n) net.count b net.first in
      rw found.places
      (get_d_map to_place items j d no_place (rw (items-length (place_size n) (fields_at n) net.count b net.first) h)
      ∙ ap to_place (get_d_items (place_size n) (fields_at n) net.count b net.first j d h))

  -- the code's place j is place j of the net
  pub place_same : {q : Declared.Place} → q ≡ machine_place (fields_at net.n net.bundle.now (spot_of net j)) → place_of q ≡ place_in net.bundle.now j
  place_same e = ap place_of e ∙ place_means (fields_at net.n net.bundle.now (spot_of net j)) ∙ sym place_is
