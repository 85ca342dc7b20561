-- What the tokens of a place cover in a row, and a bundle's first misfit.
use Rattle.std.specs.Prelude.{Bool, not, ◌||◌, List, ℕ, ℤ, pos, ◌-ℤ◌, get_or, Option}
use Rattle.std.specs.Int.Signed.{non_neg}
use Rattle.laws.specs.Lists.{all, tabulate}
use Rattle.laws.specs.Bits.{bit}
use Rattle.laws.specs.Scans.{first_failing}
use Rattle.laws.specs.Failure.{failure}
use Rattle.limits.specs.Limits.{max_events}
use Rattle.nets.specs.Nets.{fits}
use Rattle.bundles.specs.Readers.{events_in, log_in, net_in}

-- the tokens cover what an event takes, if its bit is set in the mask
unfoldable pub event_fits : ℤ → List ℕ → ℕ → ℕ → Bool
event_fits tokens consumed mask e = not (bit mask e) || non_neg (tokens -ℤ pos (get_or consumed e 0))

-- the same at each event
unfoldable pub events_fit : ℤ → List ℕ → ℕ → Bool
events_fit tokens consumed mask = all (event_fits tokens consumed mask) (tabulate max_events (λ e. e))

-- the first place of a bundle's net that does not fit its log, or the number of places
abbrev pub misfit_in : List ℕ → ℕ
misfit_in b = first_failing (fits (events_in b) (log_in b)) (net_in b)

-- the same, where there is one
unfoldable pub misfit : List ℕ → Option ℕ
misfit b = failure (fits (events_in b) (log_in b)) (net_in b)
