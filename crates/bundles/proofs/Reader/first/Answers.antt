-- `bundles::Reader::first` meets its contract: its byte is that of `first`.
use Rattle.std.specs.Prelude.{Bool, ℕ, ◌%◌}
use Rattle.std.proofs.Common.{rules}
use Rattle.std.proofs.lemmas.Result.{err_from_is_err_and}
use Rattle.limits.specs.Limits.{max_events, new_edition}
use Rattle.bundles.specs.Reading.{give}
use Rattle.bundles.specs.Readers.{first, to_first}
use Rattle.bundles.specs.Chains.{then_read, then-refused, read_give}
use Rattle.bundles.specs.FieldReading.{between}
use Rattle.bundles.proofs.Reader.first.Goals as goal

abbrev in_range : ℕ → Bool
in_range x = between 1 max_events (x % new_edition)

pub returns-in_err-byte : goal.returns-in_err-byte
unfolding first
returns-in_err-byte c =
    let q = err_from_is_err_and c.from_residual.result c.from_residual.ensures.1 in
    rw (q.1, q.2) (then-refused (λ x. give (to_first x)) (c.in_err-byte.ensures in_range (λ x small b answer. search rules)))

pub returns : goal.returns
unfolding first to_first
returns c = then_read (λ x. give (to_first x)) (c.in_ok-byte.ensures in_range (λ x small b answer. search rules)) (read_give _)
