-- `bundles::Reader::places` meets its contract: the places are there when so many numbers are.
use Rattle.std.proofs.Common.{rules, refl, ap, ℕ}
use Rattle.std.proofs.lemmas.Result.{err_from_is_err_and}
use Rattle.limits.specs.Limits.{max_places}
use Rattle.bundles.specs.FieldReading.{up_to}
use Rattle.bundles.specs.PlaceReading.{count-few, read-missing, read_kept, kept-inside, read-uncounted}
use Rattle.bundles.proofs.Reader.places.Goals as goal

pub returns-in_err-byte : goal.returns-in_err-byte
returns-in_err-byte c =
    let q = err_from_is_err_and c.from_residual.result c.from_residual.ensures.1 in
    rw (q.1, q.2) (read-uncounted _ (c.in_err-byte.ensures (up_to max_places) (λ x small b answer. search rules)))

pub returns-then-left-numbers : goal.returns-then-left-numbers
returns-then-left-numbers c =
    let read = c.in_ok-byte.ensures (up_to max_places) (λ x small b answer. search rules) in
    let short = rw (c.numbers_left-left.ensures, c.from-count.ensures, c.from.ensures) at c.if-left-numbers.true in
    rw (c.at.ensures, c.numbers_left-left.ensures) (read-missing _ _ read short)

pub returns : goal.returns
returns c =
    let read = c.in_ok-byte.ensures (up_to max_places) (λ x small b answer. search rules) in
    let there = rw (c.numbers_left-left.ensures, c.from-count.ensures, c.from.ensures) at c.if-left-numbers.false in
    let after = c.byte.new.self in
    read_kept _ _ read there
    (ap (λ (count : ℕ). record { bundle = after.bytes; n = c.args.n; count = count; first = after.at }) c.from-count.ensures)
    (rw (c.from-count.ensures, c.from.ensures) refl)

pub invariant_of-result : goal.invariant_of-result
invariant_of-result c =
    let read = c.in_ok-byte.ensures (up_to max_places) (λ x small b answer. search rules) in
    let there = rw (c.numbers_left-left.ensures, c.from-count.ensures, c.from.ensures) at c.if-left-numbers.false in
    record {
      limit = c.requires;
      few = rw c.from-count.ensures (count-few c.args.n _ read);
      inside = rw c.from-count.ensures (kept-inside c.args.n _ read there);
    }
