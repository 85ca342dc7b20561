-- `pairs::read_pairs` meets its contract. The loop's invariant: so many pairs are left, behind some with these sums.
use Rattle.std.proofs.Common.{◌≡◌, ◌-◌, length}
use Rattle.pairs.specs.PairSums.{PairsLeft}
use Rattle.pairs.proofs.read_pairs.Given as goal

abbrev pub invariant-loop-pair : goal.invariant-loop-pair
invariant-loop-pair l =
    let start = l.initial.reader in
    (l.reader.bytes ≡ start.bytes)
    × PairsLeft l.fn.head (length l.fn.head.noted.now) start.bytes.now start.at l.count l.reader.at (l.count - l._pair) l.sums
