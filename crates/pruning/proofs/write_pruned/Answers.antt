-- `pruning::write_pruned` meets its contract: 3, or the pruned bundle.
use Rattle.std.proofs.Common.{◌≡◌, refl, ap, ◌∙◌, arith, List, ℕ, length}
use Rattle.std.specs.Borrow.{Bor}
use Rattle.refusals.proofs.Laws.{ends-short, ends-written}
use Rattle.laws.specs.Clauses.{value-output_after}
use Rattle.bundles.specs.Layout.{bytes_of}
use Rattle.contents.specs.Contents.{contents_of}
use Rattle.pruning.specs.Pruning.{pruned}
use Rattle.pruning.proofs.write_pruned.Goals as goal
use Rattle.pruning.proofs.write_pruned.Goals.{After-of-marked, After-pruned_length-length}

-- the bundle that is marked is the one that was passed
same : (c : After-of-marked) → bytes_of (pruned (contents_of c.of-marked.result.parts.bundle.now)) ≡ bytes_of (pruned (contents_of c.args.bundle.now))
same c = ap (λ (b : Bor (List ℕ)). bytes_of (pruned (contents_of b.now))) c.of-marked.ensures

size : (c : After-pruned_length-length) → c.pruned_length-length.result ≡ length (bytes_of (pruned (contents_of c.args.bundle.now)))
size c = c.pruned_length-length.ensures ∙ ap length (same (goal.at.After-pruned_length-length c).After-of-marked)

pub returns-then-output-length : goal.returns-then-output-length
returns-then-output-length c =
    let long = size (goal.at.returns-then-output-length c).After-pruned_length-length in
    rw (c.at.ensures, long) (value-output_after (ends-short _ _ (bytes_of (pruned (contents_of c.args.bundle.now))) refl (omega (arith, long))))

pub write-requires : goal.write-requires
write-requires c = omega (arith, c.pruned_length-length.ensures)

pub returns : goal.returns
returns c =
    let at = goal.at.returns c in
    let long = size at.After-pruned_length-length in
    rw (c.write.ensures, long, same at.After-of-marked)
    (value-output_after (ends-written _ _ (bytes_of (pruned (contents_of c.args.bundle.now))) refl (omega (arith, long))))
