-- `pruning::marking::Marked::pruned_length` meets its contract.
use Rattle.std.proofs.Common.{◌≡◌, arith, ◌+◌, ◌*◌, ◌≤◌, length}
use Rattle.limits.specs.Limits.{max_bundle_size}
use Rattle.bundles.specs.Layout.{bytes_of}
use Rattle.contents.specs.Contents.{contents_of}
use Rattle.pruning.specs.Pruning.{pruned}
use Rattle.pruning.specs.PruneLaws.{pruned-limits}
use Rattle.pruning.specs.Writing.{result-length}
use Rattle.pruning.proofs.marking.Marked.pruned_length.Goals as goal
use Rattle.pruning.proofs.marking.Marked.pruned_length.Goals.{After-from}

-- the length of the parts, and that it is not above a bundle's
whole : (c : After-from) → let marked = c.args.self.now in
    (length marked.parts.front.now + 1 + c.from.result * marked.parts.place_size + length marked.parts.certificates.now ≡ length (bytes_of (pruned (contents_of marked.parts.bundle.now))))
    × (length (bytes_of (pruned (contents_of marked.parts.bundle.now))) ≤ max_bundle_size)
whole c =
    let self = c.args.self.now in
    let parts = self.parts in
    let contents = contents_of parts.bundle.now in (
      rw (parts.front_is, c.from.ensures, self.kept_is, parts.size_is, parts.certificates_are) (result-length contents parts.judged.limits),
      (pruned-limits contents parts.judged.limits).size,
    )

pub overflow_mul-places : goal.overflow_mul-places
overflow_mul-places c = omega (arith, whole c)

pub overflow_add-result-2 : goal.overflow_add-result-2
overflow_add-result-2 c = omega (arith, whole c)

pub overflow_add-result-3 : goal.overflow_add-result-3
overflow_add-result-3 c = omega (arith, whole c)

pub returns : goal.returns
returns c = (whole c).0
