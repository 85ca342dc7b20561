-- `pruning::marking::Marked::of` meets its contract: as many of the marks of its places are set as places are kept.
use Rattle.std.proofs.Common.{◌≡◌, ap₂, ◌∙◌, arith, Bool, List, ℕ, length}
use Rattle.laws.specs.Ranks.{rank}
use Rattle.contents.specs.Contents.{contents_of}
use Rattle.pruning.specs.Pruning.{pruned}
use Rattle.pruning.specs.PruneLaws.{pruned-limits}
use Rattle.pruning.specs.Marking.{marked, kept-count}
use Rattle.pruning.proofs.marking.Marked.of.Goals as goal
use Rattle.pruning.proofs.marking.Marked.of.Goals.{After-count_marked-kept}

pub count_marked-kept-requires : goal.count_marked-kept-requires
count_marked-kept-requires c =
    let parts = c.of-parts.result in
    omega (arith, c.into.ensures, parts.count_is, parts.judged.limits.head.places_size)

kept : (c : After-count_marked-kept) → c.count_marked-kept.result ≡ length (pruned (contents_of c.of-parts.result.bundle.now)).head.places
kept c =
    let parts = c.of-parts.result in
    c.count_marked-kept.ensures
    ∙ ap₂ (λ (l : List Bool) (k : ℕ). rank (marked l) k) c.mark_places-marks.ensures (c.into.ensures ∙ parts.count_is)
    ∙ kept-count (contents_of parts.bundle.now) parts.judged.limits

pub overflow_cast-kept : goal.overflow_cast-kept
overflow_cast-kept c =
    let parts = c.of-parts.result in
    omega (arith, kept c, (pruned-limits (contents_of parts.bundle.now) parts.judged.limits).head.places_size)

pub invariant_of-result : goal.invariant_of-result
invariant_of-result c = record { marks_are = c.mark_places-marks.ensures; kept_is = kept c }
