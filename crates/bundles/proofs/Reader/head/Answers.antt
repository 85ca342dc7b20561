-- `bundles::Reader::head` meets its contract: its reads are those of `head`, in the same order.
use Rattle.std.specs.Prelude.{◌≡◌}
use Rattle.std.proofs.Common.{List, ℕ, ◌∙◌, subst}
use Rattle.std.proofs.lemmas.Result.{err_from_is_err_and}
use Rattle.std.specs.Borrow.{Bor}
use Rattle.refusals.specs.Answers.{Answer}
use Rattle.bundles.specs.Reading as reading
use Rattle.bundles.specs.Readers.{any_rows, entry, places}
use Rattle.bundles.specs.declared.Reader.{Reader}
use Rattle.bundles.specs.Chains.{ReadAs, ReadBy, mapped, read_got, read_same, then_read, then-refused}
use Rattle.bundles.specs.PlaceReading.{placed}
use Rattle.bundles.specs.Keeping.{said, kept}
use Rattle.bundles.specs.WordReading.{events_of}
use Rattle.bundles.specs.Layout as layout
use Rattle.bundles.specs.HeadReading.{first-limits, head_chain, behind_first, behind_count, behind_words}
use Rattle.bundles.proofs.Reader.head.Goals as goal

-- the words, by the widened count
abbrev log : layout.First → ℕ → reading.Reader ℕ
log f count = mapped events_of (reading.following count (entry (any_rows f.events) f))

widened : (f : layout.First) {old new : Reader} {result : Answer ℕ} {k count : ℕ}
    → k ≡ count → ReadBy old new result (log f k) → ReadBy old new result (log f count)
widened f {old} {new} {result} counts read = subst (λ (x : ℕ). ReadBy old new result (log f x)) counts read

pub returns-in_err-first : goal.returns-in_err-first
returns-in_err-first c =
    let q = err_from_is_err_and c.from_residual.result c.from_residual.ensures.1 in
    rw (q.1, q.2) (read_same (head_chain _ any_rows _ _) (then-refused (behind_first _ any_rows) c.in_err-first.ensures))

pub returns-in_err-count : goal.returns-in_err-count
returns-in_err-count c =
    let q = err_from_is_err_and c.from_residual-in_err-count.result c.from_residual-in_err-count.ensures.1 in
    rw (q.1, q.2)
    (read_same (head_chain _ any_rows _ _)
    (then_read (behind_first _ any_rows) c.in_ok-first.ensures
    (then-refused (behind_count _ any_rows (said c.in_ok-first.first)) c.in_err-count.ensures)))

pub returns-in_err-words : goal.returns-in_err-words
returns-in_err-words c =
    let q = err_from_is_err_and c.from_residual-in_err-words.result c.from_residual-in_err-words.ensures.1 in
    rw (q.1, q.2)
    (read_same (head_chain _ any_rows _ _)
    (then_read (behind_first _ any_rows) c.in_ok-first.ensures
    (then_read (behind_count _ any_rows (said c.in_ok-first.first)) c.in_ok-count.ensures
    (then-refused (behind_words _ any_rows (said c.in_ok-first.first)) (widened (said c.in_ok-first.first) c.from.ensures c.in_err-words.ensures)))))

pub places-requires : goal.places-requires
places-requires c = (first-limits _ _ _ _ (read_got c.in_ok-first.ensures)).1

pub returns : goal.returns
returns c =
    let first = c.in_ok-first.ensures in
    let count = c.in_ok-count.ensures in
    let words = widened (said c.in_ok-first.first) c.from.ensures c.in_ok-words.ensures in
    read_same (head_chain _ any_rows _ _)
    (then_read (behind_first _ any_rows) first
    (then_read (behind_count _ any_rows (said c.in_ok-first.first)) count
    (then_read (behind_words _ any_rows (said c.in_ok-first.first)) words
    (subst (λ (b : Bor (List ℕ)). ReadAs kept c.words.new.self c.places.new.self c.places.result
    (placed b c.in_ok-first.first.n (places c.in_ok-first.first.n)))
    (words.bytes ∙ count.bytes ∙ first.bytes) c.places.ensures))))
