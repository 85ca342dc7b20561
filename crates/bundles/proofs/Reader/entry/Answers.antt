-- `bundles::Reader::entry` meets its contract: its tests are those of `entry_after`, in the same order.
use Rattle.std.proofs.Common.{◌+◌, ◌≡◌, List, ℕ, ap, subst, length, arith, le-leb}
use Rattle.std.specs.Borrow.{Bor}
use Rattle.std.proofs.lemmas.Bool.{lt-leb}
use Rattle.std.proofs.lemmas.Result.{err_from_is_err_and}
use Rattle.limits.specs.Limits.{max_log_events}
use Rattle.refusals.specs.Table.{events_number}
use Rattle.refusals.specs.Answers.{Answer}
use Rattle.bundles.specs.Reading.{byte, times}
use Rattle.bundles.specs.declared.Reader.{Reader}
use Rattle.bundles.specs.Readers.{anything}
use Rattle.bundles.specs.FieldReading.{below, byte-got}
use Rattle.bundles.specs.Chains.{ReadAs, read_got, read_same, then_read, then-refused, then_passed, then-fails, read_give}
use Rattle.bundles.specs.Keeping.{said}
use Rattle.bundles.specs.WordReading.{entry_chain, behind_size, behind_mark, made_entry, mark-got}
use Rattle.bundles.proofs.Reader.entry.Goals as goal

pub returns-in_err-size : goal.returns-in_err-size
returns-in_err-size c =
    let q = err_from_is_err_and c.from_residual.result c.from_residual.ensures.1 in
    rw (q.1, q.2)
    (read_same (entry_chain _ _ _ _) (then-refused (behind_size (said _) _ _) c.in_err-size.ensures))

pub returns-then-events-from : goal.returns-then-events-from
returns-then-events-from c =
    let fails = lt-leb (c.args.events + c.in_ok-size.size) max_log_events (omega (arith, c.from.ensures)) in
    rw c.at.ensures
    (read_same (entry_chain _ _ _ _)
    (then_read (behind_size (said _) _ _) c.in_ok-size.ensures (then-fails _ events_number _ c.any_byte.new.self fails)))

-- the events, by the widened n
widened : (size : ℕ) {old new : Reader} {result : Answer (Bor (List ℕ))} {k n : ℕ}
    → k ≡ n → ReadAs (λ w. w.now) old new result (times size (byte (below k)))
    → ReadAs (λ w. w.now) old new result (times size (byte (below n)))
widened size {old} {new} {result} events read =
    subst (λ (x : ℕ). ReadAs (λ (w : Bor (List ℕ)). w.now) old new result (times size (byte (below x)))) events read

pub returns-in_err-mark : goal.returns-in_err-mark
returns-in_err-mark c =
    let q = err_from_is_err_and c.from_residual-in_err-mark.result c.from_residual-in_err-mark.ensures.1 in
    let passed = le-leb (c.args.events + c.in_ok-size.size) max_log_events (omega (arith, c.from.ensures)) in
    rw (q.1, q.2)
    (read_same (entry_chain _ _ _ _)
    (then_read (behind_size (said _) _ _) c.in_ok-size.ensures
    (then_passed _ events_number _ passed (then-refused (behind_mark (said c.args.first) _) c.in_err-mark.ensures))))

pub returns-in_err-word : goal.returns-in_err-word
returns-in_err-word c =
    let q = err_from_is_err_and c.from_residual-in_err-word.result c.from_residual-in_err-word.ensures.1 in
    let passed = le-leb (c.args.events + c.in_ok-size.size) max_log_events (omega (arith, c.from.ensures)) in
    let word = widened _ c.from-2.ensures c.in_err-word.ensures in
    rw (q.1, q.2)
    (read_same (entry_chain _ _ _ _)
    (then_read (behind_size (said _) _ _) c.in_ok-size.ensures
    (then_passed _ events_number _ passed (then_read (behind_mark (said c.args.first) _) c.in_ok-mark.ensures (then-refused (made_entry _) word)))))

pub events-requires : goal.events-requires
events-requires c =
    let r = c.in_ok-size.ensures in
    let m = c.in_ok-mark.ensures in
    let inside = (byte-got anything _ _ _ _ (read_got r)).3 in
    let same = ap (λ (b : Bor (List ℕ)). length b.now) r.bytes in
    let behind = mark-got c.args.first.is_new _ _ _ _ (omega (arith, inside, same)) (read_got m) in
    omega (arith, behind, ap (λ (b : Bor (List ℕ)). length b.now) m.bytes)

pub returns : goal.returns
returns c =
    let passed = le-leb (c.args.events + c.in_ok-size.size) max_log_events (omega (arith, c.from.ensures)) in
    let word = widened _ c.from-2.ensures c.in_ok-word.ensures in
    read_same (entry_chain _ _ _ _)
    (then_read (behind_size (said _) _ _) c.in_ok-size.ensures
    (then_passed _ events_number _ passed
    (then_read (behind_mark (said c.args.first) _) c.in_ok-mark.ensures (then_read (made_entry _) word (read_give _)))))
