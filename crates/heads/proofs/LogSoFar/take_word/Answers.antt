-- `heads::LogSoFar::take_word` meets its contract: the word's tests are those of `entry`, and its rows are taken where there is room.
use Rattle.std.proofs.Common.{◌≡◌, ◌∙◌, Ok, arith}
use Rattle.std.proofs.lemmas.Result.{err_from_is_err_and}
use Rattle.std.specs.Result.{IsErrAnd}
use Rattle.refusals.specs.Table.{rows_number}
use Rattle.refusals.specs.Answers.{refusal}
use Rattle.rows.specs.Adding.{added_some}
use Rattle.rows.specs.IndexLaws.{index_taken}
use Rattle.bundles.specs.Chains.{read_got, read-refused}
use Rattle.heads.specs.Taken.{EntryRead, entry_read, entry-refused, no_room, word-taken}
use Rattle.bundles.specs.Keeping.{said, marked}
use Rattle.heads.proofs.LogSoFar.take_word.Goals as goal
use Rattle.heads.proofs.LogSoFar.take_word.Goals.{In_ok-entry}

-- the word that was read
read : (c : In_ok-entry) → let a = c.args in
    EntryRead (said a.first) a.self.now.events a.reader.now.bytes.now a.reader.now.at (marked c.in_ok-entry.entry) c.entry.new.self.at
read c = entry_read (said c.args.first) _ _ _ _ _ c.requires.bounds.0 (read_got c.in_ok-entry.ensures)

pub add_word-taken-requires-clause-takable : goal.add_word-taken-requires-clause-takable
add_word-taken-requires-clause-takable c =
    let r = read (goal.at.add_word-taken-requires-clause-takable c).In_ok-entry in
    let p = c.requires.bounds in
    record { rows = p.1; table = p.3; short = omega (arith, r.limit); below = r.below }

pub add_word-taken-requires-clause-word_in_bounds : goal.add_word-taken-requires-clause-word_in_bounds
add_word-taken-requires-clause-word_in_bounds c =
    let r = read (goal.at.add_word-taken-requires-clause-word_in_bounds c).In_ok-entry in
    omega (arith, r.counted, c.requires.bounds.4 c.args.reader.now.at)

pub bounds-self-word : goal.bounds-self-word
bounds-self-word c =
    let r = read (goal.at.bounds-self-word c).In_ok-entry in
    omega (arith, r.counted, c.requires.bounds.4 c.args.reader.now.at)

pub returns-in_err-entry-clause-one_more : goal.returns-in_err-entry-clause-one_more
returns-in_err-entry-clause-one_more c =
    let q = err_from_is_err_and c.from_residual.result c.from_residual.ensures.1 in
    rw (q.1, q.2) (λ entries t₀ h. (entry-refused (said c.args.first) entries h c.requires.bounds.0 _ _ (read-refused c.in_err-entry.ensures), h))

pub extend-requires : goal.extend-requires
extend-requires c =
    let some : c.add_word-taken.result ≡ Ok c.in_ok-rows.rows = grind arith in
    let added = added_some _ _ _ _ _ _ (rw some at c.add_word-taken.ensures.added) in (
      omega (arith, added.0),
      added.1,
      omega (arith, added.1, c.add_word-taken.auto.table, c.requires.bounds.3),
      index_taken _ _ _ _ _ _ added.2 c.requires.index,
    )

pub returns-in_err-rows-clause-one_more : goal.returns-in_err-rows-clause-one_more
returns-in_err-rows-clause-one_more c =
    let q = err_from_is_err_and c.from_residual-in_err-rows.result c.from_residual-in_err-rows.ensures.1 in
    let r = read (goal.at.returns-in_err-rows-clause-one_more c).In_ok-entry in
    let many : IsErrAnd c.add_word-taken.result (λ _. c.in_err-rows.field-0.0 ≡ refusal rows_number c.args.reader.now.at) = grind arith in
    let none = err_from_is_err_and c.add_word-taken.result many in
    rw (q.1, q.2, none.2)
    (λ entries t₀ h. no_room (said c.args.first) entries h c.requires.bounds.0 _ _ r _ _ (rw none.1 at c.add_word-taken.ensures.added))

pub returns-clause-one_more : goal.returns-clause-one_more
returns-clause-one_more c =
    let r = read (goal.at.returns-clause-one_more c).In_ok-entry in
    let some : c.add_word-taken.result ≡ Ok c.in_ok-rows.rows = grind arith in
    λ entries t₀ h.
    let added = c.add_word-taken.ensures in
    let taken = word-taken (said c.args.first) entries h c.requires.bounds.0 _ _ r _ _
    (rw some at added.added) c.add_word-taken.auto.table (rw some at added.word_after) in
    (c.in_ok-entry.ensures.bytes, (_, taken.0, taken.1, c.then_some.ensures ∙ taken.2))
