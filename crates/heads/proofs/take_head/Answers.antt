-- `heads::take_head` meets its contract: its reads are those of `head`, in the same order.
use Rattle.std.proofs.Common.{◌≡◌, ◌∙◌, refl, arith}
use Rattle.std.proofs.lemmas.Result.{err_from_is_err_and}
use Rattle.bundles.specs.Reading.{got, byte}
use Rattle.bundles.specs.Readers.{anything}
use Rattle.bundles.specs.Chains.{read_got, read-refused}
use Rattle.bundles.specs.FieldReading.{byte-got}
use Rattle.bundles.specs.HeadReading.{first-limits}
use Rattle.heads.specs.Heads.{first-refused, count-refused, log-refused, places-missing, places-taken}
use Rattle.heads.proofs.take_head.Goals as goal
use Rattle.heads.proofs.take_head.Goals.{In_ok-words}

pub returns-in_err-first : goal.returns-in_err-first
returns-in_err-first c =
    let q = err_from_is_err_and c.from_residual.result c.from_residual.ensures.1 in
    rw (q.1, q.2) (first-refused c.args.bundle c.args.table.now c.args.table.now c.args.noted.now (read-refused c.in_err-first.ensures) refl)

pub returns-in_err-words : goal.returns-in_err-words
returns-in_err-words c =
    let q = err_from_is_err_and c.from_residual-in_err-words.result c.from_residual-in_err-words.ensures.1 in
    let count = rw c.in_ok-first.ensures.bytes at (read-refused c.in_err-words.ensures) in
    rw (q.1, q.2) (count-refused c.args.bundle c.args.table.now c.args.table.now c.args.noted.now (read_got c.in_ok-first.ensures) count refl)

-- the reader still has the bundle
bytes : (c : In_ok-words) → c.any_byte.new.self.bytes ≡ c.args.bundle
bytes c = c.in_ok-words.ensures.bytes ∙ c.in_ok-first.ensures.bytes

count : (c : In_ok-words) → byte anything c.args.bundle.now c.first.new.self.at ≡ got c.in_ok-words.words c.any_byte.new.self.at
count c = rw c.in_ok-first.ensures.bytes at (read_got c.in_ok-words.ensures)

pub take_words-requires : goal.take_words-requires
take_words-requires c =
    let here = (goal.at.take_words-requires c).In_ok-words in
    ((first-limits _ _ _ _ (read_got c.in_ok-first.ensures)).1, c.requires, rw (bytes here) (λ i. omega (arith, c.type_inv.bundle i)))

pub returns-in_err-rows : goal.returns-in_err-rows
returns-in_err-rows c =
    let q = err_from_is_err_and c.from_residual-in_err-rows.result c.from_residual-in_err-rows.ensures.1 in
    let here = (goal.at.returns-in_err-rows c).In_ok-words in
    let log = rw (bytes here) at c.in_err-rows.ensures.0 in
    rw (q.1, q.2) (log-refused c.args.bundle c.args.table.now c.take_words.new.table c.take_words.new.noted
    (read_got c.in_ok-first.ensures) (count here) log c.in_err-rows.ensures.1)

pub places-requires : goal.places-requires
places-requires c = (first-limits _ _ _ _ (read_got c.in_ok-first.ensures)).1

pub returns-in_err-net : goal.returns-in_err-net
returns-in_err-net c =
    let q = err_from_is_err_and c.from_residual-in_err-net.result c.from_residual-in_err-net.ensures.1 in
    let here = (goal.at.returns-in_err-net c).In_ok-words in
    let all = c.in_ok-rows.ensures in
    let log = rw (bytes here) at all.1.1 in
    let places = rw (all.0, bytes here) at (read-refused c.in_err-net.ensures) in
    rw (q.1, q.2) (places-missing c.args.bundle c.args.table.now c.take_words.new.table c.take_words.new.noted
    (read_got c.in_ok-first.ensures) (count here) all.1.0 log all.1.2 places)

pub returns : goal.returns
returns c =
    let here = (goal.at.returns c).In_ok-words in
    let all = c.in_ok-rows.ensures in
    let log = rw (bytes here) at all.1.1 in
    let places = rw (all.0, bytes here) at (read_got c.in_ok-net.ensures) in
    let few = (byte-got anything _ _ _ _ (count here)).1 in
    places-taken c.args.bundle c.args.table.now c.take_words.new.table c.take_words.new.noted (read_got c.in_ok-first.ensures)
    (count here) all.1.0 log all.1.2 c.requires (λ i. omega (arith, c.type_inv.bundle i)) (λ i. omega (arith, c.type_inv.table i))
    all.1.3 all.1.4 (omega (arith, few, c.type_inv.bundle c.first.new.self.at, c.told-noted)) c.in_ok-net.net _ places
