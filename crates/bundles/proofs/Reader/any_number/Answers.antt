-- `bundles::Reader::any_number` meets its contract.
use Rattle.std.proofs.Common.{arith}
use Rattle.bundles.specs.FieldReading.{number_missing, number_read}
use Rattle.bundles.proofs.Reader.any_number.Goals as goal

pub returns-then-numbers_left-lt1 : goal.returns-then-numbers_left-lt1
returns-then-numbers_left-lt1 c = rw c.at.ensures (number_missing c.args.self.now (omega arith))

pub returns : goal.returns
returns c = rw c.number_at.ensures (number_read c.args.self.now (omega arith))
