-- `bundles::Reader::any_byte` meets its contract.
use Rattle.std.proofs.Common.{◌≡◌, ◌≤◌, ◌<◌, length, get_or, arith}
use Rattle.std.proofs.lemmas.Grind.{common_steps}
use Rattle.bundles.specs.FieldReading.{byte_missing, byte_read}
use Rattle.bundles.proofs.Reader.any_byte.Goals as goal

pub returns-in_default : goal.returns-in_default
returns-in_default c =
    let s = c.args.self.now in
    let short : length s.bytes.now ≤ s.at = grind (arith, common_steps) in
    rw c.at.ensures (byte_missing s short)

pub returns : goal.returns
returns c =
    let s = c.args.self.now in
    let there : s.at < length s.bytes.now = grind (arith, common_steps) in
    let is : c.in-Some.byte.now ≡ get_or s.bytes.now s.at 0 = grind (arith, common_steps) in
    rw is (byte_read s there)
