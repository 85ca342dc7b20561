-- A log with words behind has at least as many rows.
use Rattle.std.specs.Prelude.{ℕ, ◌≤◌, length}
use Rattle.std.proofs.Common.{sym}
use mathlib.Core.List.Memᴰ
use mathlib.Core.List.{◌++◌}
use Rattle.laws.specs.Distinct.{distinct-length_le}
use Rattle.nets.specs.Nets.{Log, rows}
use Rattle.nets.proofs.Rows.{row→, →row, rows-distinct}
use Rattle.nets.specs.LogLaws.{prefixes-longer}

pub rows-longer : (n : ℕ) (log more : Log) → length (rows n log) ≤ length (rows n (log ++ more))
rows-longer n log more = distinct-length_le (rows n log) (rows n (log ++ more)) (rows-distinct n log)
    (λ v m. let r = row→ n log m in Memᴰ.cast (sym r.2) (→row n (log ++ more) r.0 (prefixes-longer log more r.0 r.1)))
