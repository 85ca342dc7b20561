-- What the functions that take a word ask of it, of the table and of its rows.
use Rattle.std.specs.Prelude.{ℕ, ◌*◌, ◌≤◌, List, length}
use Rattle.std.proofs.Common.{arith}
use Rattle.limits.specs.Limits.{max_events, max_log_events, max_rows}
use Rattle.nets.specs.Events.{EventsBelow}
use Rattle.nets.specs.Nets.{Word}
use Rattle.rows.specs.Rows.{row_size, table_size}

-- the word w may be taken into the k rows of the table t
pub record Takable (k : ℕ) (t : List ℕ) (w : Word) : Type 0 where
  pub rows : k ≤ max_rows
  pub table : table_size ≤ length t
  pub short : length w ≤ max_log_events
  pub below : EventsBelow max_events w

-- so the table has room for its rows
pub takable-room : {k : ℕ} {t : List ℕ} {w : Word} → Takable k t w → row_size * k ≤ length t
takable-room takable = omega (arith, takable.rows, takable.table)
