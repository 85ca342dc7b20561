-- The table of a log: its rows by the definitions of nets, and the words of a log taken one after the other.
use Rattle.std.specs.Prelude.{◌≡◌, List, [], ◌∷◌, map, ℕ, min, Ok}
use Rattle.laws.specs.Bits.{mask_of}
use Rattle.limits.specs.Limits.{max_events}
use Rattle.nets.specs.Nets.{Log, Counts, rows, allowed, traffic}
use Rattle.rows.specs.Rows.{max_traffic, Row, take_word, none}
use Rattle.logs.specs.Answers.{taken_answer, taken_table}
use Rattle.logs.specs.declared.Summary.{Summary}

-- the events that the log allows after the counts v, as a mask
unfoldable pub mask_at : Log → Counts → ℕ
mask_at log v = mask_of max_events (λ e. allowed max_events log (record { row = v; event = e }))

-- how many words of the log pass the row of the counts v, as far as a number of the table can say it
unfoldable pub traffic_at : Log → Counts → ℕ
traffic_at log v = min max_traffic (traffic max_events log v)

-- the row of the log for the counts v
abbrev pub log_row : Log → Counts → Row
log_row log v = record { counts = v; mask = mask_at log v; traffic = traffic_at log v }

-- the rows of a log, in their order, with twelve counts (`log_rows-is`, `log_row-mask`, `log_row-traffic`: those over n events, with zeros from n on)
unfoldable pub log_rows : Log → List Row
log_rows log = map (log_row log) (rows max_events log)

-- the rows after the words of a log are taken one after the other
unfoldable pub take_log : List Row → Log → List Row
take_log rs [] = rs
take_log rs (w ∷ ws) = take_log (take_word rs none w) ws

-- from the summary s and the table t, the words ws are taken one after the other, none is refused, and s' and t' are left
unfoldable pub Takes : Summary → List ℕ → Log → Summary → List ℕ → Type 0
Takes s t [] s' t' = (s' ≡ s) × (t' ≡ t)
Takes s t (w ∷ ws) s' t' =
    (next : Summary) × (taken_answer s t w ≡ Ok next) × Takes next (taken_table (taken_answer s t w) s t w) ws s' t'
