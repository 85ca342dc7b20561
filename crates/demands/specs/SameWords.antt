-- Contents d' that are written for the contents d of an accepted bundle, and accepted with the same counts: where the events and the words with their
-- marks are those of d, so are those that are read, and the table that judging leaves.
use Rattle.std.specs.Prelude.{◌≡◌, List, ℕ, ◌≤◌, length, Ok}
use Rattle.std.proofs.Common.{sym, ap, ◌∙◌}
use Rattle.laws.specs.Numbers.{Bytes}
use Rattle.nets.specs.Nets.{Entry, words}
use Rattle.rows.specs.Rows.{with_rows, cleared}
use Rattle.logs.specs.Answers.{table_size}
use Rattle.logs.specs.Log.{log_rows}
use Rattle.bundles.specs.Bytes.{contents-bytes}
use Rattle.bundles.specs.Layout.{Head, Contents, bytes_of}
use Rattle.bundles.specs.Readers.{head_of, events_in}
use Rattle.verdicts.specs.Judging.{verdict, table_after}
use Rattle.verdicts.specs.Acceptance.{AcceptedAs}
use Rattle.verdicts.proofs.Acceptance.{accepted-exactly, accepted-table}
use Rattle.verdicts.specs.declared.Tally.{Tally}
use Rattle.demands.specs.Completed.{entries_in}
use Rattle.demands.specs.Comparing.{accepted-head}

-- what is written
module _ {c : Tally} {d' : Contents} (a' : AcceptedAs (bytes_of d') c d') where
  pub written-bytes : Bytes (bytes_of d')
  written-bytes = contents-bytes d' a'.limits

  pub written-verdict : (table_length : ℕ) → table_size ≤ table_length → verdict table_length (bytes_of d') ≡ Ok c
  written-verdict table_length long = (accepted-exactly table_length long (bytes_of d') written-bytes c).1 (d', a')

  pub written-head : head_of (bytes_of d') ≡ d'.head
  written-head = accepted-head (bytes_of d') written-bytes c d' a'

  -- .. for the bundle b
  module _ {b : List ℕ} {d : Contents} (bytes : Bytes b) (a : AcceptedAs b c d) where
    head : head_of b ≡ d.head
    head = accepted-head b bytes c d a

    pub same-events : d'.head.events ≡ d.head.events → events_in (bytes_of d') ≡ events_in b
    same-events is = ap (λ (h : Head). h.events) written-head ∙ is ∙ sym (ap (λ (h : Head). h.events) head)

    pub same_entries : d'.head.entries ≡ d.head.entries → entries_in (bytes_of d') ≡ entries_in b
    same_entries is = ap (λ (h : Head). h.entries) written-head ∙ is ∙ sym (ap (λ (h : Head). h.entries) head)

    pub same-table : d'.head.entries ≡ d.head.entries → (table : List ℕ) → table_size ≤ length table
        → table_after (bytes_of d') table ≡ table_after b table
    same-table is table long =
        accepted-table (bytes_of d') table written-bytes long c d' a'
        ∙ ap (λ (entries : List Entry). with_rows (log_rows (words entries)) (cleared table_size table)) is
        ∙ sym (accepted-table b table bytes long c d a)
