-- The comparison of two accepted bundles: from the definitions on nets to the bytes of two bundles.
use Rattle.std.specs.Prelude.{◌≡◌, refl, Bool, ℕ, ◌≤◌, ◌<◌, T, Ok}
use Rattle.std.proofs.Common.{sym, ◌∙◌, ⊎_elim, arith, length-append}
use Rattle.std.proofs.Math.Path.{ap, subst}
use Rattle.std.proofs.Math.Bool.{cond}
use mathlib.Core.List.{List, [], ◌∷◌, ◌++◌, flat_map}
use Rattle.std.proofs.Math.ListN.{length}
use Rattle.laws.specs.Booleans.{impossible, no_false}
use Rattle.laws.specs.Every.{every_member}
use Rattle.laws.specs.Numbers.{Bytes}
use Rattle.limits.specs.Limits.{max_bundle_size, max_word_events}
use Rattle.refusals.specs.Results.{value, refused}
use Rattle.nets.specs.Bundle as bundle
use Rattle.nets.specs.Nets.{Word, step_after, permits, permitted, stopped_at, screen}
use Rattle.nets.specs.Acceptance.{accepted-parts}
use Rattle.nets.specs.Words.{Prefix, prefix→, permits-prefix}
use Rattle.nets.specs.LogLaws.{word-entry}
use Rattle.nets.specs.Fits.{Below, below-empty, below_snoc, prefix-below}
use Rattle.nets.specs.TokenGame.{places_of}
use Rattle.nets.specs.Completed.{sound_regions}
use Rattle.nets.specs.SeparationProblems.{Complete, Suboptimal}
use Rattle.nets.proofs.SeparationProblems.{accepted-complete, accepted-suboptimal}
use Rattle.nets.proofs.Comparison.{first-exactly, second-permits, nets-agree, first-screened, second-screened, tallies_agree}
use Rattle.rows.specs.Rows.{with_rows, cleared}
use Rattle.logs.specs.Answers.{table_size}
use Rattle.logs.specs.Log.{log_rows}
use Rattle.bundles.specs.Layout.{CertificateFields, Head, Contents, EntryInLimits, LogBelowIn, first_in, words_in, to_net, to_bundle}
use Rattle.bundles.specs.Layout.{certificate_bytes, bytes_of}
use Rattle.bundles.specs.Readers.{head_of, events_in, log_in, net_in}
use Rattle.bundles.specs.Limits.{log-below}
use Rattle.bundles.specs.Reading.{Read, item}
use Rattle.verdicts.specs.Judging.{tally_of, judged, verdict_of, verdict, table_after}
use Rattle.verdicts.specs.Acceptance.{AcceptedAs}
use Rattle.verdicts.proofs.Acceptance.{judged-long, accepted-exactly, accepted-table}
use Rattle.verdicts.specs.declared.Tally.{Tally}
use Rattle.screening.specs.Screening.{replayed, screened}
use Rattle.screening.specs.Screens.{Readable, Screenable, screened-replayed, permitted-exactly, readable-exactly, screenable-head}
use Rattle.demands.specs.Completed.{entries_in}
use Rattle.demands.specs.Demands.{ScreenedAtEnd, LogContained, Compared}
use Rattle.demands.specs.Tables.{LogLeft}
use Rattle.demands.specs.TablesProved.{log-left}

-- ---- one accepted bundle

-- the table of an accepted bundle was long enough
pub long-table : (table_length : ℕ) (b : List ℕ) (c : Tally) → verdict table_length b ≡ Ok c → table_size ≤ table_length
unfolding verdict verdict_of
long-table table_length b c e = go (judged table_length b 0) refl e
  where
    go : (m : Read Contents) → judged table_length b 0 ≡ m → verdict_of m ≡ Ok c → table_size ≤ table_length
    go (value (item d next)) is e = judged-long table_length b d next is
    go (refused number spot) is e = impossible cc

module _ (b : List ℕ) (bytes : Bytes b) where
  screenable : (c : Tally) (d : Contents) → AcceptedAs b c d → (w : Word) → length w ≤ max_word_events → Below d.head.events w
      → Screenable b w d.head (flat_map (certificate_bytes d.head.is_new) d.certificates)
  unfolding bytes_of
  screenable c d a w size events = record {
    size = subst (λ (l : List ℕ). length l ≤ max_bundle_size) (sym a.layout) a.limits.size;
    front = record { layout = a.layout; limits = a.limits.head };
    word_size = size;
    events = events;
  }

  -- screening reads the head that was judged
  pub accepted-head : (c : Tally) (d : Contents) → AcceptedAs b c d → head_of b ≡ d.head
  accepted-head c d a = screenable-head b bytes [] d.head _ (screenable c d a [] (omega arith) (below-empty d.head.events))

  -- the places of its net are a complete set of sound regions of its log
  module _ (c : Tally) (d : Contents) (a : AcceptedAs b c d) where
    below : LogBelowIn d.head
    below = log-below d.head a.limits.head

    pub net-complete : Complete (events_in b) (Prefix (log_in b)) (sound_regions (events_in b) (entries_in b)) (places_of (net_in b))
    unfolding to_bundle
    net-complete =
        subst (λ (h : Head). Complete h.events (Prefix (words_in h)) (sound_regions h.events h.entries) (places_of (to_net h)))
        (sym (accepted-head c d a)) (accepted-complete (to_bundle d) below a.accepted)

    pub net-suboptimal : Suboptimal (events_in b) (Prefix (log_in b)) (sound_regions (events_in b) (entries_in b)) (places_of (net_in b))
    unfolding to_bundle
    net-suboptimal =
        subst (λ (h : Head). Suboptimal h.events (Prefix (words_in h)) (sound_regions h.events h.entries) (places_of (to_net h)))
        (sym (accepted-head c d a)) (accepted-suboptimal (to_bundle d) below a.accepted)

  module _ (table_length : ℕ) (c : Tally) (yes' : verdict table_length b ≡ Ok c) where
    -- its fields, with the head that screening reads
    pub fields : (cs : List CertificateFields) × AcceptedAs b c (record { head = head_of b; certificates = cs })
    fields =
        let r = (accepted-exactly table_length (long-table table_length b c yes') b bytes c).0 yes' in
        let same = accepted-head c r.0 r.1 in
        (r.0.certificates, subst (λ (h : Head). AcceptedAs b c (record { head = h; certificates = r.0.certificates })) (sym same) r.1)

    -- and the table that judging leaves has its log's rows
    pub table-left : (table : List ℕ) → length table ≡ table_length → table_after b table ≡ with_rows (log_rows (log_in b)) (cleared table_size table)
    table-left table size =
        let f = fields in
        accepted-table b table bytes (omega (arith, long-table table_length b c yes')) c (record { head = head_of b; certificates = f.0 }) f.1

    -- number by number
    pub numbers-left : (table : List ℕ) → length table ≡ table_length → LogLeft (events_in b) (log_in b) table (table_after b table)
    numbers-left table size =
        let l = fields.1.limits in
        subst (LogLeft (events_in b) (log_in b) table) (sym (table-left table size))
        (log-left (events_in b) (log_in b) l.head.events.1 (log-below (head_of b) l.head) l.row_count table (omega (arith, size, long-table table_length b c yes')))

    pub prefix-length : (u : Word) → Prefix (log_in b) u → length u ≤ 255
    prefix-length u m = ⊎_elim
        (λ q. omega (arith, ap length q))
        (λ r.
        let x = word-entry (entries_in b) r.1 in
        let limits = every_member (EntryInLimits (first_in (head_of b))) (entries_in b) fields.1.limits.head.entries x.1 in
        omega (arith, limits.size, ap length x.2, length-append u r.2.0, ap length r.2.1))
        (prefix→ (log_in b) u m)

    pub prefix-events : (w : Word) → Prefix (log_in b) w → Below (events_in b) w
    prefix-events w m = prefix-below (events_in b) (log_in b) (log-below (head_of b) fields.1.limits.head) w m

    -- its net permits them
    pub prefix-permitted : (w : Word) → Prefix (log_in b) w → T (permits (events_in b) (net_in b) w)
    unfolding to_bundle
    prefix-permitted w m =
        let f = fields in
        let d : Contents = record { head = head_of b; certificates = f.0 } in
        permits-prefix (events_in b) (net_in b) (log_in b) ((accepted-parts (to_bundle d)).0 f.1.accepted).permitted w m

    longer-below : (w : Word) → Prefix (log_in b) w → (e : ℕ) → e < events_in b → Below (events_in b) (w ++ e ∷ [])
    longer-below w m e h = (below_snoc (events_in b) w e).1 (prefix-events w m, h)

    -- a word of its events is readable
    pub word-readable : (w : Word) → length w ≤ max_word_events → Below (events_in b) w → Readable b w
    word-readable w size events =
        let f = fields in
        let d : Contents = record { head = head_of b; certificates = f.0 } in
        (readable-exactly b bytes w).1 (head_of b, _, screenable c d f.1 w size events)

    -- so a prefix of its log with one event more is
    longer-readable : (w : Word) → Prefix (log_in b) w → (e : ℕ) → e < events_in b → Readable b (w ++ e ∷ [])
    longer-readable w m e h = word-readable (w ++ e ∷ []) (omega (arith, length-append w (e ∷ []), prefix-length w m)) (longer-below w m e h)

    -- screening it: permitted exactly when the net permits it, and otherwise stopped at the added event
    screened-at-end : (w : Word) → Prefix (log_in b) w → (e : ℕ) → e < events_in b
        → screen (events_in b) (net_in b) (w ++ e ∷ []) ≡ cond (permits (events_in b) (net_in b) (w ++ e ∷ [])) permitted (stopped_at (events_in b) (net_in b) (length w) (step_after (events_in b) w e))
        → ScreenedAtEnd (screened b (w ++ e ∷ [])) (events_in b) (net_in b) w e
    unfolding replayed stopped_at
    screened-at-end w m e h is =
        let readable = longer-readable w m e h in
        let stop = stopped_at (events_in b) (net_in b) (length w) (step_after (events_in b) w e) in
        record {
          permitted = permitted-exactly b (w ++ e ∷ []) readable;
          stopped = λ t.
              let stops : screen (events_in b) (net_in b) (w ++ e ∷ []) ≡ stop = is ∙ ap (λ (p : Bool). cond p permitted stop) (no_false (permits (events_in b) (net_in b) (w ++ e ∷ [])) t) in
              screened-replayed b (w ++ e ∷ []) readable ∙ ap replayed stops;
        }

-- ---- two accepted bundles

same-counts : (t₁ t₂ : bundle.Tally) (c₁ c₂ : Tally) → c₁ ≡ tally_of t₁ → c₂ ≡ tally_of t₂ → t₁ ≡ t₂
    → (c₁.rows ≡ c₂.rows) × (c₁.allowed ≡ c₂.allowed) × (c₁.by_place ≡ c₂.by_place) × (c₁.by_weights ≡ c₂.by_weights)
same-counts t₁ t₂ c₁ c₂ e₁ e₂ t =
    let same : c₁ ≡ c₂ = e₁ ∙ ap tally_of t ∙ sym e₂ in
    (ap (λ (c : Tally). c.rows) same, ap (λ (c : Tally). c.allowed) same, ap (λ (c : Tally). c.by_place) same, ap (λ (c : Tally). c.by_weights) same)

module _ (b₁ b₂ : List ℕ) (bytes₁ : Bytes b₁) (bytes₂ : Bytes b₂) (size₁ size₂ : ℕ) (c₁ c₂ : Tally) (yes₁ : verdict size₁ b₁ ≡ Ok c₁) (yes₂ : verdict size₂ b₂ ≡ Ok c₂) (contained : LogContained b₁ b₂) where
  pub compared : Compared b₁ b₂ c₁ c₂
  unfolding to_bundle
  compared =
      let f₁ = fields b₁ bytes₁ size₁ c₁ yes₁ in
      let f₂ = fields b₂ bytes₂ size₂ c₂ yes₂ in
      let d₁ : Contents = record { head = head_of b₁; certificates = f₁.0 } in
      let d₂ : Contents = record { head = head_of b₂; certificates = f₂.0 } in
      let a₁ = f₁.1.accepted in
      let a₂ = f₂.1.accepted in
      record {
        longer = λ w m e h. record {
          exactly = first-exactly (to_bundle d₁) (to_bundle d₂) a₁ a₂ contained w m e h;
          second = second-permits (to_bundle d₁) (to_bundle d₂) a₁ a₂ contained w m e h;
          same = nets-agree (to_bundle d₁) (to_bundle d₂) a₁ a₂ contained w m e h;
          screened₁ = screened-at-end b₁ bytes₁ size₁ c₁ yes₁ w m e h (first-screened (to_bundle d₁) (to_bundle d₂) a₁ a₂ contained w m e h);
          screened₂ = screened-at-end b₂ bytes₂ size₂ c₂ yes₂ w (contained.prefixes w m) e (subst (λ (n : ℕ). e < n) contained.events h) (second-screened (to_bundle d₁) (to_bundle d₂) a₁ a₂ contained w m e h);
        };
        counts = λ back. same-counts _ _ c₁ c₂ f₁.1.counts f₂.1.counts (tallies_agree (to_bundle d₁) (to_bundle d₂) a₁ a₂ contained back);
      }
