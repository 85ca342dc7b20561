-- JUDGING, SCREENING AND PRUNING AS THEY WERE BEFORE REQUEST 8: the readers, tests and answers of the requirements, without an edition, marks,
-- pairs and the rule. Old bundles, those whose first byte is below 128, get these answers, number for number.
use Rattle.std.specs.Prelude.{◌≡◌, Bool, false, cond, ◌&&◌, List, [], ◌∷◌, ◌++◌, map, ℕ, zero, suc, ◌+◌, ◌*◌, ◌<◌, leb, ltb, eqb, length, get_or}
use mathlib.Core.List.{flat_map}
use Rattle.laws.specs.Lists.{all, tabulate}
use Rattle.laws.specs.Numbers.{le16}
use Rattle.laws.specs.Scans.{first_failing}
use Rattle.limits.specs.Limits.{right_size}
use Rattle.refusals.specs.Results as results
use Rattle.refusals.specs.Results.{Result, value, bind}
use Rattle.nets.specs.Nets.{Word, Log, Entry, Step, join, words, at, same, weighed, event_count, refused_by}
use Rattle.nets.specs.Bundle.{Term, weight_of}
use Rattle.bundles.specs.Reading.{Reader, item_in, ◌>>=◌, ◌>>◌, give, offset, require, byte, number, each, following, times}
use Rattle.bundles.specs.Layout.{CertificateFields, kind0, kind1, Head, Contents, to_net, to_term, rows_in, wrong_in, fits_in, allowed_in}
use Rattle.bundles.specs.Layout.{term_bytes, places_bytes}
use Rattle.bundles.specs.Readers.{anything, places, term, rows_in_limit, any_rows, bundle_size}
use Rattle.verdicts.specs.Judging.{unsolved, at_end, verdict_of, verdict, table_on, table_after, Verdict}
use Rattle.pruning.specs.Pruning.{pruned, pruning}
use Rattle.screening.specs.Screening.{Screened, word_on, screened_of, screened, screened_joined}

-- ---- Reading

-- a word, behind so many events: its length byte; 8; its events
unfoldable pub old_word_after : ℕ → ℕ → Reader Entry
old_word_after n count = do
  start ← offset
  size ← byte anything
  require (leb (count + size) 1024) 8 start
  w ← times size (byte (λ e. ltb e n))
  give (record { word = w; completed = false })

-- a word, behind those before, and 9 where its rows do not fit
unfoldable pub old_word : (Log → Bool) → ℕ → List Entry → Reader Entry
old_word rows_fit n before = do
  start ← offset
  x ← old_word_after n (event_count (words before))
  require (rows_fit (words (before ++ x ∷ []))) 9 start
  give x

-- n, 1 to 12; the word count and the words; the places
unfoldable pub old_head_after : (ℕ → Log → Bool) → ℕ → Reader Head
old_head_after rows_fit n = do
  count ← byte anything
  entries ← following count (old_word (rows_fit n) n)
  ps ← places n
  give (record { is_new = false; events = n; entries = entries; places = ps })

unfoldable pub old_head : (ℕ → Log → Bool) → Reader Head
old_head rows_fit = do
  n ← byte (λ n. leb 1 n && leb n 12)
  old_head_after rows_fit n

-- a certificate: its kind, then a place's number, or k, the term count and the terms
unfoldable pub old_weights : Head → Reader CertificateFields
old_weights h = do
  k ← number (leb 1)
  count ← byte (λ c. leb c 64)
  ts ← times count (term h.events (length (rows_in h)))
  give (kind1 (record { k = k; terms = ts; pairs = [] }))

unfoldable pub old_kind : Head → ℕ → Reader CertificateFields
old_kind h zero = do
  j ← byte (λ j. ltb j (length h.places))
  give (kind0 j)
old_kind h (suc _) = old_weights h

unfoldable pub old_certificate : Head → Reader CertificateFields
old_certificate h = do
  kind ← byte (λ kind. leb kind 1)
  old_kind h kind

-- ---- What a certificate shows, in natural numbers

module _ (n : ℕ) (s : Step) (k : ℕ) (ts : List Term) where
  -- the second inequality, and the third
  abbrev pub old_before : ℕ → Bool
  old_before i = leb (weighed weight_of (λ t. at t.step.row i) ts) (k * at s.row i)

  abbrev pub old_after : ℕ → Bool
  old_after i = leb (k * (at s.row i + same s.event i)) (weighed weight_of (λ t. at t.step.row i + same t.step.event i) ts)

  -- k is at least 1, the sum of g is at most k, and the two at each event
  unfoldable pub old_hold : (Step → Bool) → Bool
  old_hold allowed =
      leb 1 k && all (λ t. allowed t.step) ts && leb (weighed weight_of (λ t. 1) ts) k && all old_before (tabulate n (λ i. i))
      && all old_after (tabulate n (λ i. i))

unfoldable pub old_solves : Head → Step → CertificateFields → Bool
old_solves h s (kind0 j) = refused_by h.events (to_net h) j s
old_solves h s (kind1 w) = old_hold h.events s w.k (map (to_term h) w.terms) (allowed_in h)

-- ---- Judging: 4, 5, then bundle order; 10 for all places, then the certificates, then 13

unfoldable pub old_solved : Head → Step → List CertificateFields → Reader CertificateFields
old_solved h s before = do
  c ← old_certificate h
  require (old_solves h s c) (unsolved c) (length before)
  give c

unfoldable pub old_behind : Head → Reader Contents
old_behind h = do
  require (all (fits_in h) (to_net h)) 10 (first_failing (fits_in h) (to_net h))
  cs ← each (old_solved h) (wrong_in h) []
  give (record { head = h; certificates = cs })

unfoldable pub old_judging : Reader Contents
old_judging = do
  c ← old_head rows_in_limit >>= old_behind
  at_end
  give c

unfoldable pub old_judged : ℕ → Reader Contents
old_judged table_length = bundle_size >> (require (leb 3584 table_length) 5 3584 >> old_judging)

unfoldable pub old_verdict : ℕ → List ℕ → Verdict
old_verdict table_length b = verdict_of (old_judged table_length b 0)

-- the table afterwards
unfoldable pub old_table : List ℕ → List ℕ → List ℕ
old_table b t = cond (right_size (length b) && leb 3584 (length t)) (table_on (old_judging b 0) t) t

-- ---- Screening: 14; 4, then 6, 7, 8 up to the last place; 15; the replay. Joined, the second bundle's behind the first one's, and 19 before 15

unfoldable pub old_read : List ℕ → Result Head
old_read b = bind ((bundle_size >> old_head any_rows) b 0) (λ i. value (item_in i))

unfoldable pub old_screened : List ℕ → Word → Screened
old_screened b w = screened_of (bind (results.require (leb (length w) 65535) 14 65535) (λ u. bind (old_read b) (λ h. word_on w h.events (to_net h))))

unfoldable pub old_joined : List ℕ → List ℕ → Word → Screened
old_joined first second w = screened_of (bind (results.require (leb (length w) 65535) 14 65535) (λ u. bind (old_read first) (λ one.
    bind (old_read second) (λ two. bind (results.require (eqb one.events two.events) 19 0)
    (λ u. word_on w one.events (join (to_net one) (to_net two)))))))

-- ---- Pruning: the judge's refusals, else the bytes of what is left

unfoldable pub old_certificate_bytes : CertificateFields → List ℕ
old_certificate_bytes (kind0 j) = 0 ∷ j ∷ []
old_certificate_bytes (kind1 w) = 1 ∷ (le16 w.k ++ (length w.terms ∷ flat_map term_bytes w.terms))

-- n, the word count, each word behind its length; the places; the certificates
unfoldable pub old_bytes : Contents → List ℕ
old_bytes c =
    ((c.head.events ∷ length c.head.entries ∷ flat_map (λ x. length x.word ∷ x.word) c.head.entries) ++ places_bytes c.head.places)
    ++ flat_map old_certificate_bytes c.certificates

unfoldable pub old_pruning : ℕ → List ℕ → Result (List ℕ)
old_pruning table_length b = bind (old_judged table_length b 0) (λ i. value (old_bytes (pruned (item_in i))))

-- ---- An old bundle gets these answers

pub record AnswersAsBefore (b : List ℕ) : Type 0 where
  pub judged : (table_length : ℕ) → verdict table_length b ≡ old_verdict table_length b
  pub table : (table : List ℕ) → table_after b table ≡ old_table b table
  pub pruned : (table_length : ℕ) → pruning table_length b ≡ old_pruning table_length b
  pub screened : (w : Word) → screened b w ≡ old_screened b w
  pub joined : (second : List ℕ) → get_or second 0 0 < 128 → (w : Word) → screened_joined b second w ≡ old_joined b second w
