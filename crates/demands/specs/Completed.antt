-- REQUEST 8: 'A completed sale returns to idle.' 'The network's rule now is that a completed sale leaves the terminal as it was before, which
-- document 001, section 3.1.2, calls soundness.'
-- The rule in acceptance and in the comparison of two files is part of demands 2 and 3 (Demands.antt), the refusals of the new edition are lines of
-- Judging.antt, and Pruning.antt says what pruning keeps. Here: what the rule means for every net, and for the net of an accepted bundle; what a
-- first byte, a mark and a pair say; when weights with pairs hold, and where a pair is needed; and what is as it was in a bundle of the old
-- edition, which is judged, screened and pruned as before (OldJudge.antt). CompletedSamples.antt has bundles of the new one. That inner cycles of
-- completed words repeat, 001's example, is a sample of the theory (`inner-repeats`, crates/nets/proofs/CompletedCases.antt).
use Rattle.std.specs.Prelude.{◌≡◌, true, false, not, ◌↔◌, ℕ, ◌+◌, ◌*◌, ◌/◌, ◌%◌, ◌≤◌, ◌<◌, T, ℤ, pos, neg_ℤ, ◌+ℤ◌, ◌-ℤ◌, ◌*ℤ◌, ◌≤ℤ◌, length}
use Rattle.std.specs.Prelude.{get_or, Err, None, Ok}
use mathlib.Core.List.{List, [], ◌∷◌, ◌++◌, map, flat_map, Memᴰ}
use Rattle.laws.specs.Differences.{sumℤ}
use Rattle.laws.specs.Every.{Every}
use Rattle.laws.specs.Numbers.{Bytes}
use Rattle.refusals.specs.Answers.{refusal}
use Rattle.nets.specs.Nets.{Word, Log, Entry, no_entry, Step, Place, Net, words, completed_words, same, occurrences, weighed, at, counts}
use Rattle.nets.specs.Nets.{step_after, permits}
use Rattle.nets.specs.Bundle.{Term, Pair, Weights, weight_of}
use Rattle.nets.specs.Words.{Begins, Prefix, PermitsLog, Obeys, EveryObeyingNetPermits}
use Rattle.nets.specs.Entries.{Completed, NoneCompleted}
use Rattle.nets.specs.Fits.{LogBelow}
use Rattle.nets.specs.TokenGame.{places_of, initially, after_word, initial_tokens, Run, language_of}
use Rattle.nets.specs.Regions.{◌⊆◌, Constraint}
use Rattle.nets.specs.Completed.{Invariant, concatenated, sound_regions}
use Rattle.nets.specs.RegionCertificates.{WeightsMeet}
use Rattle.bundles.specs.Layout.{PairFields, WeightFields, kind0, kind1, Head, Contents, CertificateInLimits, InLimits, HeadInFront}
use Rattle.bundles.specs.Layout.{to_pair, to_weights, wrong_in, weights_hold_in, certificate_bytes, entry_bytes, pair_bytes, pairs_bytes, term_bytes}
use Rattle.bundles.specs.Layout.{weight_bytes, bytes_of}
use Rattle.bundles.specs.Readers.{head_of, events_in, log_in, net_in}
use Rattle.verdicts.specs.Judging.{verdict}
use Rattle.verdicts.specs.Reached.{CertificateDue}
use Rattle.verdicts.specs.OldEdition.{NoPairs}
use Rattle.verdicts.specs.declared.Tally.{Tally}
use Rattle.screening.specs.Screening.{screened}
use Rattle.demands.specs.Judging.{Sized}
use Rattle.demands.specs.OldJudge.{AnswersAsBefore}

-- the words of a bundle, each with whether it is completed
abbrev pub entries_in : List ℕ → List Entry
entries_in b = (head_of b).entries

-- ---- Every net, over the events below n, that obeys the completed words among the entries of a log

pub record Obeying (n : ℕ) (entries : List Entry) : Type 0 where
  -- the log has the words of all entries; a completed word is that of an entry which says so
  pub log : words entries ≡ map (λ x. x.word) entries
  pub completed : (w : Word) → Completed entries w ↔ ((x : Entry) × Memᴰ x entries × (x.completed ≡ true) × (x.word ≡ w))
  -- 'For a completed word with counts u, each place must have sum of u(i) × (in(i) − out(i)) equal to 0. A net whose places all do so obeys the
  -- log's completed words'
  pub rule : (net : Net) → Obeys n net (completed_words entries) ↔ ((p : Place) → Memᴰ p net → (x : Entry) → Memᴰ x entries
      → x.completed ≡ true → sumℤ n (λ i. pos (at (counts n x.word) i) *ℤ (pos (p.produced i) -ℤ pos (p.consumed i))) ≡ pos 0)
  -- 001: 'Words in L_max would correspond to complete executions of a case and their Parikh vectors should be T-invariants for the Petri net'
  pub invariants : (net : Net) → Obeys n net (completed_words entries)
      ↔ ((w : Word) → Completed entries w → Invariant n (places_of net) (counts n w))
  -- 001: 'after the treatment of a case the system recovers its initial state': (M₀ • w)(p) = M₀(p), and M₀[w⟩M₀ where the net permits the log
  pub marking : (net : Net) → Obeys n net (completed_words entries) → (w : Word) → Completed entries w → (p : Place) → Memᴰ p net
      → after_word initially w p ≡ initially p
  pub run : (net : Net) → PermitsLog n net (words entries) → Obeys n net (completed_words entries) → (w : Word) → Completed entries w
      → Run (places_of net) initial_tokens w initial_tokens
  -- 001: '.. where it can initiate a new case': behind a completed word the net permits what it permits at the start
  pub idle : (net : Net) → PermitsLog n net (words entries) → Obeys n net (completed_words entries) → (w : Word) → Completed entries w
      → (x : Word) → permits n net (w ++ x) ≡ permits n net x
  -- so any number of completed words, one behind the other, and behind them any prefix of the log, is permitted by every such net
  pub again : (ws : List Word) → Every (Completed entries) ws → (u : Word) → Prefix (words entries) u
      → EveryObeyingNetPermits n entries (concatenated ws ++ u)
  -- 001: 'whose prefix language should therefore contain the prefix-closure of the ω-language L_max^ω'
  pub language : (net : Net) → PermitsLog n net (words entries) → Obeys n net (completed_words entries)
      → (ws : List Word) → Every (Completed entries) ws → (x : Word) → Begins x (concatenated ws) → language_of n (places_of net) x
  -- such nets are the lists of sound regions: regions of the log 'such that I · N = 0', where I has the completed words' Parikh vectors
  pub regions : (net : Net) → (PermitsLog n net (words entries) × Obeys n net (completed_words entries)) ↔ (places_of net ⊆ sound_regions n entries)

-- ---- The net of an accepted bundle

pub record ReturnsToIdle (b : List ℕ) : Type 0 where
  pub obeys : Obeys (events_in b) (net_in b) (completed_words (entries_in b))
  pub idle : (w : Word) → Completed (entries_in b) w → (x : Word) → permits (events_in b) (net_in b) (w ++ x) ≡ permits (events_in b) (net_in b) x
  pub again : (ws : List Word) → Every (Completed (entries_in b)) ws → (u : Word) → Prefix (log_in b) u
      → T (permits (events_in b) (net_in b) (concatenated ws ++ u))
  -- screening says so, too, of as many events as it takes
  pub screened : (ws : List Word) → Every (Completed (entries_in b)) ws → (u : Word) → Prefix (log_in b) u → length (concatenated ws ++ u) ≤ 65535
      → screened b (concatenated ws ++ u) ≡ Ok None

-- ---- What a first byte, a mark and a pair say

-- 'In a new edition the first byte is 128 + n': of a bundle that begins with the head h, within its limits
pub record FirstSays (b : List ℕ) (h : Head) : Type 0 where
  pub new : h.is_new ≡ true → get_or b 0 0 ≡ 128 + h.events
  pub old : h.is_new ≡ false → get_or b 0 0 ≡ h.events

-- neither 1 to 12 nor 129 to 140
abbrev pub NoFirst : ℕ → Type 0
NoFirst x = ((1 ≤ x) × (x ≤ 12) → ⊥) × ((129 ≤ x) × (x ≤ 140) → ⊥)

-- 'each length byte is followed by a mark, 0 partial or 1 completed'; the old edition has none
pub record MarkSays (x : Entry) : Type 0 where
  pub completed : x.completed ≡ true → entry_bytes true x ≡ length x.word ∷ 1 ∷ x.word
  pub partial : x.completed ≡ false → entry_bytes true x ≡ length x.word ∷ 0 ∷ x.word
  pub old : entry_bytes false x ≡ length x.word ∷ x.word

-- 'a count byte, 0 to 64, then pairs of word number (one byte) and a signed two-byte weight h in two's complement'; the old edition has none
pub record PairsSay : Type 0 where
  pub new : (qs : List PairFields) → pairs_bytes true qs ≡ length qs ∷ flat_map pair_bytes qs
  pub old : (qs : List PairFields) → pairs_bytes false qs ≡ []
  pub bytes : (q : PairFields) → pair_bytes q ≡ q.word ∷ q.weight % 256 ∷ q.weight / 256 % 256 ∷ []
  pub number : (q : PairFields) → (to_pair q).number ≡ q.word
  -- h, of the two bytes as a number x: x up to 32,767, from 32,768 on 65,536 less
  pub above : (q : PairFields) → q.weight < 32768 → (to_pair q).weight ≡ pos q.weight
  pub below : (q : PairFields) → 32768 ≤ q.weight → (to_pair q).weight ≡ pos q.weight -ℤ pos 65536
  -- 'Kind 1 gains a second list after its terms'
  pub behind : (w : WeightFields)
      → weight_bytes true w ≡ w.k % 256 ∷ w.k / 256 % 256 ∷ length w.terms ∷ (flat_map term_bytes w.terms ++ pairs_bytes true w.pairs)

-- ---- When weights hold

-- f x, added up over the members of a list
unfoldable pub added : {A : Type 0} → (A → ℤ) → List A → ℤ
added f [] = pos 0
added f (x ∷ xs) = f x +ℤ added f xs

-- h × u(i) over the pairs: u are the counts of the word that a pair names by its number; pairs may repeat, and add
abbrev pub pairs_add : List Entry → List Pair → ℕ → ℤ
pairs_add entries qs i = added (λ q. q.weight *ℤ pos (occurrences i (get_or entries q.number no_entry).word)) qs

-- by the requirements, for the step e behind v: 'the first is as it was'
pub record Meets (n : ℕ) (entries : List Entry) (s : Step) (w : Weights) : Type 0 where
  pub constraints : (t : Term) → Memᴰ t w.terms → Constraint n (Prefix (words entries)) t.step
  -- each pair names a word, and a completed one
  pub named : (q : Pair) → Memᴰ q w.pairs → (q.number < length entries) × ((get_or entries q.number no_entry).completed ≡ true)
  pub positive : 1 ≤ w.k
  pub total : weighed weight_of (λ t. 1) w.terms ≤ w.k
  -- 'In the second and third inequality, h × u(i) is added to the side of the weights'
  pub before : (i : ℕ) → i < n
      → (added (λ t. pos (t.weight * at t.step.row i)) w.terms +ℤ pairs_add entries w.pairs i) ≤ℤ pos (w.k * at s.row i)
  pub after : (i : ℕ) → i < n → pos (w.k * (at s.row i + same s.event i))
      ≤ℤ (added (λ t. pos (t.weight * (at t.step.row i + same t.step.event i))) w.terms +ℤ pairs_add entries w.pairs i)

-- the next certificate of a bundle is there, with weights of which a pair names a partial word
pub record OfPartial (b : List ℕ) (number : ℕ) : Type 0 where
  pub contents : Contents
  pub step : Step
  pub weights : WeightFields
  pub rest : List ℕ
  pub due : CertificateDue b contents step (certificate_bytes contents.head.is_new (kind1 weights) ++ rest)
  pub limits : CertificateInLimits contents.head (kind1 weights)
  pub place : number ≡ length contents.certificates
  pub pair : PairFields
  pub listed : Memᴰ pair weights.pairs
  pub partial : (get_or contents.head.entries pair.word no_entry).completed ≡ false

-- ---- Where a pair is needed

-- an accepted bundle whose certificate of a step has one pair, with the weight h: every net permits the step that permits the log and obeys its
-- completed words, and some net refuses it that only permits the log
pub record PairNeeded (h : ℤ) : Type 0 where
  pub bundle : List ℕ
  pub bytes : Bytes bundle
  pub counts : Tally
  pub accepted : verdict 3584 bundle ≡ Ok counts
  pub contents : Contents
  pub layout : bundle ≡ bytes_of contents
  pub weights : WeightFields
  pub number : ℕ
  pub certificate : get_or contents.certificates number (kind0 0) ≡ kind1 weights
  pub pair : map (λ q. (to_pair q).weight) weights.pairs ≡ h ∷ []
  pub prefix : Word
  pub event : ℕ
  pub inside : Prefix (log_in bundle) prefix
  -- the certificate of that number is the one of this step
  pub due : get_or (wrong_in contents.head) number (step_after 0 [] 0) ≡ step_after (events_in bundle) prefix event
  pub holds : weights_hold_in contents.head (step_after (events_in bundle) prefix event) weights ≡ true
  pub every : EveryObeyingNetPermits (events_in bundle) (entries_in bundle) (prefix ++ event ∷ [])
  pub net : Net
  pub permitted : PermitsLog (events_in bundle) net (log_in bundle)
  pub refuses : T (not (permits (events_in bundle) net (prefix ++ event ∷ [])))

-- ---- Bundles of the old edition: their first byte is below 128

-- weights without pairs, by the inequalities of the requirements, in natural numbers
pub record MeetsAlone (n : ℕ) (log : Log) (s : Step) (k : ℕ) (ts : List Term) : Type 0 where
  pub constraints : (t : Term) → Memᴰ t ts → Constraint n (Prefix log) t.step
  pub positive : 1 ≤ k
  pub total : weighed weight_of (λ t. 1) ts ≤ k
  pub before : (i : ℕ) → i < n → weighed weight_of (λ t. at t.step.row i) ts ≤ k * at s.row i
  pub after : (i : ℕ) → i < n → k * (at s.row i + same s.event i) ≤ weighed weight_of (λ t. at t.step.row i + same t.step.event i) ts

pub record OldBundle (b : List ℕ) : Type 0 where
  -- 'Old bundles are read as having no completed word'
  pub partial : NoneCompleted (entries_in b)
  -- .. and no pair
  pub contents : (d : Contents) → b ≡ bytes_of d → InLimits d
      → (d.head.is_new ≡ false) × NoneCompleted d.head.entries × Every NoPairs d.certificates
  pub never-20 : (table_length spot : ℕ) → verdict table_length b ≡ Err (refusal 20 spot) → ⊥

pub record Request8 : Type 0 where
  -- words one behind the other
  pub one_behind : (concatenated [] ≡ []) × ((w : Word) (ws : List Word) → concatenated (w ∷ ws) ≡ w ++ concatenated ws)
  pub nets : (n : ℕ) (entries : List Entry) → LogBelow n (words entries) → Obeying n entries
  pub accepted : (table_length : ℕ) (b : List ℕ) → Bytes b → (c : Tally) → verdict table_length b ≡ Ok c → ReturnsToIdle b
  pub first_byte : (b : List ℕ) (h : Head) (rest : List ℕ) → HeadInFront b h rest → FirstSays b h
  -- a first byte that says neither edition: 7 at 0, by judging and by screening
  pub no-first : (table_length : ℕ) (b : List ℕ) → Bytes b → (verdict table_length b ≡ Err (refusal 7 0))
      ↔ (Sized table_length b × NoFirst (get_or b 0 0))
  pub no-first-screened : (b : List ℕ) → Bytes b → (w : Word) → (screened b w ≡ Err (refusal 7 0))
      ↔ ((length w ≤ 65535) × (1 ≤ length b) × (length b ≤ 64512) × NoFirst (get_or b 0 0))
  pub mark : (x : Entry) → MarkSays x
  pub pairs : PairsSay
  pub meets : (h : Head) (s : Step) → s.event < h.events → (w : WeightFields)
      → (weights_hold_in h s w ≡ true) ↔ Meets h.events h.entries s (to_weights h w)
  -- 'A pair naming a partial word fails with 12', once its certificate is read whole: whatever its h, and though the same events stand elsewhere
  -- as completed
  pub of-partial : (table_length : ℕ) (b : List ℕ) → Bytes b → Sized table_length b → (number : ℕ) → OfPartial b number
      → verdict table_length b ≡ Err (refusal 12 number)
  -- with h above 0, and with h below 0
  pub above : PairNeeded (pos 6)
  pub below : PairNeeded (neg_ℤ (pos 2))
  pub old : (b : List ℕ) → Bytes b → get_or b 0 0 < 128 → OldBundle b
  -- '.. and answer as before' (OldJudge.antt)
  pub as_before : (b : List ℕ) → Bytes b → get_or b 0 0 < 128 → AnswersAsBefore b
  pub alone : (n : ℕ) (entries : List Entry) (s : Step) (k : ℕ) (ts : List Term)
      → WeightsMeet n entries s (record { k = k; terms = ts; pairs = [] }) ↔ MeetsAlone n (words entries) s k ts
