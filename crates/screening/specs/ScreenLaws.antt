-- The exits of screening, with one bundle and with two, each with the answer that the definition gives there.
use Rattle.std.specs.Prelude.{◌≡◌, true, List, [], ℕ, ◌≤◌, ◌<◌, eqb, leb, length, Err, None, Ok, Option, Some}
use Rattle.std.proofs.Common.{refl, sym, ◌∙◌, le_of_eq, arith}
use Rattle.std.proofs.Math.Dec.{ltb}
use borrow.Author.Tests.{le-leb, lt-leb, leb-true, leb-false, eq-eqb, ne_eqb}
use Rattle.laws.specs.Lists.{all}
use Rattle.laws.specs.Scans.{failing-all, failing-some, all-failing, some-failing}
use Rattle.refusals.specs.Answers.{Answer, answered}
use Rattle.refusals.specs.Tests.{test-passed, test-failed}
use Rattle.limits.specs.Limits.{max_places, max_word_events}
use Rattle.refusals.specs.Table.{word_length_number, word_event_number, event_counts_number}
use Rattle.refusals.specs.Results.{value, refused, bind, require}
use Rattle.refusals.specs.Answers.{refusal}
use Rattle.refusals.specs.declared.Refusal.{Refusal}
use Rattle.nets.specs.Nets.{Word, Net, join, screen}
use Rattle.nets.specs.Events.{first_bad, none_bad}
use Rattle.std.specs.Borrow.{Bor}
use Rattle.bundles.specs.Readers.{read_head, head_of, events_in, net_in}
use Rattle.bundles.specs.NetReading.{NetOf}
use Rattle.bundles.specs.declared.net.Net as bundles
use Rattle.stops.specs.Onward.{Searched}
use Rattle.stops.specs.declared.Search.{Search}
use Rattle.screening.specs.Screening.{word_on, screening, joining, replayed, screened_of, screened, screened_joined}
use Rattle.stops.specs.Positions.{Finds, finds-start, stop_or_end, best-stopped, best-permitted}
use Rattle.stops.specs.declared.Stop.{Stop}

-- ---- on a net

module _ (w : Word) {k n : ℕ} (is : k ≡ n) (net : Net) where
  event_wrong : first_bad n w < length w → word_on w k net ≡ refused word_event_number (first_bad n w)
  unfolding word_on require bind first_bad
  event_wrong l = rw (is, failing-some (λ e. ltb e n) w l)

  events-right : length w ≤ first_bad n w → word_on w k net ≡ value (screen k net w)
  unfolding word_on require bind first_bad
  events-right l = rw (is, failing-all (λ e. ltb e n) w l)

-- what a search found is the replay's answer
pub found_means : (n : ℕ) (net : Net) (w : Word) (found : Option Stop) → Finds n net w found → Ok found ≡ replayed (screen n net w)
unfolding replayed stop_or_end
found_means n net w None finds = rw (best-permitted n finds.best (omega arith))
found_means n net w (Some s) finds = rw (best-stopped n finds.best (finds.inside s refl))

-- a word that passed the tests may be searched in its places, behind so few others
abbrev pub search_in : {b : List ℕ} {net : bundles.Net} → NetOf b net → (word : Bor (List ℕ)) → length word.now ≤ max_word_events
    → length word.now ≤ first_bad net.n word.now → (before : ℕ) → before ≤ max_places → Search
search_in {b} {net} is word short below before few = record {
  net = net;
  before = before;
  word = word;
  found = is.found;
  over = record { size = short; events = none_bad net.n word.now below };
  few = few;
}

-- the search in its places, or on in those of another net over the same events
module _ {b : List ℕ} {w : Word} where
  pub search-first : (s : Search) {found : Option Stop} → NetOf b s.net → s.word.now ≡ w → s.before ≡ 0 → Searched s None found → Finds (events_in b) (net_in b) w found
  search-first s net is first searched = rw is at (rw net.same at (searched [] (sym first) (finds-start _ _)))

  pub search-on : (s : Search) {from found : Option Stop} (n : ℕ) (one : Net) → NetOf b s.net → s.word.now ≡ w → length one ≡ s.before → n ≡ events_in b
      → Finds n one w from → Searched s from found → Finds n (join one (net_in b)) w found
  search-on s n one net is size events finds searched = rw events (rw is at (rw net.same at (searched one size (rw (net.same, is) (rw events at finds)))))

-- ---- the tests, as the code answers them

module _ (w : Word) where
  -- 14
  abbrev pub length_test : Answer (Unit {0})
  length_test = answered (require (leb (length w) max_word_events) word_length_number max_word_events)

  pub length-passed : {u : Unit {0}} → Ok u ≡ length_test → length w ≤ max_word_events
  length-passed e = leb-true (length w) max_word_events (test-passed word_length_number max_word_events _ e)

  pub length-failed : {r : Refusal} → Err r ≡ length_test → (max_word_events < length w) × (r ≡ refusal word_length_number max_word_events)
  length-failed e = let t = test-failed word_length_number max_word_events _ e in (leb-false (length w) max_word_events t.0, t.1)

  -- 15
  abbrev pub events_test : ℕ → Answer (Unit {0})
  events_test n = answered (require (all (λ e. ltb e n) w) word_event_number (first_bad n w))

  pub events-passed : (n : ℕ) {u : Unit {0}} → Ok u ≡ events_test n → length w ≤ first_bad n w
  unfolding first_bad
  events-passed n e = le_of_eq (sym (all-failing (λ e. ltb e n) w (test-passed word_event_number _ _ e)))

  pub events-failed : (n : ℕ) {r : Refusal} → Err r ≡ events_test n → (first_bad n w < length w) × (r ≡ refusal word_event_number (first_bad n w))
  unfolding first_bad
  events-failed n e = let t = test-failed word_event_number _ _ e in (some-failing (λ e. ltb e n) w t.0, t.1)

-- ---- with one bundle

module _ (b : List ℕ) (w : Word) where
  pub word-long : max_word_events < length w → screened b w ≡ Err (refusal word_length_number max_word_events)
  unfolding screened screening require bind screened_of
  word-long h = rw (lt-leb (length w) max_word_events h)

  module _ (short : length w ≤ max_word_events) where
    pub head_wrong : (r : Refusal) → read_head b ≡ refused r.number r.spot → screened b w ≡ Err r
    unfolding screened screening require bind screened_of
    head_wrong r e = rw (le-leb (length w) max_word_events short, e)

    module _ {n : ℕ} (events : events_in b ≡ n) (read : read_head b ≡ value (head_of b)) where
      pub word_wrong : first_bad n w < length w → screened b w ≡ Err (refusal word_event_number (first_bad n w))
      unfolding screened screening require bind screened_of
      word_wrong l = rw (le-leb (length w) max_word_events short, read, event_wrong w events (net_in b) l)

      pub word-right : length w ≤ first_bad n w → screened b w ≡ replayed (screen (events_in b) (net_in b) w)
      unfolding screened screening require bind screened_of
      word-right l = rw (le-leb (length w) max_word_events short, read, events-right w events (net_in b) l)

-- ---- with two

module _ (first second : List ℕ) (w : Word) where
  pub joined-long : max_word_events < length w → screened_joined first second w ≡ Err (refusal word_length_number max_word_events)
  unfolding screened_joined joining require bind screened_of
  joined-long h = rw (lt-leb (length w) max_word_events h)

  module _ (short : length w ≤ max_word_events) where
    pub first_wrong : (r : Refusal) → read_head first ≡ refused r.number r.spot → screened_joined first second w ≡ Err r
    unfolding screened_joined joining require bind screened_of
    first_wrong r e = rw (le-leb (length w) max_word_events short, e)

    module _ (one : read_head first ≡ value (head_of first)) where
      pub second_wrong : (r : Refusal) → read_head second ≡ refused r.number r.spot → screened_joined first second w ≡ Err r
      unfolding screened_joined joining require bind screened_of
      second_wrong r e = rw (le-leb (length w) max_word_events short, one, e)

      module _ (two : read_head second ≡ value (head_of second)) where
        pub counts-differ : (events_in first ≡ events_in second → ⊥) → screened_joined first second w ≡ Err (refusal event_counts_number 0)
        unfolding screened_joined joining require bind screened_of
        counts-differ e = rw (le-leb (length w) max_word_events short, one, two, ne_eqb (events_in first) (events_in second) e)

        module _ {n : ℕ} (events : events_in first ≡ n) (same : events_in second ≡ n) where
          counts_same : eqb (events_in first) (events_in second) ≡ true
          counts_same = eq-eqb (events_in first) (events_in second) (events ∙ sym same)

          pub joined-right : length w ≤ first_bad n w → screened_joined first second w ≡ replayed (screen (events_in first) (join (net_in first) (net_in second)) w)
          unfolding screened_joined joining require bind screened_of
          joined-right l =
              rw (le-leb (length w) max_word_events short, one, two, counts_same, events-right w events (join (net_in first) (net_in second)) l)

          pub joined_wrong : first_bad n w < length w → screened_joined first second w ≡ Err (refusal word_event_number (first_bad n w))
          unfolding screened_joined joining require bind screened_of
          joined_wrong l =
              rw (le-leb (length w) max_word_events short, one, two, counts_same, event_wrong w events (join (net_in first) (net_in second)) l)
