-- A long word is searched part by part. Behind the parts that are done, each place has so many tokens; in the next part it is replayed from there.
use Rattle.std.specs.Prelude.{◌≡◌, true, List, [], ◌∷◌, ◌++◌, ℕ, zero, suc, ◌+◌, ◌-◌, ◌*◌, min, ◌≤◌, ◌<◌, ℤ, pos, length, take, drop, get_or}
use Rattle.std.proofs.Common.{sym, ap, ap₂, ◌∙◌, subst, ⊎_elim, add-one, arith, length-take, take-take, get_or-drop}
use Rattle.std.proofs.lemmas.Bool.{false≢true}
use Rattle.std.proofs.Math.ListN.{get_or-map, get_or-append}
use Rattle.std.proofs.lemmas.List.{get_or-append_right}
use Rattle.laws.specs.Booleans.{lt_or_le}
use Rattle.laws.specs.Lists.{all}
use Rattle.laws.specs.Numbers.{Bytes}
use Rattle.laws.specs.Scans.{all-exactly}
use Rattle.limits.specs.Limits.{max_events, max_places}
use Rattle.nets.specs.Nets.{Word, Place, counts, step_at, tokens, place_permits, net_permits}
use Rattle.nets.specs.Events.{EventsBelow}
use Rattle.nets.specs.Markings.{tokens_none}
use Rattle.bundles.specs.Layout.{to_place}
use Rattle.bundles.specs.NumberReading.{items_at, get_d_items}
use Rattle.bundles.specs.PlaceReading.{place_size, fields_at, place-small}
use Rattle.bundles.specs.Keeping.{place_spot}
use Rattle.stops.specs.Positions.{step_cut, Best, best-start, best-stays, best-earlier}
use Rattle.stops.specs.Replay.{replay, Start}
use Rattle.stops.specs.Searching.{WordOver, net_at, net_snoc, net-length, part-below}
use Rattle.stops.specs.Reached.{part, place_at, Reached, found-permits, found-refuses, found-short, start_reached}
use Rattle.replays.specs.Columns.{column_width}
use Rattle.bundles.specs.declared.net.Net as bundle
use Rattle.stops.specs.declared.Search.{Search}
use Rattle.stops.specs.declared.Stop.{Stop}

-- a word of so many events is searched part by part; its first part has so many
abbrev pub long_word : ℕ
long_word = 1024

module _ (n : ℕ) (w : Word) where
  -- no place yet
  pub best_none : (b : List ℕ) (at : ℕ) → Best n (net_at n b at 0) w (record { position = length w; place = 0; shortfall = 0 })
  unfolding items_at
  best_none b at = best-start n w

  -- ---- one place more: j places of a bundle were searched, and the next one is replayed up to the best position

  module _ (below : EventsBelow n w) (b : List ℕ) (at j : ℕ) {from : Stop} (so_far : Best n (net_at n b at j) w from)
      {t : ℤ} {d : ℕ} (r : Reached n w (place_at n b at j) t d) (early : d ≤ from.position) where
    inside : d + (from.position - d) ≤ length w
    inside = omega (arith, so_far.within)

    abbrev next : Stop
    next = replay (place_at n b at j) t (part w d (from.position - d))

    pub exact-stays : from.position ≤ d + next.position → Best n (net_at n b at (j + 1)) w from
    exact-stays h = rw (net_snoc n b at j) (best-stays n so_far (place_at n b at j) (λ i l. found-permits n w below r (from.position - d) inside i (omega arith)))

    pub exact-earlier : d + next.position < from.position
        → Best n (net_at n b at (j + 1)) w (record { position = d + next.position; place = j; shortfall = next.shortfall })
    exact-earlier h =
        let l : next.position < from.position - d = omega arith in
        rw (net_snoc n b at j)
        (subst (λ (s : Stop). Best n (net_at n b at j ++ place_at n b at j ∷ []) w s)
        (ap₂ (λ (x y : ℕ). record { position = d + next.position; place = x; shortfall = y }) (net-length n b at j) (found-short n w below r (from.position - d) inside l))
        (best-earlier n so_far (place_at n b at j) (d + next.position) h (found-permits n w below r (from.position - d) inside) (found-refuses n w below r (from.position - d) inside l)))

-- ---- the places of a bundle in a part of a word

-- `count` places of n events from an offset on, a word over these events, and the tokens of the places behind its first d steps, which they permit
pub record PlacesReached (n : ℕ) (b : List ℕ) (at count : ℕ) (w : Word) (d : ℕ) (t : List ℤ) : Type 0 where
  pub limit : n ≤ max_events
  pub inside : at + 2 * (count * place_size n) ≤ length b
  pub word : WordOver n w
  pub early : d ≤ length w
  pub room : count ≤ length t
  pub reached : (j : ℕ) → j < count → Reached n w (place_at n b at j) (get_or t j (pos 0)) d

-- the next of these places is replayed from its tokens
pub start-part : {n : ℕ} {b : List ℕ} {at count : ℕ} {w : Word} {d : ℕ} {t : List ℤ} → PlacesReached n b at count w d t → Bytes b
    → (j : ℕ) → j < count → (m : ℕ) → d + m ≤ length w → Start (get_or t j (pos 0)) (part w d m)
start-part {n} {b} {at} {count} {w} {d} {t} s bytes j h m inside =
    let few = place-small b bytes n (at + 2 * (j * place_size n)) in
    start_reached s.word s.limit (place_at n b at j) few.0 few.1 (s.reached j h) s.early m inside

-- the same, with a list of tokens that is `width` long at least, and no tokens in it behind the last place
pub record Marked (width n : ℕ) (b : List ℕ) (at count : ℕ) (w : Word) (d : ℕ) (t : List ℤ) : Type 0 where
  pub places : PlacesReached n b at count w d t
  pub few : count ≤ width
  pub wide : width ≤ length t
  pub none : (j : ℕ) → count ≤ j → j < width → get_or t j (pos 0) ≡ pos 0

-- the marking m has the initial tokens of `count` places at its front, and is m₀ behind them
pub record Initial (n : ℕ) (b : List ℕ) (at count : ℕ) (m₀ m : List ℤ) : Type 0 where
  pub initial : (j : ℕ) → j < count → get_or m j (pos 0) ≡ pos (place_at n b at j).initial
  pub rest : (j : ℕ) → count ≤ j → get_or m j (pos 0) ≡ get_or m₀ j (pos 0)

-- the front of a marking of zeros that is written
pub initial-front : {n : ℕ} {b : List ℕ} {at count : ℕ} (t m : List ℤ) → length t ≡ count → ((j : ℕ) → j < count → get_or t j (pos 0) ≡ pos (place_at n b at j).initial)
    → ((j : ℕ) → get_or m j (pos 0) ≡ pos 0) → Initial n b at count [] (t ++ drop count m)
initial-front {count = count} t m size initial blank = record {
  initial = λ j h. get_or-append t (drop count m) (pos 0) j (omega (arith, size)) ∙ initial j h;
  rest = λ j h. get_or-append_right t (drop count m) count j (pos 0) size h ∙ get_or-drop count m (j - count) (pos 0) ∙ blank (count + (j - count));
}

-- the tokens of the places of a net
abbrev pub MarkedIn : bundle.Net → Word → ℕ → List ℤ → Type 0
MarkedIn at w d t = Marked max_places at.n at.bundle.now at.first at.count w d t

-- of a search
abbrev pub MarkedAll : Search → ℕ → List ℤ → Type 0
MarkedAll s d t = MarkedIn s.net s.word.now d t

-- up to eight of them, from number k on
abbrev pub eight : Search → ℕ → ℕ
eight s k = min column_width (s.net.count - k)

-- and their tokens
abbrev pub EightIn : bundle.Net → Word → ℕ → ℕ → List ℤ → Type 0
EightIn at w k d t = Marked column_width at.n at.bundle.now (place_spot at k) (min column_width (at.count - k)) w d t

abbrev pub MarkedEight : Search → ℕ → ℕ → List ℤ → Type 0
MarkedEight s k d t = EightIn s.net s.word.now k d t

-- at first
pub marked_start : {width n : ℕ} {b : List ℕ} {at count : ℕ} {w : Word} {t₀ t : List ℤ} → n ≤ max_events → at + 2 * (count * place_size n) ≤ length b → WordOver n w
    → count ≤ width → width ≤ length t → Initial n b at count t₀ t → ((j : ℕ) → get_or t₀ j (pos 0) ≡ pos 0) → Marked width n b at count w 0 t
marked_start {n = n} {b} {at} limit inside word few wide start blank = record {
  places = record {
    limit = limit;
    inside = inside;
    word = word;
    early = omega arith;
    room = omega arith;
    reached = λ j h. record { is = start.initial j h ∙ sym (tokens_none n (place_at n b at j)); permits = λ i l. absurd (omega arith) };
  };
  few = few;
  wide = wide;
  none = λ j h l. start.rest j h ∙ blank j;
}

-- a prefix, and the word
module _ {width n : ℕ} {b : List ℕ} {at count : ℕ} {w : Word} {d : ℕ} {t : List ℤ} {end : ℕ} (inside : end ≤ length w) where
  pub marked-cut : d ≤ end → Marked width n b at count w d t → Marked width n b at count (take end w) d t
  marked-cut early m = record {
    places = record {
      limit = m.places.limit;
      inside = m.places.inside;
      word = record {
        size = omega (arith, m.places.word.size, length-take end w);
        events = part-below n w m.places.word.events end;
      };
      early = omega (arith, length-take end w);
      room = m.places.room;
      reached = λ j h.
          let r = m.places.reached j h in
          let p = place_at n b at j in
          record {
            is = r.is ∙ ap (λ (u : Word). tokens n p (counts n u)) (sym (take-take d end w early));
            permits = λ i l. ap (place_permits n p) (step_cut n w end i (omega arith)) ∙ r.permits i l;
          };
    };
    few = m.few;
    wide = m.wide;
    none = m.none;
  }

  pub marked-whole : WordOver n w → Marked width n b at count (take end w) d t → Marked width n b at count w d t
  marked-whole word m =
      let early : d ≤ end = omega (arith, m.places.early, length-take end w) in
      record {
        places = record {
          limit = m.places.limit;
          inside = m.places.inside;
          word = word;
          early = omega arith;
          room = m.places.room;
          reached = λ j h.
              let r = m.places.reached j h in
              let p = place_at n b at j in
              record {
                is = r.is ∙ ap (λ (u : Word). tokens n p (counts n u)) (take-take d end w early);
                permits = λ i l. ap (place_permits n p) (sym (step_cut n w end i (omega arith))) ∙ r.permits i l;
              };
        };
        few = m.few;
        wide = m.wide;
        none = m.none;
      }

-- behind the last part no step is refused
pub best-all : (n : ℕ) (b : List ℕ) (at count : ℕ) (w : Word) → ((j : ℕ) → j < count → (i : ℕ) → i < length w → place_permits n (place_at n b at j) (step_at n w i) ≡ true)
    → Best n (net_at n b at count) w (record { position = length w; place = 0; shortfall = 0 })
best-all n b at count w permits = go count (omega arith)
  where
    go : (j : ℕ) → j ≤ count → Best n (net_at n b at j) w (record { position = length w; place = 0; shortfall = 0 })
    go zero h = best_none n w b at
    go (suc j) h = rw (← add-one j) (rw (net_snoc n b at j) (best-stays n (go j (omega arith)) (place_at n b at j) (permits j (omega arith))))

-- place j of the list
place-there : (n : ℕ) (b : List ℕ) (at count j : ℕ) → j < count → get_or (net_at n b at count) j (to_place (fields_at n b at)) ≡ place_at n b at j
place-there n b at count j h =
    get_or-map to_place (items_at (place_size n) (fields_at n) count b at) j (fields_at n b at)
    ∙ ap to_place (get_d_items (place_size n) (fields_at n) count b at j (fields_at n b at) h)

-- what the search of a whole list of places says of each
pub best-permits : (n : ℕ) (b : List ℕ) (at count : ℕ) (w : Word) {s : Stop} → Best n (net_at n b at count) w s → length w ≤ s.position
    → (j : ℕ) → j < count → (i : ℕ) → i < length w → place_permits n (place_at n b at j) (step_at n w i) ≡ true
unfolding net_permits
best-permits n b at count w best whole j h i l =
    ap (λ (p : Place). place_permits n p (step_at n w i)) (sym (place-there n b at count j h))
    ∙ (all-exactly (λ p. place_permits n p (step_at n w i)) (to_place (fields_at n b at)) (net_at n b at count)).0 (best.passed i (omega arith)) j (omega (arith, net-length n b at count))

-- no place refuses a step of those that are done
pub best_late : {n : ℕ} {b : List ℕ} {at count : ℕ} {w : Word} {d : ℕ} {t : List ℤ} {s : Stop} → PlacesReached n b at count w d t → Best n (net_at n b at count) w s → d ≤ s.position
unfolding net_permits
best_late {n} {b} {at} {count} {w} {d} {t} {s} p best = ⊎_elim
    (λ less. absurd (false≢true (sym (best.refused (omega (arith, p.early))) ∙ all-permitted s.position less)))
    (λ h. h)
    (lt_or_le s.position d)
  where
    all-permitted : (i : ℕ) → i < d → all (λ q. place_permits n q (step_at n w i)) (net_at n b at count) ≡ true
    all-permitted i h =
        (all-exactly (λ q. place_permits n q (step_at n w i)) (to_place (fields_at n b at)) (net_at n b at count)).1 (λ j l.
        let less : j < count = omega (arith, net-length n b at count) in
        ap (λ (q : Place). place_permits n q (step_at n w i)) (place-there n b at count j less) ∙ (p.reached j less).permits i h)

-- the same tokens in another list
pub reached-same : {n : ℕ} {b : List ℕ} {at count : ℕ} {w : Word} {d : ℕ} {t t' : List ℤ} → PlacesReached n b at count w d t → count ≤ length t'
    → ((j : ℕ) → j < count → get_or t' j (pos 0) ≡ get_or t j (pos 0)) → PlacesReached n b at count w d t'
reached-same {n} {b} {at} {w = w} {d} s room same = record {
  limit = s.limit;
  inside = s.inside;
  word = s.word;
  early = s.early;
  room = room;
  reached = λ j h. record { is = same j h ∙ (s.reached j h).is; permits = (s.reached j h).permits };
}
