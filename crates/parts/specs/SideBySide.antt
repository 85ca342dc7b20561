-- The places of a bundle in a part of a word, eight of them side by side in the columns of a table.
use Rattle.std.specs.Prelude.{◌≡◌, refl, true, List, ◌++◌, ℕ, ◌+◌, ◌-◌, ◌≤◌, ◌<◌, ℤ, pos, length, replicate, take, drop, get_or}
use Rattle.std.proofs.Common.{sym, ap, ap₂, ◌∙◌, subst, ⊎_elim, arith, take-take, take-add, get_or-take, get_or-drop}
use Rattle.laws.specs.Booleans.{lt_or_le}
use Rattle.laws.specs.Lists.{each_next}
use Rattle.nets.specs.Nets.{Word, Place, no_place, counts, step_at, tokens, place_permits}
use Rattle.nets.specs.Events.{EventsBelow}
use Rattle.places.specs.Machine.{Held, held}
use Rattle.nets.specs.Markings.{covered, permits-is}
use Rattle.places.specs.Amounts.{after-held}
use Rattle.replays.specs.declared.Changes.{Changes}
use Rattle.replays.specs.Columns.{column_width, event_slots, no_changes, Column, Beside, behind, Replayable, Advanced, CoveredAll}
use Rattle.replays.specs.ReplayLaws.{behind-tokens, behind-none, column-none, column-beside}
use Rattle.stops.specs.Searching.{part-below}
use Rattle.stops.specs.Reached.{part, place_at, part-size, part-events, start_reached}
use Rattle.parts.specs.Parts.{Marked}

-- the first `count` columns of a table have the places from an offset on, whose initial tokens are `u16` too, the others none
pub record Columns (n : ℕ) (b : List ℕ) (at count : ℕ) (m : List Changes) : Type 0 where
  pub initial : (j : ℕ) → j < count → (place_at n b at j).initial < 65536
  pub places : (j : ℕ) → j < count → Column (place_at n b at j) m j
  pub none : (j : ℕ) → count ≤ j → j < column_width → Column no_place m j

module _ {n : ℕ} {b : List ℕ} {at count : ℕ} {w : Word} {d : ℕ} {t : List ℤ} (m : Marked column_width n b at count w d t) where
  abbrev rest : Word
  rest = part w d (length w - d)

  rest-inside : d + (length w - d) ≤ length w
  rest-inside = omega (arith, m.places.early)

  -- the word up to a step of the rest, and the whole
  front : (i : ℕ) → i ≤ length w - d → take d w ++ take i rest ≡ take (d + i) w
  front i h = ap (λ (v : Word). take d w ++ v) (take-take i (length w - d) (drop d w) h) ∙ sym (take-add d i w)

  whole : take d w ++ rest ≡ take (length w) w
  whole = let end : d + (length w - d) ≡ length w = omega (arith, m.places.early) in sym (take-add d (length w - d) w) ∙ ap (λ (k : ℕ). take k w) end

  -- they may be replayed on it
  pub rest_replayable : {c : List Changes} → Columns n b at count c → Replayable t c rest
  rest_replayable {c} columns = record {
    tokens = m.wide;
    held = λ j h. ⊎_elim
        (λ l.
        let p = place_at n b at j in
        let start = start_reached m.places.word m.places.limit p (columns.initial j l) (columns.places j l).produced (m.places.reached j l) m.places.early 0 (omega (arith, m.places.early)) in
        after-held start.tokens (omega (arith, start.size)))
        (λ l. subst Held (sym (m.none j l h)) (held 0 0 (omega arith) (omega arith) refl))
        (lt_or_le j count);
    columns = λ j h. ⊎_elim (λ l. (place_at n b at j, columns.places j l)) (λ l. (no_place, columns.none j l h)) (lt_or_le j count);
    size = omega (arith, part-size w d (length w - d) rest-inside, m.places.word.size);
    events = λ i l. omega (arith, part-events w m.places.word.events d (length w - d) rest-inside i l, m.places.limit);
  }

  -- where no column lacks a token, each place permits the word
  pub rest-permits : {c : List Changes} → Columns n b at count c → CoveredAll c t rest
      → (j : ℕ) → j < count → (i : ℕ) → i < length w → place_permits n (place_at n b at j) (step_at n w i) ≡ true
  rest-permits {c} columns covers j h i l =
      let p = place_at n b at j in
      let r = m.places.reached j h in
      ⊎_elim (r.permits i)
      (λ late.
      let k = i - d in
      let same : d + k ≡ i = omega arith in
      let below : EventsBelow n (take k rest) = part-below n rest (part-events w m.places.word.events d (length w - d) rest-inside) k in
      let event : get_or rest k 0 ≡ get_or w i 0 = get_or-take (length w - d) (drop d w) k 0 (omega arith) ∙ get_or-drop d w k 0 ∙ ap (λ (x : ℕ). get_or w x 0) same in
      let tokens-there : behind p (get_or t j (pos 0)) (take k rest) ≡ tokens n p (counts n (take i w)) =
      ap (λ (z : ℤ). behind p z (take k rest)) r.is
      ∙ behind-tokens n p (take d w) (take k rest) below
      ∙ ap (λ (u : Word). tokens n p (counts n u)) (front k (omega arith) ∙ ap (λ (x : ℕ). take x w) same) in
      permits-is n p (take i w) (get_or w i 0)
      ∙ ap₂ (covered p) (sym tokens-there) (sym event)
      ∙ covers j p (omega (arith, m.few)) (columns.places j h) k (omega (arith, part-size w d (length w - d) rest-inside)))
      (lt_or_le i d)

  -- and where each does, t' has the tokens behind it
  pub rest-marked : {c : List Changes} {t' : List ℤ} → Columns n b at count c → Advanced c t t' rest → length t' ≡ length t
      → ((j : ℕ) → j < count → (i : ℕ) → i < length w → place_permits n (place_at n b at j) (step_at n w i) ≡ true)
      → Marked column_width n b at count w (length w) t'
  rest-marked {c} {t'} columns next size permits =
      let below = part-events w m.places.word.events d (length w - d) rest-inside in
      record {
        places = record {
          limit = m.places.limit;
          inside = m.places.inside;
          word = m.places.word;
          early = omega arith;
          room = omega (arith, m.places.room);
          reached = λ j h.
              let p = place_at n b at j in
              record {
                is = next j p (omega (arith, m.few)) (columns.places j h)
                    ∙ ap (λ (z : ℤ). behind p z rest) (m.places.reached j h).is
                    ∙ behind-tokens n p (take d w) rest below
                    ∙ ap (λ (u : Word). tokens n p (counts n u)) whole;
                permits = permits j h;
              };
        };
        few = m.few;
        wide = omega (arith, m.wide);
        none = λ j h l. next j no_place l (columns.none j h l) ∙ ap (λ (z : ℤ). behind no_place z rest) (m.none j h l) ∙ behind-none rest;
      }

-- ---- the table, column by column

module _ {n : ℕ} {b : List ℕ} {at : ℕ} where
  -- no place yet
  pub columns-start : Columns n b at 0 (replicate event_slots no_changes)
  columns-start = record { initial = λ i h. absurd (omega arith); places = λ i h. absurd (omega arith); none = λ i h l. column-none l }

  -- one place more
  pub columns-next : {j : ℕ} {m m' : List Changes} → j < column_width → Columns n b at j m → {p : Place} → p ≡ place_at n b at j → p.initial < 65536
      → Column p m' j × Beside m m' j → Columns n b at (j + 1) m'
  columns-next {j} {m} {m'} few so_far is small written = record {
    initial = each_next (λ i. (place_at n b at i).initial < 65536) j so_far.initial (subst (λ (p : Place). p.initial < 65536) is small);
    places = each_next (λ i. Column (place_at n b at i) m' i) j
        (λ i h. column-beside written.1 (λ e. omega arith) (so_far.places i h))
        (subst (λ (p : Place). Column p m' j) is written.0);
    none = λ i h l. column-beside written.1 (λ e. omega arith) (so_far.none i (omega arith) l);
  }
