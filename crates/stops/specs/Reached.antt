-- A search that goes on behind the first steps of a word: each place has so many tokens there, and is replayed from them on a part of the word.
use Rattle.std.specs.Prelude.{◌≡◌, true, false, List, [], ◌∷◌, ◌++◌, ℕ, zero, suc, ◌+◌, ◌-◌, ◌*◌, ◌≤◌, ◌<◌, ℤ, pos, length, take, drop, get_or}
use Rattle.std.proofs.Common.{sym, ap, ap₂, ◌∙◌, subst, ⊎_elim, add-one, arith, length-take, length-drop, take-take, take-add, take-suc, get_or-take, get_or-drop}
use Rattle.laws.specs.Booleans.{lt_or_le}
use Rattle.limits.specs.Limits.{max_events}
use Rattle.nets.specs.Nets.{Word, Place, counts, step_after, step_at, tokens, place_permits, shortfall}
use Rattle.nets.specs.Events.{EventsBelow}
use Rattle.nets.specs.Markings.{tokens_none, tokens_snoc, permits-is}
use Rattle.places.specs.Amounts.{TokensAfter, tokens-start, tokens-moved}
use Rattle.bundles.specs.PlaceReading.{place_size, place_on}
use Rattle.stops.specs.Positions.{step_behind}
use Rattle.stops.specs.Replay.{First, Start, replay, replay-first}
use Rattle.stops.specs.Searching.{WordOver}
use Rattle.stops.specs.declared.Stop.{Stop}

-- m events from d on
abbrev pub part : Word → ℕ → ℕ → Word
part w d m = take m (drop d w)

-- place j of those that start at an offset
abbrev pub place_at : ℕ → List ℕ → ℕ → ℕ → Place
place_at n b first j = place_on n b (first + 2 * (j * place_size n))

pub part-size : (w : Word) (d m : ℕ) → d + m ≤ length w → length (part w d m) ≡ m
part-size w d m inside = length-take m (drop d w) ∙ omega (arith, length-drop d w)

pub part-events : {n : ℕ} (w : Word) → EventsBelow n w → (d m : ℕ) → d + m ≤ length w → EventsBelow n (part w d m)
part-events w below d m inside i h =
    let l : i < m = omega (arith, part-size w d m inside) in
    rw (get_or-take m (drop d w) i 0 l, get_or-drop d w i 0) (below (d + i) (omega arith))

module _ (n : ℕ) (w : Word) where
  -- a place permits the first d steps of the word, and has t tokens behind them
  pub record Reached (p : Place) (t : ℤ) (d : ℕ) : Type 0 where
    pub is : t ≡ tokens n p (counts n (take d w))
    pub permits : (i : ℕ) → i < d → place_permits n p (step_at n w i) ≡ true

  -- the steps of a part
  step_part : (d m i : ℕ) → i < m → step_behind n (take d w) (part w d m) i ≡ step_at n w (d + i)
  step_part d m i h = ap₂ (λ (u : Word) (e : ℕ). step_after n u e)
      (ap (λ (v : Word). take d w ++ v) (take-take i m (drop d w) (omega arith)) ∙ sym (take-add d i w))
      (get_or-take m (drop d w) i 0 h ∙ get_or-drop d w i 0)

  module _ (below : EventsBelow n w) (p : Place) (few : (e : ℕ) → p.produced e < 65536) where
    -- behind d permitted steps a place has a natural number of tokens, which 64 bits hold
    pub reached-tokens : p.initial < 65536 → (d : ℕ) → d ≤ length w → ((i : ℕ) → i < d → place_permits n p (step_at n w i) ≡ true)
        → TokensAfter (tokens n p (counts n (take d w))) d
    reached-tokens small zero h permits = subst (λ (t : ℤ). TokensAfter t 0) (sym (tokens_none n p)) (tokens-start p (omega (arith, small)))
    reached-tokens small (suc d) h permits =
        let so_far = reached-tokens small d (omega arith) (λ i l. permits i (omega arith)) in
        let event = get_or w d 0 in
        let covers = sym (permits-is n p (take d w) event) ∙ permits d (omega arith) in
        let more : take (suc d) w ≡ take d w ++ event ∷ [] = take-suc w d 0 (omega arith) in
        rw more (rw (tokens_snoc n p (take d w) event (below d (omega arith)), ← add-one d) (tokens-moved so_far p event covers (omega (arith, few event))))

  -- a place that was followed behind d steps is replayed on the next m
  module _ (below : EventsBelow n w) {p : Place} {t : ℤ} {d : ℕ} (r : Reached p t d) (m : ℕ) (inside : d + m ≤ length w) where
    abbrev found : Stop
    found = replay p t (part w d m)

    size : length (part w d m) ≡ m
    size = part-size w d m inside

    first : First n p (take d w) (part w d m) found
    first = replay-first n p (part w d m) (take d w) t (part-events w below d m inside) r.is

    pub found_within : found.position ≤ m
    found_within = omega (arith, first.within, size)

    pub found-permits : (i : ℕ) → i < d + found.position → place_permits n p (step_at n w i) ≡ true
    found-permits i h = ⊎_elim (r.permits i)
        (λ l.
        let at : d + (i - d) ≡ i = omega arith in
        ap (place_permits n p) (ap (step_at n w) (sym at) ∙ sym (step_part d m (i - d) (omega (arith, found_within)))) ∙ first.permits (i - d) (omega arith))
        (lt_or_le i d)

    pub found-refuses : found.position < m → place_permits n p (step_at n w (d + found.position)) ≡ false
    found-refuses h = ap (place_permits n p) (sym (step_part d m found.position h)) ∙ first.refuses (omega (arith, size))

    pub found-short : found.position < m → shortfall n p (step_at n w (d + found.position)) ≡ found.shortfall
    found-short h = ap (shortfall n p) (sym (step_part d m found.position h)) ∙ first.short (omega (arith, size))

-- so its replay may start from these tokens
pub start_reached : {n : ℕ} {w : Word} → WordOver n w → n ≤ max_events → (p : Place) → p.initial < 65536 → ((e : ℕ) → p.produced e < 65536)
    → {t : ℤ} {d : ℕ} → Reached n w p t d → d ≤ length w → (m : ℕ) → d + m ≤ length w → Start t (part w d m)
start_reached {n} {w} word limit p small few {t} {d} r early m inside = record {
  earlier = d;
  tokens = subst (λ (z : ℤ). TokensAfter z d) (sym r.is) (reached-tokens n w word.events p few small d early r.permits);
  size = omega (arith, part-size w d m inside, word.size);
  events = λ i l. omega (arith, part-events w word.events d m inside i l, limit);
}

-- at first each place has its initial tokens
pub reached-first : (n : ℕ) (w : Word) (p : Place) → Reached n w p (pos p.initial) 0
reached-first n w p = record { is = sym (tokens_none n p); permits = λ i h. absurd (omega arith) }
