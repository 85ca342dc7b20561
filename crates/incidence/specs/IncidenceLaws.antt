-- Laws of the numbers by event and place: what an event does, and the first word by the first event.
use Rattle.std.specs.Prelude.{◌≡◌, refl, ◌↔◌, T, Bool, true, false, List, [], ◌∷◌, Some, None, ℕ, suc, ◌+◌, ◌-◌, ◌^◌, ◌≤◌, ◌<◌, leb, map, length, get_or, take, ℤ, pos, ◌-ℤ◌}
use mir.Facts.{to_z_pos}
use mir.Syntax.{w64}
use mir.Val.{to_z}
use Rattle.std.specs.Int.Signed.{non_neg}
use Rattle.std.proofs.Math.Bool.{◌&&◌}
use Rattle.laws.specs.Differences.{covers-exactly}
use Rattle.std.proofs.Common.{true≢false, sym, ap, ◌∙◌, subst, arith, ⊎_elim, le-leb, leb-true, leb-false}
use Rattle.std.proofs.Math.Seq.{take_all}
use Rattle.laws.specs.Booleans.{and_left, and_right}
use Rattle.laws.specs.Lists.{length-tabulate, get_d_tabulate}
use Rattle.laws.specs.Parts.{front, take-front}
use Rattle.nets.specs.Nets.{Word, Net, no_place}
use Rattle.nets.specs.Carrying.{Played, moved, lacking, play, taken_from, put_into, has_enough, AllEnough, tokens_behind}
use Rattle.laws.specs.Firsts.{first_of, first-map, none-map, first-numbered, none-numbered}
use Rattle.nets.specs.Reaching.{where_moved, leading}
use Rattle.nets.proofs.Plays.{play-enough, play-short, play_cases}
use Rattle.nets.proofs.Reaching.{leading-front}
use Rattle.columns.specs.Matrix.{number, column}
use Rattle.incidence.specs.declared.Incidence.{Incidence}
use Rattle.incidence.specs.Incidence.{places_in, moves, and_then, moves_both, enough_both}

-- ---- The numbers

module _ (b : Incidence) where
  pub in-count : length (places_in b) ≡ b.count
  in-count = length-tabulate b.count (λ j. column b.matrix j)

  module _ (ts : List ℕ) (e j : ℕ) (h : j < b.count) where
    pub taken-in : taken_from (places_in b) ts e j ≡ number b.matrix.consumed e j
    taken-in = ap (λ p. p.consumed e) (get_d_tabulate b.count (λ j. column b.matrix j) j no_place h)

    pub put-in : put_into (places_in b) ts e j ≡ number b.matrix.produced e j
    put-in = ap (λ p. p.produced e) (get_d_tabulate b.count (λ j. column b.matrix j) j no_place h)

-- the code's test of tokens that a run can reach
pub covers-tokens : (x k : ℕ) → x < 2 ^ 63 → non_neg (to_z w64 x -ℤ pos k) ≡ leb k x
covers-tokens x k h = ap (λ (z : ℤ). non_neg (z -ℤ pos k)) (to_z_pos w64 h) ∙ sym (covers-exactly x k)

module _ (b : Incidence) (ts : List ℕ) (e j : ℕ) (h : j < b.count) (few : get_or ts j 0 < 2 ^ 63) where
  pub tested : non_neg (to_z w64 (get_or ts j 0) -ℤ pos (number b.matrix.consumed e j)) ≡ has_enough (places_in b) ts e j
  tested = covers-tokens (get_or ts j 0) _ few ∙ ap (λ (k : ℕ). leb k (get_or ts j 0)) (sym (taken-in b ts e j h))

-- ---- An event

module _ (net : Net) (ts : List ℕ) (e : ℕ) where
  pub moves-enough : AllEnough net ts e → moves (play net ts e) ≡ true
  unfolding moves
  moves-enough enough = rw (play-enough net ts e enough)

  -- a place that has too few
  pub moves-short : (j : ℕ) → j < length net → get_or ts j 0 < taken_from net ts e j → moves (play net ts e) ≡ false
  unfolding moves
  moves-short j h short = ⊎_elim
      (λ enough. absurd (omega (arith, short, enough j h)))
      (λ (i, lowest). rw (play-short net ts e i lowest))
      (play_cases net ts e)

  pub enough-moves : moves (play net ts e) ≡ true → AllEnough net ts e
  unfolding moves
  enough-moves yes' = ⊎_elim
      (λ enough. enough)
      (λ (i, lowest). absurd (true≢false (sym yes' ∙ ap moves (play-short net ts e i lowest))))
      (play_cases net ts e)

  -- a test that says whether every place has enough
  pub moves-exactly : (t : Bool) → T t ↔ AllEnough net ts e → t ≡ moves (play net ts e)
  moves-exactly true is = sym (moves-enough (is.0 tt))
  moves-exactly false is = go (moves (play net ts e)) refl
    where
      go : (m : Bool) → moves (play net ts e) ≡ m → false ≡ moves (play net ts e)
      go true q = absurd (is.1 (enough-moves q))
      go false q = sym q

  pub behind-at : (j : ℕ) → j < length net → get_or (tokens_behind net ts e) j 0 ≡ get_or ts j 0 - taken_from net ts e j + put_into net ts e j
  unfolding tokens_behind
  behind-at j h = get_d_tabulate (length net) _ j 0 h

  pub behind-length : length (tokens_behind net ts e) ≡ length net
  unfolding tokens_behind
  behind-length = length-tabulate (length net) _

-- ---- An event, and then a second one

module _ (net : Net) (ts : List ℕ) (e wanted : ℕ) where
  -- every place has enough for both
  pub both-enough : ((j : ℕ) → j < length net → enough_both net ts e wanted j ≡ true) → moves_both net ts e wanted ≡ true
  unfolding and_then
  both-enough each = ap (and_then net wanted) (play-enough net ts e enough) ∙ moves-enough net (tokens_behind net ts e) wanted then
    where
      split : (j : ℕ) → j < length net → (taken_from net ts e j ≤ get_or ts j 0)
          × (taken_from net ts wanted j ≤ get_or ts j 0 - taken_from net ts e j + put_into net ts e j)
      split j h = let has = has_enough net ts e j in
          let next = leb (taken_from net ts wanted j) (get_or ts j 0 - taken_from net ts e j + put_into net ts e j) in
          (leb-true _ _ (and_left has next (each j h)), leb-true _ _ (and_right has next (each j h)))

      enough : AllEnough net ts e
      enough j h = (split j h).0

      then : AllEnough net (tokens_behind net ts e) wanted
      then j h = subst (λ (x : ℕ). taken_from net ts wanted j ≤ x) (sym (behind-at net ts e j h)) (split j h).1

  -- a place has too few for one of them
  pub both-short : (j : ℕ) → j < length net → enough_both net ts e wanted j ≡ false → moves_both net ts e wanted ≡ false
  unfolding and_then
  both-short j h no' = ⊎_elim
      (λ enough. ap (and_then net wanted) (play-enough net ts e enough)
      ∙ moves-short net (tokens_behind net ts e) wanted j h
      (subst (λ (x : ℕ). x < taken_from net ts wanted j) (sym (behind-at net ts e j h)) (leb-false _ _ (second (enough j h)))))
      (λ (i, lowest). ap (and_then net wanted) (play-short net ts e i lowest))
      (play_cases net ts e)
    where
      next : Bool
      next = leb (taken_from net ts wanted j) (get_or ts j 0 - taken_from net ts e j + put_into net ts e j)

      second : taken_from net ts e j ≤ get_or ts j 0 → next ≡ false
      second has = sym (ap (λ t. t && next) (le-leb _ _ has)) ∙ no'

-- ---- The first word, by its first event

module _ (n : ℕ) (net : Net) (ts : List ℕ) (wanted : ℕ) where
  -- those that begin with event e
  abbrev pub beginning : ℕ → ℕ → List Word
  beginning d e = where_moved (play net ts e) (λ us. map (λ w. e ∷ w) (leading n net wanted d us))

  -- an event that a place refuses
  pub refused-first : (d e : ℕ) → moves (play net ts e) ≡ false → first_of (beginning d e) ≡ None
  unfolding moves where_moved first_of
  refused-first d e q = go (play net ts e) q
    where
      go : (p : Played) → moves p ≡ false → first_of (where_moved p (λ us. map (λ w. e ∷ w) (leading n net wanted d us))) ≡ None
      go (moved us) q = absurd (true≢false q)
      go (lacking j k) q = refl

  -- one that is permitted, with the tokens behind it in front of others
  module _ (d e : ℕ) (enough : AllEnough net ts e) (next old : List ℕ) (is : next ≡ front (tokens_behind net ts e) old) where
    behind-words : beginning d e ≡ map (λ w. e ∷ w) (leading n net wanted d next)
    unfolding where_moved
    behind-words =
        ap (λ (p : Played). where_moved p (λ us. map (λ w. e ∷ w) (leading n net wanted d us))) (play-enough net ts e enough)
        ∙ ap (map (λ w. e ∷ w)) (leading-front n net wanted d (tokens_behind net ts e) next same)
      where
        us : List ℕ
        us = tokens_behind net ts e

        same : take (length net) us ≡ take (length net) next
        same = subst (λ (k : ℕ). take k us ≡ take k next) (behind-length net ts e)
            (take_all (length us) us (omega arith) ∙ sym (ap (take (length us)) is ∙ take-front us old))

    pub moved-first : (w : Word) → first_of (leading n net wanted d next) ≡ Some w → first_of (beginning d e) ≡ Some (e ∷ w)
    moved-first w q = ap first_of behind-words ∙ first-map (λ w. e ∷ w) (leading n net wanted d next) w q

    pub moved-none : first_of (leading n net wanted d next) ≡ None → first_of (beginning d e) ≡ None
    moved-none q = ap first_of behind-words ∙ none-map (λ w. e ∷ w) (leading n net wanted d next) q

  -- a single event
  pub single-first : (e : ℕ) → moves_both net ts e wanted ≡ true → first_of (beginning 0 e) ≡ Some (e ∷ [])
  unfolding and_then moves where_moved leading first_of
  single-first e q = go (play net ts e) q
    where
      go : (p : Played) → and_then net wanted p ≡ true
          → first_of (where_moved p (λ us. map (λ w. e ∷ w) (leading n net wanted 0 us))) ≡ Some (e ∷ [])
      go (moved us) q = on (play net us wanted) q
        where
          on : (p : Played) → moves p ≡ true → first_of (map (λ w. e ∷ w) (where_moved p (λ us. [] ∷ []))) ≡ Some (e ∷ [])
          on (moved vs) q = refl
          on (lacking j k) q = absurd (true≢false (sym q))
      go (lacking j k) q = absurd (true≢false (sym q))

  pub single-none : (e : ℕ) → moves_both net ts e wanted ≡ false → first_of (beginning 0 e) ≡ None
  unfolding and_then moves where_moved leading first_of
  single-none e q = go (play net ts e) q
    where
      go : (p : Played) → and_then net wanted p ≡ false
          → first_of (where_moved p (λ us. map (λ w. e ∷ w) (leading n net wanted 0 us))) ≡ None
      go (moved us) q = on (play net us wanted) q
        where
          on : (p : Played) → moves p ≡ false → first_of (map (λ w. e ∷ w) (where_moved p (λ us. [] ∷ []))) ≡ None
          on (moved vs) q = absurd (true≢false q)
          on (lacking j k) q = refl
      go (lacking j k) q = refl

  -- of all events the first one, and none
  pub leading-first : (d e : ℕ) → e < n → ((i : ℕ) → i < e → first_of (beginning d i) ≡ None)
      → (w : Word) → first_of (beginning d e) ≡ Some w → first_of (leading n net wanted (suc d) ts) ≡ Some w
  unfolding leading
  leading-first d e h before w q = first-numbered (beginning d) n (λ e. e) e h before w q

  pub leading-none : (d : ℕ) → ((i : ℕ) → i < n → first_of (beginning d i) ≡ None) → first_of (leading n net wanted (suc d) ts) ≡ None
  unfolding leading
  leading-none d none = none-numbered (beginning d) n (λ e. e) none
