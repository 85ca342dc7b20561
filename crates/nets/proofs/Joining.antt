-- Two nets joined: what the joined place list permits, and where it stops a word, by what each net does alone.
use Rattle.std.specs.Prelude.{◌≡◌, Bool, true, false, cond, ℕ, suc, ◌+◌, ◌-◌, ◌≤◌, ◌<◌, leb}
use Rattle.std.proofs.Math.Path.{refl, ap₂}
use Rattle.std.proofs.Common.{sym, ap, ◌∙◌, arith, le-leb, length-append, get_or-append-add}
use Rattle.std.proofs.Math.Bool.{◌&&◌, and_comm, and_self}
use mathlib.Core.List.{[], ◌∷◌, ◌++◌, append_assoc}
use Rattle.std.proofs.lemmas.Bool.{lt-leb}
use Rattle.std.proofs.Math.ListN.{length, get_or-append}
use Rattle.laws.specs.Booleans.{impossible, and-exchange}
use Rattle.laws.specs.Lists.{all_append}
use Rattle.laws.specs.Scans.{first_failing, failing-found, failing-behind, some-failing}
use Rattle.nets.specs.Nets.{Word, Net, Place, Step, no_place, join, step_after, step_at, place_permits, shortfall, net_permits, permits_after, permits, Answer, permitted, stopped, first_refusing, shortfall_of, stopped_at, screen_after, screen}
use Rattle.nets.proofs.Screening.{screen-stopped-exactly}
use Rattle.nets.proofs.Shortfall.{refused-there}
use Rattle.nets.specs.Joining.{moved_up, earlier}

-- nets that permit the same steps permit the same words
module _ (n : ℕ) (one two : Net) (same : (s : Step) → net_permits n one s ≡ net_permits n two s) where
  same_after : (w u : Word) → permits_after n one u w ≡ permits_after n two u w
  unfolding permits_after
  same_after [] u = refl
  same_after (e ∷ w) u = ap₂ ◌&&◌ (same (step_after n u e)) (same_after w (u ++ e ∷ []))

  pub permits-same : (w : Word) → permits n one w ≡ permits n two w
  unfolding permits
  permits-same w = same_after w []

-- ---- yes or no

module _ (n : ℕ) (one two : Net) where
  -- joined, a step is permitted exactly when both nets permit it
  pub join_step : (s : Step) → net_permits n (join one two) s ≡ net_permits n one s && net_permits n two s
  unfolding net_permits
  join_step s = all_append (λ p. place_permits n p s) one two

  join_after : (w u : Word) → permits_after n (join one two) u w ≡ permits_after n one u w && permits_after n two u w
  unfolding permits_after
  join_after [] u = refl
  join_after (e ∷ w) u =
      ap₂ ◌&&◌ (join_step (step_after n u e)) (join_after w (u ++ e ∷ []))
      ∙ and-exchange (net_permits n one (step_after n u e)) (net_permits n two (step_after n u e)) _ _

  -- so is a word: the language of the joined net is the intersection of their languages
  pub permits-join : (w : Word) → permits n (join one two) w ≡ permits n one w && permits n two w
  unfolding permits
  permits-join w = join_after w []

-- the order of the two makes no difference, nor does a list joined to itself, nor the grouping of three
pub permits-order : (n : ℕ) (one two : Net) (w : Word) → permits n (join one two) w ≡ permits n (join two one) w
permits-order n one two w = permits-join n one two w ∙ and_comm (permits n one w) (permits n two w) ∙ sym (permits-join n two one w)

pub permits-itself : (n : ℕ) (net : Net) (w : Word) → permits n (join net net) w ≡ permits n net w
permits-itself n net w = permits-join n net net w ∙ and_self (permits n net w)

pub join_grouped : (one two three : Net) → join (join one two) three ≡ join one (join two three)
join_grouped one two three = append_assoc one two three

-- ---- where it stops

-- an answer that stops at position k or later, if at all
abbrev From : ℕ → Answer → Type 0
From k permitted = Unit {0}
From k (stopped i j missing) = k ≤ i

from_less : (k m : ℕ) → k ≤ m → (x : Answer) → From m x → From k x
from_less k m h permitted f = tt
from_less k m h (stopped i j missing) f = omega (arith, f)

from-moved : (k m : ℕ) (x : Answer) → From k x → From k (moved_up m x)
unfolding moved_up
from-moved k m permitted f = tt
from-moved k m (stopped i j missing) f = f

stop-from : (n : ℕ) (net : Net) (w u : Word) → From (length u) (screen_after n net u w)
unfolding screen_after stopped_at
stop-from n net [] u = tt
stop-from n net (e ∷ w) u = go (net_permits n net (step_after n u e)) (stop-from n net w (u ++ e ∷ []))
  where
    go : (b : Bool) → From (length (u ++ e ∷ [])) (screen_after n net (u ++ e ∷ []) w)
        → From (length u) (cond b (screen_after n net (u ++ e ∷ []) w) (stopped_at n net (length u) (step_after n u e)))
    go true rest = from_less (length u) (length (u ++ e ∷ [])) (omega (arith, length-append u (e ∷ []))) (screen_after n net (u ++ e ∷ []) w) rest
    go false rest = omega arith

first-earlier : (i j k : ℕ) (y : Answer) → From i y → earlier (stopped i j k) y ≡ stopped i j k
unfolding earlier
first-earlier i j k permitted f = refl
first-earlier i j k (stopped i' j' k') f = rw (le-leb i i' f)

second-earlier : (x : Answer) (i j k : ℕ) → From (suc i) x → earlier x (stopped i j k) ≡ stopped i j k
unfolding earlier
second-earlier permitted i j k f = refl
second-earlier (stopped i' j' k') i j k f = rw (lt-leb i' i f)

module _ (n : ℕ) (one two : Net) where
  -- a step that the first net refuses
  stop-first : (i : ℕ) (s : Step) → net_permits n one s ≡ false → stopped_at n (join one two) i s ≡ stopped_at n one i s
  unfolding stopped_at net_permits first_refusing shortfall_of
  stop-first i s refuses =
      let there = some-failing (λ p. place_permits n p s) one refuses in
      let same = failing-found (λ p. place_permits n p s) one two there in
      rw same (ap (λ (p : Place). stopped i (first_failing (λ p. place_permits n p s) one) (shortfall n p s))
      (get_or-append one two no_place (first_failing (λ p. place_permits n p s) one) there))

  -- a step that only the second one refuses
  stop-second : (i : ℕ) (s : Step) → net_permits n one s ≡ true → stopped_at n (join one two) i s ≡ moved_up (length one) (stopped_at n two i s)
  unfolding stopped_at net_permits first_refusing shortfall_of moved_up
  stop-second i s permits =
      let same = failing-behind (λ p. place_permits n p s) one two permits in
      rw same (ap (λ (p : Place). stopped i (length one + first_failing (λ p. place_permits n p s) two) (shortfall n p s))
      (get_or-append-add one two (first_failing (λ p. place_permits n p s) two) no_place))

  screen_after-join : (w u : Word) → screen_after n (join one two) u w ≡ earlier (screen_after n one u w) (moved_up (length one) (screen_after n two u w))
  unfolding screen_after earlier moved_up stopped_at
  screen_after-join [] u = refl
  screen_after-join (e ∷ w) u =
      rw (join_step n one two (step_after n u e))
      (go (net_permits n one (step_after n u e)) refl (net_permits n two (step_after n u e)) (screen_after-join w (u ++ e ∷ [])))
    where
      rest : Net → Answer
      rest net = screen_after n net (u ++ e ∷ []) w

      here : Net → Answer
      here net = stopped_at n net (length u) (step_after n u e)

      behind : (net : Net) → From (suc (length u)) (rest net)
      behind net = from_less (suc (length u)) (length (u ++ e ∷ [])) (omega (arith, length-append u (e ∷ []))) (rest net) (stop-from n net w (u ++ e ∷ []))

      go : (a : Bool) → net_permits n one (step_after n u e) ≡ a → (b : Bool) → rest (join one two) ≡ earlier (rest one) (moved_up (length one) (rest two))
          → cond (a && b) (rest (join one two)) (here (join one two)) ≡ earlier (cond a (rest one) (here one)) (moved_up (length one) (cond b (rest two) (here two)))
      go true is true next = next
      go true is false next = stop-second (length u) (step_after n u e) is ∙ sym (second-earlier (rest one) _ _ _ (behind one))
      go false is true next =
          stop-first (length u) (step_after n u e) is
          ∙ sym (first-earlier _ _ _ (moved_up (length one) (rest two)) (from-moved (length u) (length one) (rest two) (from_less (length u) (suc (length u)) (omega arith) (rest two) (behind two))))
      go false is false next = stop-first (length u) (step_after n u e) is ∙ sym (first-earlier _ _ _ (moved_up (length one) (here two)) (omega arith))

  -- the joined list stops a word at the earlier of the two nets' own stops; the first net's, where both are at the same step
  pub screen-join : (w : Word) → screen n (join one two) w ≡ earlier (screen n one w) (moved_up (length one) (screen n two w))
  unfolding screen
  screen-join w = screen_after-join w []

-- which net the place is of
module _ (n : ℕ) (one two : Net) (w : Word) (i j k : ℕ) (stops : screen n (join one two) w ≡ stopped i j k) where
  -- the first net's own stops name places of it
  own-place : (i j k : ℕ) → screen n one w ≡ stopped i j k → j < length one
  own-place i j k e = refused-there n one j (step_at n w i) ((screen-stopped-exactly n one w i j k).0 e).0.refuses

  -- below its place count the place is the first net's, and that alone stops the word so
  pub stops_first : j < length one → screen n one w ≡ stopped i j k
  unfolding earlier moved_up
  stops_first h = go (screen n one w) refl (screen n two w) (sym (screen-join n one two w) ∙ stops)
    where
      behind : (i' j' k' : ℕ) → stopped i' (length one + j') k' ≡ stopped i j k → ⊥
      behind i' j' k' e = let place : length one + j' ≡ j = cc in omega (arith, place, h)

      go : (x : Answer) → screen n one w ≡ x → (y : Answer) → earlier x (moved_up (length one) y) ≡ stopped i j k → x ≡ stopped i j k
      go permitted is permitted e = e
      go permitted is (stopped i' j' k') e = absurd (behind i' j' k' e)
      go (stopped a b c) is permitted e = e
      go (stopped a b c) is (stopped i' j' k') e = of (leb a i') e
        where
          of : (t : Bool) → cond t (stopped a b c) (stopped i' (length one + j') k') ≡ stopped i j k → stopped a b c ≡ stopped i j k
          of true e = e
          of false e = absurd (behind i' j' k' e)

  -- from there on it is the second net's
  pub stops_second : length one ≤ j → screen n two w ≡ stopped i (j - length one) k
  unfolding earlier moved_up
  stops_second h = go (screen n one w) refl (screen n two w) (sym (screen-join n one two w) ∙ stops)
    where
      before : (a b c : ℕ) → screen n one w ≡ stopped a b c → stopped a b c ≡ stopped i j k → ⊥
      before a b c is e = let place : b ≡ j = cc in omega (arith, place, own-place a b c is)

      moved : (i' j' k' : ℕ) → stopped i' (length one + j') k' ≡ stopped i j k → stopped i' j' k' ≡ stopped i (j - length one) k
      moved i' j' k' e =
          let position : i' ≡ i = cc in
          let place : length one + j' ≡ j = cc in
          let amount : k' ≡ k = cc in
          let number : j' ≡ j - length one = omega (arith, place) in
          rw (position, number, amount)

      go : (x : Answer) → screen n one w ≡ x → (y : Answer) → earlier x (moved_up (length one) y) ≡ stopped i j k → y ≡ stopped i (j - length one) k
      go permitted is permitted e = impossible cc
      go permitted is (stopped i' j' k') e = moved i' j' k' e
      go (stopped a b c) is permitted e = absurd (before a b c is e)
      go (stopped a b c) is (stopped i' j' k') e = of (leb a i') e
        where
          of : (t : Bool) → cond t (stopped a b c) (stopped i' (length one + j') k') ≡ stopped i j k → stopped i' j' k' ≡ stopped i (j - length one) k
          of true e = absurd (before a b c is e)
          of false e = moved i' j' k' e

-- joined to itself, a list stops a word as it does alone
pub screen-itself : (n : ℕ) (net : Net) (w : Word) → screen n (join net net) w ≡ screen n net w
unfolding earlier moved_up
screen-itself n net w = screen-join n net net w ∙ go (screen n net w)
  where
    go : (x : Answer) → earlier x (moved_up (length net) x) ≡ x
    go permitted = refl
    go (stopped i j k) = rw (le-leb i i (omega arith))
