-- REQUEST 10, the run: 'From a start call, with a long enough slice left to it and each number handed on, for every bundle and every word of at most
-- 65,535 events, all below n, it gives the answer that screening gives, with the shortfall of request 2. A refused event moves no token and isn't
-- counted.'
-- REQUEST 11: it 'also keeps the events so far, in order, at the front of a lent byte buffer, the rest untouched; request 10's sameness now asks for
-- room in it'.
-- What each call answers alone is said by Carrying.antt.
use Rattle.std.specs.Prelude.{◌≡◌, ℕ, ◌*◌, ◌+◌, ◌≤◌, ◌<◌, length, take, drop, replicate, pos, Err, None, Ok, Some}
use mathlib.Core.List.{List, [], ◌∷◌, ◌++◌, foldl}
use Rattle.laws.specs.Numbers.{Bytes}
use Rattle.refusals.specs.Answers.{refusal, Answer}
use Rattle.nets.specs.Nets.{Word, counts, tokens}
use Rattle.nets.specs.Fits.{Below}
use Rattle.nets.specs.TokenGame.{initially, after_word}
use Rattle.bundles.specs.Readers.{events_in}
use Rattle.screening.specs.Screening.{screened, Screened}
use Rattle.engine.specs.declared.Outcome.{Outcome}
use Rattle.engine.specs.declared.Outcome.TheVariants.{Moved, Stopped}
use Rattle.demands.specs.Carrying.{start_answer, start_leaves, step_answer, step_leaves, step_keeps, place_count, place_in, held, CallsOfEngine}

-- ---- A run: a start call, then a step for each event

-- where a run is: the number of events so far, the slice, and the buffer
pub record State : Type 0 where
  pub number : ℕ
  pub slice : List ℕ
  pub kept : List ℕ

-- the number that a start call hands back
unfoldable pub first_number : Answer ℕ → ℕ
first_number (Ok n) = n
first_number (Err r) = 0

-- the number behind a step: the one that it hands back, or the one before where it stops or is refused
unfoldable pub next_number : ℕ → Answer Outcome → ℕ
next_number number (Ok (Moved next)) = next
next_number number (Ok (Stopped s)) = number
next_number number (Err r) = number

-- behind a start call; behind a step, with the slice and the buffer that the call before left and the number that it handed on
unfoldable pub begun : List ℕ → List ℕ → List ℕ → State
begun b ts kept = record { number = first_number (start_answer b ts); slice = start_leaves b ts; kept = kept }

abbrev pub answer_at : List ℕ → State → ℕ → Answer Outcome
answer_at b s e = step_answer b s.slice s.kept s.number e

unfoldable pub behind : List ℕ → State → ℕ → State
behind b s e = record {
  number = next_number s.number (answer_at b s e);
  slice = step_leaves b s.slice s.kept s.number e;
  kept = step_keeps b s.slice s.kept s.number e;
}

-- behind a start call and a step for each event
abbrev pub after : List ℕ → List ℕ → List ℕ → Word → State
after b ts kept u = foldl (behind b) (begun b ts kept) u

-- an answer in the words of screening: a stop or a refusal, or else what follows a permitted event
unfoldable pub go_on : Answer Outcome → Screened → Screened
go_on (Ok (Moved next)) rest = rest
go_on (Ok (Stopped s)) rest = Ok (Some s)
go_on (Err r) rest = Err r

-- the answer of the steps for a word, up to the first stop or refusal; permitted where there is none
unfoldable pub steps : List ℕ → State → Word → Screened
steps b s [] = Ok None
steps b s (e ∷ w) = go_on (answer_at b s e) (steps b (behind b s e) w)

unfoldable pub begin : Answer ℕ → Screened → Screened
begin (Ok n) rest = rest
begin (Err r) rest = Err r

-- the answer of a run
unfoldable pub run : List ℕ → List ℕ → List ℕ → Word → Screened
run b ts kept w = begin (start_answer b ts) (steps b (begun b ts kept) w)

-- ---- Where it is behind a permitted word u

-- the slice ts' has the marking behind u in front of what stood in ts: 'numbers past the last place are never touched'
pub record Marked (b : List ℕ) (u : Word) (ts ts' : List ℕ) : Type 0 where
  -- equation (1) of Badouel and Schlachter, M₀(p) + Ψ(u)(•p − p•), which is M₀ • u of the token game
  pub marking : (j : ℕ) → j < place_count b → pos (held ts' j) ≡ tokens (events_in b) (place_in b j) (counts (events_in b) u)
  pub game : (j : ℕ) → j < place_count b → pos (held ts' j) ≡ after_word initially u (place_in b j)
  pub rest : drop (place_count b) ts' ≡ drop (place_count b) ts
  pub size : length ts' ≡ length ts

pub record At (b ts kept : List ℕ) (u : Word) (s : State) : Type 0 where
  -- 'the number of events so far'
  pub number : s.number ≡ length u
  -- 'keeps the tokens of each place'
  pub tokens : Marked b u ts s.slice
  -- 'keeps the events so far, in order, at the front of a lent byte buffer, the rest untouched'
  pub events : take (length u) s.kept ≡ u
  pub untouched : drop (length u) s.kept ≡ drop (length u) kept
  pub buffer : length s.kept ≡ length kept
  -- 'above 4,294,901,760, which no run reaches'
  pub most : (j : ℕ) → j < place_count b → held s.slice j ≤ 4294901760
  pub in_range : (e spot : ℕ) → answer_at b s e ≡ Err (refusal 16 spot) → ⊥
  -- the next answer is that of screening for u with the event behind it, whatever the event, a refusal with 14 or 15 included, which ask for no room
  pub next : (e : ℕ) → (length u < 65535 → e < events_in b → length u < length kept) → go_on (answer_at b s e) (Ok None) ≡ screened b (u ++ e ∷ [])
  -- 'An event that finds the buffer full gets 3, .. spot the length needed'
  pub full : (e : ℕ) → length u < 65535 → e < events_in b → length kept ≤ length u → answer_at b s e ≡ Err (refusal 3 (length u + 1))

-- ---- The request

-- a bundle with one event and no word, and a place with m = 65,535, in(0) = 65,535 and out(0) = 0
abbrev pub bytes_most : List ℕ
bytes_most = 1 ∷ 0 ∷ 1 ∷ 255 ∷ 255 ∷ 255 ∷ 255 ∷ 0 ∷ 0 ∷ []

pub record Request10 : Type 0 where
  pub calls : CallsOfEngine
  -- 'with a long enough slice left to it and each number handed on, for every bundle and every word of at most 65,535 events, all below n, it gives
  -- the answer that screening gives, with the shortfall of request 2': the bundle's refusals, the stop, or permitted. Request 11: with room for it.
  pub same : (b : List ℕ) → Bytes b → (ts kept : List ℕ) → place_count b ≤ length ts
      → (w : Word) → length w ≤ 65535 → Below (events_in b) w → length w ≤ length kept → run b ts kept w ≡ screened b w
  -- behind each word that is permitted and has room, and so behind each prefix of a word that is stopped later
  pub along : (b : List ℕ) → Bytes b → (ts kept : List ℕ) → place_count b ≤ length ts
      → (u : Word) → screened b u ≡ Ok None → length u ≤ length kept → At b ts kept u (after b ts kept u)
  -- 'A refused event moves no token and isn't counted': a stop or a refusal leaves a run where it was, whatever its slice, buffer and number,
  -- so that every later step answers and leaves what it does where the event was not tried
  pub stays : (b : List ℕ) (s : State) (e : ℕ) → ((next : ℕ) → answer_at b s e ≡ Ok (Moved next) → ⊥) → behind b s e ≡ s
  pub later : (b : List ℕ) (s : State) (e : ℕ) → ((next : ℕ) → answer_at b s e ≡ Ok (Moved next) → ⊥) → (w : Word)
      → (steps b (behind b s e) w ≡ steps b s w) × (foldl (behind b) s (e ∷ w) ≡ foldl (behind b) s w)
  -- no number that passes 16 is too large for what an event puts there: below 2^32 each, whatever the slice
  pub fits : (b : List ℕ) → Bytes b → (ts kept : List ℕ) (number event next : ℕ) → step_answer b ts kept number event ≡ Ok (Moved next)
      → (j : ℕ) → j < place_count b → held (step_leaves b ts kept number event) j < 4294967296
  -- some run comes to 4,294,901,760: k events of this bundle leave 65,535 × (k + 1) tokens
  pub sharp : (ts kept : List ℕ) → 1 ≤ length ts → (k : ℕ) → k ≤ 65535 → k ≤ length kept
      → (run bytes_most ts kept (replicate k 0) ≡ Ok None) × (held (after bytes_most ts kept (replicate k 0)).slice 0 ≡ 65535 + k * 65535)
  pub reached : 65535 + 65535 * 65535 ≡ 4294901760
