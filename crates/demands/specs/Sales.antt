-- REQUEST 11, the sale: 'Where only the engine wrote number, slice and buffer since its start, the sale afterwards goes on just as if all its
-- events had been played on the new net from the start. Where the two files, the old one as the first, meet the comparison's premise and the kept
-- events are a prefix of the old log, replacing never fails for a refused step. Otherwise it may, and the sale continues on the old net with its
-- tokens.'
-- What each call answers alone is said by Carrying.antt and Replacing.antt, a run without replacing by Carried.antt.
use Rattle.std.specs.Prelude.{◌≡◌, ℕ, ◌≤◌, length, take, Err, None, Ok}
use mathlib.Core.List.{List, [], ◌∷◌, ◌++◌, foldl}
use Rattle.laws.specs.Every.{Every}
use Rattle.laws.specs.Numbers.{Bytes}
use Rattle.refusals.specs.Answers.{refusal, Answer}
use Rattle.refusals.specs.declared.Refusal.{Refusal}
use Rattle.nets.specs.Nets.{Word}
use Rattle.nets.specs.Fits.{Below}
use Rattle.nets.specs.Words.{Prefix}
use Rattle.bundles.specs.Readers.{events_in, log_in}
use Rattle.verdicts.specs.declared.Tally.{Tally}
use Rattle.screening.specs.Screening.{screened}
use Rattle.engine.specs.declared.Outcome.{Outcome}
use Rattle.engine.specs.declared.Outcome.TheVariants.{Moved, Stopped}
use Rattle.demands.specs.Demands.{FileAccepted, LogContained}
use Rattle.demands.specs.Carrying.{start_answer, place_count}
use Rattle.demands.specs.Carried.{State, begun, answer_at, behind, after, steps, At}
use Rattle.demands.specs.Replacing.{replace_answer, replace_leaves, CallOfReplacing}

-- ---- A sale: a start call, then steps and replacements in any order

-- the bundle of its net, and where its run is
pub record Sale : Type 0 where
  pub bundle : List ℕ
  pub state : State

-- a call: a step with a further event, or a replacement by another bundle
pub data Call : Type 0 where
  step : ℕ → Call
  replace : List ℕ → Call

-- the answer to a replacement by the bundle, between two events
abbrev pub replacement : Sale → List ℕ → Answer (Unit {0})
replacement s new = replace_answer s.bundle new s.state.slice s.state.kept s.state.number

-- the bundle behind it: the new one, or where it is refused the old one
unfoldable pub bundle_behind : Answer (Unit {0}) → List ℕ → List ℕ → List ℕ
bundle_behind (Ok u) old new = new
bundle_behind (Err r) old new = old

unfoldable pub next_sale : Sale → Call → Sale
next_sale s (step e) = record { bundle = s.bundle; state = behind s.bundle s.state e }
next_sale s (replace new) = record {
  bundle = bundle_behind (replacement s new) s.bundle new;
  state = record {
    number = s.state.number;
    slice = replace_leaves s.bundle new s.state.slice s.state.kept s.state.number;
    kept = s.state.kept;
  };
}

abbrev pub begun_sale : List ℕ → List ℕ → List ℕ → Sale
begun_sale b ts kept = record { bundle = b; state = begun b ts kept }

-- 'where only the engine wrote number, slice and buffer since its start'
abbrev pub sale_behind : List ℕ → List ℕ → List ℕ → List Call → Sale
sale_behind b ts kept calls = foldl next_sale (begun_sale b ts kept) calls

-- an event counts where its step moved
unfoldable pub counted : Answer Outcome → ℕ → Word
counted (Ok (Moved next)) e = e ∷ []
counted (Ok (Stopped s)) e = []
counted (Err r) e = []

-- the events of a sale, told from the answers alone
unfoldable pub events_of : Sale → List Call → Word
events_of s [] = []
events_of s (step e ∷ calls) = counted (answer_at s.bundle s.state e) e ++ events_of (next_sale s (step e)) calls
events_of s (replace new ∷ calls) = events_of (next_sale s (replace new)) calls

-- the bundles are bytes
unfoldable pub OfBytes : Call → Type 0
OfBytes (step e) = Unit {0}
OfBytes (replace new) = Bytes new

-- ---- The request

-- where a sale is whose events are u, with the slice ts and the buffer kept at its start: 'just as if all its events had been played on the new
-- net from the start'
pub record AsIfFromStart (ts kept : List ℕ) (s : Sale) (u : Word) : Type 0 where
  pub permitted : screened s.bundle u ≡ Ok None
  -- 'the same state': a start call on its net, with the numbers that it has behind the places and that buffer, and a step for each event lead there
  pub state : s.state ≡ after s.bundle s.state.slice kept u
  pub size : length s.state.slice ≡ length ts
  -- the tokens of its places are the marking behind u, and the next answer is screening's: as behind a run for u in any other memory (Carried.antt)
  pub at : At s.bundle s.state.slice kept u s.state
  -- and so is the answer to every word of later events, with room for it
  pub later : (w : Word) → length (u ++ w) ≤ 65535 → Below (events_in s.bundle) (u ++ w) → length (u ++ w) ≤ length kept
      → steps s.bundle s.state w ≡ screened s.bundle (u ++ w)

-- a start call on a net, and a step for each event of a sale, with its slice and the buffer of its start
abbrev pub played_anew : List ℕ → Sale → List ℕ → Word → Sale
played_anew kept s new u = record { bundle = new; state = after new s.state.slice kept u }

-- of two files, the old one and the new one, that meet the comparison's premise, and of events that are a prefix of the old log
pub record ReplacesSurely (old new ts kept : List ℕ) (number : ℕ) : Type 0 where
  -- 'replacing never fails for a refused step'
  pub never_23 : (spot : ℕ) → replace_answer old new ts kept number ≡ Err (refusal 23 spot) → ⊥
  -- nor for another event count, nor for an event that is not there
  pub never_22 : (spot : ℕ) → replace_answer old new ts kept number ≡ Err (refusal 22 spot) → ⊥
  pub never_15 : (spot : ℕ) → replace_answer old new ts kept number ≡ Err (refusal 15 spot) → ⊥
  -- and with a long enough slice it succeeds
  pub succeeds : number ≤ length kept → place_count new ≤ length ts → replace_answer old new ts kept number ≡ Ok tt

pub record Request11 : Type 0 where
  pub call : CallOfReplacing
  -- after any number of steps and replacements, granted or refused
  pub goes_on : (b : List ℕ) → Bytes b → (ts kept : List ℕ) → start_answer b ts ≡ Ok 0 → (calls : List Call) → Every OfBytes calls
      → AsIfFromStart ts kept (sale_behind b ts kept calls) (events_of (begun_sale b ts kept) calls)
  -- a replacement leads where a start call on the new net and a step for each event so far would have led
  pub replaced : (b : List ℕ) → Bytes b → (ts kept : List ℕ) → start_answer b ts ≡ Ok 0 → (calls : List Call) → Every OfBytes calls
      → (new : List ℕ) → Bytes new → replacement (sale_behind b ts kept calls) new ≡ Ok tt
      → next_sale (sale_behind b ts kept calls) (replace new)
      ≡ played_anew kept (sale_behind b ts kept calls) new (events_of (begun_sale b ts kept) calls)
  -- 'Where the two files, the old one as the first, meet the comparison's premise and the kept events are a prefix of the old log'
  pub never : (file₁ file₂ output₁ output₂ table₁ table₂ old new : List ℕ) (c₁ c₂ : Tally) → Bytes file₁ → Bytes file₂
      → FileAccepted file₁ output₁ table₁ old c₁ → FileAccepted file₂ output₂ table₂ new c₂ → LogContained old new
      → (ts kept : List ℕ) (number : ℕ) → Prefix (log_in old) (take number kept) → ReplacesSurely old new ts kept number
  -- 'Otherwise it may, and the sale continues on the old net with its tokens': whatever the sale, a refusal leaves it as it was, so that every later
  -- request is answered as where the net was not tried
  pub refused : (s : Sale) (new : List ℕ) (r : Refusal) → replacement s new ≡ Err r → next_sale s (replace new) ≡ s
  pub untried : (s : Sale) (new : List ℕ) (r : Refusal) → replacement s new ≡ Err r → (calls : List Call)
      → (foldl next_sale s (replace new ∷ calls) ≡ foldl next_sale s calls) × (events_of s (replace new ∷ calls) ≡ events_of s calls)
