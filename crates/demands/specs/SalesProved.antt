-- The sale of request 11, proved: behind any steps and replacements it is where a start on its net and its events lead.
use Rattle.std.specs.Prelude.{◌≡◌, refl, ℕ, ◌≤◌, ◌<◌, T, pos, length, get_or, take, Err, None, Ok}
use Rattle.std.proofs.Common.{sym, ap, ◌∙◌, arith, subst}
use Rattle.std.proofs.Math.Seq.{get_or-take}
use Rattle.std.proofs.lemmas.List.{length-take}
use mathlib.Core.List.{List, [], ◌∷◌, ◌++◌, foldl, append-nil, append_assoc}
use Rattle.laws.specs.Booleans.{impossible}
use Rattle.laws.specs.Parts.{same_parts, same_halves}
use Rattle.laws.specs.Every.{Every}
use Rattle.laws.specs.Numbers.{Bytes}
use Rattle.refusals.specs.Answers.{Answer}
use Rattle.refusals.specs.declared.Refusal.{Refusal}
use Rattle.nets.specs.Nets.{Word, tokens, counts, permits}
use Rattle.nets.specs.Events.{each_below}
use Rattle.bundles.specs.Readers.{events_in, net_in}
use Rattle.screening.specs.Joins.{read-exactly}
use Rattle.engine.specs.declared.Outcome.{Outcome}
use Rattle.engine.specs.declared.Outcome.TheVariants.{Moved, Stopped}
use Rattle.demands.specs.Carrying.{start_answer, place_count, place_in, held}
use Rattle.demands.specs.CarryingProved.{start_exactly, step_exactly}
use Rattle.demands.specs.Carried.{State, begun, answer_at, behind, after, go_on}
use Rattle.demands.specs.Permitting.{Permitted, permitted→, →permitted}
use Rattle.demands.specs.CarriedProved.{same_state, Held, start-held, held-next, held-moved, steps-screened}
use Rattle.demands.specs.CarriedWhole.{none, held-at, after-held, stays}
use Rattle.demands.specs.Replacing.{replace_leaves}
use Rattle.demands.specs.ReplacingProved.{replace_exactly}
use Rattle.demands.specs.Sales.{Sale, Call, step, replace, replacement, bundle_behind, next_sale, begun_sale, sale_behind, played_anew, counted, events_of, OfBytes, AsIfFromStart}

-- ---- A run is where its events and its memory say

module _ (b ts kept : List ℕ) (u : Word) where
  -- two runs in the same memory, behind the same events
  held-same : (s s' : State) → Held b ts kept u s → Held b ts kept u s' → s ≡ s'
  held-same s s' one two =
      let numbers : s.number ≡ s'.number = one.number ∙ sym two.number in
      let slices = same_parts (place_count b) s.slice s'.slice (one.size ∙ sym two.size)
      (λ j h. let same : pos (held s.slice j) ≡ pos (held s'.slice j) = one.marking j h ∙ sym (two.marking j h) in cc)
      (one.rest ∙ sym two.rest) in
      let buffers = same_halves (length u) s.kept s'.kept (one.events ∙ sym two.events) (one.untouched ∙ sym two.untouched) in
      same_state s s' numbers slices buffers

  -- a run in the slice that it has now
  held-own : (s : State) → Held b ts kept u s → Held b s.slice kept u s
  held-own s at = record {
    number = at.number;
    marking = at.marking;
    rest = refl;
    size = refl;
    most = at.most;
    events = at.events;
    untouched = at.untouched;
    buffer = at.buffer;
  }

-- its buffer has room for its events
space-of : (b ts kept : List ℕ) (u : Word) (s : State) → Held b ts kept u s → length u ≤ length kept
space-of b ts kept u s at = omega (arith, ap length at.events, length-take (length u) s.kept, at.buffer)

-- ---- A sale, request by request

-- the invariant of a sale that counts the events u, with so many numbers lent and the buffer of its start
record SaleHeld (count : ℕ) (kept : List ℕ) (s : Sale) (u : Word) : Type 0 where
  size : length s.state.slice ≡ count
  bytes : Bytes s.bundle
  permitted : Permitted s.bundle u
  room : place_count s.bundle ≤ length s.state.slice
  held : Held s.bundle s.state.slice kept u s.state

-- at first, behind a granted start call
first-held : (b : List ℕ) → Bytes b → (ts kept : List ℕ) → start_answer b ts ≡ Ok 0 → SaleHeld (length ts) kept (begun_sale b ts kept) []
first-held b bytes ts kept e =
    let (zero, readable, room) = ((start_exactly b ts).result 0).0 e in
    let read = (read-exactly b).0 readable in
    let at = (start-held b bytes read ts kept room).1 in
    record {
      size = at.size;
      bytes = bytes;
      permitted = none b ts read;
      room = omega (arith, room, at.size);
      held = held-own b ts kept [] (begun b ts kept) at;
    }

module _ (count : ℕ) (kept : List ℕ) (s : Sale) (u : Word) (o : SaleHeld count kept s u) where
  -- behind an event
  step_held : (e : ℕ) → SaleHeld count kept (next_sale s (step e)) (u ++ counted (answer_at s.bundle s.state e) e)
  unfolding next_sale counted go_on
  step_held e = go (answer_at s.bundle s.state e) refl
    where
      b : List ℕ
      b = s.bundle

      stay : ((next : ℕ) → answer_at b s.state e ≡ Ok (Moved next) → ⊥) → SaleHeld count kept (record { bundle = b; state = behind b s.state e }) (u ++ [])
      stay not_moved =
          subst (λ (x : State). SaleHeld count kept (record { bundle = b; state = x }) (u ++ [])) (sym (stays b s.state e not_moved))
          (subst (SaleHeld count kept s) (sym (append-nil u)) o)

      go : (a : Answer Outcome) → answer_at b s.state e ≡ a → SaleHeld count kept (record { bundle = b; state = behind b s.state e }) (u ++ counted a e)
      go (Ok (Moved next)) is =
          let (passed, more, enough) = ((step_exactly b s.state.slice s.state.kept s.state.number e).moved next).0 is in
          let few : length u < 65535 = omega (arith, passed.tested.few, o.held.number) in
          let space : length u < length kept = omega (arith, passed.space, o.held.number, o.held.buffer) in
          let read = o.permitted.read in
          let answer = held-next b o.bytes read s.state.slice kept o.room u o.permitted s.state o.held e (λ f l. space) in
          let next_held = held-moved b o.bytes read s.state.slice kept o.room u o.permitted s.state o.held e passed.there few next is in
          record {
            size = next_held.size ∙ o.size;
            bytes = o.bytes;
            permitted = permitted→ b (u ++ e ∷ []) (sym answer ∙ ap (λ (a : Answer Outcome). go_on a (Ok None)) is);
            room = omega (arith, o.room, next_held.size);
            held = held-own b s.state.slice kept (u ++ e ∷ []) (behind b s.state e) next_held;
          }
      go (Ok (Stopped t)) is = stay (λ next q. impossible (cc (sym is ∙ q)))
      go (Err r) is = stay (λ next q. impossible (cc (sym is ∙ q)))

  -- the events so far stand in front of the buffer
  kept-so : take s.state.number s.state.kept ≡ u
  kept-so = ap (λ (k : ℕ). take k s.state.kept) o.held.number ∙ o.held.events

  -- a granted replacement leads where a start on the new net and its events lead
  module _ (new : List ℕ) (bytes : Bytes new) (granted : replacement s new ≡ Ok tt) where
    abbrev by_calls : State
    by_calls = record {
      number = s.state.number;
      slice = replace_leaves s.bundle new s.state.slice s.state.kept s.state.number;
      kept = s.state.kept;
    }

    granted-permits : Permitted new u × (place_count new ≤ length s.state.slice)
    granted-permits =
        let (x, allowed) = (replace_exactly s.bundle new s.state.slice s.state.kept s.state.number).result.0 granted in (
          record {
            read = (read-exactly new).0 x.read.second;
            short = omega (arith, x.read.few, o.held.number);
            below = each_below (events_in new) u (λ i h.
                subst (λ (w : Word). get_or w i 0 < events_in new) kept-so
                (subst (λ (y : ℕ). y < events_in new) (sym (get_or-take s.state.number s.state.kept i 0 (omega (arith, h, o.held.number))))
                (x.below i (omega (arith, h, o.held.number)))));
            permits = subst (λ (w : Word). T (permits (events_in new) (net_in new) w)) kept-so allowed;
          },
          x.room,
        )

    -- a start on the new net and its events, in the memory of the sale
    from_start : Held new s.state.slice kept u (after new s.state.slice kept u)
    from_start =
        let (p, room) = granted-permits in
        after-held new s.state.slice kept bytes room u p (space-of s.bundle s.state.slice kept u s.state o.held)

    granted-held : Held new s.state.slice kept u by_calls
    granted-held =
        let marked = (replace_exactly s.bundle new s.state.slice s.state.kept s.state.number).tokens granted in
        let marking = λ (j : ℕ) (h : j < place_count new).
        marked.marking j h ∙ ap (λ (w : Word). tokens (events_in new) (place_in new j) (counts (events_in new) w)) kept-so in
        record {
          number = o.held.number;
          marking = marking;
          rest = marked.rest;
          size = marked.size;
          most = λ j h.
              let same : pos (held by_calls.slice j) ≡ pos (held (after new s.state.slice kept u).slice j) =
              marking j h ∙ sym (from_start.marking j h) in
              let equal : held by_calls.slice j ≡ held (after new s.state.slice kept u).slice j = cc in
              omega (arith, equal, from_start.most j h);
          events = o.held.events;
          untouched = o.held.untouched;
          buffer = o.held.buffer;
        }

    granted-after : next_sale s (replace new) ≡ played_anew kept s new u
    unfolding next_sale bundle_behind
    granted-after =
        ap (λ (a : Answer (Unit {0})). record { bundle = bundle_behind a s.bundle new; state = by_calls }) granted
        ∙ ap (λ (x : State). record { bundle = new; state = x })
        (held-same new s.state.slice kept u by_calls (after new s.state.slice kept u) granted-held from_start)

    granted_sale : SaleHeld count kept (next_sale s (replace new)) u
    granted_sale =
        let (p, room) = granted-permits in
        subst (λ (x : Sale). SaleHeld count kept x u) (sym granted-after) (record {
          size = from_start.size ∙ o.size;
          bytes = bytes;
          permitted = p;
          room = omega (arith, room, from_start.size);
          held = held-own new s.state.slice kept u (after new s.state.slice kept u) from_start;
        })

-- a refused one leaves the sale
pub refused-same : (s : Sale) (new : List ℕ) (r : Refusal) → replacement s new ≡ Err r → next_sale s (replace new) ≡ s
unfolding next_sale bundle_behind
refused-same s new r is =
    let left = (replace_exactly s.bundle new s.state.slice s.state.kept s.state.number).refused r is in
    ap (λ (a : Answer (Unit {0})). record {
      bundle = bundle_behind a s.bundle new;
      state = record { number = s.state.number; slice = replace_leaves s.bundle new s.state.slice s.state.kept s.state.number; kept = s.state.kept };
    }) is
    ∙ ap (λ (l : List ℕ). record { bundle = s.bundle; state = record { number = s.state.number; slice = l; kept = s.state.kept } }) left

replace_held : (count : ℕ) (kept : List ℕ) (s : Sale) (u : Word) → SaleHeld count kept s u → (new : List ℕ) → Bytes new
    → SaleHeld count kept (next_sale s (replace new)) u
replace_held count kept s u o new bytes = go (replacement s new) refl
  where
    go : (a : Answer (Unit {0})) → replacement s new ≡ a → SaleHeld count kept (next_sale s (replace new)) u
    go (Ok x) is = granted_sale count kept s u o new bytes is
    go (Err r) is = subst (λ (x : Sale). SaleHeld count kept x u) (sym (refused-same s new r is)) o

module _ (count : ℕ) (kept : List ℕ) where
  -- behind any calls
  calls-held : (calls : List Call) → Every OfBytes calls → (s : Sale) (u : Word) → SaleHeld count kept s u
      → SaleHeld count kept (foldl next_sale s calls) (u ++ events_of s calls)
  unfolding events_of OfBytes
  calls-held [] all s u o = subst (SaleHeld count kept s) (sym (append-nil u)) o
  calls-held (step e ∷ calls) (one, all) s u o =
      let next = next_sale s (step e) in
      let more = counted (answer_at s.bundle s.state e) e in
      subst (SaleHeld count kept (foldl next_sale next calls)) (append_assoc u more (events_of next calls))
      (calls-held calls all next (u ++ more) (step_held count kept s u o e))
  calls-held (replace new ∷ calls) (bytes, all) s u o =
      calls-held calls all (next_sale s (replace new)) u (replace_held count kept s u o new bytes)

-- ---- As if from the start

module _ (b : List ℕ) (bytes : Bytes b) (ts kept : List ℕ) (granted : start_answer b ts ≡ Ok 0) (calls : List Call) (all : Every OfBytes calls) where
  abbrev s : Sale
  s = sale_behind b ts kept calls

  abbrev u : Word
  u = events_of (begun_sale b ts kept) calls

  behind-held : SaleHeld (length ts) kept s u
  behind-held = calls-held (length ts) kept calls all (begun_sale b ts kept) [] (first-held b bytes ts kept granted)

  pub goes_on : AsIfFromStart ts kept s u
  goes_on =
      let o = behind-held in
      let slice = s.state.slice in
      let read = o.permitted.read in
      let space = space-of s.bundle slice kept u s.state o.held in
      record {
        permitted = →permitted s.bundle u o.permitted;
        state = held-same s.bundle slice kept u s.state (after s.bundle slice kept u) o.held
            (after-held s.bundle slice kept o.bytes o.room u o.permitted space);
        size = o.size;
        at = held-at s.bundle slice kept o.bytes o.room u s.state o.permitted o.held;
        later = λ w short below long. steps-screened s.bundle o.bytes read slice kept o.room w u s.state o.permitted o.held short below long;
      }

  pub anew : (new : List ℕ) → Bytes new → replacement s new ≡ Ok tt → next_sale s (replace new) ≡ played_anew kept s new u
  anew new small done = granted-after (length ts) kept s u behind-held new small done
