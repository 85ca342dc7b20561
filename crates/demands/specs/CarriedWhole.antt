-- The page of request 10, proved: the run of each word, and the run that comes to 4,294,901,760.
use Rattle.std.specs.Prelude.{◌≡◌, refl, false, ℕ, zero, suc, ◌+◌, ◌*◌, ◌≤◌, ◌<◌, T, pos, length, get_or, replicate, Err, None, Ok}
use Rattle.std.proofs.Common.{sym, ap, ◌∙◌, arith, subst}
use Rattle.std.proofs.lemmas.List.{length-replicate}
use mathlib.Core.List.Memᴰ
use mathlib.Core.List.{List, [], ◌∷◌, foldl, Memᴰ}
use Rattle.laws.specs.Booleans.{impossible}
use Rattle.laws.specs.Lists.{all, any}
use Rattle.laws.specs.Numbers.{Bytes, all-bytes, number_at}
use Rattle.laws.specs.Scans.{first_failing}
use Rattle.limits.specs.Limits.{right_size}
use Rattle.refusals.specs.Results.{Result, value, refused, bind}
use Rattle.refusals.specs.Results as results
use Rattle.refusals.specs.Answers.{refusal, Answer}
use Rattle.nets.specs.Nets.{Word, Place, no_place, counts, tokens, permits, words, event_count}
use Rattle.nets.specs.Fits.{Below, below-empty}
use Rattle.nets.specs.Words.{permits-empty}
use Rattle.nets.specs.TokenGame.{equation_1}
use Rattle.nets.proofs.Plays.{tokens-copies, permits-copies}
use Rattle.bundles.specs.Reading.{item_in, require, field, byte, number, each, onward}
use Rattle.bundles.specs.Layout.{Head, to_place, to_net}
use Rattle.bundles.specs.Readers.{head_of, events_in, net_in, mark, entry_after, entry, place, places, head_after, to_first, first, head}
use Rattle.bundles.specs.Readers.{bundle_size, bundle_head, read_head}
use Rattle.bundles.specs.HeadReading.{HeadIsRead, read_is, read-head-of}
use Rattle.screening.specs.Screening.{screened}
use Rattle.screening.specs.ScreenLaws.{head_wrong}
use Rattle.screening.specs.Joins.{read-exactly}
use Rattle.engine.specs.Engine.{starting, handed_back}
use Rattle.engine.specs.declared.Outcome.{Outcome}
use Rattle.engine.specs.declared.Outcome.TheVariants.{Moved, Stopped}
use Rattle.demands.specs.Carrying.{start_answer, step_answer, step_leaves, step_keeps, place_count, place_in, held}
use Rattle.demands.specs.CarryingProved.{step_exactly, calls-of-engine}
use Rattle.demands.specs.Carried.{State, next_number, begun, answer_at, behind, after, steps, begin, run, At, bytes_most, Request10}
use Rattle.demands.specs.Permitting.{Permitted, permitted→, →permitted}
use Rattle.demands.specs.CarriedProved.{same_state, in_place, Held, start-held, held-next, held-full, held-after, steps-screened}

-- ---- Every word

module _ (b ts : List ℕ) where
  refused-start : (k spot : ℕ) → read_head b ≡ refused k spot → start_answer b ts ≡ Err (refusal k spot)
  unfolding starting handed_back bind
  refused-start k spot is = rw is

  pub none : HeadIsRead b → Permitted b []
  none read = record { read = read; short = omega arith; below = below-empty (events_in b); permits = permits-empty (events_in b) (net_in b) }

  module _ (kept : List ℕ) (bytes : Bytes b) (room : place_count b ≤ length ts) where
    same : (w : Word) → length w ≤ 65535 → Below (events_in b) w → length w ≤ length kept → run b ts kept w ≡ screened b w
    unfolding run begin
    same w short below space = go (read_head b) refl
      where
        go : (m : Result Head) → read_head b ≡ m → run b ts kept w ≡ screened b w
        go (value h) is =
            let read = read_is b h is in
            let first = start-held b bytes read ts kept room in
            ap (λ (a : Answer ℕ). begin a (steps b (begun b ts kept) w)) first.0
            ∙ steps-screened b bytes read ts kept room w [] (begun b ts kept) (none read) first.1 short below space
        go (refused k spot) is =
            ap (λ (a : Answer ℕ). begin a (steps b (begun b ts kept) w)) (refused-start k spot is)
            ∙ sym (head_wrong b w short (refusal k spot) is)

    -- where a run is whose slice and buffer are so
    pub held-at : (u : Word) (s : State) → Permitted b u → Held b ts kept u s → At b ts kept u s
    held-at u s p at =
        let most : (j : ℕ) → j < place_count b → held s.slice j ≤ 4294901760 = λ j h. omega (arith, at.most j h, p.short) in
        record {
          number = at.number;
          tokens = record {
            marking = at.marking;
            game = λ j h. at.marking j h ∙ sym (equation_1 (events_in b) u p.below (place_in b j));
            rest = at.rest;
            size = at.size;
          };
          events = at.events;
          untouched = at.untouched;
          buffer = at.buffer;
          most = most;
          in_range = λ e spot over.
              let (few, read, long, there, high, lower) = ((step_exactly b s.slice s.kept s.number e).over spot).0 over in
              let never : ◌≡◌ {A = ℕ} 0 1 = omega (arith, high, most spot there) in
              impossible never;
          next = held-next b bytes p.read ts kept room u p s at;
          full = held-full b bytes p.read ts kept room u p s at;
        }

    -- a start call and a step for each event
    pub after-held : (u : Word) → Permitted b u → length u ≤ length kept → Held b ts kept u (after b ts kept u)
    after-held u p space = held-after b bytes p.read ts kept room u [] (begun b ts kept) p space (start-held b bytes p.read ts kept room).1

    along : (u : Word) → screened b u ≡ Ok None → length u ≤ length kept → At b ts kept u (after b ts kept u)
    along u is space = let p = permitted→ b u is in held-at u (after b ts kept u) p (after-held u p space)

-- ---- A stop and a refusal

module _ (b : List ℕ) (s : State) (e : ℕ) (not_moved : (next : ℕ) → answer_at b s e ≡ Ok (Moved next) → ⊥) where
  pub stays : behind b s e ≡ s
  unfolding behind next_number
  stays = go (answer_at b s e) refl
    where
      as_was : (a : Answer Outcome) → answer_at b s e ≡ a
          → (step_leaves b s.slice s.kept s.number e ≡ s.slice) × (step_keeps b s.slice s.kept s.number e ≡ s.kept)
          → next_number s.number a ≡ s.number → behind b s e ≡ s
      as_was a is left same = same_state (behind b s e) s (ap (next_number s.number) is ∙ same) left.0 left.1

      go : (a : Answer Outcome) → answer_at b s e ≡ a → behind b s e ≡ s
      go (Ok (Moved next)) is = absurd (not_moved next is)
      go (Ok (Stopped t)) is = as_was (Ok (Stopped t)) is ((step_exactly b s.slice s.kept s.number e).stays t is) refl
      go (Err r) is = as_was (Err r) is ((step_exactly b s.slice s.kept s.number e).refused r is) refl

  later : (w : Word) → (steps b (behind b s e) w ≡ steps b s w) × (foldl (behind b) s (e ∷ w) ≡ foldl (behind b) s w)
  later w = (ap (λ (x : State). steps b x w) stays, ap (λ (x : State). foldl (behind b) x w) stays)

-- ---- The most tokens

fits : (b : List ℕ) → Bytes b → (ts kept : List ℕ) (number event next : ℕ) → step_answer b ts kept number event ≡ Ok (Moved next)
    → (j : ℕ) → j < place_count b → held (step_leaves b ts kept number event) j < 4294967296
fits b bytes ts kept number event next is j h =
    let calls = step_exactly b ts kept number event in
    let (passed, more, enough) = (calls.moved next).0 is in
    let puts = (in_place b bytes ((read-exactly b).0 passed.tested.read) j h).1 event in
    omega (arith, (calls.tokens next is).each j h, passed.tested.reachable j h, puts)

-- the bundle's head
abbrev head_most : Head
head_most = record { is_new = false; events = 1; entries = []; places = record { initial = 65535; produced = 65535 ∷ []; consumed = 0 ∷ [] } ∷ [] }

most-read : read_head bytes_most ≡ value head_most
unfolding all any first_failing number_at right_size bind results.require words event_count item_in require field byte number each onward mark
    entry_after entry place places head_after to_first first head bundle_size bundle_head read_head
most-read = refl

bytes-most : Bytes bytes_most
unfolding all
bytes-most = all-bytes bytes_most refl

below-copies : (k : ℕ) → Below 1 (replicate k 0)
below-copies zero x m = absurd (Memᴰ.not-nil m)
below-copies (suc k) x (Memᴰ.head e) = omega (arith, e)
below-copies (suc k) x (Memᴰ.tail m) = below-copies k x m

takes-none : (p : Place) → Memᴰ p (to_net head_most) → p.consumed 0 ≡ 0
unfolding to_net to_place
takes-none p m = ap (λ (q : Place). q.consumed 0) (Memᴰ.eq_of_singleton m)

-- what a number of its events leaves in its place
most-tokens : (k : ℕ) → tokens 1 (get_or (to_net head_most) 0 no_place) (counts 1 (replicate k 0)) ≡ pos (65535 + k * 65535)
unfolding to_net to_place
most-tokens k = tokens-copies 1 0 (omega arith) (get_or (to_net head_most) 0 no_place) refl k

one_place : length (to_net head_most) ≡ 1
unfolding to_net
one_place = refl

module _ (ts kept : List ℕ) (some : 1 ≤ length ts) (k : ℕ) (few : k ≤ 65535) (space : k ≤ length kept) where
  abbrev word : Word
  word = replicate k 0

  most-head : head_of bytes_most ≡ head_most
  most-head = read-head-of bytes_most head_most most-read

  permitted : Permitted bytes_most word
  permitted =
      let over : Below (events_in bytes_most) word = subst (λ (h : Head). Below h.events word) (sym most-head) (below-copies k) in
      let permits : T (permits (events_in bytes_most) (net_in bytes_most) word) =
      subst (λ (h : Head). T (permits h.events (to_net h) word)) (sym most-head) (permits-copies 1 0 (omega arith) (to_net head_most) takes-none k) in
      record {
        read = read_is bytes_most head_most most-read;
        short = omega (arith, few, length-replicate {A = ℕ} k 0);
        below = over;
        permits = permits;
      }

  sharp : (run bytes_most ts kept word ≡ Ok None) × (held (after bytes_most ts kept word).slice 0 ≡ 65535 + k * 65535)
  sharp =
      let answer = →permitted bytes_most word permitted in
      let one : place_count bytes_most ≡ 1 = ap (λ (h : Head). length (to_net h)) most-head ∙ one_place in
      let room : place_count bytes_most ≤ length ts = omega (arith, one, some) in
      let long : length word ≤ length kept = omega (arith, space, length-replicate {A = ℕ} k 0) in
      let at = along bytes_most ts kept bytes-most room word answer long in
      let marking : pos (held (after bytes_most ts kept word).slice 0) ≡ pos (65535 + k * 65535) =
      at.tokens.marking 0 (omega (arith, one))
      ∙ ap (λ (h : Head). tokens h.events (get_or (to_net h) 0 no_place) (counts h.events word)) most-head
      ∙ most-tokens k in
      (same bytes_most ts kept bytes-most room word permitted.short permitted.below long ∙ answer, cc marking)

pub request_10 : Request10
request_10 = record {
  calls = calls-of-engine;
  same = λ b bytes ts kept room w short below space. same b ts kept bytes room w short below space;
  along = λ b bytes ts kept room u is space. along b ts kept bytes room u is space;
  stays = stays;
  later = later;
  fits = fits;
  sharp = sharp;
  reached = refl;
}
