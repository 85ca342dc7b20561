-- Screening, proved: the lines of Screening.antt from the laws of the readers.
use Rattle.std.specs.Prelude.{◌≡◌, refl, true, false, ◌↔◌, List, [], ◌∷◌, ℕ, ◌≤◌, eqb, length, Err}
use Rattle.std.proofs.Common.{inl, inr, ⊎_elim, eqb-true, eq-eqb}
use mathlib.Core.Logic.Iff
use Rattle.laws.specs.Booleans.{at_least, less, fails-exactly}
use Rattle.laws.specs.Lists.{any, among}
use Rattle.laws.specs.Numbers.{Bytes}
use Rattle.limits.specs.Limits.{max_word_events, right_size-bounds, right_size_intro, right_size_wrong}
use Rattle.refusals.specs.Results.{refused}
use Rattle.refusals.specs.Answers.{refusal}
use Rattle.nets.specs.Nets.{Word}
use Rattle.nets.specs.Events.{bad_exactly}
use Rattle.bundles.specs.Readers.{head, any_rows, events_in}
use Rattle.bundles.specs.Limits.{→size}
use Rattle.beginnings.specs.Heads.{head-ends, head_6, head_7_8}
use Rattle.beginnings.specs.Words.{head_8}
use Rattle.screening.specs.Screening.{screened}
use Rattle.screening.specs.Causes.{screen_14, screen_4, screen-field, screen_15}
use Rattle.screening.specs.Joins.{read-exactly}
use Rattle.screening.proofs.JoinCauses.{empty-refused, join_14, join-own, join_19, join_15}
use Rattle.demands.specs.Screening.{ScreenExactly, JoinExactly}

-- 6, 7 and 8 are refusals of the head
in_head : (b : List ℕ) (w : Word) (number : ℕ) → among number (6 ∷ 7 ∷ 8 ∷ []) ≡ true → (spot : ℕ)
    → (screened b w ≡ Err (refusal number spot))
    ↔ ((length w ≤ 65535) × (1 ≤ length b) × (length b ≤ 64512) × (head any_rows b 0 ≡ refused number spot))
unfolding any
in_head b w number listed spot = Iff.trans (screen-field b w number listed spot) (
  (λ (short, (right, e)). let s = right_size-bounds (length b) right in ((at_least (length w) max_word_events).0 short, s.0, s.1, e)),
  (λ (short, some, most, e). ((at_least (length w) max_word_events).1 short, (right_size_intro (length b) some most, e))),
)

pub screen-exactly : (b : List ℕ) → Bytes b → (w : Word) → ScreenExactly b w
unfolding any
screen-exactly b bytes w = record {
  word-length = λ spot. Iff.trans (screen_14 b w spot) (
    (λ (at, e). (at, (less (length w) max_word_events).0 e)),
    (λ (at, h). (at, (less (length w) max_word_events).1 h)),
  );
  bundle-length = λ spot. Iff.trans (screen_4 b w spot) (
    (λ (short, (at, e)). (at, (at_least (length w) max_word_events).0 short, (right_size_wrong (length b)).0 e)),
    (λ (at, short, c). ((at_least (length w) max_word_events).1 short, (at, (right_size_wrong (length b)).1 c))),
  );
  fields = in_head b w;
  short = (
    (λ (spot, e). let q = (in_head b w 6 refl spot).0 e in let r = (head_6 b bytes).0 (spot, q.3) in (q.0, q.1, q.2, r.0, r.1)),
    (λ (few, some, most, s, none). let r = (head_6 b bytes).1 (s, none) in (r.0, (in_head b w 6 refl r.0).1 (few, some, most, r.1))),
  );
  ends = λ spot e. head-ends b bytes spot ((in_head b w 6 refl spot).0 e).3;
  departs = λ spot. (
    ⊎_elim
        (λ e. let q = (in_head b w 7 refl spot).0 e in let r = (head_7_8 b bytes spot).0 (inl q.3) in (q.0, q.1, q.2, r.0, r.1))
        (λ e. let q = (in_head b w 8 refl spot).0 e in let r = (head_7_8 b bytes spot).0 (inr q.3) in (q.0, q.1, q.2, r.0, r.1)),
    (λ (few, some, most, d, none). ⊎_elim
        (λ e. inl ((in_head b w 7 refl spot).1 (few, some, most, e)))
        (λ e. inr ((in_head b w 8 refl spot).1 (few, some, most, e)))
        ((head_7_8 b bytes spot).1 (d, none))),
  );
  events_pass = λ spot. Iff.trans (in_head b w 8 refl spot)
      (let law = head_8 b bytes spot any_rows (λ n. tt) (λ n log more t. tt) in (
        (λ (few, some, most, e). let (f, before, _, over) = law.0 e in (few, some, most, (f, before, over))),
        (λ (few, some, most, (f, before, over)). (few, some, most, law.1 (f, before, tt, over))),
      ));
  event = λ spot. Iff.trans (screen_15 b w bytes spot) (
    (λ (short, (right, (h, rest, f, at, fails))).
        let s = right_size-bounds (length b) right in
        let c = (bad_exactly h.events w spot).0 (at, fails) in
        ((at_least (length w) max_word_events).0 short, s.1, (h, rest, f, c.0, c.1, c.2))),
    (λ (short, most, (h, rest, f, within, here, lower)).
        let c = (bad_exactly h.events w spot).1 (within, here, lower) in
        ((at_least (length w) max_word_events).1 short, (→size b h rest f.layout most, (h, rest, f, c.0, c.1)))),
  );
}

-- two numbers that a test tells apart
differ : (m n : ℕ) → (eqb m n ≡ false) ↔ (m ≡ n → ⊥)
differ m n = fails-exactly (eqb m n) (eqb-true m n, eq-eqb m n)

pub join-exactly : (first second : List ℕ) (w : Word) → JoinExactly first second w
unfolding any
join-exactly first second w =
    let short = at_least (length w) max_word_events in
    let one = read-exactly first in
    let two = read-exactly second in
    record {
      word-length = λ spot. Iff.trans (join_14 first second w spot) (
        (λ (at, e). (at, (less (length w) max_word_events).0 e)),
        (λ (at, h). (at, (less (length w) max_word_events).1 h)),
      );
      own = λ number listed spot.
          let its = empty-refused first number spot in
          let other = empty-refused second number spot in
          Iff.trans (join-own first second w number listed spot) (
            (λ (h, e). (short.0 h, ⊎_elim (λ q. inl (its.1 q)) (λ (read, q). inr (one.1 read, other.1 q)) e)),
            (λ (h, e). (short.1 h, ⊎_elim (λ q. inl (its.0 q)) (λ (read, q). inr (one.0 read, other.0 q)) e)),
          );
      counts = λ spot. Iff.trans (join_19 first second w spot) (
        (λ (h, (read, read', (at, e))). (at, short.0 h, one.1 read, two.1 read', (differ (events_in first) (events_in second)).0 e)),
        (λ (at, h, read, read', e). (short.1 h, (one.0 read, two.0 read', (at, (differ (events_in first) (events_in second)).1 e)))),
      );
      event = λ spot. Iff.trans (join_15 first second w spot) (
        (λ (h, (read, read', (same, (at, fails)))).
            let c = (bad_exactly (events_in first) w spot).0 (at, fails) in
            (short.0 h, one.1 read, two.1 read', eqb-true (events_in first) (events_in second) same, c.0, c.1, c.2)),
        (λ (h, read, read', same, within, here, lower).
            let c = (bad_exactly (events_in first) w spot).1 (within, here, lower) in
            (short.1 h, (one.0 read, two.0 read', (eq-eqb (events_in first) (events_in second) same, (c.0, c.1))))),
      );
    }
