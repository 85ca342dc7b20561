-- Words that the net of a bundle permits, and what screening answers behind them.
use Rattle.std.specs.Prelude.{◌≡◌, refl, Bool, true, false, cond, ℕ, suc, ◌≤◌, ◌<◌, T, length, get_or, ltb, Err, None, Ok}
use Rattle.std.specs.Prelude.{Some}
use Rattle.std.proofs.Common.{sym, ap, ◌∙◌, arith, subst, le-leb, leb-true, lt→ltb, ltb→lt, length-append}
use Rattle.std.proofs.Math.ListN.{get_or-append}
use Rattle.std.proofs.Math.Seq.{get_or-append_seam}
use mathlib.Core.List.{List, [], ◌∷◌, ◌++◌}
use Rattle.laws.specs.Booleans.{impossible, yes_true}
use Rattle.laws.specs.Lists.{all_intro, all-member, get_d_member}
use Rattle.limits.specs.Limits.{max_word_events}
use Rattle.refusals.specs.Table.{word_event_number}
use Rattle.refusals.specs.Answers.{refusal}
use Rattle.nets.specs.Nets.{Word, Net, step_after, net_permits, permits, screen_after, screen, stopped_at, permitted}
use Rattle.nets.specs.Events.{bad_exactly}
use Rattle.nets.specs.Fits.{Below, below-shorter}
use Rattle.nets.specs.Words.{permits-shorter}
use Rattle.nets.specs.Screening.{screen_after-append}
use Rattle.bundles.specs.Readers.{events_in, net_in}
use Rattle.bundles.specs.HeadReading.{HeadIsRead}
use Rattle.screening.specs.Screening.{screened, replayed}
use Rattle.screening.specs.Screens.{readable-read}
use Rattle.screening.specs.ScreenLaws.{word_wrong}
use Rattle.screening.specs.Joins.{screened-on, Passes, answer-replayed, permitted-on}
use Rattle.stops.specs.declared.Stop.{Stop}

-- a word over the events, at most 65,535 of them, that the net permits
pub record Permitted (b : List ℕ) (u : Word) : Type 0 where
  pub read : HeadIsRead b
  pub short : length u ≤ 65535
  pub below : Below (events_in b) u
  pub permits : T (permits (events_in b) (net_in b) u)

passes : {n : ℕ} {w : Word} → length w ≤ 65535 → Below n w → Passes w n
passes {n} {w} short below = (le-leb (length w) max_word_events short, yes_true _ (all_intro (λ e. ltb e n) w (λ e m. lt→ltb e n (below e m))))

module _ (b : List ℕ) where
  abbrev n : ℕ
  n = events_in b

  abbrev net : Net
  net = net_in b

  pub permitted→ : (u : Word) → screened b u ≡ Ok None → Permitted b u
  permitted→ u e =
      let read = readable-read b u (λ r q. impossible (cc (sym e ∙ q))) in
      let (passed, t) = (permitted-on u n net).0 (sym (screened-on b read u) ∙ e) in
      record {
        read = read;
        short = leb-true (length u) max_word_events passed.0;
        below = λ x m. ltb→lt x n (all-member (λ e. ltb e n) u (rw passed.1 tt) m);
        permits = t;
      }

  pub →permitted : (u : Word) → Permitted b u → screened b u ≡ Ok None
  →permitted u p = screened-on b p.read u ∙ (permitted-on u n net).1 (passes p.short p.below, p.permits)

  pub permitted-shorter : (u w : Word) → Permitted b (u ++ w) → Permitted b u
  permitted-shorter u w p = record {
    read = p.read;
    short = omega (arith, p.short, length-append u w);
    below = below-shorter n u w p.below;
    permits = permits-shorter n net u w p.permits;
  }

  -- the answer for a word that is not refused
  pub answered-so : HeadIsRead b → (w : Word) → length w ≤ 65535 → Below n w → screened b w ≡ replayed (screen n net w)
  answered-so read w short below = screened-on b read w ∙ answer-replayed w n net (passes short below)

  pub one_more : (u : Word) (e : ℕ) → length (u ++ e ∷ []) ≡ suc (length u)
  one_more u e = omega (arith, length-append u (e ∷ []))

  -- behind a permitted word
  module _ (u : Word) (p : Permitted b u) where
    pub screen-behind : (w : Word) → screen n net (u ++ w) ≡ screen_after n net u w
    unfolding screen permits
    screen-behind w = screen_after-append n net u [] w p.permits

    -- 15, for an event that is not below n
    pub bad_answer : (e : ℕ) → n ≤ e → length u < 65535 → screened b (u ++ e ∷ []) ≡ Err (refusal word_event_number (length u))
    bad_answer e over short =
        let w = u ++ e ∷ [] in
        let first = (bad_exactly n w (length u)).1 (
          omega (arith, one_more u e),
          subst (λ (x : ℕ). n ≤ x) (sym (get_or-append_seam u e [] 0)) over,
          λ i h. subst (λ (x : ℕ). x < n) (sym (get_or-append u (e ∷ []) 0 i h)) (p.below (get_or u i 0) (get_d_member u i 0 h)),
        ) in
        word_wrong b w (omega (arith, one_more u e, short)) refl p.read (omega (arith, first.0, one_more u e))
        ∙ ap (λ (k : ℕ). Err (refusal word_event_number k)) (sym first.0)

    -- a stop stays where more events follow
    pub stopped-longer : (e : ℕ) (w : Word) → length (u ++ e ∷ w) ≤ 65535 → Below n (u ++ e ∷ w) → Below n (u ++ e ∷ []) → (t : Stop)
        → screened b (u ++ e ∷ []) ≡ Ok (Some t) → screened b (u ++ e ∷ w) ≡ Ok (Some t)
    unfolding screen_after replayed
    stopped-longer e w short below one t is =
        let longer : length (u ++ e ∷ []) ≤ 65535 = omega (arith, short, one_more u e, length-append u (e ∷ w)) in
        answered-so p.read (u ++ e ∷ w) short below ∙ ap replayed (screen-behind (e ∷ w))
        ∙ go (net_permits n net (step_after n u e)) (sym (answered-so p.read (u ++ e ∷ []) longer one ∙ ap replayed (screen-behind (e ∷ []))) ∙ is)
      where
        go : (ok : Bool) → replayed (cond ok permitted (stopped_at n net (length u) (step_after n u e))) ≡ Ok (Some t)
            → replayed (cond ok (screen_after n net (u ++ e ∷ []) w) (stopped_at n net (length u) (step_after n u e))) ≡ Ok (Some t)
        go true q = impossible cc
        go false q = q
