-- The call of request 11, proved: the lines of Replacing.antt from the laws of the engine.
use Rattle.std.specs.Prelude.{◌≡◌, refl, List, ℕ, ◌≤◌, ◌<◌, length, get_or, drop, pos}
use Rattle.std.proofs.Common.{sym, ap, ◌∙◌, arith, subst, inl, inr, ⊎_elim}
use Rattle.std.proofs.Math.Seq.{length-take-le, get_or-take}
use Rattle.std.proofs.lemmas.List.{length-map}
use Rattle.limits.specs.Limits.{max_word_events}
use Rattle.refusals.specs.Results.{value}
use Rattle.nets.specs.Nets.{Word, Net}
use Rattle.nets.specs.Carrying.{marking_after}
use Rattle.nets.specs.Events.{EventsBelow, each_below}
use Rattle.nets.specs.Screening.{shortfall_at, screen-permitted}
use Rattle.nets.specs.TokenGame.{equation_1}
use Rattle.nets.proofs.Carrying.{carried-counted}
use Rattle.nets.proofs.Screening.{screen-stopped-exactly}
use Rattle.bundles.specs.Readers.{events_in, net_in}
use Rattle.bundles.specs.HeadReading.{HeadIsRead}
use Rattle.screening.specs.Joins.{read-exactly}
use Rattle.screening.proofs.JoinCauses.{empty-refused}
use Rattle.engine.specs.Engine.{replacing}
use Rattle.engine.specs.Answers.{tokens-left, handed-refused, handed-value, tokens-kept}
use Rattle.engine.specs.ReplaceCauses.{replace_14, replace_3, replace-own, replace_22, replace_5, replace_15, replace_23, replace-gives}
use Rattle.engine.specs.RefusalNumbers.{replace_numbers_lem}
use Rattle.demands.specs.Carrying.{place_count, held}
use Rattle.demands.specs.CarryingProved.{front-leaves}
use Rattle.demands.specs.Carried.{Marked}
use Rattle.demands.specs.Replacing.{replace_leaves, so_far, BothRead, Playable, ReplaceExactly, CallOfReplacing}

module _ (old new ts kept : List ℕ) (number : ℕ) where
  abbrev n : ℕ
  n = events_in new

  abbrev net : Net
  net = net_in new

  abbrev word : Word
  word = so_far kept number

  -- the tests of the number and the buffer, and both heads
  abbrev Chain : Type 0 → Type 0
  Chain C = (number ≤ max_word_events) × ((number ≤ length kept) × (HeadIsRead old × (HeadIsRead new × C)))

  module _ {C : Type 0} where
    chain→ : Chain C → BothRead old new kept number × C
    chain→ (few, (all, (one, (two, c)))) =
        (record { few = few; all = all; first = (read-exactly old).1 one; second = (read-exactly new).1 two }, c)

    →chain : BothRead old new kept number → C → Chain C
    →chain both c = (both.few, (both.all, ((read-exactly old).0 both.first, ((read-exactly new).0 both.second, c))))

  -- the events so far, by position
  module _ (all : number ≤ length kept) where
    pub word-length : length word ≡ number
    word-length = length-take-le number kept all

    pub same_event : (i : ℕ) → i < number → get_or word i 0 ≡ get_or kept i 0
    same_event i h = get_or-take number kept i 0 h

    below→ : EventsBelow n word → (i : ℕ) → i < number → get_or kept i 0 < n
    below→ below i h = subst (λ (x : ℕ). x < n) (same_event i h) (below i (omega (arith, h, word-length)))

    →below : ((i : ℕ) → i < number → get_or kept i 0 < n) → EventsBelow n word
    →below below i h =
        let there : i < number = omega (arith, h, word-length) in
        subst (λ (x : ℕ). x < n) (sym (same_event i there)) (below i there)

  -- behind 22, 5 and 15
  abbrev Behind : Type 0 → Type 0
  Behind C = (events_in old ≡ n) × ((place_count new ≤ length ts) × (EventsBelow n word × C))

  module _ {C : Type 0} where
    behind→ : Chain (Behind C) → Playable old new ts kept number × C
    behind→ chain =
        let (both, (counts, (room, (below, c)))) = chain→ chain in
        (record { read = both; counts = counts; room = room; below = below→ both.all below }, c)

    →behind : Playable old new ts kept number → C → Chain (Behind C)
    →behind x c = →chain x.read (x.counts, (x.room, (→below x.read.all x.below, c)))

  marked : (us : List ℕ) → replacing old new ts kept number ≡ value us → Marked new word ts (replace_leaves old new ts kept number)
  unfolding marking_after
  marked us is =
      let (x, (permitted, behind)) = behind→ (((replace-gives old new ts kept number).line us).0 is) in
      let below = each_below n word (→below x.read.all x.below) in
      let permits = (screen-permitted n net word).0 permitted in
      let size : length us ≡ place_count new = ap length behind ∙ length-map net _ in
      let left = front-leaves new us size ts x.room (held us) (λ j h. refl) in
      let leaves = subst (λ (l : List ℕ). (j : ℕ) → j < place_count new → held l j ≡ held us j) (sym (tokens-left is ts)) left.each in
      let marking = λ (j : ℕ) (h : j < place_count new).
      ap pos (leaves j h ∙ ap (λ (l : List ℕ). get_or l j 0) behind) ∙ carried-counted n net word below permits j h in
      record {
        marking = marking;
        game = λ j h. marking j h ∙ sym (equation_1 n word below (get_or net j _));
        rest = ap (λ (l : List ℕ). drop (place_count new) l) (tokens-left is ts) ∙ left.rest;
        size = ap length (tokens-left is ts) ∙ left.size;
      }

  pub replace_exactly : ReplaceExactly old new ts kept number
  replace_exactly = record {
    many = handed-refused tt (replace_14 old new ts kept number);
    cut = λ spot.
        let line = handed-refused tt (replace_3 old new ts kept number) spot in
        ((λ e. let (few, (at, less)) = line.0 e in (at, few, less)), λ (at, few, less). line.1 (few, (at, less)));
    own = λ k listed spot.
        let line = handed-refused tt (replace-own old new ts kept number k listed) spot in
        let one = empty-refused old k spot in
        let two = empty-refused new k spot in (
          (λ e. let (few, (all, either)) = line.0 e in
              (few, all, ⊎_elim (λ first. inl (one.1 first)) (λ (read, second). inr ((read-exactly old).1 read, two.1 second)) either)),
          λ (few, all, either). line.1 (
            few,
            (
              all,
              ⊎_elim (λ first. inl (one.0 first)) (λ (readable, second). inr ((read-exactly old).0 readable, two.0 second)) either,
            ),
          ),
        );
    unequal = λ spot.
        let line = handed-refused tt (replace_22 old new ts kept number) spot in (
          (λ e. let (both, (at, differ)) = chain→ (line.0 e) in (at, both, differ)),
          λ (at, both, differ). line.1 (→chain both (at, differ)),
        );
    short = λ spot.
        let line = handed-refused tt (replace_5 old new ts kept number) spot in (
          (λ e. let (both, (counts, (at, less))) = chain→ (line.0 e) in (at, both, counts, less)),
          λ (at, both, counts, less). line.1 (→chain both (counts, (at, less))),
        );
    no_event = λ spot.
        let line = handed-refused tt (replace_15 old new ts kept number) spot in (
          (λ e.
              let (both, (counts, (room, (within, bad, lower)))) = chain→ (line.0 e) in
              let there : spot < number = omega (arith, within, word-length both.all) in (
                both,
                counts,
                room,
                there,
                subst (λ (x : ℕ). n ≤ x) (same_event both.all spot there) bad,
                λ i h. subst (λ (x : ℕ). x < n) (same_event both.all i (omega (arith, h, there))) (lower i h),
              )),
          λ (both, counts, room, there, bad, lower). line.1 (→chain both (
            counts,
            (
              room,
              (
                omega (arith, there, word-length both.all),
                subst (λ (x : ℕ). n ≤ x) (sym (same_event both.all spot there)) bad,
                λ i h. subst (λ (x : ℕ). x < n) (sym (same_event both.all i (omega (arith, h, there)))) (lower i h),
              ),
            ),
          )),
        );
    stopped = λ spot.
        let line = handed-refused tt (replace_23 old new ts kept number) spot in (
          (λ e.
              let (x, (j, k, is)) = behind→ (line.0 e) in
              (x, (j, ((screen-stopped-exactly n net word spot j k).0 is).0))),
          λ (x, (j, first)).
              let k = shortfall_at n net word spot j in
              line.1 (→behind x (j, k, (screen-stopped-exactly n net word spot j k).1 (first, refl))),
        );
    result = (
      (λ e.
          let (none, (us, is)) = (handed-value tt tt).0 e in
          let (x, (permitted, behind)) = behind→ (((replace-gives old new ts kept number).line us).0 is) in
          (x, (screen-permitted n net word).0 permitted)),
      λ (x, t).
          let us = marking_after n net word in
          (handed-value tt tt).1 (refl, (us, ((replace-gives old new ts kept number).line us).1 (→behind x ((screen-permitted n net word).1 t, refl)))),
    );
    tokens = λ e. let (none, (us, is)) = (handed-value tt tt).0 e in marked us is;
    refused = tokens-kept tt (replacing old new ts kept number) ts;
  }

pub call-of-replacing : CallOfReplacing
call-of-replacing = record { replace_exactly = replace_exactly; refusals_of_replace = replace_numbers_lem }
