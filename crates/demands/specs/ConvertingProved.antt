-- The calls of request 9, proved.
use Rattle.std.specs.Prelude.{◌≡◌, refl, ◌↔◌, Bool, true, false, List, ℕ, ◌≤◌, ◌<◌, length}
use Rattle.std.proofs.Common.{sym, ap, ◌∙◌, true≢false, inl, inr, ⊎_elim, arith}
use Rattle.laws.specs.Booleans.{true_or_false}
use Rattle.laws.specs.Lists.{any, get_d_member}
use Rattle.laws.specs.Numbers.{Bytes}
use Rattle.refusals.specs.Results.{value, refused}
use Rattle.nets.specs.Nets.{no_entry}
use Rattle.nets.specs.Entries.{NoneCompleted}
use Rattle.bundles.specs.Layout.{Contents, bytes_of}
use Rattle.verdicts.specs.declared.Tally.{Tally}
use Rattle.verdicts.proofs.Never.{judge-never}
use Rattle.contents.specs.Behind.{JudgedAs, behind-judged, behind-value-exactly, answer-own, answer-judged, answer-short, answer-given}
use Rattle.editions.specs.Converting.{in_edition, newer, older, in_new, in_old, converting_to_new, converting_to_old}
use Rattle.editions.specs.Causes.{in_new-refused, in_new-value, in_old-refused, in_old-value}
use Rattle.editions.specs.Sizes.{old-convertible, own-bytes, newer-size, older-size}
use Rattle.demands.specs.Outputs.{leaves-output}
use Rattle.demands.specs.Converting.{InEdition, NewLength, ToNewExactly, FirstCompleted, OldLength, ToOldExactly}

-- ---- contents in an edition

pub in_edition-is : (e : Bool) (d : Contents) → InEdition e d (in_edition e d)
in_edition-is e d = record { edition = refl; events = refl; entries = refl; places = refl; certificates = refl }

-- there is one
pub edition-unique : (e : Bool) (d d' : Contents) → InEdition e d d' → d' ≡ in_edition e d
edition-unique e d d' same = λ i. record {
  head = record { is_new = same.edition i; events = same.events i; entries = same.entries i; places = same.places i };
  certificates = same.certificates i;
}

module _ (table_length : ℕ) (b : List ℕ) (bytes : Bytes b) where
  -- ---- to the new edition

  new-length : (c : Tally) (d : Contents) → JudgedAs table_length b c d → NewLength b c d (length (bytes_of (newer d)))
  new-length c d j = record {
    copied = λ own. ap length (own-bytes d j.contents true own);
    converted = newer-size d j.contents;
  }

  new-unique : (c : Tally) (d : Contents) → JudgedAs table_length b c d → (n : ℕ) → NewLength b c d n → n ≡ length (bytes_of (newer d))
  new-unique c d j n size =
      let is = new-length c d j in ⊎_elim
      (λ new. size.copied new ∙ sym (is.copied new))
      (λ old. size.converted old ∙ sym (is.converted old))
      (true_or_false d.head.is_new)

  abbrev NewSize : Tally → Contents → ℕ → Type 0
  NewSize c d n = NewLength b c d n × (n ≤ 64512)

  new-sizes : (c : Tally) (d : Contents) → JudgedAs table_length b c d → (n : ℕ)
      → ((new : List ℕ) × (in_new d ≡ value new) × (n ≡ length new)) ↔ NewSize c d n
  new-sizes c d j n = (
    (λ (new, e, size).
        let (fits, is) = (in_new-value d new).0 e in
        let same : n ≡ length (bytes_of (newer d)) = size ∙ ap length is in
        (rw same (new-length c d j), omega (arith, same, fits))),
    (λ (size, within).
        let same = new-unique c d j n size in
        (bytes_of (newer d), (in_new-value d (bytes_of (newer d))).1 (omega (arith, same, within), refl), same)),
  )

  new-only : (k : ℕ) → (k ≡ 4 → ⊥) → (d : Contents) (spot : ℕ) → in_new d ≡ refused k spot → ⊥
  new-only k other d spot e = other ((in_new-refused d k spot).0 e).0

  -- a bundle of the new edition is not too long
  only-old : (c : Tally) (d : Contents) → JudgedAs table_length b c d → 64512 < length (bytes_of (newer d)) → d.head.is_new ≡ false
  only-old c d j over = ⊎_elim
      (λ new. absurd (omega (arith, over, (new-length c d j).copied new, ap length j.contents.layout, j.contents.limits.size)))
      (λ old. old)
      (true_or_false d.head.is_new)

  pub to_new-exactly : (room : ℕ) → ToNewExactly table_length b room
  unfolding converting_to_new
  to_new-exactly room = record {
    judged = λ k other other'. answer-judged table_length b bytes in_new room k other (new-only k other');
    too_long = λ spot.
        let law = answer-own table_length b bytes in_new room 4 (λ e. omega (arith, e)) spot in (
          (λ e. ⊎_elim inl
              (λ (c, d, j, q).
              let (_, at, over) = (in_new-refused d 4 spot).0 q in
              let old = only-old c d j over in
              inr (at, (c, d, j, old, omega (arith, over, newer-size d j.contents old))))
              (law.0 e)),
          ⊎_elim (λ v. law.1 (inl v)) (λ (at, (c, d, j, old, over)).
              law.1 (inr (c, d, j, (in_new-refused d 4 spot).1 (refl, at, omega (arith, over, newer-size d j.contents old))))),
        );
    output_short = λ spot.
        let law = answer-short table_length b bytes in_new room NewSize new-sizes (new-only 3 (λ e. omega (arith, e))) spot in (
          (λ e. let (c, d, j, (size, within), short) = law.0 e in (c, d, record { accepted = j; size = size; within = within }, short)),
          (λ (c, d, to, short). law.1 (c, d, to.accepted, (to.size, to.within), short)),
        );
    result = λ n.
        let law = answer-given table_length b bytes in_new room NewSize new-sizes n in (
          (λ e. let (c, d, j, (size, within), fits) = law.0 e in (c, d, record { accepted = j; size = size; within = within }, fits)),
          (λ (c, d, to, fits). law.1 (c, d, to.accepted, (to.size, to.within), fits)),
        );
    bytes = λ b'.
        let law = behind-value-exactly table_length b bytes in_new b' in (
          (λ e.
              let (c, d, j, q) = law.0 e in
              let (size, within) = (new-sizes c d j (length b')).0 (b', q, refl) in
              (c, d, record { accepted = j; size = size; within = within }, (newer d, in_edition-is true d, ((in_new-value d b').0 q).1))),
          (λ (c, d, to, (d', same, is)).
              let written : b' ≡ bytes_of (newer d) = is ∙ ap bytes_of (edition-unique true d d' same) in
              law.1 (c, d, to.accepted, (in_new-value d b').1 (omega (arith, to.within, ap length written), written))),
        );
    copied = λ c d j new.
        let own = own-bytes d j.contents true new in
        behind-judged table_length b bytes in_new c d j
        ∙ (in_new-value d b).1 (omega (arith, ap length own, ap length j.contents.layout, j.contents.limits.size), sym own);
    output = leaves-output (converting_to_new table_length b) room;
  }

  -- ---- to the old edition

  old-length : (c : Tally) (d : Contents) → JudgedAs table_length b c d → NoneCompleted d.head.entries → OldLength b c d (length (bytes_of (older d)))
  old-length c d j none = record {
    copied = λ own. ap length (own-bytes d j.contents false own);
    converted = λ new. older-size d j.contents new none;
  }

  old-unique : (c : Tally) (d : Contents) → JudgedAs table_length b c d → NoneCompleted d.head.entries
      → (n : ℕ) → OldLength b c d n → n ≡ length (bytes_of (older d))
  old-unique c d j none n size =
      let is = old-length c d j none in ⊎_elim
      (λ new. omega (arith, size.converted new, is.converted new))
      (λ old. size.copied old ∙ sym (is.copied old))
      (true_or_false d.head.is_new)

  abbrev OldSize : Tally → Contents → ℕ → Type 0
  OldSize c d n = NoneCompleted d.head.entries × OldLength b c d n

  old-sizes : (c : Tally) (d : Contents) → JudgedAs table_length b c d → (n : ℕ)
      → ((new : List ℕ) × (in_old d ≡ value new) × (n ≡ length new)) ↔ OldSize c d n
  old-sizes c d j n = (
    (λ (new, e, size).
        let (none, is) = (in_old-value d new).0 e in
        let same : n ≡ length (bytes_of (older d)) = size ∙ ap length is in
        (none, rw same (old-length c d j none))),
    (λ (none, size). (bytes_of (older d), (in_old-value d (bytes_of (older d))).1 (none, refl), old-unique c d j none n size)),
  )

  old-only : (k : ℕ) → (k ≡ 21 → ⊥) → (d : Contents) (spot : ℕ) → in_old d ≡ refused k spot → ⊥
  old-only k other d spot e = other ((in_old-refused d k spot).0 e).0

  -- a bundle of the old edition has no completed word
  only-new : (c : Tally) (d : Contents) → JudgedAs table_length b c d → (i : ℕ) → FirstCompleted d.head.entries i → d.head.is_new ≡ true
  only-new c d j i first = ⊎_elim
      (λ new. new)
      (λ old.
      let none = (old-convertible d j.contents old).partial _ (get_d_member d.head.entries i no_entry first.there) in
      absurd (true≢false (sym first.completed ∙ none)))
      (true_or_false d.head.is_new)

  pub to_old-exactly : (room : ℕ) → ToOldExactly table_length b room
  unfolding converting_to_old any
  to_old-exactly room = record {
    judged = λ k other other'. answer-judged table_length b bytes in_old room k other (old-only k other');
    completed = λ spot.
        let law = answer-own table_length b bytes in_old room 21 (λ e. omega (arith, e)) spot in (
          (λ e. ⊎_elim
              (λ v. absurd (judge-never table_length b 21 spot refl v))
              (λ (c, d, j, q).
              let (_, there, here, before) = (in_old-refused d 21 spot).0 q in
              let first : FirstCompleted d.head.entries spot = record { there = there; completed = here; before = before } in
              (c, d, j, only-new c d j spot first, first))
              (law.0 e)),
          (λ (c, d, j, _, first). law.1 (inr (c, d, j, (in_old-refused d 21 spot).1 (refl, first.there, first.completed, first.before)))),
        );
    output_short = λ spot.
        let law = answer-short table_length b bytes in_old room OldSize old-sizes (old-only 3 (λ e. omega (arith, e))) spot in (
          (λ e. let (c, d, j, (none, size), short) = law.0 e in (c, d, record { accepted = j; partial = none; size = size }, short)),
          (λ (c, d, to, short). law.1 (c, d, to.accepted, (to.partial, to.size), short)),
        );
    result = λ n.
        let law = answer-given table_length b bytes in_old room OldSize old-sizes n in (
          (λ e. let (c, d, j, (none, size), fits) = law.0 e in (c, d, record { accepted = j; partial = none; size = size }, fits)),
          (λ (c, d, to, fits). law.1 (c, d, to.accepted, (to.partial, to.size), fits)),
        );
    bytes = λ b'.
        let law = behind-value-exactly table_length b bytes in_old b' in (
          (λ e.
              let (c, d, j, q) = law.0 e in
              let (none, size) = (old-sizes c d j (length b')).0 (b', q, refl) in
              (c, d, record { accepted = j; partial = none; size = size }, (older d, in_edition-is false d, ((in_old-value d b').0 q).1))),
          (λ (c, d, to, (d', same, is)).
              law.1 (c, d, to.accepted, (in_old-value d b').1 (to.partial, is ∙ ap bytes_of (edition-unique false d d' same)))),
        );
    copied = λ c d j old.
        behind-judged table_length b bytes in_old c d j
        ∙ (in_old-value d b).1 ((old-convertible d j.contents old).partial, sym (own-bytes d j.contents false old));
    output = leaves-output (converting_to_old table_length b) room;
  }
