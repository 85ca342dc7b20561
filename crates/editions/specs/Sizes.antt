-- How long a bundle is that conversion writes, by the bundle's length, its words and its certificates of kind 1; and that it is accepted.
use Rattle.std.specs.Prelude.{◌≡◌, Bool, true, false, List, ℕ, ◌+◌, ◌≤◌, length}
use Rattle.std.proofs.Common.{sym, ap, ◌∙◌, subst, ⊎_elim, arith}
use Rattle.laws.specs.Booleans.{true_or_false}
use Rattle.limits.specs.Limits.{max_bundle_size}
use Rattle.nets.specs.Entries.{NoneCompleted}
use Rattle.bundles.specs.Layout.{Contents, bytes_of}
use Rattle.verdicts.specs.Acceptance.{AcceptedAs}
use Rattle.verdicts.proofs.OldEdition.{old-edition}
use Rattle.verdicts.specs.declared.Tally.{Tally}
use Rattle.editions.specs.Converting.{in_edition, newer, older}
use Rattle.editions.specs.EditionLaws.{Convertible, in-own, partial-convertible, in-accepted, newer-length, by_weights-count}

module _ {b : List ℕ} {c : Tally} (d : Contents) (a : AcceptedAs b c d) where
  -- a bundle of the old edition has no completed word, and no pair
  pub old-convertible : d.head.is_new ≡ false → Convertible d
  old-convertible old = let o = old-edition d a.limits old in record { partial = o.partial; pairs = o.pairs }

  -- in the edition that it has, it is the same bytes
  pub own-bytes : (e : Bool) → d.head.is_new ≡ e → bytes_of (in_edition e d) ≡ b
  own-bytes e own = ap bytes_of (in-own d own) ∙ sym a.layout

  -- in the other one it has a byte more or less for each word and each certificate of kind 1
  sizes : Convertible d → length (bytes_of (newer d)) ≡ length (bytes_of (older d)) + length d.head.entries + c.by_weights
  sizes plain = omega (arith, newer-length d plain.pairs, by_weights-count d a)

  pub newer-size : d.head.is_new ≡ false → length (bytes_of (newer d)) ≡ length b + length d.head.entries + c.by_weights
  newer-size old = omega (arith, sizes (old-convertible old), ap length (own-bytes false old))

  pub older-size : d.head.is_new ≡ true → NoneCompleted d.head.entries → length (bytes_of (older d)) + length d.head.entries + c.by_weights ≡ length b
  older-size new none = omega (arith, sizes (partial-convertible d a none), ap length (own-bytes true new))

  -- a bundle in the old edition is never longer
  pub older-fits : NoneCompleted d.head.entries → length (bytes_of (older d)) ≤ max_bundle_size
  older-fits none = ⊎_elim
      (λ new. omega (arith, older-size new none, ap length a.layout, a.limits.size))
      (λ old. omega (arith, ap length (own-bytes false old), ap length a.layout, a.limits.size))
      (true_or_false d.head.is_new)

  -- ---- what is written is accepted with the same counts

  abbrev Written : Bool → Type 0
  Written e = AcceptedAs (bytes_of (in_edition e d)) c (in_edition e d)

  own-accepted : (e : Bool) → d.head.is_new ≡ e → Written e
  own-accepted e own = subst (λ (x : Contents). AcceptedAs (bytes_of x) c x) (sym (in-own d own))
      (subst (λ (l : List ℕ). AcceptedAs l c d) a.layout a)

  pub newer-accepted : length (bytes_of (newer d)) ≤ max_bundle_size → Written true
  newer-accepted fits = ⊎_elim
      (λ new. own-accepted true new)
      (λ old. in-accepted true d a (old-convertible old) fits)
      (true_or_false d.head.is_new)

  pub older-accepted : NoneCompleted d.head.entries → Written false
  older-accepted none = in-accepted false d a (partial-convertible d a none) (older-fits none)
