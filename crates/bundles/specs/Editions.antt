-- The first byte and the marks of the two editions: what they say, and how they are written.
use Rattle.std.specs.Prelude.{◌≡◌, refl, Bool, true, false, cond, ℕ, zero, suc, ◌+◌, ◌%◌, ◌≤◌, ◌<◌, leb, eqb, get_or}
use Rattle.std.proofs.Math.Path.{sym, ap}
use Rattle.std.proofs.Common.{◌∙◌, arith, le-leb, leb-true, leb-false}
use mathlib.Core.List.{List}
use Rattle.std.proofs.lemmas.Bool.{lt-leb}
use Rattle.limits.specs.Limits.{max_events, new_edition}
use Rattle.bundles.specs.Layout.{First, Head, first_of, first_in, front_bytes, head_bytes, HeadInFront}
use Rattle.bundles.specs.Readers.{to_first}

-- the mark of a completed word, and of a partial one
unfoldable pub mark_of : Bool → ℕ
mark_of completed = cond completed 1 0

pub mark-read : (m : ℕ) → m ≤ 1 → mark_of (eqb m 1) ≡ m
unfolding mark_of
mark-read zero h = refl
mark-read (suc zero) h = refl
mark-read (suc (suc m)) h = absurd (omega arith)

pub mark-written : (c : Bool) → eqb (mark_of c) 1 ≡ c
unfolding mark_of
mark-written true = refl
mark-written false = refl

pub mark-most : (c : Bool) → mark_of c ≤ 1
unfolding mark_of
mark-most true = omega arith
mark-most false = omega arith

pub mark-one : (c : Bool) → mark_of c ≡ 1 → c ≡ true
unfolding mark_of
mark-one true e = refl
mark-one false e = absurd (omega (arith, e))

-- the first byte of what one says, and the other way
pub first-read : (x : ℕ) → x < 256 → first_of (to_first x) ≡ x
unfolding first_of to_first
first-read x small = go (leb new_edition x) refl
  where
    go : (t : Bool) → leb new_edition x ≡ t → cond t new_edition 0 + x % new_edition ≡ x
    go true e = omega (arith, leb-true new_edition x e)
    go false e = omega (arith, leb-false new_edition x e)

pub first-written : (f : First) → f.events ≤ max_events → to_first (first_of f) ≡ f
unfolding first_of to_first
first-written f few = go f.is_new refl
  where
    go : (t : Bool) → f.is_new ≡ t → record {
      is_new = leb new_edition (cond f.is_new new_edition 0 + f.events);
      events = (cond f.is_new new_edition 0 + f.events) % new_edition;
    } ≡ f
    go true e =
        let edition : leb new_edition (cond f.is_new new_edition 0 + f.events) ≡ f.is_new =
        rw e (le-leb new_edition (new_edition + f.events) (omega arith)) in
        let count : (cond f.is_new new_edition 0 + f.events) % new_edition ≡ f.events = rw e (omega arith) in
        λ i. record { is_new = edition i; events = count i }
    go false e =
        let edition : leb new_edition (cond f.is_new new_edition 0 + f.events) ≡ f.is_new = rw e (lt-leb new_edition (0 + f.events) (omega arith)) in
        let count : (cond f.is_new new_edition 0 + f.events) % new_edition ≡ f.events = rw e (omega arith) in
        λ i. record { is_new = edition i; events = count i }

pub first_small : (f : First) → f.events ≤ max_events → first_of f < 256
unfolding first_of
first_small f few = go f.is_new
  where
    go : (t : Bool) → cond t new_edition 0 + f.events < 256
    go true = omega arith
    go false = omega arith

-- a bundle that begins with a head: its first byte says which edition it is, and n
module _ {b : List ℕ} {h : Head} {rest : List ℕ} (f : HeadInFront b h rest) where
  front-first : to_first (get_or b 0 0) ≡ first_in h
  unfolding head_bytes front_bytes
  front-first = ap (λ (l : List ℕ). to_first (get_or l 0 0)) f.layout ∙ first-written (first_in h) f.limits.events.1

  pub front-edition : h.is_new ≡ leb new_edition (get_or b 0 0)
  unfolding to_first
  front-edition = sym (ap (λ (x : First). x.is_new) front-first)

  pub front-events : h.events ≡ get_or b 0 0 % new_edition
  unfolding to_first
  front-events = sym (ap (λ (x : First). x.events) front-first)
