-- Marks for the places that certificates name, as the code makes them while it walks over the certificates.
use Rattle.std.specs.Prelude.{◌≡◌, refl, Bool, true, false, cond, ◌||◌, List, ℕ, zero, suc, ◌+◌, ◌≤◌, ◌<◌, eqb, length, take, drop, get_or, set, replicate, count_by}
use Rattle.std.proofs.Math.Seq.{get_or-drop, drop-drop}
use Rattle.std.proofs.Common.{sym, ap, ◌∙◌, subst, add-one, arith, take-suc}
use Rattle.std.proofs.Math.Bool.{or-false, or_assoc}
use Rattle.std.proofs.lemmas.List.Sums.{sum_by-cons}
use mathlib.Core.List.{[], ◌∷◌, ◌++◌, Memᴰ}
use Rattle.laws.specs.Lists.{any, tabulate, length-tabulate, tabulate-same, get_d_tabulate, get_d_member}
use Rattle.laws.specs.Ranks.{rank, rank_same, keep_at-length}
use Rattle.laws.specs.Spans.{set-tabulate}
use Rattle.limits.specs.Limits.{max_places}
use Rattle.bundles.specs.Layout.{WeightFields, CertificateFields, kind0, kind1, Contents, InLimits}
use Rattle.contents.specs.Certificates.{place, weights, piece_of, no_certificate, place-back, weights-back}
use Rattle.pruning.specs.Pruning.{names, named, pruned}
use Rattle.pruning.specs.PruneLaws.{named-there}

-- for each place whether it is named
unfoldable pub marks_of : List CertificateFields → List Bool
marks_of cs = tabulate max_places (named cs)

-- a place is marked
unfoldable pub marked : List Bool → ℕ → Bool
marked marks j = get_or marks j false

pub mark_is : (marks : List Bool) (j : ℕ) → marked marks j ≡ get_or marks j false
unfolding marked
mark_is marks j = refl

pub length-marks : (cs : List CertificateFields) → length (marks_of cs) ≡ max_places
unfolding marks_of
length-marks cs = length-tabulate max_places (named cs)

pub marks-none : marks_of [] ≡ replicate max_places false
unfolding marks_of named any tabulate
marks-none = refl

named_snoc : (cs : List CertificateFields) (c : CertificateFields) (j : ℕ) → named (cs ++ c ∷ []) j ≡ named cs j || names j c
unfolding named any
named_snoc [] c j = or-false (names j c)
named_snoc (d ∷ cs) c j = ap (λ (t : Bool). names j d || t) (named_snoc cs c j) ∙ sym (or_assoc (names j d) (named cs j) (names j c))

-- one certificate more: its place is marked, if it has one
marks-place : (cs : List CertificateFields) (j : ℕ) → set (marks_of cs) j true ≡ marks_of (cs ++ kind0 j ∷ [])
unfolding marks_of names
marks-place cs j = set-tabulate max_places (named cs) j true
    ∙ tabulate-same max_places (λ i. cond (eqb i j) true (named cs i)) (named (cs ++ kind0 j ∷ [])) (λ i h. go (named cs i) (eqb i j) ∙ sym (named_snoc cs (kind0 j) i))
  where
    go : (a b : Bool) → cond b true a ≡ a || b
    go true true = refl
    go true false = refl
    go false true = refl
    go false false = refl

marks-weights : (cs : List CertificateFields) (w : WeightFields) → marks_of cs ≡ marks_of (cs ++ kind1 w ∷ [])
unfolding marks_of names
marks-weights cs w = tabulate-same max_places (named cs) (named (cs ++ kind1 w ∷ [])) (λ i h. sym (named_snoc cs (kind1 w) i ∙ or-false (named cs i)))

-- a mark says that the place is named
pub marks-named : (cs : List CertificateFields) (j : ℕ) → j < max_places → marked (marks_of cs) j ≡ named cs j
unfolding marked marks_of
marks-named cs j h = get_d_tabulate max_places (named cs) j false h

-- the marks, one by one
pub mark-cut : (marks : List Bool) (k : ℕ) (mark : Bool) (behind : List Bool) → drop k marks ≡ mark ∷ behind → (marked marks k ≡ mark) × (behind ≡ drop (k + 1) marks)
unfolding marked
mark-cut marks k mark behind e =
    let at : k ≡ k + 0 = omega arith in (
      ap (λ (i : ℕ). get_or marks i false) at ∙ sym (get_or-drop k marks 0 false) ∙ ap (λ (l : List Bool). get_or l 0 false) e,
      sym (ap (drop 1) e) ∙ drop-drop 1 k marks,
    )

-- ---- while it walks

module _ (is_new : Bool) (cs : List CertificateFields) (k : ℕ) (more : k < length cs) where
  abbrev here : CertificateFields
  here = get_or cs k no_certificate

  longer : take (k + 1) cs ≡ take k cs ++ here ∷ []
  longer = rw (add-one k) (take-suc cs k no_certificate more)

  -- the place that the certificate names is marked
  pub walk_place : (j : ℕ) → place j ≡ piece_of is_new here → set (marks_of (take k cs)) j true ≡ marks_of (take (k + 1) cs)
  walk_place j e = rw (longer, place-back is_new here j e) (marks-place (take k cs) j)

  -- weights mark none
  pub walk_weights : (bytes : List ℕ) → weights bytes ≡ piece_of is_new here → marks_of (take k cs) ≡ marks_of (take (k + 1) cs)
  walk_weights bytes e = let w = weights-back is_new here bytes e in rw (longer, w.1) (marks-weights (take k cs) w.0)

-- a place that a certificate names is one of the first 64
pub place-below : (c : Contents) → InLimits c → (k : ℕ) → k < length c.certificates → (j : ℕ)
    → place j ≡ piece_of c.head.is_new (get_or c.certificates k no_certificate) → j < max_places
place-below c limits k more j e =
    let here = get_d_member c.certificates k no_certificate more in
    omega (arith, limits.head.places_size, named-there c limits j (subst (λ (x : CertificateFields). Memᴰ x c.certificates) (place-back c.head.is_new _ j e) here))

-- ---- how many places are kept

pub counted : (marks : List Bool) (n : ℕ) → n ≤ length marks → count_by (λ b. b) (take n marks) ≡ rank (marked marks) n
unfolding marked rank
counted marks zero h = refl
counted [] (suc n) h = absurd (omega arith)
counted (mark ∷ marks) (suc n) h = sum_by-cons (λ b. cond b 1 0) mark (take n marks) ∙ ap (λ (k : ℕ). cond mark 1 0 + k) (counted marks n (omega arith))

pub kept-count : (c : Contents) → InLimits c → rank (marked (marks_of c.certificates)) (length c.head.places) ≡ length (pruned c).head.places
unfolding pruned
kept-count c limits =
    rank_same (marked (marks_of c.certificates)) (named c.certificates) (length c.head.places)
    (λ i h. marks-named c.certificates i (omega (arith, limits.head.places_size)))
    ∙ sym (keep_at-length (named c.certificates) c.head.places)
