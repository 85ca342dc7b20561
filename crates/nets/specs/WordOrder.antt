-- Which of two words comes first, and the laws of that order.
use Rattle.std.specs.Prelude.{◌≡◌, refl, ◌⊎◌, ℕ, ◌<◌, length}
use Rattle.std.proofs.Common.{sym, ap, ap₂, ◌∙◌, subst, arith, inl, inr, ⊎_elim}
use mathlib.Core.List.{[], ◌∷◌, ◌++◌}
use Rattle.laws.specs.Booleans.{lt_or_le}
use Rattle.nets.specs.Nets.{Word}

-- w comes before x by event numbers: the first place where they differ decides
pub record Earlier (w x : Word) : Type 0 where
  pub same : Word
  pub event : ℕ
  pub other : ℕ
  pub rest : Word
  pub other_rest : Word
  pub first : w ≡ same ++ event ∷ rest
  pub second : x ≡ same ++ other ∷ other_rest
  pub less : event < other

-- the shorter one, and of two as long the earlier one
abbrev pub Precedes : Word → Word → Type 0
Precedes w x = (length w < length x) ⊎ ((length w ≡ length x) × Earlier w x)

-- ---- Two words that begin with the same event, and with different ones

pub earlier_cons : (e : ℕ) {w x : Word} → Earlier w x → Earlier (e ∷ w) (e ∷ x)
earlier_cons e h = record {
  same = e ∷ h.same;
  event = h.event;
  other = h.other;
  rest = h.rest;
  other_rest = h.other_rest;
  first = ap (λ (l : Word). e ∷ l) h.first;
  second = ap (λ (l : Word). e ∷ l) h.second;
  less = h.less;
}

pub earlier-first : (e i : ℕ) (w x : Word) → e < i → Earlier (e ∷ w) (i ∷ x)
earlier-first e i w x less =
    record { same = []; event = e; other = i; rest = w; other_rest = x; first = refl; second = refl; less = less }

-- ---- Of two words not each comes before the other; and one does where they are as long and not the same

pub earlier-asymmetric : (w x : Word) → Earlier w x → Earlier x w → ⊥
earlier-asymmetric w x h k = go h.same k.same (sym h.first ∙ k.second) (sym h.second ∙ k.first)
  where
    go : (u v : Word) → u ++ h.event ∷ h.rest ≡ v ++ k.other ∷ k.other_rest
        → u ++ h.other ∷ h.other_rest ≡ v ++ k.event ∷ k.rest → ⊥
    go [] [] p q =
        let one : h.event ≡ k.other = cc in
        let two : h.other ≡ k.event = cc in
        absurd (omega (arith, one, two, h.less, k.less))
    go [] (b ∷ v) p q =
        let one : h.event ≡ b = cc in
        let two : h.other ≡ b = cc in
        absurd (omega (arith, one, two, h.less))
    go (a ∷ u) [] p q =
        let one : a ≡ k.other = cc in
        let two : a ≡ k.event = cc in
        absurd (omega (arith, one, two, k.less))
    go (a ∷ u) (b ∷ v) p q =
        let one : u ++ h.event ∷ h.rest ≡ v ++ k.other ∷ k.other_rest = cc in
        let two : u ++ h.other ∷ h.other_rest ≡ v ++ k.event ∷ k.rest = cc in
        go u v one two

pub earlier-irreflexive : (w : Word) → Earlier w w → ⊥
earlier-irreflexive w h = earlier-asymmetric w w h h

pub earlier-total : (w x : Word) → length w ≡ length x → (w ≡ x) ⊎ (Earlier w x ⊎ Earlier x w)
earlier-total [] [] size = inl refl
earlier-total [] (b ∷ x) size = absurd (omega (arith, size))
earlier-total (a ∷ w) [] size = absurd (omega (arith, size))
earlier-total (a ∷ w) (b ∷ x) size = ⊎_elim
    (λ less. inr (inl (earlier-first a b w x less)))
    (λ most. ⊎_elim
    (λ greater. inr (inr (earlier-first b a x w greater)))
    (λ least. let same : a ≡ b = omega (arith, most, least) in behind same (earlier-total w x (omega (arith, size))))
    (lt_or_le b a))
    (lt_or_le a b)
  where
    behind : a ≡ b → (w ≡ x) ⊎ (Earlier w x ⊎ Earlier x w) → (a ∷ w ≡ b ∷ x) ⊎ (Earlier (a ∷ w) (b ∷ x) ⊎ Earlier (b ∷ x) (a ∷ w))
    behind same r = ⊎_elim
        (λ e. inl (ap₂ ◌∷◌ same e))
        (λ o. ⊎_elim
        (λ h. inr (inl (subst (λ (c : ℕ). Earlier (a ∷ w) (c ∷ x)) same (earlier_cons a h))))
        (λ h. inr (inr (subst (λ (c : ℕ). Earlier (c ∷ x) (a ∷ w)) same (earlier_cons a h))))
        o)
        r
