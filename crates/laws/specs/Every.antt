-- Every member of a list is so, each element behind those before it, or two lists element by element, as types; their laws.
use Rattle.std.specs.Prelude.{refl, ◌↔◌}
use Rattle.std.proofs.Common.{sym, subst}
use mathlib.Core.List.{List, [], ◌∷◌, ◌++◌, append-nil, Memᴰ}
use Rattle.std.proofs.Math.Seq.{append_snoc}

module _ {A : Type 0} where
  -- each member is so
  abbrev pub Every : (A → Type 0) → List A → Type 0
  Every P [] = Unit {0}
  Every P (x ∷ xs) = P x × Every P xs

  module _ (P : A → Type 0) where
    pub every_member : {x : A} (xs : List A) → Every P xs → Memᴰ x xs → P x
    every_member [] v x3 = elim x3 [ ]
    every_member (y ∷ xs) v (Memᴰ.head e) = subst P (sym e) v.0
    every_member (y ∷ xs) v (Memᴰ.tail m) = every_member xs v.1 m

    pub every_intro : (xs : List A) → ((x : A) → Memᴰ x xs → P x) → Every P xs
    every_intro [] h = tt
    every_intro (x ∷ xs) h = (h x (Memᴰ.head refl), every_intro xs (λ y m. h y (Memᴰ.tail m)))

    -- one member more
    pub every_last : (xs : List A) (x : A) → Every P xs → P x → Every P (xs ++ x ∷ [])
    every_last [] x v p = (p, tt)
    every_last (y ∷ xs) x v p = (v.0, every_last xs x v.1 p)

  -- ---- each element is so behind those before it

  -- where the elements of u stand before the list
  abbrev pub EachAfter : (List A → A → Type 0) → List A → List A → Type 0
  EachAfter P u [] = Unit {0}
  EachAfter P u (x ∷ l) = P u x × EachAfter P (u ++ x ∷ []) l

  abbrev pub Each : (List A → A → Type 0) → List A → Type 0
  Each P l = EachAfter P [] l

  module _ (P : List A → A → Type 0) where
    each_append : (l m u : List A) → EachAfter P u (l ++ m) ↔ (EachAfter P u l × EachAfter P (u ++ l) m)
    each_append [] m u =
        let same = append-nil u in
        ((λ h. (tt, subst (λ (v : List A). EachAfter P v m) (sym same) h)), λ h. subst (λ (v : List A). EachAfter P v m) same h.1)
    each_append (x ∷ l) m u =
        let r = each_append l m (u ++ x ∷ []) in
        let same = append_snoc u x l in (
          (λ h. let q = r.0 h.1 in ((h.0, q.0), subst (λ (v : List A). EachAfter P v m) same q.1)),
          λ h. (h.0.0, r.1 (h.0.1, subst (λ (v : List A). EachAfter P v m) (sym same) h.1)),
        )

    -- one element more
    pub each_snoc : (l : List A) (x : A) → Each P (l ++ x ∷ []) ↔ (Each P l × P l x)
    each_snoc l x = let r = each_append l (x ∷ []) [] in ((λ h. let q = r.0 h in (q.0, q.1.0)), λ h. r.1 (h.0, (h.1, tt)))

    pub each-shorter : (l m : List A) → Each P (l ++ m) → Each P l
    each-shorter l m h = ((each_append l m []).0 h).0

    -- of the lists of L, which has the beginnings of its lists: it is enough to look at the last element
    pub each_last : (L : List A → Type 0) → ((l m : List A) → L (l ++ m) → L l)
        → ((l : List A) → L l → Each P l) ↔ ((l : List A) (x : A) → L (l ++ x ∷ []) → P l x)
    each_last L shorter = ((λ h l x m. ((each_snoc l x).0 (h (l ++ x ∷ []) m)).1), λ h l m. go h l [] m)
      where
        go : ((l : List A) (x : A) → L (l ++ x ∷ []) → P l x) → (l u : List A) → L (u ++ l) → EachAfter P u l
        go h [] u m = tt
        go h (x ∷ l) u m = let m' = subst L (sym (append_snoc u x l)) m in (h u x (shorter (u ++ x ∷ []) l m'), go h l (u ++ x ∷ []) m')

    -- what holds of u, and is carried over each element, holds of the whole
    pub each_carries : (I : List A → Type 0) → ((u : List A) (x : A) → I u → P u x → I (u ++ x ∷ []))
        → (l u : List A) → I u → EachAfter P u l → I (u ++ l)
    each_carries I step [] u i h = subst I (sym (append-nil u)) i
    each_carries I step (x ∷ l) u i h = subst I (append_snoc u x l) (each_carries I step l (u ++ x ∷ []) (step u x i h.0) h.1)

  -- from one property to another, on the lists of such an L
  pub each_map : (P Q : List A → A → Type 0) (L : List A → Type 0) → ((l m : List A) → L (l ++ m) → L l)
      → ((l : List A) (x : A) → L (l ++ x ∷ []) → P l x → Q l x) → (l : List A) → L l → Each P l → Each Q l
  each_map P Q L shorter f l m h =
      let both = each_last Q (λ k. L k × Each P k) (λ k r q. (shorter k r q.0, each-shorter P k r q.1)) in
      both.1 (λ k x q. f k x q.0 ((each_snoc P k x).0 q.1).1) l (m, h)

-- ---- two lists element by element

module _ {A B : Type 0} where
  -- they have as many elements, and each of the first is so with that of the second at its place
  abbrev pub Pointwise : (A → B → Type 0) → List A → List B → Type 0
  Pointwise R [] [] = Unit {0}
  Pointwise R [] (y ∷ ys) = ⊥
  Pointwise R (x ∷ xs) [] = ⊥
  Pointwise R (x ∷ xs) (y ∷ ys) = R x y × Pointwise R xs ys
