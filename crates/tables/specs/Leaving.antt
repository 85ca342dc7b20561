-- What taking a word does to any rows: which counts are appended, and which bits are set.
use Rattle.std.specs.Prelude.{◌≡◌, not, ◌↔◌, ◌⊎◌, T, eqb, length, get_or}
use Rattle.std.proofs.Math.Path.{refl}
use Rattle.std.proofs.Common.{sym, ap, ap₂, ◌∙◌, subst, inl, inr, ⊎_elim, not-suc-le-zero, le_of_suc-le-suc, arith, eqb→eq, eq-eqb, lt-ltb, le-ltb}
use mathlib.Core.List.Memᴰ
use mathlib.Core.List.{List, [], ◌∷◌, ◌++◌, append-nil, append_assoc, cons≢nil, Memᴰ}
use Prim.Native.Nat.{ℕ, zero, suc, ◌<◌}
use Rattle.std.proofs.Math.Nat.{suc_inj}
use Rattle.std.proofs.Math.Seq.{append_snoc}
use Rattle.laws.specs.Booleans.{same_test, or_yes, yes_or_left, yes_or_right, lt_or_le}
use Rattle.laws.specs.Lists.{keep, map-append, keep-member, member, member→, →member}
use Rattle.laws.specs.Keeping.{keep_append, keep_same}
use Rattle.laws.specs.Bits.{bit, with_bit, with_bit-bit}
use Rattle.limits.specs.Limits.{max_events}
use Rattle.nets.specs.Nets.{Word, Counts, counts, beginnings}
use Rattle.nets.specs.Words.{Begins}
use Rattle.nets.specs.Fits.{Below}
use Rattle.nets.specs.CountLaws.{counts_snoc, counts-longer}
use Rattle.rows.specs.Rows.{Row, find_row, new_row, present, passed_once, visit, marked, update_at, follow, add_event, take_word}
use Rattle.rows.specs.Visiting.{counts_of, found-member, find_more, present-found, present-new, counts-visit, visit_finds, counts-follow}
use Rattle.logs.specs.LogRows.{after, after-end, after_next}

-- ---- The counts that are appended

-- those of vs that no row has, in order
unfoldable pub missing : List Row → List Counts → List Counts
missing rs vs = keep (λ v. not (member v (counts_of rs))) vs

visit-counts : (v : Counts) (rs : List Row) → counts_of (visit v rs) ≡ counts_of rs ++ missing rs (v ∷ [])
unfolding missing keep counts_of
visit-counts v rs = counts-visit v rs ∙ ⊎_elim
    (λ h. rw (present-found v rs h, sym (found-member v rs) ∙ lt-ltb _ _ h, append-nil))
    (λ h. rw (present-new v rs h, sym (found-member v rs) ∙ le-ltb _ _ h) (map-append (λ (r : Row). r.counts) rs (new_row v ∷ [])))
    (lt_or_le (find_row v rs) (length rs))

-- a row that is appended is not one of the later prefixes'
missing-same : (u : Word) (e : ℕ) (x : Word) (rs qs : List Row) → e < max_events → counts_of qs ≡ counts_of rs ++ missing rs (counts max_events u ∷ [])
    → missing qs (after (u ++ e ∷ []) x) ≡ missing rs (after (u ++ e ∷ []) x)
unfolding missing after
missing-same u e x rs qs h is = keep_same _ _ (after (u ++ e ∷ []) x)
    (λ v m. ap not (same v (Memᴰ.of_map (λ (b : Word). counts max_events ((u ++ e ∷ []) ++ b)) (beginnings x) m)))
  where
    same : (v : Counts) → (b : Word) × Memᴰ b (beginnings x) × (counts max_events ((u ++ e ∷ []) ++ b) ≡ v)
        → member v (counts_of qs) ≡ member v (counts_of rs)
    same v (b, _, q) = same_test _ _
        (λ t. →member v (counts_of rs) (⊎_elim (λ k. k)
        (λ k. absurd (counts-longer max_events u e b h (ap (counts max_events) (sym (append_snoc u e b)) ∙ q
        ∙ Memᴰ.eq_of_singleton (keep-member _ (counts max_events u ∷ []) k).0)))
        (Memᴰ.append_cases (counts_of rs) (rw is at (member→ v (counts_of qs) t)))))
        (λ t. →member v (counts_of qs) (rw is (Memᴰ.append_left (missing rs (counts max_events u ∷ [])) (member→ v (counts_of rs) t))))

-- the old rows keep their counts, and those of the prefixes that no row has are appended in order
pub take-counts : (x u : Word) (rs : List Row) → Below max_events x
    → counts_of (take_word rs (counts max_events u) x) ≡ counts_of rs ++ missing rs (after u x)
unfolding take_word add_event missing
take-counts [] u rs below = visit-counts (counts max_events u) rs ∙ rw (after-end u)
take-counts (e ∷ x) u rs below =
    let h : e < max_events = below e (Memᴰ.head refl) in
    let v : Counts = counts max_events u in
    let rs₁ : List Row = follow v e (visit v rs) in
    let first : counts_of rs₁ ≡ counts_of rs ++ missing rs (v ∷ []) = counts-follow v e (visit v rs) ∙ visit-counts v rs in
    ap (λ (c : Counts). counts_of (take_word rs₁ c x)) (sym (counts_snoc max_events u e h))
    ∙ take-counts x (u ++ e ∷ []) rs₁ (λ a k. below a (Memᴰ.tail k))
    ∙ ap₂ ◌++◌ first (missing-same u e x rs rs₁ h first)
    ∙ append_assoc (counts_of rs) (missing rs (v ∷ [])) (missing rs (after (u ++ e ∷ []) x))
    ∙ ap (λ (l : List Counts). counts_of rs ++ l) (sym (rw (after_next u e x) (keep_append _ (v ∷ []) (after (u ++ e ∷ []) x))))

-- the row of a prefix stays the lowest with its counts
pub found_after : (u : Word) (e : ℕ) (x : Word) (rs : List Row) → Below max_events x → let v = counts max_events u in
    find_row v (take_word (follow v e (visit v rs)) (counts max_events (u ++ e ∷ [])) x) ≡ find_row v (visit v rs)
found_after u e x rs below =
    let v : Counts = counts max_events u in
    let rs₁ : List Row = follow v e (visit v rs) in
    find_more v (visit v rs) (take_word rs₁ (counts max_events (u ++ e ∷ [])) x) (missing rs₁ (after (u ++ e ∷ []) x))
    (take-counts x (u ++ e ∷ []) rs₁ below ∙ ap (λ (l : List Counts). l ++ missing rs₁ (after (u ++ e ∷ []) x)) (counts-follow v e (visit v rs)))
    (visit_finds v rs)

-- ---- A number of each row: its mask, or its traffic

module _ (number : Row → ℕ) where
  -- that of row r; where there is none, that of a new row
  unfoldable pub on_row : List Row → ℕ → ℕ
  on_row rs r = number (get_or rs r (new_row []))

  module _ (v : Counts) (new : number (new_row v) ≡ number (new_row [])) where
    append-on : (rs : List Row) (r : ℕ) → on_row (rs ++ new_row v ∷ []) r ≡ on_row rs r
    unfolding on_row
    append-on [] zero = new
    append-on [] (suc r) = refl
    append-on (x ∷ rs) zero = refl
    append-on (x ∷ rs) (suc r) = append-on rs r

    -- a row is appended with the number of a new one
    pub present-on : (rs : List Row) (r : ℕ) → on_row (present v rs) r ≡ on_row rs r
    present-on rs r = ⊎_elim
        (λ h. rw (present-found v rs h))
        (λ h. rw (present-new v rs h) (append-on rs r))
        (lt_or_le (find_row v rs) (length rs))

  -- a row is changed, and its number not
  pub update_on : (f : Row → Row) → ((x : Row) → number (f x) ≡ number x) → (rs : List Row) (k r : ℕ) → on_row (update_at k f rs) r ≡ on_row rs r
  unfolding on_row update_at
  update_on f keeps [] k r = refl
  update_on f keeps (x ∷ rs) zero zero = keeps x
  update_on f keeps (x ∷ rs) zero (suc r) = refl
  update_on f keeps (x ∷ rs) (suc k) zero = refl
  update_on f keeps (x ∷ rs) (suc k) (suc r) = update_on f keeps rs k r

-- ---- The bits that are set

-- the mask of row r, 0 where there is none
abbrev pub mask_on : List Row → ℕ → ℕ
mask_on = on_row (λ x. x.mask)

visit-mask : (v : Counts) (rs : List Row) (r : ℕ) → mask_on (visit v rs) r ≡ mask_on rs r
unfolding visit
visit-mask v rs r = update_on (λ x. x.mask) passed_once (λ x. refl) (present v rs) (find_row v rs) r ∙ present-on (λ x. x.mask) v refl rs r

-- bit f of a mask, with bit e set
set-bit : (m e f : ℕ) → T (bit (with_bit m e) f) ↔ (T (bit m f) ⊎ (f ≡ e))
set-bit m e f = (
  (λ t. ⊎_elim (λ k. inr (eqb→eq f e k)) (λ k. inl k) (or_yes (eqb f e) (bit m f) (subst T (with_bit-bit m e f) t))),
  (λ h. subst T (sym (with_bit-bit m e f)) (⊎_elim (λ k. yes_or_right (eqb f e) (bit m f) k)
      (λ q. yes_or_left (eqb f e) (bit m f) (subst T (sym (eq-eqb f e q)) tt)) h)),
)

-- bit e is set in row k alone
marked-bits : (rs : List Row) (k e r f : ℕ) → k < length rs
    → T (bit (mask_on (update_at k (marked e) rs) r) f) ↔ (T (bit (mask_on rs r) f) ⊎ ((k ≡ r) × (f ≡ e)))
unfolding update_at on_row
marked-bits [] k e r f h = absurd (not-suc-le-zero h)
marked-bits (x ∷ rs) zero e zero f h =
    let law = set-bit x.mask e f in
    ((λ t. ⊎_elim (λ k. inl k) (λ q. inr (refl, q)) (law.0 t)), (λ t. law.1 (⊎_elim (λ k. inl k) (λ q. inr q.1) t)))
marked-bits (x ∷ rs) zero e (suc r) f h = ((λ t. inl t), (λ t. ⊎_elim (λ k. k) (λ q. absurd (omega (arith, q.0))) t))
marked-bits (x ∷ rs) (suc k) e zero f h = ((λ t. inl t), (λ t. ⊎_elim (λ k. k) (λ q. absurd (omega (arith, q.0))) t))
marked-bits (x ∷ rs) (suc k) e (suc r) f h =
    let law = marked-bits rs k e r f (le_of_suc-le-suc h) in
    ((λ t. ⊎_elim (λ y. inl y) (λ q. inr (ap suc q.0, q.1)) (law.0 t)), (λ t. law.1 (⊎_elim (λ y. inl y) (λ q. inr (suc_inj q.0, q.1)) t)))

-- the event f follows a prefix of x, behind u, whose counts are found in row r
abbrev pub Follows : Word → Word → List Row → ℕ → ℕ → Type 0
Follows u x rs r f = (b : Word) × Begins (b ++ f ∷ []) x × (find_row (counts max_events (u ++ b)) rs ≡ r)

nothing_follows : (b : Word) (f : ℕ) → Begins (b ++ f ∷ []) [] → ⊥
nothing_follows [] f b = cons≢nil b.1
nothing_follows (a ∷ y) f b = cons≢nil b.1

-- a mask gains exactly the bits of the events that follow the prefixes of its row
pub take-bits : (x u : Word) (rs : List Row) → Below max_events x → (r f : ℕ) → let rs' = take_word rs (counts max_events u) x in
    T (bit (mask_on rs' r) f) ↔ (T (bit (mask_on rs r) f) ⊎ Follows u x rs' r f)
unfolding take_word add_event follow
take-bits [] u rs below r f = (
  (λ t. inl (subst (λ (m : ℕ). T (bit m f)) (visit-mask (counts max_events u) rs r) t)),
  ⊎_elim (λ t. subst (λ (m : ℕ). T (bit m f)) (sym (visit-mask (counts max_events u) rs r)) t) (λ q. absurd (nothing_follows q.0 f q.1)),
)
take-bits (e ∷ x) u rs below r f =
    subst (λ (c : Counts). let rs' = take_word rs₁ c x in T (bit (mask_on rs' r) f) ↔ (T (bit (mask_on rs r) f) ⊎ Follows u (e ∷ x) rs' r f))
    (counts_snoc max_events u e (below e (Memᴰ.head refl)))
    (go (take-bits x u' rs₁ later r f))
  where
    v : Counts
    v = counts max_events u

    u' : Word
    u' = u ++ e ∷ []

    rs₁ : List Row
    rs₁ = follow v e (visit v rs)

    rs' : List Row
    rs' = take_word rs₁ (counts max_events u') x

    later : Below max_events x
    later a k = below a (Memᴰ.tail k)

    here : T (bit (mask_on rs₁ r) f) ↔ (T (bit (mask_on (visit v rs) r) f) ⊎ ((find_row v (visit v rs) ≡ r) × (f ≡ e)))
    here = marked-bits (visit v rs) (find_row v (visit v rs)) e r f (visit_finds v rs)

    found : find_row v rs' ≡ find_row v (visit v rs)
    found = found_after u e x rs later

    old : T (bit (mask_on (visit v rs) r) f) ↔ T (bit (mask_on rs r) f)
    old = let same = visit-mask v rs r in (subst (λ (m : ℕ). T (bit m f)) same, subst (λ (m : ℕ). T (bit m f)) (sym same))

    first : (find_row v (visit v rs) ≡ r) × (f ≡ e) → Follows u (e ∷ x) rs' r f
    first (at, q) = ([], (x, ap (λ (a : ℕ). a ∷ x) q), ap (λ (y : Word). find_row (counts max_events y) rs') (append-nil u) ∙ found ∙ at)

    next : Follows u' x rs' r f → Follows u (e ∷ x) rs' r f
    next (b, (s, q), at) = (
      e ∷ b,
      (s, ap (λ (y : Word). e ∷ y) q),
      ap (λ (y : Word). find_row (counts max_events y) rs') (sym (append_snoc u e b))
          ∙ at,
    )

    back : (b s : Word) → (b ++ f ∷ []) ++ s ≡ e ∷ x → find_row (counts max_events (u ++ b)) rs' ≡ r → ((find_row v (visit v rs) ≡ r) × (f ≡ e))
        ⊎ Follows u' x rs' r f
    back [] s q at = let same : f ≡ e = cc in inl (sym found ∙ ap (λ (y : Word). find_row (counts max_events y) rs') (sym (append-nil u)) ∙ at, same)
    back (a ∷ b) s q at =
        let same : a ≡ e = cc in
        let rest : (b ++ f ∷ []) ++ s ≡ x = cc in
        inr (b, (s, rest), ap (λ (y : Word). find_row (counts max_events y) rs') (append_snoc u e b ∙ ap (λ (c : ℕ). u ++ c ∷ b) (sym same)) ∙ at)

    go : T (bit (mask_on rs' r) f) ↔ (T (bit (mask_on rs₁ r) f) ⊎ Follows u' x rs' r f) → T (bit (mask_on rs' r) f)
        ↔ (T (bit (mask_on rs r) f) ⊎ Follows u (e ∷ x) rs' r f)
    go rest = (
      (λ t. ⊎_elim (λ k. ⊎_elim (λ y. inl (old.0 y)) (λ q. inr (first q)) (here.0 k)) (λ q. inr (next q)) (rest.0 t)),
      (λ t. rest.1 (⊎_elim (λ y. inl (here.1 (inl (old.1 y))))
          (λ q. ⊎_elim (λ k. inl (here.1 (inr k))) (λ k. inr k) (back q.0 q.1.0 q.1.1 q.2)) t)),
    )
