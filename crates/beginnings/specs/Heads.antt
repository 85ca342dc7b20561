-- A head that is refused: with 6 where it ends, with 7 or 8 where it departs from every head within its limits (Beginnings.antt).
use Rattle.std.proofs.Math.Path.{◌≡◌, refl}
use Rattle.std.proofs.Common.{sym, ap, ◌∙◌, subst, ⊎_elim, zero-add, arith, eqb-true, take-append-drop, take-take}
use Rattle.std.specs.Prelude.{Bool, ◌↔◌, ◌⊎◌, ℕ, ◌+◌, ◌≤◌, eqb, length, take}
use Rattle.std.proofs.Math.Bool.{true, false}
use Rattle.std.proofs.lemmas.Bool.{false≢true}
use Rattle.std.proofs.Math.Logic.{inl, inr}
use mathlib.Core.List.{List, [], ◌∷◌, ◌++◌}
use Rattle.std.proofs.Math.ListN.{drop}
use Rattle.laws.specs.Booleans.{impossible, true_or_false, lt_or_le}
use Rattle.laws.specs.Lists.{any, among}
use Rattle.laws.specs.Numbers.{Bytes, bytes_take}
use Rattle.refusals.specs.Table.{bundle_end_number, rows_number}
use Rattle.refusals.specs.Results.{Result, value, refused, bind}
use Rattle.nets.specs.Nets.{Log, Entry, words, event_count}
use Rattle.bundles.specs.Reading.{Read, item, onward, and_then, give, require, each}
use Rattle.bundles.specs.Layout.{First, Head, HeadInLimits, head_bytes}
use Rattle.bundles.specs.Readers.{any_rows, entry_after, entry, first, head_after, head}
use Rattle.bundles.specs.ReadingLaws.{Law, law-same}
use Rattle.bundles.specs.LayoutLaws.{law-head}
use Rattle.bundles.specs.Limits.{head→limits, limits→head, got→front, front→got}
use Rattle.bundles.specs.Refusing.{reader_head}
use Rattle.bundles.specs.Bytes.{bytes-head}
use Rattle.beginnings.specs.Beginnings.{BeginsHead, InFront, HeadEnds, HeadDeparts}
use Rattle.beginnings.specs.Locals.{local_head}
use Rattle.beginnings.specs.Filling.{Filled}
use Rattle.beginnings.specs.Fillings.{fills_head}
use Rattle.beginnings.specs.HeadOffsets.{head-offset}
use Rattle.beginnings.specs.Stops.{begins-less, filled-item, filled-begins, ends_at, cut_at, departs-at}

-- the head's reader, without a limit on the rows, reads the heads within their limits
law-limits : (b : List ℕ) → Bytes b → Law b (head any_rows) head_bytes HeadInLimits
law-limits b bytes = law-same b (law-head b bytes any_rows) (λ h v. refl) (λ h v. (head→limits any_rows (λ n. tt) (λ n log more t. tt) h v).0)
    (λ h v. limits→head any_rows (λ n. tt) (λ n log more t. tt) h v tt)

-- ---- The limit on the rows comes into a head's refusals with 9 only

-- m' answers as m does, but where m is refused with 9
abbrev Unlimited : {A : Type 0} → Result A → Result A → Type 0
Unlimited m m' = (m' ≡ m) ⊎ ((spot : ℕ) × (m ≡ refused rows_number spot))

module _ {A B : Type 0} where
  unlimited_bind : (m m' : Result A) (f f' : A → Result B) → Unlimited m m' → ((x : A) → Unlimited (f x) (f' x)) → Unlimited (bind m f) (bind m' f')
  unfolding bind
  unlimited_bind (value x) m' f f' (inl e) rest = rw e (rest x)
  unlimited_bind (value x) m' f f' (inr (spot, e)) rest = impossible cc
  unlimited_bind (refused number at) m' f f' (inl e) rest = inl (rw e)
  unlimited_bind (refused number at) m' f f' (inr (spot, e)) rest = inr (spot, nine e)
    where
      nine : ◌≡◌ {A = Result A} (refused number at) (refused rows_number spot) → ◌≡◌ {A = Result B} (refused number at) (refused rows_number spot)
      nine e = let n : number ≡ rows_number = cc in let s : at ≡ spot = cc in rw (n, s)

module _ (rows_fit : ℕ → Log → Bool) (b : List ℕ) where
  unlimited_entry : (f : First) (before : List Entry) (at : ℕ)
      → Unlimited (entry (rows_fit f.events) f before b at) (entry (any_rows f.events) f before b at)
  unfolding entry bind onward require
  unlimited_entry f before at =
      let read = entry_after f (event_count (words before)) b at in
      unlimited_bind read read _ _ (inl refl) (elim [ item x next ↦ tested x next (rows_fit f.events (words (before ++ x ∷ []))) ])
    where
      tested : (x : Entry) (next : ℕ) (ok : Bool)
          → Unlimited (and_then (require ok rows_number at b next) (λ u. give x) b) (and_then (require true rows_number at b next) (λ u. give x) b)
      tested x next true = inl refl
      tested x next false = inr (at, refl)

  unlimited_each : (f : First) {S : Type 0} (ss : List S) (before : List Entry) (at : ℕ)
      → Unlimited (each (λ s. entry (rows_fit f.events) f) ss before b at) (each (λ s. entry (any_rows f.events) f) ss before b at)
  unfolding each onward
  unlimited_each f [] before at = inl refl
  unlimited_each f (s ∷ ss) before at = unlimited_bind _ _ _ _ (unlimited_entry f before at)
      (elim [ item x next ↦ unlimited_each f ss (before ++ x ∷ []) next ])

  unlimited_head : (at : ℕ) → Unlimited (head rows_fit b at) (head any_rows b at)
  unfolding head head_after onward
  unlimited_head at =
      unlimited_bind (first b at) (first b at) _ _ (inl refl)
      (elim [
        | item f next ↦ unlimited_bind _ _ _ _ (inl refl)
            (elim [
              | item count next ↦ unlimited_bind _ _ _ _ (unlimited_each f _ [] next)
                  (elim [ item entries next ↦ inl refl ])
            ])
      ])

  -- refused with another number, it is refused so without that limit
  pub refused_unlimited : (k spot : ℕ) → (k ≡ rows_number → ⊥) → head rows_fit b 0 ≡ refused k spot → head any_rows b 0 ≡ refused k spot
  refused_unlimited k spot other e = ⊎_elim (λ same. same ∙ e) (λ (at, nine). absurd (apart (sym e ∙ nine))) (unlimited_head 0)
    where
      apart : {at : ℕ} → ◌≡◌ {A = Read Head} (refused k spot) (refused rows_number at) → ⊥
      apart e = let same : k ≡ rows_number = cc in other same

-- ---- The head of a bundle

module _ (b : List ℕ) (bytes : Bytes b) (spot : ℕ) where
  begins : (l : List ℕ) → Bytes l → head any_rows l 0 ≡ refused bundle_end_number spot → BeginsHead l
  begins l bytes e = ⊎_elim (filled-begins local_head law-limits bytes-head [] l) (λ (end, never). absurd never)
      (fills_head.ends l bytes 0 spot (omega arith) e)

  pub head-ends : head any_rows b 0 ≡ refused bundle_end_number spot → HeadEnds b spot
  head-ends e = ⊎_elim ends (λ (end, never). absurd never) (fills_head.ends b bytes 0 spot (omega arith) e)
    where
      ends : Filled (head any_rows) b 0 → HeadEnds b spot
      ends s =
          let q = filled-item local_head law-limits bytes-head [] b s in
          let end = ends_at local_head law-limits bytes-head [] b spot (rw zero-add e) in
          record {
            beginning = record { whole = s.item; limits = q.0; rest = s.more; bytes = q.1 };
            offset = head-offset b s.more s.bytes s.item spot end (length (b ++ s.more)) s.read e;
          }

  pub head-departs : (k : ℕ) → (k ≡ bundle_end_number → ⊥) → head any_rows b 0 ≡ refused k spot → HeadDeparts b spot
  head-departs k other e =
      let e' : head any_rows b 0 ≡ refused k (0 + spot) = rw zero-add e in
      let d = departs-at local_head law-limits bytes-head [] b spot k other (λ i. omega arith) e' in
      let c = cut_at local_head law-limits bytes-head [] b spot k e' in
      record {
        there = omega (arith, d.1, d.2);
        before = begins (take spot b) (bytes_take spot b bytes) (rw zero-add at c.1);
        behind = subst (λ (n : ℕ). BeginsHead (take (spot + n) b) → ⊥) d.1 d.3;
      }

-- ---- Exactly when, without a limit on the rows

-- a beginning's own beginning is one
shorter : (k : ℕ) (l : List ℕ) → BeginsHead l → BeginsHead (take k l)
shorter k l s = begins-less (take k l) (drop k l) (subst BeginsHead (sym (take-append-drop k l)) s)

sooner : (b : List ℕ) (j k : ℕ) → j ≤ k → BeginsHead (take k b) → BeginsHead (take j b)
sooner b j k less s = subst BeginsHead (take-take j k b less) (shorter j (take k b) s)

-- a bundle departs at one offset only
one-offset : (b : List ℕ) (s t : ℕ) → HeadDeparts b s → HeadDeparts b t → s ≡ t
one-offset b s t d e = ⊎_elim
    (λ less. absurd (d.behind (sooner b (s + 1) t (omega (arith, less)) e.before)))
    (λ most. ⊎_elim
    (λ less. absurd (e.behind (sooner b (t + 1) s (omega (arith, less)) d.before)))
    (λ least. omega (arith, most, least))
    (lt_or_le t s))
    (lt_or_le s t)

-- the numbers of a head's refusals
three : (k : ℕ) → among k (6 ∷ 7 ∷ 8 ∷ []) ≡ true → (k ≡ 6) ⊎ ((k ≡ 7) ⊎ (k ≡ 8))
unfolding any
three k e = ⊎_elim
    (λ is. inl (eqb-true k 6 is))
    (λ not6. ⊎_elim
    (λ is. inr (inl (eqb-true k 7 is)))
    (λ not7. ⊎_elim
    (λ is. inr (inr (eqb-true k 8 is)))
    (λ not8. absurd (false≢true (sym (other not6 not7 not8) ∙ e)))
    (true_or_false (eqb k 8)))
    (true_or_false (eqb k 7)))
    (true_or_false (eqb k 6))
  where
    other : eqb k 6 ≡ false → eqb k 7 ≡ false → eqb k 8 ≡ false → among k (6 ∷ 7 ∷ 8 ∷ []) ≡ false
    other not6 not7 not8 = rw (not6, not7, not8)

module _ (b : List ℕ) (bytes : Bytes b) where
  not-front : (k spot : ℕ) → head any_rows b 0 ≡ refused k spot → InFront b → ⊥
  not-front k spot e (h, rest, f) = apart (sym e ∙ front→got any_rows (λ n. tt) (λ n log more t. tt) b bytes h rest f tt)
    where
      apart : {next : ℕ} → ◌≡◌ {A = Read Head} (refused k spot) (value (item h next)) → ⊥
      apart e = impossible cc

  -- a head is there, or it is refused with 6, 7 or 8
  stopped : (InFront b → ⊥) → (k : ℕ) × (spot : ℕ) × (head any_rows b 0 ≡ refused k spot) × ((k ≡ 6) ⊎ ((k ≡ 7) ⊎ (k ≡ 8)))
  unfolding any
  stopped none = go (head any_rows b 0) refl
    where
      go : (m : Read Head) → head any_rows b 0 ≡ m → (k : ℕ) × (spot : ℕ) × (head any_rows b 0 ≡ refused k spot) × ((k ≡ 6) ⊎ ((k ≡ 7) ⊎ (k ≡ 8)))
      go (value (item h next)) e = absurd (none (h, drop next b, (got→front any_rows (λ n. tt) (λ n log more t. tt) b bytes h next e).0))
      go (refused k spot) e =
          let refuses = reader_head {numbers = 6 ∷ 7 ∷ 8 ∷ []} refl refl refl any_rows (λ n log. inl refl) in
          (k, spot, e, three k ((refuses.only b 0).only k spot e))

  -- 6: the bundle is a beginning of some head, and no whole one
  pub head_6 : ((spot : ℕ) × (head any_rows b 0 ≡ refused 6 spot)) ↔ (BeginsHead b × (InFront b → ⊥))
  head_6 = ((λ (spot, e). ((head-ends b bytes spot e).beginning, not-front 6 spot e)), (λ (s, none). go s (stopped none)))
    where
      go : BeginsHead b → (k : ℕ) × (spot : ℕ) × (head any_rows b 0 ≡ refused k spot) × ((k ≡ 6) ⊎ ((k ≡ 7) ⊎ (k ≡ 8)))
          → (spot : ℕ) × (head any_rows b 0 ≡ refused 6 spot)
      go s (k, spot, e, which) = ⊎_elim
          (λ six. (spot, e ∙ ap (λ (n : ℕ). refused n spot) six))
          (λ other. let apart = ⊎_elim (λ is six. omega (arith, is, six)) (λ is six. omega (arith, is, six)) other in
          absurd ((head-departs b bytes spot k apart e).behind (shorter (spot + 1) b s)))
          which

  -- 7 or 8 at an offset: there it departs from every head, and has no whole one in front
  pub head_7_8 : (spot : ℕ) → ((head any_rows b 0 ≡ refused 7 spot) ⊎ (head any_rows b 0 ≡ refused 8 spot)) ↔ (HeadDeparts b spot × (InFront b → ⊥))
  head_7_8 spot = (
    ⊎_elim (λ e. (head-departs b bytes spot 7 (λ e. omega (arith, e)) e, not-front 7 spot e))
        (λ e. (head-departs b bytes spot 8 (λ e. omega (arith, e)) e, not-front 8 spot e)),
    (λ (d, none). go d (stopped none)),
  )
    where
      at : (k s : ℕ) → HeadDeparts b spot → (k ≡ 6 → ⊥) → head any_rows b 0 ≡ refused k s → head any_rows b 0 ≡ refused k spot
      at k s d other e = e ∙ ap (refused k) (one-offset b s spot (head-departs b bytes s k other e) d)

      go : HeadDeparts b spot → (k : ℕ) × (s : ℕ) × (head any_rows b 0 ≡ refused k s) × ((k ≡ 6) ⊎ ((k ≡ 7) ⊎ (k ≡ 8)))
          → (head any_rows b 0 ≡ refused 7 spot) ⊎ (head any_rows b 0 ≡ refused 8 spot)
      go d (k, s, e, which) = ⊎_elim
          (λ six. absurd (d.behind (shorter (spot + 1) b (head-ends b bytes s (e ∙ ap (λ (n : ℕ). refused n s) six)).beginning)))
          (⊎_elim
          (λ is. inl (at k s d (λ six. omega (arith, is, six)) e ∙ ap (λ (n : ℕ). refused n spot) is))
          (λ is. inr (at k s d (λ six. omega (arith, is, six)) e ∙ ap (λ (n : ℕ). refused n spot) is)))
          which
