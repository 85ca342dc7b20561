-- Exactly when a reader refuses: a field, a test, one reader behind another, an item for each of a list.
use Rattle.std.specs.Prelude.{◌≡◌, Bool, cond, ◌↔◌, ◌⊎◌, leb, ltb, length, get_or}
use Rattle.std.proofs.Math.Path.{refl, sym}
use Rattle.std.proofs.Common.{ap, ◌∙◌, subst, inl, inr, arith, leb-true, leb-false, le-leb}
use Rattle.std.proofs.Math.Bool.{true, false}
use Rattle.std.proofs.lemmas.Bool.{false≢true, lt-leb}
use Rattle.std.proofs.Math.Logic.{⊎_elim}
use mathlib.Core.List.{List, [], ◌∷◌, ◌++◌}
use Prim.Native.Nat.{ℕ, ◌+◌, ◌≤◌, ◌<◌}
use Rattle.laws.specs.Booleans.{impossible}
use Rattle.laws.specs.Lists.{any}
use Rattle.limits.specs.Limits.{max_log_events}
use Rattle.refusals.specs.Table.{bundle_end_number, value_number, events_number, rows_number}
use Rattle.refusals.specs.Results.{value, refused, bind}
use Rattle.refusals.specs.Results as results
use Rattle.refusals.specs.Exactly.{exactly-here}
use Rattle.nets.specs.Nets.{Log, Entry, words, event_count}
use Rattle.bundles.specs.Reading.{Read, got, item, Reader, onward, and_then, ◌>>◌, give, require, field, byte, each}
use Rattle.bundles.specs.Layout.{First}
use Rattle.bundles.specs.Readers.{anything, marked_after, entry_after, entry}
use Rattle.bundles.specs.Refusing.{ReaderRefuses, reader_byte, reader_times, reader_give, reader_then, reader-mark, reader-entry_after}
use Rattle.bundles.specs.ReadingLaws.{and_then-got, field-got}

-- the first reader refuses, or the second does behind it
pub and_then-refused : {A B : Type 0} (b : List ℕ) (m : Read A) (f : A → Reader B) (number spot : ℕ)
    → (and_then m f b ≡ refused number spot) ↔ ((m ≡ refused number spot)
    ⊎ ((x : A) × (mid : ℕ) × (m ≡ got x mid) × (f x b mid ≡ refused number spot)))
unfolding bind onward
and_then-refused b (value (item x mid)) f number spot = (
  (λ e. inr (x, mid, refl, e)),
  ⊎_elim (λ e. impossible cc) (λ (y, k, e, r). let same : x ≡ y = cc in let end : mid ≡ k = cc in rw (same, end) r),
)
and_then-refused {A} {B} b (refused n s) f number spot = (
  (λ e. inl (same e)),
  ⊎_elim (λ e. same' e) (λ (y, k, e, r). impossible cc),
)
  where
    same : ◌≡◌ {A = Read B} (refused n s) (refused number spot) → ◌≡◌ {A = Read A} (refused n s) (refused number spot)
    same e = let n' : n ≡ number = cc in let s' : s ≡ spot = cc in rw (n', s')

    same' : ◌≡◌ {A = Read A} (refused n s) (refused number spot) → ◌≡◌ {A = Read B} (refused n s) (refused number spot)
    same' e = let n' : n ≡ number = cc in let s' : s ≡ spot = cc in rw (n', s')

-- a test before a reader is one before what it reads
pub require-chain : {A : Type 0} (ok : Bool) (number spot : ℕ) (r : Reader A) (b : List ℕ) (at : ℕ)
    → (require ok number spot >> r) b at ≡ bind (results.require ok number spot) (λ u. r b at)
unfolding require results.require bind onward
require-chain true number spot r b at = refl
require-chain false number spot r b at = refl

-- a field: 6 where it is not there whole, 7 where its value is outside its range, at its offset
pub field-refused : (size x : ℕ) (in_range : ℕ → Bool) (b : List ℕ) (at number spot : ℕ)
    → (field size x in_range b at ≡ refused number spot)
    ↔ ((spot ≡ at)
    × (((number ≡ bundle_end_number) × (length b < at + size)) ⊎ ((number ≡ value_number) × (at + size ≤ length b) × (in_range x ≡ false))))
unfolding field
field-refused size x in_range b at number spot = (to (leb (at + size) (length b)) refl (in_range x) refl, from)
  where
    Cause : Type 0
    Cause = (spot ≡ at)
        × (((number ≡ bundle_end_number) × (length b < at + size)) ⊎ ((number ≡ value_number) × (at + size ≤ length b) × (in_range x ≡ false)))

    to : (p : Bool) → leb (at + size) (length b) ≡ p → (q : Bool) → in_range x ≡ q
        → cond p (cond q (got x (at + size)) (refused value_number at)) (refused bundle_end_number at) ≡ refused number spot → Cause
    to true p true q e = impossible cc
    to true p false q e = let n : value_number ≡ number = cc in let s : at ≡ spot = cc in (sym s, inr (sym n, leb-true (at + size) (length b) p, q))
    to false p q r e = let n : bundle_end_number ≡ number = cc in let s : at ≡ spot = cc in (sym s, inl (sym n, leb-false (at + size) (length b) p))

    from : Cause → cond (leb (at + size) (length b)) (cond (in_range x) (got x (at + size)) (refused value_number at))
        (refused bundle_end_number at) ≡ refused number spot
    from (s, cause) = ⊎_elim
        (λ (n, short). rw (s, n, lt-leb (at + size) (length b) short))
        (λ (n, there, bad). rw (s, n, le-leb (at + size) (length b) there, bad))
        cause

-- an item for each s of a list: those of `first` are read, and then the next one refuses
module _ {S A : Type 0} (r : S → List A → Reader A) (b : List ℕ) (number spot : ℕ) where
  pub record EachStops (ss : List S) (before : List A) (at : ℕ) : Type 0 where
    pub first : List S
    pub this : S
    pub more : List S
    pub split : ss ≡ first ++ this ∷ more
    pub items : List A
    pub mid : ℕ
    pub read : each r first before b at ≡ got items mid
    pub stops : r this items b mid ≡ refused number spot

  each→ : (ss : List S) (before : List A) (at : ℕ) → each r ss before b at ≡ refused number spot → EachStops ss before at
  unfolding each bind onward
  each→ [] before at e = impossible cc
  each→ (s ∷ ss) before at e =
      ⊎_elim here (λ (x, mid, q, rest). later x mid q (each→ ss (before ++ x ∷ []) mid rest))
      ((and_then-refused b (r s before b at) (λ x. each r ss (before ++ x ∷ [])) number spot).0 e)
    where
      here : r s before b at ≡ refused number spot → EachStops (s ∷ ss) before at
      here q = record { first = []; this = s; more = ss; split = refl; items = before; mid = at; read = refl; stops = q }

      later : (x : A) (mid : ℕ) → r s before b at ≡ got x mid → EachStops ss (before ++ x ∷ []) mid → EachStops (s ∷ ss) before at
      later x mid q w = record {
        first = s ∷ w.first;
        this = w.this;
        more = w.more;
        split = ap (λ (l : List S). s ∷ l) w.split;
        items = w.items;
        mid = w.mid;
        read = rw q w.read;
        stops = w.stops;
      }

  →each : (first : List S) (this : S) (more : List S) (before : List A) (at : ℕ) (items : List A) (mid : ℕ)
      → each r first before b at ≡ got items mid → r this items b mid ≡ refused number spot
      → each r (first ++ this ∷ more) before b at ≡ refused number spot
  unfolding each bind onward
  →each [] this more before at items mid e q =
      let same : before ≡ items = cc in
      let end : at ≡ mid = cc in
      (and_then-refused b (r this before b at) (λ x. each r more (before ++ x ∷ [])) number spot).1 (inl (rw (same, end) q))
  →each (s ∷ first) this more before at items mid e q =
      let m = and_then-got b (r s before b at) (λ x. each r first (before ++ x ∷ [])) items mid e in
      rw m.2 (→each first this more (before ++ m.0 ∷ []) m.1 items mid m.3 q)

  pub each-refused : (ss : List S) (before : List A) (at : ℕ) → (each r ss before b at ≡ refused number spot) ↔ EachStops ss before at
  each-refused ss before at = (
    each→ ss before at,
    (λ w. rw w.split
        (→each w.first w.this w.more before at w.items w.mid w.read w.stops)),
  )

-- ---- An entry, behind those before: 8 and 9, at the offset of its length byte

module _ (f : First) (b : List ℕ) (at : ℕ) where
  -- 8: its events would pass 1,024
  entry_after-8 : (count spot : ℕ) → (entry_after f count b at ≡ refused events_number spot)
      ↔ ((spot ≡ at) × (at + 1 ≤ length b) × (max_log_events < count + get_or b at 0))
  unfolding entry_after byte field bind onward any
  entry_after-8 count spot = (to, from)
    where
      rest : ℕ → Reader Entry
      rest size = require (leb (count + size) max_log_events) events_number at >> marked_after f size

      only : (size : ℕ) → ReaderRefuses (bundle_end_number ∷ value_number ∷ []) (marked_after f size)
      only size = reader_then (reader-mark refl refl f.is_new)
          (λ m. reader_then (reader_times size (reader_byte refl refl (λ e. ltb e f.events))) (λ w. reader_give _))

      tested : (size next : ℕ) → (rest size b next ≡ refused events_number spot) ↔ ((spot ≡ at) × (leb (count + size) max_log_events ≡ false))
      tested size next =
          let chain = require-chain (leb (count + size) max_log_events) events_number at (marked_after f size) b next in
          let line = (exactly-here (leb (count + size) max_log_events) events_number at
          (marked_after f size b next) {numbers = bundle_end_number ∷ value_number ∷ []} ((only size).only b next) refl).line spot in
          ((λ e. line.0 (sym chain ∙ e)), (λ c. chain ∙ line.1 c))

      to : entry_after f count b at ≡ refused events_number spot → (spot ≡ at) × (at + 1 ≤ length b) × (max_log_events < count + get_or b at 0)
      to e = ⊎_elim
          (λ q. ⊎_elim (λ (six, _). absurd (omega (arith, six))) (λ (seven, _, _). absurd (omega (arith, seven)))
          ((field-refused 1 (get_or b at 0) anything b at events_number spot).0 q).1)
          (λ (size, next, is, q).
          let g = field-got b 1 (get_or b at 0) anything at size next is in
          let t = (tested size next).0 q in
          (t.0, g.0, subst (λ (k : ℕ). max_log_events < count + k) (sym g.2) (leb-false (count + size) max_log_events t.1)))
          ((and_then-refused b (byte anything b at) rest events_number spot).0 e)

      from : (spot ≡ at) × (at + 1 ≤ length b) × (max_log_events < count + get_or b at 0) → entry_after f count b at ≡ refused events_number spot
      from (here, there, over) =
          (and_then-refused b (byte anything b at) rest events_number spot).1
          (inr (
            get_or b at 0,
            at + 1,
            rw (le-leb (at + 1) (length b) there),
            (tested (get_or b at 0) (at + 1)).1
                (here, lt-leb (count + get_or b at 0) max_log_events over),
          ))

  module _ (rows_fit : Log → Bool) (before : List Entry) (spot : ℕ) where
    rows-tested : Entry → Reader Entry
    rows-tested x = require (rows_fit (words (before ++ x ∷ []))) rows_number at >> give x

    rows-refused : (x : Entry) (next number : ℕ) → (rows-tested x b next ≡ refused number spot)
        ↔ ((number ≡ rows_number) × (spot ≡ at) × (rows_fit (words (before ++ x ∷ [])) ≡ false))
    unfolding rows-tested require bind onward
    rows-refused x next number = (to (rows_fit (words (before ++ x ∷ []))), λ (n, here, fails). rw (n, here, fails))
      where
        to : (ok : Bool) → (require ok rows_number at >> give x) b next ≡ refused number spot → (number ≡ rows_number) × (spot ≡ at) × (ok ≡ false)
        to true e = impossible cc
        to false e = let n : rows_number ≡ number = cc in let s : at ≡ spot = cc in (sym n, sym s, refl)

    pub entry-8 : (entry rows_fit f before b at ≡ refused events_number spot)
        ↔ ((spot ≡ at) × (at + 1 ≤ length b) × (max_log_events < event_count (words before) + get_or b at 0))
    unfolding entry rows-tested bind onward
    entry-8 =
        let law = and_then-refused b (entry_after f (event_count (words before)) b at) rows-tested events_number spot in
        let inner = entry_after-8 (event_count (words before)) spot in (
          (λ e. inner.0 (⊎_elim (λ q. q) (λ (x, next, is, q). absurd (omega (arith, ((rows-refused x next events_number).0 q).0))) (law.0 e))),
          (λ c. law.1 (inl (inner.1 c))),
        )

    -- 9: its rows would pass 256
    pub entry-9 : (entry rows_fit f before b at ≡ refused rows_number spot)
        ↔ ((spot ≡ at) × ((x : Entry) × (next : ℕ) × (entry_after f (event_count (words before)) b at ≡ got x next)
        × (rows_fit (words (before ++ x ∷ [])) ≡ false)))
    unfolding entry rows-tested bind onward any
    entry-9 =
        let law = and_then-refused b (entry_after f (event_count (words before)) b at) rows-tested rows_number spot in (
          (λ e. ⊎_elim
              (λ q. absurd (false≢true (((reader-entry_after {numbers = bundle_end_number ∷ value_number ∷ events_number ∷ []} refl refl refl f
              (event_count (words before))).only b at).only rows_number spot q)))
              (λ (x, next, is, q). let r = (rows-refused x next rows_number).0 q in (r.1, (x, next, is, r.2)))
              (law.0 e)),
          (λ (here, (x, next, is, fails)). law.1 (inr (x, next, is, (rows-refused x next rows_number).1 (refl, here, fails)))),
        )
