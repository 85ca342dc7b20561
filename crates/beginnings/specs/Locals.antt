-- The readers of a head and of a certificate answer by the bytes that they have read (Local.antt).
use Rattle.std.proofs.Math.Path.{◌≡◌, refl, sym}
use Rattle.std.proofs.Common.{◌∙◌, ⊎_elim, arith}
use Rattle.std.specs.Prelude.{Bool, ◌⊎◌, leb, length, get_or}
use Rattle.std.proofs.Math.Bool.{true, false}
use Rattle.std.proofs.Math.Logic.{inl, inr}
use mathlib.Core.List.{List, []}
use Prim.Native.Nat.{ℕ, zero, suc, ◌+◌, ◌≤◌}
use Rattle.std.proofs.Math.Nat.{le_trans}
use Rattle.limits.specs.Limits.{max_log_events}
use Rattle.refusals.specs.Table.{bundle_end_number, events_number, rows_number}
use Rattle.refusals.specs.Results.{refused, bind}
use Rattle.nets.specs.Nets.{Entry, words, event_count}
use Rattle.bundles.specs.Reading.{Read, got, Reader, onward, ◌>>=◌, ◌>>◌, offset, require, byte}
use Rattle.bundles.specs.Layout.{First, Head, rows_in}
use Rattle.bundles.specs.Readers.{anything, any_rows, mark, marked_after, entry_after, entry, place, places, first_byte, first, head_after, head}
use Rattle.bundles.specs.Readers.{term, pair, pairs, weights, of_kind, certificate}
use Rattle.bundles.specs.ReadingLaws.{and_then-got, require-got, field-got}
use Rattle.bundles.specs.Causes.{and_then-refused, field-refused}
use Rattle.beginnings.specs.Local.{alike-less, Stop, Local, local_give, local_offset, local_passed, local_then, local_each}
use Rattle.beginnings.specs.Local.{local_times, local_byte, local_number, local_any, stop-first, stop-second}

-- ---- a byte that is tested before what follows, and refused at its own offset

module _ {Size : ℕ → Type 0} (one : Size 1) {A : Type 0} (ok : ℕ → Bool) (refusal : ℕ) (other : refusal ≡ bundle_end_number → ⊥) {f : ℕ → Reader A}
    (rest : (x : ℕ) → Local Size (f x)) where
  -- the test and what follows, for a byte at `start`
  unfoldable behind : ℕ → ℕ → Reader A
  behind start x = require (ok x) refusal start >> f x

  any : Local Size (byte anything)
  any = local_byte one anything

  -- behind a test that is passed, what follows
  passed : (start x : ℕ) → ok x ≡ true → (b : List ℕ) (at : ℕ) → behind start x b at ≡ f x b at
  unfolding behind require bind onward
  passed start x e b at = rw e

  failed : (start x : ℕ) → ok x ≡ false → (b : List ℕ) (at : ℕ) → behind start x b at ≡ refused refusal start
  unfolding behind require bind onward
  failed start x e b at = rw e

  behind-got : (start x : ℕ) (b : List ℕ) (at : ℕ) (y : A) (next : ℕ) → behind start x b at ≡ got y next → (ok x ≡ true) × (f x b at ≡ got y next)
  unfolding behind
  behind-got start x b at y next e = require-got (ok x) refusal start (f x) b at y next e

  -- the stop where the test fails
  stop-tested : (b : List ℕ) (at k spot x mid : ℕ) → byte anything b at ≡ got x mid → ok x ≡ false → behind at x b mid ≡ refused k spot
      → Stop Size (byte anything >>= behind at) b at k spot
  unfolding byte bind onward
  stop-tested b at k spot x mid is fails e =
      let e' : ◌≡◌ {A = Read A} (refused refusal at) (refused k spot) = sym (failed at x fails b mid) ∙ e in
      let number : refusal ≡ k = cc in
      let here : at ≡ spot = cc in
      let g = field-got b 1 (get_or b at 0) anything at x mid is in
      record {
        from = omega (arith, here);
        to = omega (arith, here, g.0);
        cut = λ c same end.
            rw ((field-refused 1 (get_or c at 0) anything c at bundle_end_number spot).1 (sym here, inl (refl, omega (arith, here, end))));
        half = λ _ c same end. inl (rw (any.read b c at x mid is (alike-less (omega (arith, here, g.3)) same)) (failed at x fails c mid ∙ e'));
        cause = inr (
          λ six. other (number ∙ six),
          (
            1,
            one,
            omega (arith, here, g.0),
            λ c same. rw (any.read b c at x mid is (alike-less (omega (arith, here, g.3)) same)) (failed at x fails c mid ∙ e'),
          ),
        );
      }

  -- and where what follows stops
  stop-behind : (b : List ℕ) (at k spot x mid : ℕ) → at ≤ length b → byte anything b at ≡ got x mid → (t : Bool) → ok x ≡ t
      → behind at x b mid ≡ refused k spot
      → Stop Size (byte anything >>= behind at) b at k spot
  stop-behind b at k spot x mid h is false t e = stop-tested b at k spot x mid is t e
  stop-behind b at k spot x mid h is true t e =
      let s = (rest x).stop b mid k spot (any.within b at x mid is h) (sym (passed at x t b mid) ∙ e) in
      stop-second any (behind at) b at k spot x mid is (record {
        from = s.from;
        to = s.to;
        cut = λ c same end. passed at x t c mid ∙ s.cut c same end;
        half = λ other c same end. ⊎_elim (λ q. inl (passed at x t c mid ∙ q)) (λ q. inr (passed at x t c mid ∙ q)) (s.half other c same end);
        cause = ⊎_elim inl
            (λ (differs, (size, sized, there, again)). inr (differs, (size, sized, there, λ c same. passed at x t c mid ∙ again c same)))
            s.cause;
      })

  -- the byte's offset is where the reader starts
  stop-start : (b : List ℕ) (at k spot : ℕ) → Stop Size (byte anything >>= behind at) b at k spot
      → Stop Size (offset >>= λ start. byte anything >>= λ x. require (ok x) refusal start >> f x) b at k spot
  unfolding behind bind onward
  stop-start b at k spot s = record { from = s.from; to = s.to; cut = s.cut; half = s.half; cause = s.cause }

  pub local_tested : Local Size (offset >>= λ start. byte anything >>= λ x. require (ok x) refusal start >> f x)
  unfolding behind bind onward
  local_tested = record {
    forth = λ b at y next e.
        let s = and_then-got b (byte anything b at) (behind at) y next e in
        let p = behind-got at s.0 b s.1 y next s.3 in
        le_trans (any.forth b at s.0 s.1 s.2) ((rest s.0).forth b s.1 y next p.1);
    within = λ b at y next e h.
        let s = and_then-got b (byte anything b at) (behind at) y next e in
        let p = behind-got at s.0 b s.1 y next s.3 in
        (rest s.0).within b s.1 y next p.1 (any.within b at s.0 s.1 s.2 h);
    read = λ b c at y next e same.
        let s = and_then-got b (byte anything b at) (behind at) y next e in
        let p = behind-got at s.0 b s.1 y next s.3 in
        rw (any.read b c at s.0 s.1 s.2 (alike-less ((rest s.0).forth b s.1 y next p.1) same))
        (passed at s.0 p.0 c s.1 ∙ (rest s.0).read b c s.1 y next p.1 same);
    stop = λ b at k spot h e. stop-start b at k spot (⊎_elim
        (λ q. stop-first any (behind at) b at k spot (any.stop b at k spot h q))
        (λ (x, mid, is, q). stop-behind b at k spot x mid h is (ok x) refl q)
        ((and_then-refused b (byte anything b at) (behind at) k spot).0 e));
  }

-- ---- a head, whose fields with a range have one byte

-- one byte
abbrev pub OneByte : ℕ → Type 0
OneByte size = size ≡ 1

pub local_mark : (is_new : Bool) → Local OneByte (mark is_new)
unfolding mark
local_mark true = local_byte refl _
local_mark false = local_give 0

pub local_marked : (f : First) (size : ℕ) → Local OneByte (marked_after f size)
local_marked f size = local_then (local_mark f.is_new) (λ m. local_then (local_times (local_byte refl _) size) (λ w. local_give _))

pub local_entry_after : (f : First) (count : ℕ) → Local OneByte (entry_after f count)
unfolding entry_after
local_entry_after f count = local_tested refl (λ size. leb (count + size) max_log_events) events_number (λ e. omega (arith, e)) (local_marked f)

pub local_entry : (f : First) (before : List Entry) → Local OneByte (entry (any_rows f.events) f before)
unfolding entry
local_entry f before = local_then local_offset
    (λ start. local_then (local_entry_after f (event_count (words before))) (λ x. local_then (local_passed rows_number start) (λ u. local_give x)))

pub local_place : (n : ℕ) → Local OneByte (place n)
unfolding place
local_place n = local_then local_any (λ m. local_then (local_times local_any n) (λ ins. local_then (local_times local_any n) (λ outs. local_give _)))

pub local_places : (n : ℕ) → Local OneByte (places n)
unfolding places
local_places n = local_then (local_byte refl _) (λ count. local_times (local_place n) count)

pub local_first_byte : Local OneByte first_byte
local_first_byte = local_byte refl _

pub local_first : Local OneByte first
unfolding first
local_first = local_then local_first_byte (λ x. local_give _)

pub local_head_after : (f : First) → Local OneByte (head_after any_rows f)
unfolding head_after
local_head_after f = local_then (local_byte refl anything)
    (λ count. local_then (local_each (λ s. local_entry f) _ []) (λ entries. local_then (local_places f.events) (λ ps. local_give _)))

pub local_head : Local OneByte (head any_rows)
unfolding head
local_head = local_then local_first local_head_after

-- ---- a certificate

-- one byte or two
abbrev pub OneOrTwo : ℕ → Type 0
OneOrTwo size = (size ≡ 1) ⊎ (size ≡ 2)

module _ (h : Head) where
  one : OneOrTwo 1
  one = inl refl

  pub local_term : Local OneOrTwo (term h.events (length (rows_in h)))
  unfolding term
  local_term = local_then (local_number _ (inl (inr refl)))
      (λ row. local_then (local_byte one _) (λ event. local_then local_any (λ weight. local_give _)))

  pub local_pair : Local OneOrTwo (pair (length h.entries))
  unfolding pair
  local_pair = local_then (local_byte one _) (λ word. local_then local_any (λ weight. local_give _))

  pub local_pairs : (is_new : Bool) → Local OneOrTwo (pairs is_new (length h.entries))
  unfolding pairs
  local_pairs true = local_then (local_byte one _) (λ count. local_times local_pair count)
  local_pairs false = local_give []

  pub local_of_kind : (kind : ℕ) → Local OneOrTwo (of_kind h kind)
  unfolding of_kind weights
  local_of_kind zero = local_then (local_byte one _) (λ j. local_give _)
  local_of_kind (suc k) = local_then (local_number _ (inl (inr refl)))
      (λ k. local_then (local_byte one _) (λ count. local_then (local_times local_term count)
      (λ ts. local_then (local_pairs h.is_new) (λ qs. local_give _))))

  pub local_kind : Local OneOrTwo (byte (λ kind. leb kind 1))
  local_kind = local_byte one _

  pub local_certificate : Local OneOrTwo (certificate h)
  unfolding certificate
  local_certificate = local_then local_kind local_of_kind
