-- The laws of a field by its three answers, and what the code answers for one.
use Rattle.std.specs.Prelude.{◌≡◌, refl, Bool, ◌&&◌, List, ℕ, ◌+◌, ◌≤◌, ◌<◌, leb, ltb, length, get_or, Ok, Err}
use Rattle.std.proofs.Common.{sym, ap, ◌∙◌, arith, leb-true}
use Rattle.std.proofs.Math.Bool.{true, false, cond}
use Rattle.std.proofs.lemmas.Bool.{lt-leb}
use Rattle.laws.specs.Booleans.{impossible}
use Rattle.laws.specs.Numbers.{number_at}
use Rattle.refusals.specs.Table.{bundle_end_number, value_number}
use Rattle.std.specs.Bool.{then_some}
use Rattle.std.specs.Option.{ok_or}
use Rattle.refusals.specs.Results.{refused}
use Rattle.bundles.specs.Reading.{got, field, byte, number}
use Rattle.bundles.specs.ReadingLaws.{ranged, field-there}
use Rattle.bundles.specs.Readers.{anything}
use Rattle.refusals.specs.Answers.{refusal}
use Rattle.bundles.specs.Chains.{ReadBy, read_got, read-refused, →got, →refused}
use Rattle.refusals.specs.declared.Refusal.{Refusal}
use Rattle.bundles.specs.declared.Reader.{Reader}

-- from `low` to `most`
abbrev pub between : ℕ → ℕ → ℕ → Bool
between low most x = leb low x && leb x most

-- at most `most`
abbrev pub up_to : ℕ → ℕ → Bool
up_to most x = leb x most

-- below `end`
abbrev pub below : ℕ → ℕ → Bool
below end x = ltb x end

module _ (in_range : ℕ → Bool) (b : List ℕ) (at : ℕ) where
  pub field-missing : (size x : ℕ) → length b < at + size → field size x in_range b at ≡ refused bundle_end_number at
  unfolding field
  field-missing size x h = rw (lt-leb (at + size) (length b) h)

  pub byte-missing : length b ≤ at → byte in_range b at ≡ refused bundle_end_number at
  unfolding byte
  byte-missing h = field-missing 1 (get_or b at 0) (omega arith)

  pub byte-there : at < length b → byte in_range b at ≡ ranged in_range (get_or b at 0) at (at + 1)
  unfolding byte
  byte-there h = field-there b 1 (get_or b at 0) in_range at (omega arith)

  pub number-missing : length b < at + 2 → number in_range b at ≡ refused bundle_end_number at
  unfolding number
  number-missing h = field-missing 2 (number_at b at) h

  pub number-there : at + 2 ≤ length b → number in_range b at ≡ ranged in_range (number_at b at) at (at + 2)
  unfolding number
  number-there h = field-there b 2 (number_at b at) in_range at h

-- a range is tested on what any value's reader gives
module _ (p : ℕ → Bool) (b : List ℕ) (at : ℕ) where
  field-ranged : (size v x next : ℕ) → field size v (λ y. true) b at ≡ got x next → field size v p b at ≡ ranged p x at next
  unfolding field ranged
  field-ranged size v x next e = go (leb (at + size) (length b)) e
    where
      go : (there : Bool) → cond there (got v (at + size)) (refused bundle_end_number at) ≡ got x next
          → cond there (cond (p v) (got v (at + size)) (refused value_number at)) (refused bundle_end_number at)
          ≡ cond (p x) (got x next) (refused value_number at)
      go true q =
          let value : v ≡ x = cc in
          let end : at + size ≡ next = cc in
          rw (value, end)
      go false q = impossible cc

  field-refused : (size v refusal spot : ℕ) → field size v (λ y. true) b at ≡ refused refusal spot → field size v p b at ≡ refused refusal spot
  unfolding field
  field-refused size v refusal spot e = go (leb (at + size) (length b)) e
    where
      go : (there : Bool) → cond there (got v (at + size)) (refused bundle_end_number at) ≡ refused refusal spot
          → cond there (cond (p v) (got v (at + size)) (refused value_number at)) (refused bundle_end_number at) ≡ refused refusal spot
      go true q = impossible cc
      go false q = q

  pub byte-ranged : {x next : ℕ} → byte anything b at ≡ got x next → byte p b at ≡ ranged p x at next
  unfolding byte
  byte-ranged {x} {next} e = field-ranged 1 (get_or b at 0) x next e

  pub byte-refused : {refusal spot : ℕ} → byte anything b at ≡ refused refusal spot → byte p b at ≡ refused refusal spot
  unfolding byte
  byte-refused {refusal} {spot} e = field-refused 1 (get_or b at 0) refusal spot e

  pub number-ranged : {x next : ℕ} → number anything b at ≡ got x next → number p b at ≡ ranged p x at next
  unfolding number
  number-ranged {x} {next} e = field-ranged 2 (number_at b at) x next e

  pub number-refused : {refusal spot : ℕ} → number anything b at ≡ refused refusal spot → number p b at ≡ refused refusal spot
  unfolding number
  number-refused {refusal} {spot} e = field-refused 2 (number_at b at) refusal spot e

pub between_true : (low most x : ℕ) → between low most x ≡ true → (low ≤ x) × (x ≤ most)
between_true low most x e = go (leb low x) refl (leb x most) refl e
  where
    go : (s : Bool) → leb low x ≡ s → (t : Bool) → leb x most ≡ t → (s && t) ≡ true → (low ≤ x) × (x ≤ most)
    go true p true q r = (leb-true low x p, leb-true x most q)
    go true p false q r = impossible cc
    go false p t q r = impossible cc

-- a byte that was read: its value is in range, and it is the one at the offset
pub byte-got : (in_range : ℕ → Bool) (b : List ℕ) (at x next : ℕ) → byte in_range b at ≡ got x next
    → (in_range x ≡ true) × (x ≡ get_or b at 0) × (next ≡ at + 1) × (next ≤ length b)
unfolding byte field
byte-got in_range b at x next e = go (leb (at + 1) (length b)) refl (in_range (get_or b at 0)) refl e
  where
    go : (there : Bool) → leb (at + 1) (length b) ≡ there → (good : Bool) → in_range (get_or b at 0) ≡ good
        → cond there (cond good (got (get_or b at 0) (at + 1)) (refused value_number at)) (refused bundle_end_number at) ≡ got x next
        → (in_range x ≡ true) × (x ≡ get_or b at 0) × (next ≡ at + 1) × (next ≤ length b)
    go true t true g q =
        let value : get_or b at 0 ≡ x = cc in
        let end : at + 1 ≡ next = cc in
        (ap in_range (sym value) ∙ g, sym value, sym end, omega (arith, leb-true (at + 1) (length b) t))
    go true t false g q = impossible cc
    go false t good g q = impossible cc

-- ---- the code's fields

module _ (old : Reader) where
  pub byte_missing : length old.bytes.now ≤ old.at → ReadBy old old (Err (refusal bundle_end_number old.at)) (byte anything)
  byte_missing short = →refused refl (byte-missing anything old.bytes.now old.at short)

  pub byte_read : old.at < length old.bytes.now → ReadBy old (record old { at = old.at + 1 }) (Ok (get_or old.bytes.now old.at 0)) (byte anything)
  unfolding ranged
  byte_read there = →got refl (byte-there anything old.bytes.now old.at there)

  pub number_missing : length old.bytes.now < old.at + 2 → ReadBy old old (Err (refusal bundle_end_number old.at)) (number anything)
  number_missing short = →refused refl (number-missing anything old.bytes.now old.at short)

  pub number_read : old.at + 2 ≤ length old.bytes.now
      → ReadBy old (record old { at = old.at + 2 }) (Ok (number_at old.bytes.now old.at)) (number anything)
  unfolding ranged
  number_read there = →got refl (number-there anything old.bytes.now old.at there)

-- a value, or a refusal, as a test decides
pub chosen : {A : Type 0} (b : Bool) (x : A) (e : Refusal) → ok_or (then_some b x) e ≡ cond b (Ok x) (Err e)
chosen true x e = refl
chosen false x e = refl

-- a value that was read, and then tested
module _ {old new : Reader} (p : ℕ → Bool) where
  pub byte_tested : {x : ℕ} → ReadBy old new (Ok x) (byte anything) → ReadBy old new (cond (p x) (Ok x) (Err (refusal value_number old.at))) (byte p)
  unfolding ranged
  byte_tested {x} r = go (p x) refl
    where
      is : byte p old.bytes.now old.at ≡ ranged p x old.at new.at
      is = byte-ranged p old.bytes.now old.at (read_got r)

      go : (fits : Bool) → p x ≡ fits → ReadBy old new (cond fits (Ok x) (Err (refusal value_number old.at))) (byte p)
      go true e = →got r.bytes (is ∙ rw e)
      go false e = →refused r.bytes (is ∙ rw e)

  pub byte_passed : {x : ℕ} → p x ≡ true → ReadBy old new (Ok x) (byte anything) → ReadBy old new (Ok x) (byte p)
  byte_passed passed r = rw passed at (byte_tested r)

  pub byte-failed : {x : ℕ} → p x ≡ false → ReadBy old new (Ok x) (byte anything) → ReadBy old new (Err (refusal value_number old.at)) (byte p)
  byte-failed fails r = rw fails at (byte_tested r)

  pub byte_untested : {e : Refusal} → ReadBy old new (Err e) (byte anything) → ReadBy old new (Err e) (byte p)
  byte_untested r = →refused r.bytes (byte-refused p old.bytes.now old.at (read-refused r))

  pub number_tested : {x : ℕ} → ReadBy old new (Ok x) (number anything)
      → ReadBy old new (cond (p x) (Ok x) (Err (refusal value_number old.at))) (number p)
  unfolding ranged
  number_tested {x} r = go (p x) refl
    where
      is : number p old.bytes.now old.at ≡ ranged p x old.at new.at
      is = number-ranged p old.bytes.now old.at (read_got r)

      go : (fits : Bool) → p x ≡ fits → ReadBy old new (cond fits (Ok x) (Err (refusal value_number old.at))) (number p)
      go true e = →got r.bytes (is ∙ rw e)
      go false e = →refused r.bytes (is ∙ rw e)

  pub number_untested : {e : Refusal} → ReadBy old new (Err e) (number anything) → ReadBy old new (Err e) (number p)
  number_untested r = →refused r.bytes (number-refused p old.bytes.now old.at (read-refused r))
