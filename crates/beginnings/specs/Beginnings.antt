-- Where a bundle stops to be the beginning of a right one, by its layout and limits alone: no reader comes into it.
use Rattle.std.specs.Prelude.{◌≡◌, Bool, true, ◌⊎◌, ℕ, ◌+◌, ◌*◌, ◌-◌, ◌%◌, ◌≤◌, ◌<◌, length, get_or, take}
use mathlib.Core.List.{List, [], ◌∷◌, ◌++◌, flat_map}
use Rattle.laws.specs.Every.{Every}
use Rattle.nets.specs.Nets.{Entry, words, event_count, rows}
use Rattle.bundles.specs.Layout.{First, Head, EntryInLimits, HeadInLimits, HeadInFront, CertificateInLimits}
use Rattle.bundles.specs.Layout.{first_of, entry_bytes, front_bytes, head_bytes, certificate_bytes, rows_in}

-- l is a beginning of the bytes of some value within its limits
pub record Begins {A : Type 0} (write : A → List ℕ) (InLimits : A → Type 0) (l : List ℕ) : Type 0 where
  pub whole : A
  pub limits : InLimits whole
  pub rest : List ℕ
  pub bytes : write whole ≡ l ++ rest

-- of some head; of some certificate for a head
abbrev pub BeginsHead : List ℕ → Type 0
BeginsHead = Begins head_bytes HeadInLimits

abbrev pub BeginsCertificate : Head → List ℕ → Type 0
BeginsCertificate h = Begins (certificate_bytes h.is_new) (CertificateInLimits h)

-- what stands before p is such a beginning, and with the field of so many bytes at p it no longer is
pub record Departs (Beginning : List ℕ → Type 0) (l : List ℕ) (p size : ℕ) : Type 0 where
  pub there : p + size ≤ length l
  pub before : Beginning (take p l)
  pub behind : Beginning (take (p + size) l) → ⊥

-- ---- A head

-- where l, a beginning of h, ends inside a field, one byte of it is there: up to the place count the fields have one byte, behind it two
abbrev pub part_of_field : Head → List ℕ → ℕ
part_of_field h l = (length l - (length (front_bytes h) + 1)) % 2

-- all that is there is a beginning of a head, and ends before the field at p, or inside it
pub record HeadEnds (l : List ℕ) (p : ℕ) : Type 0 where
  pub beginning : BeginsHead l
  pub offset : p + part_of_field beginning.whole l ≡ length l

-- a whole head stands in front
abbrev pub InFront : List ℕ → Type 0
InFront l = (h : Head) × (rest : List ℕ) × HeadInFront l h rest

-- its fields that have a range are of one byte
abbrev pub HeadDeparts : List ℕ → ℕ → Type 0
HeadDeparts l p = Departs BeginsHead l p 1

-- ---- A certificate for the head h

-- By offsets from its first byte: where its pairs begin, behind the kind, k, the term count and the terms
abbrev pub pairs_at : List ℕ → ℕ
pairs_at l = 4 + 5 * get_or l 3 0

-- the fields of one byte
pub data OneByteAt (is_new : Bool) (l : List ℕ) (p : ℕ) : Type 0 where
  -- the kind; of kind 0: the place's number
  at_kind : p ≡ 0 → OneByteAt is_new l p
  at_place : get_or l 0 0 ≡ 0 → p ≡ 1 → OneByteAt is_new l p
  -- of kind 1: the term count, the event of a term; in the new edition the pair count, the word of a pair
  at_term_count : get_or l 0 0 ≡ 1 → p ≡ 3 → OneByteAt is_new l p
  at_event : get_or l 0 0 ≡ 1 → (t : ℕ) → t < get_or l 3 0 → p ≡ 6 + 5 * t → OneByteAt is_new l p
  at_pair_count : get_or l 0 0 ≡ 1 → is_new ≡ true → p ≡ pairs_at l → OneByteAt is_new l p
  at_word : get_or l 0 0 ≡ 1 → is_new ≡ true → (q : ℕ) → q < get_or l (pairs_at l) 0 → p ≡ pairs_at l + 1 + 3 * q → OneByteAt is_new l p

-- of two, kind 1: k, the row and the weight of a term; in the new edition the weight of a pair
pub data TwoBytesAt (is_new : Bool) (l : List ℕ) (p : ℕ) : Type 0 where
  at_factor : get_or l 0 0 ≡ 1 → p ≡ 1 → TwoBytesAt is_new l p
  at_row : get_or l 0 0 ≡ 1 → (t : ℕ) → t < get_or l 3 0 → p ≡ 4 + 5 * t → TwoBytesAt is_new l p
  at_weight : get_or l 0 0 ≡ 1 → (t : ℕ) → t < get_or l 3 0 → p ≡ 7 + 5 * t → TwoBytesAt is_new l p
  at_pair_weight : get_or l 0 0 ≡ 1 → is_new ≡ true → (q : ℕ) → q < get_or l (pairs_at l) 0 → p ≡ pairs_at l + 2 + 3 * q → TwoBytesAt is_new l p

-- l ends at p, or one byte behind it
abbrev pub EndsAt : List ℕ → ℕ → Type 0
EndsAt l p = (length l ≡ p) ⊎ (length l ≡ p + 1)

-- l ends before the field at p, or inside it
abbrev pub EndsInField : Bool → List ℕ → ℕ → Type 0
EndsInField is_new l p = ((length l ≡ p) × OneByteAt is_new l p) ⊎ (EndsAt l p × TwoBytesAt is_new l p)

-- three beginnings are read to their next field, though no certificate within its limits has them:
-- kind 0 where the net has no place; p is the offset of the place's number
pub record NoPlace (h : Head) (l : List ℕ) (p : ℕ) : Type 0 where
  pub places : h.places ≡ []
  pub kind : (rest : List ℕ) × (l ≡ 0 ∷ rest)
  pub number : p ≡ 1

-- a pair count above 0 where the log has no word; p is the offset of the first pair's word
pub record NoWord (h : Head) (l : List ℕ) (p : ℕ) : Type 0 where
  pub entries : h.entries ≡ []
  pub is_new : h.is_new ≡ true
  pub kind : get_or l 0 0 ≡ 1
  pub before : BeginsCertificate h (take (pairs_at l) l)
  pub count : (1 ≤ get_or l (pairs_at l) 0) × (get_or l (pairs_at l) 0 ≤ 64)
  pub number : p ≡ pairs_at l + 1

-- so the byte that is due at p has no value at all
abbrev pub NoValue : Head → List ℕ → ℕ → Type 0
NoValue h l p = NoPlace h l p ⊎ NoWord h l p

-- and the low byte, at p, of a row's number, where every row's number is lower
pub record NoRow (h : Head) (l : List ℕ) (p : ℕ) : Type 0 where
  pub half : length l ≡ p + 1
  pub before : BeginsCertificate h (take p l)
  pub low : length (rows_in h) ≤ get_or l p 0

-- all that is there is a beginning of a certificate, or one of these three, and ends before the field at p, or inside it
pub record CertificateEnds (h : Head) (l : List ℕ) (p : ℕ) : Type 0 where
  pub end : EndsInField h.is_new l p
  pub beginning : BeginsCertificate h l ⊎ (NoValue h l p ⊎ NoRow h l p)

-- it departs in a field of one byte, or in one of two, with the first of them or with both; or there is no place, or no word
abbrev pub CertificateDeparts : Head → List ℕ → ℕ → Type 0
CertificateDeparts h l p = (OneByteAt h.is_new l p × Departs (BeginsCertificate h) l p 1)
    ⊎ ((TwoBytesAt h.is_new l p × (Departs (BeginsCertificate h) l p 1 ⊎ Departs (BeginsCertificate h) l p 2))
    ⊎ (NoValue h l p × (p + 1 ≤ length l)))

-- ---- A word that is due: l is the first byte, which says f, the word count, then fewer words, those of `before`, within their limits, then `rest`

pub record WordDue (l : List ℕ) (f : First) (before : List Entry) (rest : List ℕ) : Type 0 where
  pub events : (1 ≤ f.events) × (f.events ≤ 12)
  pub count : ℕ
  pub layout : l ≡ first_of f ∷ count ∷ (flat_map (entry_bytes f.is_new) before ++ rest)
  pub fewer : length before < count
  pub entries : Every (EntryInLimits f) before
  pub log_events : event_count (words before) ≤ 1024

-- the offset of its length byte
abbrev pub length_byte : First → List Entry → ℕ
length_byte f before = length (flat_map (entry_bytes f.is_new) before) + 2

-- with its length byte the events pass 1,024
pub record EventsPass (l : List ℕ) (f : First) (before : List Entry) (p : ℕ) : Type 0 where
  pub size : ℕ
  pub rest : List ℕ
  pub due : WordDue l f before (size ∷ rest)
  pub over : 1024 < event_count (words before) + size
  pub offset : p ≡ length_byte f before

-- it is there, within its limits, and with it the rows pass 256
pub record RowsPass (l : List ℕ) (f : First) (before : List Entry) (p : ℕ) : Type 0 where
  pub entry : Entry
  pub rest : List ℕ
  pub due : WordDue l f before (entry_bytes f.is_new entry ++ rest)
  pub limits : EntryInLimits f entry
  pub events : event_count (words before) + length entry.word ≤ 1024
  pub over : 256 < length (rows f.events (words (before ++ entry ∷ [])))
  pub offset : p ≡ length_byte f before
