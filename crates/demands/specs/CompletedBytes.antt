-- What a first byte and a mark say: lines of Completed.antt, proved.
use Rattle.std.specs.Prelude.{◌≡◌, refl, Bool, true, false, cond, ◌&&◌, ◌↔◌, leb, length, get_or, take, Err}
use Rattle.std.proofs.Common.{sym, ap, ◌∙◌, subst, inl, inr, ⊎_elim, zero-add, arith, leb-true}
use mathlib.Core.List.{List, [], ◌∷◌, ◌++◌, flat_map}
use Prim.Native.Nat.{ℕ, ◌+◌, ◌-◌, ◌%◌, ◌≤◌, ◌<◌}
use Rattle.laws.specs.Booleans.{lt_or_le}
use Rattle.laws.specs.Lists.{any}
use Rattle.laws.specs.Numbers.{Bytes}
use Rattle.limits.specs.Limits.{max_events, new_edition}
use Rattle.refusals.specs.Table.{value_number}
use Rattle.refusals.specs.Results.{refused}
use Rattle.refusals.specs.Answers.{refusal}
use Rattle.nets.specs.Nets.{Word, Log, Entry, words, event_count}
use Rattle.bundles.specs.Layout.{Head, Contents, HeadInFront, first_of, mark_bytes, entry_bytes, front_bytes, head_bytes, places_bytes, bytes_of}
use Rattle.bundles.specs.Readers.{first_byte, to_first, first, head, rows_in_limit, any_rows}
use Rattle.bundles.specs.Reading.{give}
use Rattle.bundles.specs.Causes.{and_then-refused}
use Rattle.bundles.specs.HeadReading.{head-failed}
use Rattle.beginnings.specs.Beginnings.{BeginsHead, HeadDeparts}
use Rattle.verdicts.specs.Judging.{verdict}
use Rattle.screening.specs.Screening.{screened}
use Rattle.demands.specs.Judging.{Sized}
use Rattle.demands.specs.Completed.{FirstSays, NoFirst, MarkSays}
use Rattle.demands.specs.Fields.{byte-refused}
use Rattle.demands.specs.JudgingProved.{judge_exactly}
use Rattle.demands.specs.ScreeningProved.{screen-exactly}

-- ---- First bytes

pub first_says : (b : List ℕ) (h : Head) (rest : List ℕ) → HeadInFront b h rest → FirstSays b h
unfolding head_bytes front_bytes first_of
first_says b h rest f =
    let first : get_or b 0 0 ≡ cond h.is_new new_edition 0 + h.events = ap (λ (l : List ℕ). get_or l 0 0) f.layout in
    record {
      new = λ e. first ∙ ap (λ (t : Bool). cond t new_edition 0 + h.events) e;
      old = λ e. first ∙ ap (λ (t : Bool). cond t new_edition 0 + h.events) e ∙ zero-add h.events;
    }

-- the test of a first byte
abbrev says : ℕ → Bool
says x = leb 1 (x % new_edition) && leb (x % new_edition) max_events

says_none : (x : ℕ) → x < 256 → NoFirst x → says x ≡ false
says_none x small (old, new) = go (leb 1 (x % new_edition)) refl (leb (x % new_edition) max_events) refl
  where
    go : (p : Bool) → leb 1 (x % new_edition) ≡ p → (q : Bool) → leb (x % new_edition) max_events ≡ q → (p && q) ≡ false
    go false e q r = refl
    go true e false r = refl
    go true e true r =
        let some = leb-true 1 (x % new_edition) e in
        let most = leb-true (x % new_edition) max_events r in
        absurd (⊎_elim
        (λ h. old (omega (arith, some, most, h), omega (arith, some, most, h)))
        (λ h. new (omega (arith, some, most, h), omega (arith, some, most, h, small)))
        (lt_or_le x new_edition))

-- one that says n begins a head: with no word and no place
begins : (x n : ℕ) (is_new : Bool) → 1 ≤ n → n ≤ 12 → first_of (record { is_new = is_new; events = n }) ≡ x → BeginsHead (x ∷ [])
unfolding head_bytes front_bytes places_bytes flat_map words event_count
begins x n is_new some most e = record {
  whole = record { is_new = is_new; events = n; entries = []; places = [] };
  limits = record {
    events = (some, most);
    log_size = omega arith;
    entries = tt;
    log_events = omega arith;
    places_size = omega arith;
    places = tt;
  };
  rest = 0 ∷ 0 ∷ [];
  bytes = ap (λ (y : ℕ). y ∷ 0 ∷ 0 ∷ []) e;
}

first-of-one : (b : List ℕ) → 1 ≤ length b → take 1 b ≡ get_or b 0 0 ∷ []
first-of-one [] h = absurd (omega arith)
first-of-one (x ∷ b) h = refl

-- where a head departs at its first byte, that says no edition
departs-none : (b : List ℕ) → HeadDeparts b 0 → NoFirst (get_or b 0 0)
unfolding first_of
departs-none b d =
    let first = first-of-one b d.there in
    let never : BeginsHead (get_or b 0 0 ∷ []) → ⊥ = λ h. d.behind (subst BeginsHead (sym first) h) in (
      (λ (some, most). never (begins (get_or b 0 0) (get_or b 0 0) false some most (omega arith))),
      (λ (some, most). never (begins (get_or b 0 0) (get_or b 0 0 - 128) true (omega (arith, some)) (omega (arith, most)) (omega (arith, some)))),
    )

none-refused : (b : List ℕ) → Bytes b → (rows_fit : ℕ → Log → Bool) → 1 ≤ length b → NoFirst (get_or b 0 0)
    → head rows_fit b 0 ≡ refused value_number 0
unfolding first
none-refused b bytes rows_fit some none =
    let says_nothing : first_byte b 0 ≡ refused value_number 0 =
    (byte-refused says b 0 value_number 0).1 (refl, inr (refl, some, says_none (get_or b 0 0) (bytes 0) none)) in
    head-failed rows_fit b 0 ((and_then-refused b (first_byte b 0) (λ x. give (to_first x)) value_number 0).1 (inl says_nothing))

-- a certificate stands behind a first byte
some_bytes : (d : Contents) → 1 ≤ length (bytes_of d)
unfolding bytes_of head_bytes front_bytes
some_bytes d = omega arith

pub no-first : (table_length : ℕ) (b : List ℕ) → Bytes b → (verdict table_length b ≡ Err (refusal 7 0))
    ↔ (Sized table_length b × NoFirst (get_or b 0 0))
unfolding any
no-first table_length b bytes =
    let law = judge_exactly table_length b bytes in (
      (λ e. (
        ((law.fields 7 refl 0).0 e).0,
        ⊎_elim (departs-none b) (λ s. absurd (omega (arith, s.offset, some_bytes s.contents))) (law.departs 0 e),
      )),
      (λ (sized, none). (law.fields 7 refl 0).1 (sized, inl (none-refused b bytes rows_in_limit sized.some none))),
    )

pub no-first-screened : (b : List ℕ) → Bytes b → (w : Word) → (screened b w ≡ Err (refusal 7 0))
    ↔ ((length w ≤ 65535) × (1 ≤ length b) × (length b ≤ 64512) × NoFirst (get_or b 0 0))
unfolding any
no-first-screened b bytes w =
    let law = screen-exactly b bytes w in (
      (λ e. let (few, some, most, departs, _) = (law.departs 0).0 (inl e) in (few, some, most, departs-none b departs)),
      (λ (few, some, most, none). (law.fields 7 refl 0).1 (few, some, most, none-refused b bytes any_rows some none)),
    )

-- ---- Marks

pub mark-says : (x : Entry) → MarkSays x
unfolding entry_bytes mark_bytes
mark-says x = record {
  completed = λ e. ap (λ (t : Bool). length x.word ∷ (cond t 1 0 ∷ []) ++ x.word) e;
  partial = λ e. ap (λ (t : Bool). length x.word ∷ (cond t 1 0 ∷ []) ++ x.word) e;
  old = refl;
}
