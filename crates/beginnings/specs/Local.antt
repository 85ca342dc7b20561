-- What a reader answers depends on the bytes that it has read: up to the offset behind an item, up to the end of a field that is refused.
use Rattle.std.specs.Prelude.{◌≡◌, refl, Bool, true, ◌⊎◌, ℕ, ◌+◌, ◌≤◌, ◌<◌, length, take}
use Rattle.std.proofs.Common.{sym, ◌∙◌, subst, arith, length-append, get_or-take, length-take-le}
use Rattle.std.proofs.lemmas.Bool.{false≢true}
use Rattle.std.proofs.Math.Logic.{inl, inr, ⊎_elim}
use mathlib.Core.List.{List, [], ◌∷◌, ◌++◌}
use Rattle.std.proofs.Math.Nat.{le_trans}
use Rattle.std.proofs.Math.ListN.{get_or, get_or-append}
use Rattle.laws.specs.Booleans.{impossible, lt_or_le}
use Rattle.laws.specs.Numbers.{number_at}
use Rattle.refusals.specs.Table.{bundle_end_number}
use Rattle.refusals.specs.Results.{refused, bind}
use Rattle.bundles.specs.Reading.{got, Reader, onward, ◌>>=◌, give, offset, require, field, byte, number, each, times}
use Rattle.bundles.specs.Readers.{anything}
use Rattle.bundles.specs.ReadingLaws.{and_then-got, field-got, field-there}
use Rattle.bundles.specs.Causes.{and_then-refused, field-refused}

-- ---- two bundles that begin alike

-- the first k bytes of b stand in c too
pub record Alike (k : ℕ) (b c : List ℕ) : Type 0 where
  pub there : k ≤ length c
  pub same : (i : ℕ) → i < k → get_or c i 0 ≡ get_or b i 0

pub alike-less : {j k : ℕ} {b c : List ℕ} → j ≤ k → Alike k b c → Alike j b c
alike-less less a = record { there = le_trans less a.there; same = λ i h. a.same i (omega (arith, less, h)) }

-- more bytes behind a bundle
pub alike-more : (b more : List ℕ) → Alike (length b) b (b ++ more)
alike-more b more = record { there = omega (arith, length-append b more); same = λ i h. get_or-append b more 0 i h }

-- other bytes behind its beginning
pub alike-front : (k : ℕ) (b rest : List ℕ) → k ≤ length b → Alike k b (take k b ++ rest)
alike-front k b rest within =
    let size = length-take-le k b within in
    record {
      there = omega (arith, length-append (take k b) rest, size);
      same = λ i h. get_or-append (take k b) rest 0 i (omega (arith, h, size)) ∙ get_or-take k b i 0 h;
    }

-- its beginning
pub alike-take : (k : ℕ) (b : List ℕ) → k ≤ length b → Alike k b (take k b)
alike-take k b within = record { there = omega (arith, length-take-le k b within); same = λ i h. get_or-take k b i 0 h }

-- a number in two such bytes
number_at-alike : (b c : List ℕ) (at : ℕ) → Alike (at + 2) b c → number_at c at ≡ number_at b at
unfolding number_at
number_at-alike b c at a = rw (a.same at (omega arith), a.same (at + 1) (omega arith))

-- ---- the law of a reader

module _ (Size : ℕ → Type 0) where
  -- r refuses b: behind the bytes before the spot it misses a field; and a number but 6 is that of a field there, of a size that is so, or with its
  -- first byte alone, if that is not all of it, 6
  pub record Stop {A : Type 0} (r : Reader A) (b : List ℕ) (at k spot : ℕ) : Type 0 where
    pub from : at ≤ spot
    pub to : spot ≤ length b
    pub cut : (c : List ℕ) → Alike spot b c → length c ≡ spot → r c at ≡ refused bundle_end_number spot
    pub half : (k ≡ bundle_end_number → ⊥) → (c : List ℕ) → Alike (spot + 1) b c → length c ≡ spot + 1
        → (r c at ≡ refused k spot) ⊎ (r c at ≡ refused bundle_end_number spot)
    pub cause : ((k ≡ bundle_end_number) × (length b ≤ spot + 1))
        ⊎ ((k ≡ bundle_end_number → ⊥) × ((size : ℕ) × Size size × (spot + size ≤ length b)
        × ((c : List ℕ) → Alike (spot + size) b c → r c at ≡ refused k spot)))

  pub record Local {A : Type 0} (r : Reader A) : Type 0 where
    pub forth : (b : List ℕ) (at : ℕ) (x : A) (next : ℕ) → r b at ≡ got x next → at ≤ next
    pub within : (b : List ℕ) (at : ℕ) (x : A) (next : ℕ) → r b at ≡ got x next → at ≤ length b → next ≤ length b
    pub read : (b c : List ℕ) (at : ℕ) (x : A) (next : ℕ) → r b at ≡ got x next → Alike next b c → r c at ≡ got x next
    pub stop : (b : List ℕ) (at k spot : ℕ) → at ≤ length b → r b at ≡ refused k spot → Stop r b at k spot

module _ {Size : ℕ → Type 0} where
  pub local_give : {A : Type 0} (x : A) → Local Size (give x)
  local_give x = record {
    forth = λ b at y next e. let end : at ≡ next = cc in omega (arith, end);
    within = λ b at y next e h. let end : at ≡ next = cc in omega (arith, end, h);
    read = λ b c at y next e same. e;
    stop = λ b at k spot h e. impossible cc;
  }

  pub local_offset : Local Size offset
  local_offset = record {
    forth = λ b at y next e. let end : at ≡ next = cc in omega (arith, end);
    within = λ b at y next e h. let end : at ≡ next = cc in omega (arith, end, h);
    read = λ b c at y next e same. e;
    stop = λ b at k spot h e. impossible cc;
  }

  -- a test that is passed
  pub local_passed : (number spot : ℕ) → Local Size (require true number spot)
  unfolding require
  local_passed number spot = local_give tt

  module _ {A B : Type 0} {r : Reader A} (first : Local Size r) where
    -- a stop of the first reader is one of both
    pub stop-first : (f : A → Reader B) (b : List ℕ) (at k spot : ℕ) → Stop Size r b at k spot → Stop Size (r >>= f) b at k spot
    unfolding bind onward
    stop-first f b at k spot s = record {
      from = s.from;
      to = s.to;
      cut = λ c same end. rw (s.cut c same end);
      half = λ other c same end. ⊎_elim (λ e. inl (rw e)) (λ e. inr (rw e)) (s.half other c same end);
      cause = ⊎_elim inl (λ (other, (size, sized, there, again)). inr (other, (size, sized, there, λ c same. rw (again c same)))) s.cause;
    }

    -- and so is one of the second, behind what the first one read
    pub stop-second : (f : A → Reader B) (b : List ℕ) (at k spot : ℕ) (x : A) (mid : ℕ) → r b at ≡ got x mid → Stop Size (f x) b mid k spot
        → Stop Size (r >>= f) b at k spot
    unfolding bind onward
    stop-second f b at k spot x mid is s = record {
      from = le_trans (first.forth b at x mid is) s.from;
      to = s.to;
      cut = λ c same end. rw (first.read b c at x mid is (alike-less s.from same)) (s.cut c same end);
      half = λ other c same end. rw (first.read b c at x mid is (alike-less (omega (arith, s.from)) same)) (s.half other c same end);
      cause = ⊎_elim inl
          (λ (other, (size, sized, there, again)). inr (
            other,
            (
              size,
              sized,
              there,
              λ c same. rw (first.read b c at x mid is (alike-less (omega (arith, s.from)) same)) (again c same),
            ),
          ))
          s.cause;
    }

    pub local_then : {f : A → Reader B} → ((x : A) → Local Size (f x)) → Local Size (r >>= f)
    unfolding bind onward
    local_then {f} rest = record {
      forth = λ b at y next e.
          let s = and_then-got b (r b at) f y next e in
          le_trans (first.forth b at s.0 s.1 s.2) ((rest s.0).forth b s.1 y next s.3);
      within = λ b at y next e h.
          let s = and_then-got b (r b at) f y next e in
          (rest s.0).within b s.1 y next s.3 (first.within b at s.0 s.1 s.2 h);
      read = λ b c at y next e same.
          let s = and_then-got b (r b at) f y next e in
          rw (first.read b c at s.0 s.1 s.2 (alike-less ((rest s.0).forth b s.1 y next s.3) same))
          ((rest s.0).read b c s.1 y next s.3 same);
      stop = λ b at k spot h e. ⊎_elim
          (λ q. stop-first f b at k spot (first.stop b at k spot h q))
          (λ (x, mid, is, q). stop-second f b at k spot x mid is ((rest x).stop b mid k spot (first.within b at x mid is h) q))
          ((and_then-refused b (r b at) f k spot).0 e);
    }

  pub local_each : {S A : Type 0} {r : S → List A → Reader A} → ((s : S) (before : List A) → Local Size (r s before))
      → (ss : List S) (before : List A) → Local Size (each r ss before)
  unfolding each
  local_each every [] before = local_give before
  local_each every (s ∷ ss) before = local_then (every s before) (λ x. local_each every ss (before ++ x ∷ []))

  pub local_times : {A : Type 0} {r : Reader A} → Local Size r → (k : ℕ) → Local Size (times k r)
  local_times one k = local_each (λ s before. one) _ []

  -- ---- fields

  -- a field whose value v depends on its own bytes; where it has a range, it is of a size that is so
  module _ (size : ℕ) (some : 1 ≤ size) (most : size ≤ 2) (v : List ℕ → ℕ → ℕ)
      (own : (b c : List ℕ) (at : ℕ) → Alike (at + size) b c → v c at ≡ v b at)
      (in_range : ℕ → Bool) (sized : Size size ⊎ ((x : ℕ) → in_range x ≡ true)) where
    local_field : Local Size (λ b at. field size (v b at) in_range b at)
    local_field = record {
      forth = λ b at x next e. let g = field-got b size (v b at) in_range at x next e in omega (arith, g.3);
      within = λ b at x next e h. let g = field-got b size (v b at) in_range at x next e in omega (arith, g.3, g.0);
      read = λ b c at x next e same.
          let g = field-got b size (v b at) in_range at x next e in
          let same' : Alike (at + size) b c = subst (λ (k : ℕ). Alike k b c) g.3 same in
          rw (own b c at same') (field-there c size (v b at) in_range at same'.there ∙ sym (field-there b size (v b at) in_range at g.0) ∙ e);
      stop = λ b at k spot h e.
          let q = (field-refused size (v b at) in_range b at k spot).0 e in
          record {
            from = omega (arith, q.0);
            to = omega (arith, q.0, h);
            cut = λ c same end.
                (field-refused size (v c at) in_range c at bundle_end_number spot).1 (q.0, inl (refl, omega (arith, q.0, end, some)));
            half = λ other c same end. ⊎_elim
                (λ (six, short). absurd (other six))
                (λ (seven, there, bad). ⊎_elim
                (λ short. inr ((field-refused size (v c at) in_range c at bundle_end_number spot).1 (q.0, inl (refl, short))))
                (λ long. let same' : Alike (at + size) b c = alike-less (omega (arith, q.0, end, long)) same in
                inl ((field-refused size (v c at) in_range c at k spot).1 (q.0, inr (seven, long, rw (own b c at same') bad))))
                (lt_or_le (length c) (at + size)))
                q.1;
            cause = ⊎_elim
                (λ (six, short). inl (six, omega (arith, q.0, short, most)))
                (λ (seven, there, bad). inr (
                  λ six. omega (arith, six, seven),
                  (
                    size,
                    ⊎_elim (λ s. s) (λ always. absurd (false≢true (sym bad ∙ always (v b at)))) sized,
                    omega (arith, q.0, there),
                    λ c same.
                        let same' : Alike (at + size) b c = subst (λ (i : ℕ). Alike (i + size) b c) q.0 same in
                        (field-refused size (v c at) in_range c at k spot).1 (q.0, inr (seven, same'.there, rw (own b c at same') bad)),
                  ),
                ))
                q.1;
          };
    }

  pub local_byte : Size 1 → (in_range : ℕ → Bool) → Local Size (byte in_range)
  unfolding byte
  local_byte one in_range = local_field 1 (omega arith) (omega arith) (λ b at. get_or b at 0)
      (λ b c at same. same.same at (omega arith)) in_range (inl one)

  pub local_number : (in_range : ℕ → Bool) → Size 2 ⊎ ((x : ℕ) → in_range x ≡ true) → Local Size (number in_range)
  unfolding number
  local_number in_range sized = local_field 2 (omega arith) (omega arith) number_at number_at-alike in_range sized

  pub local_any : Local Size (number anything)
  local_any = local_number anything (inr (λ x. refl))
