-- The places of a bundle are searched in a part of a word eight at a time.
use Rattle.std.specs.Prelude.{◌≡◌, refl, List, ◌++◌, Option, Some, None, ℕ, ◌+◌, ◌-◌, ◌*◌, min, ◌≤◌, ◌<◌, ℤ, pos, length, take, drop, get_or}
use Rattle.std.proofs.Common.{sym, ap, ◌∙◌, subst, ⊎_elim, add-mul, mul-le-mul_right, arith, length-take, length-drop, length-append, take_all, get_or-take, get_or-drop, get_or-append-add}
use Rattle.std.proofs.Math.ListN.{get_or-append}
use Rattle.std.specs.Option.{option_or}
use Rattle.laws.specs.Booleans.{impossible, lt_or_le}
use Rattle.limits.specs.Limits.{max_places}
use Rattle.nets.specs.Nets.{Word, Place}
use Rattle.replays.specs.Columns.{column_width}
use Rattle.bundles.specs.PlaceReading.{place_size, place_on}
use Rattle.bundles.specs.Keeping.{place_spot}
use Rattle.stops.specs.Positions.{stop_or_end}
use Rattle.stops.specs.Reached.{place_at, Reached}
use Rattle.stops.specs.Onward.{FrontOf, place_of, end_of, Late, Onward, onward-none, onward_then, onward-or, late-or, in_front}
use Rattle.parts.specs.Parts.{Marked, EightIn, MarkedAll, MarkedEight, eight, marked-cut}
use Rattle.bundles.specs.declared.net.Net as bundle
use Rattle.stops.specs.declared.Search.{Search}
use Rattle.stops.specs.declared.Stop.{Stop}

-- ---- Eight elements of a list written anew

-- t with eight elements from k on written anew
abbrev pub rewritten : ℕ → List ℤ → List ℤ → List ℤ
rewritten k y t = take k t ++ (y ++ drop column_width (drop k t))

module _ (k : ℕ) (y t : List ℤ) (room : k + column_width ≤ length t) (size : length y ≡ column_width) where
  front-size : length (take k t) ≡ k
  front-size = length-take k t ∙ omega arith

  before-part : (j : ℕ) → j < k → get_or (rewritten k y t) j (pos 0) ≡ get_or t j (pos 0)
  before-part j h = get_or-append (take k t) _ (pos 0) j (omega (arith, front-size)) ∙ get_or-take k t j (pos 0) h

  at_part : (i : ℕ) → get_or (rewritten k y t) (k + i) (pos 0) ≡ get_or (y ++ drop column_width (drop k t)) i (pos 0)
  at_part i = ap (λ (x : ℕ). get_or (rewritten k y t) (x + i) (pos 0)) (sym front-size) ∙ get_or-append-add (take k t) (y ++ drop column_width (drop k t)) i (pos 0)

  in_part : (i : ℕ) → i < column_width → get_or (rewritten k y t) (k + i) (pos 0) ≡ get_or y i (pos 0)
  in_part i h = at_part i ∙ get_or-append y _ (pos 0) i (omega (arith, size))

  behind-part : (i : ℕ) → get_or (rewritten k y t) (k + column_width + i) (pos 0) ≡ get_or t (k + column_width + i) (pos 0)
  behind-part i =
      let there : k + column_width + i ≡ k + (column_width + i) = omega arith in
      ap (λ (x : ℕ). get_or (rewritten k y t) x (pos 0)) there
      ∙ at_part (column_width + i)
      ∙ ap (λ (x : ℕ). get_or (y ++ drop column_width (drop k t)) (x + i) (pos 0)) (sym size)
      ∙ get_or-append-add y (drop column_width (drop k t)) i (pos 0)
      ∙ get_or-drop column_width (drop k t) i (pos 0)
      ∙ get_or-drop k t (column_width + i) (pos 0)
      ∙ ap (λ (x : ℕ). get_or t x (pos 0)) (sym there)

  rewritten-size : length (rewritten k y t) ≡ length t
  rewritten-size =
      length-append (take k t) (y ++ drop column_width (drop k t))
      ∙ omega (arith, front-size, length-append y (drop column_width (drop k t)), size, length-drop column_width (drop k t), length-drop k t)

-- ---- The search

-- place j of those behind the first k
pub place-behind : (n : ℕ) (b : List ℕ) (first k j : ℕ) → place_at n b (first + 2 * (k * place_size n)) j ≡ place_at n b first (k + j)
place-behind n b first k j = ap (place_on n b) (omega (arith, add-mul k j (place_size n)))

-- what holds of place j of a search's net, and of the same place among those from number k on
module _ (s : Search) (k : ℕ) (P : Place → Type 0) where
  abbrev later : ℕ → Place
  later j = place_at s.net.n s.net.bundle.now (place_spot s.net k) j

  pub place-there : (j : ℕ) → k ≤ j → P (later (j - k)) → P (place_of s j)
  place-there j low h =
      let there : k + (j - k) ≡ j = omega arith in
      subst P (place-behind s.net.n s.net.bundle.now s.net.first k (j - k) ∙ ap (place_at s.net.n s.net.bundle.now s.net.first) there) h

  pub place-here : (j : ℕ) → P (place_of s (k + j)) → P (later j)
  place-here j h = subst P (sym (place-behind s.net.n s.net.bundle.now s.net.first k j)) h

module _ (s : Search) (d : ℕ) (t₀ : List ℤ) where
  abbrev n : ℕ
  n = s.net.n

  abbrev b : List ℕ
  b = s.net.bundle.now

  abbrev first : ℕ
  first = s.net.first

  abbrev count : ℕ
  count = s.net.count

  abbrev w : Word
  w = s.word.now

  -- the columns below e are searched in the word behind its first d steps, with these tokens there; where no place of them refuses a step, t has the
  -- tokens behind the word
  pub record Searched (t : List ℤ) (e : ℕ) (best : Option Stop) : Type 0 where
    pub onward : Onward s 0 (min e count) None best
    pub late : Late s d best
    pub size : length t ≡ length t₀
    pub reached : best ≡ None → (j : ℕ) → j < e → j < count → Reached n w (place_at n b first j) (get_or t j (pos 0)) (length w)
    pub none : best ≡ None → (j : ℕ) → j < e → count ≤ j → get_or t j (pos 0) ≡ pos 0
    pub rest : (j : ℕ) → e ≤ j → get_or t j (pos 0) ≡ get_or t₀ j (pos 0)

  pub searched_start : d ≤ length w → Searched t₀ 0 None
  unfolding stop_or_end
  searched_start early = record {
    onward = let nothing : 0 ≡ min 0 count = omega arith in subst (λ (k : ℕ). Onward s 0 k None None) nothing (onward-none s 0 None);
    late = (early, omega arith);
    size = refl;
    reached = λ h j l. absurd (omega arith);
    none = λ h j l. absurd (omega arith);
    rest = λ j h. refl;
  }

  module _ (m : MarkedAll s d t₀) where
    -- all columns
    pub searched_all : {t : List ℤ} {e : ℕ} {best : Option Stop} → Searched t e best → count ≤ e → Onward s 0 count None best × (best ≡ None → MarkedAll s (length w) t)
    searched_all {t} {e} {best} found all =
        let whole : min e count ≡ count = omega arith in (
          subst (λ (k : ℕ). Onward s 0 k None best) whole found.onward,
          λ nothing. record {
            places = record {
              limit = m.places.limit;
              inside = m.places.inside;
              word = m.places.word;
              early = omega arith;
              room = omega (arith, m.places.room, found.size);
              reached = λ j h. found.reached nothing j (omega arith) h;
            };
            few = m.few;
            wide = omega (arith, m.wide, found.size);
            none = λ j h l. ⊎_elim (λ low. found.none nothing j low h) (λ high. found.rest j high ∙ m.none j h l) (lt_or_le j e);
          },
        )

    -- the next eight
    module _ {t : List ℤ} {e : ℕ} {best : Option Stop} (so_far : Searched t e best) (more : e < count) (room : e + column_width ≤ max_places)
        {before : Search} (front : FrontOf s (end_of s best) before) where
      abbrev few : ℕ
      few = eight s e

      abbrev offset : ℕ
      offset = place_spot s.net e

      wide : e + column_width ≤ length t
      wide = omega (arith, m.wide, so_far.size)

      pub next-marked : MarkedEight before e d (take column_width (drop e t))
      next-marked = in_front front (λ at k v. EightIn at v e d (take column_width (drop e t))) (marked-cut so_far.late.1 so_far.late.0 (record {
        places = record {
          limit = m.places.limit;
          inside = omega (arith, m.places.inside, add-mul e few (place_size n), mul-le-mul_right (place_size n) fits);
          word = m.places.word;
          early = m.places.early;
          room = omega (arith, length-take column_width (drop e t), length-drop e t, wide);
          reached = λ j h.
              let r = m.places.reached (e + j) (omega arith) in
              rw (place-behind n b first e j) (record { is = element j (omega arith) ∙ r.is; permits = r.permits });
        };
        few = omega arith;
        wide = omega (arith, length-take column_width (drop e t), length-drop e t, wide);
        none = λ j h l. element j l ∙ m.none (e + j) (omega arith) (omega arith);
      }))
        where
          fits : e + few ≤ count
          fits = omega arith

          element : (j : ℕ) → j < column_width → get_or (take column_width (drop e t)) j (pos 0) ≡ get_or t₀ (e + j) (pos 0)
          element j h = get_or-take column_width (drop e t) j (pos 0) h ∙ get_or-drop e t j (pos 0) ∙ so_far.rest (e + j) (omega arith)

      -- with what is found in them, and the tokens that are left
      module _ {found : Option Stop} {y : List ℤ} (size : length y ≡ column_width) (onward : Onward before e (eight before e) None found) (late : Late before d found)
          (left : found ≡ None → MarkedEight before e (length before.word.now) y) where
        -- where no step was refused so far
        last : found ≡ None → best ≡ None → MarkedEight s e (length w) y
        unfolding stop_or_end
        last none nothing =
            let all : before.word.now ≡ w = front.word ∙ ap (λ (o : Option Stop). take (end_of s o) w) nothing ∙ take_all (length w) w (omega arith) in
            subst (λ (v : Word). Marked column_width n b offset few v (length v) y) all (subst (λ (at : bundle.Net). EightIn at before.word.now e (length before.word.now) y) front.net (left none))

        both : option_or found best ≡ None → (found ≡ None) × (best ≡ None)
        both q = go found q
          where
            go : (o : Option Stop) → option_or o best ≡ None → (o ≡ None) × (best ≡ None)
            go None q = (refl, q)
            go (Some f) q = impossible cc

        known : (j : ℕ) → e ≤ j → j < e + column_width → get_or (rewritten e y t) j (pos 0) ≡ get_or y (j - e) (pos 0)
        known j h l =
            let there : e + (j - e) ≡ j = omega arith in
            ap (λ (x : ℕ). get_or (rewritten e y t) x (pos 0)) (sym there) ∙ in_part e y t wide size (j - e) (omega arith)

        beyond : (j : ℕ) → e + column_width ≤ j → get_or (rewritten e y t) j (pos 0) ≡ get_or t₀ j (pos 0)
        beyond j h =
            let there : e + column_width + (j - (e + column_width)) ≡ j = omega arith in
            subst (λ (x : ℕ). get_or (rewritten e y t) x (pos 0) ≡ get_or t x (pos 0)) there (behind-part e y t wide size (j - (e + column_width))) ∙ so_far.rest j (omega arith)

        pub next-searched : Searched (rewritten e y t) (e + column_width) (option_or found best)
        next-searched = record {
          onward =
              let start : 0 + min e count ≡ e = omega arith in
              let all : min e count + few ≡ min (e + column_width) count = omega arith in
              onward_then s 0 (min e count) few None best (option_or found best) start all so_far.onward (onward-or s best found front so_far.late.1 e (λ at. min column_width (at.count - e)) onward);
          late = late-or s best found front so_far.late.1 d late so_far.late;
          size = rewritten-size e y t wide size ∙ so_far.size;
          reached = λ nothing j l h.
              let q = both nothing in
              ⊎_elim
              (λ low. let r = so_far.reached q.1 j low h in record { is = before-part e y t wide size j low ∙ r.is; permits = r.permits })
              (λ high.
              let r = (last q.0 q.1).places.reached (j - e) (omega arith) in
              let there : e + (j - e) ≡ j = omega arith in
              let place : place_at n b offset (j - e) ≡ place_at n b first j = place-behind n b first e (j - e) ∙ ap (place_at n b first) there in
              subst (λ (p : Place). Reached n w p (get_or (rewritten e y t) j (pos 0)) (length w)) place (record { is = known j high l ∙ r.is; permits = r.permits }))
              (lt_or_le j e);
          none = λ nothing j l h. let q = both nothing in known j (omega arith) l ∙ (last q.0 q.1).none (j - e) (omega arith) (omega arith);
          rest = beyond;
        }
