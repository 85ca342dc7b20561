-- `incidence::Incidence::find_word` meets its contract.
use Rattle.std.proofs.Common.{true≢false, suc, take, drop, length-take, length-drop, length-set, drop_of_length-le, ◌++◌, ◌≡◌, refl, sym, ap, ◌∙◌, arith, ℕ, ◌-◌, ◌≤◌, List, [], ◌∷◌, length, set}
use Rattle.std.specs.Prelude.{Some, None}
use mathlib.Core.List.{append-nil}
use borrow.Rule.Slice.PartMut.{put_mid}
use Rattle.laws.specs.Lists.{each_next}
use Rattle.nets.specs.Nets.{Word}
use Rattle.laws.specs.Firsts.{first_of}
use Rattle.nets.specs.Carrying.{AllEnough}
use Rattle.incidence.specs.Incidence.{places_in, first_behind}
use Rattle.incidence.specs.IncidenceLaws.{beginning, enough-moves, refused-first, moved-first, moved-none, leading-first, leading-none}
use Rattle.incidence.proofs.Incidence.+find_word.Goals as goal
use Rattle.incidence.proofs.Incidence.+find_word.Goals.{After-find_word}

-- a front of one element and a new rest
module _ (word new : List ℕ) (k : ℕ) (is : k ≡ length word - 1) (size : length new ≡ k) where
  split-word : 1 ≤ length word → (x : ℕ) × (put_mid 1 k word new ≡ x ∷ new)
  split-word some = go word is some
    where
      go : (word : List ℕ) → k ≡ length word - 1 → 1 ≤ length word → (x : ℕ) × (put_mid 1 k word new ≡ x ∷ new)
      go [] is some = absurd (omega arith)
      go (x ∷ xs) is some =
          let over : length xs ≤ k = omega (arith, is) in
          (x, ap (λ (l : List ℕ). x ∷ (new ++ l)) (drop_of_length-le xs over) ∙ ap (λ (l : List ℕ). x ∷ l) (append-nil new))

  set_front : (e : ℕ) → 1 ≤ length word → set (put_mid 1 k word new) 0 e ≡ e ∷ new
  set_front e some = let (x, same) = split-word some in ap (λ (l : List ℕ). set l 0 e) same

  front-length : 1 ≤ length word → length (put_mid 1 k word new) ≡ length word
  front-length some = let (x, same) = split-word some in omega (arith, ap length same)

-- the rest of a word behind its front
rest_length : (word : List ℕ) → length (take (length word - 1) (drop 1 word)) ≡ length word - 1
rest_length word = omega (arith, length-take (length word - 1) (drop 1 word), length-drop 1 word)

set_single : (word : List ℕ) (e : ℕ) → length word ≡ 1 → set word 0 e ≡ e ∷ []
set_single [] e one = absurd (omega arith)
set_single (x ∷ []) e one = refl
set_single (x ∷ y ∷ word) e one = absurd (omega arith)

pub returns-then-word-eq1 : goal.returns-then-word-eq1
returns-then-word-eq1 fuel c =
    let b = c.args.self.now in
    let found = c.in-Some.ensures.0 in
    record {
      size = length-set c.args.word.now 0 c.in-Some.event;
      some = λ q. ap (first_behind b c.args.tokens.now c.args.wanted) c.if-word-eq1.true ∙ found
          ∙ ap (λ (w : Word). Some w) (sym (set_single c.args.word.now c.in-Some.event c.if-word-eq1.true));
      none = λ q. absurd (true≢false q);
    }

pub loop-event-init : goal.loop-event-init
loop-event-init fuel c = (refl, λ i h. absurd (omega arith))

pub loop-event-preserved-then-not-advance : goal.loop-event-preserved-then-not-advance
loop-event-preserved-then-not-advance fuel c =
    let b = c.args.self.now in
    let ts = c.args.tokens.now in
    let d = length c.args.word.now - 1 in (
      c.loop-event.invariant.0,
      each_next (λ (i : ℕ). first_of (beginning b.n (places_in b) ts c.args.wanted d i) ≡ None) c.loop-event.event c.loop-event.invariant.1
          (refused-first b.n (places_in b) ts c.args.wanted d c.loop-event.event (sym c.advance.ensures.is ∙ c.if-not-advance.true)),
    )

-- the event was played, and the rest of the word searched behind it
module _ (fuel : ℕ) (c : After-find_word fuel) where
  abbrev old : List ℕ
  old = c.loop-event.word

  abbrev new : List ℕ
  new = c.find_word.new.word

  some : 1 ≤ length old
  some = omega (arith, c.requires.1, c.loop-event.invariant.0)

  size : length new ≡ length old - 1
  size = c.find_word.ensures.size ∙ rest_length old

  -- as many events are left as before, without the first
  same : length (take (length old - 1) (drop 1 old)) ≡ length c.args.word.now - 1
  same = omega (arith, rest_length old, c.loop-event.invariant.0)

  as_long : length (put_mid 1 (length old - 1) old new) ≡ length c.args.word.now
  as_long = front-length old new (length old - 1) refl size some ∙ c.loop-event.invariant.0

  enough : AllEnough (places_in c.args.self.now) c.args.tokens.now c.loop-event.event
  enough = enough-moves (places_in c.args.self.now) c.args.tokens.now c.loop-event.event (sym c.advance.ensures.is ∙ c.if-not-advance.false)

pub returns-then-find_word : goal.returns-then-find_word
returns-then-find_word fuel c =
    let at = (goal.at.returns-then-find_word fuel c).After-find_word in
    let b = c.args.self.now in
    let net = places_in b in
    let ts = c.args.tokens.now in
    let e = c.loop-event.event in
    let d = length c.args.word.now - 1 in
    let old = c.loop-event.word in
    let new = c.find_word.new.word in
    let found = ap (first_behind b c.advance.new.behind c.args.wanted) (sym (same fuel at)) ∙ c.find_word.ensures.some c.if-find_word.true in
    let moved = c.advance.ensures.behind c.if-not-advance.false in
    let one = moved-first b.n net ts c.args.wanted d e (enough fuel at) c.advance.new.behind c.loop-event.behind moved new found in
    let all = leading-first b.n net ts c.args.wanted d e c.loop-event-test.true c.loop-event.invariant.1 (e ∷ new) one in
    let written = set_front old new (length old - 1) refl (size fuel at) e (some fuel at) in
    let more : length c.args.word.now ≡ suc d = omega (arith, c.requires.1) in
    record {
      size = length-set (put_mid 1 (length old - 1) old new) 0 e ∙ as_long fuel at;
      some = λ q. ap (first_behind b ts c.args.wanted) more ∙ all ∙ ap (λ (w : Word). Some w) (sym written);
      none = λ q. absurd (true≢false q);
    }

pub loop-event-preserved : goal.loop-event-preserved
loop-event-preserved fuel c =
    let at = (goal.at.loop-event-preserved fuel c).After-find_word in
    let b = c.args.self.now in
    let net = places_in b in
    let ts = c.args.tokens.now in
    let e = c.loop-event.event in
    let d = length c.args.word.now - 1 in
    let none = ap (first_behind b c.advance.new.behind c.args.wanted) (sym (same fuel at)) ∙ c.find_word.ensures.none c.if-find_word.false in (
      as_long fuel at,
      each_next (λ (i : ℕ). first_of (beginning b.n net ts c.args.wanted d i) ≡ None) e c.loop-event.invariant.1
          (moved-none b.n net ts c.args.wanted d e (enough fuel at) c.advance.new.behind c.loop-event.behind
          (c.advance.ensures.behind c.if-not-advance.false) none),
    )

pub returns : goal.returns
returns fuel c =
    let b = c.args.self.now in
    let d = length c.args.word.now - 1 in
    let more : length c.args.word.now ≡ suc d = omega (arith, c.requires.1) in
    let none = leading-none b.n (places_in b) c.args.tokens.now c.args.wanted d
    (λ i h. c.loop-event.invariant.1 i (omega (arith, h, c.loop-event-test.false))) in
    record {
      size = c.loop-event.invariant.0;
      some = λ q. absurd (true≢false (sym q));
      none = λ q. ap (first_behind b c.args.tokens.now c.args.wanted) more ∙ none;
    }
