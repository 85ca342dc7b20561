-- `contents::words::Words::next` meets its contract: what is cut off is the first word.
use Rattle.std.proofs.Common.{◌≡◌, sym, ap, ap₂, ◌∙◌, arith, Bool, ℕ, ◌+◌, ◌-◌, ◌<◌, eqb, length, take, drop, take_all, length-drop, List, [], ◌∷◌}
use Rattle.std.proofs.Math.Seq.{get_or-take}
use Rattle.std.proofs.lemmas.List.{nil_from_length}
use mir.Val.{bool_byte}
use Rattle.contents.specs.Cuts.{cut-none}
use Rattle.contents.specs.Words.{entries_of, word_size, first_word, WordInFront, word-front}
use Rattle.contents.proofs.words.WordsIterator.next.Goals as goal
use Rattle.contents.proofs.words.WordsIterator.next.Goals.{In_ok-first, After-from-marks, After-split_at, Joined-self, then-self, else-self}

pub returns-in_err-first-clause-steps : goal.returns-in_err-first-clause-steps
returns-in_err-first-clause-steps c =
    let self = c.args.self.now in
    let none : self.rest.now ≡ [] = nil_from_length _ (omega (arith, c.in_err-first.ensures.item.3)) in
    let left = ap (entries_of self.is_new) none ∙ cut-none _ _ in
    rw c.from_residual.ensures (left, left)

-- there is a first byte, and so a word
word : (c : In_ok-first) → WordInFront c.args.self.now.is_new c.args.self.now.rest.now
word c = let self = c.args.self.now in word-front self.is_new self.rest.now c.in_ok-first.ensures.item.3.0 self.whole

-- of so many bytes
size : (c : After-from-marks) → 1 + c.from-marks.result + c.from-size.result ≡ word_size c.args.self.now.is_new c.args.self.now.rest.now
unfolding word_size
size c = omega (arith, c.from-marks.ensures, c.from-size.ensures, c.in_ok-first.ensures.item.3.1 0)

pub split_at-requires : goal.split_at-requires
split_at-requires c =
    let at = goal.at.split_at-requires c in
    omega (arith, size at.After-from-marks, (word at.In_ok-first).inside)

pub invariant_of-self : goal.invariant_of-self
invariant_of-self c =
    let at = goal.at.invariant_of-self c in
    record { whole = rw (c.split_at.ensures.back, size at.After-from-marks) (word at.In_ok-first).rest }

-- its events
events : (c : After-split_at) → let word = c.split_at.result.0.now in
    let marks = c.from-marks.result in
    take (length word - (1 + marks)) (drop (1 + marks) word) ≡ (first_word c.args.self.now.is_new c.args.self.now.rest.now).word
unfolding first_word
events c =
    let word = c.split_at.result.0.now in
    take_all _ (drop (1 + c.from-marks.result) word) (omega (arith, length-drop (1 + c.from-marks.result) word))
    ∙ rw (c.split_at.ensures.front, size (goal.at.After-split_at c).After-from-marks, c.from-marks.ensures)

-- and its mark
completed : (c : Joined-self) → c.if-self.result ≡ (first_word c.args.self.now.is_new c.args.self.now.rest.now).completed
unfolding first_word
completed c =
    let rest = c.args.self.now.rest.now in
    elim c.if-self.branch [
      | then-self w ↦
          let mark : c.from-marks.result ≡ 1 = c.from-marks.ensures ∙ ap bool_byte w.if-self.true in
          let inside : 1 < 1 + c.from-marks.result + c.from-size.result = omega (arith, mark) in
          rw w.if-self.true (w.result-is ∙ rw c.split_at.ensures.front (ap (λ (n : ℕ). eqb n 1) (get_or-take _ rest 1 0 inside)))
      | else-self w ↦ rw w.if-self.false (w.result-is ∙ w.if-self.false)
    ]

pub returns-clause-steps : goal.returns-clause-steps
returns-clause-steps c =
    let at = goal.at.returns-clause-steps c in
    let left = entries_of c.args.self.now.is_new c.split_at.result.1.now in
    let in_front = rw (← size at.After-from-marks, ← c.split_at.ensures.back) at (word at.In_ok-first).is in
    in_front ∙ ap₂ (λ (w : List ℕ) (m : Bool). record { word = w; completed = m } ∷ left) (sym (events at.After-split_at)) (sym (completed c))

pub returns-clause-goes : goal.returns-clause-goes
returns-clause-goes c = record { on = λ fin. (tt, tt, (omega (arith, ap length (returns-clause-steps c)))); keeps = tt; rests = λ fin. tt }
