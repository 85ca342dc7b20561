-- Completed words: which they are, and which places and nets obey them.
use Rattle.std.specs.Prelude.{◌≡◌, false, ℕ, pos}
use mathlib.Core.List.{List, Memᴰ}
use Rattle.nets.specs.Nets.{Word, Log, Entry, Place, completed_words, counts, effect}

-- w is a completed word of the log
abbrev pub Completed : List Entry → Word → Type 0
Completed entries w = Memᴰ w (completed_words entries)

-- each completed word leaves the tokens of the place as they were
abbrev pub Returns : ℕ → Log → Place → Type 0
Returns n completed p = (w : Word) → Memᴰ w completed → effect n p (counts n w) ≡ pos 0

-- no word is completed, as in a bundle of the old edition
abbrev pub NoneCompleted : List Entry → Type 0
NoneCompleted entries = (x : Entry) → Memᴰ x entries → x.completed ≡ false
