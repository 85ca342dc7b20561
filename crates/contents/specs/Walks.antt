-- A loop over the words or the certificates of a bundle: which of them a turn has, and that all were there at its end.
use Rattle.std.specs.Prelude.{◌≡◌, Bool, ◌<◌, Option, Some, None, length, get_or}
use Rattle.std.specs.Iterator.{YieldsFirstBy, Yields}
use Rattle.std.proofs.Common.{◌∙◌}
use Rattle.std.proofs.lemmas.List.{length-map, get_or_default}
use Rattle.std.proofs.lemmas.Iterator.{YieldsList}
use Rattle.std.proofs.lemmas.Iterator.Consumers.{YieldsList-from_first, YieldsList-turn, YieldsList-end}
use mathlib.Core.List.{List, map}
use Rattle.nets.specs.Nets.{Entry, no_entry}
use Rattle.bundles.specs.Layout.{Contents}
use Rattle.contents.specs.Contents.{certificates_bytes}
use Rattle.contents.specs.Certificates.{Piece, pieces, piece_of, no_certificate, certificates-pieces, piece-turn}
use Rattle.contents.specs.Shown.{shown, shown_word}
use Rattle.contents.specs.Words.{entries_of}
use Rattle.contents.specs.declared.words.Word.{Word}
use Rattle.contents.specs.declared.words.Words.{Words}
use Rattle.contents.specs.declared.certificates.Certificate.{Certificate}
use Rattle.contents.specs.declared.certificates.Certificates.{Certificates}

-- ---- words

abbrev pub words_left : Words → List Entry
words_left walk = entries_of walk.is_new walk.rest.now

-- all words are still to come
abbrev pub AllWords : Contents → Words → Type 0
AllWords c walk = words_left walk ≡ c.head.entries

module _ (c : Contents) (start : Words) (all : AllWords c start) where
  -- a walk over them gives the entries
  pub words-road : YieldsList (YieldsFirstBy shown_word words_left) shown_word start c.head.entries
  words-road = YieldsList-from_first shown_word words_left c.head.entries all

  module _ (xs : List Word) (now : Words) (so_far : Yields (YieldsFirstBy shown_word words_left) start xs now) where
    -- the word of a turn
    pub word-turn : (r : Option Word) (next : Words) (x : Word) → r ≡ Some x → YieldsFirstBy shown_word words_left now r next
        → (length xs < length c.head.entries) × (shown_word x ≡ get_or c.head.entries (length xs) no_entry)
    word-turn r next x e step =
        let turn = YieldsList-turn words-road xs now so_far r next x e step in
        (turn.0, turn.1 ∙ get_or_default c.head.entries (length xs) (shown_word x) no_entry turn.0)

    -- at the end all were there
    pub words-end : (r : Option Word) (next : Words) → r ≡ None → YieldsFirstBy shown_word words_left now r next → length xs ≡ length c.head.entries
    words-end r next e step = (YieldsList-end words-road xs now so_far r next e step).1

-- ---- certificates

-- all certificates are still to come
pub record AllToCome (c : Contents) (walk : Certificates) : Type 0 where
  pub edition : walk.is_new ≡ c.head.is_new
  pub rest : walk.rest.now ≡ certificates_bytes c

abbrev left : Certificates → List Piece
left walk = pieces walk.is_new walk.rest.now

module _ (c : Contents) (start : Certificates) (all : AllToCome c start)
    (xs : List Certificate) (now : Certificates) (so_far : Yields (YieldsFirstBy shown left) start xs now) where
  abbrev is_new : Bool
  is_new = c.head.is_new

  all-left : left start ≡ map (piece_of is_new) c.certificates
  all-left = rw (all.edition, all.rest) (certificates-pieces is_new c.certificates)

  road : YieldsList (YieldsFirstBy shown left) shown start (map (piece_of is_new) c.certificates)
  road = YieldsList-from_first shown left (map (piece_of is_new) c.certificates) all-left

  -- the certificate of a turn
  pub walk-turn : (r : Option Certificate) (next : Certificates) (x : Certificate) → r ≡ Some x → YieldsFirstBy shown left now r next
      → (length xs < length c.certificates) × (shown x ≡ piece_of is_new (get_or c.certificates (length xs) no_certificate))
  walk-turn r next x e step =
      let turn = YieldsList-turn road xs now so_far r next x e step in
      piece-turn is_new c.certificates (length xs) (shown x) turn.0 turn.1

  pub walk-end : (r : Option Certificate) (next : Certificates) → r ≡ None → YieldsFirstBy shown left now r next → length xs ≡ length c.certificates
  walk-end r next e step = let end = YieldsList-end road xs now so_far r next e step in end.1 ∙ length-map c.certificates (piece_of is_new)
