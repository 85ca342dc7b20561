-- The words and the certificates that the code gives, as entries and pieces of a bundle.
use Rattle.nets.specs.Nets.{Entry}
use Rattle.contents.specs.Certificates.{Piece, place, weights}
use Rattle.contents.specs.declared.words.Word.{Word}
use Rattle.contents.specs.declared.certificates.Certificate.{Certificate}
use Rattle.contents.specs.declared.certificates.Certificate.TheVariants.{Place, Weights}

abbrev pub shown_word : Word → Entry
shown_word w = record { word = w.events.now; completed = w.completed }

abbrev pub shown : Certificate → Piece
shown (Place j) = place j
shown (Weights bytes) = weights bytes.now
