-- The fields of a certificate, as the code reads them.
use Rattle.std.specs.Prelude.{◌≡◌, List, ℕ}
use Rattle.std.proofs.Common.{refl}
use Rattle.refusals.specs.Results.{bind}
use Rattle.bundles.specs.Reading.{Reader, ◌>>=◌, give, byte, number, onward}
use Rattle.bundles.specs.Layout.{TermFields, PairFields}
use Rattle.bundles.specs.Readers.{anything, term, pair}
use Rattle.bundles.specs.FieldReading.{below}
use Rattle.bundles.specs.declared.terms.Term.{Term}
use Rattle.bundles.specs.declared.terms.Pair.{Pair}
use Rattle.bundles.specs.declared.terms.Kind.{Kind}
use Rattle.bundles.specs.declared.terms.Kind.TheVariants.{Place, Weights}

-- the byte of a kind
abbrev pub kind_number : Kind → ℕ
kind_number Place = 0
kind_number Weights = 1

-- the fields of a term
abbrev pub term_fields : Term → TermFields
term_fields t = record { row = t.row; event = t.event; weight = t.weight }

-- a term's fields behind its row, and behind its event
abbrev pub made_term : ℕ → ℕ → ℕ → Reader TermFields
made_term row event weight = give (record { row = row; event = event; weight = weight })

abbrev pub behind_event : ℕ → ℕ → Reader TermFields
behind_event row event = number anything >>= made_term row event

abbrev pub behind_row : ℕ → ℕ → Reader TermFields
behind_row n row = byte (below n) >>= behind_event row

pub term_chain : (n rows : ℕ) (b : List ℕ) (at : ℕ) → term n rows b at ≡ (number (below rows) >>= behind_row n) b at
unfolding term bind onward
term_chain n rows b at = refl

-- the fields of a pair
abbrev pub pair_fields : Pair → PairFields
pair_fields q = record { word = q.word; weight = q.weight }

-- a pair's field behind its word
abbrev pub made_pair : ℕ → ℕ → Reader PairFields
made_pair word weight = give (record { word = word; weight = weight })

abbrev pub behind_word : ℕ → Reader PairFields
behind_word word = number anything >>= made_pair word

pub pair_chain : (words : ℕ) (b : List ℕ) (at : ℕ) → pair words b at ≡ (byte (below words) >>= behind_word) b at
unfolding pair bind onward
pair_chain words b at = refl
