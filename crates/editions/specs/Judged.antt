-- What conversion answers behind the judge: its refusal, or what the contents of an accepted bundle get.
use Rattle.std.specs.Prelude.{◌≡◌, List, ℕ, Err, Ok}
use Rattle.laws.specs.Numbers.{Bytes}
use Rattle.refusals.specs.Results.{refused}
use Rattle.refusals.specs.declared.Refusal.{Refusal}
use Rattle.verdicts.specs.Judging.{verdict}
use Rattle.verdicts.specs.Acceptance.{AcceptedAs}
use Rattle.verdicts.specs.declared.Tally.{Tally}
use Rattle.contents.specs.Contents.{contents_of, judged-accepted, behind-refused, behind-accepted}
use Rattle.editions.specs.Converting.{in_new, in_old, converting_to_new, converting_to_old}

module _ (table_length : ℕ) (b : List ℕ) where
  -- a refusal of the judge
  pub to_new-refused : (r : Refusal) → verdict table_length b ≡ Err r → converting_to_new table_length b ≡ refused r.number r.spot
  unfolding converting_to_new
  to_new-refused r e = behind-refused table_length b in_new r e

  pub to_old-refused : (r : Refusal) → verdict table_length b ≡ Err r → converting_to_old table_length b ≡ refused r.number r.spot
  unfolding converting_to_old
  to_old-refused r e = behind-refused table_length b in_old r e

  -- an accepted bundle
  module _ (bytes : Bytes b) (t : Tally) (accepted : verdict table_length b ≡ Ok t) where
    pub accepted-as : AcceptedAs b t (contents_of b)
    accepted-as = (judged-accepted table_length b bytes t accepted).0

    pub to_new-accepted : converting_to_new table_length b ≡ in_new (contents_of b)
    unfolding converting_to_new
    to_new-accepted = behind-accepted table_length b in_new bytes t accepted

    pub to_old-accepted : converting_to_old table_length b ≡ in_old (contents_of b)
    unfolding converting_to_old
    to_old-accepted = behind-accepted table_length b in_old bytes t accepted
