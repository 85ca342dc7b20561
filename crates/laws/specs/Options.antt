-- An Option taken for a result, with an error for none: which Option it was.
use Rattle.std.proofs.Common.{◌≡◌, Option, Some, None, Ok, Err, refl}
use Rattle.std.specs.Option.{ok_or}
use Rattle.laws.specs.Booleans.{impossible}

pub some_of : {A E : Type 0} → (o : Option A) (e : E) (x : A) → Ok x ≡ ok_or o e → o ≡ Some x
some_of (Some y) e x is = cc
some_of None e x is = impossible cc

pub none_of : {A E : Type 0} → (o : Option A) (e r : E) → Err r ≡ ok_or o e → (o ≡ None) × (e ≡ r)
none_of None e r is = (refl, cc)
none_of (Some x) e r is = impossible cc
