-- `places::first_bad` meets its contract: all bytes are below a number that is none.
use Rattle.std.specs.Prelude.{◌≡◌, true, List, [], ◌∷◌, ℕ, suc, ◌≤◌, ◌<◌, ltb, get_or}
use Rattle.std.proofs.Common.{refl, lt-ltb, arith}
use Rattle.laws.specs.Lists.{all}
use Rattle.places.specs.Words.{bad_event}
use Rattle.places.proofs.first_bad.Goals as goal

wide : (n : ℕ) → 256 ≤ n → (w : List ℕ) → ((i : ℕ) → get_or w i 0 < 256) → all (λ e. ltb e n) w ≡ true
unfolding all
wide n h [] bytes = refl
wide n h (e ∷ w) bytes = let first = bytes 0 in rw (lt-ltb e n (omega (arith, first, h)), wide n h w (λ i. bytes (suc i))) refl

pub returns-in_default : goal.returns-in_default
unfolding bad_event
returns-in_default c = rw (wide c.args.n (omega (arith, c.in_default.ensures)) c.args.word.now (λ i. omega (arith, c.type_inv.word i))) refl
