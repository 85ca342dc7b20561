-- The code's place as a place of the definitions, and the tokens that code reckons with.
use Rattle.std.specs.Prelude.{◌≡◌, List, [], ℕ, ◌^◌, ◌<◌, ℤ, get_or, replicate}
use Rattle.std.proofs.Math.IntN.{sub_ℕ}
use Rattle.limits.specs.Limits.{max_events}
use Rattle.nets.specs.Nets.{Place}
use Rattle.places.specs.declared.Place as Declared

abbrev pub place_of : Declared.Place → Place
place_of p = record { initial = p.initial; produced = λ i. get_or p.produced i 0; consumed = λ i. get_or p.consumed i 0 }

-- a place that holds no token, and gets and loses none
abbrev pub blank_place : Declared.Place
blank_place = record { initial = 0; produced = replicate max_events 0; consumed = replicate max_events 0 }

-- place j of a list
abbrev pub place_at : List Declared.Place → ℕ → Declared.Place
place_at places j = get_or places j (record { initial = 0; produced = []; consumed = [] })

-- so many tokens as a place may hold, or lack: a difference of two numbers that are far from the bounds of an `i64`
pub record Held (t : ℤ) : Type 0 where
  pub plus : ℕ
  pub minus : ℕ
  pub is : t ≡ sub_ℕ plus minus
  pub far : (plus < 2 ^ 62) × (minus < 2 ^ 62)

pub held : {t : ℤ} (plus minus : ℕ) → plus < 2 ^ 62 → minus < 2 ^ 62 → t ≡ sub_ℕ plus minus → Held t
held plus minus p m is = record { plus = plus; minus = minus; is = is; far = (p, m) }
