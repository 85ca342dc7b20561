-- Laws of answers: one for each way that a call ends, and what a caller learns from an answer.
use Rattle.std.specs.Prelude.{◌≡◌, ◌↔◌, ◌⊎◌, refl, Bool, true, false, List, ◌∷◌, ℕ, ◌≤◌, ◌<◌, length, take, drop, leb, Ok, Err}
use Rattle.std.proofs.Common.{sym, ap, ◌∙◌, inl, inr, ⊎_elim, arith, leb-false}
use borrow.Author.Tests.{lt-leb, le-leb, leb-true}
use Rattle.laws.specs.Booleans.{impossible}
use Rattle.laws.specs.Lists.{among}
use Rattle.laws.specs.Parts.{front, take-front, front_rest}
use Rattle.refusals.specs.Table.{output_short_number}
use Rattle.refusals.specs.Results.{Result, value, refused, bind, require, bind-value, bind-refused, passed, number_in, Refuses, refuses-value, refuses-require, refuses-then, numbers-listed}
use Rattle.refusals.specs.Answers.{refusal, fitted, answer_of, answer, output_of, written, number_of}
use Rattle.refusals.specs.declared.Refusal.{Refusal}
use Rattle.refusals.specs.Laws.{Ends}

module _ (result : Result (List ℕ)) (output : List ℕ) where
  ends : (m : Result (List ℕ)) → fitted result (length output) ≡ m → Ends result output (answer_of m) (output_of m output)
  unfolding answer written
  ends m e = rw (← e) (refl, refl)

  -- a refusal
  pub ends-refused : (number spot : ℕ) → result ≡ refused number spot → Ends result output (Err (refusal number spot)) output
  unfolding fitted bind answer_of output_of
  ends-refused number spot e = ends (refused number spot) (rw e)

  -- a result that does not fit
  pub ends-short : (new : List ℕ) → result ≡ value new → length output < length new → Ends result output (Err (refusal output_short_number (length new))) output
  unfolding fitted bind require answer_of output_of
  ends-short new e short = ends (refused output_short_number (length new)) (rw (e, lt-leb _ _ short))

  -- a result in front of the output
  pub ends-written : (new : List ℕ) → result ≡ value new → length new ≤ length output → Ends result output (Ok (length new)) (front new output)
  unfolding fitted bind require answer_of output_of
  ends-written new e room = ends (value new) (rw (e, le-leb _ _ room))

-- what an answer says of the chain behind it
length→value : (m : Result (List ℕ)) (n : ℕ) → answer_of m ≡ Ok n → (new : List ℕ) × (m ≡ value new) × (n ≡ length new)
unfolding answer_of
length→value (value new) n e = (new, refl, cc)
length→value (refused number spot) n e = impossible cc

pub answer_of-refused : (m : Result (List ℕ)) (r : Refusal) → answer_of m ≡ Err r → m ≡ refused r.number r.spot
unfolding answer_of
answer_of-refused (value new) r e = impossible cc
answer_of-refused (refused number spot) r e = let same : refusal number spot ≡ r = cc in ap (λ (x : Refusal). refused x.number x.spot) same

-- a length: the result is bytes, as many, which the output takes
fitted→ : (result : Result (List ℕ)) (room : ℕ) (new : List ℕ) → fitted result room ≡ value new → (result ≡ value new) × (length new ≤ room)
unfolding fitted
fitted→ result room new e =
    let r = bind-value result (λ l. bind (require (leb (length l) room) output_short_number (length l)) (λ u. value l)) new e in
    let p = passed (leb (length r.0) room) output_short_number (length r.0) (value r.0) new r.2 in
    let same : r.0 ≡ new = let is = p.1 in (cc) in
    (r.1 ∙ ap value same, omega (arith, leb-true (length r.0) room p.0, ap length same))

-- so they are in front of the output
pub answer-length : (result : Result (List ℕ)) (output : List ℕ) (n : ℕ) → answer result (length output) ≡ Ok n
    → (new : List ℕ) × (result ≡ value new) × ((n ≡ length new) × (written result output ≡ front new output))
unfolding answer written output_of
answer-length result output n e =
    let v = length→value (fitted result (length output)) n e in
    (v.0, (fitted→ result (length output) v.0 v.1).0, (v.2, ap (λ (m : Result (List ℕ)). output_of m output) v.1))

-- they lie in the output
pub answer-within : (result : Result (List ℕ)) (room n : ℕ) → answer result room ≡ Ok n → n ≤ room
unfolding answer
answer-within result room n e = let v = length→value (fitted result room) n e in omega (arith, v.2, (fitted→ result room v.0 v.1).1)

-- behind them the output is as it was
pub answer-rest : (result : Result (List ℕ)) (output : List ℕ) (n : ℕ) → answer result (length output) ≡ Ok n
    → (length (written result output) ≡ length output) × (drop n (written result output) ≡ drop n output)
answer-rest result output n e =
    let a = answer-length result output n e in
    let fits : length a.0 ≤ length output = omega (arith, answer-within result (length output) n e, a.2.0) in
    front_rest a.0 output (written result output) n a.2.0 a.2.1 fits

-- and the bytes in front of the output are the result
pub answer-fitted : (result : Result (List ℕ)) (output : List ℕ) (n : ℕ) → answer result (length output) ≡ Ok n
    → fitted result (length output) ≡ value (take n (written result output))
unfolding answer written output_of
answer-fitted result output n e = let v = length→value (fitted result (length output)) n e in go v.0 v.1 v.2
  where
    go : (new : List ℕ) → fitted result (length output) ≡ value new → n ≡ length new
        → fitted result (length output) ≡ value (take n (output_of (fitted result (length output)) output))
    go new is size = is ∙ ap value (sym (rw (size, is) (take-front new output)))

pub answer-taken : (result : Result (List ℕ)) (output : List ℕ) (n : ℕ) → answer result (length output) ≡ Ok n → result ≡ value (take n (written result output))
answer-taken result output n e = (fitted→ result (length output) (take n (written result output)) (answer-fitted result output n e)).0

-- and the other way
pub fitted-written : (result : Result (List ℕ)) (output new : List ℕ) → fitted result (length output) ≡ value new
    → (answer result (length output) ≡ Ok (length new)) × (take (length new) (written result output) ≡ new)
unfolding answer written answer_of output_of
fitted-written result output new e = (rw e, rw e (take-front new output))

-- a refusal is the chain's, the output's length included
pub answer-refused : (result : Result (List ℕ)) (room : ℕ) (r : Refusal) → answer result room ≡ Err r → fitted result room ≡ refused r.number r.spot
unfolding answer
answer-refused result room r e = answer_of-refused (fitted result room) r e

-- it writes nothing
pub refused-writes-nothing : (result : Result (List ℕ)) (output : List ℕ) (r : Refusal) → answer result (length output) ≡ Err r → written result output ≡ output
unfolding written output_of
refused-writes-nothing result output r e = rw (answer-refused result (length output) r e)

-- the numbers of a call that writes: those of its chain, and output_short_number
pub refuses-fitted : {numbers : List ℕ} {result : Result (List ℕ)} → Refuses numbers result → among output_short_number numbers ≡ true → (room : ℕ)
    → Refuses numbers (fitted result room)
unfolding fitted
refuses-fitted only short room = refuses-then only (λ new. refuses-then (refuses-require _ output_short_number _ (inr short)) (λ u. refuses-value new))

pub written-numbers : {numbers : List ℕ} {result : Result (List ℕ)} → Refuses numbers result → among output_short_number numbers ≡ true → (room : ℕ)
    → among (number_of (answer result room)) (0 ∷ numbers) ≡ true
unfolding answer number_of answer_of number_in
written-numbers {numbers} {result} only short room = same (fitted result room) ∙ numbers-listed (refuses-fitted only short room)
  where
    same : (m : Result (List ℕ)) → among (number_of (answer_of m)) (0 ∷ numbers) ≡ among (number_in m) (0 ∷ numbers)
    same (value new) = refl
    same (refused number spot) = refl

-- ---- exactly when it ends how

-- a test, and bytes behind it
module _ (ok : Bool) (number spot : ℕ) (new : List ℕ) where
  pub require-refused : (k at : ℕ) → (bind (require ok number spot) (λ u. value new) ≡ refused k at) ↔ ((k ≡ number) × (at ≡ spot) × (ok ≡ false))
  unfolding bind require
  require-refused k at = (to ok, λ (n, s, e). rw (e, n, s))
    where
      to : (b : Bool) → bind (require b number spot) (λ u. value new) ≡ refused k at → (k ≡ number) × (at ≡ spot) × (b ≡ false)
      to true e = impossible cc
      to false e = (cc, cc, refl)

  pub require-value : (l : List ℕ) → (bind (require ok number spot) (λ u. value new) ≡ value l) ↔ ((ok ≡ true) × (l ≡ new))
  unfolding bind require
  require-value l = (to ok, λ (e, is). rw (e, is))
    where
      to : (b : Bool) → bind (require b number spot) (λ u. value new) ≡ value l → (b ≡ true) × (l ≡ new)
      to true e = (refl, cc)
      to false e = impossible cc

module _ (result : Result (List ℕ)) (room : ℕ) where
  -- with a length: the result's, which the output takes
  pub answer-value : (n : ℕ) → (answer result room ≡ Ok n) ↔ ((new : List ℕ) × (result ≡ value new) × (n ≡ length new) × (n ≤ room))
  unfolding answer fitted bind require answer_of
  answer-value n = (
    (λ e.
        let v = length→value (fitted result room) n e in
        (v.0, (fitted→ result room v.0 v.1).0, v.2, omega (arith, v.2, (fitted→ result room v.0 v.1).1))),
    λ (new, is, size, fits). rw (is, le-leb (length new) room (omega (arith, size, fits)), size),
  )

  -- with a refusal: the chain's, or output_short_number with the result's length
  pub answer-refusal : (number spot : ℕ) → (answer result room ≡ Err (refusal number spot)) ↔ ((result ≡ refused number spot)
      ⊎ ((number ≡ output_short_number) × ((new : List ℕ) × (result ≡ value new) × (spot ≡ length new) × (room < spot))))
  unfolding answer fitted bind require answer_of
  answer-refusal number spot = (
    (λ e. ⊎_elim
        (λ is. inl is)
        (λ (new, is, rest).
        let (k, at, long) = (require-refused (leb (length new) room) output_short_number (length new) new number spot).0 rest in
        inr (k, (new, is, at, omega (arith, at, leb-false (length new) room long))))
        (bind-refused result _ number spot (answer-refused result room (refusal number spot) e))),
    λ r. ⊎_elim
        (λ is. rw is)
        (λ (k, (new, is, at, short)). rw (is, lt-leb (length new) room (omega (arith, at, short)), k, at))
        r,
  )
