-- Samples for the definitions: where each number stands in `answer`, which held 10, 11, 12 and 13.
use Rattle.std.specs.Prelude.{◌≡◌, refl, List, [], ◌∷◌, ℕ, Err, None, Ok, Some}
use Rattle.refusals.specs.Answers.{refusal, value_of}
use Rattle.engine.specs.declared.Outcome.TheVariants.{Moved, Stopped}
use Rattle.numbers.specs.Numbers.{with_value, with_taken, with_verdict, with_stop, with_screened, with_stepped, with_size, with_done}

abbrev before : List ℕ
before = 10 ∷ 11 ∷ 12 ∷ 13 ∷ []

-- what computing gives
pub record Computed : Type 0 where
  pub length : with_value before (Ok 5) ≡ 5 ∷ 11 ∷ 12 ∷ 13 ∷ []
  pub summary : with_taken before (Ok (record { n = 2; rows = 4; events = 3 })) ≡ 2 ∷ 4 ∷ 3 ∷ 13 ∷ []
  pub counts : with_verdict before (Ok (record { rows = 7; allowed = 6; by_place = 5; by_weights = 3 })) ≡ 7 ∷ 6 ∷ 5 ∷ 3 ∷ []
  pub permitted : with_screened before (Ok None) ≡ 10 ∷ 11 ∷ 12 ∷ 13 ∷ []
  pub stop : with_screened before (Ok (Some (record { position = 3; place = 1; shortfall = 2 }))) ≡ 3 ∷ 1 ∷ 2 ∷ 13 ∷ []
  pub moved : with_stepped before (Ok (Moved 4)) ≡ 4 ∷ 11 ∷ 12 ∷ 13 ∷ []
  pub stopped : with_stepped before (Ok (Stopped (record { position = 3; place = 1; shortfall = 2 }))) ≡ 3 ∷ 1 ∷ 2 ∷ 13 ∷ []
  pub found : with_size before (Ok (Some 4)) ≡ 4 ∷ 11 ∷ 12 ∷ 13 ∷ []
  pub none : with_size before (Ok None) ≡ 10 ∷ 11 ∷ 12 ∷ 13 ∷ []
  pub done : with_done before (Ok tt) ≡ 10 ∷ 11 ∷ 12 ∷ 13 ∷ []
  -- a refusal's spot
  pub spots : (with_value before (Err (refusal 3 53)) ≡ 53 ∷ 11 ∷ 12 ∷ 13 ∷ [])
      × (with_taken before (Err (refusal 7 4)) ≡ 4 ∷ 11 ∷ 12 ∷ 13 ∷ [])
      × (with_verdict before (Err (refusal 12 2)) ≡ 2 ∷ 11 ∷ 12 ∷ 13 ∷ [])
      × (with_screened before (Err (refusal 15 1)) ≡ 1 ∷ 11 ∷ 12 ∷ 13 ∷ [])
      × (with_stepped before (Err (refusal 16 9)) ≡ 9 ∷ 11 ∷ 12 ∷ 13 ∷ [])
      × (with_size before (Err (refusal 15 8)) ≡ 8 ∷ 11 ∷ 12 ∷ 13 ∷ [])
      × (with_done before (Err (refusal 23 6)) ≡ 6 ∷ 11 ∷ 12 ∷ 13 ∷ [])

pub computed : Computed
unfolding value_of with_value with_taken with_verdict with_stop with_screened with_stepped with_size with_done
computed = record {
  length = refl;
  summary = refl;
  counts = refl;
  permitted = refl;
  stop = refl;
  moved = refl;
  stopped = refl;
  found = refl;
  none = refl;
  done = refl;
  spots = (refl, refl, refl, refl, refl, refl, refl);
}
