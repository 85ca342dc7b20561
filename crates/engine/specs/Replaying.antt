-- The events of a run on another net: what the code answers and leaves.
use Rattle.std.specs.Prelude.{◌≡◌, List, ℕ, ◌≤◌, ◌<◌, T, ℤ, ltb, length, get_or}
use Rattle.std.proofs.Common.{◌∙◌, subst, arith}
use Rattle.std.proofs.lemmas.List.{length-map}
use Rattle.std.specs.Int.Signed.{non_neg}
use Rattle.laws.specs.Differences.{positive_part}
use Rattle.laws.specs.Lists.{all, get_d_map}
use Rattle.laws.specs.Scans.{failing-all, failing-some}
use Rattle.refusals.specs.Table.{word_event_number, run_stopped_number}
use Rattle.refusals.specs.Results.{Result, value, refused, bind, ◌>>◌, require}
use Rattle.nets.specs.Nets.{Word, Place, no_place, counts, tokens, screen, permitted, stopped}
use Rattle.nets.specs.Carrying.{marking_by, marking_after}
use Rattle.nets.specs.Events.{first_bad, none_bad, each_below}
use Rattle.nets.specs.Screening.{screen-permitted}
use Rattle.nets.proofs.Carrying.{carried-counted}
use Rattle.bundles.specs.declared.net.Net as bundle
use Rattle.engine.specs.Engine.{unless_stopped, behind_events}
use Rattle.engine.specs.Playing.{places_of, places-count}

-- the tokens of the places by the counts of events
abbrev pub tokens_by : bundle.Net → List ℕ → List ℕ
tokens_by net v = marking_by net.n (places_of net) v

-- none of them is below zero
abbrev pub NoneNegative : bundle.Net → List ℕ → Type 0
NoneNegative net v = (j : ℕ) → j < net.count → T (non_neg (tokens net.n (get_or (places_of net) j no_place) v))

-- 15, then 23, else the marking behind the events
unfoldable pub marking_of : bundle.Net → Word → Result (List ℕ)
marking_of net w = do
  require (all (λ e. ltb e net.n) w) word_event_number (first_bad net.n w)
  behind_events net.n (places_of net) w

module _ (net : bundle.Net) (v : List ℕ) where
  pub marking-count : length (tokens_by net v) ≡ net.count
  marking-count = length-map (places_of net) (λ (p : Place). positive_part (tokens net.n p v)) ∙ places-count net

  pub marking-there : (j : ℕ) → j < net.count → get_or (tokens_by net v) j 0 ≡ positive_part (tokens net.n (get_or (places_of net) j no_place) v)
  marking-there j h =
      get_d_map (λ (p : Place). positive_part (tokens net.n p v)) (places_of net) j no_place 0 (omega (arith, h, places-count net))

-- ---- the exits

module _ (net : bundle.Net) (w : Word) where
  pub marking_of-bad : first_bad net.n w < length w → marking_of net w ≡ refused word_event_number (first_bad net.n w)
  unfolding marking_of bind require first_bad
  marking_of-bad h = rw (failing-some (λ e. ltb e net.n) w h)

  module _ (below : length w ≤ first_bad net.n w) where
    pub marking_of-stopped : (i j k : ℕ) → screen net.n (places_of net) w ≡ stopped i j k → marking_of net w ≡ refused run_stopped_number i
    unfolding marking_of bind require first_bad behind_events unless_stopped
    marking_of-stopped i j k e = rw (failing-all (λ e. ltb e net.n) w below, e)

    pub marking_of-permitted : screen net.n (places_of net) w ≡ permitted → marking_of net w ≡ value (tokens_by net (counts net.n w))
    unfolding marking_of bind require first_bad behind_events unless_stopped marking_after
    marking_of-permitted e = rw (failing-all (λ e. ltb e net.n) w below, e)

    -- a permitted word leaves no place below zero
    pub none-negative : screen net.n (places_of net) w ≡ permitted → NoneNegative net (counts net.n w)
    none-negative e j h =
        let permits = (screen-permitted net.n (places_of net) w).0 e in
        let marking = carried-counted net.n (places_of net) w (each_below net.n w (none_bad net.n w below)) permits j (omega (arith, h, places-count net)) in
        subst (λ (z : ℤ). T (non_neg z)) marking tt
