-- The mistakes that the requirements name, as samples for the definitions: what is computed, with what is expected.
use Rattle.std.specs.Prelude.{◌≡◌, true, false, cond, Some, None, ℕ, eqb, ℤ, pos, neg_ℤ, length}
use mathlib.Core.List.{List, [], ◌∷◌, map}
use Rattle.nets.specs.Nets.{Word, Log, Entry, Place, Net, no_place, stopped, words, completed_words, step_after, rows, allowed, traffic, allowed_steps, wrong_continuations, obeys, permits, permits_log, screen}
use Rattle.nets.specs.Bundle.{Term, Pair, Weights, Certificate, by_place, by_weights, Bundle, weights_hold, accepted}
use Rattle.nets.specs.Reaching.{reached}

-- the log of I: prefixes 0 1 and 1 0 have the same counts, so 3 is allowed after 0 1
abbrev log_i : Log
log_i = (0 ∷ 1 ∷ 2 ∷ []) ∷ (1 ∷ 0 ∷ 3 ∷ []) ∷ []

-- a place without tokens, into which every event puts one, and out of which it takes one
abbrev loop : Place
loop = record { initial = 0; produced = λ i. 1; consumed = λ i. 1 }

-- a place that holds 1 token; each event takes 3 there and puts 8
abbrev threes : Place
threes = record { initial = 1; produced = λ i. 8; consumed = λ i. 3 }

-- a place that holds 1 token; event 0 puts 4 there, every other takes 5 and puts 3
abbrev fives : Place
fives = record { initial = 1; produced = λ i. cond (eqb i 0) 4 3; consumed = λ i. cond (eqb i 0) 0 5 }

-- a word that was broken off, and one that was completed
abbrev partial : Word → Entry
partial w = record { word = w; completed = false }

abbrev sold : Word → Entry
sold w = record { word = w; completed = true }

-- the log of one word 0 1
abbrev log01 : List Entry
log01 = partial (0 ∷ 1 ∷ []) ∷ []

-- k = 0 and no terms
abbrev zero_k : Weights
zero_k = record { k = 0; terms = []; pairs = [] }

-- the weight g on the step of an event after a prefix
abbrev term : Word → ℕ → ℕ → Term
term u f g = record { step = step_after 2 u f; weight = g }

-- k = 1, and one term
abbrev one_k : List ℕ → ℕ → ℕ → Weights
one_k u f g = record { k = 1; terms = term u f g ∷ []; pairs = [] }

-- a log in which 0 0 1 is completed, and 0 is not
abbrev sales : List Entry
sales = sold (0 ∷ 0 ∷ 1 ∷ []) ∷ partial (0 ∷ []) ∷ []

-- a place that holds 3 tokens; event 0 puts 1 there, event 1 takes so many
abbrev drained : ℕ → Place
drained k = record { initial = 3; produced = λ i. cond (eqb i 0) 1 0; consumed = λ i. cond (eqb i 1) k 0 }

-- ---- Pairs

-- a sale, and two of them
abbrev pub sale : Word
sale = 0 ∷ 0 ∷ 1 ∷ []

abbrev pub two_sales : Word
two_sales = 0 ∷ 0 ∷ 1 ∷ 0 ∷ 0 ∷ 1 ∷ []

-- a 1 behind two sales and behind one, broken off; a sale that was completed, and one that was broken off
abbrev pub ends_twice : List Entry
ends_twice = partial (0 ∷ 0 ∷ 1 ∷ 0 ∷ 0 ∷ 1 ∷ 1 ∷ []) ∷ sold sale ∷ partial sale ∷ partial (0 ∷ 0 ∷ 1 ∷ 1 ∷ []) ∷ []

-- the weight h on the word of a number
abbrev pair : ℕ → ℤ → Pair
pair number h = record { number = number; weight = h }

-- for 0 behind two sales: 0 at the start and behind one sale; with pairs
abbrev third_sale : List Pair → Weights
third_sale pairs = record { k = 5; terms = term [] 0 2 ∷ term sale 0 3 ∷ []; pairs = pairs }

-- for 1 at the start: 1 behind two sales and behind one
abbrev pub one_first : List Pair → Weights
one_first pairs = record { k = 5; terms = term two_sales 1 3 ∷ term sale 1 2 ∷ []; pairs = pairs }

-- h on the completed sale: above 0, and below
abbrev above : List Pair
above = pair 1 (pos 7) ∷ []

abbrev pub below : List Pair
below = pair 1 (neg_ℤ (pos 8)) ∷ []

-- the example of 001, 3.1.2: a d and a b c d are completed, so b c is a cycle, and b may follow a b c
abbrev pub inner : List Entry
inner = sold (0 ∷ 3 ∷ []) ∷ sold (0 ∷ 1 ∷ 2 ∷ 3 ∷ []) ∷ []

abbrev pub inner_weights : Weights
inner_weights = record {
  k = 4;
  terms = record { step = step_after 4 (0 ∷ []) 1; weight = 4 } ∷ [];
  pairs = pair 0 (neg_ℤ (pos 4)) ∷ pair 1 (pos 4) ∷ [];
}

-- ---- A bundle with a completed sale

-- two sales, broken off behind the second; a completed one; and one that was broken off behind its first 0, which has an effect
abbrev pub idle_log : List Entry
idle_log = partial two_sales ∷ sold sale ∷ partial (0 ∷ []) ∷ []

-- a place that a sale empties again: 0 puts 1 token there, 1 takes 2; and one that it leaves a token in
abbrev paid : Place
paid = record { initial = 0; produced = λ i. cond (eqb i 0) 1 0; consumed = λ i. cond (eqb i 0) 0 2 }

abbrev pub kept : Place
kept = record { initial = 0; produced = λ i. cond (eqb i 0) 1 0; consumed = λ i. cond (eqb i 0) 0 1 }

-- tokens of which 0 takes 1: given back by 1, or not
abbrev free : Place
free = record { initial = 2; produced = λ i. cond (eqb i 0) 0 2; consumed = λ i. cond (eqb i 0) 1 0 }

abbrev pub used : Place
used = record { initial = 4; produced = λ i. 0; consumed = λ i. cond (eqb i 0) 1 0 }

-- the net of the two that obey, and of places behind
abbrev pub idle_net : Net → Net
idle_net more = paid ∷ free ∷ more

-- row by row: 1 has to wait for 0 0, and a third 0 for 1; the certificate given is for 0 behind two sales
abbrev idle : List Entry → Net → Certificate → Bundle
idle entries more c = record {
  events = 2;
  entries = entries;
  net = idle_net more;
  certificates = by_place 0 ∷ by_place 0 ∷ by_place 1 ∷ by_place 0 ∷ by_place 0 ∷ by_place 1 ∷ c ∷ by_place 0 ∷ [];
}

-- by weights with a pair
abbrev pub idle_bundle : Bundle
idle_bundle = idle idle_log [] (by_weights (third_sale above))

-- ---- Words that lead to an event

-- a place without tokens, into which event e puts 7, and out of which event 3 takes 6
abbrev fed_by : ℕ → Place
fed_by e = record { initial = 0; produced = λ i. cond (eqb i e) 7 0; consumed = λ i. cond (eqb i 3) 6 0 }

-- the same for event 1, and event 0 takes 2 there and puts 8, which is enough for event 3
abbrev fed_late : Place
fed_late = record { initial = 0; produced = λ i. cond (eqb i 0) 8 (cond (eqb i 1) 7 0); consumed = λ i. cond (eqb i 0) 2 (cond (eqb i 3) 6 0) }

-- what computing gives
pub record Computed : Type 0 where
  -- prefixes are compared as counts: rows, allowed steps and wrong continuations of I, and 3 after 0 1
  pub rows_i : length (rows 4 log_i) ≡ 6
  pub allowed_i : length (allowed_steps 4 log_i) ≡ 6
  pub wrong_i : length (wrong_continuations 4 log_i) ≡ 18
  pub after01 : allowed 4 log_i (step_after 4 (0 ∷ 1 ∷ []) 3) ≡ true
  -- each word counts once in each row of its prefixes, its own included, and the empty word in row 0
  pub traffic_i : map (traffic 4 log_i) (rows 4 log_i) ≡ 2 ∷ 1 ∷ 2 ∷ 1 ∷ 1 ∷ 1 ∷ []
  pub traffic_empty : map (traffic 1 ([] ∷ (0 ∷ 0 ∷ []) ∷ [] ∷ [])) (rows 1 ([] ∷ (0 ∷ 0 ∷ []) ∷ [] ∷ [])) ≡ 3 ∷ 1 ∷ 1 ∷ []
  -- in(e) of a step is not used before out(e) is tested
  pub out_first : permits 2 (loop ∷ []) (0 ∷ []) ≡ false
  -- nor counted where the place refuses: the shortfall is 3 − 1
  pub lacks : screen 2 (no_place ∷ threes ∷ []) (0 ∷ []) ≡ stopped 0 1 2
  -- of the refused step, not of another one: behind 0 1 there are 3 tokens, and 5 are taken
  pub lacks_later : screen 2 (no_place ∷ fives ∷ []) (0 ∷ 1 ∷ 1 ∷ []) ≡ stopped 2 1 2
  -- k = 0 with no terms does not hold, though every inequality does
  pub zero_fails : weights_hold 2 log01 (step_after 2 [] 1) zero_k ≡ false
  -- 0 after 0: twice the step of 0 at the start would do, but its weight is above k
  pub total_fails : weights_hold 2 log01 (step_after 2 (0 ∷ []) 0) (one_k [] 0 2) ≡ false
  -- 1 at the start: the step of 1 after 0 would do, but it has a 0 before it
  pub before_fails : weights_hold 2 log01 (step_after 2 [] 1) (one_k (0 ∷ []) 1 1) ≡ false
  -- a completed word leaves the tokens as they were: neither more nor fewer; a word that is not completed may leave others
  pub returned : obeys 2 (drained 2 ∷ []) (completed_words sales) ≡ true
  pub more_left : obeys 2 (drained 2 ∷ drained 1 ∷ []) (completed_words sales) ≡ false
  pub fewer_left : obeys 2 (drained 3 ∷ drained 2 ∷ []) (completed_words sales) ≡ false
  pub not_completed : obeys 2 (drained 2 ∷ []) (words sales) ≡ false
  -- h above 0: a third sale begins as the first two, but not without the pair, nor with too small an h or too great a one
  pub above_holds : weights_hold 2 ends_twice (step_after 2 two_sales 0) (third_sale above) ≡ true
  pub above_needed : weights_hold 2 ends_twice (step_after 2 two_sales 0) (third_sale []) ≡ false
  pub above_less : weights_hold 2 ends_twice (step_after 2 two_sales 0) (third_sale (pair 1 (pos 6) ∷ [])) ≡ false
  pub above_more : weights_hold 2 ends_twice (step_after 2 two_sales 0) (third_sale (pair 1 (pos 8) ∷ [])) ≡ false
  -- h below 0: what is allowed behind sales is so at the start
  pub below_holds : weights_hold 2 ends_twice (step_after 2 [] 1) (one_first below) ≡ true
  pub below_needed : weights_hold 2 ends_twice (step_after 2 [] 1) (one_first []) ≡ false
  -- pairs repeat, and add
  pub repeated_holds : weights_hold 2 ends_twice (step_after 2 two_sales 0) (third_sale (pair 1 (pos 9) ∷ pair 1 (neg_ℤ (pos 2)) ∷ [])) ≡ true
  pub inner_holds : weights_hold 4 inner (step_after 4 (0 ∷ 1 ∷ 2 ∷ []) 1) inner_weights ≡ true
  -- a pair that names a partial word fails, with h = 0 too, and though a completed word has the same events; so does one that names no word
  pub partial_fails : weights_hold 2 ends_twice (step_after 2 two_sales 0) (third_sale (pair 0 (pos 0) ∷ above)) ≡ false
  pub same_fails : weights_hold 2 ends_twice (step_after 2 two_sales 0) (third_sale (pair 2 (pos 7) ∷ [])) ≡ false
  pub same_zero_fails : weights_hold 2 ends_twice (step_after 2 two_sales 0) (third_sale (pair 2 (pos 0) ∷ above)) ≡ false
  pub none_fails : weights_hold 2 ends_twice (step_after 2 two_sales 0) (third_sale (pair 4 (pos 0) ∷ above)) ≡ false
  -- a bundle is accepted by a pair, and not without it
  pub idle_accepted : accepted idle_bundle ≡ true
  pub idle_needed : accepted (idle idle_log [] (by_weights (third_sale []))) ≡ false
  -- nor where a place that refuses the same step breaks the rule; without the completed word it would be
  pub idle_broken : accepted (idle idle_log (used ∷ []) (by_place 2)) ≡ false
  pub idle_old : accepted (idle (partial two_sales ∷ partial sale ∷ partial (0 ∷ []) ∷ []) (used ∷ []) (by_place 2)) ≡ true
  -- what the accepted net permits, a net refuses that permits the log and does not obey; the same with h below 0
  pub idle_permits : permits 2 (idle_net []) (0 ∷ 0 ∷ 1 ∷ 0 ∷ 0 ∷ 1 ∷ 0 ∷ []) ≡ true
  pub used_permits : permits_log 2 (used ∷ []) (words idle_log) ≡ true
  pub used_refuses : permits 2 (used ∷ []) (0 ∷ 0 ∷ 1 ∷ 0 ∷ 0 ∷ 1 ∷ 0 ∷ []) ≡ false
  pub kept_permits : permits_log 2 (kept ∷ []) (words ends_twice) ≡ true
  pub kept_refuses : permits 2 (kept ∷ []) (1 ∷ []) ≡ false
  -- over 5 events, a shortest word of fewer than 4 that leads to event 0 or 3: the empty word; and 0, since 1 token is too few for event 3
  pub empty_leads : reached 5 (fives ∷ []) 0 4 ≡ Some []
  pub one_leads : reached 5 (fives ∷ []) 3 4 ≡ Some (0 ∷ [])
  -- of 0 1 and 1 0 the first by number; none where words of fewer than 2 events are asked for
  pub first_leads : reached 5 (fed_by 0 ∷ fed_by 1 ∷ []) 3 4 ≡ Some (0 ∷ 1 ∷ [])
  pub none_leads : reached 5 (fed_by 0 ∷ fed_by 1 ∷ []) 3 2 ≡ None
  -- 0 is refused at first; with the tokens behind it, 2 taken from none and 8 put, it would lead there
  pub refused_leads : reached 5 (fed_by 0 ∷ fed_late ∷ []) 3 4 ≡ Some (1 ∷ 0 ∷ [])
