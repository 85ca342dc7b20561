-- REQUEST 12: 'A trader asks which keys lead to a given event. From a bundle and a wanted event, give a shortest word of at most five events that
-- the net permits and after which it permits the wanted event. Among equally short ones give the first by event numbers. "None" is given when no
-- word of five or fewer does it, and only then. Reading refusals are those of screening; a wanted event not below n is 15, spot 0.'
use Rattle.std.specs.Prelude.{◌≡◌, true, ◌↔◌, ◌⊎◌, Option, Some, None, ℕ, ◌-◌, ◌≤◌, ◌<◌, T, length, take, drop, replicate, Err, Ok}
use mathlib.Core.List.{List, [], ◌∷◌, ◌++◌}
use Rattle.laws.specs.Lists.{among}
use Rattle.refusals.specs.Answers.{refusal, Answer}
use Rattle.refusals.specs.declared.Refusal.{Refusal}
use Rattle.nets.specs.Nets.{Word, Net, permits}
use Rattle.nets.specs.Fits.{Below}
use Rattle.nets.specs.WordOrder.{Earlier}
use Rattle.bundles.specs.Readers.{events_in, net_in}
use Rattle.screening.specs.Screening.{screened}
use Rattle.screening.specs.Screens.{Readable}
use Rattle.search.specs.Searching.{reaching, sized, word_written, reached_of}
use Rattle.search.specs.declared.Reached.{Reached}

-- what the call answers, by the definition that its contract cites; and in C how many events it hands back and what it leaves of the bytes
abbrev pub reach_answer : List ℕ → ℕ → Answer Reached
reach_answer b wanted = reached_of (reaching b wanted)

abbrev pub reach_size : List ℕ → ℕ → Answer (Option ℕ)
reach_size b wanted = sized (reaching b wanted)

abbrev pub reach_leaves : List ℕ → ℕ → List ℕ → List ℕ
reach_leaves b wanted bytes = word_written (reaching b wanted) bytes

-- ---- Of every net, and any number of events

-- the net permits w, and after it the wanted event
abbrev pub LeadsTo : ℕ → Net → ℕ → Word → Type 0
LeadsTo n net wanted w = Below n w × T (permits n net (w ++ wanted ∷ []))

-- 'a shortest word of at most five events that the net permits and after which it permits the wanted event', the first one
pub record FirstShortest (n : ℕ) (net : Net) (wanted : ℕ) (w : Word) : Type 0 where
  pub few : length w ≤ 5
  pub leads : LeadsTo n net wanted w
  pub shortest : (x : Word) → LeadsTo n net wanted x → length w ≤ length x
  -- 'the first by event numbers': where two words first differ, the earlier one has the lower event
  pub first : (x : Word) → length x ≡ length w → Earlier x w → LeadsTo n net wanted x → ⊥

-- 'no word of five or fewer does it'
abbrev pub NoneLeads : ℕ → Net → ℕ → Type 0
NoneLeads n net wanted = (x : Word) → length x ≤ 5 → LeadsTo n net wanted x → ⊥

-- ---- The call: 4, then 6, 7, 8 in bundle order; 15

-- what an answer with a word of l events holds: the first shortest word, in front of zeros
pub record WordFound (n : ℕ) (net : Net) (wanted : ℕ) (x : Reached) (l : ℕ) : Type 0 where
  pub few : l ≤ 5
  pub front : length (take l x.word) ≡ l
  pub word : FirstShortest n net wanted (take l x.word)
  pub rest : drop l x.word ≡ replicate (5 - l) 0

pub record ReachExactly (b : List ℕ) (wanted : ℕ) : Type 0 where
  -- 'Reading refusals are those of screening': those that screening the empty word with the bundle gets (ScreenExactly)
  pub own : (k : ℕ) → among k (4 ∷ 6 ∷ 7 ∷ 8 ∷ []) ≡ true → (spot : ℕ) → (reach_answer b wanted ≡ Err (refusal k spot))
      ↔ (screened b [] ≡ Err (refusal k spot))
  -- 'a wanted event not below n is 15, spot 0'
  pub no_event : (spot : ℕ) → (reach_answer b wanted ≡ Err (refusal 15 spot)) ↔ ((spot ≡ 0) × Readable b [] × (events_in b ≤ wanted))
  -- else there is an answer, of a bundle that can be read and an event that is there
  pub answered : ((x : Reached) × (reach_answer b wanted ≡ Ok x)) ↔ (Readable b [] × (wanted < events_in b))
  -- a word is the first shortest one
  pub found : (x : Reached) → reach_answer b wanted ≡ Ok x → (l : ℕ) → x.length ≡ Some l → WordFound (events_in b) (net_in b) wanted x l
  -- '"None" is given when no word of five or fewer does it, and only then'
  pub none : (x : Reached) → reach_answer b wanted ≡ Ok x → (x.length ≡ None) ↔ NoneLeads (events_in b) (net_in b) wanted
  pub zeros : (x : Reached) → reach_answer b wanted ≡ Ok x → x.length ≡ None → x.word ≡ replicate 5 0
  -- by the calls: screening the word with the wanted event behind it answers permitted, and no shorter and no earlier one
  pub screened_so : (x : Reached) → reach_answer b wanted ≡ Ok x → (l : ℕ) → x.length ≡ Some l → screened b (take l x.word ++ wanted ∷ []) ≡ Ok None
  pub not_before : (x : Reached) → reach_answer b wanted ≡ Ok x → (l : ℕ) → x.length ≡ Some l → (w : Word)
      → ((length w < l) ⊎ ((length w ≡ l) × Earlier w (take l x.word))) → screened b (w ++ wanted ∷ []) ≡ Ok None → ⊥
  -- in C the same: how many events it has, and the word in front of the bytes, what lies behind it as it was
  pub size : (x : Reached) → reach_answer b wanted ≡ Ok x → reach_size b wanted ≡ Ok x.length
  pub size_refused : (r : Refusal) → (reach_answer b wanted ≡ Err r) ↔ (reach_size b wanted ≡ Err r)
  pub leaves : (x : Reached) → reach_answer b wanted ≡ Ok x → (l : ℕ) → x.length ≡ Some l → (bytes : List ℕ)
      → reach_leaves b wanted bytes ≡ take l x.word ++ drop l bytes
  pub leaves_none : (x : Reached) → reach_answer b wanted ≡ Ok x → x.length ≡ None → (bytes : List ℕ) → reach_leaves b wanted bytes ≡ bytes
  pub refused : (r : Refusal) → reach_answer b wanted ≡ Err r → (bytes : List ℕ) → reach_leaves b wanted bytes ≡ bytes

pub record Request12 : Type 0 where
  pub call : (b : List ℕ) (wanted : ℕ) → ReachExactly b wanted
  pub refusals_of_reach : (b : List ℕ) (wanted : ℕ) (r : Refusal) → reach_answer b wanted ≡ Err r → among r.number (4 ∷ 6 ∷ 7 ∷ 8 ∷ 15 ∷ []) ≡ true
  -- such a word is unique
  pub unique : (n : ℕ) (net : Net) (wanted : ℕ) (w x : Word) → FirstShortest n net wanted w → FirstShortest n net wanted x → w ≡ x
