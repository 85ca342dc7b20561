-- Laws for code that takes a log word by word: the prefixes, the rows and the allowed steps with one word more.
use Rattle.std.specs.Prelude.{◌≡◌, refl, ◌↔◌, ◌⊎◌, ℕ, suc, ◌+◌, T, length}
use Rattle.std.proofs.Common.{◌∙◌, subst, inl, inr, ⊎_elim, arith}
use Rattle.std.proofs.Math.Path.{ap}
use mathlib.Core.List.Memᴰ
use mathlib.Core.List.{List, [], ◌∷◌, ◌++◌, map, flat_map, foldl, append-nil, foldl-append, Memᴰ}
use Rattle.laws.specs.Lists.{flat_map-append, map-append}
use Rattle.nets.specs.Nets.{Word, Log, Entry, Step, words, event_count, counts, beginnings, prefixes, add_row, rows, allowed}
use Rattle.nets.specs.Words.{Prefix, prefix→, empty-prefix, word-begins, Begins, →beginning, beginning→, allowed→, →allowed}

module _ (log : Log) (w : Word) where
  pub prefixes_snoc : prefixes (log ++ w ∷ []) ≡ prefixes log ++ beginnings w
  unfolding prefixes flat_map
  prefixes_snoc = ap (λ (r : List Word). [] ∷ r) (flat_map-append beginnings log (w ∷ []) ∙ rw append-nil)

  pub prefix_snoc : (u : Word) → Prefix (log ++ w ∷ []) u ↔ (Prefix log u ⊎ Begins u w)
  prefix_snoc u = (to, ⊎_elim old new)
    where
      to : Prefix (log ++ w ∷ []) u → Prefix log u ⊎ Begins u w
      to m = ⊎_elim (λ k. inl k) (λ k. inr (beginning→ w k)) (Memᴰ.append_cases (prefixes log) (rw prefixes_snoc at m))

      old : Prefix log u → Prefix (log ++ w ∷ []) u
      old m = rw prefixes_snoc (Memᴰ.append_left (beginnings w) m)

      new : Begins u w → Prefix (log ++ w ∷ []) u
      new b = rw prefixes_snoc (Memᴰ.append_right (prefixes log) (subst (λ (x : Word). Memᴰ u (beginnings x)) b.1 (→beginning u b.0)))

  -- a word's prefixes, shortest first, add their rows
  pub rows_snoc : (n : ℕ) → rows n (log ++ w ∷ []) ≡ foldl add_row (rows n log) (map (counts n) (beginnings w))
  unfolding rows
  rows_snoc n = rw (prefixes_snoc, map-append, foldl-append)

  -- a step is allowed where it was, or where the word has it
  pub allowed_snoc : (n : ℕ) (s : Step) → T (allowed n (log ++ w ∷ []) s) ↔ (T (allowed n log s) ⊎ ((u : Word) × (counts n u ≡ s.row) × Begins (u ++ s.event ∷ []) w))
  allowed_snoc n s = (to, ⊎_elim old new)
    where
      to : T (allowed n (log ++ w ∷ []) s) → T (allowed n log s) ⊎ ((u : Word) × (counts n u ≡ s.row) × Begins (u ++ s.event ∷ []) w)
      to t =
          let f = allowed→ n (log ++ w ∷ []) s t in
          ⊎_elim (λ k. inl (→allowed n log s (f.0, f.1, k))) (λ k. inr (f.0, f.1, k)) ((prefix_snoc (f.0 ++ s.event ∷ [])).0 f.2)

      old : T (allowed n log s) → T (allowed n (log ++ w ∷ []) s)
      old t = let f = allowed→ n log s t in →allowed n (log ++ w ∷ []) s (f.0, f.1, (prefix_snoc (f.0 ++ s.event ∷ [])).1 (inl f.2))

      new : (u : Word) × (counts n u ≡ s.row) × Begins (u ++ s.event ∷ []) w → T (allowed n (log ++ w ∷ []) s)
      new f = →allowed n (log ++ w ∷ []) s (f.0, f.1, (prefix_snoc (f.0 ++ s.event ∷ [])).1 (inr f.2))

-- the events of two logs
pub event_count-append : (a c : Log) → event_count (a ++ c) ≡ event_count a + event_count c
unfolding event_count
event_count-append [] c = omega arith
event_count-append (w ∷ a) c = omega (arith, event_count-append a c)

pub event_count_snoc : (a : Log) (w : Word) → event_count (a ++ w ∷ []) ≡ event_count a + length w
unfolding event_count
event_count_snoc a w = omega (arith, event_count-append a (w ∷ []))

-- a longer log has the rows of its beginning
pub prefixes-longer : (log more : Log) (u : Word) → Prefix log u → Prefix (log ++ more) u
prefixes-longer log more u m = ⊎_elim (λ e. Memᴰ.cast e (empty-prefix (log ++ more))) (λ r. word-begins (log ++ more) (Memᴰ.append_left more r.1) u r.2) (prefix→ log u m)

-- ---- the words of entries

pub words_append : (xs ys : List Entry) → words (xs ++ ys) ≡ words xs ++ words ys
unfolding words
words_append xs ys = map-append (λ (x : Entry). x.word) xs ys

pub words_snoc : (xs : List Entry) (x : Entry) → words (xs ++ x ∷ []) ≡ words xs ++ x.word ∷ []
unfolding words
words_snoc xs x = words_append xs (x ∷ [])

pub length-words : (xs : List Entry) → length (words xs) ≡ length xs
unfolding words
length-words [] = refl
length-words (x ∷ xs) = ap suc (length-words xs)

-- a word of the log is that of an entry
pub word-entry : (xs : List Entry) {w : Word} → Memᴰ w (words xs) → (x : Entry) × Memᴰ x xs × (x.word ≡ w)
unfolding words
word-entry xs m = Memᴰ.of_map (λ (x : Entry). x.word) xs m

pub entry-word : (xs : List Entry) {x : Entry} → Memᴰ x xs → Memᴰ x.word (words xs)
unfolding words
entry-word xs m = Memᴰ.map (λ (x : Entry). x.word) m

-- the events of the words, with an entry more
pub events-snoc : (xs : List Entry) (x : Entry) → event_count (words (xs ++ x ∷ [])) ≡ event_count (words xs) + length x.word
events-snoc xs x = ap event_count (words_snoc xs x) ∙ event_count_snoc (words xs) x.word
