-- Laws of traffic: how many words of a log pass a row. One word more, one event more, and how many there can be.
use Rattle.std.specs.Prelude.{◌≡◌, refl, Bool, ◌↔◌, T, get_or, replicate}
use Rattle.std.proofs.Common.{sym, ◌∙◌, subst}
use Rattle.std.proofs.Math.Path.{ap}
use Rattle.std.proofs.Math.Bool.{true, false, cond}
use Rattle.std.proofs.Math.Logic.{⊎_elim}
use mathlib.Core.List.Memᴰ
use mathlib.Core.List.{List, [], ◌∷◌, ◌++◌, append-nil, append_assoc, append_cancel_right, cons≢nil, Memᴰ}
use Prim.Native.Nat.{ℕ, suc, ◌+◌, ◌≤◌, ◌<◌}
use Rattle.std.proofs.Math.Nat.{add-zero}
use native.Mathlib.Omega.{arith}
use Rattle.std.proofs.Math.Dec.{not_T}
use Rattle.std.proofs.Math.ListN.{length}
use Rattle.laws.specs.Booleans.{same_test, yes_true, no_false}
use Rattle.laws.specs.Lists.{any_witness, any_intro, keep, keep-member, keep_intro, get_d_member, equal, equal→eq, eq→equal}
use Rattle.laws.specs.Keeping.{keep-first, keep-most, keep_all, keep-last, keep_same}
use Rattle.nets.specs.Nets.{Word, Log, Counts, at, occurrences, beginnings, counts, rows, event_count, empty_words, passes, traffic}
use Rattle.nets.specs.Words.{Begins, →beginning, beginning→, begins_snoc, word-begins, prefix→}
use Rattle.nets.proofs.Rows.{row→, →row}
use Rattle.nets.specs.Fits.{Below, LogBelow, below-shorter}
use Rattle.nets.specs.CountLaws.{at-counts, occurrences-append, occurrences_snoc, counts-wide}
use Rattle.nets.specs.Weights.{same_refl}
use Rattle.nets.specs.Wide.{wide}

module _ (n : ℕ) where
  -- a word passes the rows of its prefixes
  pub passes-exactly : (v : Counts) (w : Word) → T (passes n v w) ↔ ((u : Word) × Begins u w × (counts n u ≡ v))
  unfolding passes
  passes-exactly v w = (
    (λ t. let r = any_witness (λ u. equal (counts n u) v) (beginnings w) t in (r.0, beginning→ w r.1, equal→eq (counts n r.0) v r.2)),
    (λ (u, b, e). any_intro (λ u. equal (counts n u) v) (beginnings w)
        (subst (λ (x : Word). Memᴰ u (beginnings x)) b.1 (→beginning u b.0)) (eq→equal (counts n u) v e)),
  )

  -- that of the empty word, and its own
  passes-first : (w : Word) → passes n (counts n []) w ≡ true
  passes-first w = yes_true _ ((passes-exactly (counts n []) w).1 ([], (w, refl), refl))

  passes-own : (w : Word) → passes n (counts n w) w ≡ true
  passes-own w = yes_true _ ((passes-exactly (counts n w) w).1 (w, ([], append-nil w), refl))

  -- the empty word passes no other
  nothing-longer : (u : Word) → Begins u [] → u ≡ []
  nothing-longer [] b = refl
  nothing-longer (a ∷ u) b = absurd (cons≢nil b.1)

  passes-empty : (v : Counts) → (v ≡ counts n [] → ⊥) → passes n v [] ≡ false
  passes-empty v other = no_false (passes n v []) (not_T (passes n v []) (λ t.
      let r = (passes-exactly v []).0 t in
      other (sym r.2 ∙ ap (counts n) (nothing-longer r.0 r.1))))

  -- ---- One event more at the end of a word

  -- its row is not one of those before, and no other is new
  later-counts : (u : Word) (e : ℕ) → e < n → (b : Word) → Begins b u → counts n b ≡ counts n (u ++ e ∷ []) → ⊥
  later-counts u e h b (s, is) q =
      let same : occurrences e b ≡ occurrences e (u ++ e ∷ []) =
      sym (at-counts n b e h) ∙ ap (λ (v : Counts). at v e) q ∙ at-counts n (u ++ e ∷ []) e h in
      let parts : occurrences e u ≡ occurrences e b + occurrences e s = ap (occurrences e) (sym is) ∙ occurrences-append e b s in
      absurd (omega (arith, same, parts, occurrences_snoc e u e, same_refl e))

  passes-later : (u : Word) (e : ℕ) → e < n → passes n (counts n (u ++ e ∷ [])) u ≡ false
  passes-later u e h = no_false (passes n (counts n (u ++ e ∷ [])) u) (not_T (passes n (counts n (u ++ e ∷ [])) u) (λ t.
      let r = (passes-exactly (counts n (u ++ e ∷ [])) u).0 t in
      later-counts u e h r.0 r.1 r.2))

  passes-other : (u : Word) (e : ℕ) (v : Counts) → (v ≡ counts n (u ++ e ∷ []) → ⊥) → passes n v (u ++ e ∷ []) ≡ passes n v u
  passes-other u e v other = same_test _ _
      (λ t.
      let r = (passes-exactly v (u ++ e ∷ [])).0 t in
      ⊎_elim
      (λ b. (passes-exactly v u).1 (r.0, b, r.2))
      (λ q. absurd (other (sym r.2 ∙ ap (counts n) q)))
      (begins_snoc r.0 u e r.1))
      (λ t.
      let r = (passes-exactly v u).0 t in
      (passes-exactly v (u ++ e ∷ [])).1 (r.0, (r.1.0 ++ e ∷ [], longer r.0 r.1.0 r.1.1), r.2))
    where
      longer : (b s : Word) → b ++ s ≡ u → b ++ (s ++ e ∷ []) ≡ u ++ e ∷ []
      longer b s is = sym (append_assoc b s (e ∷ [])) ∙ ap (λ (x : Word). x ++ e ∷ []) is

  -- ---- One word more

  pub traffic_snoc : (log : Log) (w : Word) (v : Counts) → traffic n (log ++ w ∷ []) v ≡ traffic n log v + cond (passes n v w) 1 0
  unfolding traffic keep
  traffic_snoc log w v = keep-last (passes n v) log w
      ∙ ap (λ (k : ℕ). length (keep (passes n v) log) + k) (keep-first (passes n v) w [] ∙ add-zero _)

  module _ (log : Log) where
    -- the empty word: one more in the row of zeros
    pub traffic-empty : traffic n (log ++ [] ∷ []) (counts n []) ≡ traffic n log (counts n []) + 1
    traffic-empty = traffic_snoc log [] (counts n []) ∙ rw (passes-first [])

    pub traffic-empty-other : (v : Counts) → (v ≡ counts n [] → ⊥) → traffic n (log ++ [] ∷ []) v ≡ traffic n log v
    traffic-empty-other v other = traffic_snoc log [] v ∙ rw (passes-empty v other, add-zero)

    module _ (u : Word) (e : ℕ) where
      -- one event more in the last word: one more in the row of the whole word
      pub traffic-next : e < n
          → traffic n (log ++ (u ++ e ∷ []) ∷ []) (counts n (u ++ e ∷ [])) ≡ traffic n (log ++ u ∷ []) (counts n (u ++ e ∷ [])) + 1
      traffic-next h =
          let v : Counts = counts n (u ++ e ∷ []) in
          let long = rw (passes-own (u ++ e ∷ [])) at (traffic_snoc log (u ++ e ∷ []) v) in
          let short = rw (passes-later u e h) at (traffic_snoc log u v) in
          omega (arith, long, short)

      pub traffic-next-other : (v : Counts) → (v ≡ counts n (u ++ e ∷ []) → ⊥) → traffic n (log ++ (u ++ e ∷ []) ∷ []) v ≡ traffic n (log ++ u ∷ []) v
      traffic-next-other v other = traffic_snoc log (u ++ e ∷ []) v ∙ rw (passes-other u e v other) (sym (traffic_snoc log u v))

  -- ---- How many there can be

  module _ (log : Log) where
    pub traffic-most : (v : Counts) → traffic n log v ≤ length log
    unfolding traffic
    traffic-most v = keep-most (passes n v) log

    -- every word passes the row of zeros
    pub traffic-first : traffic n log (counts n []) ≡ length log
    unfolding traffic
    traffic-first = ap length (keep_all (passes n (counts n [])) log passes-first)

    -- some word passes each other row
    pub traffic-some : (v : Counts) → Memᴰ v (rows n log) → (v ≡ counts n [] → ⊥) → 1 ≤ traffic n log v
    unfolding traffic
    traffic-some v m other =
        let r = row→ n log m in
        ⊎_elim
        (λ q. absurd (other (sym r.2 ∙ ap (counts n) q)))
        (λ (w, k, b). some (keep (passes n v) log) (keep_intro (passes n v) log k ((passes-exactly v w).1 (r.0, b, r.2))))
        (prefix→ log r.0 r.1)
      where
        some : {x : Word} (l : List Word) → Memᴰ x l → 1 ≤ length l
        some [] k = elim k [ ]
        some (y ∷ l) k = omega arith

    -- and no word passes what is no row
    pub traffic-row : (v : Counts) → 1 ≤ traffic n log v → Memᴰ v (rows n log)
    unfolding traffic
    traffic-row v h =
        let k = keep-member (passes n v) log (get_d_member (keep (passes n v) log) 0 [] h) in
        let r = (passes-exactly v (get_or (keep (passes n v) log) 0 [])).0 k.1 in
        Memᴰ.cast (sym r.2) (→row n log r.0 (word-begins log k.0 r.0 r.1))

  -- another row has no more words than there are events
  pub traffic-few : (log : Log) (v : Counts) → (v ≡ counts n [] → ⊥) → traffic n log v ≤ event_count log
  unfolding traffic event_count keep
  traffic-few [] v other = omega arith
  traffic-few (w ∷ log) v other = omega (arith, keep-first (passes n v) w log, traffic-few log v other, one w)
    where
      one : (w : Word) → cond (passes n v w) 1 0 ≤ length w
      one [] = rw (passes-empty v other) (omega arith)
      one (a ∷ w) = at_most (passes n v (a ∷ w))
        where
          at_most : (b : Bool) → cond b 1 0 ≤ suc (length w)
          at_most true = omega arith
          at_most false = omega arith

-- a word is empty, or has an event
pub words-most : (log : Log) → length log ≤ empty_words log + event_count log
unfolding empty_words event_count keep equal
words-most [] = omega arith
words-most (w ∷ log) = omega (arith, keep-first (λ x. equal x []) w log, words-most log, one w)
  where
    one : (w : Word) → 1 ≤ cond (equal w []) 1 0 + length w
    one [] = omega arith
    one (a ∷ w) = omega arith

-- ---- Wider count vectors

module _ (n k : ℕ) where
  passes-wide : (v : Counts) (w : Word) → Below n w → passes (n + k) (wide k v) w ≡ passes n v w
  passes-wide v w below = same_test _ _
      (λ t.
      let r = (passes-exactly (n + k) (wide k v) w).0 t in
      (passes-exactly n v w).1 (r.0, r.1, append_cancel_right (counts n r.0) v (replicate k 0) (sym (wider r.0 r.1) ∙ r.2)))
      (λ t.
      let r = (passes-exactly n v w).0 t in
      (passes-exactly (n + k) (wide k v) w).1 (r.0, r.1, wider r.0 r.1 ∙ ap (wide k) r.2))
    where
      wider : (u : Word) → Begins u w → counts (n + k) u ≡ wide k (counts n u)
      wider u (s, is) = counts-wide n k u (below-shorter n u s (subst (Below n) (sym is) below))

  pub traffic-wide : (log : Log) → LogBelow n log → (v : Counts) → traffic (n + k) log (wide k v) ≡ traffic n log v
  unfolding traffic
  traffic-wide log below v = ap length (keep_same (passes (n + k) (wide k v)) (passes n v) log (λ w m. passes-wide v w (below w m)))
