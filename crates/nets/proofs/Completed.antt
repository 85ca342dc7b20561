-- Completed executions: a net that obeys completed words is back in its initial marking behind each, so they may follow one another; its language and
-- its regions.
use Rattle.std.specs.Prelude.{◌≡◌, Bool, ◌↔◌, ℕ, ◌*◌, T, ℤ, ◌+ℤ◌, ◌-ℤ◌}
use Rattle.std.proofs.Math.Path.{refl, ap, ap₂}
use Rattle.std.proofs.Common.{sym, ◌∙◌, subst}
use Rattle.std.proofs.Math.Bool.{◌&&◌}
use Rattle.std.proofs.Math.Logic.{⊎_elim}
use mathlib.Core.List.Memᴰ
use mathlib.Core.List.{List, [], ◌∷◌, ◌++◌, append_assoc, append-nil, Memᴰ}
use Rattle.std.proofs.Math.IntN.{pos, +ℤ_idl, +ℤ_idr}
use Rattle.std.specs.Int.Signed.{non_neg}
use Rattle.std.specs.Float.Ieee.Fits.{and_i}
use Rattle.laws.specs.Differences.{difference, sumℤ-same, sumℤ_pos, sumℤ_neg, neg_mul}
use Rattle.laws.specs.Every.{Every}
use Rattle.laws.specs.Lists.{all_same}
use Rattle.nets.specs.Nets.{Word, Log, Entry, Counts, Place, Net, at, words, completed_words, counts, step_after, tokens, effect, surplus, place_permits, net_permits, permits_after, permits}
use Rattle.nets.specs.Words.{Begins, Prefix, empty-prefix, PermitsLog, Obeys, EveryObeyingNetPermits, permits-append, permits-prefix}
use Rattle.nets.specs.Fits.{Below, below-empty, LogBelow, Fits}
use Rattle.nets.specs.Markings.{effect-append}
use Rattle.nets.specs.Surplus.{put, taken, effect_is, tokens-effect}
use Rattle.nets.specs.TokenGame.{Places, places_of, Language, language_of, initially, after_word, equation_1, initial_tokens, Run, run_end}
use Rattle.nets.specs.Regions.{◌⊆◌, Region}
use Rattle.nets.specs.Entries.{Completed, Returns, NoneCompleted}
use Rattle.nets.specs.Completed.{invariant_product, Invariant, concatenated, SoundRegion, sound_regions}
use Rattle.nets.proofs.Entries.{completed-listed, completed-prefix, net-returns, none-word}
use Rattle.nets.proofs.TokenGame.{run_language, run_reaches, language_permits}
use Rattle.nets.proofs.Regions.{language_closed, language_fewer, language_places, region_permits, log-regions}

-- ---- T-invariants

-- the product is the effect
pub invariant-effect : (n : ℕ) (p : Place) (v : Counts) → invariant_product n p v ≡ effect n p v
unfolding invariant_product taken
invariant-effect n p v =
    ap₂ ◌+ℤ◌ (sumℤ_pos n (λ i. at v i * p.produced i))
    (sumℤ-same n _ _ (λ i b. neg_mul (at v i) (p.consumed i)) ∙ sumℤ_neg n (λ i. at v i * p.consumed i))
    ∙ difference (put n p v) (taken n p v)
    ∙ sym (effect_is n p v)

-- a net obeys completed words exactly when their Parikh vectors are T-invariants of it
pub obeys-invariants : (n : ℕ) (net : Net) (completed : Log)
    → Obeys n net completed ↔ ((w : Word) → Memᴰ w completed → Invariant n (places_of net) (counts n w))
obeys-invariants n net completed =
    let law = net-returns n net completed in (
      (λ t w k p m. invariant-effect n p (counts n w) ∙ law.0 t p m w k),
      λ h. law.1 (λ p m w k. sym (invariant-effect n p (counts n w)) ∙ h w k p m),
    )

-- ---- Back in the initial marking

-- counts with the effect 0 leave the initial tokens
pub tokens-back : (n : ℕ) (p : Place) (v : Counts) → effect n p v ≡ pos 0 → tokens n p v ≡ pos p.initial
tokens-back n p v zero-effect = tokens-effect n p v ∙ ap (λ (z : ℤ). pos p.initial +ℤ z) zero-effect ∙ +ℤ_idr (pos p.initial)

module _ (n : ℕ) (net : Net) (completed : Log) (obeyed : Obeys n net completed) (w : Word) (done : Memᴰ w completed) where
  pub completed-tokens : (p : Place) → Memᴰ p net → tokens n p (counts n w) ≡ pos p.initial
  completed-tokens p m = tokens-back n p (counts n w) ((net-returns n net completed).0 obeyed p m w done)

  -- (M₀ • w)(p) = M₀(p)
  pub completed-marking : Below n w → (p : Place) → Memᴰ p net → after_word initially w p ≡ initially p
  completed-marking below p m = equation_1 n w below p ∙ completed-tokens p m

  -- M₀[w⟩M₀, where the net permits w
  pub completed-run : Below n w → T (permits n net w) → Run (places_of net) initial_tokens w initial_tokens
  completed-run below t =
      let run = (run_language n (places_of net) w below).1 ((language_permits n net w below).1 t) in
      run_end (places_of net) w initial_tokens run.0 initial_tokens (λ p m.
      let same : pos (run.0 p) ≡ pos p.initial =
      run_reaches n (places_of net) w below run.0 run.1 p m ∙ completed-tokens p m in
      sym cc) run.1

-- ---- One completed word behind another

module _ (n : ℕ) (net : Net) (w : Word) (back : (p : Place) → Memᴰ p net → effect n p (counts n w) ≡ pos 0) where
  -- behind a word with the effect 0 the tokens are those without it, so the same steps are permitted
  tokens-behind : (p : Place) → Memᴰ p net → (u : Word) → tokens n p (counts n (w ++ u)) ≡ tokens n p (counts n u)
  tokens-behind p m u =
      tokens-effect n p (counts n (w ++ u))
      ∙ ap (λ (z : ℤ). pos p.initial +ℤ z)
      (effect-append n p w u ∙ ap (λ (z : ℤ). z +ℤ effect n p (counts n u)) (back p m) ∙ +ℤ_idl (effect n p (counts n u)))
      ∙ sym (tokens-effect n p (counts n u))

  steps-behind : (u : Word) (e : ℕ) → net_permits n net (step_after n (w ++ u) e) ≡ net_permits n net (step_after n u e)
  unfolding net_permits place_permits surplus
  steps-behind u e = all_same _ _ net (λ p m. ap (λ (z : ℤ). non_neg (z -ℤ pos (p.consumed e))) (tokens-behind p m u))

  after-behind : (x u : Word) → permits_after n net (w ++ u) x ≡ permits_after n net u x
  unfolding permits_after
  after-behind [] u = refl
  after-behind (e ∷ x) u =
      ap₂ ◌&&◌ (steps-behind u e) (ap (λ (y : Word). permits_after n net y x) (append_assoc w u (e ∷ [])) ∙ after-behind x (u ++ e ∷ []))

  -- a word is permitted behind it as from the start
  pub permits-behind : (x : Word) → permits n net (w ++ x) ≡ (permits n net w && permits n net x)
  unfolding permits
  permits-behind x =
      permits-append n net w x
      ∙ ap (λ (b : Bool). permits n net w && b) (ap (λ (y : Word). permits_after n net y x) (sym (append-nil w)) ∙ after-behind x [])

-- a net that permits the log and obeys its completed words permits any number of these, one behind the other, with any prefix of the log behind
pub completed-repeat : (n : ℕ) (entries : List Entry) (ws : List Word) → Every (Completed entries) ws → (u : Word) → Prefix (words entries) u
    → EveryObeyingNetPermits n entries (concatenated ws ++ u)
unfolding concatenated
completed-repeat n entries [] completed u pre net permitted obeyed = permits-prefix n net (words entries) permitted u pre
completed-repeat n entries (w ∷ ws) completed u pre net permitted obeyed =
    let back : (p : Place) → Memᴰ p net → effect n p (counts n w) ≡ pos 0 =
    λ p m. (net-returns n net (completed_words entries)).0 obeyed p m w completed.0 in
    let one = permits-prefix n net (words entries) permitted w (completed-prefix entries w completed.0) in
    let rest = completed-repeat n entries ws completed.1 u pre net permitted obeyed in
    rw append_assoc (subst T (sym (permits-behind n net w back (concatenated ws ++ u))) (and_i (permits n net w) (permits n net (concatenated ws ++ u)) one rest))

module _ (n : ℕ) (entries : List Entry) (below : LogBelow n (words entries)) where
  pub concatenated-below : (ws : List Word) → Every (Completed entries) ws → Below n (concatenated ws)
  unfolding concatenated
  concatenated-below [] completed = below-empty n
  concatenated-below (w ∷ ws) completed =
      let rest = concatenated-below ws completed.1 in
      λ e m. ⊎_elim (below w (completed-listed entries w completed.0) e) (rest e) (Memᴰ.append_cases w m)

-- ---- The language

module _ (n : ℕ) (entries : List Entry) (below : LogBelow n (words entries)) where
  -- so L(N) contains the prefix-closure of L_max^ω, where L_max has the completed words: each beginning of some of them, one behind the other
  pub completed-language : (net : Net) → PermitsLog n net (words entries) → Obeys n net (completed_words entries)
      → (ws : List Word) → Every (Completed entries) ws → (x : Word) → Begins x (concatenated ws) → language_of n (places_of net) x
  completed-language net permitted obeyed ws completed x b =
      (language_closed n (places_of net)).shorter x b.0 (subst (language_of n (places_of net)) (sym b.1) whole)
    where
      permits-concatenated : T (permits n net (concatenated ws))
      permits-concatenated = subst (λ (y : Word). T (permits n net y)) (append-nil (concatenated ws))
          (completed-repeat n entries ws completed [] (empty-prefix (words entries)) net permitted obeyed)

      whole : language_of n (places_of net) (concatenated ws)
      whole = (language_permits n net (concatenated ws) (concatenated-below n entries below ws completed)).1 permits-concatenated

-- ---- Sound regions

-- with no word in C they are the regions of L
pub sound_none : (n : ℕ) (L C : Language) → ((w : Word) → C w → ⊥) → (p : Place) → SoundRegion n L C p ↔ Region n L p
sound_none n L C none p = ((λ r. r.0), λ r. (r, λ w c. absurd (none w c)))

-- so where no word is completed, all regions of the log are sound
pub old-sound : (n : ℕ) (entries : List Entry) → NoneCompleted entries → (p : Place)
    → sound_regions n entries p ↔ Region n (Prefix (words entries)) p
old-sound n entries none = sound_none n (Prefix (words entries)) (Completed entries) (none-word entries none)

module _ (n : ℕ) (entries : List Entry) where
  abbrev its_regions : Places
  its_regions = sound_regions n entries

  module _ (below : LogBelow n (words entries)) where
    -- the places that fit it and obey its completed words
    pub sound-permits : (p : Place) → its_regions p ↔ (Fits n (words entries) p × Returns n (completed_words entries) p)
    sound-permits p =
        let region = region_permits n (words entries) below p in (
          (λ r. (region.0 r.0, λ w m. sym (invariant-effect n p (counts n w)) ∙ r.1 w m)),
          λ h. (region.1 h.0, λ w m. invariant-effect n p (counts n w) ∙ h.1 w m),
        )

    -- a net permits the log and obeys its completed words exactly when each of its places is one
    pub sound-net : (net : Net)
        → (PermitsLog n net (words entries) × Obeys n net (completed_words entries)) ↔ (places_of net ⊆ its_regions)
    sound-net net =
        let regions = log-regions n (words entries) below net in
        let invariants = obeys-invariants n net (completed_words entries) in (
          (λ h p m. (regions.0 h.0 p m, λ w c. invariants.0 h.1 w c p m)),
          λ h. (regions.1 (λ p m. (h p m).0), invariants.1 (λ w c p m. (h p m).1 w c)),
        )

    -- the net of all of them has the words that every net permits which permits the log and obeys its completed words
    pub every_net : (w : Word) → Below n w → language_of n its_regions w ↔ EveryObeyingNetPermits n entries w
    every_net w ok = (
      (λ h net permitted obeyed.
          let fewer = language_fewer n (places_of net) its_regions ((sound-net net).0 (permitted, obeyed)) in
          (language_permits n net w ok).0 (fewer w h)),
      λ h. (language_places n its_regions w).1 (ok, λ p r. let q = one p r in (language_permits n (p ∷ []) w ok).1 (h (p ∷ []) q.0 q.1)),
    )
      where
        one : (p : Place) → its_regions p → PermitsLog n (p ∷ []) (words entries) × Obeys n (p ∷ []) (completed_words entries)
        one p r = (sound-net (p ∷ [])).1 (λ q m. subst its_regions (sym (Memᴰ.eq_of_singleton m)) r)
