-- Laws of prefixes, of permitted words and of allowed steps.
use Rattle.std.specs.Prelude.{◌≡◌, Bool, ◌&&◌, ◌⊎◌, ℕ, T}
use Rattle.std.proofs.Math.Path.{refl, sym, ap}
use Rattle.std.proofs.Common.{ap₂, ◌∙◌, subst, inl, inr, ⊎_elim}
use Rattle.std.proofs.Math.Bool.{and_assoc, and-true}
use mathlib.Core.List.Memᴰ
use mathlib.Core.List.{List, [], ◌∷◌, ◌++◌, append-nil, append_assoc, cons≢nil, Memᴰ}
use Rattle.std.proofs.Math.Seq.{append_snoc}
use Rattle.std.specs.Float.Ieee.Fits.{and_i, and_l, and_r}
use Rattle.laws.specs.Lists.{all-member, all_intro, any_witness, any_intro, equal, equal→eq, eq→equal, member, member→, →member, flat_map-member, flat_map_intro}
use Rattle.nets.specs.Nets.{Word, Log, Entry, Net, Step, words, completed_words, counts, step_after, net_permits, permits_after, permits, permits_log, obeys, beginnings, prefixes, allowed}

-- ---- prefixes

-- u is a beginning of w
abbrev pub Begins : Word → Word → Type 0
Begins u w = (s : Word) × (u ++ s ≡ w)

pub →beginning : (u s : Word) → Memᴰ u (beginnings (u ++ s))
unfolding beginnings
→beginning [] [] = Memᴰ.head refl
→beginning [] (a ∷ s) = Memᴰ.head refl
→beginning (a ∷ u) s = Memᴰ.tail (Memᴰ.map (λ x. a ∷ x) (→beginning u s))

pub beginning→ : (w : Word) {u : Word} → Memᴰ u (beginnings w) → Begins u w
unfolding beginnings
beginning→ [] (Memᴰ.head e) = ([], append-nil _ ∙ e)
beginning→ [] (Memᴰ.tail m) = absurd (Memᴰ.not-nil m)
beginning→ (a ∷ w) (Memᴰ.head e) = (a ∷ w, ap (λ (x : Word). x ++ a ∷ w) e)
beginning→ (a ∷ w) (Memᴰ.tail m) =
    let r = Memᴰ.of_map (λ x. a ∷ x) (beginnings w) m in
    let b = beginning→ w r.1 in
    (b.0, ap (λ (x : Word). x ++ b.0) (sym r.2) ∙ ap (λ (x : Word). a ∷ x) b.1)

nothing-before : (y s : Word) → y ++ s ≡ [] → y ≡ []
nothing-before [] s e = refl
nothing-before (a ∷ y) s e = absurd (cons≢nil e)

-- a beginning of u with e behind it is a beginning of u, or all of it
pub begins_snoc : (y u : Word) (e : ℕ) → Begins y (u ++ e ∷ []) → Begins y u ⊎ (y ≡ u ++ e ∷ [])
begins_snoc [] u e b = inl (u, refl)
begins_snoc (a ∷ y) [] e (s, p) =
    let rest : y ++ s ≡ [] = cc in
    let first : a ≡ e = cc in
    inr (ap₂ ◌∷◌ first (nothing-before y s rest))
begins_snoc (a ∷ y) (c ∷ u) e (s, p) =
    let first : a ≡ c = cc in
    ⊎_elim (λ b. inl (b.0, ap₂ ◌∷◌ first b.1)) (λ q. inr (ap₂ ◌∷◌ first q)) (begins_snoc y u e (s, cc))

-- u is a prefix in the log
abbrev pub Prefix : Log → Word → Type 0
Prefix log u = Memᴰ u (prefixes log)

pub word-begins : {w : Word} (log : Log) → Memᴰ w log → (u : Word) → Begins u w → Prefix log u
unfolding prefixes
word-begins log m u b = Memᴰ.tail (flat_map_intro beginnings log m (subst (λ (x : Word). Memᴰ u (beginnings x)) b.1 (→beginning u b.0)))

pub prefix→ : (log : Log) (u : Word) → Prefix log u → (u ≡ []) ⊎ ((w : Word) × Memᴰ w log × Begins u w)
unfolding prefixes
prefix→ log u (Memᴰ.head e) = inl e
prefix→ log u (Memᴰ.tail m) = let r = flat_map-member beginnings log m in inr (r.0, r.1, beginning→ r.0 r.2)

pub empty-prefix : (log : Log) → Prefix log []
unfolding prefixes
empty-prefix log = Memᴰ.head refl

-- a word of the log is a prefix, and so is each beginning of a prefix
pub word-prefix : (log : Log) (w : Word) → Memᴰ w log → Prefix log w
word-prefix log w m = word-begins log m w ([], append-nil w)

pub prefix-shorter : (log : Log) (u s : Word) → Prefix log (u ++ s) → Prefix log u
prefix-shorter log u s m = ⊎_elim (nil u) longer (prefix→ log (u ++ s) m)
  where
    nil : (x : Word) → x ++ s ≡ [] → Prefix log x
    nil [] e = empty-prefix log
    nil (a ∷ x) e = absurd (cons≢nil e)

    longer : (w : Word) × Memᴰ w log × Begins (u ++ s) w → Prefix log u
    longer r = word-begins log r.1 u (s ++ r.2.0, sym (append_assoc u s r.2.0) ∙ r.2.1)

-- ---- permitted words

-- a net permits a log, which is what 'every net that permits all words of the log' means
abbrev pub PermitsLog : ℕ → Net → Log → Type 0
PermitsLog n net log = T (permits_log n net log)

-- a net obeys completed words
abbrev pub Obeys : ℕ → Net → Log → Type 0
Obeys n net completed = T (obeys n net completed)

-- every net that permits the log permits the word: every finite list of places, with numbers of any size
abbrev pub EveryNetPermits : ℕ → Log → Word → Type 0
EveryNetPermits n log w = (net : Net) → PermitsLog n net log → T (permits n net w)

-- every net that permits the log and obeys its completed words
abbrev pub EveryObeyingNetPermits : ℕ → List Entry → Word → Type 0
EveryObeyingNetPermits n entries w = (net : Net) → PermitsLog n net (words entries) → Obeys n net (completed_words entries) → T (permits n net w)

module _ (n : ℕ) (net : Net) (log : Log) where
  pub permits-word : PermitsLog n net log → (w : Word) → Memᴰ w log → T (permits n net w)
  unfolding permits_log
  permits-word h w m = all-member (permits n net) log h m

  pub →permits_log : ((w : Word) → Memᴰ w log → T (permits n net w)) → PermitsLog n net log
  unfolding permits_log
  →permits_log f = all_intro (permits n net) log f

module _ (n : ℕ) (net : Net) where
  pub permits-empty : T (permits n net [])
  unfolding permits permits_after
  permits-empty = tt

  permits_after-append : (u w x : Word) → permits_after n net u (w ++ x) ≡ (permits_after n net u w && permits_after n net (u ++ w) x)
  unfolding permits_after
  permits_after-append u [] x = ap (λ (y : Word). permits_after n net y x) (sym (append-nil u))
  permits_after-append u (e ∷ w) x =
      ap (λ (b : Bool). net_permits n net (step_after n u e) && b) (permits_after-append (u ++ e ∷ []) w x ∙ ap (λ (y : Word). permits_after n net (u ++ e ∷ []) w && permits_after n net y x) (append_snoc u e w))
      ∙ sym (and_assoc (net_permits n net (step_after n u e)) (permits_after n net (u ++ e ∷ []) w) (permits_after n net (u ++ e ∷ w) x))

  pub permits-append : (w x : Word) → permits n net (w ++ x) ≡ (permits n net w && permits_after n net w x)
  unfolding permits
  permits-append w x = permits_after-append [] w x

  -- a beginning of a permitted word is permitted
  pub permits-shorter : (u s : Word) → T (permits n net (u ++ s)) → T (permits n net u)
  permits-shorter u s t = and_l (permits n net u) (permits_after n net u s) (rw permits-append at t)

  -- one event more
  pub permits_snoc : (w : Word) (e : ℕ) → permits n net (w ++ e ∷ []) ≡ (permits n net w && net_permits n net (step_after n w e))
  unfolding permits_after
  permits_snoc w e = permits-append w (e ∷ []) ∙ ap (λ (b : Bool). permits n net w && b) (and-true (net_permits n net (step_after n w e)))

  -- a net that permits every word of a log permits every prefix
  pub permits-prefix : (log : Log) → PermitsLog n net log → (u : Word) → Prefix log u → T (permits n net u)
  permits-prefix log h u m = ⊎_elim empty long (prefix→ log u m)
    where
      empty : u ≡ [] → T (permits n net u)
      empty e = subst (λ (x : Word). T (permits n net x)) (sym e) permits-empty

      long : (w : Word) × Memᴰ w log × Begins u w → T (permits n net u)
      long r = permits-shorter u r.2.0 (subst (λ (x : Word). T (permits n net x)) (sym r.2.1) (permits-word n net log h r.0 r.1))

-- ---- allowed steps

module _ (n : ℕ) (log : Log) (s : Step) where
  -- a prefix with these counts, and the event after it
  abbrev pub Follows : Type 0
  Follows = (u : Word) × (counts n u ≡ s.row) × Prefix log (u ++ s.event ∷ [])

  pub allowed→ : T (allowed n log s) → Follows
  unfolding allowed
  allowed→ t =
      let r = any_witness (λ u. equal (counts n u) s.row && member (u ++ s.event ∷ []) (prefixes log)) (prefixes log) t in
      let both = r.2 in
      (r.0, equal→eq (counts n r.0) s.row (search and_l), member→ (r.0 ++ s.event ∷ []) (prefixes log) (search and_r))

  pub →allowed : Follows → T (allowed n log s)
  unfolding allowed
  →allowed f =
      any_intro (λ u. equal (counts n u) s.row && member (u ++ s.event ∷ []) (prefixes log)) (prefixes log)
      (prefix-shorter log f.0 (s.event ∷ []) f.2)
      (and_i (equal (counts n f.0) s.row) (member (f.0 ++ s.event ∷ []) (prefixes log)) (eq→equal (counts n f.0) s.row f.1) (→member (f.0 ++ s.event ∷ []) (prefixes log) f.2))

-- the allowed steps depend on the prefixes only
pub allowed-more : (n : ℕ) (log₁ log₂ : Log) → ((u : Word) → Prefix log₁ u → Prefix log₂ u) → (s : Step) → T (allowed n log₁ s) → T (allowed n log₂ s)
allowed-more n log₁ log₂ h s t = let f = allowed→ n log₁ s t in →allowed n log₂ s (f.0, f.1, h (f.0 ++ s.event ∷ []) f.2)

-- a net that permits every word of a log permits every allowed step
pub permits-allowed : (n : ℕ) (net : Net) (log : Log) → PermitsLog n net log → (s : Step) → T (allowed n log s) → T (net_permits n net s)
permits-allowed n net log h s t =
    let f = allowed→ n log s t in
    let longer = permits-prefix n net log h (f.0 ++ s.event ∷ []) f.2 in
    let last = and_r (permits n net f.0) (net_permits n net (step_after n f.0 s.event)) (rw permits_snoc at longer) in
    subst (λ (v : List ℕ). T (net_permits n net (record { row = v; event = s.event }))) f.1 last

-- and the other way: a net that permits every allowed step permits every prefix, so every word of the log
module _ (n : ℕ) (net : Net) (log : Log) (h : (s : Step) → T (allowed n log s) → T (net_permits n net s)) where
  allowed-permits : (x u : Word) → Prefix log (u ++ x) → T (permits_after n net u x)
  unfolding permits_after
  allowed-permits [] u m = tt
  allowed-permits (e ∷ x) u m =
      and_i (net_permits n net (step_after n u e)) (permits_after n net (u ++ e ∷ []) x)
      (h (step_after n u e) (→allowed n log (step_after n u e) (u, refl, prefix-shorter log (u ++ e ∷ []) x m')))
      (allowed-permits x (u ++ e ∷ []) m')
    where
      m' : Prefix log (u ++ e ∷ [] ++ x)
      m' = Memᴰ.cast (append_snoc u e x) m

  pub steps-permit : PermitsLog n net log
  unfolding permits
  steps-permit = →permits_log n net log (λ w m. allowed-permits w [] (word-prefix log w m))
