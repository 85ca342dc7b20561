-- The words that lead to a wanted event are those that the net permits with it behind them, each once, in their order; and so is the first of them.
use Rattle.std.specs.Prelude.{◌≡◌, refl, true, ◌⊎◌, Some, None, ℕ, zero, suc, ◌+◌, ◌-◌, ◌≤◌, ◌<◌, T, length, get_or, take}
use Rattle.std.proofs.Common.{sym, ap, ap₂, ◌∙◌, subst, arith, inl, inr, ⊎_elim}
use Rattle.std.specs.Float.Ieee.Fits.{and_i, and_l, and_r}
use mathlib.Core.List.Memᴰ
use mathlib.Core.List.{List, [], ◌∷◌, ◌++◌, map, Memᴰ}
use Rattle.laws.specs.Booleans.{impossible, yes_true}
use Rattle.laws.specs.Firsts.{first_of}
use Rattle.laws.specs.Lists.{flat_map_same, tabulate-same, tabulate, tabulate-member, tabulate_inverse, flat_map-member, flat_map_intro}
use Rattle.laws.specs.Sorting.{Sorted, sorted_tabulate, sorted_flat_map, sorted_map}
use Rattle.nets.specs.Nets.{Word, Net, no_place, step_after, net_permits, permits_after, permits}
use Rattle.nets.specs.Fits.{Below, below_cons}
use Rattle.nets.specs.Carrying.{taken_from, put_into, initials, Played, moved, lacking, play, Carried, tokens_behind}
use Rattle.nets.specs.Reaching.{where_moved, leading, all_leading}
use Rattle.nets.specs.WordOrder.{Earlier, Precedes, earlier_cons, earlier-first}
use Rattle.nets.proofs.Carrying.{carried-start, permits-enough, enough-net, carried-moved}
use Rattle.nets.proofs.Plays.{none-enough, play-enough, play-short, play_cases, play-front, play-moved, enough-none}

where_moved→ : {A : Type 0} (p : Played) (f : List ℕ → List A) {x : A} → Memᴰ x (where_moved p f) → (us : List ℕ) × (p ≡ moved us) × Memᴰ x (f us)
unfolding where_moved
where_moved→ (moved us) f m = (us, refl, m)
where_moved→ (lacking j k) f m = absurd (Memᴰ.not-nil m)

→where_moved : {A : Type 0} (p : Played) (f : List ℕ → List A) {x : A} (us : List ℕ) → p ≡ moved us → Memᴰ x (f us) → Memᴰ x (where_moved p f)
unfolding where_moved
→where_moved p f us is m = rw is m

on_moved : {A : Type 0} (p : Played) (f g : List ℕ → List A) → ((us : List ℕ) → f us ≡ g us) → where_moved p f ≡ where_moved p g
unfolding where_moved
on_moved (moved us) f g same = same us
on_moved (lacking j k) f g same = refl

-- ---- An event played is a step of the net

module _ (n : ℕ) (net : Net) (u : Word) (ts : List ℕ) (is : Carried n net u ts) (e : ℕ) (below : e < n) where
  moved-permits : (us : List ℕ) → play net ts e ≡ moved us → T (net_permits n net (step_after n u e)) × Carried n net (u ++ e ∷ []) us
  moved-permits us plays =
      let (enough, behind) = (play-moved net ts e us).0 plays in
      let most = enough-none net ts e enough in
      (rw (enough-net n net u ts is e below most) tt, subst (Carried n net (u ++ e ∷ [])) (sym behind) (carried-moved n net u ts is e below most))

  permits-moved : T (net_permits n net (step_after n u e)) → play net ts e ≡ moved (tokens_behind net ts e)
  permits-moved t = play-enough net ts e (none-enough net ts e (permits-enough n net u ts is e (yes_true _ t)))

-- ---- The members

module _ (n : ℕ) (net : Net) (wanted : ℕ) (there : wanted < n) where
  -- the net permits w behind u, and then the wanted event
  abbrev pub Leads : Word → Word → Type 0
  Leads u w = T (permits_after n net u (w ++ wanted ∷ []))

  leading→ : (d : ℕ) (u : Word) (ts : List ℕ) → Carried n net u ts → (w : Word) → Memᴰ w (leading n net wanted d ts)
      → (length w ≡ d) × Below n w × Leads u w
  unfolding leading permits_after
  leading→ zero u ts is w m =
      let (us, plays, k) = where_moved→ (play net ts wanted) (λ us. [] ∷ []) m in
      let none = Memᴰ.eq_of_singleton k in
      let permitted = (moved-permits n net u ts is wanted there us plays).0 in (
        ap length none,
        λ e h. absurd (Memᴰ.not-nil (subst (λ (x : Word). Memᴰ e x) none h)),
        subst (Leads u) (sym none) (and_i (net_permits n net (step_after n u wanted)) true permitted tt),
      )
  leading→ (suc d) u ts is w m =
      let (e, inside, k) = flat_map-member _ (tabulate n (λ e. e)) m in
      let (i, low, same) = tabulate_inverse n (λ e. e) inside in
      let below : e < n = omega (arith, low, same) in
      let (us, plays, j) = where_moved→ (play net ts e) (λ us. map (λ w. e ∷ w) (leading n net wanted d us)) k in
      let (rest, in_rest, is_w) = Memᴰ.of_map (λ w. e ∷ w) (leading n net wanted d us) j in
      let (permitted, next) = moved-permits n net u ts is e below us plays in
      let (size, all, leads) = leading→ d (u ++ e ∷ []) us next rest in_rest in (
        sym (ap length is_w) ∙ ap suc size,
        subst (Below n) is_w (below_cons n e rest below all),
        subst (Leads u) is_w
            (and_i (net_permits n net (step_after n u e)) (permits_after n net (u ++ e ∷ []) (rest ++ wanted ∷ [])) permitted leads),
      )

  →leading : (w u : Word) (ts : List ℕ) → Carried n net u ts → Below n w → Leads u w → Memᴰ w (leading n net wanted (length w) ts)
  unfolding leading permits_after
  →leading [] u ts is below leads =
      let permitted = and_l (net_permits n net (step_after n u wanted)) true leads in
      →where_moved (play net ts wanted) (λ us. [] ∷ []) _ (permits-moved n net u ts is wanted there permitted) (Memᴰ.head refl)
  →leading (e ∷ w) u ts is below leads =
      let permitted = and_l (net_permits n net (step_after n u e)) (permits_after n net (u ++ e ∷ []) (w ++ wanted ∷ [])) leads in
      let rest = and_r (net_permits n net (step_after n u e)) (permits_after n net (u ++ e ∷ []) (w ++ wanted ∷ [])) leads in
      let low = below e (Memᴰ.head refl) in
      let plays = permits-moved n net u ts is e low permitted in
      let next = (moved-permits n net u ts is e low _ plays).1 in
      flat_map_intro _ (tabulate n (λ e. e)) (tabulate-member n (λ e. e) e low)
      (→where_moved (play net ts e) (λ us. map (λ w. e ∷ w) (leading n net wanted (length w) us)) _ plays
      (Memᴰ.map (λ w. e ∷ w) (→leading w (u ++ e ∷ []) _ next (λ x m. below x (Memᴰ.tail m)) rest)))

-- ---- Their order

module _ (n : ℕ) (net : Net) (wanted : ℕ) where
  leading_sorted : (d : ℕ) (ts : List ℕ) → Sorted Earlier (leading n net wanted d ts)
  unfolding leading where_moved
  leading_sorted zero ts = go (play net ts wanted)
    where
      go : (p : Played) → Sorted Earlier (where_moved p (λ us. [] ∷ []))
      go (moved us) = ((λ y m. absurd (Memᴰ.not-nil m)), tt)
      go (lacking j k) = tt
  leading_sorted (suc d) ts = sorted_flat_map ◌<◌ Earlier from (tabulate n (λ e. e)) (sorted_tabulate ◌<◌ n (λ e. e) (λ i j h. h))
      (each (λ us. leading_sorted d us)) across
    where
      from : ℕ → List Word
      from e = where_moved (play net ts e) (λ us. map (λ w. e ∷ w) (leading n net wanted d us))

      each : ((us : List ℕ) → Sorted Earlier (leading n net wanted d us)) → (e : ℕ) → Sorted Earlier (from e)
      each sorted e = go (play net ts e)
        where
          go : (p : Played) → Sorted Earlier (where_moved p (λ us. map (λ w. e ∷ w) (leading n net wanted d us)))
          go (moved us) = sorted_map Earlier Earlier (λ w. e ∷ w) (leading n net wanted d us) (sorted us) (λ x y h. earlier_cons e h)
          go (lacking j k) = tt

      begins : (e : ℕ) (w : Word) → Memᴰ w (from e) → (x : Word) × (e ∷ x ≡ w)
      begins e w m =
          let (us, plays, k) = where_moved→ (play net ts e) (λ us. map (λ w. e ∷ w) (leading n net wanted d us)) m in
          let (x, inside, is) = Memᴰ.of_map (λ w. e ∷ w) (leading n net wanted d us) k in
          (x, is)

      across : (e i : ℕ) → e < i → (w x : Word) → Memᴰ w (from e) → Memᴰ x (from i) → Earlier w x
      across e i less w x m k =
          let (a, is_w) = begins e w m in
          let (b, is_x) = begins i x k in
          subst (λ (y : Word). Earlier y x) is_w (subst (Earlier (e ∷ a)) is_x (earlier-first e i a b less))

  -- all of them are as long
  module _ (there : wanted < n) where
    sized : (d : ℕ) (w : Word) → Memᴰ w (leading n net wanted d (initials net)) → length w ≡ d
    sized d w m = (leading→ n net wanted there d [] (initials net) (carried-start n net) w m).0

    same_size : (d : ℕ) (l : List Word) → ((w : Word) → Memᴰ w l → length w ≡ d) → Sorted Earlier l → Sorted Precedes l
    same_size d [] size s = tt
    same_size d (w ∷ l) size s = (
      (λ x m. inr (size w (Memᴰ.head refl) ∙ sym (size x (Memᴰ.tail m)), s.0 x m)),
      same_size d l (λ x m. size x (Memᴰ.tail m)) s.1,
    )

    all_sorted : (k : ℕ) → Sorted Precedes (all_leading n net wanted k)
    unfolding all_leading
    all_sorted k = sorted_flat_map ◌<◌ Precedes (λ d. leading n net wanted d (initials net)) (tabulate k (λ d. d))
        (sorted_tabulate ◌<◌ k (λ d. d) (λ i j h. h))
        (λ d. same_size d _ (sized d) (leading_sorted d (initials net)))
        (λ d i less w x m j. inl (omega (arith, less, sized d w m, sized i x j)))

    -- ---- The first of them

    all_leading→ : (k : ℕ) (w : Word) → Memᴰ w (all_leading n net wanted k)
        → (length w < k) × Below n w × T (permits n net (w ++ wanted ∷ []))
    unfolding all_leading permits
    all_leading→ k w m =
        let (d, inside, j) = flat_map-member _ (tabulate k (λ d. d)) m in
        let (i, low, same) = tabulate_inverse k (λ d. d) inside in
        let (size, below, leads) = leading→ n net wanted there d [] (initials net) (carried-start n net) w j in
        (omega (arith, low, same, size), below, leads)

    →all_leading : (k : ℕ) (w : Word) → length w < k → Below n w → T (permits n net (w ++ wanted ∷ [])) → Memᴰ w (all_leading n net wanted k)
    unfolding all_leading permits
    →all_leading k w short below leads =
        flat_map_intro _ (tabulate k (λ d. d)) (tabulate-member k (λ d. d) (length w) short)
        (→leading n net wanted there w [] (initials net) (carried-start n net) below leads)

    -- a word of fewer than k events leads there, and none that precedes it
    pub record FirstLeading (k : ℕ) (w : Word) : Type 0 where
      pub short : length w < k
      pub below : Below n w
      pub leads : T (permits n net (w ++ wanted ∷ []))
      pub first : (x : Word) → length x < k → Below n x → T (permits n net (x ++ wanted ∷ [])) → (x ≡ w) ⊎ Precedes w x

    pub first-found : (k : ℕ) (w : Word) → first_of (all_leading n net wanted k) ≡ Some w → FirstLeading k w
    unfolding first_of
    first-found k w is = go (all_leading n net wanted k) refl (all_sorted k) is
      where
        go : (l : List Word) → all_leading n net wanted k ≡ l → Sorted Precedes l → first_of l ≡ Some w → FirstLeading k w
        go [] same s e = impossible cc
        go (y ∷ l) same s e =
            let y_is : y ≡ w = cc in
            let inside : Memᴰ w (all_leading n net wanted k) = subst (Memᴰ w) (sym same) (Memᴰ.head (sym y_is)) in
            let (short, below, leads) = all_leading→ k w inside in
            record {
              short = short;
              below = below;
              leads = leads;
              first = λ x few all t. later x (subst (Memᴰ x) same (→all_leading k x few all t));
            }
          where
            later : (x : Word) → Memᴰ x (y ∷ l) → (x ≡ w) ⊎ Precedes w x
            later x (Memᴰ.head q) = let y_is : y ≡ w = cc in inl (q ∙ y_is)
            later x (Memᴰ.tail m) = let y_is : y ≡ w = cc in inr (subst (λ (z : Word). Precedes z x) y_is (s.0 x m))

    pub none-found : (k : ℕ) → first_of (all_leading n net wanted k) ≡ None
        → (x : Word) → length x < k → Below n x → T (permits n net (x ++ wanted ∷ [])) → ⊥
    unfolding first_of
    none-found k is x few all t = go (all_leading n net wanted k) (→all_leading k x few all t) is
      where
        go : (l : List Word) → Memᴰ x l → first_of l ≡ None → ⊥
        go [] m e = Memᴰ.not-nil m
        go (y ∷ l) m e = impossible cc

-- ---- What the words depend on: the front of the tokens, and the numbers of the places

pub leading-front : (n : ℕ) (net : Net) (wanted d : ℕ) (ts us : List ℕ) → take (length net) ts ≡ take (length net) us
    → leading n net wanted d ts ≡ leading n net wanted d us
unfolding leading
leading-front n net wanted zero ts us same = ap (λ (p : Played). where_moved p (λ us. [] ∷ [])) (play-front net ts us wanted same)
leading-front n net wanted (suc d) ts us same = flat_map_same _ _ (tabulate n (λ e. e)) (λ e m.
    ap (λ (p : Played). where_moved p (λ us. map (λ w. e ∷ w) (leading n net wanted d us))) (play-front net ts us e same))

-- the places have the same numbers for the events below n
pub record SameNumbers (n : ℕ) (net other : Net) : Type 0 where
  pub size : length net ≡ length other
  pub produced : (j e : ℕ) → j < length net → e < n → (get_or net j no_place).produced e ≡ (get_or other j no_place).produced e
  pub consumed : (j e : ℕ) → j < length net → e < n → (get_or net j no_place).consumed e ≡ (get_or other j no_place).consumed e

module _ (n : ℕ) (net other : Net) (same : SameNumbers n net other) where
  behind-same : (ts : List ℕ) (e : ℕ) → e < n → tokens_behind net ts e ≡ tokens_behind other ts e
  unfolding tokens_behind
  behind-same ts e h =
      tabulate-same (length net) _ _ (λ j b. ap₂ (λ (x y : ℕ). get_or ts j 0 - x + y) (same.consumed j e b h) (same.produced j e b h))
      ∙ ap (λ (k : ℕ). tabulate k (λ j. get_or ts j 0 - taken_from other ts e j + put_into other ts e j)) same.size

  play-same : (ts : List ℕ) (e : ℕ) → e < n → play net ts e ≡ play other ts e
  play-same ts e h = ⊎_elim
      (λ enough. play-enough net ts e enough ∙ ap moved (behind-same ts e h)
      ∙ sym (play-enough other ts e (λ j b. let b' : j < length net = omega (arith, b, same.size) in
      subst (λ (x : ℕ). x ≤ get_or ts j 0) (same.consumed j e b' h) (enough j b'))))
      (λ (j, (there, short, below)). play-short net ts e j (there, short, below)
      ∙ ap (λ (x : ℕ). lacking j (x - get_or ts j 0)) (same.consumed j e there h)
      ∙ sym (play-short other ts e j (
        omega (arith, there, same.size),
        subst (λ (x : ℕ). get_or ts j 0 < x) (same.consumed j e there h) short,
        λ i b. subst (λ (x : ℕ). x ≤ get_or ts i 0) (same.consumed i e (omega (arith, b, there)) h) (below i b),
      )))
      (play_cases net ts e)

  pub leading-same : (wanted : ℕ) → wanted < n → (d : ℕ) (ts : List ℕ) → leading n net wanted d ts ≡ leading n other wanted d ts
  unfolding leading
  leading-same wanted h zero ts = ap (λ (p : Played). where_moved p (λ us. [] ∷ [])) (play-same ts wanted h)
  leading-same wanted h (suc d) ts = flat_map_same _ _ (tabulate n (λ e. e)) (λ e m.
      let (i, low, is) = tabulate_inverse n (λ e. e) m in
      ap (λ (p : Played). where_moved p (λ us. map (λ w. e ∷ w) (leading n net wanted d us))) (play-same ts e (omega (arith, low, is)))
      ∙ on_moved (play other ts e) (λ us. map (λ w. e ∷ w) (leading n net wanted d us)) (λ us. map (λ w. e ∷ w) (leading n other wanted d us))
      (λ us. ap (map (λ w. e ∷ w)) (leading-same wanted h d us)))
