-- Screening by positions: the answer is the lowest position that some place refuses, then the lowest place that refuses it.
-- It may be found place by place, each one followed only up to the best position so far.
use Rattle.std.specs.Prelude.{◌≡◌, Bool, true, false, cond, ◌&&◌, length, take, get_or, ltb, Option, Some, None}
use Rattle.std.proofs.Math.Path.{refl, ap, ap₂}
use Rattle.std.proofs.Common.{sym, ◌∙◌, subst, not-suc-le-zero, le_of_suc-le-suc, arith, length-take, get_or-append-add, take-take, get_or-take, ltb-true, ltb-false, lt-ltb, le-ltb}
use Rattle.std.proofs.Math.Bool.{and-true}
use mathlib.Core.List.{[], ◌∷◌, ◌++◌, append-nil, append_assoc}
use Prim.Native.Nat.{ℕ, zero, suc, ◌+◌, ◌≤◌, ◌<◌}
use Rattle.std.proofs.Math.ListN.{length-append, get_or-append}
use Rattle.std.proofs.Math.Seq.{get_or-append_seam}
use Rattle.laws.specs.Booleans.{impossible}
use Rattle.laws.specs.Lists.{all}
use Rattle.laws.specs.Scans.{failing-append, failing-found, failing-behind, all-failing, some-failing}
use Rattle.nets.specs.Nets.{Word, Net, Place, Step, no_place, permitted, stopped, step_after, step_at, place_permits, net_permits, first_refusing, shortfall, shortfall_of, stopped_at, screen_after, screen}
use Rattle.nets.proofs.Joining.{join_step}
use Rattle.stops.specs.declared.Stop.{Stop}
use Rattle.std.specs.Option.{option_or}

-- ---- a stop, or none

-- a stop of a word; none where it is the word's end
unfoldable pub stop_in : Word → Stop → Option Stop
stop_in w s = cond (ltb s.position (length w)) (Some s) None

-- the same as a stop: the word's end and no shortfall where there is none
unfoldable pub stop_or_end : Word → Option Stop → Stop
stop_or_end w (Some s) = s
stop_or_end w None = record { position = length w; place = 0; shortfall = 0 }

module _ (w : Word) (s : Stop) where
  pub stop_in-early : s.position < length w → stop_in w s ≡ Some s
  unfolding stop_in
  stop_in-early h = rw (lt-ltb s.position (length w) h)

  pub stop_in-late : length w ≤ s.position → stop_in w s ≡ None
  unfolding stop_in
  stop_in-late h = rw (le-ltb s.position (length w) h)

  pub stop_in-some : {f : Stop} → Some f ≡ stop_in w s → (f ≡ s) × (s.position < length w)
  unfolding stop_in
  stop_in-some {f} e = go (ltb s.position (length w)) refl e
    where
      go : (t : Bool) → ltb s.position (length w) ≡ t → Some f ≡ cond t (Some s) None → (f ≡ s) × (s.position < length w)
      go true q e = ((cc), ltb-true s.position (length w) q)
      go false q e = impossible cc

  pub stop_in-none : None ≡ stop_in w s → length w ≤ s.position
  unfolding stop_in
  stop_in-none e = go (ltb s.position (length w)) refl e
    where
      go : (t : Bool) → ltb s.position (length w) ≡ t → None ≡ cond t (Some s) None → length w ≤ s.position
      go true q e = impossible cc
      go false q e = ltb-false s.position (length w) q

module _ (n : ℕ) where
  -- the step of a word at a position, behind the events of u
  abbrev pub step_behind : Word → Word → ℕ → Step
  step_behind u w i = step_after n (u ++ take i w) (get_or w i 0)

  pub step-first : (u : Word) (e : ℕ) (w : Word) → step_behind u (e ∷ w) 0 ≡ step_after n u e
  step-first u e w = ap (λ (v : Word). step_after n v e) (append-nil u)

  -- behind one event more
  pub step-shift : (u : Word) (e : ℕ) (w : Word) (i : ℕ) → step_behind (u ++ e ∷ []) w i ≡ step_behind u (e ∷ w) (suc i)
  step-shift u e w i = ap (λ (v : Word). step_after n v (get_or w i 0)) (append_assoc u (e ∷ []) (take i w))

  -- the steps of a prefix are those of the word
  pub step_cut : (w : Word) (end i : ℕ) → i < end → step_at n (take end w) i ≡ step_at n w i
  step_cut w end i h = ap₂ (λ (u : Word) (e : ℕ). step_after n u e) (take-take i end w (omega arith)) (get_or-take end w i 0 h)

  -- ---- screening

  module _ (net : Net) where
    stopped-behind : (w u : Word) (k : ℕ) → k < length w → ((i : ℕ) → i < k → net_permits n net (step_behind u w i) ≡ true)
        → net_permits n net (step_behind u w k) ≡ false → screen_after n net u w ≡ stopped_at n net (length u + k) (step_behind u w k)
    unfolding screen_after
    stopped-behind [] u k h passed refused = absurd (not-suc-le-zero h)
    stopped-behind (e ∷ w) u zero h passed refused =
        rw (sym (ap (net_permits n net) (step-first u e w)) ∙ refused, append-nil) (ap (λ (i : ℕ). stopped_at n net i (step_after n u e)) (omega arith))
    stopped-behind (e ∷ w) u (suc k) h passed refused =
        rw (sym (ap (net_permits n net) (step-first u e w)) ∙ passed 0 (omega arith))
        (stopped-behind w (u ++ e ∷ []) k (le_of_suc-le-suc h) (λ i b. ap (net_permits n net) (step-shift u e w i) ∙ passed (suc i) (omega arith)) (ap (net_permits n net) (step-shift u e w k) ∙ refused)
        ∙ ap₂ (stopped_at n net) (omega (arith, length-append u (e ∷ []))) (step-shift u e w k))

    passed-behind : (w u : Word) → ((i : ℕ) → i < length w → net_permits n net (step_behind u w i) ≡ true) → screen_after n net u w ≡ permitted
    unfolding screen_after
    passed-behind [] u passed = refl
    passed-behind (e ∷ w) u passed =
        rw (sym (ap (net_permits n net) (step-first u e w)) ∙ passed 0 (omega arith))
        (passed-behind w (u ++ e ∷ []) (λ i b. ap (net_permits n net) (step-shift u e w i) ∙ passed (suc i) (omega arith)))

    pub screen-stopped-at : (w : Word) (k : ℕ) → k < length w → ((i : ℕ) → i < k → net_permits n net (step_at n w i) ≡ true)
        → net_permits n net (step_at n w k) ≡ false → screen n net w ≡ stopped_at n net k (step_at n w k)
    unfolding screen
    screen-stopped-at w k h passed refused = stopped-behind w [] k h passed refused ∙ ap (λ (i : ℕ). stopped_at n net i (step_at n w k)) (omega arith)

    pub screen-passed : (w : Word) → ((i : ℕ) → i < length w → net_permits n net (step_at n w i) ≡ true) → screen n net w ≡ permitted
    unfolding screen
    screen-passed w passed = passed-behind w [] passed

  -- ---- one place more

  -- a net with more places behind it
  module _ (s : Step) (net more : Net) where
    -- where it refuses already, its lowest place stays the lowest
    lowest-stays : net_permits n net s ≡ false → first_refusing n (net ++ more) s ≡ first_refusing n net s
    unfolding net_permits first_refusing
    lowest-stays e = failing-found (λ q. place_permits n q s) net more (some-failing (λ q. place_permits n q s) net e)

    -- where it does not, the lowest of the others is
    lowest-behind : net_permits n net s ≡ true → first_refusing n (net ++ more) s ≡ length net + first_refusing n more s
    unfolding net_permits first_refusing
    lowest-behind e = failing-behind (λ q. place_permits n q s) net more e

    -- the shortfalls stay, by the places' numbers
    short-stays : (j : ℕ) → j < length net → shortfall_of n (net ++ more) j s ≡ shortfall_of n net j s
    unfolding shortfall_of
    short-stays j h = ap (λ (q : Place). shortfall n q s) (get_or-append net more no_place j h)

    short-behind : (j : ℕ) → shortfall_of n (net ++ more) (length net + j) s ≡ shortfall_of n more j s
    unfolding shortfall_of
    short-behind j = ap (λ (q : Place). shortfall n q s) (get_or-append-add net more j no_place)

  module _ (p : Place) (s : Step) where
    permits_snoc : (net : Net) → net_permits n (net ++ p ∷ []) s ≡ net_permits n net s && place_permits n p s
    unfolding net_permits all
    permits_snoc net = join_step n net (p ∷ []) s ∙ ap (λ (t : Bool). net_permits n net s && t) (and-true (place_permits n p s))

    -- the new one is the lowest where no other refuses
    lowest-new : (net : Net) → net_permits n net s ≡ true → place_permits n p s ≡ false → first_refusing n (net ++ p ∷ []) s ≡ length net
    unfolding net_permits first_refusing
    lowest-new net e r = failing-append (λ q. place_permits n q s) net p [] r ∙ all-failing (λ q. place_permits n q s) net e

    -- its shortfall, by its number
    short-new : (net : Net) → shortfall_of n (net ++ p ∷ []) (length net) s ≡ shortfall n p s
    unfolding shortfall_of
    short-new net = ap (λ (q : Place). shortfall n q s) (get_or-append_seam net p [] no_place)

  -- a place that refuses is there
  module _ (s : Step) where
    lowest-there : (net : Net) → net_permits n net s ≡ false → first_refusing n net s < length net
    unfolding net_permits first_refusing
    lowest-there net e = some-failing (λ q. place_permits n q s) net e

  -- ---- the best position so far

  -- with the places of a net, a word stops first at that position, and there at that place with that shortfall; its length where it does not stop
  pub record Best (net : Net) (w : Word) (stop : Stop) : Type 0 where
    pub within : stop.position ≤ length w
    pub passed : (i : ℕ) → i < stop.position → net_permits n net (step_at n w i) ≡ true
    pub refused : stop.position < length w → net_permits n net (step_at n w stop.position) ≡ false
    pub first : stop.position < length w → first_refusing n net (step_at n w stop.position) ≡ stop.place
    pub short : stop.position < length w → shortfall_of n net stop.place (step_at n w stop.position) ≡ stop.shortfall

  pub best-start : (w : Word) → Best [] w (record { position = length w; place = 0; shortfall = 0 })
  unfolding net_permits all
  best-start w = record {
    within = omega arith;
    passed = λ i h. refl;
    refused = λ h. absurd (omega arith);
    first = λ h. absurd (omega arith);
    short = λ h. absurd (omega arith);
  }

  module _ {net : Net} {w : Word} {stop : Stop} (b : Best net w stop) where
    pub best-stopped : stop.position < length w → screen n net w ≡ stopped stop.position stop.place stop.shortfall
    unfolding stopped_at
    best-stopped h =
        screen-stopped-at net w stop.position h b.passed (b.refused h)
        ∙ ap (λ (j : ℕ). stopped stop.position j (shortfall_of n net j (step_at n w stop.position))) (b.first h)
        ∙ ap (stopped stop.position stop.place) (b.short h)

    -- the place that refuses is one of the net
    pub best-place : stop.position < length w → stop.place < length net
    best-place h = subst (λ (j : ℕ). j < length net) (b.first h) (lowest-there (step_at n w stop.position) net (b.refused h))

    pub best-permitted : length w ≤ stop.position → screen n net w ≡ permitted
    best-permitted h = screen-passed net w (λ i k. b.passed i (omega arith))

    module _ (p : Place) where
      -- a place that permits each step before the best one
      pub best-stays : ((i : ℕ) → i < stop.position → place_permits n p (step_at n w i) ≡ true) → Best (net ++ p ∷ []) w stop
      best-stays permits =
          let step = step_at n w stop.position in
          record {
            within = b.within;
            passed = λ i h. permits_snoc p (step_at n w i) net ∙ rw (b.passed i h, permits i h);
            refused = λ h. permits_snoc p step net ∙ rw (b.refused h);
            first = λ h. lowest-stays step net (p ∷ []) (b.refused h) ∙ b.first h;
            short = λ h. short-stays step net (p ∷ []) stop.place (best-place h) ∙ b.short h;
          }

      -- a place that refuses an earlier one
      pub best-earlier : (k : ℕ) → k < stop.position → ((i : ℕ) → i < k → place_permits n p (step_at n w i) ≡ true)
          → place_permits n p (step_at n w k) ≡ false
          → Best (net ++ p ∷ []) w (record { position = k; place = length net; shortfall = shortfall n p (step_at n w k) })
      best-earlier k h permits refuses = record {
        within = omega (arith, b.within);
        passed = λ i l. permits_snoc p (step_at n w i) net ∙ rw (b.passed i (omega arith), permits i l);
        refused = λ l. permits_snoc p (step_at n w k) net ∙ rw (b.passed k h, refuses);
        first = λ l. lowest-new p (step_at n w k) net (b.passed k h) refuses;
        short = λ l. short-new p (step_at n w k) net;
      }

  -- ---- the places of two nets, the second searched up to the best position of the first

  module _ {one two : Net} {w : Word} {first second : Stop} (a : Best one w first) (b : Best two (take first.position w) second) where
    abbrev end : ℕ
    end = first.position

    size : length (take end w) ≡ end
    size = length-take end w ∙ omega (arith, a.within)

    both : (i : ℕ) → i < end → i < second.position → net_permits n (one ++ two) (step_at n w i) ≡ true
    both i h l = join_step n one two (step_at n w i) ∙ rw (a.passed i h) (ap (net_permits n two) (sym (step_cut w end i h)) ∙ b.passed i l)

    pub best-first : end ≤ second.position → Best (one ++ two) w first
    best-first h =
        let step = step_at n w end in
        record {
          within = a.within;
          passed = λ i l. both i l (omega arith);
          refused = λ l. join_step n one two step ∙ rw (a.refused l);
          first = λ l. lowest-stays step one two (a.refused l) ∙ a.first l;
          short = λ l. short-stays step one two first.place (best-place a l) ∙ a.short l;
        }

    pub best-second : second.position < end → Best (one ++ two) w (record { position = second.position; place = length one + second.place; shortfall = second.shortfall })
    best-second h =
        let step = step_at n w second.position in
        let same = step_cut w end second.position h in
        let inside : second.position < length (take end w) = omega (arith, size) in
        let passed = a.passed second.position h in
        record {
          within = omega (arith, a.within);
          passed = λ i l. both i (omega arith) l;
          refused = λ l. join_step n one two step ∙ rw passed (ap (net_permits n two) (sym same) ∙ b.refused inside);
          first = λ l. lowest-behind step one two passed ∙ ap (λ (j : ℕ). length one + j) (ap (first_refusing n two) (sym same) ∙ b.first inside);
          short = λ l. short-behind step one two second.place ∙ ap (shortfall_of n two second.place) (sym same) ∙ b.short inside;
        }

  -- a stop in a prefix is one of the word
  pub best-cut : {net : Net} {w : Word} {stop : Stop} {end : ℕ} → end ≤ length w → Best net (take end w) stop → stop.position < end → Best net w stop
  best-cut {net} {w} {stop} {end} inside b h =
      let same = step_cut w end stop.position h in
      let l : stop.position < length (take end w) = omega (arith, length-take end w) in
      record {
        within = omega arith;
        passed = λ i k. ap (net_permits n net) (sym (step_cut w end i (omega arith))) ∙ b.passed i k;
        refused = λ k. ap (net_permits n net) (sym same) ∙ b.refused l;
        first = λ k. ap (first_refusing n net) (sym same) ∙ b.first l;
        short = λ k. ap (shortfall_of n net stop.place) (sym same) ∙ b.short l;
      }

  module _ {w : Word} {stop : Stop} where
    -- no step before a stop is refused
    pub best-front : {net : Net} → Best net w stop → Best net (take stop.position w) (record { position = length (take stop.position w); place = 0; shortfall = 0 })
    best-front {net} b =
        let size : length (take stop.position w) ≡ stop.position = length-take stop.position w ∙ omega (arith, b.within) in
        record {
          within = omega arith;
          passed = λ i h. ap (net_permits n net) (step_cut w stop.position i (omega (arith, size))) ∙ b.passed i (omega (arith, size));
          refused = λ h. absurd (omega arith);
          first = λ h. absurd (omega arith);
          short = λ h. absurd (omega arith);
        }

    -- where more places permit each step before a stop, it stays
    pub best-late : (one two : Net) → Best one w stop → ((i : ℕ) → i < stop.position → net_permits n (one ++ two) (step_at n w i) ≡ true) → Best (one ++ two) w stop
    best-late one two b permits =
        let step = step_at n w stop.position in
        record {
          within = b.within;
          passed = permits;
          refused = λ h. join_step n one two step ∙ rw (b.refused h);
          first = λ h. lowest-stays step one two (b.refused h) ∙ b.first h;
          short = λ h. short-stays step one two stop.place (best-place b h) ∙ b.short h;
        }

  -- ---- what a search found

  -- with the places of a net, a word is stopped first there, or nowhere
  pub record Finds (net : Net) (w : Word) (found : Option Stop) : Type 0 where
    pub best : Best net w (stop_or_end w found)
    pub inside : (s : Stop) → found ≡ Some s → s.position < length w

  pub finds-start : (w : Word) → Finds [] w None
  unfolding stop_or_end
  finds-start w = record { best = best-start w; inside = λ s e. impossible cc }

  -- a search with more places, in the steps before what was found so far
  pub finds-or : (one two : Net) (w : Word) (best found : Option Stop) → Finds one w best
      → (Finds one (take (stop_or_end w best).position w) None → Finds (one ++ two) (take (stop_or_end w best).position w) found)
      → Finds (one ++ two) w (option_or found best)
  unfolding stop_or_end
  finds-or one two w best found b search = go found (search (record { best = best-front b.best; inside = λ s e. impossible cc }))
    where
      end : ℕ
      end = (stop_or_end w best).position

      size : length (take end w) ≡ end
      size = length-take end w ∙ omega (arith, b.best.within)

      go : (found : Option Stop) → Finds (one ++ two) (take end w) found → Finds (one ++ two) w (option_or found best)
      go None f = record {
        best = best-late one two b.best (λ i h. ap (net_permits n (one ++ two)) (sym (step_cut w end i h)) ∙ f.best.passed i (omega (arith, size)));
        inside = b.inside;
      }
      go (Some s) f =
          let h : s.position < end = omega (arith, f.inside s refl, size) in
          record {
            best = best-cut b.best.within f.best h;
            inside = λ k e. let same : s ≡ k = cc in omega (arith, ap (λ (x : Stop). x.position) same, b.best.within);
          }

  -- a word that is not refused is refused in no part, and a stop in a part is one of the word
  pub finds-front : {net : Net} {w : Word} → Finds net w None → (end : ℕ) → end ≤ length w → Finds net (take end w) None
  unfolding stop_or_end
  finds-front {net} {w} f end inside =
      let size : length (take end w) ≡ end = length-take end w ∙ omega arith in
      record {
        best = record {
          within = omega arith;
          passed = λ i h. ap (net_permits n net) (step_cut w end i (omega (arith, size))) ∙ f.best.passed i (omega (arith, size));
          refused = λ h. absurd (omega arith);
          first = λ h. absurd (omega arith);
          short = λ h. absurd (omega arith);
        };
        inside = λ s e. impossible cc;
      }

  pub finds-whole : {net : Net} {w : Word} {s : Stop} (end : ℕ) → end ≤ length w → Finds net (take end w) (Some s) → Finds net w (Some s)
  unfolding stop_or_end
  finds-whole {net} {w} {s} end inside f =
      let h : s.position < end = omega (arith, f.inside s refl, length-take end w) in
      record {
        best = best-cut inside f.best h;
        inside = λ k e. let same : s ≡ k = cc in omega (arith, ap (λ (x : Stop). x.position) same);
      }
