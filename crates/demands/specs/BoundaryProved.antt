-- The calls for C and Rust, proved: the lines of Boundary.antt from the definitions of crates/numbers and the numbers that a call refuses with.
use Rattle.std.specs.Prelude.{◌≡◌, refl, true, false, List, [], ◌∷◌, Option, ℕ, length, get_or, set, Err, None, Ok, Some}
use Rattle.std.proofs.Common.{sym, ap, subst, arith}
use Rattle.laws.specs.Booleans.{impossible}
use Rattle.laws.specs.Lists.{any, among, not-among}
use Rattle.refusals.specs.Results.{Result, value, refused, Refuses}
use Rattle.refusals.specs.Answers.{Answer, refusal, answer, number_of, value_of}
use Rattle.refusals.proofs.Laws.{refuses-fitted, answer-refused}
use Rattle.refusals.specs.declared.Refusal.{Refusal}
use Rattle.refusals.specs.Answers.{Written}
use Rattle.block.specs.RefusalNumbers.{open_refuses, seal_refuses}
use Rattle.nets.specs.Nets as nets
use Rattle.nets.specs.Nets.{permitted, stopped}
use Rattle.logs.specs.Answers.{taken_of, fresh_answer, taken_answer, taken_number}
use Rattle.logs.specs.RefusalNumbers.{fresh-refuses, take-refuses}
use Rattle.logs.specs.declared.Summary.{Summary}
use Rattle.logs.specs.Answers.{Taken}
use Rattle.bundles.specs.Layout.{Contents}
use Rattle.bundles.specs.Reading.{Read, item}
use Rattle.verdicts.specs.Judging.{verdict_of, verdict, verdict_number}
use Rattle.verdicts.specs.RefusalNumbers.{judged-refuses}
use Rattle.verdicts.specs.declared.Tally.{Tally}
use Rattle.verdicts.specs.Judging.{Verdict}
use Rattle.stops.specs.declared.Stop.{Stop}
use Rattle.screening.specs.Screening.{replayed, screened_of, screened, screened_joined, screened_number}
use Rattle.screening.specs.RefusalNumbers.{screening-refuses, joining-refuses}
use Rattle.screening.specs.Screening.{Screened}
use Rattle.editions.specs.RefusalNumbers.{to_new-refuses, to_old-refuses}
use Rattle.pruning.specs.RefusalNumbers.{pruning-refuses}
use Rattle.engine.specs.RefusalNumbers.{start_numbers, start_numbers_lem, step_numbers, step_numbers_lem, replace_numbers, replace_numbers_lem}
use Rattle.engine.specs.declared.Outcome.{Outcome}
use Rattle.engine.specs.declared.Outcome.TheVariants.{Moved, Stopped}
use Rattle.demands.specs.Carrying.{start_answer, step_answer}
use Rattle.numbers.specs.Numbers.{with_value, with_taken, with_verdict, with_stop, with_screened, sized_number, with_size}
use Rattle.numbers.specs.Numbers.{stepped_number, with_stepped, done_number, with_done}
use Rattle.search.specs.Causes.{reach_numbers, size_numbers_lem}
use Rattle.demands.specs.Reaching.{reach_size}
use Rattle.demands.specs.Replacing.{replace_answer}
use Rattle.demands.specs.Boundary.{Numbers, RefusedOut, Writes, Takes, Judges, Screens, Finds, Steps, Does, Boundary}

-- ---- Four numbers, of which some are set

four : (l : List ℕ) → length l ≡ 4 → (a : ℕ) × (b : ℕ) × (c : ℕ) × (d : ℕ) × (l ≡ a ∷ b ∷ c ∷ d ∷ [])
four [] e = absurd (omega (arith, e))
four (a ∷ []) e = absurd (omega (arith, e))
four (a ∷ b ∷ []) e = absurd (omega (arith, e))
four (a ∷ b ∷ c ∷ []) e = absurd (omega (arith, e))
four (a ∷ b ∷ c ∷ d ∷ []) e = (a, b, c, d, refl)
four (a ∷ b ∷ c ∷ d ∷ x ∷ l) e = absurd (omega (arith, e))

module _ (old : List ℕ) (size : length old ≡ 4) where
  one_set : (x : ℕ) → Numbers (set old 0 x) x (get_or old 1 0) (get_or old 2 0) (get_or old 3 0)
  one_set x = subst (λ (l : List ℕ). Numbers (set l 0 x) x (get_or l 1 0) (get_or l 2 0) (get_or l 3 0)) (sym (four old size).4)
      (record { first = refl; second = refl; third = refl; fourth = refl; size = refl })

  three-set : (x y z : ℕ) → Numbers (set (set (set old 0 x) 1 y) 2 z) x y z (get_or old 3 0)
  three-set x y z = subst (λ (l : List ℕ). Numbers (set (set (set l 0 x) 1 y) 2 z) x y z (get_or l 3 0)) (sym (four old size).4)
      (record { first = refl; second = refl; third = refl; fourth = refl; size = refl })

  four-set : (x y z u : ℕ) → Numbers (set (set (set (set old 0 x) 1 y) 2 z) 3 u) x y z u
  four-set x y z u = subst (λ (l : List ℕ). Numbers (set (set (set (set l 0 x) 1 y) 2 z) 3 u) x y z u) (sym (four old size).4)
      (record { first = refl; second = refl; third = refl; fourth = refl; size = refl })

  -- a refusal
  refused_out : (r s : Refusal) → r ≡ s → RefusedOut s r.number old (set old 0 r.spot)
  refused_out r s same = subst (λ (x : Refusal). RefusedOut x r.number old (set old 0 r.spot)) same (refl, one_set r.spot)

-- ---- Each answer, of a call that refuses neither with 0 nor, where it screens, with 256

-- a number that is not among those of a chain
apart : {A : Type 0} {numbers : List ℕ} {m : Result A} → Refuses numbers m → (k : ℕ) → among k numbers ≡ false
    → (r : Refusal) → m ≡ refused r.number r.spot → r.number ≡ k → ⊥
apart {A} {numbers} only k never r e is = not-among numbers k r.number never (only.only r.number r.spot e) (sym is)

written_out : (a : Written) → ((r : Refusal) → a ≡ Err r → r.number ≡ 0 → ⊥) → Writes a
unfolding number_of value_of with_value
written_out (Ok n) never old size = record {
  ok = ((λ z. (n, refl)), λ h. refl);
  written = λ m e. let same : n ≡ m = cc in
      subst (λ (k : ℕ). Numbers (set old 0 n) k (get_or old 1 0) (get_or old 2 0) (get_or old 3 0)) same (one_set old size n);
  refused = λ r e. impossible cc;
}
written_out (Err r) never old size = record {
  ok = ((λ z. absurd (never r refl z)), λ (n, e). impossible cc);
  written = λ n e. impossible cc;
  refused = λ s e. refused_out old size r s cc;
}

taken_out : (a : Taken) → ((r : Refusal) → a ≡ Err r → r.number ≡ 0 → ⊥) → Takes a
unfolding taken_number with_taken
taken_out (Ok s) never old size = record {
  ok = ((λ z. (s, refl)), λ h. refl);
  summary = λ t e. let same : s ≡ t = cc in
      subst (λ (x : Summary). Numbers (set (set (set old 0 s.n) 1 s.rows) 2 s.events) x.n x.rows x.events (get_or old 3 0)) same
      (three-set old size s.n s.rows s.events);
  refused = λ r e. impossible cc;
}
taken_out (Err r) never old size = record {
  ok = ((λ z. absurd (never r refl z)), λ (s, e). impossible cc);
  summary = λ s e. impossible cc;
  refused = λ s e. refused_out old size r s cc;
}

verdict_out : (v : Verdict) → ((r : Refusal) → v ≡ Err r → r.number ≡ 0 → ⊥) → Judges v
unfolding verdict_number with_verdict
verdict_out (Ok c) never old size = record {
  ok = ((λ z. (c, refl)), λ h. refl);
  counts = λ t e. let same : c ≡ t = cc in
      subst (λ (x : Tally). Numbers (set (set (set (set old 0 c.rows) 1 c.allowed) 2 c.by_place) 3 c.by_weights)
      x.rows x.allowed x.by_place x.by_weights) same
      (four-set old size c.rows c.allowed c.by_place c.by_weights);
  refused = λ r e. impossible cc;
}
verdict_out (Err r) never old size = record {
  ok = ((λ z. absurd (never r refl z)), λ (c, e). impossible cc);
  counts = λ c e. impossible cc;
  refused = λ s e. refused_out old size r s cc;
}

-- a stop handed out
stop_out : (old : List ℕ) → length old ≡ 4 → (t u : Stop) → t ≡ u → Numbers (with_stop old t) u.position u.place u.shortfall (get_or old 3 0)
unfolding with_stop
stop_out old size t u same =
    subst (λ (x : Stop). Numbers (with_stop old t) x.position x.place x.shortfall (get_or old 3 0)) same
    (three-set old size t.position t.place t.shortfall)

screened_out : (s : Screened) → ((r : Refusal) → s ≡ Err r → r.number ≡ 0 → ⊥)
    → ((r : Refusal) → s ≡ Err r → r.number ≡ 256 → ⊥) → Screens s
unfolding screened_number with_screened
screened_out (Ok None) never nor old size = record {
  ok = ((λ z. refl), λ e. refl);
  stop = ((λ z. absurd (omega (arith, z))), λ (t, e). impossible cc);
  permitted = λ e. refl;
  stopped = λ t e. impossible cc;
  refused = λ r e. impossible cc;
}
screened_out (Ok (Some t)) never nor old size = record {
  ok = ((λ z. absurd (omega (arith, z))), λ e. impossible cc);
  stop = ((λ z. (t, refl)), λ h. refl);
  permitted = λ e. impossible cc;
  stopped = λ u e. stop_out old size t u cc;
  refused = λ r e. impossible cc;
}
screened_out (Err r) never nor old size = record {
  ok = ((λ z. absurd (never r refl z)), λ e. impossible cc);
  stop = ((λ z. absurd (nor r refl z)), λ (t, e). impossible cc);
  permitted = λ e. impossible cc;
  stopped = λ t e. impossible cc;
  refused = λ s e. refused_out old size r s cc;
}

sized_out : (a : Answer (Option ℕ)) → ((r : Refusal) → a ≡ Err r → r.number ≡ 0 → ⊥)
    → ((r : Refusal) → a ≡ Err r → r.number ≡ 257 → ⊥) → Finds a
unfolding sized_number with_size
sized_out (Ok (Some l)) never nor old size = record {
  ok = ((λ z. (l, refl)), λ h. refl);
  nothing = ((λ z. absurd (omega (arith, z))), λ e. impossible cc);
  found = λ k e. let same : l ≡ k = cc in
      subst (λ (x : ℕ). Numbers (set old 0 l) x (get_or old 1 0) (get_or old 2 0) (get_or old 3 0)) same (one_set old size l);
  none = λ e. impossible cc;
  refused = λ r e. impossible cc;
}
sized_out (Ok None) never nor old size = record {
  ok = ((λ z. absurd (omega (arith, z))), λ (l, e). impossible cc);
  nothing = ((λ z. refl), λ e. refl);
  found = λ l e. impossible cc;
  none = λ e. refl;
  refused = λ r e. impossible cc;
}
sized_out (Err r) never nor old size = record {
  ok = ((λ z. absurd (never r refl z)), λ (l, e). impossible cc);
  nothing = ((λ z. absurd (nor r refl z)), λ e. impossible cc);
  found = λ l e. impossible cc;
  none = λ e. impossible cc;
  refused = λ s e. refused_out old size r s cc;
}

stepped_out : (a : Answer Outcome) → ((r : Refusal) → a ≡ Err r → r.number ≡ 0 → ⊥)
    → ((r : Refusal) → a ≡ Err r → r.number ≡ 256 → ⊥) → Steps a
unfolding stepped_number with_stepped
stepped_out (Ok (Moved next)) never nor old size = record {
  ok = ((λ z. (next, refl)), λ h. refl);
  stop = ((λ z. absurd (omega (arith, z))), λ (s, e). impossible cc);
  moved = λ k e. let same : next ≡ k = cc in
      subst (λ (x : ℕ). Numbers (set old 0 next) x (get_or old 1 0) (get_or old 2 0) (get_or old 3 0)) same (one_set old size next);
  stopped = λ s e. impossible cc;
  refused = λ r e. impossible cc;
}
stepped_out (Ok (Stopped t)) never nor old size = record {
  ok = ((λ z. absurd (omega (arith, z))), λ (k, e). impossible cc);
  stop = ((λ z. (t, refl)), λ h. refl);
  moved = λ k e. impossible cc;
  stopped = λ u e. stop_out old size t u cc;
  refused = λ r e. impossible cc;
}
stepped_out (Err r) never nor old size = record {
  ok = ((λ z. absurd (never r refl z)), λ (k, e). impossible cc);
  stop = ((λ z. absurd (nor r refl z)), λ (s, e). impossible cc);
  moved = λ k e. impossible cc;
  stopped = λ s e. impossible cc;
  refused = λ s e. refused_out old size r s cc;
}

done_out : (a : Answer (Unit {0})) → ((r : Refusal) → a ≡ Err r → r.number ≡ 0 → ⊥) → Does a
unfolding done_number with_done
done_out (Ok u) never old size = record { ok = ((λ z. refl), λ e. refl); done = λ e. refl; refused = λ r e. impossible cc }
done_out (Err r) never old size = record {
  ok = ((λ z. absurd (never r refl z)), λ e. impossible cc);
  done = λ e. impossible cc;
  refused = λ s e. refused_out old size r s cc;
}

-- ---- The calls, by the numbers of their chains

writes : {numbers : List ℕ} {result : Result (List ℕ)} → Refuses numbers result → among 3 numbers ≡ true → among 0 numbers ≡ false → (room : ℕ)
    → Writes (answer result room)
writes {numbers} {result} only short never room =
    written_out (answer result room) (λ r e. apart (refuses-fitted only short room) 0 never r (answer-refused result room r e))

takes : {numbers : List ℕ} {m : Result Summary} → Refuses numbers m → among 0 numbers ≡ false → Takes (taken_of m)
unfolding taken_of
takes {numbers} {m} only never = taken_out (taken_of m) (λ r e. apart only 0 never r (back m r e))
  where
    back : (k : Result Summary) (r : Refusal) → taken_of k ≡ Err r → k ≡ refused r.number r.spot
    back (value s) r e = impossible cc
    back (refused number spot) r e = let same : refusal number spot ≡ r = cc in ap (λ (x : Refusal). refused x.number x.spot) same

judges : {numbers : List ℕ} {m : Read Contents} → Refuses numbers m → among 0 numbers ≡ false → Judges (verdict_of m)
unfolding verdict_of
judges {numbers} {m} only never = verdict_out (verdict_of m) (λ r e. apart only 0 never r (back m r e))
  where
    back : (k : Read Contents) (r : Refusal) → verdict_of k ≡ Err r → k ≡ refused r.number r.spot
    back (value (item d next)) r e = impossible cc
    back (refused number spot) r e = let same : refusal number spot ≡ r = cc in ap (λ (x : Refusal). refused x.number x.spot) same

screens : {numbers : List ℕ} {m : Result nets.Answer} → Refuses numbers m → among 0 numbers ≡ false → among 256 numbers ≡ false
    → Screens (screened_of m)
unfolding screened_of replayed
screens {numbers} {m} only never nor =
    screened_out (screened_of m) (λ r e. apart only 0 never r (back m r e)) (λ r e. apart only 256 nor r (back m r e))
  where
    back : (k : Result nets.Answer) (r : Refusal) → screened_of k ≡ Err r → k ≡ refused r.number r.spot
    back (value permitted) r e = impossible cc
    back (value (stopped i j k)) r e = impossible cc
    back (refused number spot) r e = let same : refusal number spot ≡ r = cc in ap (λ (x : Refusal). refused x.number x.spot) same

pub boundary : Boundary
unfolding fresh_answer taken_answer verdict screened screened_joined any
boundary = record {
  hov_open = λ file output. writes (open_refuses file) refl refl (length output);
  hov_seal = λ b output. writes (seal_refuses b) refl refl (length output);
  hov_fresh = λ n table. takes (fresh-refuses n table) refl;
  hov_take = λ n rows events w table. takes (take-refuses (record { n = n; rows = rows; events = events }) table w) refl;
  hov_judge = λ b table. judges ((judged-refuses (length table)).only b 0) refl;
  hov_screen = λ b w. screens (screening-refuses b w) refl refl;
  hov_screen_joined = λ first second w. screens (joining-refuses first second w) refl refl;
  hov_reach = λ b wanted. sized_out (reach_size b wanted)
      (λ r e is. not-among reach_numbers 0 r.number refl (size_numbers_lem b wanted r e) (sym is))
      (λ r e is. not-among reach_numbers 257 r.number refl (size_numbers_lem b wanted r e) (sym is));
  hov_prune = λ b output table. writes (pruning-refuses (length table) b) refl refl (length output);
  hov_to_new = λ b output table. writes (to_new-refuses (length table) b) refl refl (length output);
  hov_to_old = λ b output table. writes (to_old-refuses (length table) b) refl refl (length output);
  hov_start = λ b ts. written_out (start_answer b ts) (λ r e is. not-among start_numbers 0 r.number refl (start_numbers_lem b ts r e) (sym is));
  hov_step = λ b ts kept number event. stepped_out (step_answer b ts kept number event)
      (λ r e is. not-among step_numbers 0 r.number refl (step_numbers_lem b ts kept number event r e) (sym is))
      (λ r e is. not-among step_numbers 256 r.number refl (step_numbers_lem b ts kept number event r e) (sym is));
  hov_replace = λ old new ts kept number. done_out (replace_answer old new ts kept number)
      (λ r e is. not-among replace_numbers 0 r.number refl (replace_numbers_lem old new ts kept number r e) (sym is));
}
