-- A bundle of the old edition is judged and screened as before.
use Rattle.std.specs.Prelude.{◌≡◌, Bool, ◌&&◌, eqb, length}
use Rattle.std.proofs.Math.Path.{refl, ap, ap₂, subst}
use Rattle.std.proofs.Common.{sym, ◌∙◌, zero-add, mod-eq_of_lt}
use Rattle.std.proofs.Math.Bool.{true, false, cond}
use mathlib.Core.List.{List, [], ◌∷◌, ◌++◌, map, flat_map, append-nil}
use Prim.Native.Nat.{ℕ, zero, suc, ◌+◌, ◌%◌, ◌<◌}
use borrow.Author.Tests.{lt-leb}
use Rattle.std.proofs.Math.Dec.{leb, ltb}
use Rattle.std.proofs.Math.ListN.{get_or}
use Rattle.laws.specs.Booleans.{yes_true}
use Rattle.laws.specs.Lists.{all}
use Rattle.laws.specs.Numbers.{Bytes, le16}
use Rattle.laws.specs.Scans.{first_failing}
use Rattle.limits.specs.Limits.{new_edition, right_size}
use Rattle.refusals.specs.Table.{bundle_end_number, value_number}
use Rattle.refusals.specs.Results.{Result, value, refused, bind}
use Rattle.refusals.specs.Results as results
use Rattle.nets.specs.Nets.{Log, Step, join}
use Rattle.nets.specs.Bundle.{weights_hold, solves}
use Rattle.logs.specs.Answers.{table_size}
use Rattle.bundles.specs.Reading.{Read, got, item, item_in, Reader, and_then, onward, ◌>>=◌, ◌>>◌, give, require, field, byte, number, each, times}
use Rattle.bundles.specs.Layout.{TermFields, PairFields, CertificateFields, kind0, kind1, First, Head, Contents, to_term, to_pair, to_net}
use Rattle.bundles.specs.Layout.{to_certificate, rows_in, wrong_in, fits_in, obeys_in, solves_in, HeadInFront, first_of, mark_bytes, entry_bytes}
use Rattle.bundles.specs.Layout.{places_bytes, term_bytes, pairs_bytes, weight_bytes, certificate_bytes, front_bytes, head_bytes, bytes_of}
use Rattle.bundles.specs.Readers as readers
use Rattle.bundles.specs.Readers.{mark, entry_after, entry, to_first, first, head, pairs, weights, of_kind, certificate, rows_in_limit, any_rows}
use Rattle.bundles.specs.Readers.{term, bundle_size, bundle_head, read_head}
use Rattle.bundles.specs.ReadingLaws.{and_then-got, field-got}
use Rattle.bundles.specs.Editions.{front-edition}
use Rattle.bundles.specs.Limits.{got→front}
use Rattle.verdicts.specs.Judging as verdicts
use Rattle.verdicts.specs.Judging.{solved, after_head, contents, judged, verdict_of, verdict, unsolved, at_end, table_on, table_after}
use Rattle.verdicts.specs.Acceptance.{ObeysIn}
use Rattle.verdicts.proofs.Acceptance.{few-rows, one-row, places-obey}
use Rattle.verdicts.specs.OldEdition.{NoPairs}
use Rattle.verdicts.proofs.OldEdition.{alone-hold, old-obeys}
use Rattle.contents.specs.Contents.{contents_of, judged-accepted}
use Rattle.pruning.specs.Pruning.{pruned, pruning}
use Rattle.screening.specs.Screening.{word_on, screening, joining, screened_of, screened, screened_joined}
use Rattle.demands.specs.OldJudge.{old_word_after, old_word, old_head_after, old_head, old_weights, old_kind, old_certificate, old_hold, old_solves, old_solved}
use Rattle.demands.specs.OldJudge.{old_behind, old_judging, old_judged, old_certificate_bytes, old_bytes, old_pruning, old_verdict, old_table}
use Rattle.demands.specs.OldJudge.{old_read, old_screened, old_joined, AnswersAsBefore}

-- ---- One reader behind another

-- the same where what follows is the same behind what was read
then_same : {A B : Type 0} (b : List ℕ) (m : Read A) (f g : A → Reader B) → ((x : A) (mid : ℕ) → m ≡ got x mid → f x b mid ≡ g x b mid)
    → and_then m f b ≡ and_then m g b
unfolding bind onward
then_same b (value (item x mid)) f g same = same x mid refl
then_same b (refused number spot) f g same = refl

-- a test that is passed
pass : {A : Type 0} (b : List ℕ) (number spot : ℕ) (r : Reader A) (at : ℕ) → (require true number spot >> r) b at ≡ r b at
unfolding require bind onward
pass b number spot r at = refl

each_same : {S A : Type 0} (r r' : S → List A → Reader A) (b : List ℕ) → ((s : S) (before : List A) (at : ℕ) → r s before b at ≡ r' s before b at)
    → (ss : List S) (before : List A) (at : ℕ) → each r ss before b at ≡ each r' ss before b at
unfolding each
each_same r r' b same [] before at = refl
each_same {S} {A} r r' b same (s ∷ ss) before at =
    ap (λ (m : Read A). and_then m (λ x. each r ss (before ++ x ∷ [])) b) (same s before at)
    ∙ then_same b (r' s before b at) (λ x. each r ss (before ++ x ∷ [])) (λ x. each r' ss (before ++ x ∷ []))
    (λ x mid is. each_same r r' b same ss (before ++ x ∷ []) mid)

-- ---- The head

behind-first : (rows_fit : ℕ → Log → Bool) (n : ℕ) (b : List ℕ) (at : ℕ)
    → readers.head_after rows_fit (record { is_new = false; events = n }) b at ≡ old_head_after rows_fit n b at
unfolding readers.head_after old_head_after entry entry_after old_word old_word_after mark bind onward
behind-first rows_fit n b at = refl

to-first : (x : ℕ) → x < 128 → to_first x ≡ record { is_new = false; events = x }
unfolding to_first
to-first x h =
    let edition : leb new_edition x ≡ false = lt-leb new_edition x h in
    let count : x % new_edition ≡ x = mod-eq_of_lt h in
    λ i. record { is_new = edition i; events = count i }

-- a value that is only renamed
give-then : {A B C : Type 0} (b : List ℕ) (m : Read A) (f : A → B) (g : B → Reader C)
    → and_then (and_then m (λ x. give (f x)) b) g b ≡ and_then m (λ x. g (f x)) b
unfolding bind onward
give-then b (value (item x mid)) f g = refl
give-then b (refused number spot) f g = refl

-- 1 to 12
abbrev few : ℕ → Bool
few n = leb 1 n && leb n 12

module _ (b : List ℕ) (old : get_or b 0 0 < 128) where
  first-same : first b 0 ≡ and_then (byte few b 0) (λ n. give (record { is_new = false; events = n })) b
  unfolding first byte field
  first-same =
      let x = get_or b 0 0 in
      let test : few (x % new_edition) ≡ few x = ap few (mod-eq_of_lt old) in
      ap (λ (q : Bool). and_then (cond (leb (0 + 1) (length b)) (cond q (got x (0 + 1)) (refused value_number 0)) (refused bundle_end_number 0))
      (λ y. give (to_first y)) b) test
      ∙ then_same b (byte few b 0) (λ y. give (to_first y)) (λ n. give (record { is_new = false; events = n })) (λ y mid is.
      ap (λ (f : First). got f mid) (to-first y (subst (λ (k : ℕ). k < 128) (field-got b 1 x few 0 y mid is).2 old)))

  head-same : (rows_fit : ℕ → Log → Bool) → head rows_fit b 0 ≡ old_head rows_fit b 0
  unfolding head old_head
  head-same rows_fit =
      ap (λ (m : Read First). and_then m (readers.head_after rows_fit) b) first-same
      ∙ give-then b (byte few b 0) (λ n. record { is_new = false; events = n }) (readers.head_after rows_fit)
      ∙ then_same b (byte few b 0) (λ n. readers.head_after rows_fit (record { is_new = false; events = n })) (old_head_after rows_fit)
      (λ n mid is. behind-first rows_fit n b mid)

-- ---- A certificate

module _ (h : Head) (old : h.is_new ≡ false) (b : List ℕ) where
  kind-same : (kind at : ℕ) → of_kind h kind b at ≡ old_kind h kind b at
  unfolding of_kind old_kind old_weights weights pairs bind onward
  kind-same zero at = refl
  kind-same (suc k) at = rw old

  certificate-same : (at : ℕ) → certificate h b at ≡ old_certificate h b at
  unfolding certificate old_certificate
  certificate-same at = then_same b (byte (λ kind. leb kind 1) b at) (of_kind h) (old_kind h) (λ kind mid is. kind-same kind mid)

  pairless : (k : ℕ) (ts : List TermFields) (c : CertificateFields) → kind1 (record { k = k; terms = ts; pairs = [] }) ≡ c → NoPairs c
  pairless k ts c is = subst NoPairs is refl

  -- it has no pairs
  no_pairs : (at : ℕ) (c : CertificateFields) (mid : ℕ) → old_certificate h b at ≡ got c mid → NoPairs c
  unfolding old_certificate old_kind old_weights
  no_pairs at c mid e = let s = and_then-got b (byte (λ kind. leb kind 1) b at) (old_kind h) c mid e in go s.0 s.1 s.3
    where
      go : (kind from : ℕ) → old_kind h kind b from ≡ got c mid → NoPairs c
      go zero from q =
          let s = and_then-got b (byte (λ j. ltb j (length h.places)) b from) (λ j. give (kind0 j)) c mid q in
          let last = s.3 in
          let is : kind0 s.0 ≡ c = cc in
          subst NoPairs is tt
      go (suc k) from q =
          let rest : ℕ → List TermFields → Reader CertificateFields = λ k ts. give (kind1 (record { k = k; terms = ts; pairs = [] })) in
          let all : ℕ → Reader (List TermFields) = λ count. times count (term h.events (length (rows_in h))) in
          let r = and_then-got b (number (leb 1) b from) (λ k. byte (λ c. leb c 64) >>= λ count. all count >>= rest k) c mid q in
          let s = and_then-got b (byte (λ c. leb c 64) b r.1) (λ count. all count >>= rest r.0) c mid r.3 in
          let t = and_then-got b (all s.0 b s.1) (rest r.0) c mid s.3 in
          let last = t.3 in
          pairless r.0 t.0 c cc

  solves-same : (s : Step) (c : CertificateFields) → NoPairs c → solves_in h s c ≡ old_solves h s c
  unfolding solves to_certificate old_solves old_hold
  solves-same s (kind0 j) none = refl
  solves-same s (kind1 w) none =
      let ts = map (to_term h) w.terms in
      ap (λ (qs : List PairFields). weights_hold h.events h.entries s (record { k = w.k; terms = ts; pairs = map to_pair qs })) none
      ∙ alone-hold h.events h.entries s w.k ts

  solved-same : (s : Step) (before : List CertificateFields) (at : ℕ) → solved h s before b at ≡ old_solved h s before b at
  unfolding solved old_solved
  solved-same s before at =
      ap (λ (m : Read CertificateFields). and_then m (λ c. require (solves_in h s c) (unsolved c) (length before) >> give c) b) (certificate-same at)
      ∙ then_same b (old_certificate h b at) (λ c. require (solves_in h s c) (unsolved c) (length before) >> give c)
      (λ c. require (old_solves h s c) (unsolved c) (length before) >> give c)
      (λ c mid is. ap (λ (t : Bool). (require t (unsolved c) (length before) >> give c) b mid) (solves-same s c (no_pairs at c mid is)))

  -- behind the head, where 20 never comes
  behind-same : ObeysIn h → (at : ℕ) → after_head h b at ≡ old_behind h b at
  unfolding after_head old_behind
  behind-same obeyed at =
      let fit = require (all (fits_in h) (to_net h)) 10 (first_failing (fits_in h) (to_net h)) b at in
      let lowest = first_failing (obeys_in h) (to_net h) in
      then_same b fit (λ u. require (all (obeys_in h) (to_net h)) 20 lowest >> rest (solved h)) (λ u. rest (old_solved h)) (λ u mid is.
      ap (λ (t : Bool). (require t 20 lowest >> rest (solved h)) b mid) (yes_true _ ((places-obey h).1 obeyed))
      ∙ pass b 20 lowest (rest (solved h)) mid
      ∙ ap (λ (m : Read (List CertificateFields)). and_then m (λ cs. give (record { head = h; certificates = cs })) b)
      (each_same (solved h) (old_solved h) b solved-same (wrong_in h) [] mid))
    where
      rest : (Step → List CertificateFields → Reader CertificateFields) → Reader Contents
      rest r = each r (wrong_in h) [] >>= λ cs. give (record { head = h; certificates = cs })

-- ---- Its bytes

certificate-written : (c : CertificateFields) → certificate_bytes false c ≡ old_certificate_bytes c
unfolding certificate_bytes weight_bytes pairs_bytes old_certificate_bytes
certificate-written (kind0 j) = refl
certificate-written (kind1 w) = ap (λ (l : List ℕ). 1 ∷ (le16 w.k ++ (length w.terms ∷ l))) (append-nil (flat_map term_bytes w.terms))

written-same : (c : Contents) → c.head.is_new ≡ false → bytes_of c ≡ old_bytes c
unfolding bytes_of head_bytes front_bytes first_of entry_bytes mark_bytes old_bytes
written-same c old =
    let h : Head = c.head in
    ap (λ (t : Bool). ((first_of (record { is_new = t; events = h.events }) ∷ length h.entries ∷ flat_map (entry_bytes t) h.entries)
    ++ places_bytes h.places) ++ flat_map (certificate_bytes t) c.certificates) old
    ∙ ap₂ (λ (n : ℕ) (f : CertificateFields → List ℕ). ((n ∷ length h.entries ∷ flat_map (entry_bytes false) h.entries) ++ places_bytes h.places)
    ++ flat_map f c.certificates) (zero-add h.events) (λ i c. certificate-written c i)

-- ---- The answers

read_same : (b : List ℕ) → get_or b 0 0 < 128 → read_head b ≡ old_read b
unfolding read_head old_read bundle_head bundle_size require bind onward
read_same b old = go (right_size (length b))
  where
    go : (p : Bool)
        → bind (and_then (cond p (got (tt {0}) 0) (refused 4 0)) (λ u. head any_rows) b) (λ i. value (item_in i))
        ≡ bind (and_then (cond p (got (tt {0}) 0) (refused 4 0)) (λ u. old_head any_rows) b) (λ i. value (item_in i))
    go true = ap (λ (m : Read Head). bind m (λ i. value (item_in i))) (head-same b old any_rows)
    go false = refl

module _ (b : List ℕ) (bytes : Bytes b) (old : get_or b 0 0 < 128) where
  judging-same : verdicts.judging b 0 ≡ old_judging b 0
  unfolding verdicts.judging contents old_judging
  judging-same = ap (λ (m : Read Contents). and_then m (λ c. at_end >> give c) b) (
      ap (λ (m : Read Head). and_then m after_head b) (head-same b old rows_in_limit)
      ∙ then_same b (old_head rows_in_limit b 0) after_head old_behind (λ h mid is.
      let f = (got→front rows_in_limit one-row few-rows b bytes h mid (head-same b old rows_in_limit ∙ is)).0 in
      let is_old : h.is_new ≡ false = front-edition f ∙ lt-leb new_edition (get_or b 0 0) old in
      behind-same h is_old b (old-obeys h f.limits is_old) mid))

  judged-same : (table_length : ℕ) → judged table_length b 0 ≡ old_judged table_length b 0
  unfolding judged old_judged bundle_size require bind onward
  judged-same table_length = go (right_size (length b)) (leb table_size table_length)
    where
      go : (p q : Bool)
          → and_then (cond p (got (tt {0}) 0) (refused 4 0)) (λ u. require q 5 table_size >> verdicts.judging) b
          ≡ and_then (cond p (got (tt {0}) 0) (refused 4 0)) (λ u. require q 5 table_size >> old_judging) b
      go true true = judging-same
      go true false = refl
      go false q = refl

  verdict-same : (table_length : ℕ) → verdict table_length b ≡ old_verdict table_length b
  unfolding verdict old_verdict
  verdict-same table_length = ap verdict_of (judged-same table_length)

  -- what is left of a bundle that was read is of the old edition, too
  pruned-same : (table_length : ℕ) → pruning table_length b ≡ old_pruning table_length b
  unfolding pruning old_pruning bind item_in pruned verdict verdict_of bytes_of
  pruned-same table_length = go (judged table_length b 0) refl
      ∙ ap (λ (m : Read Contents). bind m (λ i. value (old_bytes (pruned (item_in i))))) (judged-same table_length)
    where
      go : (m : Read Contents) → judged table_length b 0 ≡ m
          → bind m (λ i. value (bytes_of (pruned (item_in i)))) ≡ bind m (λ i. value (old_bytes (pruned (item_in i))))
      go (value (item d next)) is =
          let (bundle, (_, read)) = judged-accepted table_length b bytes _ (ap verdict_of is) in
          let same : contents_of b ≡ d = cc (sym read ∙ is) in
          let front : HeadInFront b (contents_of b).head _ = record { layout = bundle.layout; limits = bundle.limits.head } in
          let is_old : (contents_of b).head.is_new ≡ false = front-edition front ∙ lt-leb new_edition (get_or b 0 0) old in
          ap value (written-same (pruned d) (subst (λ (c : Contents). c.head.is_new ≡ false) same is_old))
      go (refused number spot) is = refl

  table_same : (t : List ℕ) → table_after b t ≡ old_table b t
  unfolding table_after old_table
  table_same t = ap (λ (m : Read Contents). cond (right_size (length b) && leb table_size (length t)) (table_on m t) t) judging-same

  pub answers-as-before : AnswersAsBefore b
  unfolding screened screening old_screened screened_joined joining old_joined
  answers-as-before = record {
    judged = verdict-same;
    table = table_same;
    pruned = pruned-same;
    screened = λ w. ap (λ (m : Result Head). screened_of (bind (results.require (leb (length w) 65535) 14 65535)
        (λ u. bind m (λ h. word_on w h.events (to_net h))))) (read_same b old);
    joined = λ second old' w. ap₂ (λ (m m' : Result Head). screened_of (bind (results.require (leb (length w) 65535) 14 65535)
        (λ u. bind m (λ one. bind m' (λ two. bind (results.require (eqb one.events two.events) 19 0)
        (λ u. word_on w one.events (join (to_net one) (to_net two)))))))) (read_same b old) (read_same second old');
  }
