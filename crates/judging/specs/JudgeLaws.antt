-- Judging in the code's steps: the head, the places, the certificates, the end; and the table that it leaves.
use Rattle.std.specs.Prelude.{◌≡◌, Some, None, Bool, ℕ, ◌*◌, ◌≤◌, ◌<◌, leb, length, drop, replicate, Err, Ok}
use Rattle.std.specs.Result.{is_err}
use Rattle.std.proofs.Math.Path.{refl, sym}
use Rattle.std.proofs.Common.{ap, ◌∙◌, arith, drop_at}
use Rattle.std.proofs.Math.Bool.{true, false, cond}
use mathlib.Core.List.{List, [], ◌++◌}
use Rattle.std.proofs.lemmas.List.{length-replicate}
use borrow.Author.Tests.{le-leb, lt-leb}
use Rattle.laws.specs.Booleans.{impossible}
use Rattle.laws.specs.Lists.{all}
use Rattle.laws.specs.Scans.{first_failing}
use Rattle.laws.specs.Failure.{failure-some, failure-none}
use Rattle.laws.specs.Parts.{drop_more}
use Rattle.limits.specs.Limits.{max_rows, right_size}
use Rattle.refusals.specs.Table.{place_misfit_number, place_disobeys_number, bytes_follow_number, bundle_length_number, numbers_short_number}
use Rattle.refusals.specs.Results.{value, refused, bind}
use Rattle.refusals.specs.Answers.{Answer, refusal}
use Rattle.nets.specs.Bundle.{tally}
use Rattle.rows.specs.Rows.{row_size, with_rows, cleared, Holds}
use Rattle.logs.specs.Answers.{table_size}
use Rattle.logs.specs.Log.{log_rows}
use Rattle.rows.specs.Flat.{holds_with}
use Rattle.bundles.specs.Reading.{Read, got, item, Reader, and_then, ◌>>=◌, ◌>>◌, give, require, each, onward}
use Rattle.bundles.specs.Layout.{CertificateFields, Head, Contents, wrong_in, fits_in, obeys_in, to_net, to_bundle, words_in}
use Rattle.bundles.specs.Readers.{head, rows_in_limit, bundle_size, head_of, log_in, net_in}
use Rattle.bundles.specs.ReadingLaws.{and_then-got, require-got}
use Rattle.verdicts.specs.Judging.{Verdict, solved, at_end, after_head, contents, judging, judged, tally_of, verdict_of, verdict, table_on, table_after}
use Rattle.verdicts.proofs.Acceptance.{judged-right}
use Rattle.verdicts.specs.declared.Tally.{Tally}
use Rattle.fitting.specs.Fitting.{misfit}
use Rattle.obeying.specs.Obeying.{disobeying}
use Rattle.certificates.specs.Certifying.{certified_of}

-- what follows a head: its places are tested, its certificates are read, and nothing follows
unfoldable pub afterwards : Head → List ℕ → ℕ → Read Contents
afterwards h b at = and_then (after_head h b at) (λ c. at_end >> give c) b

-- certificates that were read, and nothing may follow
unfoldable pub ended_as : List ℕ → Answer (Tally × ℕ) → Verdict
ended_as b (Ok (counts, next)) = cond (leb (length b) next) (Ok counts) (Err (refusal bytes_follow_number next))
ended_as b (Err r) = Err r

-- the table before the last step: the log's rows where the bundle is accepted; else no number from 3,584 on is changed
abbrev pub TableLeft : Read Contents → List ℕ → List ℕ → Type 0
TableLeft (value (item c next)) t₀ t = t ≡ with_rows (log_rows (words_in c.head)) t₀
TableLeft (refused number spot) t₀ t = drop table_size t ≡ drop table_size t₀

-- ---- the places

-- where all fit and all obey, the certificates decide
pub net-passes : (b : List ℕ) (at : ℕ) → all (fits_in (head_of b)) (net_in b) ≡ true
    → all (obeys_in (head_of b)) (net_in b) ≡ true → (r : Answer (Tally × ℕ))
    → r ≡ certified_of (head_of b) (each (solved (head_of b)) (wrong_in (head_of b)) [] b at)
    → verdict_of (afterwards (head_of b) b at) ≡ ended_as b r
unfolding afterwards after_head bind onward require verdict_of certified_of ended_as at_end
net-passes b at all_fit all_obey r e = rw (all_fit, all_obey, e) (go (each (solved (head_of b)) (wrong_in (head_of b)) [] b at))
  where
    last : (next : ℕ) (c : Contents) (ok : Bool)
        → verdict_of (and_then (cond ok (got (tt {0}) next) (refused bytes_follow_number next)) (λ u. give c) b)
        ≡ cond ok (Ok (tally_of (tally (to_bundle c)))) (Err (refusal bytes_follow_number next))
    last next c true = refl
    last next c false = refl

    go : (m : Read (List CertificateFields))
        → verdict_of (and_then (and_then m (λ cs. give (record { head = head_of b; certificates = cs })) b) (λ c. at_end >> give c) b)
        ≡ ended_as b (certified_of (head_of b) m)
    go (value (item cs next)) = last next (record { head = head_of b; certificates = cs }) (leb (length b) next)
    go (refused number spot) = refl

-- the place that `first_misfit` gives is refused with 10
pub misfit-refused : (b : List ℕ) (at : ℕ) {j : ℕ} → misfit b ≡ Some j
    → verdict_of (afterwards (head_of b) b at) ≡ Err (refusal place_misfit_number j)
unfolding afterwards after_head bind onward require verdict_of misfit
misfit-refused b at e = let found = failure-some (fits_in (head_of b)) (net_in b) e in rw (found.0, found.1)

-- where all fit, that of `first_disobeying` with 20
pub disobeying-refused : (b : List ℕ) (at : ℕ) {j : ℕ} → misfit b ≡ None → disobeying b ≡ Some j
    → verdict_of (afterwards (head_of b) b at) ≡ Err (refusal place_disobeys_number j)
unfolding afterwards after_head bind onward require verdict_of misfit disobeying
disobeying-refused b at none e =
    let found = failure-some (obeys_in (head_of b)) (net_in b) e in
    rw (failure-none (fits_in (head_of b)) (net_in b) none, found.0, found.1)

-- where neither gives one, the certificates decide
pub certificates-decide : (b : List ℕ) (at : ℕ) → misfit b ≡ None → disobeying b ≡ None → (r : Answer (Tally × ℕ))
    → r ≡ certified_of (head_of b) (each (solved (head_of b)) (wrong_in (head_of b)) [] b at)
    → verdict_of (afterwards (head_of b) b at) ≡ ended_as b r
unfolding misfit disobeying
certificates-decide b at fit obey r e =
    net-passes b at (failure-none (fits_in (head_of b)) (net_in b) fit) (failure-none (obeys_in (head_of b)) (net_in b) obey) r e

-- ---- the whole bundle

got_same : {A : Type 0} {x y : A} {i j : ℕ} → got x i ≡ got y j → x ≡ y
got_same e = cc

module _ (b : List ℕ) where
  pub judging-failed : {number spot : ℕ} → head rows_in_limit b 0 ≡ refused number spot → judging b 0 ≡ refused number spot
  unfolding judging contents bind onward
  judging-failed e = rw e

  pub judging-got : {h : Head} {next : ℕ} → head rows_in_limit b 0 ≡ got h next → judging b 0 ≡ afterwards h b next
  unfolding judging contents bind onward afterwards
  judging-got e = rw e

  -- what is read behind a head has that head
  same_head : (h : Head) (at : ℕ) (c : Contents) (next : ℕ) → afterwards h b at ≡ got c next → c.head ≡ h
  unfolding afterwards after_head
  same_head h at c next e =
      let whole = and_then-got b (after_head h b at) (λ d. at_end >> give d) c next e in
      let fitting =
      require-got (all (fits_in h) (to_net h)) place_misfit_number (first_failing (fits_in h) (to_net h)) (obeying h) b at whole.0 whole.1 whole.2 in
      let obeys = require-got (all (obeys_in h) (to_net h)) place_disobeys_number
      (first_failing (obeys_in h) (to_net h)) (certificates h) b at whole.0 whole.1 fitting.1 in
      let solving =
      and_then-got b (each (solved h) (wrong_in h) [] b at) (λ cs. give (record { head = h; certificates = cs })) whole.0 whole.1 obeys.1 in
      let ends = and_then-got b (at_end b whole.1) (λ u. give whole.0) c next whole.3 in
      let first : record { head = h; certificates = solving.0 } ≡ whole.0 = got_same solving.3 in
      let last : whole.0 ≡ c = got_same ends.3 in
      sym (ap (λ (d : Contents). d.head) (first ∙ last))
    where
      certificates : Head → Reader Contents
      certificates h = each (solved h) (wrong_in h) [] >>= (λ cs. give (record { head = h; certificates = cs }))

      obeying : Head → Reader Contents
      obeying h = require (all (obeys_in h) (to_net h)) place_disobeys_number (first_failing (obeys_in h) (to_net h)) >> certificates h

  -- the table holds the head's log
  pub table-left : {next : ℕ} → head rows_in_limit b 0 ≡ got (head_of b) next → {t₀ t : List ℕ} {k : ℕ}
      → Holds k (log_rows (log_in b)) t₀ t → k ≤ max_rows → row_size * k ≤ length t → TableLeft (judging b 0) t₀ t
  table-left {next} e {t₀} {t} {k} holds few room = rw (judging-got e) (go (afterwards (head_of b) b next) (same_head (head_of b) next))
    where
      go : (m : Read Contents) → ((c : Contents) (end : ℕ) → m ≡ got c end → c.head ≡ head_of b) → TableLeft m t₀ t
      go (value (item c end)) same = holds_with k (log_rows (log_in b)) t₀ t holds room
          ∙ ap (λ (d : Head). with_rows (log_rows (words_in d)) t₀) (sym (same c end refl))
      go (refused number spot) same = drop_more (row_size * k) table_size t t₀ (omega (arith, few)) holds.rest

  pub table-refused : {number spot : ℕ} → head rows_in_limit b 0 ≡ refused number spot
      → (t₀ t : List ℕ) → drop table_size t ≡ drop table_size t₀ → TableLeft (judging b 0) t₀ t
  table-refused e t₀ t same = rw (judging-failed e) same

-- ---- the last step

-- clearing again takes back what was written
pub cleared-again : (t₀ t : List ℕ) → drop table_size t ≡ drop table_size (cleared table_size t₀) → cleared table_size t ≡ cleared table_size t₀
unfolding cleared
cleared-again t₀ t e = ap (λ (l : List ℕ). replicate table_size 0 ++ l)
    (e ∙ drop_at (replicate table_size 0) (drop table_size t₀) table_size (length-replicate {A = ℕ} table_size 0))

-- what is left of an accepted bundle stays; of a refused one it is cleared
pub table_kept : (m : Read Contents) (t₀ t : List ℕ) → TableLeft m (cleared table_size t₀) t → is_err (verdict_of m) ≡ false → t ≡ table_on m t₀
unfolding verdict_of table_on
table_kept (value (item d next)) t₀ t left e = left
table_kept (refused number spot) t₀ t left e = impossible cc

pub table-cleared : (m : Read Contents) (t₀ t : List ℕ) → TableLeft m (cleared table_size t₀) t
    → is_err (verdict_of m) ≡ true → cleared table_size t ≡ table_on m t₀
unfolding verdict_of table_on
table-cleared (value (item d next)) t₀ t left e = impossible cc
table-cleared (refused number spot) t₀ t left e = cleared-again t₀ t left

-- ---- the verdict, test by test

module _ (b t : List ℕ) where
  pub answer_4 : right_size (length b) ≡ false → (verdict (length t) b ≡ Err (refusal bundle_length_number 0)) × (table_after b t ≡ t)
  unfolding verdict verdict_of judged bundle_size require bind onward table_after
  answer_4 e = (rw e, rw e)

  pub answer_5 : right_size (length b) ≡ true → length t < table_size
      → (verdict (length t) b ≡ Err (refusal numbers_short_number table_size)) × (table_after b t ≡ t)
  unfolding verdict verdict_of judged bundle_size require bind onward table_after
  answer_5 e h = let short = lt-leb table_size (length t) h in (rw (e, short), rw (e, short))

  pub answer-rest : right_size (length b) ≡ true → table_size ≤ length t
      → (verdict (length t) b ≡ verdict_of (judging b 0)) × (table_after b t ≡ table_on (judging b 0) t)
  unfolding verdict table_after
  answer-rest e h = let long = le-leb table_size (length t) h in (ap verdict_of (judged-right (length t) b h e), rw (e, long))
