-- Demand 2 for judging: a bundle is accepted exactly when it keeps the layout and the limits and passes the definitions' test, and then
-- the verdict has the definitions' four counts.
use Rattle.std.specs.Prelude.{◌≡◌, true, ◌↔◌, ℕ, ◌≤◌, T, leb, Ok}
use Rattle.std.proofs.Math.Path.{refl, sym, ap, ap₂, subst}
use Rattle.std.proofs.Common.{◌∙◌, le_trans, arith, le→leb, drop_of_length-le}
use mathlib.Core.Logic.Iff
use mathlib.Core.List.{List, [], ◌∷◌, ◌++◌, flat_map, append-nil}
use borrow.Author.Tests.{le-leb, leb-true}
use Rattle.std.proofs.Math.Dec.{leb→le}
use Rattle.std.specs.Float.Ieee.Fits.{and_i, and_l, and_r}
use Rattle.std.proofs.Math.ListN.{length}
use Rattle.laws.specs.Every.{Every}
use Rattle.laws.specs.Booleans.{impossible}
use Rattle.laws.specs.Lists.{any}
use Rattle.laws.specs.Numbers.{Bytes}
use Rattle.limits.specs.Limits.{max_bundle_size, max_rows, right_size, right_size-bounds}
use Rattle.refusals.specs.Table.{bundle_length_number, numbers_short_number, bytes_follow_number}
use Rattle.refusals.specs.Results.{value, refused, bind}
use Rattle.nets.specs.Nets.{Log, Step, prefixes, add_row, obeys, rows}
use Rattle.nets.specs.Bundle.{solves_all}
use Rattle.nets.proofs.LogLaws.{rows-longer}
use Rattle.nets.proofs.Fits.{permits-fits}
use Rattle.nets.specs.Acceptance.{accepted-parts}
use Rattle.rows.specs.Rows.{with_rows, cleared}
use Rattle.logs.specs.Answers.{table_size}
use Rattle.logs.specs.Log.{log_rows}
use Rattle.bundles.specs.Reading.{Read, got, item, Reader, ◌>>◌, give, require, onward}
use Rattle.bundles.specs.Layout.{CertificateFields, Head, Contents, CertificateInLimits, LogBelowIn, wrong_in, solves_in, solves_all_in}
use Rattle.bundles.specs.Layout.{to_net, to_bundle, words_in, certificate_bytes, bytes_of}
use Rattle.bundles.specs.Readers.{certificate, rows_in_limit, bundle_size}
use Rattle.bundles.specs.ReadingLaws.{Law, part-front, EachValid, and_then-got, require-got}
use Rattle.bundles.specs.ReadingLaws.{law-then, law-give, law-same, law-require, law-tested, law-each}
use Rattle.bundles.specs.LayoutLaws.{HeadValid, law-head, law-certificate}
use Rattle.bundles.specs.Limits.{→size, log-below, head→limits, limits→head}
use Rattle.verdicts.specs.Judging.{solved, at_end, after_head, contents, judging, judged, verdict_of, verdict, table_on, table_after}
use Rattle.verdicts.specs.declared.Tally.{Tally}
use Rattle.verdicts.specs.Acceptance.{all_fit, all_obey, PermitsIn, ObeysIn, Solving, Acceptable, AcceptedAs}

pub few-rows : (n : ℕ) (log more : Log) → T (rows_in_limit n (log ++ more)) → T (rows_in_limit n log)
few-rows n log more t = le→leb _ max_rows (le_trans (rows-longer n log more) (leb→le _ max_rows t))

pub one-row : (n : ℕ) → T (rows_in_limit n [])
unfolding rows prefixes add_row flat_map any
one-row n = tt

-- ---- the net permits every word exactly when its places fit, and obeys the completed ones when they do

pub places-fit : (h : Head) → LogBelowIn h → T (all_fit h) ↔ PermitsIn h
places-fit h below = permits-fits h.events (to_net h) (words_in h) below

pub places-obey : (h : Head) → T (all_obey h) ↔ ObeysIn h
unfolding obeys
places-obey h = Iff.rfl

-- ---- certificates

module _ (h : Head) where
  pub each→all : (ss : List Step) (before cs : List CertificateFields) → EachValid (Solving h) ss before cs
      → Every (CertificateInLimits h) cs × T (solves_all_in h ss cs)
  unfolding solves_all
  each→all [] before [] v = (tt, tt)
  each→all [] before (c ∷ cs) v = absurd v
  each→all (s ∷ ss) before [] v = absurd v
  each→all (s ∷ ss) before (c ∷ cs) v = let r = each→all ss (before ++ c ∷ []) cs v.1 in
      ((v.0.0, r.0), and_i (solves_in h s c) (solves_all_in h ss cs) v.0.1 r.1)

  pub all→each : (ss : List Step) (before cs : List CertificateFields) → Every (CertificateInLimits h) cs → T (solves_all_in h ss cs)
      → EachValid (Solving h) ss before cs
  unfolding solves_all
  all→each [] before [] v t = tt
  all→each [] before (c ∷ cs) v t = absurd t
  all→each (s ∷ ss) before [] v t = absurd t
  all→each (s ∷ ss) before (c ∷ cs) v t =
      let first = solves_in h s c in
      let rest = solves_all_in h ss cs in
      ((v.0, and_l first rest t), all→each ss (before ++ c ∷ []) cs v.1 (and_r first rest t))

-- ---- the fields of a bundle

module _ (b : List ℕ) (bytes : Bytes b) where
  pub law-contents : Law b contents bytes_of Acceptable
  unfolding contents after_head solved bytes_of to_bundle
  law-contents =
      law-same b
      (law-then b (law-head b bytes rows_in_limit) (λ (c : Contents). c.head)
      (λ h v. law-require b
      (law-require b
      (law-give b (law-each b (λ s before. law-tested b (certificates h v) _ _ _) _)
      (λ (c : Contents). c.certificates) (λ cs _. refl))
      _ _ _)
      _ _ _)
      (λ h _ c v. ap (λ (d : Contents). d.head) v.1.1.1))
      (λ c v. refl)
      (λ c v.
      let s = head→limits rows_in_limit one-row few-rows c.head v.0 in
      let t = each→all c.head (wrong_in c.head) [] c.certificates v.1.1.1.0 in
      record {
        head = s.0;
        row_count = leb→le _ max_rows s.1;
        certificates = t.0;
        accepted = (accepted-parts (to_bundle c)).1 (record {
          permitted = (places-fit c.head (log-below c.head s.0)).0 v.1.0;
          obeyed = (places-obey c.head).0 v.1.1.0;
          solved = t.1;
        });
      })
      (λ c v. let a = (accepted-parts (to_bundle c)).0 v.accepted in (
        limits→head rows_in_limit one-row few-rows c.head v.head (le→leb _ max_rows v.row_count),
        (
          (places-fit c.head (log-below c.head v.head)).1 a.permitted,
          (
            (places-obey c.head).1 a.obeyed,
            (all→each c.head (wrong_in c.head) [] c.certificates v.certificates a.solved, refl),
          ),
        ),
      ))
    where
      certificates : (h : Head) → HeadValid rows_in_limit h → Law b (certificate h) (certificate_bytes h.is_new) (CertificateInLimits h)
      certificates h v =
          law-certificate b bytes h v.events.1 (leb→le _ max_rows (head→limits rows_in_limit one-row few-rows h v).1) v.places_size v.log_size

  -- ---- the whole bundle

  judging→ : (c : Contents) (next : ℕ) → judging b 0 ≡ got c next → Acceptable c × (b ≡ bytes_of c)
  unfolding judging at_end
  judging→ c next e =
      let s = and_then-got b (contents b 0) (λ d. at_end >> give d) c next e in
      let p = law-contents.sound 0 s.0 s.1 s.2 in
      let q = require-got (leb (length b) s.1) bytes_follow_number s.1 (give s.0) b s.1 c next s.3 in
      let same : s.0 ≡ c = let is = q.1 in (cc) in
      (subst Acceptable same p.0, p.1.bytes ∙ ap₂ ◌++◌ (ap bytes_of same) (drop_of_length-le b (leb-true _ _ q.0)) ∙ append-nil (bytes_of c))

  →judging : (c : Contents) → Acceptable c → b ≡ bytes_of c → judging b 0 ≡ got c (length (bytes_of c))
  unfolding judging bind onward at_end require
  →judging c v e =
      let whole = part-front b (bytes_of c) [] (e ∙ sym (append-nil (bytes_of c))) in
      rw (law-contents.complete 0 c (length (bytes_of c)) v whole, le-leb (length b) (length (bytes_of c)) (omega (arith, ap length e)))

acceptable : {b : List ℕ} {c : Tally} {d : Contents} → AcceptedAs b c d → Acceptable d
acceptable a = record { head = a.limits.head; row_count = a.limits.row_count; certificates = a.limits.certificates; accepted = a.accepted }

-- the judge reads these fields of it
pub accepted-judging : (b : List ℕ) → Bytes b → (c : Tally) (d : Contents) → AcceptedAs b c d → judging b 0 ≡ got d (length (bytes_of d))
accepted-judging b bytes c d a = →judging b bytes d (acceptable a) a.layout

-- a bundle that is so has the right length
accepted-size : {b : List ℕ} {c : Tally} {d : Contents} → AcceptedAs b c d → right_size (length b) ≡ true
unfolding bytes_of
accepted-size {b} {c} {d} a =
    →size b d.head (flat_map (certificate_bytes d.head.is_new) d.certificates) a.layout
    (subst (λ (l : List ℕ). length l ≤ max_bundle_size) (sym a.layout) a.limits.size)

-- the tests before bundle order
module _ (table_length : ℕ) (b : List ℕ) where
  judged→ : (d : Contents) (next : ℕ) → judged table_length b 0 ≡ got d next
      → (right_size (length b) ≡ true) × (leb table_size table_length ≡ true) × (judging b 0 ≡ got d next)
  unfolding judged bundle_size
  judged→ d next e =
      let rest : Reader Contents = require (leb table_size table_length) numbers_short_number table_size >> judging in
      let p = require-got (right_size (length b)) bundle_length_number 0 rest b 0 d next e in
      let q = require-got (leb table_size table_length) numbers_short_number table_size judging b 0 d next p.1 in
      (p.0, q.0, q.1)

  pub judged-long : (d : Contents) (next : ℕ) → judged table_length b 0 ≡ got d next → table_size ≤ table_length
  judged-long d next e = leb-true table_size table_length (judged→ d next e).1

  pub judged-judging : (d : Contents) (next : ℕ) → judged table_length b 0 ≡ got d next → judging b 0 ≡ got d next
  judged-judging d next e = (judged→ d next e).2

  pub judged-right : table_size ≤ table_length → right_size (length b) ≡ true → judged table_length b 0 ≡ judging b 0
  unfolding judged bundle_size require bind onward
  judged-right long right = rw (right, le-leb table_size table_length long)

module _ (table_length : ℕ) (long : table_size ≤ table_length) (b : List ℕ) (bytes : Bytes b) (c : Tally) where
  verdict→ : verdict table_length b ≡ Ok c → (d : Contents) × AcceptedAs b c d
  unfolding verdict verdict_of
  verdict→ e = go (judged table_length b 0) refl e
    where
      go : (r : Read Contents) → judged table_length b 0 ≡ r → verdict_of r ≡ Ok c → (d : Contents) × AcceptedAs b c d
      go (value (item d next)) q e =
          let s = judged→ table_length b d next q in
          let j = judging→ b bytes d next s.2 in (
            d,
            record {
              layout = j.1;
              limits = record {
                head = j.0.head;
                row_count = j.0.row_count;
                certificates = j.0.certificates;
                size = subst (λ (l : List ℕ). length l ≤ max_bundle_size) j.1 (right_size-bounds (length b) s.0).1;
              };
              accepted = j.0.accepted;
              counts = cc;
            },
          )
      go (refused number spot) q e = impossible cc

  →verdict : (d : Contents) → AcceptedAs b c d → verdict table_length b ≡ Ok c
  unfolding verdict verdict_of
  →verdict d a =
      ap verdict_of (judged-right table_length b long (accepted-size a) ∙ →judging b bytes d (acceptable a) a.layout) ∙ ap Ok (sym a.counts)

  -- DEMAND 2: accepted with counts c exactly when there are contents with these very bytes that are so
  pub accepted-exactly : (verdict table_length b ≡ Ok c) ↔ ((d : Contents) × AcceptedAs b c d)
  accepted-exactly = (verdict→, λ r. →verdict r.0 r.1)

-- an accepted bundle leaves its log's rows in the table, zeros up to number 3,583, and the rest as it was
pub accepted-table : (b t : List ℕ) → Bytes b → table_size ≤ length t → (c : Tally) (d : Contents) → AcceptedAs b c d
    → table_after b t ≡ with_rows (log_rows (words_in d.head)) (cleared table_size t)
unfolding table_after table_on
accepted-table b t bytes long c d a = rw (accepted-size a, le-leb table_size (length t) long, →judging b bytes d (acceptable a) a.layout)

-- a bundle has its fields once
pub accepted_unique : (b : List ℕ) → Bytes b → (c₁ c₂ : Tally) (d₁ d₂ : Contents) → AcceptedAs b c₁ d₁ → AcceptedAs b c₂ d₂ → d₁ ≡ d₂
accepted_unique b bytes c₁ c₂ d₁ d₂ a e =
    let p = →judging b bytes d₁ (acceptable a) a.layout in
    let q = →judging b bytes d₂ (acceptable e) e.layout in
    cc
