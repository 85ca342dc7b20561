-- The refusal numbers of judging are those of its line in the order of refusals: 4, 5, then 6 to 10, 20 and 11 to 13 in bundle order; and what a
-- refusal leaves.
use Rattle.std.specs.Prelude.{◌≡◌, refl, Bool, true, false, not, cond, ◌&&◌, List, [], ◌∷◌, ℕ, T, leb, length, Err}
use Rattle.std.proofs.Common.{sym, ◌∙◌, subst, inr}
use Rattle.std.proofs.lemmas.Bool.{false≢true}
use Rattle.laws.specs.Booleans.{impossible, yes_true}
use Rattle.laws.specs.Lists.{all, any, among, among-all}
use Rattle.limits.specs.Limits.{right_size}
use Rattle.refusals.specs.Table.{bundle_length_number, numbers_short_number, bundle_end_number, value_number, events_number, rows_number}
use Rattle.refusals.specs.Table.{place_misfit_number, place_disobeys_number, place_permits_number, weights_number, bytes_follow_number}
use Rattle.refusals.specs.Results.{value, refused, bind, number_in, Refuses, refuses-wider, numbers-listed}
use Rattle.refusals.specs.Answers.{refusal}
use Rattle.refusals.specs.declared.Refusal.{Refusal}
use Rattle.rows.specs.Rows.{cleared}
use Rattle.logs.specs.Answers.{table_size}
use Rattle.bundles.specs.Reading.{Read, got, item, and_then, ◌>>◌, require, onward}
use Rattle.bundles.specs.Readers.{rows_in_limit, bundle_size}
use Rattle.bundles.specs.Layout.{CertificateFields, kind0, kind1, Contents}
use Rattle.bundles.specs.Refusing.{ReaderRefuses, Among, reader_give, reader_require, reader_then, reader_each, reader_head, reader_certificate}
use Rattle.verdicts.specs.Judging.{unsolved, solved, at_end, after_head, contents, judging, judged}
use Rattle.verdicts.specs.Judging.{Verdict, verdict_of, verdict, verdict_number, table_on, table_after}

-- in bundle order
abbrev pub field_numbers : List ℕ
field_numbers =
    bundle_end_number ∷ value_number ∷ events_number ∷ rows_number
    ∷ place_misfit_number ∷ place_disobeys_number ∷ place_permits_number ∷ weights_number ∷ bytes_follow_number ∷ []

abbrev pub judge_numbers : List ℕ
judge_numbers = bundle_length_number ∷ numbers_short_number ∷ field_numbers

unsolved-listed : (numbers : List ℕ) → Among numbers place_permits_number → Among numbers weights_number
    → (c : CertificateFields) → Among numbers (unsolved c)
unfolding unsolved
unsolved-listed numbers place weights (kind0 j) = place
unsolved-listed numbers place weights (kind1 w) = weights

pub judging-refuses : ReaderRefuses field_numbers judging
unfolding judging contents after_head solved at_end any
judging-refuses =
    reader_then
    (reader_then (reader_head refl refl refl rows_in_limit (λ n log. inr refl)) (λ h.
    reader_then (reader_require _ _ _ (inr refl)) (λ u.
    reader_then (reader_require _ _ _ (inr refl)) (λ u.
    reader_then (reader_each (λ s before. reader_then (reader_certificate refl refl h) (λ c.
    reader_then (reader_require _ _ _ (inr (unsolved-listed field_numbers refl refl c))) (λ u. reader_give c))) _ []) (λ cs.
    reader_give _)))))
    (λ c. reader_then (record { only = λ b at. (reader_require _ bytes_follow_number at (inr refl)).only b at }) (λ u. reader_give c))

-- a refusal in bundle order has one of these numbers, and so none of the others
module _ (b : List ℕ) (number spot : ℕ) (e : judging b 0 ≡ refused number spot) where
  field-number : (f : ℕ → Bool) → T (all f field_numbers) → f number ≡ true
  field-number f t = yes_true (f number) (among-all f field_numbers t number (rw ((judging-refuses.only b 0).only number spot e) tt))

pub judged-refuses : (table_length : ℕ) → ReaderRefuses judge_numbers (judged table_length)
unfolding judged bundle_size any all
judged-refuses table_length =
    reader_then (record { only = λ b at. (reader_require _ bundle_length_number 0 (inr refl)).only b at }) (λ u.
    reader_then (reader_require _ numbers_short_number _ (inr refl)) (λ u.
    record { only = λ b at. refuses-wider tt (judging-refuses.only b at) }))

-- the number of a verdict is that of the chain
pub verdict-numbers : {numbers : List ℕ} {m : Read Contents} → Refuses numbers m → among (verdict_number (verdict_of m)) (0 ∷ numbers) ≡ true
unfolding verdict_of verdict_number number_in
verdict-numbers {numbers} {m} only = same m ∙ numbers-listed only
  where
    same : (k : Read Contents) → among (verdict_number (verdict_of k)) (0 ∷ numbers) ≡ among (number_in k) (0 ∷ numbers)
    same (value (item c next)) = refl
    same (refused number spot) = refl

-- judge: a verdict of acceptance, or 4, 5, .., 13, or 20
pub judge_numbers_lem : (table_length : ℕ) (b : List ℕ) → among (verdict_number (verdict table_length b)) (0 ∷ judge_numbers) ≡ true
unfolding verdict
judge_numbers_lem table_length b = verdict-numbers ((judged-refuses table_length).only b 0)

-- ---- what a refusal leaves in the table

-- 4 or 5
abbrev pub early : ℕ → Bool
early number = among number (bundle_length_number ∷ numbers_short_number ∷ [])

-- these leave it as it was, every other number leaves zeros up to number 3,583
abbrev Left : List ℕ → List ℕ → ℕ → Type 0
Left before after number = (early number ≡ true → after ≡ before) × (early number ≡ false → after ≡ cleared table_size before)

read_left : (b t : List ℕ) (r : Refusal) (m : Read Contents) → judging b 0 ≡ m → verdict_of m ≡ Err r → Left t (table_on m t) r.number
unfolding verdict_of table_on any all
read_left b t r (value (item c next)) is e = impossible cc
read_left b t r (refused number spot) is e =
    let same : refusal number spot ≡ r = cc in
    let late : not (early number) ≡ true = field-number b number spot is (λ n. not (early n)) tt in
    subst (λ (x : Refusal). Left t (cleared table_size t) x.number) same ((λ h. absurd (clash (early number) late h)), (λ h. refl))
  where
    clash : (x : Bool) → not x ≡ true → x ≡ true → ⊥
    clash true n h = false≢true n
    clash false n h = false≢true h

pub refused_judge : (table b : List ℕ) (r : Refusal) → verdict (length table) b ≡ Err r → Left table (table_after b table) r.number
unfolding verdict verdict_of judged bundle_size require bind onward table_after any
refused_judge table b r e = go (right_size (length b)) (leb table_size (length table)) e
  where
    first : (number spot : ℕ) → early number ≡ true → ◌≡◌ {A = Verdict} (Err (refusal number spot)) (Err r) → Left table table r.number
    first number spot listed e =
        let same : refusal number spot ≡ r = cc in
        subst (λ (x : Refusal). Left table table x.number) same ((λ h. refl), (λ h. absurd (false≢true (sym h ∙ listed))))

    go : (p q : Bool)
        → verdict_of (and_then (cond p (got (tt {0}) 0) (refused bundle_length_number 0))
        (λ u. require q numbers_short_number table_size >> judging) b) ≡ Err r
        → Left table (cond (p && q) (table_on (judging b 0) table) table) r.number
    go true true e = read_left b table r (judging b 0) refl e
    go true false e = first numbers_short_number table_size refl e
    go false q e = first bundle_length_number 0 refl e
