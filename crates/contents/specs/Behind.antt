-- A call that judges a bundle first, and then answers by its contents: exactly when it refuses, and what it gives.
use Rattle.std.specs.Prelude.{◌≡◌, refl, ◌↔◌, ◌⊎◌, List, ℕ, ◌≤◌, ◌<◌, length, Err, Ok}
use Rattle.std.proofs.Common.{sym, ap, ◌∙◌, inl, inr, ⊎_elim}
use Rattle.laws.specs.Booleans.{impossible}
use Rattle.laws.specs.Lists.{any}
use Rattle.laws.specs.Numbers.{Bytes}
use Rattle.refusals.specs.Table.{output_short_number}
use Rattle.refusals.specs.Results.{Result, value, refused, bind}
use Rattle.refusals.specs.Answers.{refusal, answer}
use Rattle.refusals.proofs.Laws.{answer-value, answer-refusal}
use Rattle.bundles.specs.Reading.{item_in}
use Rattle.bundles.specs.Layout.{Contents}
use Rattle.verdicts.specs.Judging.{Verdict, judged, verdict}
use Rattle.verdicts.specs.Acceptance.{AcceptedAs}
use Rattle.verdicts.proofs.Never.{judge-never}
use Rattle.verdicts.specs.declared.Tally.{Tally}
use Rattle.contents.specs.Contents.{contents_of, accepted-contents, judged-accepted, behind-refused, behind-accepted}

-- with a table of so many numbers b is accepted with the counts c, and its contents are d
pub record JudgedAs (table_length : ℕ) (b : List ℕ) (c : Tally) (d : Contents) : Type 0 where
  pub judged : verdict table_length b ≡ Ok c
  pub contents : AcceptedAs b c d

module _ (table_length : ℕ) (b : List ℕ) (bytes : Bytes b) where
  pub judged_as : (c : Tally) → verdict table_length b ≡ Ok c → JudgedAs table_length b c (contents_of b)
  judged_as c e = record { judged = e; contents = (judged-accepted table_length b bytes c e).0 }

  -- ---- the chain

  module _ {A : Type 0} (f : Contents → Result A) where
    abbrev pub chain : Result A
    chain = bind (judged table_length b 0) (λ i. f (item_in i))

    pub behind-judged : (c : Tally) (d : Contents) → JudgedAs table_length b c d → chain ≡ f d
    behind-judged c d j = behind-accepted table_length b f bytes c j.judged ∙ ap f (accepted-contents b bytes c d j.contents)

    -- a refusal of the judge, or of what follows
    pub behind-refused-exactly : (k spot : ℕ) → (chain ≡ refused k spot) ↔ ((verdict table_length b ≡ Err (refusal k spot))
        ⊎ ((c : Tally) × (d : Contents) × JudgedAs table_length b c d × (f d ≡ refused k spot)))
    behind-refused-exactly k spot = (
      to (verdict table_length b) refl,
      ⊎_elim (behind-refused table_length b f (refusal k spot)) (λ (c, d, j, e). behind-judged c d j ∙ e),
    )
      where
        to : (v : Verdict) → verdict table_length b ≡ v → chain ≡ refused k spot → (verdict table_length b ≡ Err (refusal k spot))
            ⊎ ((c : Tally) × (d : Contents) × JudgedAs table_length b c d × (f d ≡ refused k spot))
        to (Ok c) is e = inr (c, contents_of b, judged_as c is, sym (behind-judged c (contents_of b) (judged_as c is)) ∙ e)
        to (Err r) is e =
            let same : ◌≡◌ {A = Result A} (refused r.number r.spot) (refused k spot) = sym (behind-refused table_length b f r is) ∙ e in
            let number : r.number ≡ k = cc in
            let at : r.spot ≡ spot = cc in
            inl (is ∙ λ i. Err (record { number = number i; spot = at i }))

    -- a value of what follows
    pub behind-value-exactly : (x : A) → (chain ≡ value x) ↔ ((c : Tally) × (d : Contents) × JudgedAs table_length b c d × (f d ≡ value x))
    behind-value-exactly x = (to (verdict table_length b) refl, λ (c, d, j, e). behind-judged c d j ∙ e)
      where
        to : (v : Verdict) → verdict table_length b ≡ v → chain ≡ value x
            → (c : Tally) × (d : Contents) × JudgedAs table_length b c d × (f d ≡ value x)
        to (Ok c) is e = (c, contents_of b, judged_as c is, sym (behind-judged c (contents_of b) (judged_as c is)) ∙ e)
        to (Err r) is e = let same = sym (behind-refused table_length b f r is) ∙ e in impossible cc

  -- ---- its answer, where an output has so much room

  module _ (f : Contents → Result (List ℕ)) (room : ℕ) where
    abbrev its : Result (List ℕ)
    its = chain f

    -- a refusal with another number than 3
    pub answer-own : (k : ℕ) → (k ≡ 3 → ⊥) → (spot : ℕ) → (answer its room ≡ Err (refusal k spot))
        ↔ ((verdict table_length b ≡ Err (refusal k spot)) ⊎ ((c : Tally) × (d : Contents) × JudgedAs table_length b c d × (f d ≡ refused k spot)))
    answer-own k other spot =
        let law = answer-refusal its room k spot in
        let exactly = behind-refused-exactly f k spot in (
          (λ e. ⊎_elim exactly.0 (λ (is, _). absurd (other is)) (law.0 e)),
          (λ c. law.1 (inl (exactly.1 c))),
        )

    -- where what follows never refuses with it, it is the judge's
    pub answer-judged : (k : ℕ) → (k ≡ 3 → ⊥) → ((d : Contents) (spot : ℕ) → f d ≡ refused k spot → ⊥) → (spot : ℕ)
        → (answer its room ≡ Err (refusal k spot)) ↔ (verdict table_length b ≡ Err (refusal k spot))
    answer-judged k other never spot =
        let law = answer-own k other spot in
        ((λ e. ⊎_elim (λ v. v) (λ (c, d, j, q). absurd (never d spot q)) (law.0 e)), (λ v. law.1 (inl v)))

    -- Size c d n says exactly when what follows gives n bytes
    module _ (Size : Tally → Contents → ℕ → Type 0) (sizes : (c : Tally) (d : Contents) → JudgedAs table_length b c d → (n : ℕ)
        → ((new : List ℕ) × (f d ≡ value new) × (n ≡ length new)) ↔ Size c d n) where
      -- 3; what follows never refuses with 3 itself
      pub answer-short : ((d : Contents) (spot : ℕ) → f d ≡ refused 3 spot → ⊥) → (spot : ℕ) → (answer its room ≡ Err (refusal 3 spot))
          ↔ ((c : Tally) × (d : Contents) × JudgedAs table_length b c d × Size c d spot × (room < spot))
      unfolding any
      answer-short never spot =
          let law = answer-refusal its room output_short_number spot in (
            (λ e. ⊎_elim
                (λ is.
                let none = ⊎_elim (judge-never table_length b 3 spot refl) (λ (c, d, j, q). never d spot q) in
                absurd (none ((behind-refused-exactly f 3 spot).0 is)))
                (λ (_, (new, is, size, short)).
                let (c, d, j, q) = (behind-value-exactly f new).0 is in (c, d, j, (sizes c d j spot).0 (new, q, size), short))
                (law.0 e)),
            (λ (c, d, j, size, short).
                let (new, q, is) = (sizes c d j spot).1 size in law.1 (inr (refl, (new, behind-judged f c d j ∙ q, is, short)))),
          )

      -- a length
      pub answer-given : (n : ℕ) → (answer its room ≡ Ok n) ↔ ((c : Tally) × (d : Contents) × JudgedAs table_length b c d × Size c d n × (n ≤ room))
      answer-given n =
          let law = answer-value its room n in (
            (λ e.
                let (new, is, size, fits) = law.0 e in
                let (c, d, j, q) = (behind-value-exactly f new).0 is in
                (c, d, j, (sizes c d j n).0 (new, q, size), fits)),
            (λ (c, d, j, size, fits). let (new, q, is) = (sizes c d j n).1 size in law.1 (new, behind-judged f c d j ∙ q, is, fits)),
          )
