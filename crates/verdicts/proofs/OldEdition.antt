-- A bundle of the old edition is written, judged and accepted as before there was a new one.
use Rattle.std.specs.Prelude.{◌≡◌, Bool, false, ◌&&◌, ℕ, ◌+◌, ◌*◌, ◌<◌, length, get_or, Err}
use Rattle.std.proofs.Math.Path.{ap, ap₂}
use Rattle.std.proofs.Common.{◌∙◌, add-zero, arith}
use Rattle.std.proofs.Math.Bool.{cond, and-true}
use mathlib.Core.List.{List, [], ◌∷◌, ◌++◌, flat_map, append-nil}
use Rattle.std.proofs.Math.Nat.{zero-add}
use Rattle.std.proofs.lemmas.Bool.{lt-leb}
use Rattle.std.proofs.Math.Dec.{leb}
use Rattle.laws.specs.Every.{every_member, every_intro}
use Rattle.laws.specs.Lists.{all, tabulate, all_same}
use Rattle.laws.specs.Numbers.{Bytes, le16}
use Rattle.limits.specs.Limits.{new_edition}
use Rattle.refusals.specs.Table.{place_disobeys_number}
use Rattle.refusals.specs.Answers.{refusal}
use Rattle.nets.specs.Nets.{Entry, Step, words, at, same, weighed, allowed}
use Rattle.nets.specs.Bundle.{Term, Weights, weight_of, paired, weighs_before, weighs_after, weights_hold}
use Rattle.nets.proofs.Entries.{none-completed, none-word, none-obeyed}
use Rattle.nets.specs.Acceptance.{accepted-parts}
use Rattle.bundles.specs.Layout.{WeightFields, CertificateFields, kind0, kind1, Head, Contents, to_net, to_bundle}
use Rattle.bundles.specs.Layout.{first_in, first_of, mark_bytes, entry_bytes, term_bytes, pairs_bytes, weight_bytes}
use Rattle.bundles.specs.Layout.{HeadInLimits, CertificateInLimits, InLimits}
use Rattle.bundles.specs.Limits.{old-partial}
use Rattle.bundles.specs.Editions.{front-edition}
use Rattle.verdicts.specs.Judging.{verdict}
use Rattle.verdicts.specs.Acceptance.{ObeysIn}
use Rattle.verdicts.specs.OldEdition.{NoPairs, Old}
use Rattle.verdicts.proofs.Causes.{judging-20, judge_later}

module _ (h : Head) (limits : HeadInLimits h) (old : h.is_new ≡ false) where
  pub old-obeys : ObeysIn h
  old-obeys = none-obeyed h.events (to_net h) h.entries (old-partial h limits old)

  old-pairs : (c : CertificateFields) → CertificateInLimits h c → NoPairs c
  old-pairs (kind0 j) v = tt
  old-pairs (kind1 w) v = v.pairs.edition old

  -- ---- its bytes

  -- n, and no mark
  old-first : first_of (first_in h) ≡ h.events
  unfolding first_of
  old-first = ap (λ (t : Bool). cond t new_edition 0 + h.events) old ∙ zero-add h.events

  old-entry : (x : Entry) → entry_bytes h.is_new x ≡ length x.word ∷ x.word
  unfolding entry_bytes mark_bytes
  old-entry x = rw old

  -- no pair count
  old-weights : (w : WeightFields) → weight_bytes h.is_new w ≡ le16 w.k ++ (length w.terms ∷ flat_map term_bytes w.terms)
  unfolding weight_bytes pairs_bytes
  old-weights w = rw old (ap (λ (l : List ℕ). le16 w.k ++ (length w.terms ∷ l)) (append-nil (flat_map term_bytes w.terms)))

-- ---- what it is accepted for

pub old-edition : (c : Contents) → InLimits c → c.head.is_new ≡ false → Old c
unfolding to_bundle
old-edition c v old =
    let obeyed = old-obeys c.head v.head old in
    let parts = accepted-parts (to_bundle c) in
    record {
      first = old-first c.head v.head old;
      entry = old-entry c.head v.head old;
      weights = old-weights c.head v.head old;
      partial = old-partial c.head v.head old;
      completed = none-completed c.head.entries (old-partial c.head v.head old);
      pairs = every_intro NoPairs c.certificates (λ x m. old-pairs c.head v.head old x
          (every_member (CertificateInLimits c.head) c.certificates v.certificates m));
      obeys = obeyed;
      accepted = ((λ t. let a = parts.0 t in (a.permitted, a.solved)), λ (t, s). parts.1 (record { permitted = t; obeyed = obeyed; solved = s }));
    }

-- weights without pairs hold when the inequalities do, of natural numbers
module _ (n : ℕ) (entries : List Entry) (s : Step) (k : ℕ) (ts : List Term) where
  abbrev alone : Weights
  alone = record { k = k; terms = ts; pairs = [] }

  abbrev pub before : ℕ → Bool
  before i = leb (weighed weight_of (λ t. at t.step.row i) ts) (k * at s.row i)

  abbrev pub after : ℕ → Bool
  after i = leb (k * (at s.row i + same s.event i)) (weighed weight_of (λ t. at t.step.row i + same t.step.event i) ts)

  before_same : (i : ℕ) → weighs_before n entries s alone i ≡ before i
  unfolding weighs_before paired
  before_same i = ap (λ (x : ℕ). leb x (k * at s.row i)) (add-zero (weighed weight_of (λ t. at t.step.row i) ts))

  after_same : (i : ℕ) → weighs_after n entries s alone i ≡ after i
  unfolding weighs_after paired
  after_same i =
      ap (leb (k * (at s.row i + same s.event i)))
      (add-zero (weighed weight_of (λ t. at t.step.row i + same t.step.event i) ts))

  pub alone-hold : weights_hold n entries s alone ≡ (leb 1 k && all (λ t. allowed n (words entries) t.step) ts
      && leb (weighed weight_of (λ t. 1) ts) k && all before (tabulate n (λ i. i)) && all after (tabulate n (λ i. i)))
  unfolding weights_hold all
  alone-hold =
      let first = leb 1 k && all (λ t. allowed n (words entries) t.step) ts in
      let total = leb (weighed weight_of (λ t. 1) ts) k in
      let events = tabulate n (λ i. i) in
      ap (λ (x : Bool). x && total && all (weighs_before n entries s alone) events && all (weighs_after n entries s alone) events) (and-true first)
      ∙ ap₂ (λ (x y : Bool). first && total && x && y)
      (all_same (weighs_before n entries s alone) before events (λ i m. before_same i))
      (all_same (weighs_after n entries s alone) after events (λ i m. after_same i))

-- ---- the refusal 20

-- it never meets a bundle whose first byte is below 128
pub old-never-20 : (table_length : ℕ) (b : List ℕ) → Bytes b → get_or b 0 0 < new_edition → (spot : ℕ)
    → verdict table_length b ≡ Err (refusal place_disobeys_number spot) → ⊥
old-never-20 table_length b bytes old spot e =
    let r = (judge_later table_length b place_disobeys_number (λ n. omega (arith, n)) (λ n. omega (arith, n)) spot).0 e in
    let (h, rest, t, permits, low) = (judging-20 b bytes spot).0 r.1.1 in
    let none = old-partial h t.front.limits (front-edition t.front ∙ lt-leb new_edition (get_or b 0 0) old) in
    low.disobeys (λ w m. absurd (none-word h.entries none w m))
