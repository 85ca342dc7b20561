-- What a pair says, and when weights hold, with pairs and without: lines of Completed.antt, proved.
use Rattle.std.specs.Prelude.{◌≡◌, refl, Bool, true, cond, ◌↔◌, leb, pos, ℤ, ◌+ℤ◌, ◌*ℤ◌, ◌≤ℤ◌, get_or, Err}
use Rattle.std.proofs.Common.{sym, ap, ap₂, ◌∙◌, subst, add-zero, arith, lt-ltb, le-ltb, le→leb}
use mathlib.Core.List.Memᴰ
use mathlib.Core.List.{List, [], ◌∷◌}
use Prim.Native.Nat.{ℕ, ◌+◌, ◌*◌, ◌<◌}
use Rattle.std.proofs.Math.Dec.{T, leb→le, not_T}
use Rattle.std.proofs.Math.IntN.{sub_ℕ}
use Rattle.std.specs.Int.Signed.{le_z_yes}
use Rattle.laws.specs.Booleans.{yes_true, no_false}
use Rattle.laws.specs.Differences.{difference, pos_of_difference}
use Rattle.laws.specs.Lists.{get_d_tabulate}
use Rattle.laws.specs.Numbers.{Bytes}
use Rattle.refusals.specs.Answers.{refusal}
use Rattle.nets.specs.Nets.{Entry, no_entry, Step, words, same, occurrences, weighed, at, counts}
use Rattle.nets.specs.Bundle.{Term, Pair, Weights, by_weights, weight_of, names_completed, pair_counts, paired, solves}
use Rattle.nets.proofs.Certificates.{pairs-completed}
use Rattle.nets.specs.RegionCertificates.{WeightsMeet}
use Rattle.nets.proofs.RegionCertificates.{solves_certifies}
use Rattle.bundles.specs.Layout.{WeightFields, Head, signed, to_pair, to_weights, to_certificate, weights_hold_in}
use Rattle.bundles.specs.Layout.{pair_bytes, pairs_bytes, weight_bytes}
use Rattle.verdicts.specs.Judging.{verdict}
use Rattle.demands.specs.Judging.{Sized}
use Rattle.demands.specs.Completed.{PairsSay, added, pairs_add, Meets, OfPartial, MeetsAlone}
use Rattle.demands.specs.JudgingProved.{judge_exactly}

pub pairs-say : PairsSay
unfolding pairs_bytes pair_bytes weight_bytes to_pair signed
pairs-say = record {
  new = λ qs. refl;
  old = λ qs. refl;
  bytes = λ q. refl;
  number = λ q. refl;
  above = λ q h.
      ap (λ (t : Bool). sub_ℕ q.weight (cond t 0 65536)) (lt-ltb q.weight 32768 h)
      ∙ pos_of_difference q.weight 0 (omega arith) ∙ ap pos (omega arith);
  below = λ q h. ap (λ (t : Bool). sub_ℕ q.weight (cond t 0 65536)) (le-ltb q.weight 32768 h) ∙ sym (difference q.weight 65536);
  behind = λ w. refl;
}

-- ---- The inequalities

terms-add : (h : Term → ℕ) (ts : List Term) → pos (weighed weight_of h ts) ≡ added (λ t. pos (t.weight * h t)) ts
unfolding weighed added
terms-add h [] = refl
terms-add h (t ∷ ts) = ap (λ (z : ℤ). pos (t.weight * h t) +ℤ z) (terms-add h ts)

module _ (n : ℕ) (entries : List Entry) where
  paired-adds : (i : ℕ) → i < n → (qs : List Pair) → paired n entries qs i ≡ pairs_add entries qs i
  unfolding paired pair_counts counts added
  paired-adds i h [] = refl
  paired-adds i h (q ∷ qs) =
      let u = get_d_tabulate n (λ i. occurrences i (get_or entries q.number no_entry).word) i 0 h in
      ap₂ (λ (x : ℕ) (z : ℤ). q.weight *ℤ pos x +ℤ z) u (paired-adds i h qs)

  sides : (h : Term → ℕ) (w : Weights) (i : ℕ) → i < n → pos (weighed weight_of h w.terms) +ℤ paired n entries w.pairs i
      ≡ added (λ t. pos (t.weight * h t)) w.terms +ℤ pairs_add entries w.pairs i
  sides h w i below = ap₂ ◌+ℤ◌ (terms-add h w.terms) (paired-adds i below w.pairs)

  meets-weights : (s : Step) (w : Weights) → WeightsMeet n entries s w ↔ Meets n entries s w
  meets-weights s w = (
    (λ m. record {
      constraints = m.constraints;
      named = m.completed;
      positive = m.inequalities.positive;
      total = m.inequalities.total;
      before = λ i b. subst (λ (z : ℤ). z ≤ℤ pos (w.k * at s.row i)) (sides (used i) w i b) (m.inequalities.before i b);
      after = λ i b. subst (λ (z : ℤ). pos (w.k * (at s.row i + same s.event i)) ≤ℤ z) (sides (made i) w i b) (m.inequalities.after i b);
    }),
    (λ m. record {
      constraints = m.constraints;
      completed = m.named;
      inequalities = record {
        positive = m.positive;
        total = m.total;
        before = λ i b. subst (λ (z : ℤ). z ≤ℤ pos (w.k * at s.row i)) (sym (sides (used i) w i b)) (m.before i b);
        after = λ i b. subst (λ (z : ℤ). pos (w.k * (at s.row i + same s.event i)) ≤ℤ z) (sym (sides (made i) w i b)) (m.after i b);
      };
    }),
  )
    where
      used : ℕ → Term → ℕ
      used i t = at t.step.row i

      made : ℕ → Term → ℕ
      made i t = at t.step.row i + same t.step.event i

pub meets : (h : Head) (s : Step) → s.event < h.events → (w : WeightFields)
    → (weights_hold_in h s w ≡ true) ↔ Meets h.events h.entries s (to_weights h w)
unfolding solves
meets h s below w =
    let certifies = solves_certifies h.events h.entries [] s below (by_weights (to_weights h w)) in
    let law = meets-weights h.events h.entries s (to_weights h w) in (
      (λ e. law.0 (certifies.0 (subst T (sym e) tt))),
      (λ m. yes_true (weights_hold_in h s w) (certifies.1 (law.1 m))),
    )

pub of-partial : (table_length : ℕ) (b : List ℕ) → Bytes b → Sized table_length b → (number : ℕ) → OfPartial b number
    → verdict table_length b ≡ Err (refusal 12 number)
unfolding solves to_certificate names_completed to_pair
of-partial table_length b bytes sized number p =
    let h = p.contents.head in
    let never : T (weights_hold_in h p.step p.weights) → ⊥ = λ t.
    subst T p.partial (pairs-completed h.events h.entries p.step (to_weights h p.weights) t (to_pair p.pair) (Memᴰ.map to_pair p.listed)) in
    let unsolved = no_false (weights_hold_in h p.step p.weights) (not_T (weights_hold_in h p.step p.weights) never) in
    ((judge_exactly table_length b bytes).weights number).1
    (sized, (p.contents, p.step, p.weights, record { rest = p.rest; due = p.due; limits = p.limits; unsolved = unsolved }, p.place))

-- ---- Weights without pairs

module _ (n : ℕ) (entries : List Entry) (s : Step) (k : ℕ) (ts : List Term) where
  abbrev alone : Weights
  alone = record { k = k; terms = ts; pairs = [] }

  pub meets-alone : WeightsMeet n entries s alone ↔ MeetsAlone n (words entries) s k ts
  unfolding paired
  meets-alone = (
    (λ m. record {
      constraints = m.constraints;
      positive = m.inequalities.positive;
      total = m.inequalities.total;
      before = λ i b. leb→le _ _ (subst (λ (x : ℕ). T (leb x (k * at s.row i))) (add-zero (used i)) (m.inequalities.before i b).le);
      after = λ i b. leb→le _ _
          (subst (λ (x : ℕ). T (leb (k * (at s.row i + same s.event i)) x)) (add-zero (made i)) (m.inequalities.after i b).le);
    }),
    (λ m. record {
      constraints = m.constraints;
      completed = λ q none. absurd (Memᴰ.not-nil none);
      inequalities = record {
        positive = m.positive;
        total = m.total;
        before = λ i b. le_z_yes (subst (λ (x : ℕ). T (leb x (k * at s.row i))) (sym (add-zero (used i))) (le→leb _ _ (m.before i b)));
        after = λ i b. le_z_yes
            (subst (λ (x : ℕ). T (leb (k * (at s.row i + same s.event i)) x)) (sym (add-zero (made i))) (le→leb _ _ (m.after i b)));
      };
    }),
  )
    where
      used : ℕ → ℕ
      used i = weighed weight_of (λ t. at t.step.row i) ts

      made : ℕ → ℕ
      made i = weighed weight_of (λ t. at t.step.row i + same t.step.event i) ts
