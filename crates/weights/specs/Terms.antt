-- Whether the weights of a certificate hold, from the rows of a table.
use Rattle.std.specs.Prelude.{Bool, false, ◌&&◌, List, Option, ℕ, ◌+◌, ◌*◌, leb, pos, ◌+ℤ◌}
use Rattle.std.specs.Int.Signed.{le_z}
use Rattle.laws.specs.Lists.{all, tabulate}
use Rattle.laws.specs.Bits.{bit}
use Rattle.limits.specs.Limits.{max_events}
use Rattle.nets.specs.Nets.{Counts, at, same, weighed}
use Rattle.rows.specs.Rows.{Row}
use Rattle.bundles.specs.Reading.{Reader, ◌>>=◌}
use Rattle.bundles.specs.Layout.{TermFields, PairFields, WeightFields, CertificateFields, kind0, kind1}
use Rattle.bundles.specs.Chains.{mapped}
use Rattle.pairs.specs.Pairs.{row_of, all_noted, paired_rows}

-- the weight g of a term, and h of its row's counts u and its event f
abbrev pub weight_in : TermFields → ℕ
weight_in t = t.weight

abbrev pub step_in : List Row → (Counts → ℕ → ℕ) → TermFields → ℕ
step_in rs h t = h (row_of rs t.row).counts t.event

-- the sum of g × h(u, f) over the terms
abbrev pub weighed_rows : List Row → (Counts → ℕ → ℕ) → List TermFields → ℕ
weighed_rows rs h ts = weighed weight_in (step_in rs h) ts

-- the weights hold for the event e after the counts v: the terms' steps are allowed, the pairs' words completed, the sum of g is at most k, and the
-- other two inequalities at each event
unfoldable pub holds_rows : List Row → List (Option ℕ) → Counts → ℕ → WeightFields → Bool
holds_rows rs noted v e w =
    all (λ t. bit (row_of rs t.row).mask t.event) w.terms
    && all_noted noted w.pairs
    && leb (weighed_rows rs (λ u f. 1) w.terms) w.k
    && all (λ i. le_z (pos (weighed_rows rs (λ u f. at u i) w.terms) +ℤ paired_rows rs noted w.pairs i) (pos (w.k * at v i)))
    (tabulate max_events (λ i. i))
    && all
    (λ i. le_z (pos (w.k * (at v i + same e i))) (pos (weighed_rows rs (λ u f. at u i + same f i) w.terms) +ℤ paired_rows rs noted w.pairs i))
    (tabulate max_events (λ i. i))

-- whether the weights of a certificate hold, by a test of them; a place's number is no weights
unfoldable pub holds_by : (WeightFields → Bool) → CertificateFields → Bool
holds_by test (kind0 j) = false
holds_by test (kind1 w) = test w

-- weights that are read: whether they hold, with the offset behind them; or a refusal
abbrev pub weighed_by : (WeightFields → Bool) → Reader CertificateFields → Reader Bool
weighed_by test r = mapped (holds_by test) r

-- the same of pairs behind terms
abbrev pub weighed_pairs : (WeightFields → Bool) → ℕ → List TermFields → Reader (List PairFields) → Reader Bool
weighed_pairs test k ts r = mapped (λ qs. test (record { k = k; terms = ts; pairs = qs })) r

-- and of terms with the pairs behind them
abbrev pub weighed_terms : (WeightFields → Bool) → ℕ → Reader (List PairFields) → Reader (List TermFields) → Reader Bool
weighed_terms test k behind r = r >>= λ ts. weighed_pairs test k ts behind
