-- The premises of demand 3 can be met, so nothing is stated of no files at all: two different files with the same prefixes that open and are
-- accepted, a wrong continuation that their nets permit and one that they refuse. And of the new edition: two with the same prefixes and the same
-- completed words, and one for which a pair below 0 is needed.
use Rattle.std.specs.Prelude.{◌≡◌, true, ℕ, ◌≤◌, length, take, replicate, Ok}
use Rattle.std.proofs.Common.{sym, ap, ◌∙◌, arith, T_not}
use Rattle.std.proofs.Math.Path.{refl}
use mathlib.Core.List.{List, [], ◌∷◌, Memᴰ}
use Rattle.std.proofs.lemmas.List.{length-replicate}
use Rattle.laws.specs.Parts.{take-front}
use Rattle.laws.specs.Lists.{all, member, all-member, member→}
use Rattle.laws.specs.Numbers.{Bytes, all-bytes}
use Rattle.limits.specs.Limits.{right_size}
use Rattle.refusals.specs.Results.{value}
use Rattle.refusals.proofs.Laws.{ends-written}
use Rattle.block.specs.File.{opened, sealed_file}
use Rattle.block.specs.SealLaws.{sealed-file}
use Rattle.block.specs.RoundTrip.{opened-sealed, sealed-small}
use Rattle.nets.specs.Nets.{Word, completed_words, prefixes, permits}
use Rattle.nets.specs.Words.{Prefix, empty-prefix, EveryObeyingNetPermits}
use Rattle.nets.proofs.Comparison.{contained-same}
use Rattle.logs.specs.Answers.{table_size}
use Rattle.bundles.specs.Readers.{events_in, log_in, net_in}
use Rattle.verdicts.specs.Judging.{verdict_of, verdict}
use Rattle.verdicts.proofs.Acceptance.{judged-right}
use Rattle.verdicts.specs.declared.Tally.{Tally}
use Rattle.demands.specs.Completed.{entries_in}
use Rattle.demands.specs.Demands.{FileAccepted, LogContained, Compared}
use Rattle.demands.specs.Proved.{demand_3}
use Rattle.demands.specs.Samples.{bytes_a, bytes_a', counts_a, listed_in, computed}
use Rattle.demands.specs.CompletedSamples as completed
use Rattle.demands.specs.CompletedSamples.{bytes_sales, bytes_sales', bytes_earlier, counts_sales, counts_earlier}

-- ---- bundles, sealed

listed-there : (l₁ l₂ : List Word) → listed_in l₁ l₂ ≡ true → (w : Word) → Memᴰ w l₁ → Memᴰ w l₂
listed-there l₁ l₂ e w m = member→ w l₂ (all-member (λ w. member w l₂) l₁ (rw e tt) m)

within : (b₁ b₂ : List ℕ) → events_in b₁ ≡ events_in b₂ → listed_in (prefixes (log_in b₁)) (prefixes (log_in b₂)) ≡ true
    → listed_in (completed_words (entries_in b₁)) (completed_words (entries_in b₂)) ≡ true → LogContained b₁ b₂
within b₁ b₂ events prefixes completed = record { events = events; prefixes = listed-there _ _ prefixes; completed = listed-there _ _ completed }

-- a sealed bundle opens into every output that is long enough, and is accepted with every table that is
accepted-sealed : (b : List ℕ) (c : Tally) → right_size (length b) ≡ true → verdict table_size b ≡ Ok c
    → (output table : List ℕ) → length b ≤ length output → table_size ≤ length table → FileAccepted (sealed_file b) output table b c
unfolding verdict
accepted-sealed b c size accepted output table room long =
    let opens : opened (sealed_file b) ≡ value b = opened-sealed b (sealed_file b) (sealed-file b size) in
    let ends = ends-written (opened (sealed_file b)) output b opens room in
    record {
      size = length b;
      opens = sym ends.0;
      bundle = ap (take (length b)) (sym ends.1) ∙ take-front b output;
      accepted = ap verdict_of (judged-right (length table) b long size ∙ sym (judged-right table_size b (omega arith) size)) ∙ accepted;
    }

zeros : ℕ → List ℕ
zeros n = replicate n 0

zeros-long : (n : ℕ) → n ≤ length (zeros n)
unfolding zeros
zeros-long n = omega (arith, length-replicate {A = ℕ} n 0)

-- what demand 3 says of two of them, here with outputs and tables of zeros
compares-sealed : (b₁ b₂ : List ℕ) (c₁ c₂ : Tally) → Bytes b₁ → Bytes b₂ → right_size (length b₁) ≡ true → right_size (length b₂) ≡ true
    → verdict table_size b₁ ≡ Ok c₁ → verdict table_size b₂ ≡ Ok c₂ → LogContained b₁ b₂ → Compared b₁ b₂ c₁ c₂
compares-sealed b₁ b₂ c₁ c₂ bytes₁ bytes₂ size₁ size₂ accepted₁ accepted₂ contained =
    let first = accepted-sealed b₁ c₁ size₁ accepted₁ (zeros (length b₁)) (zeros table_size) (zeros-long (length b₁)) (zeros-long table_size) in
    let second = accepted-sealed b₂ c₂ size₂ accepted₂ (zeros (length b₂)) (zeros table_size) (zeros-long (length b₂)) (zeros-long table_size) in
    demand_3 (sealed_file b₁) (sealed_file b₂) _ _ _ _ b₁ b₂ c₁ c₂ (sealed-small b₁ bytes₁) (sealed-small b₂ bytes₂) first second contained

-- ---- two different files

module _ (output₁ output₂ table₁ table₂ : List ℕ) (room₁ : length bytes_a ≤ length output₁) (room₂ : length bytes_a' ≤ length output₂) (long₁ : table_size ≤ length table₁) (long₂ : table_size ≤ length table₂) where
  pub first-accepted : FileAccepted (sealed_file bytes_a) output₁ table₁ bytes_a counts_a
  unfolding bytes_a right_size
  first-accepted = accepted-sealed bytes_a counts_a refl computed.accepted_a output₁ table₁ room₁ long₁

  pub second-accepted : FileAccepted (sealed_file bytes_a') output₂ table₂ bytes_a' counts_a
  unfolding bytes_a' right_size
  second-accepted = accepted-sealed bytes_a' counts_a refl computed.accepted_a' output₂ table₂ room₂ long₂

pub files-of-bytes : Bytes (sealed_file bytes_a) × Bytes (sealed_file bytes_a')
files-of-bytes = (sealed-small bytes_a (all-bytes bytes_a computed.bytes_of_a), sealed-small bytes_a' (all-bytes bytes_a' computed.bytes_of_a'))

-- their logs have the same prefixes, and no completed word
pub contained : LogContained bytes_a bytes_a' × LogContained bytes_a' bytes_a
unfolding all
contained = (
  within bytes_a bytes_a' computed.events computed.to
      (ap (λ (l : List Word). listed_in l (completed_words (entries_in bytes_a'))) computed.none),
  within bytes_a' bytes_a (sym computed.events) computed.from
      (ap (λ (l : List Word). listed_in l (completed_words (entries_in bytes_a))) computed.none'),
)

pub different : bytes_a ≡ bytes_a' → ⊥
unfolding bytes_a bytes_a'
different e = let z : ◌≡◌ {A = ℕ} 53 55 = ap length e in omega arith

pub compares : Compared bytes_a bytes_a' counts_a counts_a
unfolding bytes_a bytes_a' right_size
compares = compares-sealed bytes_a bytes_a' counts_a counts_a
    (all-bytes bytes_a computed.bytes_of_a) (all-bytes bytes_a' computed.bytes_of_a') refl refl
    computed.accepted_a computed.accepted_a' contained.0

pub prefix-of : (b : List ℕ) (w : Word) → member w (prefixes (log_in b)) ≡ true → Prefix (log_in b) w
prefix-of b w e = member→ w (prefixes (log_in b)) (rw e tt)

-- a wrong continuation that is permitted: every net that permits the log of A permits the word 0 1, which is not in the log
pub every_net_permits : EveryObeyingNetPermits (events_in bytes_a) (entries_in bytes_a) (0 ∷ 1 ∷ [])
every_net_permits =
    (compares.longer (0 ∷ []) (prefix-of bytes_a (0 ∷ []) computed.prefix0) 1 (omega (arith, computed.two))
    ).exactly.0 (rw computed.permits01 tt)

-- and one that is refused: not every net that does so permits 1 0
pub some-net-refuses : EveryObeyingNetPermits (events_in bytes_a) (entries_in bytes_a) (1 ∷ 0 ∷ []) → ⊥
some-net-refuses f = T_not (permits (events_in bytes_a) (net_in bytes_a) (1 ∷ 0 ∷ [])) (rw computed.refuses10 tt)
    ((compares.longer (1 ∷ []) (prefix-of bytes_a (1 ∷ []) computed.prefix1) 0 (omega (arith, computed.two))).exactly.1 f)

-- ---- of the new edition

pub sales-bytes : Bytes bytes_sales
sales-bytes = all-bytes bytes_sales (completed.computed).small.0

sales'-bytes : Bytes bytes_sales'
sales'-bytes = all-bytes bytes_sales' (completed.computed).small.1

pub earlier-bytes : Bytes bytes_earlier
earlier-bytes = all-bytes bytes_earlier (completed.computed).small.2

-- two different files whose logs have the same prefixes and the same completed words
pub sales-contained : LogContained bytes_sales bytes_sales' × LogContained bytes_sales' bytes_sales
sales-contained =
    let c = completed.computed in (
      within bytes_sales bytes_sales' c.events c.to c.to_completed,
      within bytes_sales' bytes_sales (sym c.events) c.from c.from_completed,
    )

pub sales-compare : Compared bytes_sales bytes_sales' counts_sales counts_sales
unfolding bytes_sales bytes_sales' right_size
sales-compare = compares-sealed bytes_sales bytes_sales' counts_sales counts_sales sales-bytes sales'-bytes refl refl
    (completed.computed).accepted_sales (completed.computed).accepted_sales' sales-contained.0

pub earlier-compares : Compared bytes_earlier bytes_earlier counts_earlier counts_earlier
unfolding bytes_earlier right_size
earlier-compares = compares-sealed bytes_earlier bytes_earlier counts_earlier counts_earlier earlier-bytes earlier-bytes refl refl
    (completed.computed).accepted_earlier (completed.computed).accepted_earlier (contained-same (events_in bytes_earlier) (entries_in bytes_earlier))

-- every net that permits the log and obeys its completed words permits a third sale to begin
pub third-begins : EveryObeyingNetPermits (events_in bytes_sales) (entries_in bytes_sales) (0 ∷ 1 ∷ 0 ∷ 1 ∷ 0 ∷ [])
third-begins = let c = completed.computed in
    (sales-compare.longer (0 ∷ 1 ∷ 0 ∷ 1 ∷ []) (prefix-of bytes_sales _ c.inside_sales) 0 (omega (arith, c.three.0))
    ).exactly.0 (rw c.permits_sales tt)

-- and at the start what is permitted behind a completed word
pub starts-so : EveryObeyingNetPermits (events_in bytes_earlier) (entries_in bytes_earlier) (1 ∷ [])
starts-so = let c = completed.computed in
    (earlier-compares.longer [] (empty-prefix (log_in bytes_earlier)) 1 (omega (arith, c.three.1))).exactly.0 (rw c.permits_earlier tt)
