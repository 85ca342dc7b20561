-- An accepted bundle, from the definitions on nets to its bytes: its four counts as numbers of what they count, and acceptance by regions.
use Rattle.std.specs.Prelude.{◌≡◌, not, ◌↔◌, List, ℕ, ◌≤◌, Ok}
use Rattle.std.proofs.Math.Path.{refl, sym, subst}
use Rattle.std.proofs.Common.{ap}
use Rattle.std.proofs.Math.Dec.{T}
use Rattle.laws.specs.Distinct.{Cardinality}
use Rattle.laws.specs.Numbers.{Bytes}
use Rattle.nets.specs.Nets.{net_permits}
use Rattle.nets.specs.Bundle.{accepted, tally}
use Rattle.nets.specs.Words.{Follows, PermitsLog, Obeys}
use Rattle.nets.specs.Acceptance.{accepted-parts}
use Rattle.nets.specs.Tallies.{PrefixCounts, WrongContinuation}
use Rattle.nets.proofs.Tallies.{row_count, allowed-count, refused-count, permitted-count}
use Rattle.nets.specs.RegionCertificates.{ByRegions}
use Rattle.nets.proofs.RegionCertificates.{accepted-regions}
use Rattle.logs.specs.Answers.{table_size}
use Rattle.bundles.specs.Layout.{Contents, HeadInLimits, InLimits, to_net, to_bundle, words_in, completed_in, wrong_in, solves_all_in, bytes_of}
use Rattle.bundles.specs.Readers.{head_of, events_in, log_in, net_in}
use Rattle.bundles.specs.Limits.{log-below}
use Rattle.verdicts.specs.Judging.{tally_of, verdict}
use Rattle.verdicts.specs.Acceptance.{AcceptedAs}
use Rattle.verdicts.proofs.Acceptance.{accepted-exactly}
use Rattle.verdicts.specs.declared.Tally.{Tally}
use Rattle.demands.specs.Demands.{FourCounts}
use Rattle.demands.specs.Comparing.{fields}

pub acceptance-asks : (d : Contents) → T (accepted (to_bundle d)) ↔ (PermitsLog d.head.events (to_net d.head) (words_in d.head)
    × Obeys d.head.events (to_net d.head) (completed_in d.head) × T (solves_all_in d.head (wrong_in d.head) d.certificates))
unfolding to_bundle
acceptance-asks d = let law = accepted-parts (to_bundle d) in (
  (λ t. let a = law.0 t in (a.permitted, a.obeyed, a.solved)),
  (λ (permitted, obeyed, solved). law.1 (record { permitted = permitted; obeyed = obeyed; solved = solved })),
)

module _ (b : List ℕ) (bytes : Bytes b) (table_length : ℕ) where
  pub counts_are : (c : Tally) → verdict table_length b ≡ Ok c → FourCounts (events_in b) (log_in b) (net_in b) c
  unfolding to_bundle
  counts_are c yes' =
      let f = fields b bytes table_length c yes' in
      let d : Contents = record { head = head_of b; certificates = f.0 } in
      let below = log-below (head_of b) f.1.limits.head in
      let is = sym f.1.counts in
      record {
        row_count = subst (Cardinality (PrefixCounts (events_in b) (log_in b)))
            (ap (λ (t : Tally). t.rows) is) (row_count (to_bundle d) below f.1.accepted);
        allowed-count = subst (Cardinality (Follows (events_in b) (log_in b)))
            (ap (λ (t : Tally). t.allowed) is) (allowed-count (to_bundle d) below f.1.accepted);
        kind_0 = subst (Cardinality (λ s. WrongContinuation (events_in b) (log_in b) s × T (not (net_permits (events_in b) (net_in b) s))))
            (ap (λ (t : Tally). t.by_place) is) (refused-count (to_bundle d) below f.1.accepted);
        kind_1 = subst (Cardinality (λ s. WrongContinuation (events_in b) (log_in b) s × T (net_permits (events_in b) (net_in b) s)))
            (ap (λ (t : Tally). t.by_weights) is) (permitted-count (to_bundle d) below f.1.accepted);
      }

  pub regions-exactly : table_size ≤ table_length → ((c : Tally) × (verdict table_length b ≡ Ok c))
      ↔ ((d : Contents) × (b ≡ bytes_of d) × InLimits d × ByRegions (to_bundle d))
  unfolding to_bundle
  regions-exactly long = (
    (λ (c, e). let r = (accepted-exactly table_length long b bytes c).0 e in
        (r.0, r.1.layout, r.1.limits, (law r.0 r.1.limits.head).0 r.1.accepted)),
    (λ (d, layout, limits, solved).
        let c = tally_of (tally (to_bundle d)) in
        let a : AcceptedAs b c d = record { layout = layout; limits = limits; accepted = (law d limits.head).1 solved; counts = refl } in
        (c, (accepted-exactly table_length long b bytes c).1 (d, a))),
  )
    where
      law : (d : Contents) → HeadInLimits d.head → T (accepted (to_bundle d)) ↔ ByRegions (to_bundle d)
      law d limits = accepted-regions (to_bundle d) (log-below d.head limits)
