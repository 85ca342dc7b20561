-- Bundles of the old edition, and of no completed word: what the page of request 8 says of them, and demands 2 and 3 as they were, from those of
-- today.
use Rattle.std.specs.Prelude.{◌≡◌, false, List, [], ◌∷◌, ◌++◌, ℕ, ◌<◌, get_or}
use Rattle.std.proofs.Math.Path.{refl}
use Rattle.std.proofs.Common.{sym, ◌∙◌}
use mathlib.Core.Logic.Iff
use mathlib.Core.List.Memᴰ
use Rattle.std.proofs.lemmas.Bool.{lt-leb}
use Rattle.laws.specs.Numbers.{Bytes}
use Rattle.limits.specs.Limits.{new_edition}
use Rattle.refusals.specs.Results.{value, refused}
use Rattle.nets.specs.Entries.{NoneCompleted}
use Rattle.nets.proofs.Entries.{old-every-net}
use Rattle.nets.specs.TokenGame.{places_of}
use Rattle.nets.proofs.SeparationProblems.{old-complete, old-suboptimal}
use Rattle.nets.proofs.RegionCertificates.{old-regions}
use Rattle.nets.proofs.Comparison.{contained-old}
use Rattle.bundles.specs.Reading.{Read, item}
use Rattle.bundles.specs.Layout.{Head, Contents, HeadInFront, InLimits, to_bundle, bytes_of}
use Rattle.bundles.specs.Readers.{head, head_in, head_of, any_rows, events_in, net_in}
use Rattle.bundles.specs.Editions.{front-edition}
use Rattle.bundles.specs.Limits.{old-partial, got→front}
use Rattle.verdicts.proofs.OldEdition.{old-edition, old-never-20}
use Rattle.demands.specs.Completed.{entries_in, OldBundle}
use Rattle.demands.specs.Demands.{OldDemand2, OldDemands}
use Rattle.demands.specs.Comparing.{fields, net-complete, net-suboptimal}
use Rattle.demands.specs.Accepting.{regions-exactly}
use Rattle.demands.specs.Proved.{demand_3}

-- ---- A bundle whose first byte is below 128

module _ (b : List ℕ) (bytes : Bytes b) (old : get_or b 0 0 < 128) where
  -- a head in front of it is of the old edition
  old-front : {h : Head} {rest : List ℕ} → HeadInFront b h rest → h.is_new ≡ false
  old-front f = front-edition f ∙ lt-leb new_edition (get_or b 0 0) old

  none_in : NoneCompleted (entries_in b)
  unfolding head_of head_in
  none_in = go (head any_rows b 0) refl
    where
      go : (m : Read Head) → head any_rows b 0 ≡ m → NoneCompleted (head_in m).entries
      go (value (item h next)) is =
          let f = (got→front any_rows (λ n. tt) (λ n log more t. tt) b bytes h next is).0 in old-partial h f.limits (old-front f)
      go (refused number spot) is = λ x m. absurd (Memᴰ.not-nil m)

  old-contents : (d : Contents) → b ≡ bytes_of d → InLimits d → d.head.is_new ≡ false
  unfolding bytes_of
  old-contents d layout limits = old-front (record { layout = layout; limits = limits.head })

  pub old-bundle : OldBundle b
  old-bundle = record {
    partial = none_in;
    contents = λ d layout limits.
        let is_old = old-contents d layout limits in let o = old-edition d limits is_old in (is_old, o.partial, o.pairs);
    never-20 = λ table_length spot e. old-never-20 table_length b bytes old spot e;
  }

-- ---- The demands as they were

old-demand-2 : (table_length : ℕ) (b : List ℕ) → Bytes b → get_or b 0 0 < 128 → OldDemand2 table_length b
unfolding to_bundle
old-demand-2 table_length b bytes old = record {
  asks = λ d layout limits. (old-edition d limits (old-contents b bytes old d layout limits)).accepted;
  by-regions = λ long. Iff.trans (regions-exactly b bytes table_length long) (
    (λ (d, layout, limits, r). let h = (old-regions (to_bundle d) (none d layout limits)).0 r in (d, layout, limits, h.0, h.1)),
    (λ (d, layout, limits, regions, certified). (d, layout, limits, (old-regions (to_bundle d) (none d layout limits)).1 (regions, certified))),
  );
  complete = λ c e. old-complete (events_in b) (entries_in b) (none_in b bytes old) (places_of (net_in b))
      (net-complete b bytes c _ (fields b bytes table_length c e).1);
  suboptimal = λ c e. old-suboptimal (events_in b) (entries_in b) (none_in b bytes old) (places_of (net_in b))
      (net-suboptimal b bytes c _ (fields b bytes table_length c e).1);
}
  where
    none : (d : Contents) → b ≡ bytes_of d → InLimits d → NoneCompleted d.head.entries
    none d layout limits = ((old-bundle b bytes old).contents d layout limits).1

pub old-demands : OldDemands
old-demands = record {
  demand_2 = old-demand-2;
  demand_3 = λ file₁ file₂ output₁ output₂ table₁ table₂ b₁ b₂ c₁ c₂ small₁ small₂ first second none events prefixes.
      let contained = contained-old (events_in b₁) (entries_in b₁) (events_in b₂) (entries_in b₂) none events prefixes in
      let compared = demand_3 file₁ file₂ output₁ output₂ table₁ table₂ b₁ b₂ c₁ c₂ small₁ small₂ first second contained in
      record {
        exactly = λ w m e below. Iff.trans (compared.longer w m e below).exactly (old-every-net (events_in b₁) (entries_in b₁) none (w ++ e ∷ []));
        compared = compared;
        back = λ none₂ back. contained-old (events_in b₂) (entries_in b₂) (events_in b₁) (entries_in b₁) none₂ (sym events) back;
      };
}
