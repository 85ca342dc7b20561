-- Two bundles of which all is alike that demand 3 speaks of: it asks the same of both, and says the same, whether they are the first of two files or
-- the second.
use Rattle.std.specs.Prelude.{◌≡◌, ℕ}
use Rattle.std.proofs.Common.{sym}
use mathlib.Core.List.{List, [], ◌∷◌, ◌++◌}
use Rattle.nets.specs.Nets.{Word}
use Rattle.bundles.specs.Readers.{events_in, net_in}
use Rattle.verdicts.specs.declared.Tally.{Tally}
use Rattle.screening.specs.Screening.{screened}
use Rattle.demands.specs.Completed.{entries_in}
use Rattle.demands.specs.Demands.{LogContained, Longer, Compared}

pub record Alike (b b' : List ℕ) : Type 0 where
  pub events : events_in b' ≡ events_in b
  pub entries : entries_in b' ≡ entries_in b
  pub net : net_in b' ≡ net_in b
  pub screened : (w : Word) → screened b' w ≡ screened b w

module _ {b b' : List ℕ} (a : Alike b b') where
  pub turned : Alike b' b
  turned = record { events = sym a.events; entries = sym a.entries; net = sym a.net; screened = λ w. sym (a.screened w) }

  module _ (x : List ℕ) where
    pub first-contained : LogContained b x → LogContained b' x
    first-contained h = rw (a.events, a.entries) h

    pub second-contained : LogContained x b → LogContained x b'
    second-contained h = rw (a.events, a.entries) h

module _ {b b' : List ℕ} (a : Alike b b') (x : List ℕ) where
  first-longer : (w : Word) (e : ℕ) → Longer b x w e → Longer b' x w e
  first-longer w e l = record {
    exactly = rw (a.net, a.events, a.entries) l.exactly;
    second = rw (a.net, a.events) l.second;
    same = λ back. rw (a.net, a.events) (l.same (second-contained (turned a) x back));
    screened₁ = rw (a.net, a.events, a.screened (w ++ e ∷ [])) l.screened₁;
    screened₂ = l.screened₂;
  }

  second-longer : (w : Word) (e : ℕ) → Longer x b w e → Longer x b' w e
  second-longer w e l = record {
    exactly = l.exactly;
    second = rw (a.net, a.events) l.second;
    same = λ back. rw (a.net, a.events) (l.same (first-contained (turned a) x back));
    screened₁ = l.screened₁;
    screened₂ = rw (a.net, a.events, a.screened (w ++ e ∷ [])) l.screened₂;
  }

  pub first-compared : (c c' : Tally) → Compared b x c c' → Compared b' x c c'
  first-compared c c' v = record {
    longer = λ w m e h. first-longer w e (v.longer w (rw a.entries at m) e (rw a.events at h));
    counts = λ back. v.counts (second-contained (turned a) x back);
  }

  pub second-compared : (c c' : Tally) → Compared x b c c' → Compared x b' c c'
  second-compared c c' v = record {
    longer = λ w m e h. second-longer w e (v.longer w m e h);
    counts = λ back. v.counts (first-contained (turned a) x back);
  }
