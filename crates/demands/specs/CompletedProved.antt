-- The page of request 8, proved.
use Rattle.std.specs.Prelude.{◌≡◌, refl, Bool, ◌&&◌, List, [], ◌∷◌, ◌++◌, ℕ, T, ℤ, neg_ℤ, Ok}
use Rattle.std.proofs.Common.{ap, ◌∙◌, ⊎_elim}
use Rattle.std.proofs.Math.Path.{subst}
use mathlib.Core.List.Memᴰ
use Rattle.std.proofs.Math.IntN.{pos}
use Rattle.laws.specs.Booleans.{yes_true}
use Rattle.laws.specs.Every.{Every}
use Rattle.laws.specs.Numbers.{Bytes}
use Rattle.nets.specs.Nets.{Word, Entry, Net, words, completed_words, counts, effect, permits}
use Rattle.nets.specs.Words.{Prefix, empty-prefix, PermitsLog, Obeys, permits-prefix}
use Rattle.nets.specs.Entries.{Completed}
use Rattle.nets.proofs.Entries.{completed→, →completed, completed-listed, completed-prefix, net-returns}
use Rattle.nets.specs.Fits.{Below, LogBelow, prefix-below}
use Rattle.nets.specs.Acceptance.{accepted-parts}
use Rattle.nets.specs.Completed.{concatenated}
use Rattle.nets.proofs.Completed.{obeys-invariants, completed-marking, completed-run, permits-behind, completed-repeat, concatenated-below}
use Rattle.nets.proofs.Completed.{completed-language, sound-net}
use Rattle.bundles.specs.Layout.{to_bundle}
use Rattle.bundles.specs.Readers.{head_of, events_in, log_in, net_in}
use Rattle.bundles.specs.Limits.{log-below}
use Rattle.verdicts.specs.Judging.{verdict}
use Rattle.verdicts.specs.declared.Tally.{Tally}
use Rattle.screening.specs.Screens.{permitted-exactly}
use Rattle.contents.specs.Contents.{contents_of}
use Rattle.demands.specs.Completed.{entries_in, Obeying, ReturnsToIdle, PairNeeded, Request8}
use Rattle.demands.specs.Comparing.{fields, word-readable}
use Rattle.demands.specs.CompletedBytes.{first_says, no-first, no-first-screened, mark-says}
use Rattle.demands.specs.CompletedPairs.{pairs-say, meets, of-partial, meets-alone}
use Rattle.demands.specs.OldJudgeProved.{answers-as-before}
use Rattle.demands.specs.OldProved.{old-bundle}
use Rattle.demands.specs.CompletedSamples.{bytes_sales, bytes_earlier, counts_sales, counts_earlier, sales_weights, earlier_weights, used_up}
use Rattle.demands.specs.CompletedSamples.{waiting, computed}
use Rattle.demands.specs.Met.{prefix-of, sales-bytes, earlier-bytes, third-begins, starts-so}

-- ---- Every net that obeys

module _ (n : ℕ) (entries : List Entry) (below : LogBelow n (words entries)) where
  word_below : (w : Word) → Completed entries w → Below n w
  word_below w done = below w (completed-listed entries w done)

  -- behind a completed word as at the start
  idle : (net : Net) → PermitsLog n net (words entries) → Obeys n net (completed_words entries) → (w : Word) → Completed entries w
      → (x : Word) → permits n net (w ++ x) ≡ permits n net x
  idle net permitted obeyed w done x =
      permits-behind n net w (λ p m. (net-returns n net (completed_words entries)).0 obeyed p m w done) x
      ∙ ap (λ (t : Bool). t && permits n net x)
      (yes_true (permits n net w) (permits-prefix n net (words entries) permitted w (completed-prefix entries w done)))

  obeying : Obeying n entries
  unfolding words
  obeying = record {
    log = refl;
    completed = λ w. (
      (λ m. let r = completed→ entries w m in (r.0, r.1, yes_true r.0.completed r.2, r.3)),
      λ (x, m, e, is). subst (Completed entries) is (→completed entries x m (rw e tt)),
    );
    rule = λ net. let law = net-returns n net (completed_words entries) in (
      (λ t p m x k e. law.0 t p m x.word (→completed entries x k (rw e tt))),
      λ h. law.1 (λ p m w k.
          let r = completed→ entries w k in
          subst (λ (y : Word). effect n p (counts n y) ≡ pos 0) r.3 (h p m r.0 r.1 (yes_true r.0.completed r.2))),
    );
    invariants = λ net. obeys-invariants n net (completed_words entries);
    marking = λ net obeyed w done p m. completed-marking n net (completed_words entries) obeyed w done (word_below w done) p m;
    run = λ net permitted obeyed w done. completed-run n net (completed_words entries) obeyed w done (word_below w done)
        (permits-prefix n net (words entries) permitted w (completed-prefix entries w done));
    idle = idle;
    again = completed-repeat n entries;
    language = completed-language n entries below;
    regions = sound-net n entries below;
  }

-- ---- The net of an accepted bundle

module _ (table_length : ℕ) (b : List ℕ) (bytes : Bytes b) (c : Tally) (yes' : verdict table_length b ≡ Ok c) where
  below : LogBelow (events_in b) (log_in b)
  below = log-below (head_of b) (fields b bytes table_length c yes').1.limits.head

  permitted : PermitsLog (events_in b) (net_in b) (log_in b)
  unfolding to_bundle
  permitted = ((accepted-parts _).0 (fields b bytes table_length c yes').1.accepted).permitted

  obeyed : Obeys (events_in b) (net_in b) (completed_words (entries_in b))
  unfolding to_bundle
  obeyed = ((accepted-parts _).0 (fields b bytes table_length c yes').1.accepted).obeyed

  again : (ws : List Word) → Every (Completed (entries_in b)) ws → (u : Word) → Prefix (log_in b) u
      → T (permits (events_in b) (net_in b) (concatenated ws ++ u))
  again ws done u pre = completed-repeat (events_in b) (entries_in b) ws done u pre (net_in b) permitted obeyed

  again-below : (ws : List Word) → Every (Completed (entries_in b)) ws → (u : Word) → Prefix (log_in b) u
      → Below (events_in b) (concatenated ws ++ u)
  again-below ws done u pre e m = ⊎_elim
      (concatenated-below (events_in b) (entries_in b) below ws done e)
      (prefix-below (events_in b) (log_in b) below u pre e)
      (Memᴰ.append_cases (concatenated ws) m)

  returns : ReturnsToIdle b
  returns = record {
    obeys = obeyed;
    idle = idle (events_in b) (entries_in b) below (net_in b) permitted obeyed;
    again = again;
    screened = λ ws done u pre size. (permitted-exactly b (concatenated ws ++ u)
        (word-readable b bytes table_length c yes' (concatenated ws ++ u) size (again-below ws done u pre))).1 (again ws done u pre);
  }

-- ---- Where a pair is needed

needed-above : PairNeeded (pos 6)
needed-above = record {
  bundle = bytes_sales;
  bytes = sales-bytes;
  counts = counts_sales;
  accepted = computed.accepted_sales;
  contents = contents_of bytes_sales;
  layout = computed.layout_sales;
  weights = sales_weights;
  number = 8;
  certificate = computed.ninth_is;
  pair = ap (λ (z : ℤ). z ∷ []) computed.signs.0;
  prefix = 0 ∷ 1 ∷ 0 ∷ 1 ∷ [];
  event = 0;
  inside = prefix-of bytes_sales (0 ∷ 1 ∷ 0 ∷ 1 ∷ []) computed.inside_sales;
  due = computed.due_sales;
  holds = computed.holds_sales;
  every = third-begins;
  net = used_up;
  permitted = rw computed.used_permits tt;
  refuses = rw computed.used_refuses tt;
}

needed-below : PairNeeded (neg_ℤ (pos 2))
needed-below = record {
  bundle = bytes_earlier;
  bytes = earlier-bytes;
  counts = counts_earlier;
  accepted = computed.accepted_earlier;
  contents = contents_of bytes_earlier;
  layout = computed.layout_earlier;
  weights = earlier_weights;
  number = 0;
  certificate = computed.first_is;
  pair = ap (λ (z : ℤ). z ∷ []) computed.signs.1;
  prefix = [];
  event = 1;
  inside = empty-prefix (log_in bytes_earlier);
  due = computed.due_earlier;
  holds = computed.holds_earlier;
  every = starts-so;
  net = waiting;
  permitted = rw computed.waiting_permits tt;
  refuses = rw computed.waiting_refuses tt;
}

pub request-8 : Request8
unfolding concatenated
request-8 = record {
  one_behind = (refl, λ w ws. refl);
  nets = obeying;
  accepted = returns;
  first_byte = first_says;
  no-first = no-first;
  no-first-screened = no-first-screened;
  mark = mark-says;
  pairs = pairs-say;
  meets = meets;
  of-partial = of-partial;
  above = needed-above;
  below = needed-below;
  old = old-bundle;
  as_before = answers-as-before;
  alone = meets-alone;
}
