-- The page of request 7, proved.
use Rattle.std.specs.Prelude.{◌≡◌, ◌↔◌, Bool, not, ℕ, suc, ◌+◌, ◌<◌, Ok}
use Rattle.std.proofs.Math.Path.{refl, sym, ap, subst}
use Rattle.std.proofs.Common.{◌∙◌, arith}
use Rattle.std.proofs.Math.Bool.{cond}
use mathlib.Core.List.{List}
use Rattle.std.proofs.Math.Dec.{T}
use Rattle.std.proofs.Math.ListN.{length, get_or, length-map}
use Rattle.laws.specs.Booleans.{impossible}
use Rattle.laws.specs.Lists.{get_d_map}
use Rattle.laws.specs.Numbers.{Bytes}
use Rattle.laws.specs.Ranks.{rank, rank-next, rank-more, keep_at-at, keep_at-from}
use Rattle.refusals.specs.Results.{Result, value, refused}
use Rattle.nets.specs.Nets.{Word, Entry, permits}
use Rattle.nets.specs.Bundle.{Bundle, accepted}
use Rattle.nets.specs.Comparison.{Contained}
use Rattle.nets.proofs.Comparison.{contained-same}
use Rattle.nets.specs.Pruning.{prune}
use Rattle.nets.proofs.Pruning.{fewer-permits, prune-accepted, prune-tally, prune-permits, prune-more}
use Rattle.logs.specs.Answers.{table_size}
use Rattle.bundles.specs.Layout.{PlaceFields, CertificateFields, kind0, kind1, Head, Contents, InLimits, to_net, to_bundle}
use Rattle.bundles.specs.Layout.{front_bytes, head_bytes, bytes_of}
use Rattle.bundles.specs.Readers.{head_of, events_in, net_in}
use Rattle.verdicts.specs.Judging.{tally_of, verdict}
use Rattle.verdicts.specs.Acceptance.{AcceptedAs}
use Rattle.verdicts.specs.declared.Tally.{Tally}
use Rattle.contents.specs.Contents.{contents_of}
use Rattle.contents.specs.Behind.{JudgedAs, judged_as, behind-judged, behind-value-exactly, answer-judged, answer-short, answer-given}
use Rattle.pruning.specs.Pruning.{named, renumbered, pruned, pruning}
use Rattle.pruning.specs.PruneLaws.{named-member, named→, named-there, stays-named, pruned-bundle, pruned-accepted, pruned-tally, pruned-limits, pruned-shorter, pruned-twice}
use Rattle.demands.specs.Completed.{entries_in}
use Rattle.demands.specs.Demands.{LogContained, Compared}
use Rattle.demands.specs.SameWords.{written-bytes, written-verdict, written-head, same-events, same_entries, same-table}
use Rattle.demands.specs.Comparing.{accepted-head, compared}
use Rattle.demands.specs.Outputs.{leaves-output}
use Rattle.demands.specs.Pruning.{PruneExactly, WithoutIdle, Keeps, BundlePruned, Request7}
use Rattle.demands.specs.PruningSample.{permitted-more}

-- ---- The call

abbrev rest : Contents → Result (List ℕ)
rest d = value (bytes_of (pruned d))

never-refused : (k : ℕ) (d : Contents) (spot : ℕ) → rest d ≡ refused k spot → ⊥
never-refused k d spot e = impossible cc

module _ (table_length : ℕ) (b : List ℕ) (bytes : Bytes b) where
  prunes : (c : Tally) (d : Contents) → JudgedAs table_length b c d → pruning table_length b ≡ value (bytes_of (pruned d))
  unfolding pruning
  prunes c d j = behind-judged table_length b bytes rest c d j

  abbrev Size : Tally → Contents → ℕ → Type 0
  Size c d n = n ≡ length (bytes_of (pruned d))

  sizes : (c : Tally) (d : Contents) → JudgedAs table_length b c d → (n : ℕ)
      → ((new : List ℕ) × (rest d ≡ value new) × (n ≡ length new)) ↔ Size c d n
  sizes c d j n = (
    (λ (new, e, size). let is : new ≡ bytes_of (pruned d) = cc in size ∙ ap length is),
    (λ size. (bytes_of (pruned d), refl, size)),
  )

  exactly : (room : ℕ) → PruneExactly table_length b room
  unfolding pruning
  exactly room = record {
    judged = λ k other. answer-judged table_length b bytes rest room k other (never-refused k);
    output_short = λ spot.
        let law = answer-short table_length b bytes rest room Size sizes (never-refused 3) spot in (
          (λ e. let (c, d, j, size, short) = law.0 e in (c, d, record { accepted = j; size = size }, short)),
          (λ (c, d, to, short). law.1 (c, d, to.accepted, to.size, short)),
        );
    result = λ n.
        let law = answer-given table_length b bytes rest room Size sizes n in (
          (λ e. let (c, d, j, size, fits) = law.0 e in (c, d, record { accepted = j; size = size }, fits)),
          (λ (c, d, to, fits). law.1 (c, d, to.accepted, to.size, fits)),
        );
    bytes = λ b'.
        let law = behind-value-exactly table_length b bytes rest b' in (
          (λ e.
              let (c, d, j, q) = law.0 e in
              let is : b' ≡ bytes_of (pruned d) = cc in
              (c, d, record { accepted = j; size = ap length is }, is)),
          (λ (c, d, to, is). law.1 (c, d, to.accepted, ap value (sym is))),
        );
    output = leaves-output (pruning table_length b) room;
  }

pub prune-exactly : (table_length : ℕ) (b : List ℕ) (room : ℕ) → Bytes b → PruneExactly table_length b room
prune-exactly table_length b room bytes = exactly table_length b bytes room

-- ---- What is left of the contents

module _ (d : Contents) (limits : InLimits d) (no_place : PlaceFields) (none : CertificateFields) where
  abbrev kept : ℕ → Bool
  kept = named d.certificates

  renumbers : (i : ℕ) → i < length d.certificates → get_or (pruned d).certificates i none ≡ renumbered kept (get_or d.certificates i none)
  unfolding pruned
  renumbers i h = get_d_map (renumbered kept) d.certificates i none none h

  weights_stay : (x : CertificateFields) → ((j : ℕ) → x ≡ kind0 j → ⊥) → renumbered kept x ≡ x
  unfolding renumbered
  weights_stay (kind0 j) other = absurd (other j refl)
  weights_stay (kind1 w) other = refl

  without_idle_lem : WithoutIdle d (pruned d) (rank kept) no_place none
  unfolding pruned renumbered
  without_idle_lem = record {
    edition = refl;
    events = refl;
    entries = refl;
    stays = λ j m. keep_at-at kept d.head.places j no_place (named-member d.certificates j m) (named-there d limits j m);
    only = λ i h.
        let (j, inside, passes, is) = keep_at-from kept d.head.places i h in
        (named→ (pruned d).certificates i (stays-named d limits i h), (j, named→ d.certificates j passes, is));
    order = λ j k m h.
        let next : rank kept (suc j) ≡ rank kept j + 1 = rank-next kept j ∙ ap (λ (t : Bool). rank kept j + cond t 1 0) (named-member d.certificates j m) in
        omega (arith, next, rank-more kept (suc j) k h);
    certificates = length-map d.certificates (renumbered kept);
    by_place = λ i j h e. renumbers i h ∙ ap (renumbered kept) e;
    by_weights = λ i h other. renumbers i h ∙ weights_stay (get_or d.certificates i none) other;
  }

-- ---- What it keeps

same-contained : (n m : ℕ) (one two : List Entry) → n ≡ m → one ≡ two → Contained n one m two
same-contained n m one two events same =
    subst (λ (l : List Entry). Contained n one m l) same (subst (λ (k : ℕ). Contained n one k one) events (contained-same n one))

module _ (b : List ℕ) (bytes : Bytes b) (size : ℕ) (c : Tally) (d : Contents) (yes' : verdict size b ≡ Ok c) (a : AcceptedAs b c d) where
  abbrev b' : List ℕ
  b' = bytes_of (pruned d)

  accepted' : AcceptedAs b' c (pruned d)
  accepted' = record {
    layout = refl;
    limits = pruned-limits d a.limits;
    accepted = pruned-accepted d a.accepted;
    counts = a.counts ∙ ap tally_of (sym (pruned-tally d a.accepted));
  }

  head : head_of b ≡ d.head
  head = accepted-head b bytes c d a

  events : events_in b' ≡ events_in b
  unfolding pruned
  events = same-events accepted' bytes a refl

  entries : entries_in b' ≡ entries_in b
  unfolding pruned
  entries = same_entries accepted' bytes a refl

  -- the first byte, which says the edition and n
  same_first : get_or b' 0 0 ≡ get_or b 0 0
  unfolding pruned bytes_of head_bytes front_bytes
  same_first = sym (ap (λ (l : List ℕ). get_or l 0 0) a.layout)

  back : LogContained b' b
  back = same-contained (events_in b') (events_in b) (entries_in b') (entries_in b) events entries

  compares : Compared b b' c c
  compares = compared b b' bytes (written-bytes accepted') size table_size c c yes' (written-verdict accepted' table_size (omega arith))
      (same-contained (events_in b) (events_in b') (entries_in b) (entries_in b') (sym events) (sym entries))

  permits-more : (w : Word) → T (permits (events_in b) (net_in b) w) → T (permits (events_in b') (net_in b') w)
  unfolding to_bundle prune
  permits-more w t =
      subst (λ (h : Head). T (permits h.events (to_net h) w)) (sym (written-head accepted'))
      (subst (λ (x : Bundle). T (permits x.events x.net w)) (sym (pruned-bundle d))
      (prune-more (to_bundle d) w (subst (λ (h : Head). T (permits h.events (to_net h) w)) head t)))

  keeps : Keeps b b' c
  unfolding pruned
  keeps = record {
    bytes = written-bytes accepted';
    accepted = written-verdict accepted';
    table = same-table accepted' bytes a refl;
    first = same_first;
    events = events;
    entries = entries;
    prefixes = λ w m e h. sym ((compares.longer w m e h).same back);
    permitted = λ w m e h.
        let longer = compares.longer w m e h in
        let same = longer.same back in (
          (λ p. longer.screened₁.permitted.1 (subst T (sym same) (longer.screened₂.permitted.0 p))),
          (λ p. longer.screened₂.permitted.1 (subst T same (longer.screened₁.permitted.0 p))),
        );
    stopped = λ w m e h t.
        let longer = compares.longer w m e h in
        let same = longer.same back in
        ((_, _, longer.screened₁.stopped t), (_, _, longer.screened₂.stopped (subst (λ (p : Bool). T (not p)) same t)));
    more = permits-more;
    twice = λ table_length long.
        let j : JudgedAs table_length b' c (pruned d) = record { judged = written-verdict accepted' table_length long; contents = accepted' } in
        prunes table_length b' (written-bytes accepted') c (pruned d) j
        ∙ ap (λ (x : Contents). value (bytes_of x)) (pruned-twice d a.limits);
    shorter = omega (arith, pruned-shorter d a.limits, ap length a.layout);
  }

pub keeps-all : (table_length : ℕ) (b : List ℕ) → Bytes b → (c : Tally) → verdict table_length b ≡ Ok c
    → (b' : List ℕ) → pruning table_length b ≡ value b' → Keeps b b' c
keeps-all table_length b bytes c yes' new e =
    let d = contents_of b in
    let j = judged_as table_length b bytes c yes' in
    let is : bytes_of (pruned d) ≡ new = let p = prunes table_length b bytes c d j in (cc) in
    subst (λ (l : List ℕ). Keeps b l c) is (keeps b bytes table_length c d yes' j.contents)

-- ---- The page

bundle-pruned : (b : Bundle) → T (accepted b) → BundlePruned b
unfolding prune
bundle-pruned b t = record {
  accepted = prune-accepted b t;
  counts = prune-tally b t;
  entries = refl;
  prefixes = prune-permits b t;
  more = prune-more b;
}

pub request_7 : Request7
request_7 = record {
  contents = λ d limits no_place none. (rank (named d.certificates), without_idle_lem d limits no_place none);
  keeps = keeps-all;
  bundles = bundle-pruned;
  nets = fewer-permits;
  sample = permitted-more;
}
