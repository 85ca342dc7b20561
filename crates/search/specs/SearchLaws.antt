-- The exits of the search, each with what the definition gives there.
use Rattle.std.specs.Prelude.{◌≡◌, refl, true, false, List, [], ◌∷◌, Option, Some, None, ℕ, suc, ◌≤◌, ◌<◌, ltb, replicate, Ok, Err}
use Rattle.std.proofs.Common.{true≢false, sym, ap, ap₂, ◌∙◌, arith, lt-ltb, le-ltb}
use Rattle.laws.specs.Booleans.{impossible}
use Rattle.limits.specs.Limits.{max_reach_events}
use Rattle.refusals.specs.Table.{word_event_number}
use Rattle.refusals.specs.Results.{Result, value, refused, bind, require}
use Rattle.refusals.specs.Answers.{refusal}
use Rattle.refusals.specs.declared.Refusal.{Refusal}
use Rattle.nets.specs.Nets.{Word, Net}
use Rattle.nets.specs.Carrying.{initials, Played, moved, lacking, play}
use Rattle.laws.specs.Firsts.{first_of, first-numbered, none-numbered}
use Rattle.nets.specs.Reaching.{where_moved, leading, all_leading, reached}
use Rattle.bundles.specs.Layout.{to_net}
use Rattle.bundles.specs.Readers.{read_head, head_of, net_in}
use Rattle.bundles.specs.NetReading.{NetOf}
use Rattle.bundles.specs.declared.net.Net as bundle
use Rattle.engine.specs.Playing.{places_of}
use Rattle.stops.specs.Searching.{net-is}
use Rattle.incidence.specs.Incidence.{moves}
use Rattle.search.specs.Searching.{first_leading, reaching, size_of, sized, word_written, reached_of}

-- ---- Word by word

module _ (n : ℕ) (net : Net) (wanted : ℕ) where
  abbrev pub first_sized : ℕ → Option Word
  first_sized d = first_of (leading n net wanted d (initials net))

  pub found-sized : (d : ℕ) → d ≤ max_reach_events → ((i : ℕ) → i < d → first_sized i ≡ None)
      → (w : Word) → first_sized d ≡ Some w → first_leading n net wanted ≡ Some w
  unfolding reached all_leading
  found-sized d h before w q = first-numbered (λ d. leading n net wanted d (initials net)) _ (λ d. d) d (omega arith) before w q

  pub none-sized : ((d : ℕ) → d < suc max_reach_events → first_sized d ≡ None) → first_leading n net wanted ≡ None
  unfolding reached all_leading
  none-sized none = none-numbered (λ d. leading n net wanted d (initials net)) _ (λ d. d) none

  -- the empty word
  module _ (ts : List ℕ) where
    pub empty-first : moves (play net ts wanted) ≡ true → first_of (leading n net wanted 0 ts) ≡ Some []
    unfolding leading where_moved first_of moves
    empty-first e = go (play net ts wanted) e
      where
        go : (p : Played) → moves p ≡ true → first_of (where_moved {A = Word} p (λ us. [] ∷ [])) ≡ Some []
        go (moved us) q = refl
        go (lacking j k) q = absurd (true≢false (sym q))

    pub empty-none : moves (play net ts wanted) ≡ false → first_of (leading n net wanted 0 ts) ≡ None
    unfolding leading where_moved first_of moves
    empty-none e = go (play net ts wanted) e
      where
        go : (p : Played) → moves p ≡ false → first_of (where_moved {A = Word} p (λ us. [] ∷ [])) ≡ None
        go (moved us) q = absurd (true≢false q)
        go (lacking j k) q = refl

-- ---- The chain

module _ (b : List ℕ) (wanted : ℕ) where
  pub reach_unread : (r : Refusal) → read_head b ≡ refused r.number r.spot → reaching b wanted ≡ refused r.number r.spot
  unfolding reaching bind
  reach_unread r e = rw e

  module _ (net : bundle.Net) (is : NetOf b net) where
    same_net : to_net (head_of b) ≡ places_of net
    same_net = ap net_in (sym is.same) ∙ net-is is.found

    pub reach_no_event : net.n ≤ wanted → reaching b wanted ≡ refused word_event_number 0
    unfolding reaching bind require
    reach_no_event h = rw (is.read, is.events, le-ltb wanted net.n h)

    pub reach_searched : wanted < net.n → reaching b wanted ≡ value (first_leading net.n (places_of net) wanted)
    unfolding reaching bind require
    reach_searched h = rw is.read (
        ap₂ (λ (n : ℕ) (places : Net). bind (require (ltb wanted n) word_event_number 0) (λ u. value (first_leading n places wanted)))
        is.events same_net
        ∙ rw (lt-ltb wanted net.n h) refl)

-- ---- The answers

pub sized-err : (m : Result (Option Word)) (r : Refusal) → Err r ≡ sized m → Err r ≡ reached_of m
unfolding sized reached_of
sized-err (value o) r e = impossible cc
sized-err (refused n s) r e = let same : r ≡ refusal n s = cc in ap (λ (x : Refusal). Err x) same

pub sized-ok : (m : Result (Option Word)) (length : Option ℕ) (word : List ℕ) → Ok length ≡ sized m
    → word ≡ word_written m (replicate max_reach_events 0) → Ok (record { length = length; word = word }) ≡ reached_of m
unfolding sized word_written reached_of
sized-ok (value o) length word e is =
    let same : length ≡ size_of o = cc in
    ap₂ (λ (k : Option ℕ) (w : List ℕ). Ok (record { length = k; word = w })) same is
sized-ok (refused n s) length word e is = impossible cc
