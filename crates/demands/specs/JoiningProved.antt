-- The page of request 6, proved.
use Rattle.std.specs.Prelude.{refl, List, [], ◌∷◌, ℕ, T}
use Rattle.std.proofs.Common.{sym, ap, subst, length-append, get_or-append-add}
use Rattle.std.specs.Float.Ieee.Fits.{and_i, and_l, and_r}
use Rattle.std.proofs.Math.ListN.{get_or-append}
use Rattle.laws.specs.Lists.{all}
use Rattle.laws.specs.Numbers.{number_at}
use Rattle.limits.specs.Limits.{right_size}
use Rattle.refusals.specs.Results.{bind}
use Rattle.nets.specs.Nets.{Word, Net, no_place, words, event_count, permits}
use Rattle.nets.proofs.Joining.{permits-join, permits-order, permits-itself, join_grouped, stops_first, stops_second}
use Rattle.nets.proofs.Scaling.{permits-scaled-place, permits-scaled}
use Rattle.bundles.specs.Reading.{item_in, require, field, byte, number, each, onward}
use Rattle.bundles.specs.Layout.{to_place, to_net}
use Rattle.bundles.specs.Readers.{mark, entry_after, entry, place, places, head_after, to_first, first, head, bundle_size, bundle_head, read_head}
use Rattle.bundles.specs.Readers.{head_in, head_of}
use Rattle.screening.specs.JoinLaws.{NoPlaces, JoinOf}
use Rattle.screening.proofs.JoinLaws.{joined-permitted, joined-order, joined-itself, joined-whole, joined_grouped, joined-none, none-joined, joined-stop-first, joined-stop-second, joined-place}
use Rattle.screening.specs.ScalingLaws.{ScaledPlace, ScaledPlaces, screened-scaled-place, screened-scaled}
use Rattle.screening.proofs.ScalingLaws.{joined-alike}
use Rattle.demands.specs.Samples.{bytes_a, bytes_a', bytes_q, bytes_r}
use Rattle.demands.specs.Joining.{NetsJoined, CallJoined, Request6}

nets-joined : (n : ℕ) (w : Word) → NetsJoined n w
nets-joined n w = record {
  places = λ one two. length-append one two;
  place-first = λ one two j h. get_or-append one two no_place j h;
  place-second = λ one two j. get_or-append-add one two j no_place;
  both = λ one two.
      let law = permits-join n one two w in (
        (λ t. let t' = subst T law t in (and_l (permits n one w) (permits n two w) t', and_r (permits n one w) (permits n two w) t')),
        (λ (t, t'). subst T (sym law) (and_i (permits n one w) (permits n two w) t t')),
      );
  order = λ one two. permits-order n one two w;
  itself = λ net. permits-itself n net w;
  grouping = λ one two three. ap (λ (net : Net). permits n net w) (join_grouped one two three);
  scaled-numbers = λ k p. (refl, λ i. (refl, refl));
  scaled-place = λ k some before p behind. permits-scaled-place n k some before p behind w;
  scaled-all = λ k some net. permits-scaled n k some net w;
  stops_first = λ one two i j k stops h. stops_first n one two w i j k stops h;
  stops_second = λ one two i j k stops h. stops_second n one two w i j k stops h;
}

call-joined : (w : Word) → CallJoined w
call-joined w = record {
  both = λ first second. joined-permitted first second w;
  order = λ first second. joined-order first second w;
  itself = λ b. joined-itself b w;
  whole = λ first second whole j. joined-whole first second whole j w;
  grouping = λ a b c ab bc left right. joined_grouped a b c ab bc left right w;
  none-behind = λ b none no. joined-none b none no w;
  none_before = λ b none no. none-joined b none no w;
  scaled-place = λ k some b b' s. screened-scaled-place k some b b' s w;
  scaled-all = λ k some b b' s. screened-scaled k some b b' s w;
  scaled-joined = λ k some b b' other s. joined-alike b b' other s.same.events w (screened-scaled-place k some b b' s w);
  stops_first = λ first second s is h. joined-stop-first first second w s is h;
  stops_second = λ first second s is h. joined-stop-second first second w s is h;
  place = λ first second s is. joined-place first second w s is;
}

pub request_6 : Request6
request_6 = record { nets = nets-joined; call = call-joined }

-- ---- The premises can be met

-- the places of both sample bundles in one
unfoldable pub bytes_qr : List ℕ
bytes_qr =
    2 ∷ 0 ∷ 3 ∷ 0 ∷ 0 ∷ 0 ∷ 0 ∷ 0 ∷ 0 ∷ 1 ∷ 0 ∷ 0 ∷ 0
    ∷ 0 ∷ 0 ∷ 0 ∷ 0 ∷ 0 ∷ 0 ∷ 0 ∷ 0 ∷ 0 ∷ 0 ∷ 1 ∷ 0 ∷ 0 ∷ 0 ∷ 0 ∷ 0 ∷ 0 ∷ 0 ∷ 3 ∷ 0 ∷ []

-- joined, with no places, and with the second place of case A doubled
pub record PremisesMet : Type 0 where
  pub joined : JoinOf bytes_q bytes_r bytes_qr
  pub none : NoPlaces bytes_a (2 ∷ 0 ∷ 0 ∷ [])
  pub doubled : ScaledPlace 2 bytes_a bytes_a'
  pub all-doubled : ScaledPlaces 2 bytes_q (2 ∷ 0 ∷ 1 ∷ 0 ∷ 0 ∷ 0 ∷ 0 ∷ 0 ∷ 0 ∷ 2 ∷ 0 ∷ 0 ∷ 0 ∷ [])

pub premises_met : PremisesMet
unfolding bytes_a bytes_a' bytes_q bytes_r bytes_qr number_at all bind onward item_in require field byte number each to_place to_net words
    right_size mark entry_after entry place places head_after to_first first head bundle_size bundle_head read_head head_of head_in event_count
premises_met = record {
  joined = record { first_read = refl; second-read = refl; whole-read = refl; first-events = refl; second-events = refl; places = refl };
  none = record { read = refl; places = refl; events = λ read. refl };
  doubled = record {
    same = record { read = refl; read' = refl; events = refl };
    before = record { initial = 1; produced = 1 ∷ 0 ∷ []; consumed = 1 ∷ 1 ∷ [] } ∷ [];
    place = record { initial = 2; produced = 0 ∷ 0 ∷ []; consumed = 1 ∷ 0 ∷ [] };
    behind = [];
    places = refl;
    places' = refl;
  };
  all-doubled = record { same = record { read = refl; read' = refl; events = refl }; places = refl };
}
