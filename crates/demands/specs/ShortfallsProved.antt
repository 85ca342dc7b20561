-- The page of request 2, proved.
use Rattle.std.specs.Prelude.{◌≡◌, refl, List, [], ◌∷◌, ℕ, zero, suc, ◌≤◌, ◌<◌, length, take, drop, get_or, Ok, Some}
use Rattle.std.proofs.Common.{sym, ◌∙◌, arith, take-append-drop}
use Rattle.std.proofs.Math.Path.{ap, subst}
use mathlib.Core.List.Memᴰ
use Rattle.std.proofs.Math.IntN.{pos}
use Rattle.laws.specs.Booleans.{impossible}
use Rattle.laws.specs.Every.{Every, every_member}
use Rattle.laws.specs.Lists.{get_d_member}
use Rattle.laws.specs.Numbers.{Bytes}
use Rattle.nets.specs.Nets.{Word, Place, no_place, step_at, shortfall, shortfall_of}
use Rattle.nets.specs.Fits.{Below, below-shorter}
use Rattle.nets.proofs.Shortfall.{shortfall-none, shortfall-some, shortfall-lacking, shortfall-least, shortfall-earlier, fits-none, refused-short, refused-there, refused-place}
use Rattle.bundles.specs.Layout.{TwoBytes, PlaceInLimits, HeadInLimits, to_place, to_net}
use Rattle.bundles.specs.Readers.{head_of, events_in, net_in}
use Rattle.screening.specs.Screening.{screened}
use Rattle.screening.specs.Screens.{Readable, stopped-exactly, readable-below, readable-exactly, screenable-head}
use Rattle.stops.specs.declared.Stop.{Stop}
use Rattle.demands.specs.Shortfalls.{StopLacks, Request2}

pub two_bytes : (l : List ℕ) → Every TwoBytes l → (i : ℕ) → get_or l i 0 ≤ 65535
two_bytes [] v i = omega arith
two_bytes (x ∷ l) v zero = omega (arith, v.0)
two_bytes (x ∷ l) v (suc i) = two_bytes l v.1 i

module _ (b : List ℕ) (w : Word) (s : Stop) (is : screened b w ≡ Ok (Some s)) where
  readable : Readable b w
  readable r e = impossible (cc (sym is ∙ e))

  abbrev place : Place
  place = get_or (net_in b) s.place no_place

  -- out(e) of a place of the bundle
  out_number : Bytes b → s.place < length (net_in b) → place.consumed (get_or w s.position 0) ≤ 65535
  unfolding to_net to_place
  out_number bytes there =
      let found = (readable-exactly b bytes w).0 readable in
      let same = screenable-head b bytes w found.0 found.1 found.2 in
      let m = Memᴰ.of_map to_place (head_of b).places (get_d_member (net_in b) s.place no_place there) in
      let limits = every_member (PlaceInLimits (head_of b).events) (head_of b).places (subst HeadInLimits (sym same) found.2.front.limits).places m.1 in
      subst (λ (p : Place). p.consumed (get_or w s.position 0) ≤ 65535) m.2 (two_bytes m.0.consumed limits.consumed (get_or w s.position 0))

  stop-lacks : StopLacks b s place (take s.position w) (get_or w s.position 0)
  unfolding shortfall_of
  stop-lacks =
      let n = events_in b in
      let step = step_at n w s.position in
      let first = (stopped-exactly b w readable s).0 is in
      let refuses = first.0.refuses in
      let short : s.shortfall ≡ shortfall n place step = first.1 in
      let there = refused-there n (net_in b) s.place step refuses in
      let before = below-shorter n (take s.position w) (drop s.position w) (subst (Below n) (sym (take-append-drop s.position w)) (readable-below b w readable)) in
      let most : s.shortfall ≤ place.consumed (get_or w s.position 0) =
      subst (λ (k : ℕ). k ≤ place.consumed (get_or w s.position 0)) (sym short)
      (shortfall-earlier n (net_in b) (take s.position w) before first.0.before place (get_d_member (net_in b) s.place no_place there) (get_or w s.position 0)) in
      record {
        there = there;
        lacking = ap pos short ∙ shortfall-lacking n place step (refused-place n (net_in b) s.place step refuses);
        some = subst (λ (k : ℕ). 1 ≤ k) (sym short) ((refused-short n (net_in b) s.place step).0 refuses);
        most = most;
        number = λ bytes. omega (arith, most, out_number bytes there);
      }

pub request_2 : Request2
request_2 = record {
  place = λ n p s. record {
    lacking = shortfall-lacking n p s;
    some = shortfall-some n p s;
    none = shortfall-none n p s;
    least = shortfall-least n p s;
  };
  most = λ n p u below t e. shortfall-earlier n (p ∷ []) u below t p (Memᴰ.head refl) e;
  stopped = stop-lacks;
  fits = fits-none;
  refused = refused-short;
}
