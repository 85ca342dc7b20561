use Rattle.std.proofs.Common.{◌≡◌, refl, sym, ap, ap₂, ◌∙◌, List, ℕ, ◌+◌, ◌<◌, length, get_or, ◌+ℤ◌, Fits, FitsSigned, to_z, of_z, length-append, rules, arith}
use Rattle.std.specs.Int.{w16, w64}
use Rattle.std.specs.List.{zip}
use Rattle.std.proofs.lemmas.Iterator.{YieldsList-from_slice, YieldsList-from_zip}
use Rattle.std.proofs.lemmas.Iterator.Consumers.{YieldsList-turn, YieldsList-end}
use Rattle.std.proofs.lemmas.List.{get_or_default}
use Rattle.std.proofs.lemmas.Slice.Zip.{length-zip, get_or-zip}
use mir.Facts.{to_z-of_z}
use Rattle.nets.specs.Nets.{tokens}
use Rattle.nets.specs.Surplus.{tokens-first, tokens-next}
use Rattle.places.specs.Machine.{place_of}
use Rattle.places.proofs.Bounds.{Small, tokens-held, tokens-fits}
use Rattle.places.proofs.Place.tokens.Goals as goal
use Rattle.places.proofs.Place.tokens.Goals.{After-gain-total, At-loop-count}

-- three lists side by side: the elements at an index
zipped : (a b d : List ℕ) (i x y z : ℕ) → i < length (zip (zip a b) d)
    → ◌≡◌ {A = (ℕ × ℕ) × ℕ} ((x, y), z) (get_or (zip (zip a b) d) i ((x, y), z))
    → (i < length b) × (x ≡ get_or a i 0) × (y ≡ get_or b i 0) × (z ≡ get_or d i 0)
zipped a b d i x y z within e =
    let h : i < length (zip a b) = omega (arith, length-zip (zip a b) d) in
    let ha : i < length a = omega (arith, length-zip a b) in
    let hb : i < length b = omega (arith, length-zip a b) in
    let hd : i < length d = omega (arith, length-zip (zip a b) d) in
    let whole = e ∙ get_or-zip (zip a b) d i ((x, y), z) h hd in
    let pair = ap (λ (p : (ℕ × ℕ) × ℕ). p.0) whole ∙ get_or-zip a b i (x, y) ha hb in (
      hb,
      ap (λ (p : ℕ × ℕ). p.0) pair ∙ get_or_default a i x 0 ha,
      ap (λ (p : ℕ × ℕ). p.1) pair ∙ get_or_default b i y 0 hb,
      ap (λ (p : (ℕ × ℕ) × ℕ). p.1) whole ∙ get_or_default d i z 0 hd,
    )

-- the arguments are 16-bit numbers
small : (c : At-loop-count) → Small (place_of c.args.self) c.args.counts.now
small c = record {
  initial = omega arith;
  produced = λ i. let f : Fits w16 (get_or c.args.self.produced i 0) = search rules in f.fits;
  consumed = λ i. let f : Fits w16 (get_or c.args.self.consumed i 0) = search rules in f.fits;
  counts = λ i. omega (arith, c.type_inv.counts i);
}

-- what a turn has at hand: the numbers of the next event
turn : (c : After-gain-total) → let i = length c.loop-count.yielded in
    (i < 12)
    × (c.in-Some.count.now ≡ get_or c.args.counts.now i 0)
    × (c.in-Some.produced.now ≡ get_or c.args.self.produced i 0)
    × (c.in-Some.consumed.now ≡ get_or c.args.self.consumed i 0)
turn c =
    let produced = YieldsList-from_slice c.args.self.produced (search rules) in
    let consumed = YieldsList-from_slice c.args.self.consumed (search rules) in
    let road = YieldsList-from_zip (YieldsList-from_zip (YieldsList-from_slice c.args.counts.now (search rules)) produced) consumed in
    let next = YieldsList-turn road c.loop-count.yielded _ c.loop-count.yielded_by _ c.next.new.self
    ((c.in-Some.count, c.in-Some.produced), c.in-Some.consumed) c.in-Some.is c.next.ensures.steps in
    let numbers = zipped _ _ _ _ _ _ _ next.0 next.1 in
    (omega (arith, numbers.0), numbers.1, numbers.2, numbers.3)

-- what it makes of the total
stepped : (c : After-gain-total) → to_z w64 c.loop-count.total-bits +ℤ to_z w64 (of_z w64 c.gain-total.result)
    ≡ tokens (length c.loop-count.yielded + 1) (place_of c.args.self) c.args.counts.now
stepped c =
    let numbers = turn c in
    let gained = to_z-of_z {w = w64} (record { sfits = c.gain-total.type_inv }) ∙ c.gain-total.ensures ∙ rw (numbers.1, numbers.2, numbers.3) refl in
    ap₂ ◌+ℤ◌ c.loop-count.invariant gained
    ∙ tokens-next (length c.loop-count.yielded) (place_of c.args.self) c.args.counts.now

fits : (c : After-gain-total) → FitsSigned w64 (tokens (length c.loop-count.yielded + 1) (place_of c.args.self) c.args.counts.now)
fits c = tokens-fits _ _ (small (goal.at.After-gain-total c).At-loop-count) (length c.loop-count.yielded + 1) (omega (arith, (turn c).0))

pub loop-count-init : goal.loop-count-init
loop-count-init c =
    to_z-of_z {w = w64} (record { sfits = c.from-total.type_inv }) ∙ c.from-total.ensures ∙ sym (tokens-first (place_of c.args.self) c.args.counts.now)

pub overflow_add-total : goal.overflow_add-total
overflow_add-total c = let here = (goal.at.overflow_add-total c).After-gain-total in rw (stepped here) (fits here)

pub loop-count-preserved : goal.loop-count-preserved
loop-count-preserved c =
    let here = (goal.at.loop-count-preserved c).After-gain-total in
    rw (stepped here, length-append) (to_z-of_z {w = w64} (fits here))

pub returns : goal.returns
returns c =
    let produced = YieldsList-from_slice c.args.self.produced (search rules) in
    let consumed = YieldsList-from_slice c.args.self.consumed (search rules) in
    let road = YieldsList-from_zip (YieldsList-from_zip (YieldsList-from_slice c.args.counts.now (search rules)) produced) consumed in
    let end = YieldsList-end road c.loop-count.yielded _ c.loop-count.yielded_by _ c.next.new.self c.in-None.is c.next.ensures.steps in
    let inner = length-zip c.args.counts.now c.args.self.produced in
    let outer = length-zip (zip c.args.counts.now c.args.self.produced) c.args.self.consumed in
    let all : length c.loop-count.yielded ≡ length c.args.counts.now = omega (arith, end.1, inner, outer) in
    let total = c.loop-count.invariant ∙ ap (λ (i : ℕ). tokens i (place_of c.args.self) c.args.counts.now) all in
    record {
      value = total;
      held = rw total (tokens-held (place_of c.args.self) c.args.counts.now (small (goal.at.returns c).At-loop-count) (length c.args.counts.now) (omega arith));
    }
