-- `contents::Parts::of` meets its contract.
use Rattle.std.proofs.Common.{◌≡◌, sym, ap, ◌∙◌, arith, ◌∷◌, drop}
use Rattle.bundles.specs.Layout.{First}
use Rattle.contents.specs.Contents.{front-inside, front-is}
use Rattle.contents.specs.Parts.{count-there, places-inside, count-is, size-is, places-are, certificates-are}
use Rattle.contents.proofs.Parts.of.Goals as goal
use Rattle.contents.proofs.Parts.of.Goals.{After-unwrap}

pub split_at-requires : goal.split_at-requires
split_at-requires c = omega (arith, c.front_length.ensures, (front-inside c.requires).1)

pub unwrap-requires : goal.unwrap-requires
unwrap-requires c = c.split_first.ensures.variant.1 (rw c.split_at.ensures.back (count-there c.requires c.front_length.ensures))

-- the count, and what is behind it
count : (c : After-unwrap) → drop c.front_length.result c.args.bundle.now ≡ c.unwrap.result.0.now ∷ c.unwrap.result.1.now
count c = let e = rw c.unwrap.ensures at c.split_first.ensures.cases in sym c.split_at.ensures.back ∙ e.0

pub split_at-requires-2 : goal.split_at-requires-2
split_at-requires-2 c =
    let n = ap (λ (f : First). f.events) c.first-first.ensures in
    rw (c.from-2.ensures, c.from.ensures)
    (places-inside c.requires c.front_length.ensures n _ _ (count (goal.at.split_at-requires-2 c).After-unwrap))

pub front_length-requires : goal.front_length-requires
front_length-requires c = record { judged = c.requires; edition = ap (λ (f : First). f.is_new) c.first-first.ensures }

pub invariant_of-result : goal.invariant_of-result
invariant_of-result c =
    let starts = c.front_length.ensures in
    let n = ap (λ (f : First). f.events) c.first-first.ensures in
    let rest = count (goal.at.invariant_of-result c).After-unwrap in
    record {
      judged = c.requires;
      front_is = c.split_at.ensures.front ∙ rw starts (front-is c.requires);
      count_is = count-is c.requires starts n _ _ rest;
      places_are = c.split_at-2.ensures.front ∙ rw (c.from-2.ensures, c.from.ensures) (places-are c.requires starts n _ _ rest);
      size_is = rw c.from.ensures (size-is c.requires starts n _ _ rest);
      edition_is = ap (λ (f : First). f.is_new) c.first-first.ensures;
      certificates_are = c.split_at-2.ensures.back ∙ rw (c.from-2.ensures, c.from.ensures) (certificates-are c.requires starts n _ _ rest);
    }
