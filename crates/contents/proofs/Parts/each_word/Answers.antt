-- `contents::Parts::each_word` meets its contract: the words stand behind the first byte and their count.
use Rattle.std.proofs.Common.{◌≡◌, ap, ap₂, ◌∙◌, arith, ◌-◌, ◌≤◌, length, take, drop}
use mathlib.Core.List.{flat_map}
use Rattle.bundles.specs.Layout.{first_in, entry_bytes}
use Rattle.contents.specs.Contents.{contents_of, front-inside}
use Rattle.contents.specs.Words.{entries_of, whole, front-words, words-whole, words-are}
use Rattle.contents.specs.declared.Parts.{Parts}
use Rattle.contents.proofs.Parts.each_word.Goals as goal

long : (parts : Parts) → 2 ≤ length parts.front.now
long parts = omega (arith, (front-inside parts.judged).0, ap length parts.front_is)

words : (parts : Parts) → let h = (contents_of parts.bundle.now).head in
    take (length parts.front.now - 2) (drop 2 parts.front.now) ≡ flat_map (entry_bytes h.is_new) h.entries
words parts = front-words _ parts.front.now parts.front_is

pub slice_bounds-result-count : goal.slice_bounds-result-count
slice_bounds-result-count c = long c.args.self.now

pub slice_bounds-result-start : goal.slice_bounds-result-start
slice_bounds-result-start c = long c.args.self.now

pub invariant_of-result : goal.invariant_of-result
invariant_of-result c = let parts = c.args.self.now in record { whole = ap₂ whole parts.edition_is (words parts) ∙ words-whole _ _ }

pub returns : goal.returns
returns c =
    let parts = c.args.self.now in
    let h = (contents_of parts.bundle.now).head in
    ap₂ entries_of parts.edition_is (words parts) ∙ words-are (first_in h) h.entries parts.judged.limits.head.entries
