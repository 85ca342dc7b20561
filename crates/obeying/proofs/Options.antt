-- What `flatten` over a list of options gives: what is there, in order.
use Rattle.std.proofs.Common.{Iter, ◌≡◌, refl, sym, ap, ap₂, subst, ◌∙◌, Bool, true, false, cond, List, [], ◌∷◌, length, Option, Some, None, MatchBool, option_to_list, flat_map}
use denote.Ref.{Bor}
use Rattle.std.specs.declared.iter.Flatten.{Flatten}
use Rattle.std.specs.declared.option.Iter.{OptionIter}
use Rattle.std.specs.Slice.Iter.{iter_rest, iter_steps}
use Rattle.std.specs.Iterator.Adapters.{option_iter_item, option_iter_done, option_iter_steps, flatten_source, flatten_front, flatten_back, flatten_done, flatten_steps}
use Rattle.std.proofs.lemmas.Iterator.{YieldsList, YieldsList-from_slice}
use Rattle.std.proofs.lemmas.Iterator.Adapters.{YieldsList-from_flatten}
use Rattle.std.proofs.lemmas.Iterator.Consumers.{YieldsList-from_shown}
use Rattle.laws.specs.Booleans.{impossible}

module _ {A : Type 0} where
  -- what an option's iterator has left
  abbrev left : Bool → Option A → List A
  left done item = cond done [] (option_to_list item)

  left-none : (done : Bool) (item : Option A) → MatchBool done (◌≡◌ {A = Option (Bor A)} None None) (None ≡ item) → length (left done item) ≡ 0
  left-none true item h = refl
  left-none false item h = ap (λ (o : Option A). length (option_to_list o)) (sym h)

  left-some : (done : Bool) (item : Option A) (x : Bor A) → MatchBool done (Some x ≡ None) (Some x.now ≡ item) → left done item ≡ x.now ∷ []
  left-some true item x h = let apart : Some x ≡ None = h in impossible cc
  left-some false item x h = ap option_to_list (sym h)

  -- it gives that
  option_items : (s : OptionIter A) → YieldsList (option_iter_steps {A = A}) (λ y. y.now) s (left (option_iter_done s) (option_iter_item s))
  option_items = YieldsList-from_shown (option_iter_steps {A = A}) (λ y. y.now) (λ s. left (option_iter_done s) (option_iter_item s))
      (λ s t h. left-none (option_iter_done s) (option_iter_item s) h.1)
      (λ s x t h. left-some (option_iter_done s) (option_iter_item s) x h.1 ∙ ap (λ (b : Bool). x.now ∷ left b (option_iter_item t)) (sym h.0))

  -- what `into_iter` makes of an option: it has the option left
  abbrev pub Opens : (Bor (Option A) → OptionIter A → Type 0) → Type 0
  Opens becomes = (x : Bor (Option A)) (j : OptionIter A) → becomes x j → (option_iter_item j ≡ x.now) × (option_iter_done j ≡ false)

  -- a flattened list of options gives the elements of a list
  abbrev pub YieldsOptions : (Bor (Option A) → OptionIter A → Type 0) → Flatten (Iter (Option A)) (OptionIter A) → List A → Type 0
  YieldsOptions becomes = YieldsList (flatten_steps iter_steps becomes (option_iter_steps {A = A})) (λ y. y.now)

  -- which are those that are there
  pub options_yielded : {s : Flatten (Iter (Option A)) (OptionIter A)} (becomes : Bor (Option A) → OptionIter A → Type 0) → Opens becomes
      → (xs : List (Option A)) → iter_rest (flatten_source s) ≡ xs → flatten_front s ≡ None → flatten_back s ≡ None → flatten_done s ≡ false
      → YieldsOptions becomes s (flat_map option_to_list xs)
  options_yielded {s} becomes opens xs rest front back done =
      YieldsList-from_flatten becomes (option_iter_steps {A = A}) (λ y. y.now) option_to_list
      (λ x j b.
      let is = opens x j b in
      subst (λ (l : List A). YieldsList (option_iter_steps {A = A}) (λ y. y.now) j l) (ap₂ left is.1 is.0) (option_items j))
      (YieldsList-from_slice xs rest) front back done
