-- The page of request 12, proved: from the laws of the words that lead to an event.
use Rattle.std.specs.Prelude.{◌≡◌, refl, ◌↔◌, Option, Some, None, ℕ, zero, suc, ◌-◌, ◌≤◌, ◌<◌, length, take, drop, replicate, Ok}
use Rattle.std.proofs.Common.{sym, ap, ap₂, ◌∙◌, subst, arith, ⊎_elim, length-append}
use Rattle.std.proofs.Math.Seq.{take-append_seam, drop-append_seam}
use mathlib.Core.List.{List, [], ◌∷◌, ◌++◌}
use Rattle.laws.specs.Booleans.{impossible, lt_or_le}
use Rattle.laws.specs.Parts.{front}
use Rattle.refusals.specs.Results.{Result, value, refused}
use Rattle.refusals.specs.Exactly.{answers-exactly, refused-as}
use Rattle.nets.specs.Nets.{Word, Net}
use Rattle.nets.specs.Fits.{below_snoc, below-shorter}
use Rattle.nets.specs.Reaching.{reached}
use Rattle.nets.specs.WordOrder.{Earlier, earlier-asymmetric, earlier-irreflexive, earlier-total}
use Rattle.nets.proofs.Reaching.{first-found, none-found}
use Rattle.bundles.specs.Readers.{events_in, net_in}
use Rattle.screening.specs.Screening.{screened}
use Rattle.screening.specs.Screens.{Readable}
use Rattle.screening.specs.Joins.{read-exactly}
use Rattle.screening.proofs.JoinCauses.{empty-refused}
use Rattle.search.specs.Searching.{first_leading, reaching, size_of, word_left, sized, word_written, reached_of}
use Rattle.search.specs.Causes.{reach-own, reach_15, reach-gives, reached_refuses, sized_refuses, reach_numbers_lem}
use Rattle.search.specs.declared.Reached.{Reached}
use Rattle.demands.specs.Permitting.{permitted→, →permitted}
use Rattle.demands.specs.Reaching.{reach_answer, LeadsTo, FirstShortest, NoneLeads, ReachExactly, Request12}

-- ---- Words of the theory

unique : (n : ℕ) (net : Net) (wanted : ℕ) (w x : Word) → FirstShortest n net wanted w → FirstShortest n net wanted x → w ≡ x
unique n net wanted w x one two =
    let size : length w ≡ length x = omega (arith, one.shortest x two.leads, two.shortest w one.leads) in
    ⊎_elim
    (λ same. same)
    (λ other. ⊎_elim (λ h. absurd (two.first w size h one.leads)) (λ h. absurd (one.first x (sym size) h two.leads)) other)
    (earlier-total w x size)

-- ---- What is found

module _ (n : ℕ) (net : Net) (wanted : ℕ) (there : wanted < n) where
  from-theory : (w : Word) → first_leading n net wanted ≡ Some w → FirstShortest n net wanted w
  unfolding reached
  from-theory w is =
      let f = first-found n net wanted there 6 w is in
      record {
        few = omega (arith, f.short);
        leads = (f.below, f.leads);
        shortest = λ x (below, leads). ⊎_elim
            (λ short. ⊎_elim
            (λ same. omega (arith, ap length same))
            (λ before. ⊎_elim (λ less. omega (arith, less)) (λ (same, h). omega (arith, same)) before)
            (f.first x short below leads))
            (λ long. omega (arith, f.short, long))
            (lt_or_le (length x) 6);
        first = λ x size earlier (below, leads). ⊎_elim
            (λ same. earlier-irreflexive w (subst (λ (y : Word). Earlier y w) same earlier))
            (λ before. ⊎_elim (λ less. absurd (omega (arith, less, size))) (λ (same, h). earlier-asymmetric x w earlier h) before)
            (f.first x (omega (arith, size, f.short)) below leads);
      }

  none-leads : first_leading n net wanted ≡ None → NoneLeads n net wanted
  unfolding reached
  none-leads is x few (below, leads) = none-found n net wanted there 6 is x (omega (arith, few)) below leads

-- ---- The call

-- what an answer is made of
answer-of : (m : Result (Option Word)) (x : Reached) → reached_of m ≡ Ok x
    → (o : Option Word) × (m ≡ value o) × (x ≡ record { length = size_of o; word = word_left o (replicate 5 0) })
unfolding reached_of
answer-of (value o) x e = (o, refl, cc)
answer-of (refused number spot) x e = impossible cc

zeros-left : (l : ℕ) → l ≤ 5 → drop {A = ℕ} l (replicate 5 0) ≡ replicate (5 - l) 0
zeros-left zero h = refl
zeros-left (suc zero) h = refl
zeros-left (suc (suc zero)) h = refl
zeros-left (suc (suc (suc zero))) h = refl
zeros-left (suc (suc (suc (suc zero)))) h = refl
zeros-left (suc (suc (suc (suc (suc zero))))) h = refl
zeros-left (suc (suc (suc (suc (suc (suc l)))))) h = absurd (omega arith)

module _ (b : List ℕ) (wanted : ℕ) where
  abbrev n : ℕ
  n = events_in b

  abbrev net : Net
  net = net_in b

  -- the chain's value is the first word
  given : (x : Reached) → reach_answer b wanted ≡ Ok x → (o : Option Word) × (reaching b wanted ≡ value o) × Readable b [] × (wanted < n)
      × (o ≡ first_leading n net wanted) × (x ≡ record { length = size_of o; word = word_left o (replicate 5 0) })
  given x e =
      let (o, is, same) = answer-of (reaching b wanted) x e in
      let (read, (there, first)) = ((reach-gives b wanted).line o).0 is in
      (o, is, (read-exactly b).1 read, there, first, same)

  -- a word that was found
  record Word_in (x : Reached) (l : ℕ) : Type 0 where
    w : Word
    there : wanted < n
    readable : Readable b []
    chain : reaching b wanted ≡ value (Some w)
    first : FirstShortest n net wanted w
    size : l ≡ length w
    front_is : take l x.word ≡ w
    rest_is : drop l x.word ≡ drop l (replicate 5 0)

  word-in : (x : Reached) → reach_answer b wanted ≡ Ok x → (l : ℕ) → x.length ≡ Some l → Word_in x l
  unfolding size_of word_left front
  word-in x e l is =
      let (o, chain, readable, there, first, same) = given x e in
      go o chain first same
    where
      go : (o : Option Word) → reaching b wanted ≡ value o → o ≡ first_leading n net wanted
          → x ≡ record { length = size_of o; word = word_left o (replicate 5 0) } → Word_in x l
      go None chain first same = impossible cc
      go (Some w) chain first same =
          let (o, again, readable, there, _, _) = given x e in
          let size : l ≡ length w = cc in
          let word : x.word ≡ w ++ drop (length w) (replicate 5 0) = ap (λ (y : Reached). y.word) same in
          record {
            w = w;
            there = there;
            readable = readable;
            chain = chain;
            first = from-theory n net wanted there w (sym first);
            size = size;
            front_is = ap₂ (λ (k : ℕ) (y : List ℕ). take k y) size word ∙ take-append_seam w (drop (length w) (replicate 5 0));
            rest_is = ap₂ (λ (k : ℕ) (y : List ℕ). drop k y) size word ∙ drop-append_seam w (drop (length w) (replicate 5 0))
                ∙ ap (λ (k : ℕ). drop k (replicate 5 0)) (sym size);
          }

  -- screening it
  leads-screened : Readable b [] → wanted < n → (w : Word) → length w ≤ 5 → LeadsTo n net wanted w → screened b (w ++ wanted ∷ []) ≡ Ok None
  leads-screened readable there w few (below, permitted) = →permitted b (w ++ wanted ∷ []) (record {
    read = (read-exactly b).0 readable;
    short = omega (arith, few, length-append w (wanted ∷ []));
    below = (below_snoc n w wanted).1 (below, there);
    permits = permitted;
  })

  screened-leads : (w : Word) → screened b (w ++ wanted ∷ []) ≡ Ok None → LeadsTo n net wanted w
  screened-leads w e = let p = permitted→ b (w ++ wanted ∷ []) e in (below-shorter n w (wanted ∷ []) p.below, p.permits)

  -- none
  none-line : (x : Reached) → reach_answer b wanted ≡ Ok x → (x.length ≡ None) ↔ NoneLeads n net wanted
  unfolding size_of
  none-line x e =
      let (o, chain, readable, there, first, same) = given x e in
      (to o there first same, from o there first same)
    where
      to : (o : Option Word) → wanted < n → o ≡ first_leading n net wanted
          → x ≡ record { length = size_of o; word = word_left o (replicate 5 0) } → x.length ≡ None → NoneLeads n net wanted
      to None there first same q = none-leads n net wanted there (sym first)
      to (Some w) there first same q = impossible cc

      from : (o : Option Word) → wanted < n → o ≡ first_leading n net wanted
          → x ≡ record { length = size_of o; word = word_left o (replicate 5 0) } → NoneLeads n net wanted → x.length ≡ None
      from None there first same q = ap (λ (y : Reached). y.length) same
      from (Some w) there first same q = let f = from-theory n net wanted there w (sym first) in absurd (q w f.few f.leads)

  -- where there is none
  no-word : (x : Reached) → reach_answer b wanted ≡ Ok x → x.length ≡ None → (reaching b wanted ≡ value None) × (x.word ≡ replicate 5 0)
  unfolding size_of word_left
  no-word x e q =
      let (o, chain, readable, there, first, same) = given x e in
      go o chain same
    where
      go : (o : Option Word) → reaching b wanted ≡ value o → x ≡ record { length = size_of o; word = word_left o (replicate 5 0) }
          → (reaching b wanted ≡ value None) × (x.word ≡ replicate 5 0)
      go None chain same = (chain, ap (λ (y : Reached). y.word) same)
      go (Some w) chain same = impossible cc

  reach-exactly : ReachExactly b wanted
  unfolding sized word_written word_left size_of reached_of front
  reach-exactly = record {
    own = λ k listed spot.
        let line = answers-exactly reached_refuses (reach-own b wanted k listed) spot in
        let own = empty-refused b k spot in
        ((λ e. own.1 (line.0 e)), λ e. line.1 (own.0 e));
    no_event = λ spot.
        let line = answers-exactly reached_refuses (reach_15 b wanted) spot in (
          (λ e. let (read, (at, high)) = line.0 e in (at, (read-exactly b).1 read, high)),
          λ (at, readable, high). line.1 ((read-exactly b).0 readable, (at, high)),
        );
    answered = (
      (λ (x, e). let (o, chain, readable, there, first, same) = given x e in (readable, there)),
      λ (readable, there).
          let gives = (reach-gives b wanted).line (first_leading n net wanted) in
          (_, ap reached_of (gives.1 ((read-exactly b).0 readable, (there, refl)))),
    );
    found = λ x e l is.
        let f = word-in x e l is in
        let few : l ≤ 5 = omega (arith, f.size, f.first.few) in
        record {
          few = few;
          front = ap length f.front_is ∙ sym f.size;
          word = subst (FirstShortest n net wanted) (sym f.front_is) f.first;
          rest = f.rest_is ∙ zeros-left l few;
        };
    none = none-line;
    zeros = λ x e q. (no-word x e q).1;
    screened_so = λ x e l is.
        let f = word-in x e l is in
        ap (λ (w : Word). screened b (w ++ wanted ∷ [])) f.front_is ∙ leads-screened f.readable f.there f.w f.first.few f.first.leads;
    not_before = λ x e l is w before permitted.
        let f = word-in x e l is in
        let leads = screened-leads w permitted in
        ⊎_elim
        (λ less. absurd (omega (arith, less, f.size, f.first.shortest w leads)))
        (λ (same, earlier). f.first.first w (omega (arith, same, f.size)) (subst (Earlier w) f.front_is earlier) leads)
        before;
    size = λ x e.
        let (o, chain, readable, there, first, same) = given x e in
        ap sized chain ∙ ap (λ (y : Reached). Ok y.length) (sym same);
    size_refused = λ r. (
      (λ e. ap sized (refused-as reached_refuses (reaching b wanted) r e)),
      λ e. ap reached_of (refused-as sized_refuses (reaching b wanted) r e),
    );
    leaves = λ x e l is bytes.
        let f = word-in x e l is in
        ap (λ (m : Result (Option Word)). word_written m bytes) f.chain
        ∙ ap₂ (λ (w : Word) (k : ℕ). w ++ drop k bytes) (sym f.front_is) (sym f.size);
    leaves_none = λ x e q bytes. ap (λ (m : Result (Option Word)). word_written m bytes) (no-word x e q).0;
    refused = λ r e bytes. ap (λ (m : Result (Option Word)). word_written m bytes) (refused-as reached_refuses (reaching b wanted) r e);
  }

pub request_12 : Request12
request_12 = record { call = reach-exactly; refusals_of_reach = reach_numbers_lem; unique = unique }
