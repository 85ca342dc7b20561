-- Flags of rows: none are set, one more is set; and testing each flagged row below n is testing the rows.
use Rattle.std.specs.Prelude.{◌≡◌, refl, Bool, true, false, not, ◌||◌, ℕ, ◌<◌, length, get_or, set, replicate, All, Contains, Decides}
use Rattle.std.proofs.Common.{sym, ap, ◌∙◌, subst, arith, ⊎_elim, get_or-set_same, get_or-set_other, true≢false}
use mathlib.Core.List.{List, [], ◌∷◌, ◌++◌}
use Rattle.std.specs.List.{AllPass, list_all, range_with_len}
use Rattle.std.proofs.Math.Decide.{ℕ_discrete}
use Rattle.std.proofs.lemmas.Bool.Decides.{same_from_decides}
use Rattle.std.proofs.lemmas.List.Elements.{All-get_or, All-weaker, All-contains, All-contains_itself, Contains-append_left, Contains-push, Contains-push_cases}
use Rattle.std.proofs.lemmas.List.FromFn.{length-range_with_len, get_or-range_with_len}
use Rattle.std.proofs.lemmas.List.Sums.{AllPass-from_list_all, list_all-from_AllPass}
use Rattle.laws.specs.Lists.{get_d_copies}
use Rattle.obeying.specs.Obeying.{Flags}

pub flags-none : (n : ℕ) → Flags [] (replicate n false)
flags-none n = record { each = λ r. (λ e. absurd (true≢false (sym e ∙ get_d_copies n r false)), λ (k, few, is). absurd (omega (arith, few))) }

pub flags-more : {rows : List ℕ} {flags : List Bool} → Flags rows flags → (y : ℕ) → y < length flags → Flags (rows ++ y ∷ []) (set flags y true)
flags-more {rows} {flags} held y few = record { each = λ r. go r (ℕ_discrete r y) }
  where
    go : (r : ℕ) → Dec (r ≡ y) → Decides (get_or (set flags y true) r false) (Contains (rows ++ y ∷ []) r)
    go r (yes same) =
        (λ e. rw same (Contains-push rows y), λ here. rw same (get_or-set_same flags y true false few))
    go r (no other) =
        let kept = get_or-set_other flags y r true false other in (
          λ e. Contains-append_left rows (y ∷ []) r ((held.each r).0 (sym kept ∙ e)),
          λ here. kept ∙ (held.each r).1 (⊎_elim (λ h. h) (λ is. absurd (other (sym is))) (Contains-push_cases rows y r here)),
        )

-- a row that is not flagged passes untested
abbrev pub flagged : List Bool → (ℕ → Bool) → ℕ → Bool
flagged flags test r = not (get_or flags r false) || test r

-- a test of the flagged rows below n is one of the rows
module _ {rows : List ℕ} {flags : List Bool} (held : Flags rows flags) (n : ℕ) (inside : All (λ r. r < n) rows) (test : ℕ → Bool) where
  abbrev below : List ℕ
  below = range_with_len 0 n

  abbrev passes : ℕ → Bool
  passes = flagged flags test

  pub flags-tested : list_all (flagged flags test) (range_with_len 0 n) ≡ list_all test rows
  flags-tested =
      same_from_decides (list_all passes below) (list_all test rows) (to, from) (AllPass-from_list_all test rows, list_all-from_AllPass test rows)
    where
      at_row : AllPass passes below → (r : ℕ) → Contains rows r → test r ≡ true
      at_row all r here =
          let few : r < n = All-contains (λ k. k < n) rows r inside here in
          let there = All-get_or (λ k. passes k ≡ true) below r 0 (omega (arith, few, length-range_with_len 0 n)) all in
          let is : get_or below r 0 ≡ r = omega (arith, get_or-range_with_len 0 n r 0 few) in
          sym (ap (λ (b : Bool). not b || test r) ((held.each r).1 here)) ∙ subst (λ (k : ℕ). passes k ≡ true) is there

      to : list_all passes below ≡ true → AllPass test rows
      to e = All-weaker (Contains rows) (λ r. test r ≡ true) (at_row (AllPass-from_list_all passes below e)) rows (All-contains_itself rows)

      at_flag : AllPass test rows → (r : ℕ) (b : Bool) → get_or flags r false ≡ b → (not b || test r) ≡ true
      at_flag all r true e = All-contains (λ k. test k ≡ true) rows r all ((held.each r).0 e)
      at_flag all r false e = refl

      from : AllPass test rows → list_all passes below ≡ true
      from all = list_all-from_AllPass passes below (λ k d few. at_flag all (get_or below k d) (get_or flags (get_or below k d) false) refl)
