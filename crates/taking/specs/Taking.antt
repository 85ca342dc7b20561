-- The loop that takes a word.
use Rattle.std.specs.Prelude.{◌≡◌, refl, List, [], ℕ, ◌+◌, ◌*◌, ◌<◌, ◌≤◌, length, get_or, drop}
use Rattle.std.proofs.Common.{sym, ap, ◌∙◌, arith, get_or-drop}
use Rattle.laws.specs.Parts.{drop_more}
use Rattle.limits.specs.Limits.{max_events}
use Rattle.rows.specs.Rows.{row_size, Row, rows_of, find_row, visit, follow, add_event, take_word, none, Holds}
use Rattle.rows.specs.Flat.{length-rows, held}
use Rattle.taking.specs.Prefixes.{Counted, counted_none, counted-add_event, take_again, take-end}
use Rattle.taking.specs.Numbering.{used, used-first, use_again}
use Rattle.rows.specs.Visiting.{length-visit, length-follow}
use Rattle.rows.specs.Growth.{visit_le}

-- after i events of w, whose prefixes have the rows ns: the table t₀ is t, with k rows, the prefix has the counts v, and the rest of the word
-- leads to the rows all
pub record Taking (t₀ w ns : List ℕ) (all : List Row) (t : List ℕ) (k : ℕ) (v : List ℕ) (i : ℕ) : Type 0 where
  pub passed : i ≤ length w
  pub counted : Counted v i
  pub size : length t ≡ length t₀
  pub room : row_size * k ≤ length t
  pub rest : drop (row_size * k) t ≡ drop (row_size * k) t₀
  pub leads : take_word (rows_of k t) v (drop i w) ≡ all
  pub noted : drop i ns ≡ used (rows_of k t) v (drop i w)

pub taking_none : (t₀ w ns : List ℕ) (k : ℕ) → row_size * k ≤ length t₀ → ns ≡ used (rows_of k t₀) none w → Taking t₀ w ns (take_word (rows_of k t₀) none w) t₀ k none 0
taking_none t₀ w ns k h noted =
    record { passed = omega arith; counted = counted_none; size = refl; room = h; rest = refl; leads = refl; noted = noted }

module _ (t₀ w ns : List ℕ) (all : List Row) (t : List ℕ) (k : ℕ) (v : List ℕ) (i : ℕ) (taking : Taking t₀ w ns all t k v i) where
  -- the row of the prefix
  pub taking_row : get_or ns i 0 ≡ find_row v (rows_of k t)
  taking_row =
      let same : i + 0 ≡ i = omega arith in
      ap (λ (j : ℕ). get_or ns j 0) (sym same) ∙ sym (get_or-drop i ns 0 0) ∙ ap (λ (l : List ℕ). get_or l 0 0) taking.noted ∙ used-first (rows_of k t) v (drop i w)

  -- there is room for the row of the prefix
  pub taking_room : (n : ℕ) → row_size * length all ≤ n → row_size * length (visit v (rows_of k t)) ≤ n
  taking_room n h =
      let le = visit_le (rows_of k t) v (drop i w) in
      let le' : length (visit v (rows_of k t)) ≤ length all = rw taking.leads at le in
      omega arith

  later : (k' : ℕ) (t' : List ℕ) → k' ≡ length (visit v (rows_of k t)) → drop (row_size * k') t' ≡ drop (row_size * k') t → drop (row_size * k') t' ≡ drop (row_size * k') t₀
  later k' t' n rest =
      let more = length-visit v (rows_of k t) in
      rest ∙ drop_more (row_size * k) (row_size * k') t t₀ (omega (arith, length-rows k t)) taking.rest

  -- a turn of the loop
  pub taking_again : (t' : List ℕ) (k' : ℕ) (v' : List ℕ) → i < length w → get_or w i 0 < max_events → length t' ≡ length t → row_size * length all ≤ length t
      → Holds k' (follow v (get_or w i 0) (visit v (rows_of k t))) t t' → v' ≡ add_event v (get_or w i 0)
      → Taking t₀ w ns all t' k' v' (i + 1)
  taking_again t' k' v' h event size room holds next =
      let n : k' ≡ length (visit v (rows_of k t)) = held _ _ _ _ holds ∙ simp length-follow in
      record {
        passed = omega arith;
        counted = rw next (counted-add_event v i (get_or w i 0) event taking.counted);
        size = size ∙ taking.size;
        room = omega (arith, taking_room (length t) room);
        rest = later k' t' n holds.rest;
        leads = take_again (rows_of k t) v v' w i all (rows_of k' t') taking.leads h holds.front next;
        noted = use_again (rows_of k t) v v' w i ns (rows_of k' t') taking.noted h holds.front next;
      }

  -- the last prefix
  pub taking_end : (t' : List ℕ) (k' : ℕ) → length w ≤ i → Holds k' (visit v (rows_of k t)) t t' → Holds k' all t₀ t'
  taking_end t' k' h holds =
      record { front = holds.front ∙ take-end (rows_of k t) v v w i all [] taking.leads h; rest = later k' t' (held _ _ _ _ holds) holds.rest }
