-- A bundle's head that is read while the rows of its log are taken into a table.
use Rattle.std.specs.Prelude.{◌≡◌, Bool, Option, List, ℕ, ◌*◌, ◌≤◌, ◌<◌, length, get_or, take, drop, Ok, Err}
use Rattle.std.specs.Borrow.{Bor}
use Rattle.std.proofs.Props.{props}
use Rattle.std.proofs.Common.{sym, ap, ap₂, ◌∙◌, subst, arith, length-take-le}
use Rattle.laws.specs.Booleans.{impossible}
use Rattle.laws.specs.Numbers.{Bytes}
use Rattle.limits.specs.Limits.{max_rows}
use Rattle.refusals.specs.Answers.{Answer}
use Rattle.refusals.specs.Results.{value, refused, bind}
use Rattle.refusals.specs.declared.Refusal.{Refusal}
use Rattle.nets.specs.Nets.{Entry, words, event_count}
use Rattle.rows.specs.Rows.{row_size, rows_of, Holds}
use Rattle.logs.specs.Answers.{table_size}
use Rattle.logs.specs.Log.{log_rows}
use Rattle.bundles.specs.Reading.{Read, got, item, byte, following, onward}
use Rattle.bundles.specs.Layout.{PlaceFields, First, Head, words_in, LogBelowIn, rows_in}
use Rattle.bundles.specs.Readers.{first, anything, entry, places, head, rows_in_limit, head_of, log_in, head_after}
use Rattle.bundles.specs.PlaceReading.{Kept, end_of, kept_places, places_read}
use Rattle.bundles.specs.Keeping.{kept, behind}
use Rattle.bundles.specs.HeadReading.{HeadAt, head-failed, head-got, after-failed, words-failed, head-taken}
use Rattle.bundles.specs.declared.net.Net.{Net}
use Rattle.heads.specs.Noted.{Noted}
use Rattle.heads.specs.Taken.{Fresh, LogHeld, held-rest}
use Rattle.heads.specs.declared.Taken.{Taken}

-- the net is what the code keeps of the head of its bundle, and the table t has the rows of its log in front, which are so many; the bundle is of
-- bytes and the table of two-byte numbers
pub record HeadHeld (t : List ℕ) (net : Net) (row_count : ℕ) : Type 0 where
  pub found : HeadAt (kept net)
  pub below : LogBelowIn (head_of net.bundle.now)
  pub size : row_count ≡ length (rows_in (head_of net.bundle.now))
  pub few : row_count ≤ max_rows
  pub room : row_size * row_count ≤ length t
  pub table : rows_of row_count t ≡ log_rows (log_in net.bundle.now)
  pub bytes : Bytes net.bundle.now
  pub numbers : (i : ℕ) → get_or t i 0 < 65536

-- it has one proof at most
pub HeadHeld-prop : (t : List ℕ) (net : Net) (row_count : ℕ) → IsProp (HeadHeld t net row_count)
HeadHeld-prop t net row_count = hlevel props

-- the edition is that of the bundle's head, and of each of its words is noted what is to note of it
pub record HeadNoted (noted : List (Option ℕ)) (net : Net) (is_new : Bool) : Type 0 where
  pub edition : (head_of net.bundle.now).is_new ≡ is_new
  pub size : length noted ≡ length (head_of net.bundle.now).entries
  pub rows : Noted (head_of net.bundle.now).entries noted

pub HeadNoted-prop : (noted : List (Option ℕ)) (net : Net) (is_new : Bool) → IsProp (HeadNoted noted net is_new)
HeadNoted-prop noted net is_new = hlevel props

-- a head that was taken, with the rest of the table t₀ untouched; or its refusal, with the table changed in its first numbers only
abbrev pub HeadIs : Bor (List ℕ) → List ℕ → List ℕ → List (Option ℕ) → Answer Taken → Type 0
HeadIs bundle t₀ t noted (Ok taken) =
    (taken.net.bundle ≡ bundle)
    × (head rows_in_limit bundle.now 0 ≡ got (head_of bundle.now) (behind taken.net))
    × HeadHeld t taken.net taken.rows
    × HeadNoted (take taken.words noted) taken.net taken.is_new
    × Holds taken.rows (log_rows (log_in bundle.now)) t₀ t
HeadIs bundle t₀ t noted (Err r) = (head rows_in_limit bundle.now 0 ≡ refused r.number r.spot) × (drop table_size t ≡ drop table_size t₀)

-- places that the code has read
places-kept : (bundle : Bor (List ℕ)) (n : ℕ) (m : Read (List PlaceFields)) (net : Kept) (next : ℕ) → places_read bundle n m ≡ got net next
    → (ps : List PlaceFields) × (m ≡ got ps next) × (kept_places bundle n ps next ≡ net)
unfolding places_read
places-kept bundle n (value (item ps end)) net next e =
    let ends : end ≡ next = cc in
    (ps, ap (got ps) ends, ap (kept_places bundle n ps) (sym ends) ∙ (cc))
places-kept bundle n (refused number spot) net next e = impossible cc

places-refused : (bundle : Bor (List ℕ)) (n : ℕ) (m : Read (List PlaceFields)) {number spot : ℕ} → places_read bundle n m ≡ refused number spot
    → m ≡ refused number spot
unfolding places_read
places-refused bundle n (value (item ps next)) e = impossible cc
places-refused bundle n (refused number spot) e = (cc)

module _ (bundle : Bor (List ℕ)) (t₀ t : List ℕ) (noted : List (Option ℕ)) where
  abbrev b : List ℕ
  b = bundle.now

  pub first-refused : {r : Refusal} → first b 0 ≡ refused r.number r.spot → t ≡ t₀ → HeadIs bundle t₀ t noted (Err r)
  first-refused e same = (head-failed rows_in_limit b 0 e, ap (drop table_size) same)

  -- behind the first byte
  module _ {f : First} {at : ℕ} (said : first b 0 ≡ got f at) where
    pub count-refused : {r : Refusal} → byte anything b at ≡ refused r.number r.spot → t ≡ t₀ → HeadIs bundle t₀ t noted (Err r)
    count-refused e same = (head-got rows_in_limit b 0 said ∙ after-failed rows_in_limit b f at e, ap (drop table_size) same)

    -- and the word count
    module _ {count start : ℕ} (counted : byte anything b at ≡ got count start) where
      pub log-refused : {r : Refusal} → following count (entry (rows_in_limit f.events) f) b start ≡ refused r.number r.spot
          → drop table_size t ≡ drop table_size t₀
          → HeadIs bundle t₀ t noted (Err r)
      log-refused e same = (head-got rows_in_limit b 0 said ∙ words-failed rows_in_limit b f at counted e, same)

      -- and the log
      module _ {row_count end : ℕ} (entries : List Entry) (logged : following count (entry (rows_in_limit f.events) f) b start ≡ got entries end)
          (held : LogHeld f.events (words entries) t₀ t row_count (event_count (words entries))) where
        pub places-missing : {r : Refusal} → places_read bundle f.events (places f.events b end) ≡ refused r.number r.spot
            → HeadIs bundle t₀ t noted (Err r)
        unfolding head_after bind onward
        places-missing e =
            (head-got rows_in_limit b 0 said ∙ rw (counted, logged, places-refused bundle f.events (places f.events b end) e), held-rest held)

        abbrev whole : List PlaceFields → Head
        whole ps = record { is_new = f.is_new; events = f.events; entries = entries; places = ps }

        read_whole : {ps : List PlaceFields} {next : ℕ} → places f.events b end ≡ got ps next → head rows_in_limit b 0 ≡ got (whole ps) next
        unfolding head_after bind onward
        read_whole e = head-got rows_in_limit b 0 said ∙ rw (counted, logged, e)

        pub places-taken : Fresh t₀ → Bytes b → ((i : ℕ) → get_or t i 0 < 65536)
            → length entries ≡ count → Noted entries (take count noted) → count ≤ length noted
            → (net : Net) (next : ℕ) → places_read bundle f.events (places f.events b end) ≡ got (kept net) next
            → HeadIs bundle t₀ t noted (Ok (record { is_new = f.is_new; words = count; net = net; rows = row_count }))
        places-taken fresh bytes numbers size listed room net next e =
            let k = places-kept bundle f.events (places f.events b end) (kept net) next e in
            let h : Head = whole k.0 in
            let found = head-taken rows_in_limit bundle h next (read_whole k.1) in
            let is = sym found.0 in
            let same : net.bundle ≡ bundle = ap (λ (q : Kept). q.bundle) (sym k.2) in
            let ends : behind net ≡ next = subst (λ (q : Kept). end_of q ≡ next) k.2 found.2 in
            let here : head_of bundle.now ≡ head_of net.bundle.now = ap (λ (x : Bor (List ℕ)). head_of x.now) (sym same) in
            let there : h ≡ head_of net.bundle.now = is ∙ here in (
              same,
              read_whole k.1 ∙ ap₂ got is (sym ends),
              record {
                found = subst HeadAt k.2 found.1;
                below = subst (λ (x : Head). LogBelowIn x) there held.below;
                size = subst (λ (x : Head). row_count ≡ length (rows_in x)) there held.size;
                few = held.few;
                room = omega (arith, held.few, held.same, fresh.long);
                table = subst (λ (x : Head). rows_of row_count t ≡ log_rows (words_in x)) there held.holds.front;
                bytes = subst (λ (x : Bor (List ℕ)). Bytes x.now) (sym same) bytes;
                numbers = numbers;
              },
              record {
                edition = ap (λ (x : Head). x.is_new) (sym there);
                size = length-take-le count noted room ∙ sym size ∙ ap (λ (x : Head). length x.entries) there;
                rows = subst (λ (x : Head). Noted x.entries (take count noted)) there listed;
              },
              subst (λ (x : Head). Holds row_count (log_rows (words_in x)) t₀ t) is held.holds,
            )
