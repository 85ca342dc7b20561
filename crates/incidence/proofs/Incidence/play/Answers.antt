-- `incidence::Incidence::play` meets its contract.
use Rattle.std.proofs.Common.{rules, ◌≡◌, true, sym, ap, ap₂, ◌∙◌, subst, arith, ◌+◌, ◌-◌, ◌≤◌, ◌<◌, T, ℕ, ℤ, pos, ◌+ℤ◌, ◌-ℤ◌, w64, to_z, of_z, get_or, length, List, ◌++◌, drop, eqb, ext_get_or, length-take, length-take-le}
use Rattle.std.specs.Prelude.{◌↔◌}
use Rattle.std.specs.Int.Signed.{non_neg}
use mir.Facts.{to_z_pos, to_z-of_z}
use Rattle.std.proofs.lemmas.List.{get_or_append_left}
use Rattle.laws.specs.Differences.{difference, non_neg_difference, pos_of_difference, negative-tested}
use Rattle.laws.specs.Lists.{each_next, each_set}
use Rattle.laws.specs.Parts.{front}
use Rattle.places.specs.Machine.{Held, held}
use Rattle.places.proofs.Signed.{or-sign}
use Rattle.nets.specs.Nets.{Net}
use Rattle.nets.specs.Carrying.{taken_from, put_into, AllEnough, tokens_behind}
use Rattle.incidence.specs.Incidence.{places_in}
use Rattle.incidence.specs.IncidenceLaws.{in-count, taken-in, put-in, moves-exactly, behind-at, behind-length}
use Rattle.incidence.proofs.Incidence.play.Goals as goal
use Rattle.incidence.proofs.Incidence.play.Goals.{At-loop-j, After-cast_unsigned}

-- the turn is of a place
inside : (c : After-cast_unsigned) → c.loop-j.j < c.args.self.now.count
inside c = omega (arith, c.loop-j-test.true, length-take c.args.self.now.count c.args.behind.now)

module _ (c : After-cast_unsigned) where
  abbrev net : Net
  net = places_in c.args.self.now

  abbrev j : ℕ
  j = c.loop-j.j

  abbrev token : ℕ
  token = get_or c.args.tokens.now j 0

  abbrev taken : ℕ
  taken = taken_from net c.args.tokens.now c.args.event j

  abbrev put : ℕ
  put = put_into net c.args.tokens.now c.args.event j

  few : token + 65535 ≤ 4294901760
  few = c.requires.0 j (inside c)

  small : put ≤ 65535
  small =
      let is : c.from.result ≡ pos put = c.from.ensures ∙ ap pos (sym (put-in c.args.self.now c.args.tokens.now c.args.event j (inside c))) in
      search rules

  surplus-is : c.surplus-left.result ≡ pos token -ℤ pos taken
  surplus-is =
      c.surplus-left.ensures
      ∙ ap₂ (λ (z : ℤ) (k : ℕ). z -ℤ pos k) (to_z_pos w64 (omega (arith, few)))
      (sym (taken-in c.args.self.now c.args.tokens.now c.args.event j (inside c)))

  -- its sign says whether the place has enough
  sign : T (non_neg c.surplus-left.result) ↔ (taken ≤ token)
  sign = subst (λ (z : ℤ). T (non_neg z) ↔ (taken ≤ token)) (sym (surplus-is ∙ difference token taken)) (non_neg_difference token taken)

  -- and then the tokens behind the event are written
  written : taken ≤ token → c.cast_unsigned.result ≡ token - taken + put
  written enough =
      let left = to_z-of_z {w = w64} (record { sfits = c.surplus-left.type_inv }) ∙ surplus-is ∙ difference token taken
      ∙ pos_of_difference token taken enough in
      let more = to_z-of_z {w = w64} (record { sfits = c.from.type_inv }) ∙ c.from.ensures
      ∙ ap pos (sym (put-in c.args.self.now c.args.tokens.now c.args.event j (inside c))) in
      c.cast_unsigned.ensures ∙ ap (λ (z : ℤ). of_z w64 (to_z w64 (of_z w64 z))) (ap₂ ◌+ℤ◌ left more)
      ∙ ap (of_z w64) (to_z-of_z {w = w64} {z = pos (token - taken + put)} (record { sfits = omega (arith, few, small) }))

pub surplus-left-requires : goal.surplus-left-requires
surplus-left-requires c =
    let token = get_or c.args.tokens.now c.loop-j.j 0 in
    let there : c.loop-j.j < c.args.self.now.count = omega (arith, c.loop-j-test.true, length-take c.args.self.now.count c.args.behind.now) in
    let few : token + 65535 ≤ 4294901760 = c.requires.0 c.loop-j.j there in
    subst Held (sym (to_z_pos w64 (omega (arith, few))))
    (held token 0 (omega (arith, few)) (omega arith) (sym (pos_of_difference token 0 (omega arith) ∙ ap pos (omega arith))))

pub loop-j-preserved : goal.loop-j-preserved
loop-j-preserved c =
    let net = places_in c.args.self.now in
    let ts = c.args.tokens.now in
    let e = c.args.event in
    let both = or-sign c.loop-j.all-bits c.surplus-left.result (record { sfits = c.surplus-left.type_inv }) in
    let before = c.loop-j.invariant.0 in (
      (
        (λ t. each_next (λ (i : ℕ). taken_from net ts e i ≤ get_or ts i 0) c.loop-j.j (before.0 (both.0 t).0) ((sign c).0 (both.0 t).1)),
        λ each. both.1 (before.1 (λ i h. each i (omega (arith, h))), (sign c).1 (each c.loop-j.j (omega arith))),
      ),
      each_set 0 (λ i x. taken_from net ts e i ≤ get_or ts i 0
          → (x ≡ get_or ts i 0 - taken_from net ts e i + put_into net ts e i) × (x ≤ get_or ts i 0 + 65535)) c.loop-j.next-items c.loop-j.j _
          (omega arith) c.loop-j.invariant.1 (λ enough. (written c enough, omega (arith, written c enough, small c))),
    )

pub returns : goal.returns
unfolding front
returns c =
    let b = c.args.self.now in
    let net = places_in b in
    let ts = c.args.tokens.now in
    let e = c.args.event in
    let all = c.loop-j.invariant in
    let sign = sym (negative-tested (to_z w64 c.loop-j.all-bits)) ∙ ap (λ (k : ℕ). eqb k 0) (sym c.shortfall.ensures) in
    let long = length-take-le b.count c.args.behind.now (omega (arith, b.few, c.told-behind)) in
    let size : length c.loop-j.next-items ≡ b.count = c.loop-j.auto.next-items ∙ long in
    let end : b.count ≤ c.loop-j.j = omega (arith, c.loop-j-test.false, long) in
    let exact : T (non_neg (to_z w64 c.loop-j.all-bits)) ↔ AllEnough net ts e = (
      (λ t i h. all.0.0 t i (omega (arith, h, in-count b, end))),
      λ each. all.0.1 (λ i h. each i (omega (arith, h, in-count b, c.loop-j.auto.j-end, size))),
    ) in
    let enough = λ (done : eqb c.shortfall.result 0 ≡ true). exact.0 (subst T (sym (sign ∙ done)) tt) in
    let behind = behind-length net ts e ∙ in-count b in
    record {
      is = sym sign ∙ moves-exactly net ts e (non_neg (to_z w64 c.loop-j.all-bits)) exact;
      behind = λ done.
          let each = enough done in
          let same = ext_get_or 0 c.loop-j.next-items (tokens_behind net ts e) (size ∙ sym behind) (λ i h.
          let there : i < b.count = omega (arith, h, size) in
          let low : i < length net = omega (arith, there, in-count b) in
          (all.1 i (omega (arith, there, end)) (each i low)).0 ∙ sym (behind-at net ts e i low)) in
          ap₂ (λ (l : List ℕ) (k : ℕ). l ++ drop k c.args.behind.now) same (sym behind);
      most = λ done i h. subst (λ (x : ℕ). x ≤ get_or ts i 0 + 65535)
          (sym (get_or_append_left c.loop-j.next-items _ 0 i (omega (arith, h, size))))
          (all.1 i (omega (arith, h, end)) (enough done i (omega (arith, h, in-count b)))).1;
    }
