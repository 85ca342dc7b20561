use Rattle.std.proofs.Common.{arith, refl, ◌+◌, ◌∙◌, ◌≡◌, ◌≤◌, get_or}
use Rattle.std.specs.Prelude.{ℕ, Bool, true, false, cond}
use mir.Val.{bool_byte}
use Rattle.taking.specs.Prefixes.{adding, adding-at, adding-none, adding-more, adding-fits, adding-end}
use Rattle.taking.proofs.add_event.Goals as goal

pub loop-i-init : goal.loop-i-init
loop-i-init c = adding-none _ _

-- 1 for the event, else 0
one_if : (b : Bool) → ◌≡◌ {A = ℕ} (bool_byte b) (cond b 1 0)
one_if true = refl
one_if false = refl

pub overflow_add-count : goal.overflow_add-count
overflow_add-count c =
    let l = c.loop-i in
    let v = c.args.counts.now in
    let small : get_or (adding v c.args.e l.i) l.i 0 ≤ 65535 = rw adding-at (omega (arith, c.fits-counts l.i)) in
    let fits : get_or l.counts l.i 0 + c.from.result ≤ 65535 =
    rw l.invariant (adding-fits v c.args.e l.i _ (c.from.ensures ∙ one_if _) 65535 c.requires.1 small) in
    omega (arith, fits)

pub loop-i-preserved : goal.loop-i-preserved
loop-i-preserved c = rw c.loop-i.invariant (adding-more _ _ c.loop-i.i _ (c.from.ensures ∙ one_if _))

pub returns : goal.returns
returns c = c.loop-i.invariant ∙ adding-end _ _ c.requires.0 _ (omega arith)
