-- `arrivals::expand::fresh_before` meets its contract: the departures are gone through downwards. Assumes nothing.
use mathlib.Core.Bool.{true}
use mathlib.Core.Path.{◌≡◌, ◌∙◌, subst, sym}
use Prim.Native.Nat.{ℕ, ◌+◌, ◌-◌}
use native.Mathlib.Omega.{arith}
use Rattle.arrivals.specs.Inner.Network.{link_at, openb}
use Rattle.arrivals.specs.Inner.Pruning.{fresh_at, fresh-none}
use Rattle.arrivals.proofs.expand.fresh_before.Goals as goal

pub loop-a-init : goal.loop-a-init
loop-a-init c = c.requires.3

pub returns-then-a-here : goal.returns-then-a-here
returns-then-a-here c = fresh-none _ _ _

pub is_open-requires : goal.is_open-requires
is_open-requires c = (c.requires.0, c.requires.1, c.requires.2)

pub returns-then-is_open : goal.returns-then-is_open
returns-then-is_open c =
    let a = c.args in
    let e : c.loop-a.a - 1 ≡ c.loop-a.a - 1 + 1 - 1 = omega arith in
    fresh_at _ _ _ _ (omega arith) (omega (arith, c.loop-a.invariant)) (omega arith)
    (subst (λ (s : ℕ). openb (link_at a.net.now a.j) s ≡ true) e (sym c.is_open.ensures ∙ c.if-is_open.true)) c.requires.4

pub loop-a-preserved : goal.loop-a-preserved
loop-a-preserved c = omega (arith, c.loop-a.invariant)

pub returns : goal.returns
returns c = fresh-none _ _ _
