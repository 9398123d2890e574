-- `costs::less` meets its contract: each of the three figures that are left, with that of c, is h's. Assumes nothing.
use Rattle.std.specs.Prelude.{◌≡◌, ℕ, zero, suc, ◌-◌, ◌<◌}
use Rattle.std.proofs.Common.{rules, arith}
use Rattle.costs.specs.Costs.{Cost, fig, add}
use Rattle.costs.specs.Laws.Figures.{fig-add, length-add, is_same}
use Rattle.costs.proofs.less.Goals as goal

-- two costs have three figures in common
three : (a b : Cost) → fig a 0 ≡ fig b 0 → fig a 1 ≡ fig b 1 → fig a 2 ≡ fig b 2 → (k : ℕ) → k < 3 → fig a k ≡ fig b k
three a b p q r zero l = p
three a b p q r (suc zero) l = q
three a b p q r (suc (suc zero)) l = r
three a b p q r (suc (suc (suc k))) l = absurd (omega arith)

pub returns : goal.returns
returns c =
    let a = c.args in
    let r = c.from_fn.result in
    let p : fig r 0 ≡ fig a.h 0 - fig a.c 0 = search rules in
    let q : fig r 1 ≡ fig a.h 1 - fig a.c 1 = search rules in
    let s : fig r 2 ≡ fig a.h 2 - fig a.c 2 = search rules in
    let h = c.requires.every in
    let long = c.from_fn.ensures.items.long in (
      long,
      is_same 3 (add r a.c) a.h (length-add r a.c 3 long (search rules)) (search rules)
          (three (add r a.c) a.h (omega (arith, fig-add r a.c 0, h 0)) (omega (arith, fig-add r a.c 1, h 1)) (omega (arith, fig-add r a.c 2, h 2))),
    )
