-- `journeys::front::put_cost` meets its contract. Assumes nothing.
use mathlib.Core.Path.{◌≡◌, sym, ◌∙◌, ap, ap₂}
use mathlib.Core.List.{List, [], ◌∷◌, ◌++◌}
use Prim.Native.Nat.{ℕ, ◌+◌, ◌*◌, ◌-◌, ◌≤◌}
use native.Mathlib.Omega.{arith}
use lib.ListN.{length, set, take, drop}
use lib.Seq.{sets}
use borrow.Author.Rules.{rules}
use borrow.Rule.Slice.PartMut.{put_mid}
use Rattle.std.proofs.Common.{append_assoc}
use Rattle.std.proofs.lemmas.List.{drop-drop}
use Rattle.std.proofs.lemmas.List.Edits.{sets-eq}
use Rattle.sheet.specs.Laws.Stores.{sets-append}
use Rattle.journeys.proofs.front.put_cost.Goals as goal

-- a part of a list copied from v
copied : (n m : ℕ) (l v w : List ℕ) → length v ≡ m - n → n ≤ m → m ≤ length l → w ≡ v → put_mid n (m - n) l w ≡ sets l n v
copied n m l v w k h i e =
    let z : n + (m - n) ≡ n + length v = omega (arith, k) in
    let rest : drop (m - n) (drop n l) ≡ drop (n + length v) l = drop-drop (m - n) n l ∙ ap (λ (j : ℕ). drop j l) z in
    ap₂ (λ (y r : List ℕ). take n l ++ (y ++ r)) e rest
    ∙ sym (append_assoc (take n l) v (drop (n + length v) l))
    ∙ sym (sets-eq v l n (omega (arith, k)))

pub returns : goal.returns
returns c =
    let a = c.args in
    let at = a.i * 4 in
    let three : length a.cost ≡ 3 = search rules in
    let e = copied at (at + 3) a.list.now a.cost c.copy_from_slice.new.self (omega (arith, three)) (omega arith) (omega arith) c.copy_from_slice.ensures.after in
    ap (λ (l : List ℕ). set l (at + 3) a.step.0) e
    ∙ ap (λ (n : ℕ). set (sets a.list.now at a.cost) (at + n) a.step.0) (sym three)
    ∙ sym (sets-append a.cost (a.step.0 ∷ []) a.list.now at)
