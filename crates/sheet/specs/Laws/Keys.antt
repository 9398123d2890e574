-- The lines of a kind in the array, sought by the numbers that they ascend by: at the place of line i stand its numbers, so that the array has a line with
-- some key exactly where the group has one.
use Rattle.std.specs.Prelude.{◌≡◌, List, [], ℕ, ◌+◌, ◌*◌, ◌<◌, get_or, take, drop}
use Rattle.std.proofs.Common.{sym, ◌∙◌, ap, subst, arith, drop-drop, take-take}
use Rattle.sheet.specs.Lists.{number, ◌∈◌, Lex}
use Rattle.sheet.specs.Kinds.{width}
use Rattle.sheet.specs.Sheet.{Sheet}
use Rattle.sheet.specs.Store.{kind_count, kind_at, base_of}
use Rattle.sheet.specs.Seek.{key_in, Seekable, Listed}
use Rattle.sheet.specs.Laws.Members.{mem-at, position-of}
use Rattle.sheet.specs.Laws.Ascending.{ascending-at}
use Rattle.sheet.specs.Laws.Rows.{row-of-flat}
use Rattle.sheet.specs.Laws.Kinds.{width_small, most-small, key-inside}
use Rattle.sheet.specs.Laws.Cells.{Held, held-run, held-count, held-length, held-few, held-part}
use Rattle.sheet.specs.declared.seek.Group.{Group}

-- g is the group of the kind with number k, sought by the numbers that its lines ascend by
pub record GroupIs (lines : List ℕ) (k : ℕ) (g : Group) : Type 0 where
  pub base-is : g.base ≡ base_of k
  pub width_is : g.width ≡ width (kind_at k)
  pub count-is : g.count ≡ number lines k
  pub key-is : g.key ≡ (kind_at k).key

module _ {s : Sheet} {gs : List (List (List ℕ))} {lines all : List ℕ} (H : Held s gs lines all) (k : ℕ) (h : k < kind_count) {g : Group} (G : GroupIs lines k g) where
  abbrev key_of : List ℕ → List ℕ
  key_of n = take (kind_at k).key n

  abbrev at : ℕ → List ℕ
  at i = get_or (get_or gs k []) i []

  key-at : (i : ℕ) → i < g.count → key_in all g i ≡ key_of (at i)
  key-at i l =
      let w = width (kind_at k) in
      let p = held-part H k h in
      let r : take w (drop (base_of k + i * w) all) ≡ at i =
      ap (take w) (sym (drop-drop (i * w) (base_of k) all) ∙ ap (drop (i * w)) p.1)
      ∙ row-of-flat w (get_or gs k []) p.0 (held-run H k h).count i (omega (arith, G.count-is, held-count H k h)) in
      rw (G.base-is, G.width_is, G.key-is) (sym (take-take (kind_at k).key w (drop (base_of k + i * w) all) (key-inside k h)) ∙ ap key_of r)

  pub held-seekable : Seekable all g
  held-seekable =
      record {
        narrow = omega (arith, G.width_is, width_small k h);
        key-inside = omega (arith, G.width_is, G.key-is, key-inside k h);
        few = omega (arith, G.count-is, (held-few H k h).0, most-small k h);
        low = omega (arith, G.base-is, held-length H, (held-few H k h).1);
        inside = rw (G.base-is, G.width_is, G.count-is) (held-few H k h).1;
        ascends = λ i j l b. subst (λ (x : List ℕ). Lex x (key_in all g j)) (sym (key-at i (omega arith))) (subst (Lex (key_of (at i))) (sym (key-at j b))
            (ascending-at key_of [] (get_or gs k []) (held-run H k h).ascend i j l (omega (arith, G.count-is, held-count H k h))));
      }

  pub listed_in : (v : List ℕ) → Listed all g v → (n : List ℕ) × (n ∈ get_or gs k []) × (key_of n ≡ key_of v)
  listed_in v l = (
    at l.at,
    mem-at [] (get_or gs k []) l.at (omega (arith, l.below, G.count-is, held-count H k h)),
    sym (key-at l.at l.below) ∙ l.same ∙ ap (λ (c : ℕ). take c v) G.key-is,
  )

  pub in-listed : (v n : List ℕ) → n ∈ get_or gs k [] → key_of n ≡ key_of v → Listed all g v
  in-listed v n m e =
      let r = position-of [] n (get_or gs k []) m in
      let b : r.0 < g.count = omega (arith, r.1, G.count-is, held-count H k h) in
      record { at = r.0; below = b; same = key-at r.0 b ∙ ap key_of r.2 ∙ e ∙ ap (λ (c : ℕ). take c v) (sym G.key-is) }
