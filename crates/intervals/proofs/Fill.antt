-- Free runs written into a table of marks. Once the runs after the first k lines are written, an occupied step has the mark, a run that begins at
-- step 0 has 0, and a run that begins after the last step of one of the k lines has its first step. With all lines these are all runs: the step
-- before a run that begins later is occupied, by a line that does not go on, so its last step is that step.
-- Assumes nothing.
use mathlib.Core.Path.{◌≡◌, refl, sym, ◌∙◌, ap, subst}
use mathlib.Core.Logic.{◌⊎◌, inl, inr}
use mathlib.Core.Bool.{Bool, true, false, ◌&&◌, true≢false}
use mathlib.Core.List.{List}
use Prim.Native.Nat.{ℕ, ◌+◌, ◌*◌, ◌-◌, ◌/◌, ◌≤◌, ◌<◌}
use native.Mathlib.Omega.{arith}
use lib.Dec.{eqb, leb}
use lib.ListN.{length, set}
use borrow.Author.Tests.{eqb-true, eqb-false, eq-eqb, leb-true, leb-false}
use Rattle.sheet.specs.Lists.{number}
use Rattle.sheet.specs.Kinds.{kind_o}
use Rattle.sheet.specs.Sheet.{Sheet}
use Rattle.sheet.specs.Calls.{group_rows}
use Rattle.sheet.specs.Laws.Order.{and-true, true-and}
use Rattle.intervals.specs.Intervals.{freeb, Free, Run}
use Rattle.intervals.specs.Computed.{first_of, since_of}
use Rattle.intervals.specs.Inner.{entry, MarkableLine, Marked, InRun, FilledRun}
use Rattle.intervals.specs.FirstSteps.{SinceTable}
use Rattle.intervals.specs.Laws.Runs.{first_step, first-least, since-first, since-occupied}
use Rattle.intervals.proofs.Covers.{free-uncovered, taken-covered}
use Rattle.intervals.proofs.Tables.{Steps, steps-none, steps-more, covers-true, true-covers, LineIs}

-- the entries of the steps f up to t were not marked and are f, and the others as before
pub record Filling (row f t : ℕ) (before after : List ℕ) : Type 0 where
  pub unmarked : (i : ℕ) → row + f ≤ i → i < row + t → number before i ≡ 256 → ⊥
  pub steps : Steps f row f t before after

pub filling-none : (row f : ℕ) (l : List ℕ) → length l ≡ 16384 → Filling row f f l l
filling-none row f l e = record { unmarked = λ i p q m. omega arith; steps = steps-none f row f l e }

pub filling-more : (row f t : ℕ) (l k : List ℕ) → row + t < 16384 → f ≤ t → (number k (row + t) ≡ 256 → ⊥) → Filling row f t l k → Filling row f (t + 1) l (set k (row + t) f)
filling-more row f t l k b h n m = record { unmarked = λ i p q. at i p q (eqb i (row + t)) refl; steps = steps-more f row f t l k b h m.steps }
  where
    at : (i : ℕ) → row + f ≤ i → i < row + (t + 1) → (c : Bool) → eqb i (row + t) ≡ c → number l i ≡ 256 → ⊥
    at i p q true e x = n (m.steps.kept (row + t) (λ y z. omega arith) ∙ ap (number l) (sym (eqb-true i (row + t) e)) ∙ x)
    at i p q false e x =
        let d : i ≡ row + t → ⊥ = eqb-false i (row + t) e in
        m.unmarked i p (omega arith) x

-- the run ends with the row, or at a mark
module _ (v a t : ℕ) (l k : List ℕ) where
  pub run-filled : a < t → t ≤ 256 → entry l v a ≡ 256 → (256 ≤ t) ⊎ (entry k v t ≡ 256) → Filling (v * 256) (a + 1) t l k → FilledRun v a l k
  run-filled b c x e m =
      record {
        hit = λ u p r. m.steps.hit (v * 256 + u) (omega (arith, r.later)) (before-end u p r e);
        kept = λ w u p q n. m.steps.kept (w * 256 + u) (λ y z. n (omega arith) (inside u (omega arith) (omega arith)));
      }
    where
      inside : (u : ℕ) → a < u → u < t → InRun l v a u
      inside u p q = record { marked = x; later = p; free = λ i y z. m.unmarked (v * 256 + i) (omega arith) (omega arith) }

      before-end : (u : ℕ) → u < 256 → InRun l v a u → (256 ≤ t) ⊎ (entry k v t ≡ 256) → v * 256 + u < v * 256 + t
      before-end u p r (inl g) = omega arith
      before-end u p r (inr g) = go (leb t u) refl
        where
          go : (d : Bool) → leb t u ≡ d → v * 256 + u < v * 256 + t
          go true f = absurd (r.free t b (leb-true t u f) (sym (m.steps.kept (v * 256 + t) (λ y z. omega arith)) ∙ g))
          go false f = omega (arith, leb-false t u f)

pub run_none : (v a : ℕ) (l : List ℕ) → (entry l v a ≡ 256 → ⊥) → FilledRun v a l l
run_none v a l n = record { hit = λ u p r. absurd (n r.marked); kept = λ w u p q o. refl }

-- the place and the last step of line k
abbrev pub place_at : List ℕ → ℕ → ℕ
place_at l k = number l (k * 3)

abbrev pub last_at : List ℕ → ℕ → ℕ
last_at l k = number l (k * 3 + 2)

-- the entry x of place v and step t, once the runs after the first k lines are written
pub record Entry (s : Sheet) (l : List ℕ) (k v t x : ℕ) : Type 0 where
  pub taken : freeb s v t ≡ false → x ≡ 256
  pub free : Free s v t → x < 256
  pub start : Free s v t → first_of s v t ≡ 0 → x ≡ 0
  pub after : Free s v t → (j : ℕ) → j < k → place_at l j ≡ v → first_of s v t ≡ last_at l j + 1 → x ≡ first_of s v t

pub record Filled (l : List ℕ) (k : ℕ) (since : List ℕ) : Type 0 where
  pub of : (s : Sheet) → s.occupancies ≡ group_rows kind_o l → (v t : ℕ) → v < 64 → t < 256 → Entry s l k v t (entry since v t)

pub filled_none : (l since : List ℕ) → Marked l (length l / 3) since → Filled l 0 since
filled_none l since m = record { of = table }
  where
    table : (s : Sheet) → s.occupancies ≡ group_rows kind_o l → (v t : ℕ) → v < 64 → t < 256 → Entry s l 0 v t (entry since v t)
    table s e v t p q =
        record {
          taken = λ f. (let r = taken-covered l s e v t f in m.hit v t r.0 p q r.1 r.2);
          free = λ f. omega (arith, zeros f);
          start = λ f h. zeros f;
          after = λ f j b. absurd (omega arith);
        }
      where
        zeros : Free s v t → entry since v t ≡ 0
        zeros f = m.free v t p q (free-uncovered l s e v t f)

-- the run after an occupied step begins with the next
first-after : (s : Sheet) (v a t : ℕ) → freeb s v a ≡ false → a < t → Run s v (a + 1) t → first_of s v t ≡ a + 1
first-after s v a t f h r = go (leb (first_of s v t) a) refl
  where
    go : (c : Bool) → leb (first_of s v t) a ≡ c → first_of s v t ≡ a + 1
    go true e = absurd (true≢false (sym ((first_step s v t (r t (omega arith) (omega arith))).run a (leb-true _ _ e) (omega arith)) ∙ f))
    go false e = let l : a < first_of s v t = leb-false _ _ e in omega (arith, first-least s v (a + 1) t (omega arith) r)

-- the run after a mark, in a table with the runs of k lines
module _ (s : Sheet) (l : List ℕ) (k : ℕ) (since : List ℕ) (v : ℕ) (h : (t : ℕ) → t < 256 → Entry s l k v t (entry since v t)) where
  marked-taken : (t : ℕ) → t < 256 → entry since v t ≡ 256 → freeb s v t ≡ false
  marked-taken t q e = go (freeb s v t) refl
    where
      go : (c : Bool) → freeb s v t ≡ c → freeb s v t ≡ false
      go true f = absurd (omega (arith, (h t q).free f))
      go false f = f

  unmarked-free : (t : ℕ) → t < 256 → (entry since v t ≡ 256 → ⊥) → Free s v t
  unmarked-free t q n = go (freeb s v t) refl
    where
      go : (c : Bool) → freeb s v t ≡ c → Free s v t
      go true f = f
      go false f = absurd (n ((h t q).taken f))

  run-free : (a t : ℕ) → t < 256 → InRun since v a t → Free s v t
  run-free a t q r = unmarked-free t q (r.free t r.later (omega arith))

  run-first : (a t : ℕ) → t < 256 → InRun since v a t → first_of s v t ≡ a + 1
  run-first a t q r =
      first-after s v a t (marked-taken a (omega (arith, r.later)) r.marked) r.later (λ i y z. unmarked-free i (omega arith) (r.free i (omega arith) z))

  first_run : (a t : ℕ) → t < 256 → Free s v t → first_of s v t ≡ a + 1 → InRun since v a t
  first_run a t q f e =
      let p = first_step s v t f in
      record {
        marked = at p.no-sooner;
        later = omega (arith, p.soon);
        free = λ i y z m. true≢false (sym (p.run i (omega arith) z) ∙ marked-taken i (omega arith) m);
      }
    where
      at : (first_of s v t ≡ 0) ⊎ (freeb s v (first_of s v t - 1) ≡ false) → entry since v a ≡ 256
      at (inl z) = absurd (omega arith)
      at (inr z) =
          let g : first_of s v t - 1 ≡ a = omega arith in
          (h a (omega (arith, (first_step s v t f).soon))).taken (subst (λ (u : ℕ). freeb s v u ≡ false) g z)

-- a run that is written after a line, as the rows of the group have it
pub line_run : {l : List ℕ} {k w a b : ℕ} {before after : List ℕ} → LineIs l k w a b → FilledRun w b before after → FilledRun (place_at l k) (last_at l k) before after
line_run {l} {k} {w} {before = x} {after = y} i r = subst (λ (v : ℕ). FilledRun v (last_at l k) x y) i.place (subst (λ (u : ℕ). FilledRun w u x y) i.last r)

-- one line more: the entry of a step that is occupied, of one in the run after the line, and of any other
module _ (l : List ℕ) (k : ℕ) (before after : List ℕ) (g : MarkableLine l k) (m : Filled l k before) (r : FilledRun (place_at l k) (last_at l k) before after) where
  filled-entry : (s : Sheet) → s.occupancies ≡ group_rows kind_o l → (v t : ℕ) → v < 64 → t < 256 → Entry s l (k + 1) v t (entry after v t)
  filled-entry s e v t p q = go (freeb s v t) refl (eqb v (place_at l k) && eqb (first_of s v t) (last_at l k + 1)) refl
    where
      old : Entry s l k v t (entry before v t)
      old = m.of s e v t p q

      row : (u : ℕ) → u < 256 → Entry s l k (place_at l k) u (entry before (place_at l k) u)
      row u b = m.of s e (place_at l k) u g.place b

      other : eqb v (place_at l k) && eqb (first_of s v t) (last_at l k + 1) ≡ false → v ≡ place_at l k → first_of s v t ≡ last_at l k + 1 → ⊥
      other y w z = true≢false (sym (true-and _ _ (eq-eqb _ _ w) (eq-eqb _ _ z)) ∙ y)

      earlier : Free s v t → (v ≡ place_at l k → first_of s v t ≡ last_at l k + 1 → ⊥) → (j : ℕ) → j < k + 1 → place_at l j ≡ v → first_of s v t ≡ last_at l j + 1 → (c : Bool) → eqb j k ≡ c → entry before v t ≡ first_of s v t
      earlier f o j b h z true i =
          absurd (o (sym h ∙ ap (place_at l) (eqb-true j k i)) (z ∙ ap (λ (u : ℕ). last_at l u + 1) (eqb-true j k i)))
      earlier f o j b h z false i = let d : j ≡ k → ⊥ = eqb-false j k i in old.after f j (omega arith) h z

      go : (c : Bool) → freeb s v t ≡ c → (d : Bool) → eqb v (place_at l k) && eqb (first_of s v t) (last_at l k + 1) ≡ d → Entry s l (k + 1) v t (entry after v t)
      go false f d y =
          record {
            taken = λ n. r.kept v t p q (λ w i. true≢false (sym (run-free s l k before (place_at l k) row (last_at l k) t q i) ∙ ap (λ (x : ℕ). freeb s x t) (sym w) ∙ f)) ∙ old.taken f;
            free = λ n. absurd (true≢false (sym n ∙ f));
            start = λ n. absurd (true≢false (sym n ∙ f));
            after = λ n. absurd (true≢false (sym n ∙ f));
          }
      go true f true y =
          let z = and-true (eqb v (place_at l k)) (eqb (first_of s v t) (last_at l k + 1)) y in
          let w : v ≡ place_at l k = eqb-true _ _ z.0 in
          let a : first_of s v t ≡ last_at l k + 1 = eqb-true _ _ z.1 in
          let i = first_run s l k before (place_at l k) row (last_at l k) t q (subst (λ (u : ℕ). Free s u t) w f) (ap (λ (u : ℕ). first_of s u t) (sym w) ∙ a) in
          let x : entry after v t ≡ first_of s v t = ap (λ (u : ℕ). entry after u t) w ∙ r.hit t q i ∙ sym a in
          record {
            taken = λ n. absurd (true≢false (sym f ∙ n));
            free = λ n. omega (arith, x, (first_step s v t f).soon);
            start = λ n o. x ∙ o;
            after = λ n j b h o. x;
          }
      go true f false y =
          let x : entry after v t ≡ entry before v t = r.kept v t p q (λ w i. other y w (ap (λ (u : ℕ). first_of s u t) w ∙ run-first s l k before (place_at l k) row (last_at l k) t q i)) in
          record {
            taken = λ n. absurd (true≢false (sym f ∙ n));
            free = λ n. omega (arith, x, old.free f);
            start = λ n o. x ∙ old.start f o;
            after = λ n j b h o. x ∙ earlier f (other y) j b h o (eqb j k) refl;
          }

  pub filled_more : Filled l (k + 1) after
  filled_more = record { of = filled-entry }

-- all lines
pub filled-all : (l since : List ℕ) → length since ≡ 16384 → Filled l (length l / 3) since → SinceTable l since
filled-all l since n m = record { size = n; of = table }
  where
    table : (s : Sheet) → s.occupancies ≡ group_rows kind_o l → (v t : ℕ) → v < 64 → t < 256 → entry since v t ≡ since_of s v t
    table s e v t p q = go (freeb s v t) refl
      where
        x : Entry s l (length l / 3) v t (entry since v t)
        x = m.of s e v t p q

        ends : Free s v t → (j : ℕ) → j < length l / 3 → place_at l j ≡ v → number l (j * 3 + 1) ≤ first_of s v t - 1 → (c : Bool) → leb (first_of s v t) (last_at l j) ≡ c → last_at l j < first_of s v t
        ends f j b h i true y =
            let o = first_step s v t f in
            absurd (true≢false (sym (true-covers l v (first_of s v t) j h (omega arith) (leb-true _ _ y)) ∙ free-uncovered l s e v (first_of s v t) (o.run (first_of s v t) (omega arith) o.soon) j b))
        ends f j b h i false y = leb-false _ _ y

        later : Free s v t → (first_of s v t ≡ 0) ⊎ (freeb s v (first_of s v t - 1) ≡ false) → (c : Bool) → eqb (first_of s v t) 0 ≡ c → entry since v t ≡ first_of s v t
        later f d true z = x.start f (eqb-true (first_of s v t) 0 z) ∙ sym (eqb-true (first_of s v t) 0 z)
        later f (inl d) false z = absurd (eqb-false (first_of s v t) 0 z d)
        later f (inr d) false z =
            let n : first_of s v t ≡ 0 → ⊥ = eqb-false (first_of s v t) 0 z in
            let c = taken-covered l s e v (first_of s v t - 1) d in
            let a = covers-true l v (first_of s v t - 1) c.0 c.2 in
            let b : last_at l c.0 < first_of s v t = ends f c.0 c.1 a.0 a.1 (leb (first_of s v t) (last_at l c.0)) refl in
            x.after f c.0 c.1 a.0 (omega (arith, a.2))

        go : (c : Bool) → freeb s v t ≡ c → entry since v t ≡ since_of s v t
        go true f = later f (first_step s v t f).no-sooner (eqb (first_of s v t) 0) refl ∙ sym (since-first s v t f)
        go false f = x.taken f ∙ sym (since-occupied s v t f)
