-- One row passed. A row that the stair leads is left out, and the rest leaves what it left before. A row that is taken goes into the stair; the rows that
-- leave the stair lead no row ahead that the new one does not lead, since that comes before them all and is below those rows in the other figures.
-- Assumes nothing.
use mathlib.Core.Path.{◌≡◌, refl, sym, ◌∙◌, ap}
use mathlib.Core.Logic.{◌⊎◌, inl, inr, ⊎_elim}
use mathlib.Core.Bool.{Bool, true, false}
use mathlib.Core.List.{List, [], ◌∷◌, ◌++◌}
use Prim.Native.Nat.{ℕ, zero, suc, ◌+◌, ◌*◌, ◌-◌, ◌≤◌, ◌<◌}
use native.Mathlib.Omega.{arith}
use native.Mathlib.Numerals.{add-one}
use lib.ListN.{length, get_or, set, drop}
use lib.Seq.{drop-nil}
use Rattle.sheet.specs.Lists.{◌∈◌, pick, number, Lex}
use Rattle.sheet.specs.Sorting.{Before, Ascending}
use Rattle.sheet.specs.Laws.Members.{mem-left, mem-right, mem-append}
use Rattle.sheet.specs.Laws.Ascending.{before-all}
use Rattle.costs.specs.Costs.{Cost, fig, AtMost}
use Rattle.costs.specs.Laws.Figures.{is-at-most}
use Rattle.sheet.specs.Laws.Decided.{lt-or-le}
use Rattle.arrivals.specs.Rows.{cost_at}
use Rattle.journeys.specs.Inner.Chain.{onto, Heads, Differ, rank}
use Rattle.journeys.specs.Inner.Sweep.{led_by, swept, third, SweepsOn}
use Rattle.journeys.proofs.Chains.{left-mem, right-mem, onto-mem, right-ascending, onto-ascending, differ-then, differ-freed, differ-set, cell_same, in_table}
use Rattle.journeys.proofs.Swept.{led-by, unled, led-same, swept_same}

-- what is left of a list, and its first member
drop-first : (l : List ℕ) (n x : ℕ) (t : List ℕ) → x ∷ t ≡ drop n l → (n < length l) × (x ≡ get_or l n 0) × (t ≡ drop (suc n) l)
drop-first [] n x t e = let q = e ∙ drop-nil n in absurd (let z : ◌≡◌ {A = ℕ} 0 1 = cc in omega arith)
drop-first (y ∷ l) zero x t e = (omega arith, (cc), (cc))
drop-first (y ∷ l) (suc n) x t e = let r = drop-first l n x t e in (omega (arith, r.0), r.1, r.2)

-- members of the stair and of the rows ahead
module _ (es ks : List ℕ) (k : ℕ) where
  pub ahead-mem : (j : ℕ) → j ∈ (es ++ ks) → j ∈ (es ++ (k ∷ ks))
  ahead-mem j m = ⊎_elim (mem-left j es (k ∷ ks)) (λ n. mem-right j es (k ∷ ks) (inr n)) (mem-append j es ks m)

  pub head-mem : k ∈ (es ++ (k ∷ ks))
  head-mem = mem-right k es (k ∷ ks) (inl refl)

  split-mem : (j : ℕ) → j ∈ (es ++ (k ∷ ks)) → j ∈ (k ∷ []) ⊎ j ∈ (es ++ ks)
  split-mem j m = ⊎_elim (λ n. inr (mem-left j es ks n)) (λ n. ⊎_elim (λ e. inl (inl e)) (λ w. inr (mem-right j es ks w)) n) (mem-append j es (k ∷ ks) m)

pub passed-led : (base : List ℕ) (v : ℕ) (xs es ks : List ℕ) (k count row : ℕ) (fs : List ℕ) → SweepsOn base v xs es (k ∷ ks) count row fs → led_by (cost_at base) es k ≡ true
    → SweepsOn base v (set xs (k * 5) v) es ks count row fs
passed-led base v xs es ks k count row fs s e =
    record {
      ahead = s.ahead.1;
      stair = s.stair;
      past = λ a b m n. s.past a b m (inr n);
      rows = λ j m. s.rows j (ahead-mem es ks k j m);
      differ = differ-freed (es ++ (k ∷ ks)) (k ∷ []) (es ++ ks) s.differ (differ-set xs k v) back (split-mem es ks k);
      left = sym (ap (λ (b : Bool). pick b (swept (cost_at base) es ks) (k ∷ swept (cost_at base) (k ∷ es) ks)) e) ∙ s.left;
      within = s.within;
      last = s.last;
      rooms = s.rooms;
    }
  where
    back : (d : ℕ) → d ∈ (k ∷ []) → number (set xs (k * 5) v) (d * 5) ≡ number base (d * 5)
    back d (inl q) =
        let r = s.rows k (head-mem es ks k) in
        rw q (cell_same xs k v (in_table s.differ.same_length r.0) ∙ sym r.1)
    back d (inr nowhere) = elim nowhere [ ]

-- costs of three figures: one that is not above another in the first two figures, and not nowhere above it, is above it in the third
at-most-three : (a b : Cost) → length a ≡ 3 → fig a 0 ≤ fig b 0 → fig a 1 ≤ fig b 1 → fig a 2 ≤ fig b 2 → AtMost a b
at-most-three a b l p q h = is-at-most 3 a b l every
  where
    every : (i : ℕ) → i < 3 → fig a i ≤ fig b i
    every zero m = p
    every (suc zero) m = q
    every (suc (suc zero)) m = h
    every (suc (suc (suc i))) m = absurd (omega arith)

third-above : (a b : Cost) → length a ≡ 3 → (AtMost a b → ⊥) → fig a 0 ≤ fig b 0 → fig a 1 ≤ fig b 1 → fig b 2 < fig a 2
third-above a b l n p q = ⊎_elim (λ h. h) (λ h. absurd (n (at-most-three a b l p q h))) (lt-or-le (fig b 2) (fig a 2))

-- a row comes no later by its first figure
rank-first : (xs : List ℕ) (a b : ℕ) → Lex (rank (cost_at xs) a) (rank (cost_at xs) b) → fig (cost_at xs a) 0 ≤ fig (cost_at xs b) 0
rank-first xs a b (inl h) = omega arith
rank-first xs a b (inr h) = omega (arith, h.0)

later-ascending : (key : ℕ → List ℕ) (ds rs : List ℕ) → Ascending key (ds ++ rs) → Ascending key rs
later-ascending key [] rs s = s
later-ascending key (d ∷ ds) rs s = later-ascending key ds rs s.1

-- row k is taken: it goes between the rows ls and rs of the stair, and the rows ds leave it
pub record Taken (base : List ℕ) (v : ℕ) (xs zs ys : List ℕ) (k : ℕ) (ls ds rs : List ℕ) : Type 0 where
  pub alone : led_by (cost_at base) (onto ls (ds ++ rs)) k ≡ false
  pub below : (e : ℕ) → e ∈ ls → fig (cost_at base e) 2 < fig (cost_at base k) 2
  pub above : (e : ℕ) → e ∈ ds → fig (cost_at base k) 2 ≤ fig (cost_at base e) 2
  pub dear : (e : ℕ) → e ∈ ds → fig (cost_at base k) 1 ≤ fig (cost_at base e) 1
  pub cheap : (e : ℕ) → Heads e rs → e ∈ rs → fig (cost_at base e) 1 < fig (cost_at base k) 1
  pub gone : Differ xs zs ds
  pub freed : (d : ℕ) → d ∈ ds → number zs (d * 5) ≡ v
  pub put_in : Differ zs ys (k ∷ ls)

pub passed-taken : (base : List ℕ) (v : ℕ) (xs zs ys : List ℕ) (k : ℕ) (ls ds rs ks : List ℕ) (count row : ℕ) (fs : List ℕ) → SweepsOn base v xs (onto ls (ds ++ rs)) (k ∷ ks) count row fs
    → Taken base v xs zs ys k ls ds rs → SweepsOn base v ys (onto ls (k ∷ rs)) ks (count + 1) k fs
passed-taken base v xs zs ys k ls ds rs ks count row fs s t =
    record {
      ahead = s.ahead.1;
      stair = onto-ascending (third c) ls (ds ++ rs) (k ∷ rs) s.stair (first rs t.cheap (λ e m. old e (inr (inr m))), later-ascending (third c) ds rs (right-ascending (third c) ls (ds ++ rs) s.stair)) (λ a h m. inl (t.below a m));
      past = λ a b m n. past a b (onto-mem ls (k ∷ rs) a m) n;
      rows = λ j m. s.rows j (⊎_elim (stay j) (λ n. mem-right j (onto ls (ds ++ rs)) (k ∷ ks) (inr n)) (mem-append j (onto ls (k ∷ rs)) ks m));
      differ = differ-then (onto ls (k ∷ rs) ++ ks) (k ∷ ls) (differ-freed (onto ls (ds ++ rs) ++ (k ∷ ks)) ds (onto ls (k ∷ rs) ++ ks) s.differ t.gone (λ d m. t.freed d m ∙ sym (s.rows d (mem-left d (onto ls (ds ++ rs)) (k ∷ ks) (old d (inr (inl m))))).1) split) t.put_in (λ j m. mem-left j (onto ls (k ∷ rs)) ks (new j m));
      left = swept_same c ks (onto ls (k ∷ rs)) (k ∷ onto ls (ds ++ rs)) same ∙ d.2 ∙ ap (λ (i : ℕ). drop i fs) (sym (add-one count));
      within = omega (arith, d.0);
      last = λ h. d.1 ∙ ap (λ (i : ℕ). get_or fs i 0) (let z : count ≡ count + 1 - 1 = omega arith in z);
      rooms = s.rooms;
    }
  where
    c : ℕ → Cost
    c = cost_at base

    old : (e : ℕ) → e ∈ ls ⊎ (e ∈ ds ⊎ e ∈ rs) → e ∈ onto ls (ds ++ rs)
    old e (inl m) = left-mem ls (ds ++ rs) e m
    old e (inr (inl m)) = right-mem ls (ds ++ rs) e (mem-left e ds rs m)
    old e (inr (inr m)) = right-mem ls (ds ++ rs) e (mem-right e ds rs m)

    parts : (e : ℕ) → e ∈ onto ls (ds ++ rs) → e ∈ ds ⊎ e ∈ onto ls (k ∷ rs)
    parts e m = ⊎_elim (λ n. inr (left-mem ls (k ∷ rs) e n)) (λ n. ⊎_elim inl (λ w. inr (right-mem ls (k ∷ rs) e (inr w))) (mem-append e ds rs n)) (onto-mem ls (ds ++ rs) e m)

    new : (j : ℕ) → j ∈ (k ∷ ls) → j ∈ onto ls (k ∷ rs)
    new j (inl e) = right-mem ls (k ∷ rs) j (inl e)
    new j (inr m) = left-mem ls (k ∷ rs) j m

    back : (j : ℕ) → j ∈ onto ls (k ∷ rs) → (j ≡ k) ⊎ j ∈ onto ls (ds ++ rs)
    back j m = ⊎_elim (λ n. inr (old j (inl n))) (λ n. ⊎_elim inl (λ w. inr (old j (inr (inr w)))) n) (onto-mem ls (k ∷ rs) j m)

    stay : (j : ℕ) → j ∈ onto ls (k ∷ rs) → j ∈ (onto ls (ds ++ rs) ++ (k ∷ ks))
    stay j m = ⊎_elim (λ e. mem-right j (onto ls (ds ++ rs)) (k ∷ ks) (inl e)) (mem-left j (onto ls (ds ++ rs)) (k ∷ ks)) (back j m)

    split : (j : ℕ) → j ∈ (onto ls (ds ++ rs) ++ (k ∷ ks)) → j ∈ ds ⊎ j ∈ (onto ls (k ∷ rs) ++ ks)
    split j m = ⊎_elim (λ n. ⊎_elim inl (λ w. inr (mem-left j (onto ls (k ∷ rs)) ks w)) (parts j n)) (λ n. inr (later n)) (mem-append j (onto ls (ds ++ rs)) (k ∷ ks) m)
      where
        later : j ∈ (k ∷ ks) → j ∈ (onto ls (k ∷ rs) ++ ks)
        later (inl e) = mem-left j (onto ls (k ∷ rs)) ks (right-mem ls (k ∷ rs) j (inl e))
        later (inr n) = mem-right j (onto ls (k ∷ rs)) ks n

    first : (l : List ℕ) → ((e : ℕ) → Heads e l → e ∈ l → fig (c e) 1 < fig (c k) 1) → ((e : ℕ) → e ∈ l → e ∈ onto ls (ds ++ rs)) → Before (third c) k l
    first [] f g = tt
    first (r ∷ l) f g =
        let m = g r (inl refl) in
        inl (third-above (c r) (c k) refl (unled c (onto ls (ds ++ rs)) k t.alone r m) (rank-first base r k (s.past r k m (inl refl))) (let u = f r refl (inl refl) in omega arith))

    past : (a b : ℕ) → a ∈ ls ⊎ a ∈ (k ∷ rs) → b ∈ ks → Lex (rank c a) (rank c b)
    past a b (inl m) n = s.past a b (old a (inl m)) (inr n)
    past a b (inr (inl e)) n = rw e (before-all (rank c) k ks s.ahead.0 s.ahead.1 b n)
    past a b (inr (inr m)) n = s.past a b (old a (inr (inr m))) (inr n)

    left : k ∷ swept c (k ∷ onto ls (ds ++ rs)) ks ≡ drop count fs
    left = sym (ap (λ (b : Bool). pick b (swept c (onto ls (ds ++ rs)) ks) (k ∷ swept c (k ∷ onto ls (ds ++ rs)) ks)) t.alone) ∙ s.left

    d : (count < length fs) × (k ≡ get_or fs count 0) × (swept c (k ∷ onto ls (ds ++ rs)) ks ≡ drop (suc count) fs)
    d = drop-first fs count k (swept c (k ∷ onto ls (ds ++ rs)) ks) left

    same : (j : ℕ) → j ∈ ks → led_by c (onto ls (k ∷ rs)) j ≡ led_by c (k ∷ onto ls (ds ++ rs)) j
    same j m = led-same c (onto ls (k ∷ rs)) (k ∷ onto ls (ds ++ rs)) j (λ e n h. led-by c (k ∷ onto ls (ds ++ rs)) e j (back e n) h) onward
      where
        before-j : fig (c k) 0 ≤ fig (c j) 0
        before-j = rank-first base k j (before-all (rank c) k ks s.ahead.0 s.ahead.1 j m)

        onward : (e : ℕ) → e ∈ (k ∷ onto ls (ds ++ rs)) → AtMost (c e) (c j) → led_by c (onto ls (k ∷ rs)) j ≡ true
        onward e (inl q) h = led-by c (onto ls (k ∷ rs)) e j (right-mem ls (k ∷ rs) e (inl q)) h
        onward e (inr n) h =
            ⊎_elim
            (λ w. led-by c (onto ls (k ∷ rs)) k j (right-mem ls (k ∷ rs) k (inl refl)) (at-most-three (c k) (c j) refl before-j (omega (arith, t.dear e w, h.every 1)) (omega (arith, t.above e w, h.every 2))))
            (λ w. led-by c (onto ls (k ∷ rs)) e j w h)
            (parts e n)
