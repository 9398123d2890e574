-- A row passed in the table: what the functions that look in the stair, release rows of it and put a row in ask for, and that what they do is a step of
-- the sweep. The rows of the stair and those ahead are apart, since the first come before the others.
-- Assumes nothing.
use mathlib.Core.Path.{◌≡◌, refl, sym, ◌∙◌, ap, subst}
use mathlib.Core.Logic.{inl, inr, ⊎_elim}
use mathlib.Core.Bool.{true, false}
use mathlib.Core.List.{List, ◌∷◌, ◌++◌}
use Prim.Native.Nat.{ℕ, zero, suc, ◌+◌, ◌*◌, ◌-◌, ◌≤◌, ◌<◌}
use native.Mathlib.Omega.{arith}
use lib.ListN.{set}
use Rattle.sheet.specs.Lists.{◌∈◌, number, Lex}
use Rattle.sheet.specs.Sorting.{Ascending}
use Rattle.sheet.specs.Laws.Order.{Lex-irrefl}
use Rattle.sheet.specs.Laws.Members.{mem-left, mem-right}
use Rattle.sheet.specs.Laws.Ascending.{before-all}
use Rattle.costs.specs.Costs.{Cost, fig}
use Rattle.arrivals.specs.Rows.{cost_at}
use Rattle.journeys.specs.Inner.Chain.{chain, Back, onto, Heads, InTable, Linkable, link_in, in_gap, Releasable, Released, rank}
use Rattle.journeys.specs.Inner.Sweep.{led_by, third, Climbable, Between, Climbed, stair_of, ahead_of, SweepsOn, Sweeps, Sweepable, SweptOn}
use Rattle.journeys.specs.declared.chain.Gap.{Gap}
use Rattle.journeys.specs.declared.chain.Spot.{Spot}
use Rattle.journeys.specs.declared.front.Sweep.{Sweep}
use Rattle.journeys.proofs.Chains.{chain_head, chain-none, chain-kept, back-kept, left-mem, right-mem, left-in-table, parted-whole, parted-rows, once-ascending, right-ascending, once-left, never_both, differ-costs, differ-link, cell_other, in_table, Fits, linked, link-differ}
use Rattle.journeys.proofs.Sweeping.{head-mem, passed-led, Taken, passed-taken}

pub sweepable-next : {v : ℕ} {xs ys : List ℕ} {s r : Sweep} → Sweepable v xs s → SweptOn v xs ys s r → Sweepable v ys r
sweepable-next p f = record { base = p.base; fs = p.fs; sweeps = f.of p.base p.fs p.sweeps }

-- the rows after the next
abbrev later : List ℕ → Sweep → List ℕ
later xs s = chain xs (s.rest - 1) (number xs (s.at * 5))

module _ {base : List ℕ} {v : ℕ} {xs : List ℕ} {s : Sweep} {fs : List ℕ} (p : Sweeps base v xs s fs) (h : 0 < s.rest) where
  on : SweepsOn base v xs (stair_of xs s) (s.at ∷ later xs s) s.count s.row fs
  on = subst (λ (l : List ℕ). SweepsOn base v xs (stair_of xs s) l s.count s.row fs) (chain_head xs s.rest s.at h) p.on

  costs : cost_at xs ≡ cost_at base
  costs = differ-costs (stair_of xs s ++ ahead_of xs s) p.on.differ

  room : (k : ℕ) → k ∈ (stair_of xs s ++ (s.at ∷ later xs s)) → InTable xs k
  room k m = in_table on.differ.same_length (on.rows k m).0

  pub pass-room : InTable xs s.at
  pass-room = room s.at (head-mem (stair_of xs s) (later xs s) s.at)

  pub pass-climbable : Climbable xs s.top s.size s.at
  pass-climbable =
      record {
        room = pass-room.room;
        rooms = λ e m. room e (mem-left e (stair_of xs s) (s.at ∷ later xs s) m);
        ascending = subst (λ (c : ℕ → Cost). Ascending (third c) (stair_of xs s)) (sym costs) on.stair;
      }

  -- rows apart
  never-stair : (k e : ℕ) → k ∈ (s.at ∷ later xs s) → e ∈ stair_of xs s → k ≡ e → ⊥
  never-stair k e m n q = Lex-irrefl (rank (cost_at base) e) (subst (λ (i : ℕ). Lex (rank (cost_at base) e) (rank (cost_at base) i)) q (on.past e k n m))

  never-next : (k : ℕ) → k ∈ later xs s → k ≡ s.at → ⊥
  never-next k m q =
      Lex-irrefl (rank (cost_at base) s.at) (subst (λ (i : ℕ). Lex (rank (cost_at base) s.at) (rank (cost_at base) i)) q (before-all (rank (cost_at base)) s.at (later xs s) on.ahead.0 on.ahead.1 k m))

  module _ {r : Spot} (c : Climbed xs s.top s.size s.at r) where
    pub sweeps-led : r.led ≡ true → Sweeps base v (set xs (s.at * 5) v) (record { at = number xs (s.at * 5); rest = s.rest - 1; top = s.top; size = s.size; count = s.count; row = s.row }) fs
    sweeps-led e =
        record {
          on = rw (same-stair, same_ahead) (passed-led base v xs (stair_of xs s) (later xs s) s.at s.count s.row fs on (subst (λ (d : ℕ → Cost). led_by d (stair_of xs s) s.at ≡ true) costs (sym c.led-is ∙ e)));
          few = omega (arith, p.few);
          few-counted = omega (arith, p.few-counted);
        }
      where
        same-stair : chain (set xs (s.at * 5) v) s.size s.top ≡ stair_of xs s
        same-stair = chain-kept xs (set xs (s.at * 5) v) s.size s.top (λ j m. cell_other xs s.at j v (λ q. never-stair s.at j (inl refl) m (sym q)))

        same_ahead : chain (set xs (s.at * 5) v) (s.rest - 1) (number xs (s.at * 5)) ≡ later xs s
        same_ahead = chain-kept xs (set xs (s.at * 5) v) (s.rest - 1) (number xs (s.at * 5)) (λ j m. cell_other xs s.at j v (never-next j m))

    module _ (e : r.led ≡ false) where
      b : Between xs s.at r.gap (chain xs s.size s.top)
      b = c.between e

      asc : Ascending (third (cost_at base)) (onto b.before (chain xs r.gap.rest r.gap.right))
      asc = subst (Ascending (third (cost_at base))) (sym b.parted.whole) on.stair

      right-stair : (k : ℕ) → k ∈ chain xs r.gap.rest r.gap.right → k ∈ stair_of xs s
      right-stair k m = subst (λ (l : List ℕ). k ∈ l) b.parted.whole (right-mem b.before (chain xs r.gap.rest r.gap.right) k m)

      left-stair : (k : ℕ) → k ∈ b.before → k ∈ stair_of xs s
      left-stair k m = subst (λ (l : List ℕ). k ∈ l) b.parted.whole (left-mem b.before (chain xs r.gap.rest r.gap.right) k m)

      stair-room : (k : ℕ) → k ∈ stair_of xs s → InTable xs k
      stair-room k m = room k (mem-left k (stair_of xs s) (s.at ∷ later xs s) m)

      pub pass-releasable : Releasable xs r.gap
      pass-releasable =
          record {
            rooms = λ k m. stair-room k (right-stair k m);
            once = once-ascending (third (cost_at base)) (chain xs r.gap.rest r.gap.right) (right-ascending (third (cost_at base)) b.before (chain xs r.gap.rest r.gap.right) asc);
            few = omega (arith, b.parted.count);
          }

      module _ {zs : List ℕ} {low : Gap} (w : Released v (fig (cost_at xs s.at) 1) xs zs r.gap low) where
        after-stair : (k : ℕ) → k ∈ chain zs low.rest low.right → k ∈ chain xs r.gap.rest r.gap.right
        after-stair k m = subst (λ (l : List ℕ). k ∈ l) (sym w.rows.parts) (mem-right k w.rows.gone (chain zs low.rest low.right) m)

        gone-stair : (k : ℕ) → k ∈ w.rows.gone → k ∈ chain xs r.gap.rest r.gap.right
        gone-stair k m = subst (λ (l : List ℕ). k ∈ l) (sym w.rows.parts) (mem-left k w.rows.gone (chain zs low.rest low.right) m)

        both : (k : ℕ) → k ∈ b.before → k ∈ chain xs r.gap.rest r.gap.right → ⊥
        both = never_both (third (cost_at base)) b.before (chain xs r.gap.rest r.gap.right) asc

        fits : Fits zs low s.at r.gap.right b.before
        fits =
            record {
              room = in_table w.rows.differ.same_length pass-room;
              left-room = λ j m. in_table w.rows.differ.same_length (stair-room j (left-stair j m));
              count = omega (arith, b.parted.count, w.rows.fewer, w.rows.least);
              back = subst (λ (f : ℕ). Back zs f b.before r.gap.right) (sym w.rows.same_first) (back-kept xs zs r.gap.first b.before r.gap.right (λ j m. differ-link w.rows.gone w.rows.differ j (λ n. both j m (gone-stair j n))) b.parted.back);
              left_is = subst (λ (l : ℕ). Heads l b.before) (sym w.rows.same_left) b.parted.left_is;
              new-left = λ m. never-stair s.at s.at (inl refl) (left-stair s.at m) refl;
              new-right = λ m. never-stair s.at s.at (inl refl) (right-stair s.at (after-stair s.at m)) refl;
              once = once-left (third (cost_at base)) b.before (chain xs r.gap.rest r.gap.right) asc;
              both = λ j m n. both j m (after-stair j n);
            }

        small : low.rows ≤ s.size
        small = omega (arith, w.rows.fewer, w.rows.least, parted-rows xs r.gap s.size s.top b.before b.parted)

        pub pass-linkable : Linkable zs low s.at
        pass-linkable =
            record {
              room = fits.room.room;
              left-room = λ n. (left-in-table low b.before fits.count fits.left_is fits.left-room n).room;
              few = omega (arith, small, p.few);
            }

        pub sweeps-taken : (ys : List ℕ) (t : Gap) → ys ≡ link_in zs low s.at → t ≡ in_gap low s.at
            → Sweeps base v ys (record { at = number xs (s.at * 5); rest = s.rest - 1; top = t.first; size = t.rows; count = s.count + 1; row = s.at }) fs
        sweeps-taken ys t ey et =
            rw (ey, et)
            record {
              on = rw (parted-whole (link_in zs low s.at) (in_gap low s.at) (onto b.before (s.at ∷ chain zs low.rest low.right)) (s.at ∷ b.before) (linked zs low s.at r.gap.right b.before fits), same_ahead)
                  (passed-taken base v xs zs (link_in zs low s.at) s.at b.before w.rows.gone (chain zs low.rest low.right) (later xs s) s.count s.row fs whole taken);
              few = omega (arith, small, p.few);
              few-counted = omega (arith, p.few-counted);
            }
          where
            parts : stair_of xs s ≡ onto b.before (w.rows.gone ++ chain zs low.rest low.right)
            parts = sym b.parted.whole ∙ ap (onto b.before) w.rows.parts

            whole : SweepsOn base v xs (onto b.before (w.rows.gone ++ chain zs low.rest low.right)) (s.at ∷ later xs s) s.count s.row fs
            whole = subst (λ (l : List ℕ). SweepsOn base v xs l (s.at ∷ later xs s) s.count s.row fs) parts on

            same_ahead : chain (link_in zs low s.at) (s.rest - 1) (number xs (s.at * 5)) ≡ later xs s
            same_ahead =
                chain-kept xs (link_in zs low s.at) (s.rest - 1) (number xs (s.at * 5))
                (λ j m. differ-link (s.at ∷ b.before) (link-differ zs low s.at r.gap.right b.before fits) j (λ n. ⊎_elim (never-next j m) (λ k. never-stair j j (inr m) (left-stair j k) refl) n)
                ∙ differ-link w.rows.gone w.rows.differ j (λ n. never-stair j j (inr m) (right-stair j (gone-stair j n)) refl))

            zs-costs : cost_at zs ≡ cost_at base
            zs-costs = differ-costs w.rows.gone w.rows.differ ∙ costs

            taken : Taken base v xs zs (link_in zs low s.at) s.at b.before w.rows.gone (chain zs low.rest low.right)
            taken =
                record {
                  alone = subst (λ (l : List ℕ). led_by (cost_at base) l s.at ≡ false) parts (subst (λ (d : ℕ → Cost). led_by d (stair_of xs s) s.at ≡ false) costs (sym c.led-is ∙ e));
                  below = λ k m. subst (λ (d : ℕ → Cost). fig (d k) 2 < fig (d s.at) 2) costs (b.below k m);
                  above = λ k m. subst (λ (d : ℕ → Cost). fig (d s.at) 2 ≤ fig (d k) 2) costs (b.above k (gone-stair k m));
                  dear = λ k m. subst (λ (d : ℕ → Cost). fig (d s.at) 1 ≤ fig (d k) 1) costs (w.rows.dear k m);
                  cheap = λ k q m. cheap k low.rest refl q m;
                  gone = w.rows.differ;
                  freed = w.rows.freed;
                  put_in = link-differ zs low s.at r.gap.right b.before fits;
                }
              where
                cheap : (k n : ℕ) → low.rest ≡ n → Heads k (chain zs low.rest low.right) → k ∈ chain zs low.rest low.right → fig (cost_at base k) 1 < fig (cost_at base s.at) 1
                cheap k zero z q m = absurd (subst (λ (l : List ℕ). k ∈ l) (chain-none zs low.rest low.right z) m)
                cheap k (suc n) z q m =
                    let g : 0 < low.rest = omega arith in
                    let i : k ≡ low.right = subst (Heads k) (chain_head zs low.rest low.right g) q in
                    subst (λ (j : ℕ). fig (cost_at base j) 1 < fig (cost_at base s.at) 1) (sym i)
                    (subst (λ (d : ℕ → Cost). fig (cost_at base low.right) 1 < fig (d s.at) 1) costs (subst (λ (d : ℕ → Cost). fig (d low.right) 1 < fig (cost_at xs s.at) 1) zs-costs (w.cheap g)))
