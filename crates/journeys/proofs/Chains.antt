-- Laws of chains: a gap moves along a chain and back to its start, a row is put into a gap, and a table that differs in the place column of rows has the
-- same costs. Of an ascending chain, what stands left of a gap is apart from what stands right of it, so that a store to one row leaves the links of
-- the others.
-- Assumes nothing.
use mathlib.Core.Path.{◌≡◌, refl, sym, ◌∙◌, ap, subst}
use mathlib.Core.Logic.{◌⊎◌, inl, inr, ⊎_elim}
use mathlib.Core.Bool.{Bool, true, false}
use mathlib.Core.List.{List, [], ◌∷◌, ◌++◌, append_assoc}
use Prim.Native.Nat.{ℕ, zero, suc, ◌+◌, ◌*◌, ◌-◌, ◌≤◌, ◌<◌}
use native.Mathlib.Omega.{arith}
use lib.Dec.{eqb}
use lib.ListN.{length, set, length-set}
use lib.Seq.{get_or-set_same, get_or-set_other, ext_get_or}
use borrow.Author.Tests.{eq-eqb, ne_eqb, eqb-true, eqb-false}
use Rattle.sheet.specs.Lists.{◌∈◌, number, Lex}
use Rattle.sheet.specs.Sorting.{Before, Ascending}
use Rattle.sheet.specs.Laws.Order.{Lex-irrefl}
use Rattle.sheet.specs.Laws.Members.{mem-left, mem-right, mem-append}
use Rattle.sheet.specs.Laws.Ascending.{before-all}
use Rattle.costs.specs.Costs.{Cost, figures, fig}
use Rattle.sheet.specs.Laws.Decided.{from-same}
use Rattle.arrivals.specs.Rows.{cost_at}
use Rattle.journeys.specs.Inner.Chain.{chain, Back, onto, Heads, Once, Differ, InTable, Parted, Stands, start_of, next_of, less_of, link_in, in_gap, Releasable, Gone}
use Rattle.journeys.specs.declared.chain.Gap.{Gap}

-- the rows of a chain
pub chain_head : (xs : List ℕ) (n at : ℕ) → 0 < n → chain xs n at ≡ at ∷ chain xs (n - 1) (number xs (at * 5))
chain_head xs zero at h = absurd (omega arith)
chain_head xs (suc n) at h = let z : suc n - 1 ≡ n = omega arith in rw z

pub chain-none : (xs : List ℕ) (n at : ℕ) → n ≡ 0 → chain xs n at ≡ []
chain-none xs n at e = rw e

pub chain-kept : (xs ys : List ℕ) (n at : ℕ) → ((k : ℕ) → k ∈ chain xs n at → number ys (k * 5) ≡ number xs (k * 5)) → chain ys n at ≡ chain xs n at
chain-kept xs ys zero at h = refl
chain-kept xs ys (suc n) at h =
    ap (λ (l : List ℕ). at ∷ l) (ap (chain ys n) (h at (inl refl)) ∙ chain-kept xs ys n (number xs (at * 5)) (λ k m. h k (inr m)))

pub back-kept : (xs ys : List ℕ) (first : ℕ) (ls : List ℕ) (at : ℕ) → ((k : ℕ) → k ∈ ls → number ys (k * 5) ≡ number xs (k * 5)) → Back xs first ls at → Back ys first ls at
back-kept xs ys first [] at h b = b
back-kept xs ys first (l ∷ ls) at h b = (h l (inl refl) ∙ b.0, back-kept xs ys first ls l (λ k m. h k (inr m)) b.1)

rejoin : (xs : List ℕ) (first : ℕ) (ls : List ℕ) (n at : ℕ) → Back xs first ls at → chain xs (length ls + n) first ≡ onto ls (chain xs n at)
rejoin xs first [] n at b = let z : 0 + n ≡ n = omega arith in rw (z, b)
rejoin xs first (l ∷ ls) n at b =
    let z : suc (length ls) + n ≡ length ls + suc n = omega arith in
    ap (λ (m : ℕ). chain xs m first) z ∙ rejoin xs first ls (suc n) l b.1 ∙ ap (λ (i : ℕ). onto ls (l ∷ chain xs n i)) b.0

-- gaps
pub parted-start : (xs : List ℕ) (first rows : ℕ) → Parted xs (start_of first rows) (chain xs rows first) []
parted-start xs first rows = record { count = omega arith; back = refl; left_is = tt; whole = refl }

pub parted-next : (xs : List ℕ) (g : Gap) (ks ls : List ℕ) → 0 < g.rest → Parted xs g ks ls → Parted xs (next_of xs g) ks (g.right ∷ ls)
parted-next xs g ks ls h p =
    record { count = omega (arith, p.count); back = (refl, p.back); left_is = refl; whole = ap (onto ls) (sym (chain_head xs g.rest g.right h)) ∙ p.whole }

chain_length : (xs : List ℕ) (n at : ℕ) → length (chain xs n at) ≡ n
chain_length xs zero at = refl
chain_length xs (suc n) at = ap suc (chain_length xs n (number xs (at * 5)))

onto-length : (ls rs : List ℕ) → length (onto ls rs) ≡ length ls + length rs
onto-length [] rs = omega arith
onto-length (l ∷ ls) rs = omega (arith, onto-length ls (l ∷ rs))

pub parted-rows : (xs : List ℕ) (g : Gap) (n at : ℕ) (ls : List ℕ) → Parted xs g (chain xs n at) ls → g.rows ≡ n
parted-rows xs g n at ls p =
    omega (arith, p.count, onto-length ls (chain xs g.rest g.right), chain_length xs g.rest g.right, chain_length xs n at, ap length p.whole)

pub stands-start : (xs : List ℕ) (first rows : ℕ) → Stands xs (start_of first rows) (chain xs rows first)
stands-start xs first rows = record { before = []; parted = parted-start xs first rows }

pub stands-next : (xs : List ℕ) (g : Gap) (ks : List ℕ) → 0 < g.rest → Stands xs g ks → Stands xs (next_of xs g) ks
stands-next xs g ks h s = record { before = g.right ∷ s.before; parted = parted-next xs g ks s.before h s.parted }

pub parted-whole : (xs : List ℕ) (g : Gap) (ks ls : List ℕ) → Parted xs g ks ls → chain xs g.rows g.first ≡ ks
parted-whole xs g ks ls p = ap (λ (n : ℕ). chain xs n g.first) (sym p.count) ∙ rejoin xs g.first ls g.rest g.right p.back ∙ p.whole

pub stands-back : (xs : List ℕ) (g : Gap) (ks : List ℕ) → Stands xs g ks → Stands xs (start_of g.first g.rows) ks
stands-back xs g ks s = subst (Stands xs (start_of g.first g.rows)) (parted-whole xs g ks s.before s.parted) (stands-start xs g.first g.rows)

-- the row before a gap, if there is one, is one of those left of it
pub left-in-table : {xs : List ℕ} (g : Gap) (ls : List ℕ) → length ls + g.rest ≡ g.rows → Heads g.left ls → ((j : ℕ) → j ∈ ls → InTable xs j) → (g.rest ≡ g.rows → ⊥) → InTable xs g.left
left-in-table g [] c h r n = absurd (n (omega arith))
left-in-table g (l ∷ ls) c h r n = r g.left (inl h)

-- members of both sides of a gap
pub right-mem : (ls rs : List ℕ) (k : ℕ) → k ∈ rs → k ∈ onto ls rs
right-mem [] rs k m = m
right-mem (l ∷ ls) rs k m = right-mem ls (l ∷ rs) k (inr m)

pub left-mem : (ls rs : List ℕ) (k : ℕ) → k ∈ ls → k ∈ onto ls rs
left-mem [] rs k m = absurd m
left-mem (l ∷ ls) rs k (inl e) = right-mem ls (l ∷ rs) k (inl e)
left-mem (l ∷ ls) rs k (inr m) = left-mem ls (l ∷ rs) k m

pub onto-mem : (ls rs : List ℕ) (k : ℕ) → k ∈ onto ls rs → k ∈ ls ⊎ k ∈ rs
onto-mem [] rs k m = inr m
onto-mem (l ∷ ls) rs k m = go (onto-mem ls (l ∷ rs) k m)
  where
    go : k ∈ ls ⊎ k ∈ (l ∷ rs) → k ∈ (l ∷ ls) ⊎ k ∈ rs
    go (inl n) = inl (inr n)
    go (inr (inl e)) = inl (inl e)
    go (inr (inr n)) = inr n

-- of an ascending chain, what stands right of a gap ascends; what stands left comes before it; and another right side may take its place
module _ (key : ℕ → List ℕ) where
  pub once-ascending : (ks : List ℕ) → Ascending key ks → Once ks
  once-ascending [] s = tt
  once-ascending (k ∷ ks) s = (λ m. Lex-irrefl (key k) (before-all key k ks s.0 s.1 k m), once-ascending ks s.1)

  pub right-ascending : (ls rs : List ℕ) → Ascending key (onto ls rs) → Ascending key rs
  right-ascending [] rs s = s
  right-ascending (l ∷ ls) rs s = (right-ascending ls (l ∷ rs) s).1

  pub apart : (ls rs : List ℕ) → Ascending key (onto ls rs) → (a b : ℕ) → a ∈ ls → b ∈ rs → Lex (key a) (key b)
  apart [] rs s a b m n = absurd m
  apart (l ∷ ls) rs s a b (inl e) n = let r = right-ascending ls (l ∷ rs) s in rw e (before-all key l rs r.0 r.1 b n)
  apart (l ∷ ls) rs s a b (inr m) n = apart ls (l ∷ rs) s a b m (inr n)

  pub onto-ascending : (ls rs qs : List ℕ) → Ascending key (onto ls rs) → Ascending key qs → ((a : ℕ) → Heads a ls → a ∈ ls → Before key a qs) → Ascending key (onto ls qs)
  onto-ascending [] rs qs s q h = q
  onto-ascending (l ∷ ls) rs qs s q h =
      onto-ascending ls (l ∷ rs) (l ∷ qs) s (h l refl (inl refl), q) (λ a e m. apart ls (l ∷ rs) s a l m (inl refl))

  -- the rows left of a gap, each once, and none of them right of it
  pub once-left : (ls rs : List ℕ) → Ascending key (onto ls rs) → Once ls
  once-left [] rs s = tt
  once-left (l ∷ ls) rs s = (λ m. Lex-irrefl (key l) (apart ls (l ∷ rs) s l l m (inl refl)), once-left ls (l ∷ rs) s)

  pub never_both : (ls rs : List ℕ) → Ascending key (onto ls rs) → (a : ℕ) → a ∈ ls → a ∈ rs → ⊥
  never_both ls rs s a m n = Lex-irrefl (key a) (apart ls rs s a a m n)

-- tables that differ in the place column of rows
pub differ-none : (xs ks : List ℕ) → Differ xs xs ks
differ-none xs ks = record { same_length = refl; kept = λ j n. refl }

pub differ-then : {xs ys zs : List ℕ} (ks ls : List ℕ) → Differ xs ys ks → Differ ys zs ls → ((k : ℕ) → k ∈ ls → k ∈ ks) → Differ xs zs ks
differ-then ks ls d e f = record { same_length = e.same_length ∙ d.same_length; kept = λ j n. e.kept j (λ k m. n k (f k m)) ∙ d.kept j n }

pub differ-as : {xs ys : List ℕ} (ks ls : List ℕ) → ((k : ℕ) → k ∈ ks → k ∈ ls) → Differ xs ys ks → Differ xs ys ls
differ-as ks ls f d = record { same_length = d.same_length; kept = λ j n. d.kept j (λ k m. n k (f k m)) }

pub differ-costs : {xs ys : List ℕ} (ks : List ℕ) → Differ xs ys ks → cost_at ys ≡ cost_at xs
differ-costs {xs} {ys} ks d = λ i k. same k i
  where
    same : (k : ℕ) → cost_at ys k ≡ cost_at xs k
    same k = from-same figures (k * 5 + 2) (k * 5 + 2) ys xs (λ i h. d.kept (k * 5 + 2 + i) (λ j m e. omega arith))

pub differ-link : {xs ys : List ℕ} (ks : List ℕ) → Differ xs ys ks → (k : ℕ) → (k ∈ ks → ⊥) → number ys (k * 5) ≡ number xs (k * 5)
differ-link ks d k n = d.kept (k * 5) (λ j m e. n (subst (λ (i : ℕ). i ∈ ks) (let z : j ≡ k = omega arith in z) m))

-- a store to the place column of row k
pub cell_same : (xs : List ℕ) (k a : ℕ) → InTable xs k → number (set xs (k * 5) a) (k * 5) ≡ a
cell_same xs k a r = get_or-set_same xs (k * 5) a 0 (omega (arith, r.room))

pub cell_other : (xs : List ℕ) (k j a : ℕ) → (j ≡ k → ⊥) → number (set xs (k * 5) a) (j * 5) ≡ number xs (j * 5)
cell_other xs k j a n = get_or-set_other xs (k * 5) (j * 5) a 0 (λ e. n (omega arith))

pub differ-set : (xs : List ℕ) (k a : ℕ) → Differ xs (set xs (k * 5) a) (k ∷ [])
differ-set xs k a = record { same_length = length-set xs (k * 5) a; kept = λ j n. get_or-set_other xs (k * 5) j a 0 (λ e. n k (inl refl) e) }

-- what stood in the place column of the rows ds put back
pub differ-freed : {base xs ys : List ℕ} (ks ds ls : List ℕ) → Differ base xs ks → Differ xs ys ds → ((d : ℕ) → d ∈ ds → number ys (d * 5) ≡ number base (d * 5)) → ((k : ℕ) → k ∈ ks → k ∈ ds ⊎ k ∈ ls)
    → Differ base ys ls
differ-freed {base} {xs} {ys} ks ds ls d e f g = record { same_length = e.same_length ∙ d.same_length; kept = λ j n. go j n (find j ds) }
  where
    find : (j : ℕ) (l : List ℕ) → ((k : ℕ) × (k ∈ l) × (j ≡ k * 5)) ⊎ ((k : ℕ) → k ∈ l → j ≡ k * 5 → ⊥)
    find j [] = inr (λ k m. absurd m)
    find j (x ∷ l) = here (eqb j (x * 5)) refl (find j l)
      where
        here : (b : Bool) → eqb j (x * 5) ≡ b → ((k : ℕ) × (k ∈ l) × (j ≡ k * 5)) ⊎ ((k : ℕ) → k ∈ l → j ≡ k * 5 → ⊥) → ((k : ℕ) × (k ∈ (x ∷ l)) × (j ≡ k * 5)) ⊎ ((k : ℕ) → k ∈ (x ∷ l) → j ≡ k * 5 → ⊥)
        here true q r = inl (x, inl refl, eqb-true j (x * 5) q)
        here false q (inl r) = inl (r.0, inr r.1, r.2)
        here false q (inr r) = inr (λ k m. ⊎_elim (λ z p. eqb-false j (x * 5) q (p ∙ ap (λ (i : ℕ). i * 5) z)) (r k) m)

    go : (j : ℕ) → ((k : ℕ) → k ∈ ls → j ≡ k * 5 → ⊥) → ((k : ℕ) × (k ∈ ds) × (j ≡ k * 5)) ⊎ ((k : ℕ) → k ∈ ds → j ≡ k * 5 → ⊥) → number ys j ≡ number base j
    go j n (inl r) = subst (λ (i : ℕ). number ys i ≡ number base i) (sym r.2) (f r.0 r.1)
    go j n (inr r) = e.kept j r ∙ d.kept j (λ k m p. ⊎_elim (λ w. r k w p) (λ w. n k w p) (g k m))

pub differ-end : {xs ys : List ℕ} → Differ xs ys [] → ys ≡ xs
differ-end {xs} {ys} d = ext_get_or 0 ys xs d.same_length (λ j h. d.kept j (λ k m. absurd m))

-- a row put into a gap, whose left side leads to any row r
pub record Fits (xs : List ℕ) (g : Gap) (k r : ℕ) (ls : List ℕ) : Type 0 where
  pub room : InTable xs k
  pub left-room : (j : ℕ) → j ∈ ls → InTable xs j
  pub count : length ls + g.rest ≡ g.rows
  pub back : Back xs g.first ls r
  pub left_is : Heads g.left ls
  pub new-left : k ∈ ls → ⊥
  pub new-right : k ∈ chain xs g.rest g.right → ⊥
  pub once : Once ls
  pub both : (a : ℕ) → a ∈ ls → a ∈ chain xs g.rest g.right → ⊥

pub linked : (xs : List ℕ) (g : Gap) (k r : ℕ) (ls : List ℕ) → Fits xs g k r ls → Parted (link_in xs g k) (in_gap g k) (onto ls (k ∷ chain xs g.rest g.right)) (k ∷ ls)
linked xs g k r [] f =
    let e : eqb g.rest g.rows ≡ true = eq-eqb g.rest g.rows (omega (arith, f.count)) in
    rw e
    record {
      count = omega (arith, f.count);
      back = (cell_same xs k g.right f.room, refl);
      left_is = refl;
      whole = ap (λ (q : List ℕ). k ∷ q) (chain-kept xs (set xs (k * 5) g.right) g.rest g.right (λ j m. cell_other xs k j g.right (λ p. f.new-right (subst (λ (i : ℕ). i ∈ chain xs g.rest g.right) p m))));
    }
linked xs g k r (l ∷ ls) f =
    let e : eqb g.rest g.rows ≡ false = ne_eqb g.rest g.rows (λ q. omega (arith, f.count)) in
    rw e
    record {
      count = omega (arith, f.count);
      back = (other k (λ q. f.new-left (inl (q ∙ f.left_is))) ∙ cell_same xs k g.right f.room, (here, back-kept xs zs g.first ls l (λ j m. kept j (λ q. f.once.0 (subst (λ (i : ℕ). i ∈ ls) (q ∙ f.left_is) m)) (λ q. f.new-left (inr (subst (λ (i : ℕ). i ∈ ls) q m)))) f.back.1));
      left_is = refl;
      whole = ap (λ (q : List ℕ). onto ls (l ∷ k ∷ q)) (chain-kept xs zs g.rest g.right (λ j m. kept j (λ q. f.both l (inl refl) (subst (λ (i : ℕ). i ∈ chain xs g.rest g.right) (q ∙ f.left_is) m)) (λ q. f.new-right (subst (λ (i : ℕ). i ∈ chain xs g.rest g.right) q m))));
    }
  where
    ys : List ℕ
    ys = set xs (k * 5) g.right

    zs : List ℕ
    zs = set ys (g.left * 5) k

    other : (j : ℕ) → (j ≡ g.left → ⊥) → number zs (j * 5) ≡ number ys (j * 5)
    other j n = cell_other ys g.left j k n

    kept : (j : ℕ) → (j ≡ g.left → ⊥) → (j ≡ k → ⊥) → number zs (j * 5) ≡ number xs (j * 5)
    kept j n m = other j n ∙ cell_other xs k j g.right m

    here : number zs (l * 5) ≡ k
    here =
        let q : g.left * 5 + 5 ≤ length ys = omega (arith, (f.left-room l (inl refl)).room, f.left_is, length-set xs (k * 5) g.right) in
        ap (λ (i : ℕ). number zs (i * 5)) (sym f.left_is) ∙ cell_same ys g.left k (record { room = q })

pub link-differ : (xs : List ℕ) (g : Gap) (k r : ℕ) (ls : List ℕ) → Fits xs g k r ls → Differ xs (link_in xs g k) (k ∷ ls)
link-differ xs g k r [] f =
    let e : eqb g.rest g.rows ≡ true = eq-eqb g.rest g.rows (omega (arith, f.count)) in
    rw e (differ-set xs k g.right)
link-differ xs g k r (l ∷ ls) f =
    let e : eqb g.rest g.rows ≡ false = ne_eqb g.rest g.rows (λ q. omega (arith, f.count)) in
    rw e (differ-then (k ∷ l ∷ ls) (g.left ∷ []) (differ-as (k ∷ []) (k ∷ l ∷ ls) first (differ-set xs k g.right)) (differ-set (set xs (k * 5) g.right) g.left k) second)
  where
    first : (j : ℕ) → j ∈ (k ∷ []) → j ∈ (k ∷ l ∷ ls)
    first j (inl q) = inl q
    first j (inr nowhere) = elim nowhere [ ]

    second : (j : ℕ) → j ∈ (g.left ∷ []) → j ∈ (k ∷ l ∷ ls)
    second j (inl q) = inr (inl (q ∙ f.left_is))
    second j (inr nowhere) = elim nowhere [ ]

-- rows taken out one by one
pub in_table : {xs ys : List ℕ} {k : ℕ} → length ys ≡ length xs → InTable xs k → InTable ys k
in_table e r = record { room = omega (arith, e, r.room) }

pub gone-none : (v bound : ℕ) (xs : List ℕ) (g : Gap) → Gone v bound xs xs g g
gone-none v bound xs g =
    record { gone = []; parts = refl; freed = λ d m. absurd m; differ = differ-none xs []; dear = λ d m. absurd m; same_first = refl; same_left = refl; fewer = omega arith; least = omega arith }

pub after-room : {xs : List ℕ} {g : Gap} → Releasable xs g → 0 < g.rest → InTable xs g.right
after-room {xs} {g} t h = t.rooms g.right (subst (λ (l : List ℕ). g.right ∈ l) (sym (chain_head xs g.rest g.right h)) (inl refl))

abbrev less_table : ℕ → List ℕ → Gap → List ℕ
less_table v ys r = set ys (r.right * 5) v

abbrev less_chain : List ℕ → Gap → List ℕ
less_chain ys r = chain ys (r.rest - 1) (number ys (r.right * 5))

module _ (v bound : ℕ) (xs ys : List ℕ) (g r : Gap) (s : Gone v bound xs ys g r) (t : Releasable ys r) (h : 0 < r.rest) where
  head : chain ys r.rest r.right ≡ r.right ∷ less_chain ys r
  head = chain_head ys r.rest r.right h

  once : Once (r.right ∷ less_chain ys r)
  once = subst Once head t.once

  same : chain (less_table v ys r) (r.rest - 1) (number ys (r.right * 5)) ≡ less_chain ys r
  same = chain-kept ys (less_table v ys r) (r.rest - 1) (number ys (r.right * 5)) (λ j m. cell_other ys r.right j v (λ e. once.0 (subst (λ (i : ℕ). i ∈ less_chain ys r) e m)))

  gone-more : bound ≤ fig (cost_at ys r.right) 1 → Gone v bound xs (less_table v ys r) g (less_of ys r)
  gone-more b =
      record {
        gone = s.gone ++ (r.right ∷ []);
        parts = s.parts ∙ ap (λ (l : List ℕ). s.gone ++ l) (head ∙ ap (λ (l : List ℕ). r.right ∷ l) (sym same)) ∙ sym (append_assoc s.gone (r.right ∷ []) (chain (less_table v ys r) (r.rest - 1) (number ys (r.right * 5))));
        freed = λ d m. freed d (mem-append d s.gone (r.right ∷ []) m) (eqb d r.right) refl;
        differ = differ-then (s.gone ++ (r.right ∷ [])) (r.right ∷ []) (differ-as s.gone (s.gone ++ (r.right ∷ [])) (λ k. mem-left k s.gone (r.right ∷ [])) s.differ) (differ-set ys r.right v) (λ k. mem-right k s.gone (r.right ∷ []));
        dear = λ d m. dear d (mem-append d s.gone (r.right ∷ []) m);
        same_first = s.same_first;
        same_left = s.same_left;
        fewer = omega (arith, s.fewer, t.few);
        least = omega (arith, s.least);
      }
    where
      freed : (d : ℕ) → d ∈ s.gone ⊎ d ∈ (r.right ∷ []) → (q : Bool) → eqb d r.right ≡ q → number (less_table v ys r) (d * 5) ≡ v
      freed d m true e = let z : d ≡ r.right = eqb-true d r.right e in rw z (cell_same ys r.right v (after-room t h))
      freed d (inl m) false e = cell_other ys r.right d v (eqb-false d r.right e) ∙ s.freed d m
      freed d (inr (inl q)) false e = absurd (eqb-false d r.right e q)
      freed d (inr (inr nowhere)) false e = elim nowhere [ ]

      dear : (d : ℕ) → d ∈ s.gone ⊎ d ∈ (r.right ∷ []) → bound ≤ fig (cost_at xs d) 1
      dear d (inl m) = s.dear d m
      dear d (inr (inl q)) = subst (λ (i : ℕ). bound ≤ fig (cost_at xs i) 1) (sym q) (subst (λ (c : ℕ → Cost). bound ≤ fig (c r.right) 1) (differ-costs s.gone s.differ) b)
      dear d (inr (inr nowhere)) = elim nowhere [ ]

  releasable-more : Releasable (less_table v ys r) (less_of ys r)
  releasable-more =
      record {
        rooms = λ k m. in_table (length-set ys (r.right * 5) v) (t.rooms k (subst (λ (l : List ℕ). k ∈ l) (sym head) (inr (subst (λ (l : List ℕ). k ∈ l) same m))));
        once = subst Once (sym same) once.1;
        few = omega (arith, t.few);
      }

  pub gone-next : (ws : List ℕ) (q : Gap) → ws ≡ set ys (r.right * 5) v → q ≡ less_of ys r → bound ≤ fig (cost_at ys r.right) 1 → Releasable ws q × Gone v bound xs ws g q
  gone-next ws q e f b = rw (e, f) (releasable-more, gone-more b)
