-- Items of a list chained by a key, of which each item has one: the corridors by one of their places, the closures by the place that they lead to and
-- their step. For each key one more than the last item of that key; then for each item one more than the last before it of the same key.
use Rattle.std.specs.Prelude.{◌≡◌, List, ◌⊎◌, ℕ, ◌+◌, ◌*◌, ◌-◌, ◌/◌, ◌%◌, ◌≤◌, ◌<◌, get_or, set}
use Rattle.std.proofs.Common.{sym, ap₂, ◌∙◌, subst, inl, inr, ⊎_elim, arith}
use Rattle.sheet.specs.Laws.Decided.{lt-or-le}
use Rattle.arrivals.specs.Rows.{Besides}

-- where a chain begins, how many keys there are, where two numbers of each item stand, and the key that they make
pub record Chain : Type 0 where
  pub first : ℕ
  pub keys : ℕ
  pub at : ℕ → ℕ
  pub by : ℕ → ℕ
  pub of : ℕ → ℕ → ℕ

-- the corridors by place q: the one that they come from where q is 0, the one that they lead to where q is 1
abbrev pub by_place : ℕ → Chain
by_place q = record { first = 192 + q * 320; keys = 64; at = λ j. 832 + j * 5 + q; by = λ j. 832 + j * 5 + q; of = λ u v. u }

-- the cell of a place and a step: sixteen for each place, one for each run of sixteen steps
abbrev pub cell : ℕ → ℕ → ℕ
cell v s = v * 16 + s / 16 % 16

-- the closures by the cell of the place that they lead to and their step
abbrev pub by_cell : Chain
by_cell = record { first = 2436; keys = 1024; at = λ x. 3716 + x * 3 + 1; by = λ x. 3716 + x * 3 + 2; of = cell }

abbrev pub last_of : Chain → List ℕ → ℕ → ℕ
last_of k net v = get_or net (k.first + v) 0

abbrev pub next_of : Chain → List ℕ → ℕ → ℕ
next_of k net j = get_or net (k.first + k.keys + j) 0

abbrev pub key_of : Chain → List ℕ → ℕ → ℕ
key_of k net j = k.of (get_or net (k.at j) 0) (get_or net (k.by j) 0)

-- past the chain of at most 256 items
abbrev pub past_of : Chain → ℕ
past_of k = k.first + k.keys + 256

-- the numbers that make the keys stand outside of lo to hi
abbrev pub Outside : Chain → ℕ → ℕ → Type 0
Outside k lo hi = (j : ℕ) → j < 256 → ((k.at j < lo) ⊎ (hi ≤ k.at j)) × ((k.by j < lo) ⊎ (hi ≤ k.by j))

pub key-kept : {lo hi : ℕ} {a b : List ℕ} (k : Chain) → Outside k lo hi → Besides lo hi a b → (j : ℕ) → j < 256 → key_of k b j ≡ key_of k a j
key-kept k out kept j l = ap₂ k.of (kept.same (k.at j) (out j l).0) (kept.same (k.by j) (out j l).1)

-- the items below m are chained
pub record Chained (k : Chain) (net : List ℕ) (m : ℕ) : Type 0 where
  pub head : (v j : ℕ) → v < k.keys → last_of k net v ≤ j → j < m → key_of k net j ≡ v → ⊥
  pub heads : (v : ℕ) → v < k.keys → last_of k net v ≤ m
  pub next : (i j : ℕ) → j < m → next_of k net j ≤ i → i < j → key_of k net i ≡ key_of k net j → ⊥
  pub nexts : (j : ℕ) → j < m → next_of k net j ≤ j

-- r is one more than the last item before j whose key is v, as far as the chain shows
pub record NextOne (k : Chain) (net : List ℕ) (v j r : ℕ) : Type 0 where
  pub most : r ≤ j
  pub none : (i : ℕ) → r ≤ i → i < j → key_of k net i ≡ v → ⊥

-- none of the items below m of key v, from item j on, has P
pub record Passed (k : Chain) (net : List ℕ) (m v : ℕ) (P : ℕ → Type 0) (j : ℕ) : Type 0 where
  pub most : j ≤ m
  pub none : (i : ℕ) → j ≤ i → i < m → key_of k net i ≡ v → P i → ⊥

pub passed-next : {k : Chain} {net : List ℕ} {m v : ℕ} {P : ℕ → Type 0} {j r : ℕ} → 0 < j → (P (j - 1) → ⊥) → NextOne k net v (j - 1) r
    → Passed k net m v P j → Passed k net m v P r
passed-next {k} {net} {m} {v} {P} {j} {r} o n x w =
    record {
      most = omega (arith, x.most, w.most);
      none = λ i a b c p. ⊎_elim
          (λ lt. x.none i a lt c)
          (λ ge. ⊎_elim (λ lt. let e : i ≡ j - 1 = omega arith in n (subst P e p)) (λ le. w.none i le b c p) (lt-or-le i j))
          (lt-or-le i (j - 1));
    }

pub passed-all : {k : Chain} {net : List ℕ} {m v : ℕ} {P : ℕ → Type 0} {j : ℕ} → j ≤ 0 → Passed k net m v P j → (i : ℕ) → i < m → key_of k net i ≡ v → P i → ⊥
passed-all z w i b c p = w.none i (omega arith) b c p

-- numbers that are neither of the chain nor keys play no part in it
pub chained-kept : {lo hi : ℕ} {a b : List ℕ} (k : Chain) (m : ℕ) → m ≤ 256 → (hi ≤ k.first) ⊎ (past_of k ≤ lo)
    → Outside k lo hi → Besides lo hi a b → Chained k a m → Chained k b m
chained-kept {lo} {hi} {a} {b} k m few apart keys kept w =
    record {
      head = λ v j c x y z. w.head v j c (omega (arith, last v c)) y (sym (key j (omega arith)) ∙ z);
      heads = λ v c. omega (arith, last v c, w.heads v c);
      next = λ i j c x y z. w.next i j c (omega (arith, step j (omega arith))) y (sym (key i (omega arith)) ∙ z ∙ key j (omega arith));
      nexts = λ j c. omega (arith, step j (omega arith), w.nexts j c);
    }
  where
    last : (v : ℕ) → v < k.keys → last_of k b v ≡ last_of k a v
    last v l = kept.same (k.first + v) (⊎_elim (λ x. inr (omega arith)) (λ x. inl (omega arith)) apart)

    step : (j : ℕ) → j < 256 → next_of k b j ≡ next_of k a j
    step j l = kept.same (k.first + k.keys + j) (⊎_elim (λ x. inr (omega arith)) (λ x. inl (omega arith)) apart)

    key : (j : ℕ) → j < 256 → key_of k b j ≡ key_of k a j
    key j l = key-kept k keys kept j l

-- the list with item m put into the chain of key v, where the chain begins at first and has so many keys
abbrev pub chained_with : ℕ → ℕ → List ℕ → ℕ → ℕ → List ℕ
chained_with first keys net v m = set (set net (first + keys + m) (get_or net (first + v) 0)) (first + v) (m + 1)
