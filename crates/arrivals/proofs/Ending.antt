-- The table that a search leaves, as one equation: the rows, oldest first, are the leading arrivals, and the table is their numbers and then
-- zeros; where there is no room, the rows found and the one more are leading arrivals, so that there are more of them than room.
-- These laws stand here, and not in specs/, so that a must-fail edit of what they rest on is refused by them, and not as a text that cannot be read.
-- Assumes nothing.
use Rattle.std.specs.Prelude.{◌≡◌, Bool, true, false, ◌⊎◌, ℕ, zero, suc, ◌+◌, ◌*◌, ◌-◌, ◌≤◌, ◌<◌, ◌/◌, get_or, Result, Ok, Err}
use Rattle.std.proofs.Math.Path.{refl, sym, ap, ap₂}
use Rattle.std.proofs.Common.{◌∙◌, subst, inl, inr, ⊎_elim, arith, length-append, ext_get_or, take-suc, length-take-le, lt-ltb, le-ltb}
use mathlib.Core.List.{List, ◌∷◌, ◌++◌, reverse, reverse-cons, append-nil, append_assoc, []}
use Rattle.std.proofs.Math.ListN.{length, take, replicate}
use Rattle.std.proofs.lemmas.List.{length-reverse, length-replicate}
use Rattle.sheet.specs.Lists.{◌∈◌, numbers_from, number, bind, Lex}
use Rattle.sheet.specs.Sorting.{Ascending}
use Rattle.sheet.specs.Sheet.{Sheet, steps}
use Rattle.sheet.specs.declared.refusal.Refusal.{Refusal}
use Rattle.sheet.specs.Laws.Binds.{bind-append}
use Rattle.sheet.specs.Laws.Order.{Lex-irrefl, Lex-trans}
use Rattle.sheet.specs.Laws.Members.{mem-left, mem-right, mem-append}
use Rattle.sheet.specs.Laws.Ascending.{before-all, ascending-append, ascending-unique}
use Rattle.arrivals.specs.Arrivals.{Arrival, key_of}
use Rattle.arrivals.specs.Computed.{leading}
use Rattle.arrivals.specs.Table.{arrival_row, crowded, arrival_table}
use Rattle.arrivals.specs.Search.{SearchEnd, search_on, search_end}
use Rattle.sheet.specs.Laws.Decided.{lt-or-le, In, here, there, in_all}
use Rattle.arrivals.specs.Rows.{Row, row_at}
use Rattle.arrivals.specs.Inner.Rows.{rows_of, count-rows}
use Rattle.arrivals.specs.Inner.Network.{Case}
use Rattle.arrivals.specs.Inner.Filling.{RowBefore, Falling, none-falling, more-falling, Filled, Crowded}
use Rattle.arrivals.specs.Inner.Meaning.{Fits}
use Rattle.arrivals.specs.Inner.Ending.{Search, cut_below, cut-past}
use Rattle.arrivals.specs.Inner.Outcomes.{served}
use Rattle.arrivals.proofs.Leading.{is_leading, leading-is, leading-ascending}
use Rattle.arrivals.proofs.Meaning.{rows-lead, leads-rows, filling-lead}

-- members
in_mem : {r : Row} {rs : List Row} → In r rs → r ∈ rs
in_mem (here p) = inl (sym p)
in_mem (there a) = inr (in_mem a)

mem-in : {r : Row} (rs : List Row) → r ∈ rs → In r rs
mem-in [] m = absurd m
mem-in (q ∷ rs) (inl e) = here (sym e)
mem-in (q ∷ rs) (inr m) = there (mem-in rs m)

reverse-mem : (a : Row) (l : List Row) → a ∈ reverse l → a ∈ l
reverse-mem a [] m = m
reverse-mem a (x ∷ l) m = go (mem-append a (reverse l) (x ∷ []) (subst (λ (k : List Row). a ∈ k) (reverse-cons x l) m)) (reverse-mem a l)
  where
    go : a ∈ reverse l ⊎ a ∈ (x ∷ []) → (a ∈ reverse l → a ∈ l) → a ∈ (x ∷ l)
    go (inl n) f = inr (f n)
    go (inr (inl e)) f = inl e
    go (inr (inr n)) f = absurd n

mem-reverse : (a : Row) (l : List Row) → a ∈ l → a ∈ reverse l
mem-reverse a [] m = m
mem-reverse a (x ∷ l) (inl e) = subst (λ (k : List Row). a ∈ k) (sym (reverse-cons x l)) (mem-right a (reverse l) (x ∷ []) (inl e))
mem-reverse a (x ∷ l) (inr m) = subst (λ (k : List Row). a ∈ k) (sym (reverse-cons x l)) (mem-left a (reverse l) (x ∷ []) (mem-reverse a l m))

-- the rows, oldest first, ascend
row-lex : (a r : Row) → RowBefore a r → Lex (key_of a) (key_of r)
row-lex a r b = ⊎_elim (λ l. ⊎_elim (λ x. inl x) (λ x. inr (x.0, inl x.1)) l) (λ x. inr (x.0, inr (x.1, x.2))) b.order

falling-ascending : {rs : List Row} → Falling rs → Ascending key_of (reverse rs)
falling-ascending none-falling = tt
falling-ascending (more-falling {r} {rs} all f) =
    subst (Ascending key_of) (sym (reverse-cons r rs)) (ascending-append key_of (reverse rs) (r ∷ []) (falling-ascending f) (tt, tt) (λ a b m n. last a b m n))
  where
    last : (a b : Row) → a ∈ reverse rs → b ∈ (r ∷ []) → Lex (key_of a) (key_of b)
    last a b m (inl e) = subst (λ (x : Row). Lex (key_of a) (key_of x)) (sym e) (row-lex a r (in_all (mem-in rs (reverse-mem a rs m)) all))
    last a b m (inr n) = absurd n

-- the rows of a finished search, oldest first, are the leading arrivals
rows-leading : (s : Sheet) (k : Case) → Fits s k → (rs : List Row) → Filled k rs (steps s + 1) 0 → reverse rs ≡ leading s
rows-leading s k fit rs f =
    ascending-unique key_of (reverse rs) (leading s) (falling-ascending f.ascending) (leading-ascending s)
    (λ a m. is_leading s a (rows-lead s k fit rs f a (mem-in rs (reverse-mem a rs m))))
    (λ a m. mem-reverse a rs (in_mem (leads-rows s k fit rs f a (leading-is s a m))))

-- an ascending list among the members of another is no longer
shorter : (l k : List Arrival) → Ascending key_of l → Ascending key_of k → ((a : Arrival) → a ∈ l → a ∈ k) → length l ≤ length k
shorter [] k p q f = omega arith
shorter (x ∷ l) [] p q f = absurd (f x (inl refl))
shorter (x ∷ l) (y ∷ k) p q f = go (f x (inl refl)) (shorter l k p.1 q.1) (shorter (x ∷ l) k p q.1)
  where
    apart : (a : Arrival) → Lex (key_of x) (key_of a) → x ≡ y → a ∈ (y ∷ k) → a ∈ k
    apart a b e (inl d) = absurd (Lex-irrefl (key_of a) (subst (λ (z : Arrival). Lex (key_of z) (key_of a)) (e ∙ sym d) b))
    apart a b e (inr m) = m

    later : (a : Arrival) → Lex (key_of y) (key_of a) → a ∈ (y ∷ k) → a ∈ k
    later a b (inl d) = absurd (Lex-irrefl (key_of a) (subst (λ (z : Arrival). Lex (key_of z) (key_of a)) (sym d) b))
    later a b (inr m) = m

    above : x ∈ k → (a : Arrival) → a ∈ (x ∷ l) → Lex (key_of y) (key_of a)
    above m a (inl e) = subst (λ (z : Arrival). Lex (key_of y) (key_of z)) (sym e) (before-all key_of y k q.0 q.1 x m)
    above m a (inr n) = Lex-trans (key_of y) (key_of x) (key_of a) (before-all key_of y k q.0 q.1 x m) (before-all key_of x l p.0 p.1 a n)

    go : x ∈ (y ∷ k) → (((a : Arrival) → a ∈ l → a ∈ k) → length l ≤ length k) → (((a : Arrival) → a ∈ (x ∷ l) → a ∈ k) → length (x ∷ l) ≤ length k) → length (x ∷ l) ≤ length (y ∷ k)
    go (inl e) g h = let r = g (λ a m. apart a (before-all key_of x l p.0 p.1 a m) e (f a (inr m))) in omega arith
    go (inr m) g h = let r = h (λ a n. later a (above m a n) (f a n)) in omega arith

-- where there is no room, there are more leading arrivals than room
crowded-more : (s : Sheet) (k : Case) → Fits s k → (room : ℕ) → Crowded k room (steps s + 1) 0 → room < length (leading s) * 5
crowded-more s k fit room c =
    let le : c.step ≤ steps s = ⊎_elim (λ a. omega arith) (λ a. absurd (omega (arith, a.1))) c.before in
    let r = shorter (reverse c.rows) (leading s) (falling-ascending c.filling.ascending) (leading-ascending s)
    (λ a m. is_leading s a (filling-lead s k fit c.rows c.step c.place c.filling le a (mem-in c.rows (reverse-mem a c.rows m)))) in
    omega (arith, length-reverse c.rows, c.more)

-- the numbers of the rows are the front of the table
take_more : (w a : ℕ) (xs : List ℕ) → a + w ≤ length xs → take (a + w) xs ≡ take a xs ++ numbers_from w a xs
take_more zero a xs h = let e : a + 0 ≡ a = omega arith in ap (λ (n : ℕ). take n xs) e ∙ sym (append-nil (take a xs))
take_more (suc w) a xs h =
    let e : a + suc w ≡ suc a + w = omega arith in
    ap (λ (n : ℕ). take n xs) e ∙ take_more w (suc a) xs (omega arith) ∙ ap (λ (l : List ℕ). l ++ numbers_from w (suc a) xs) (take-suc xs a 0 (omega arith))
    ∙ append_assoc (take a xs) (number xs a ∷ []) (numbers_from w (suc a) xs)

row-numbers : (xs : List ℕ) (n : ℕ) → arrival_row (row_at xs n) ≡ numbers_from 5 (n * 5) xs
row-numbers xs n =
    let e : n * 5 + 1 ≡ suc (n * 5) = omega arith in
    let d : n * 5 + 2 ≡ suc (suc (n * 5)) = omega arith in
    ap₂ (λ (i j : ℕ). number xs (n * 5) ∷ number xs i ∷ numbers_from 3 j xs) e d

table-rows : (xs : List ℕ) (n : ℕ) → n * 5 ≤ length xs → bind (reverse (rows_of xs n)) arrival_row ≡ take (n * 5) xs
unfolding rows_of
table-rows xs zero h = refl
table-rows xs (suc n) h =
    let e : suc n * 5 ≡ n * 5 + 5 = omega arith in
    ap (λ (l : List Row). bind l arrival_row) (reverse-cons (row_at xs n) (rows_of xs n))
    ∙ bind-append arrival_row (reverse (rows_of xs n)) (row_at xs n ∷ [])
    ∙ ap₂ (λ (a b : List ℕ). a ++ b) (table-rows xs n (omega arith)) (append-nil (arrival_row (row_at xs n)) ∙ row-numbers xs n)
    ∙ sym (take_more 5 (n * 5) xs (omega arith))
    ∙ ap (λ (i : ℕ). take i xs) (sym e)

-- a table with zeros from a on
zeros-after : (xs : List ℕ) (a size : ℕ) → length xs ≡ size → a ≤ size → ((j : ℕ) → a ≤ j → get_or xs j 0 ≡ 0) → xs ≡ take a xs ++ replicate (size - a) 0
zeros-after xs a size e l h =
    ext_get_or 0 xs (take a xs ++ replicate (size - a) 0) (omega (arith, length-append (take a xs) (replicate {A = ℕ} (size - a) 0), length-take-le a xs (omega arith), length-replicate {A = ℕ} (size - a) 0))
    (λ j m. ⊎_elim (λ lt. sym (cut_below xs a (size - a) (omega arith) j lt)) (λ ge. h j ge ∙ sym (cut-past xs a (size - a) (omega arith) j ge)) (lt-or-le j a))

end-path : {a c : Bool} {b d : ℕ} {x y : List ℕ} → a ≡ c → b ≡ d → x ≡ y → ◌≡◌ {A = SearchEnd} (record { served = a; arrivals = b; table = x }) (record { served = c; arrivals = d; table = y })
end-path p q r = λ i. record { served = p i; arrivals = q i; table = r i }

-- what the search leaves is what the definition says
module _ (s : Sheet) (k : Case) (fit : Fits s k) (xs ys : List ℕ) (n : ℕ) where
  ended-well : (e : Search k (steps s + 1) (length xs) ys true n) → ◌≡◌ {A = SearchEnd} (record { served = true; arrivals = n; table = ys }) (search_on s xs)
  unfolding search_on crowded arrival_table
  ended-well e =
      let f = e.done refl in
      let r : reverse (rows_of ys n) ≡ leading s = rows-leading s k fit (rows_of ys n) f in
      let count : n ≡ length (leading s) = sym (count-rows ys n) ∙ sym (length-reverse (rows_of ys n)) ∙ ap length r in
      let size : length ys ≡ length xs = e.same in
      let room : n * 5 ≤ length xs = e.room in
      let front : take (n * 5) ys ≡ bind (leading s) arrival_row = sym (table-rows ys n (omega arith)) ∙ ap (λ (l : List Row). bind l arrival_row) r in
      let wide : n * 5 ≡ length (bind (leading s) arrival_row) = sym (length-take-le (n * 5) ys (omega arith)) ∙ ap length front in
      rw (le-ltb (length xs / 5) (length (leading s)) (omega arith))
      (end-path refl count (zeros-after ys (n * 5) (length xs) size room e.rest ∙ ap₂ (λ (l : List ℕ) (a : ℕ). l ++ replicate (length xs - a) 0) front wide))

  ended-full : (e : Search k (steps s + 1) (length xs) ys false n) → ◌≡◌ {A = SearchEnd} (record { served = false; arrivals = n; table = ys }) (search_on s xs)
  unfolding search_on crowded
  ended-full e =
      let f = e.full refl in
      let none : n ≡ 0 = f.0 in
      let more = crowded-more s k fit (length xs) f.1 in
      rw (lt-ltb (length xs / 5) (length (leading s)) (omega arith))
      (end-path refl none (zeros-after ys 0 (length xs) e.same (omega arith) (λ j l. e.rest j (omega arith))))

  pub search-end : (ok : Bool) → Search k (steps s + 1) (length xs) ys ok n → ◌≡◌ {A = SearchEnd} (record { served = ok; arrivals = n; table = ys }) (search_on s xs)
  search-end true e = ended-well e
  search-end false e = ended-full e

-- the same of an answer
pub search-answer : (s : Sheet) (k : Case) (fit : Fits s k) (xs ys : List ℕ) (r : Result ℕ Refusal) → Search k (steps s + 1) (length xs) ys (served r).ok (served r).rows
    → search_end r ys ≡ search_on s xs
search-answer s k fit xs ys (Ok n) e = search-end s k fit xs ys n true e
search-answer s k fit xs ys (Err f) e = search-end s k fit xs ys 0 false e
