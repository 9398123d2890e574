-- The rows of one place and step, as they are gathered after the rows below a: costs are offered, and rows put in, moved and dropped.
use Rattle.std.specs.Prelude.{◌≡◌, refl, Bool, true, false, ◌⊎◌, length, get_or}
use Rattle.std.proofs.Common.{sym, ap, ap₂, ◌∙◌, subst, inl, inr, arith}
use mathlib.Core.List.{List, ◌∷◌, [], ◌++◌}
use Rattle.std.proofs.Math.Logic.{⊎_elim}
use Prim.Native.Nat.{ℕ, zero, suc, ◌+◌, ◌*◌, ◌-◌, ◌≤◌, ◌<◌}
use Rattle.sheet.specs.Lists.{Lex}
use Rattle.sheet.specs.Laws.Order.{Lex-trans}
use Rattle.costs.specs.Costs.{AtMost, figures}
use Rattle.costs.specs.Laws.Figures.{at-most-refl, at-most-trans, at-most-Lex, at-most-not-Lex, Lex-asym, Lex-compared}
use Rattle.sheet.specs.Laws.Decided.{false-not-true, lt-or-le, from-length, Any, All, here, there, none, more, all_head, all_tail, all_both, any-cons, any-map, none_of}
use Rattle.arrivals.specs.Rows.{Row, row_at, Put}
use Rattle.arrivals.specs.Laws.Rows.{row_kept}
use Rattle.arrivals.specs.Inner.Rows.{tail_of, tail_more, tail-kept, tail-any, tail-find, put-tail}

-- some cost of the group is nowhere above h
abbrev pub Beaten : List Row → List ℕ → Type 0
Beaten gs h = Any (λ r. AtMost r.cost h) gs

-- what is left when g drops what it is nowhere above
pub data Thin (g : List ℕ) : List Row → List Row → Type 0 where
  thin-none : Thin g [] []
  thin-drop : {r : Row} {qs ps : List Row} → AtMost g r.cost → Thin g qs ps → Thin g (r ∷ qs) ps
  thin-keep : {r : Row} {qs ps : List Row} → (AtMost g r.cost → ⊥) → Thin g qs ps → Thin g (r ∷ qs) (r ∷ ps)

pub data Stops (r : Row) : List Row → Type 0 where
  stops-none : Stops r []
  stops_at : {q : Row} {qs : List Row} → (Lex r.cost q.cost → ⊥) → Stops r (q ∷ qs)

-- row r is put in below the rows that it comes before
pub data Insert (r : Row) : List Row → List Row → Type 0 where
  insert-here : {qs : List Row} → Stops r qs → Insert r qs (r ∷ qs)
  insert-past : {q : Row} {qs ps : List Row} → Lex r.cost q.cost → Insert r qs ps → Insert r (q ∷ qs) (q ∷ ps)

-- the cost g is offered to a group at place v and step t; H says what older rows lead
pub data Offered (H : List ℕ → Type 0) (v t : ℕ) (g : List ℕ) : List Row → List Row → Type 0 where
  offered-not : {gs : List Row} → Beaten gs g ⊎ H g → Offered H v t g gs gs
  offered-in : {gs ps qs : List Row} → (Beaten gs g → ⊥) → (H g → ⊥) → Thin g gs ps → Insert (record { place = v; step = t; cost = g }) ps qs → Offered H v t g gs qs

-- costs of S are offered one after another
pub data Offers (S H : List ℕ → Type 0) (v t : ℕ) (gs : List Row) : List Row → Type 0 where
  offers-none : Offers S H v t gs gs
  offers-more : {ps qs : List Row} {g : List ℕ} → Offers S H v t gs ps → S g → Offered H v t g ps qs → Offers S H v t gs qs

-- row q comes before the cost g and is somewhere above it
abbrev pub Apart : List ℕ → Row → Type 0
Apart g q = Lex q.cost g × (AtMost q.cost g → ⊥)

-- the last row first: each comes after those behind it, and none of these is nowhere above it
pub data Sorted : List Row → Type 0 where
  sorted_none : Sorted []
  sorted_more : {r : Row} {gs : List Row} → All (Apart r.cost) gs → Sorted gs → Sorted (r ∷ gs)

-- costs of S are offered to the d rows of xs from row a on, which become the e rows of ys; where ok, all of S
pub record Swept (S H : List ℕ → Type 0) (v t a : ℕ) (xs ys : List ℕ) (d : ℕ) (ok : Bool) (e : ℕ) : Type 0 where
  pub below : (j : ℕ) → j < a * 5 → get_or ys j 0 ≡ get_or xs j 0
  pub room : (a + e) * 5 ≤ length ys
  pub done : ok ≡ true → Offers S H v t (tail_of xs a d) (tail_of ys a e)
  pub all : ok ≡ true → (h : List ℕ) → S h → Beaten (tail_of ys a e) h ⊎ H h

-- what is held stays held

insert-old : {r : Row} {ps qs : List Row} {h : List ℕ} → Insert r ps qs → Beaten ps h → Beaten qs h
insert-old (insert-here s) b = there b
insert-old (insert-past l i) b = ⊎_elim (λ p. here p) (λ x. there (insert-old i x)) (any-cons b)

insert-new : {r : Row} {ps qs : List Row} {h : List ℕ} → Insert r ps qs → AtMost r.cost h → Beaten qs h
insert-new (insert-here s) l = here l
insert-new (insert-past m i) l = there (insert-new i l)

thin-old : {g : List ℕ} {gs ps : List Row} {h : List ℕ} → Thin g gs ps → Beaten gs h → Beaten ps h ⊎ AtMost g h
thin-old thin-none b = inl b
thin-old {g} {gs} {ps} {h} (thin-drop l x) b = ⊎_elim (λ p. inr (at-most-trans g _ h l p)) (λ y. thin-old x y) (any-cons b)
thin-old (thin-keep l x) b = ⊎_elim (λ p. inl (here p)) (λ y. ⊎_elim (λ z. inl (there z)) (λ z. inr z) (thin-old x y)) (any-cons b)

pub offered-held : {H : List ℕ → Type 0} {v t : ℕ} {g : List ℕ} {gs qs : List Row} → Offered H v t g gs qs → (h : List ℕ) → Beaten gs h ⊎ H h → Beaten qs h ⊎ H h
offered-held (offered-not x) h b = b
offered-held (offered-in a b x i) h c = ⊎_elim (λ y. inl (⊎_elim (λ z. insert-old i z) (λ z. insert-new i z) (thin-old x y))) (λ y. inr y) c

pub offered-new : {H : List ℕ → Type 0} {v t : ℕ} {g : List ℕ} {gs qs : List Row} → Offered H v t g gs qs → Beaten qs g ⊎ H g
offered-new (offered-not x) = x
offered-new {H} {v} {t} {g} (offered-in a b x i) = inl (insert-new i (at-most-refl g))

pub offers-held : {S H : List ℕ → Type 0} {v t : ℕ} {gs qs : List Row} → Offers S H v t gs qs → (h : List ℕ) → Beaten gs h ⊎ H h → Beaten qs h ⊎ H h
offers-held offers-none h b = b
offers-held (offers-more o s x) h b = offered-held x h (offers-held o h b)

pub offers-then : {S R Q H : List ℕ → Type 0} {v t : ℕ} {gs ps qs : List Row} → ((h : List ℕ) → S h → Q h) → ((h : List ℕ) → R h → Q h) → Offers S H v t gs ps → Offers R H v t ps qs → Offers Q H v t gs qs
offers-then f g o offers-none = offers-as f o
  where
    offers-as : {S Q H : List ℕ → Type 0} {v t : ℕ} {gs ps : List Row} → ((h : List ℕ) → S h → Q h) → Offers S H v t gs ps → Offers Q H v t gs ps
    offers-as f offers-none = offers-none
    offers-as f (offers-more o s x) = offers-more (offers-as f o) (f _ s) x
offers-then f g o (offers-more p r x) = offers-more (offers-then f g o p) (g _ r) x

-- the order stays

not-before : (a b c : List ℕ) → (Lex a b → ⊥) → (Lex b c → ⊥) → Lex a c → ⊥
not-before a b c x y l = ⊎_elim (λ e. y (subst (λ (z : List ℕ). Lex z c) e l)) (⊎_elim x (λ p. y (Lex-trans b a c p l))) (Lex-compared a b)

pub sorted_head : {r : Row} {gs : List Row} → Sorted (r ∷ gs) → All (Apart r.cost) gs
sorted_head (sorted_more a s) = a

pub sorted_tail : {r : Row} {gs : List Row} → Sorted (r ∷ gs) → Sorted gs
sorted_tail (sorted_more a s) = s

stops-head : {r q : Row} {gs : List Row} → Stops r (q ∷ gs) → Lex r.cost q.cost → ⊥
stops-head (stops_at n) = n

stops-past : {r q : Row} {gs : List Row} → Stops r (q ∷ gs) → All (Apart q.cost) gs → Stops r gs
stops-past s none = stops-none
stops-past {r} {q} s (more {x = o} a b) = stops_at (not-before r.cost q.cost o.cost (stops-head s) (Lex-asym o.cost q.cost a.0))

pub thin-all : {P : Row → Type 0} {g : List ℕ} {gs ps : List Row} → Thin g gs ps → All P gs → All P ps
thin-all thin-none a = a
thin-all (thin-drop l x) a = thin-all x (all_tail a)
thin-all (thin-keep l x) a = more (all_head a) (thin-all x (all_tail a))

thin-any : {P : Row → Type 0} {g : List ℕ} {gs ps : List Row} → Thin g gs ps → Any P ps → Any P gs
thin-any thin-none a = a
thin-any (thin-drop l x) a = there (thin-any x a)
thin-any (thin-keep l x) a = ⊎_elim (λ p. here p) (λ b. there (thin-any x b)) (any-cons a)

thin-left : {g : List ℕ} {gs ps : List Row} → Thin g gs ps → All (λ q. AtMost g q.cost → ⊥) ps
thin-left thin-none = none
thin-left (thin-drop l x) = thin-left x
thin-left (thin-keep l x) = more l (thin-left x)

thin-sorted : {g : List ℕ} {gs ps : List Row} → Thin g gs ps → Sorted gs → Sorted ps
thin-sorted thin-none s = s
thin-sorted (thin-drop l x) s = thin-sorted x (sorted_tail s)
thin-sorted (thin-keep l x) s = sorted_more (thin-all x (sorted_head s)) (thin-sorted x (sorted_tail s))

pub insert_all : {P : Row → Type 0} {r : Row} {ps qs : List Row} → Insert r ps qs → P r → All P ps → All P qs
insert_all (insert-here s) p a = more p a
insert_all (insert-past l i) p a = more (all_head a) (insert_all i p (all_tail a))

all-behind : {r : Row} {ps : List Row} → Stops r ps → Sorted ps → (Beaten ps r.cost → ⊥) → All (Apart r.cost) ps
all-behind stops-none s n = none
all-behind {r} (stops_at {q} {qs} b) s n =
    let first : Lex q.cost r.cost =
    ⊎_elim (λ e. absurd (n (here (subst (λ (x : List ℕ). AtMost q.cost x) e (at-most-refl q.cost))))) (λ d. ⊎_elim (λ y. y) (λ y. absurd (b y)) d) (Lex-compared q.cost r.cost) in
    more (first, λ m. n (here m)) (all_both (λ p x y. (Lex-trans p.cost q.cost r.cost x.0 first, y)) (sorted_head s) (none_of qs (λ x. n (there x))))

insert-sorted : {r : Row} {ps qs : List Row} → (Beaten ps r.cost → ⊥) → All (λ q. AtMost r.cost q.cost → ⊥) ps → Sorted ps → Insert r ps qs → Sorted qs
insert-sorted n m s (insert-here b) = sorted_more (all-behind b s n) s
insert-sorted n m s (insert-past b i) = sorted_more (insert_all i (b, all_head m) (sorted_head s)) (insert-sorted (λ x. n (there x)) (all_tail m) (sorted_tail s) i)

offered-sorted : {H : List ℕ → Type 0} {v t : ℕ} {g : List ℕ} {ps qs : List Row} → Offered H v t g ps qs → Sorted ps → Sorted qs
offered-sorted (offered-not y) s = s
offered-sorted (offered-in n h y i) s = insert-sorted (λ z. n (thin-any y z)) (thin-left y) (thin-sorted y s) i

pub offers-sorted : {S H : List ℕ → Type 0} {v t : ℕ} {gs qs : List Row} → Offers S H v t gs qs → Sorted gs → Sorted qs
offers-sorted offers-none s = s
offers-sorted (offers-more o x w) s = offered-sorted w (offers-sorted o s)

-- sweeps, one after another
pub swept_none : {S H : List ℕ → Type 0} {v t a : ℕ} {xs : List ℕ} {d : ℕ} → (a + d) * 5 ≤ length xs → ((h : List ℕ) → S h → H h) → Swept S H v t a xs xs d true d
swept_none l f = record { below = λ j m. refl; room = l; done = λ e. offers-none; all = λ e h s. inr (f h s) }

pub swept-full : {S H : List ℕ → Type 0} {v t a : ℕ} {xs ys : List ℕ} {d e : ℕ} → ((j : ℕ) → j < a * 5 → get_or ys j 0 ≡ get_or xs j 0) → (a + e) * 5 ≤ length ys → Swept S H v t a xs ys d false e
swept-full b l = record { below = b; room = l; done = λ e. absurd (false-not-true refl e); all = λ e. absurd (false-not-true refl e) }

pub swept-then : {S R Q H : List ℕ → Type 0} {v t a : ℕ} {xs ys zs : List ℕ} {d e f : ℕ} {ok : Bool} → ((h : List ℕ) → S h → Q h) → ((h : List ℕ) → R h → Q h) → ((h : List ℕ) → Q h → S h ⊎ R h)
    → Swept S H v t a xs ys d true e → Swept R H v t a ys zs e ok f → Swept Q H v t a xs zs d ok f
swept-then p q r x y =
    record {
      below = λ j l. y.below j l ∙ x.below j l;
      room = y.room;
      done = λ e. offers-then p q (x.done refl) (y.done e);
      all = λ e h s. ⊎_elim (λ z. offers-held (y.done e) h (x.all refl h z)) (λ z. y.all e h z) (r h s);
    }

-- S and R differ by costs that H says are led
pub swept_as : {S R H : List ℕ → Type 0} {v t a : ℕ} {xs ys : List ℕ} {d e : ℕ} {ok : Bool} → ((h : List ℕ) → S h → R h) → ((h : List ℕ) → R h → S h ⊎ H h) → Swept S H v t a xs ys d ok e → Swept R H v t a xs ys d ok e
swept_as f g x = record { below = x.below; room = x.room; done = λ e. offers-then f f (x.done e) offers-none; all = λ e h r. ⊎_elim (λ s. x.all e h s) (λ l. inr l) (g h r) }

-- every cost of R is nowhere below one of S, and what H says of a cost it says of a greater one
pub swept-under : {S R H : List ℕ → Type 0} {v t a : ℕ} {xs ys : List ℕ} {d e : ℕ} {ok : Bool} → ((h : List ℕ) → S h → R h) → ((h : List ℕ) → R h → (g : List ℕ) × S g × AtMost g h)
    → ((g h : List ℕ) → AtMost g h → H g → H h) → Swept S H v t a xs ys d ok e → Swept R H v t a xs ys d ok e
swept-under f g up x =
    record {
      below = x.below;
      room = x.room;
      done = λ e. offers-then f f (x.done e) offers-none;
      all = λ e h r.
          let q = g h r in
          ⊎_elim (λ b. inl (any-map (λ p l. at-most-trans p.cost q.0 h l q.2) b)) (λ l. inr (up q.0 h q.2 l)) (x.all e q.0 q.1);
    }

pub swept-one : {H : List ℕ → Type 0} {v t a : ℕ} {g xs ys : List ℕ} {d e : ℕ} → ((j : ℕ) → j < a * 5 → get_or ys j 0 ≡ get_or xs j 0) → (a + e) * 5 ≤ length ys → Offered H v t g (tail_of xs a d) (tail_of ys a e) → Swept (λ h. h ≡ g) H v t a xs ys d true e
swept-one {H} {v} {t} {a} {g} {xs} {ys} {d} {e} b l o =
    record { below = b; room = l; done = λ _. offers-more offers-none refl o; all = λ _ h q. subst (λ (x : List ℕ). Beaten (tail_of ys a e) x ⊎ H x) (sym q) (offered-new o) }

pub thin-zero : (g : List ℕ) (xs ys : List ℕ) (a : ℕ) → Thin g (tail_of xs a 0) (tail_of ys a 0)
unfolding tail_of
thin-zero g xs ys a = thin-none

-- row a + i is kept as row a + k, or is dropped
pub record Thinned (g : List ℕ) (a i k : ℕ) (xs ys : List ℕ) (r : ℕ) : Type 0 where
  pub most : r ≤ k + 1
  pub below : (j : ℕ) → j < a * 5 → get_or ys j 0 ≡ get_or xs j 0
  pub above : (j : ℕ) → (a + i) * 5 + 5 ≤ j → get_or ys j 0 ≡ get_or xs j 0
  pub kept : (qs : List Row) → Thin g qs (tail_of xs a k) → Thin g (row_at xs (a + i) ∷ qs) (tail_of ys a r)

pub thinned-drop : (g : List ℕ) (a i k : ℕ) (xs : List ℕ) → AtMost g (row_at xs (a + i)).cost → Thinned g a i k xs xs k
thinned-drop g a i k xs l = record { most = omega arith; below = λ j m. refl; above = λ j m. refl; kept = λ qs x. thin-drop l x }

pub thinned-keep : (g : List ℕ) (a i k : ℕ) (xs ys : List ℕ) → k ≤ i → (AtMost g (row_at xs (a + i)).cost → ⊥) → Put xs ys (a + k) (row_at xs (a + i)) → Thinned g a i k xs ys (k + 1)
thinned-keep g a i k xs ys l n p =
    record {
      most = omega arith;
      below = λ j m. p.below j (omega arith);
      above = λ j m. p.above j (omega arith);
      kept = λ qs x. subst (Thin g (row_at xs (a + i) ∷ qs)) (sym (put-tail a k p)) (thin-keep n x);
    }

pub thinned-stay : (g : List ℕ) (a i k : ℕ) (xs : List ℕ) → k ≡ i → (AtMost g (row_at xs (a + i)).cost → ⊥) → Thinned g a i k xs xs (k + 1)
thinned-stay g a i k xs e n = thinned-keep g a i k xs xs (omega arith) n (record { below = λ j m. refl; above = λ j m. refl; row = ap (λ (j : ℕ). row_at xs (a + j)) e })

pub thin-more : (g : List ℕ) (a i k : ℕ) (xs ys zs : List ℕ) (r : ℕ) → ((j : ℕ) → (a + i) * 5 ≤ j → get_or ys j 0 ≡ get_or xs j 0) → Thin g (tail_of xs a i) (tail_of ys a k) → Thinned g a i k ys zs r → Thin g (tail_of xs a (i + 1)) (tail_of zs a r)
thin-more g a i k xs ys zs r same x y =
    subst (λ (qs : List Row). Thin g qs (tail_of zs a r)) (ap (λ (q : Row). q ∷ tail_of xs a i) (row_kept xs ys (a + i) (λ j l m. same j l)) ∙ sym (tail_more xs a i)) (y.kept (tail_of xs a i) x)

pub thin-end : (g : List ℕ) (a i d k : ℕ) (xs ys : List ℕ) → i ≤ d → d ≤ i → Thin g (tail_of xs a i) (tail_of ys a k) → Thin g (tail_of xs a d) (tail_of ys a k)
thin-end g a i d k xs ys l m x = let e : i ≡ d = omega arith in subst (λ (n : ℕ). Thin g (tail_of xs a n) (tail_of ys a k)) e x

-- the d rows from row a on become the r rows that g leaves
pub record ThinnedAll (g : List ℕ) (a d : ℕ) (xs ys : List ℕ) (r : ℕ) : Type 0 where
  pub most : r ≤ d
  pub below : (j : ℕ) → j < a * 5 → get_or ys j 0 ≡ get_or xs j 0
  pub thin : Thin g (tail_of xs a d) (tail_of ys a r)

-- of the d rows from row a on those from k on come after g
pub record After (g : List ℕ) (a k d : ℕ) (xs : List ℕ) : Type 0 where
  pub every : (i : ℕ) → k ≤ i → i < d → Lex g (row_at xs (a + i)).cost

pub after_more : {g : List ℕ} {a k d : ℕ} {xs : List ℕ} → 0 < k → After g a k d xs → Lex g (row_at xs (a + k - 1)).cost → After g a (k - 1) d xs
after_more {g} {a} {k} {d} {xs} o f l =
    record { every = λ i m u. ⊎_elim (λ lt. f.every i (omega arith) u) (λ ge. let e : a + k - 1 ≡ a + i = omega arith in subst (λ (n : ℕ). Lex g (row_at xs n).cost) e l) (lt-or-le (k - 1) i) }

-- and the one before them does not: p is the place of g
pub record Placed (g : List ℕ) (a d : ℕ) (xs : List ℕ) (p : ℕ) : Type 0 where
  pub most : p ≤ d
  pub after : After g a p d xs
  pub last : (0 < p) × Lex g (row_at xs (a + p - 1)).cost → ⊥

-- row r is put in ahead of the d rows from row a on
pub record Inserted (r : Row) (a d : ℕ) (xs ys : List ℕ) : Type 0 where
  pub below : (j : ℕ) → j < a * 5 → get_or ys j 0 ≡ get_or xs j 0
  pub row : row_at ys a ≡ r
  pub moved : (i : ℕ) → i < d → row_at ys (a + i + 1) ≡ row_at xs (a + i)

-- the rows from k on have moved up by one
pub record Moved (a k d : ℕ) (xs ys : List ℕ) : Type 0 where
  pub below : (j : ℕ) → j < (a + k) * 5 → get_or ys j 0 ≡ get_or xs j 0
  pub moved : (i : ℕ) → k ≤ i → i < d → row_at ys (a + i + 1) ≡ row_at xs (a + i)

pub moved_more : {a k d : ℕ} {xs ys zs : List ℕ} → 0 < k → Moved a k d xs ys → Put ys zs (a + k) (row_at ys (a + k - 1)) → Moved a (k - 1) d xs zs
moved_more {a} {k} {d} {xs} {ys} {zs} o m p =
    record {
      below = λ j l. p.below j (omega arith) ∙ m.below j (omega arith);
      moved = λ i l u.
          ⊎_elim
          (λ lt. row_kept ys zs (a + i + 1) (λ j x y. p.above j (omega arith)) ∙ m.moved i (omega arith) u)
          (λ ge.
          let f : a + i + 1 ≡ a + k = omega arith in
          let h : a + k - 1 ≡ a + i = omega arith in
          ap (row_at zs) f ∙ p.row ∙ ap (row_at ys) h ∙ row_kept xs ys (a + i) (λ j x y. m.below j (omega arith)))
          (lt-or-le (k - 1) i);
    }

pub moved-end : {r : Row} {a k d : ℕ} {xs ys zs : List ℕ} → k ≤ 0 → Moved a k d xs ys → Put ys zs a r → Inserted r a d xs zs
moved-end {r} {a} {k} {d} {xs} {ys} {zs} l m p =
    record {
      below = λ j u. p.below j u ∙ m.below j (omega arith);
      row = p.row;
      moved = λ i u. row_kept ys zs (a + i + 1) (λ j x y. p.above j (omega arith)) ∙ m.moved i (omega arith) u;
    }

-- rows in parts

tail-join : (xs : List ℕ) (a p k : ℕ) → tail_of xs a (p + k) ≡ tail_of xs (a + p) k ++ tail_of xs a p
unfolding tail_of
tail-join xs a p zero = let e : p + 0 ≡ p = omega arith in ap (tail_of xs a) e
tail-join xs a p (suc k) =
    let e : p + suc k ≡ suc (p + k) = omega arith in
    let f : a + (p + k) ≡ a + p + k = omega arith in
    ap (tail_of xs a) e ∙ ap₂ ◌∷◌ (ap (row_at xs) f) (tail-join xs a p k)

tail-moved : (xs ys : List ℕ) (a b d : ℕ) → ((i : ℕ) → i < d → row_at ys (b + i) ≡ row_at xs (a + i)) → tail_of ys b d ≡ tail_of xs a d
unfolding tail_of
tail-moved xs ys a b zero f = refl
tail-moved xs ys a b (suc d) f = ap₂ ◌∷◌ (f d (omega arith)) (tail-moved xs ys a b d (λ i l. f i (omega arith)))

tail-every : {P : Row → Type 0} (xs : List ℕ) (a d : ℕ) → ((i : ℕ) → i < d → P (row_at xs (a + i))) → All P (tail_of xs a d)
unfolding tail_of
tail-every xs a zero f = none
tail-every xs a (suc d) f = more (f d (omega arith)) (tail-every xs a d (λ i l. f i (omega arith)))

stops-more : (r : Row) (xs : List ℕ) (a k : ℕ) → ((0 < k) × Lex r.cost (row_at xs (a + k - 1)).cost → ⊥) → Stops r (tail_of xs a k)
unfolding tail_of
stops-more r xs a zero h = stops-none
stops-more r xs a (suc k) h = let e : a + k ≡ a + suc k - 1 = omega arith in stops_at (λ b. h (omega arith, subst (λ (n : ℕ). Lex r.cost (row_at xs n).cost) e b))

sorted-low : (xs : List ℕ) (a d p : ℕ) → p ≤ d → Sorted (tail_of xs a d) → Sorted (tail_of xs a p)
unfolding tail_of
sorted-low xs a zero p l x = let e : 0 ≡ p = omega arith in subst (λ (n : ℕ). Sorted (tail_of xs a n)) e x
sorted-low xs a (suc d) p l x =
    ⊎_elim (λ lt. sorted-low xs a d p (omega arith) (sorted_tail x)) (λ ge. let e : suc d ≡ p = omega arith in subst (λ (n : ℕ). Sorted (tail_of xs a n)) e x) (lt-or-le p (suc d))

thin-join : {g : List ℕ} {qs ps us : List Row} → Thin g qs ps → Thin g us us → Thin g (qs ++ us) (ps ++ us)
thin-join thin-none t = t
thin-join (thin-drop l x) t = thin-drop l (thin-join x t)
thin-join (thin-keep l x) t = thin-keep l (thin-join x t)

insert-join : {r : Row} {g : List ℕ} {qs ps us : List Row} → Thin g qs ps → All (λ q. Lex r.cost q.cost) qs → Stops r us → Insert r (ps ++ us) (ps ++ r ∷ us)
insert-join thin-none a s = insert-here s
insert-join (thin-drop l x) a s = insert-join x (all_tail a) s
insert-join (thin-keep l x) a s = insert-past (all_head a) (insert-join x (all_tail a) s)

pub beaten-more : {g : List ℕ} (xs : List ℕ) (a d p : ℕ) → p ≤ d → Beaten (tail_of xs a p) g → Beaten (tail_of xs a d) g
beaten-more {g} xs a d p l b =
    let f = tail-find xs a p b in
    let e : f.at ≡ a + (f.at - a) = omega (arith, f.from) in
    tail-any _ xs a d (f.at - a) (omega (arith, f.from, f.upto)) (subst (λ (k : ℕ). AtMost (row_at xs k).cost g) e f.fits)

-- g is offered to the d rows of xs from row a on, of which p do not come after it
module _ (v t : ℕ) (g xs : List ℕ) (a d p : ℕ) (three : length g ≡ figures) (w : Placed g a d xs p) where
  same_size : (i : ℕ) → length g ≡ length (row_at xs i).cost
  same_size i = three ∙ sym (from-length figures (i * 5 + 2) xs)

  -- what comes after g is somewhere above it
  unbeaten : (Beaten (tail_of xs a p) g → ⊥) → Beaten (tail_of xs a d) g → ⊥
  unbeaten n b =
      let f = tail-find xs a d b in
      let e : f.at ≡ a + (f.at - a) = omega (arith, f.from) in
      let l = subst (λ (k : ℕ). AtMost (row_at xs k).cost g) e f.fits in
      ⊎_elim
      (λ lt. n (tail-any _ xs a p (f.at - a) lt l))
      (λ ge. at-most-not-Lex _ _ (sym (same_size (a + (f.at - a)))) l (w.after.every (f.at - a) ge (omega (arith, f.from, f.upto))))
      (lt-or-le (f.at - a) p)

  -- of what does not come after g and is somewhere above it, g drops nothing
  unthinned : (k : ℕ) → Stops (record { place = v; step = t; cost = g }) (tail_of xs a k) → Sorted (tail_of xs a k) → (Beaten (tail_of xs a k) g → ⊥) → Thin g (tail_of xs a k) (tail_of xs a k)
  unfolding tail_of
  unthinned zero s x n = thin-none
  unthinned (suc k) s x n =
      thin-keep
      (λ l. ⊎_elim (λ e. n (here (subst (λ (c : List ℕ). AtMost c g) e (at-most-refl g)))) (stops-head s) (at-most-Lex g (row_at xs (a + k)).cost (same_size (a + k)) l))
      (unthinned k (stops-past s (sorted_head x)) (sorted_tail x) (λ b. n (there b)))

  pub offered-at : {H : List ℕ → Type 0} (ys zs : List ℕ) (k : ℕ) → Sorted (tail_of xs a d) → (Beaten (tail_of xs a p) g → ⊥) → (H g → ⊥) → ThinnedAll g (a + p) (d - p) xs ys k
      → Inserted (record { place = v; step = t; cost = g }) (a + p) k ys zs → Offered H v t g (tail_of xs a d) (tail_of zs a (p + k + 1))
  offered-at {H} ys zs k x n h y i =
      subst (Offered H v t g (tail_of xs a d)) (sym parts) (subst (λ (gs : List Row). Offered H v t g gs (qs ++ r ∷ us)) (sym whole)
      (offered-in (λ b. unbeaten n (subst (λ (gs : List Row). Beaten gs g) (sym whole) b)) h (thin-join y.thin (unthinned p stop (sorted-low xs a d p w.most x) n)) (insert-join y.thin later stop)))
    where
      r : Row
      r = record { place = v; step = t; cost = g }

      us : List Row
      us = tail_of xs a p

      qs : List Row
      qs = tail_of ys (a + p) k

      stop : Stops r us
      stop = stops-more r xs a p w.last

      later : All (λ q. Lex g q.cost) (tail_of xs (a + p) (d - p))
      later = tail-every xs (a + p) (d - p) (λ j l. let e : a + (p + j) ≡ a + p + j = omega arith in subst (λ (m : ℕ). Lex g (row_at xs m).cost) e (w.after.every (p + j) (omega arith) (omega arith)))

      whole : tail_of xs a d ≡ tail_of xs (a + p) (d - p) ++ us
      whole = let e : d ≡ p + (d - p) = omega (arith, w.most) in ap (tail_of xs a) e ∙ tail-join xs a p (d - p)

      parts : tail_of zs a (p + k + 1) ≡ qs ++ r ∷ us
      parts =
          let e : p + k + 1 ≡ p + 1 + k = omega arith in
          ap (tail_of zs a) e ∙ tail-join zs a (p + 1) k
          ∙ ap₂ ◌++◌
          (tail-moved ys zs (a + p) (a + (p + 1)) k (λ j l. let f : a + (p + 1) + j ≡ a + p + j + 1 = omega arith in ap (row_at zs) f ∙ i.moved j l))
          (tail_more zs a p ∙ ap₂ ◌∷◌ i.row (tail-kept xs zs a p (λ j l m. i.below j m ∙ y.below j m)))
