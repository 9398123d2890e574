-- The front list, row by row: its rows are those of the front so far, and at the end zeros are put after them.
-- Assumes nothing.
use mathlib.Core.Path.{◌≡◌, refl, sym, ◌∙◌, ap, ap₂, subst}
use mathlib.Core.Logic.{inl, inr, ⊎_elim}
use mathlib.Core.Bool.{Bool}
use mathlib.Core.List.{List, [], ◌∷◌, ◌++◌, map, append-nil, append_assoc}
use Prim.Native.Nat.{ℕ, ◌+◌, ◌*◌, ◌-◌, ◌≤◌, ◌<◌}
use native.Mathlib.Omega.{arith}
use native.Mathlib.Numerals.{add-one}
use lib.ListN.{length, get_or, take, drop, replicate, length-append}
use lib.Seq.{sets, sets-eq, length-sets, take_at, take_all, take-suc, length-take-le}
use Rattle.sheet.specs.Lists.{◌∈◌, number, bind, filled}
use Rattle.costs.specs.Costs.{Cost}
use Rattle.arrivals.specs.Arrivals.{Arrival}
use Rattle.arrivals.specs.Rows.{cost_at, row_at}
use Rattle.journeys.specs.Inner.{goal_rows, offered_rows, first_step_of, Numbered}
use Rattle.journeys.specs.Inner.Chain.{InTable}
use Rattle.journeys.specs.Inner.Sweep.{stair_of, ahead_of, Sweeps, SweptOne, FrontRows, Begun, list_row, Listed, Listable, ListedOn, ListedAll, ListableFront}
use Rattle.journeys.specs.declared.front.Offered.{Offered}
use Rattle.journeys.specs.declared.front.Sweep.{Sweep}
use Rattle.journeys.proofs.Chains.{differ-costs, in_table}
use Rattle.journeys.proofs.FrontRows.{get-member, counted-all, front-counted, at-number}

-- rows of four numbers
bind-snoc : (l : List ℕ) (entry : ℕ → List ℕ) (k : ℕ) → bind (l ++ (k ∷ [])) entry ≡ bind l entry ++ entry k
bind-snoc [] entry k = append-nil (entry k)
bind-snoc (x ∷ l) entry k = ap (λ (r : List ℕ). entry x ++ r) (bind-snoc l entry k) ∙ sym (append_assoc (entry x) (bind l entry) (entry k))

rows-length : (base l : List ℕ) → length (bind l (list_row base)) ≡ length l * 4
rows-length base [] = refl
rows-length base (k ∷ l) = omega (arith, length-append (list_row base k) (bind l (list_row base)), rows-length base l)

-- one row more
listed_more : (base fs : List ℕ) (i : ℕ) (list : List ℕ) → i < length fs → Listed base fs i list → Listed base fs (i + 1) (sets list (i * 4) (list_row base (get_or fs i 0)))
listed_more base fs i list h r = record { room = omega (arith, r.room, length-sets list (i * 4) row); stands = stands }
  where
    row : List ℕ
    row = list_row base (get_or fs i 0)

    front-part : length (take (i * 4) list ++ row) ≡ (i + 1) * 4
    front-part =
        let n : i * 4 ≤ length list = omega (arith, r.room) in
        omega (arith, length-append (take (i * 4) list) row, length-take-le (i * 4) list n)

    stands : take ((i + 1) * 4) (sets list (i * 4) row) ≡ bind (take (i + 1) fs) (list_row base)
    stands =
        let n : i * 4 + length row ≤ length list = omega (arith, r.room) in
        ap (take ((i + 1) * 4)) (sets-eq row list (i * 4) n)
        ∙ take_at (take (i * 4) list ++ row) (drop (i * 4 + length row) list) ((i + 1) * 4) front-part
        ∙ ap (λ (k : List ℕ). k ++ row) r.stands
        ∙ sym (bind-snoc (take i fs) (list_row base) (get_or fs i 0))
        ∙ ap (λ (k : List ℕ). bind k (list_row base)) (sym (ap (λ (m : ℕ). take m fs) (add-one i) ∙ take-suc fs i 0 h))

-- a row passed, and listed if it was taken
module _ {v : ℕ} {xs ys : List ℕ} {s r : Sweep} (o : SweptOne v xs ys s r) where
  pub list_same : (list : List ℕ) → r.count ≡ s.count → ListedOn v xs ys s r list list
  list_same list e = record { of = λ base fs p l. (o.on.of base fs p, subst (λ (i : ℕ). Listed base fs i list) (sym e) l) }

  module _ (n : r.count ≡ s.count → ⊥) where
    more : r.count ≡ s.count + 1
    more = ⊎_elim (λ e. absurd (n e)) (λ e. e) o.more

    taken : (base fs : List ℕ) → Sweeps base v ys r fs → (s.count < length fs) × (r.row ≡ get_or fs s.count 0)
    taken base fs p =
        (omega (arith, more, p.on.within), p.on.last (omega (arith, more)) ∙ ap (λ (i : ℕ). get_or fs i 0) (let z : r.count - 1 ≡ s.count = omega (arith, more) in z))

    pub list-room : {list : List ℕ} → Listable v xs s list → InTable ys r.row
    list-room w =
        let p = o.on.of w.base w.fs w.sweeps in
        let t = taken w.base w.fs p in
        in_table p.on.differ.same_length (p.on.rooms r.row (subst (λ (i : ℕ). i ∈ w.fs) (sym t.1) (get-member w.fs s.count t.0)))

    pub list-fits : {list : List ℕ} → Listable v xs s list → s.count * 4 + 4 ≤ length list
    list-fits w =
        let t = taken w.base w.fs (o.on.of w.base w.fs w.sweeps) in
        omega (arith, t.0, w.listed.room)

    pub list_put : (list list' : List ℕ) (g : Cost) → g ≡ cost_at ys r.row → list' ≡ sets list (s.count * 4) (g ++ (number ys (r.row * 5 + 1) ∷ [])) → ListedOn v xs ys s r list list'
    list_put list list' g e f = record { of = λ base fs p l. (o.on.of base fs p, put base fs (o.on.of base fs p) l) }
      where
        put : (base fs : List ℕ) → Sweeps base v ys r fs → Listed base fs s.count list → Listed base fs r.count list'
        put base fs p l =
            let t = taken base fs p in
            let d = p.on.differ in
            let z : g ++ (number ys (r.row * 5 + 1) ∷ []) ≡ list_row base (get_or fs s.count 0) =
            ap (λ (h : Cost). h ++ (number ys (r.row * 5 + 1) ∷ [])) (e ∙ ap (λ (c : ℕ → Cost). c r.row) (differ-costs (stair_of ys r ++ ahead_of ys r) d))
            ∙ ap (λ (q : ℕ). cost_at base r.row ++ (q ∷ [])) (d.kept (r.row * 5 + 1) (λ k m q. omega arith))
            ∙ ap (list_row base) t.1 in
            subst (λ (i : ℕ). Listed base fs i list') (sym more) (subst (Listed base fs (s.count + 1)) (sym (f ∙ ap (sets list (s.count * 4)) z)) (listed_more base fs s.count list t.0 l))

-- the whole list
offered-rows : (base fs : List ℕ) (l : List Arrival) → ((k : ℕ) → k ∈ fs → (row_at base k).step ≡ first_step_of (cost_at base k) l)
    → bind fs (list_row base) ≡ bind (map (cost_at base) fs) (λ g. g ++ (first_step_of g l ∷ []))
offered-rows base [] l h = refl
offered-rows base (k ∷ fs) l h =
    ap₂ (λ (x : ℕ) (r : List ℕ). (cost_at base k ++ (x ∷ [])) ++ r) (h k (inl refl)) (offered-rows base fs l (λ j m. h j (inr m)))

module _ {v : ℕ} {counting : List ℕ} {n : ℕ} {base fs list : List ℕ} (f : FrontRows v counting n base fs) where
  pub listed-none : ListableFront v counting n base list → Listed base fs 0 list
  listed-none q = record { room = omega (arith, q.list-room, front-counted f); stands = refl }

  pub listed-whole : (i : ℕ) → i ≡ length fs → Listed base fs i list → (m : ℕ) → length list ≡ m → take (i * 4) list ++ replicate (length list - i * 4) 0 ≡ filled m (offered_rows (goal_rows v counting n base))
  listed-whole i k l m e =
      let w : take (i * 4) list ≡ bind fs (list_row base) = l.stands ∙ ap (λ (x : List ℕ). bind x (list_row base)) (take_all i fs (omega arith)) in
      let q : length list - i * 4 ≡ m - length (bind fs (list_row base)) = omega (arith, rows-length base fs) in
      ap (λ (x : List ℕ). x ++ replicate (length list - i * 4) 0) w
      ∙ ap (λ (j : ℕ). bind fs (list_row base) ++ replicate j 0) q
      ∙ ap (filled m) (offered-rows base fs (goal_rows v counting n base) f.steps-are ∙ ap (λ (x : List Cost). bind x (λ g. g ++ (first_step_of g (goal_rows v counting n base) ∷ []))) f.costs-are)

  pub listed-number : (i : ℕ) (o : Offered) (list' : List ℕ) → i < length fs → Numbered (goal_rows v counting n base) i o → list' ≡ sets list (i * 4) (o.cost ++ (o.step.0 ∷ [])) → Listed base fs i list → Listed base fs (i + 1) list'
  listed-number i o list' h w e l = subst (Listed base fs (i + 1)) (sym (e ∙ ap (sets list (i * 4)) (at-number f i o h w))) (listed_more base fs i list h l)

module _ {v : ℕ} {counting : List ℕ} {n : ℕ} {base xs list : List ℕ} {s : Sweep} (b : Begun v counting n base xs s) (q : ListableFront v counting n base list) where
  none : Listed base b.fs s.count list
  none = rw b.none_yet (listed-none b.front q)

  pub listable-front : Listable v xs s list
  listable-front = record { base = base; fs = b.fs; sweeps = b.sweeps; listed = none }

  pub listed-through : {ys list' : List ℕ} {r : Sweep} → ListedAll v xs ys s r list list' → Sweeps base v ys r b.fs × Listed base b.fs r.count list'
  listed-through o = o.on.of base b.fs b.sweeps none

pub listed-front : {v : ℕ} {counting : List ℕ} {n : ℕ} {base xs ys list : List ℕ} {s r : Sweep} (b : Begun v counting n base xs s) → Sweeps base v ys r b.fs → r.rest ≡ 0 → Listed base b.fs r.count list
    → (m : ℕ) → length list ≡ m → take (r.count * 4) list ++ replicate (length list - r.count * 4) 0 ≡ filled m (offered_rows (goal_rows v counting n base))
listed-front b p z = listed-whole b.front _ (counted-all p z)

pub listable-next : {v : ℕ} {xs ys list list' : List ℕ} {s r : Sweep} → Listable v xs s list → ListedOn v xs ys s r list list' → Listable v ys r list'
listable-next w o = let q = o.of w.base w.fs w.sweeps w.listed in record { base = w.base; fs = w.fs; sweeps = q.0; listed = q.1 }
