-- What is searched, as one list of numbers: from 0 the cost of waiting at each place, three figures; from 192 two chains of the corridors (Chains);
-- from 832 the corridors, five numbers each; at 2112 their number, the number of places, the start and the number of closures; from 2116, by place,
-- whether closures lead to it; from 2180, by corridor, whether waiting is dearer where it leads to; from 2436 a chain of the closures (Chains); from
-- 3716 the closures, three numbers each. Beside it stands the list of first steps of safe intervals, 256 for each place.
use Rattle.std.specs.Prelude.{◌≡◌, refl, Bool, true, false, ◌&&◌, List, [], ◌∷◌, ℕ, zero, suc, ◌+◌, ◌*◌, ◌≤◌, ◌<◌, eqb, length, get_or}
use Rattle.std.proofs.Common.{ap, subst, inl, ⊎_elim, arith, add-one, eqb-true, eq-eqb}
use Rattle.sheet.specs.Lists.{pick, numbers_from}
use Rattle.sheet.specs.Laws.Order.{and-true, true-and}
use Rattle.sheet.specs.Laws.Decided.{lt-or-le, Any, All, none, more, any-cons, any-nil, all_head, all_tail, here, there, from-same, false-not-true}
use Rattle.costs.specs.Costs.{Cost, figures, AtMost}
use Rattle.costs.specs.Priced.{Within}
use Rattle.arrivals.specs.Rows.{Besides}

-- the length of the list
abbrev pub net_room : ℕ
net_room = 4484

-- a corridor, and whether it is open at a step
pub record Link : Type 0 where
  pub from : ℕ
  pub to : ℕ
  pub cost : Cost
  pub opens : ℕ → Bool

-- corridor l may be departed by at step t
abbrev pub openb : Link → ℕ → Bool
openb l t = l.opens t

-- what is searched: the first steps of safe intervals, the corridors, the cost of waiting at each place, the number of places and the start
pub record Case : Type 0 where
  pub free : List ℕ
  pub links : List Link
  pub wait : ℕ → Cost
  pub places : ℕ
  pub start : ℕ

-- the first step of the safe interval of place v at step t; above t where v is occupied then
abbrev pub since_in : List ℕ → ℕ → ℕ → ℕ
since_in free v t = get_or free (v * 256 + t) 0

abbrev pub since : Case → ℕ → ℕ → ℕ
since k v t = since_in k.free v t

-- place v is free at step t
abbrev pub Vacant : Case → ℕ → ℕ → Type 0
Vacant k v t = since k v t ≤ t

-- waiting where corridor l leads to is nowhere dearer than where it comes from
abbrev pub Cheap : (ℕ → Cost) → Link → Type 0
Cheap wait l = AtMost (wait l.to) (wait l.from)

-- a corridor between places of the case, its figures at most 60000
pub record Lawful (places : ℕ) (l : Link) : Type 0 where
  pub from : l.from < places
  pub to : l.to < places
  pub costs : Within 60000 l.cost
  pub three : length l.cost ≡ figures

pub record Legal (k : Case) : Type 0 where
  pub links : All (Lawful k.places) k.links
  pub waits : (v : ℕ) → v < k.places → Within 60000 (k.wait v)
  pub three : (v : ℕ) → v < k.places → length (k.wait v) ≡ figures
  pub runs : (v u t : ℕ) → v < k.places → t ≤ 255 → since k v t ≤ u → u ≤ t → since k v u ≡ since k v t

-- the numbers of the list
abbrev pub wait_in : List ℕ → ℕ → Cost
wait_in net v = numbers_from figures (v * 3) net

-- place q of corridor j: 0 is where it comes from, 1 where it leads to
abbrev pub link_of : List ℕ → ℕ → ℕ → ℕ
link_of net q j = get_or net (832 + j * 5 + q) 0

-- number q of closure x: 0 is where its corridor comes from, 1 where that leads to, 2 the step
abbrev pub closure_of : List ℕ → ℕ → ℕ → ℕ
closure_of net q x = get_or net (3716 + x * 3 + q) 0

abbrev pub closures_of : List ℕ → ℕ
closures_of net = get_or net 2115 0

-- closure x is of the corridor from u to v at step t
pub record Closes (net : List ℕ) (u v t x : ℕ) : Type 0 where
  pub from : closure_of net 0 x ≡ u
  pub to : closure_of net 1 x ≡ v
  pub step : closure_of net 2 x ≡ t

abbrev pub closesb : List ℕ → ℕ → ℕ → ℕ → ℕ → Bool
closesb net u v t x = eqb (closure_of net 0 x) u && (eqb (closure_of net 1 x) v && eqb (closure_of net 2 x) t)

-- no closure below n is of the corridor from u to v at step t
unfoldable pub open_to : List ℕ → ℕ → ℕ → ℕ → ℕ → Bool
open_to net u v t zero = true
open_to net u v t (suc n) = let r = open_to net u v t n in pick (closesb net u v t n) false r

-- the way from u to v is not closed at step t
unfoldable pub open_in : List ℕ → ℕ → ℕ → ℕ → Bool
open_in net u v t = open_to net u v t (closures_of net)

-- a corridor with its closures in the list
abbrev pub link_in : List ℕ → ℕ → ℕ → Cost → Link
link_in net u v c = record { from = u; to = v; cost = c; opens = open_in net u v }

abbrev pub link_at : List ℕ → ℕ → Link
link_at net j = link_in net (link_of net 0 j) (link_of net 1 j) (numbers_from figures (832 + j * 5 + 2) net)

abbrev pub count_of : List ℕ → ℕ
count_of net = get_or net 2112 0

abbrev pub places_of : List ℕ → ℕ
places_of net = get_or net 2113 0

abbrev pub start_of : List ℕ → ℕ
start_of net = get_or net 2114 0

-- not 0 where a closure leads to v, and 2 where waiting at v is dearer than where a corridor into v comes from
abbrev pub into_of : List ℕ → ℕ → ℕ
into_of net v = get_or net (2116 + v) 0

-- 0 where waiting is nowhere dearer where corridor j leads to than where it comes from
abbrev pub dear_of : List ℕ → ℕ → ℕ
dear_of net j = get_or net (2180 + j) 0

-- the corridors below n, the last first
unfoldable pub links_of : List ℕ → ℕ → List Link
links_of net zero = []
links_of net (suc n) = link_at net n ∷ links_of net n

abbrev pub case_of : List ℕ → List ℕ → Case
case_of free net = record { free = free; links = links_of net (count_of net); wait = wait_in net; places = places_of net; start = start_of net }

pub links-zero : (net : List ℕ) → links_of net 0 ≡ []
unfolding links_of
links-zero net = refl

pub links-more : (net : List ℕ) (n : ℕ) → links_of net (n + 1) ≡ link_at net n ∷ links_of net n
unfolding links_of
links-more net n = ap (links_of net) (add-one n)

-- from a list of corridors to a number
pub record LinkFound (P : Link → Type 0) (net : List ℕ) (n : ℕ) : Type 0 where
  pub at : ℕ
  pub upto : at < n
  pub fits : P (link_at net at)

pub links-find : {P : Link → Type 0} (net : List ℕ) (n : ℕ) → Any P (links_of net n) → LinkFound P net n
unfolding links_of
links-find net zero x = absurd (any-nil x)
links-find {P = P} net (suc n) x =
    ⊎_elim (λ p. record { at = n; upto = omega arith; fits = p })
    (λ (y : Any P (links_of net n)).
    let f : LinkFound P net n = links-find net n y in
    record { at = f.at; upto = omega (arith, f.upto); fits = f.fits })
    (any-cons x)

pub links-any : (P : Link → Type 0) (net : List ℕ) (n i : ℕ) → i < n → P (link_at net i) → Any P (links_of net n)
unfolding links_of
links-any P net zero i l p = absurd (omega arith)
links-any P net (suc n) i l p = ⊎_elim (λ lt. there (links-any P net n i lt p)) (λ ge. here (subst (λ (k : ℕ). P (link_at net k)) (omega arith) p)) (lt-or-le i n)

pub links-all : (P : Link → Type 0) (net : List ℕ) (n : ℕ) → ((i : ℕ) → i < n → P (link_at net i)) → All P (links_of net n)
unfolding links_of
links-all P net zero h = none
links-all P net (suc n) h = more (h n (omega arith)) (links-all P net n (λ i l. h i (omega arith)))

pub links-at : (P : Link → Type 0) (net : List ℕ) (n i : ℕ) → i < n → All P (links_of net n) → P (link_at net i)
unfolding links_of
links-at P net zero i l a = absurd (omega arith)
links-at P net (suc n) i l a = ⊎_elim (λ lt. links-at P net n i lt (all_tail a)) (λ ge. subst (λ (k : ℕ). P (link_at net k)) (omega arith) (all_head a)) (lt-or-le i n)

pub link-path : {p q s t : ℕ} {g h : Cost} (net : List ℕ) → p ≡ q → s ≡ t → g ≡ h → link_in net p s g ≡ link_in net q t h
link-path net e f g = λ i. link_in net (e i) (f i) (g i)

closes-true : (net : List ℕ) (u v t x : ℕ) → Closes net u v t x → closesb net u v t x ≡ true
closes-true net u v t x c =
    true-and (eqb (closure_of net 0 x) u) _ (eq-eqb _ _ c.from) (true-and (eqb (closure_of net 1 x) v) _ (eq-eqb _ _ c.to) (eq-eqb _ _ c.step))

true-closes : (net : List ℕ) (u v t x : ℕ) → closesb net u v t x ≡ true → Closes net u v t x
true-closes net u v t x e =
    let p = and-true (eqb (closure_of net 0 x) u) _ e in
    let q = and-true (eqb (closure_of net 1 x) v) _ p.1 in
    record { from = eqb-true _ _ p.0; to = eqb-true _ _ q.0; step = eqb-true _ _ q.1 }

shut_one : (b r : Bool) → b ≡ true → pick b false r ≡ false
shut_one true r e = refl
shut_one false r e = absurd (false-not-true refl e)

shut-rest : (b r : Bool) → r ≡ false → pick b false r ≡ false
shut-rest true r e = refl
shut-rest false r e = e

open-both : (b r : Bool) → (b ≡ true → ⊥) → r ≡ true → pick b false r ≡ true
open-both true r n e = absurd (n refl)
open-both false r n e = e

shut-to : (net : List ℕ) (u v t n x : ℕ) → x < n → Closes net u v t x → open_to net u v t n ≡ false
unfolding open_to
shut-to net u v t zero x l c = absurd (omega arith)
shut-to net u v t (suc n) x l c =
    ⊎_elim
    (λ lt. shut-rest (closesb net u v t n) _ (shut-to net u v t n x lt c))
    (λ ge. let e : x ≡ n = omega arith in shut_one (closesb net u v t n) _ (closes-true net u v t n (subst (Closes net u v t) e c)))
    (lt-or-le x n)

open-to : (net : List ℕ) (u v t n : ℕ) → ((x : ℕ) → x < n → Closes net u v t x → ⊥) → open_to net u v t n ≡ true
unfolding open_to
open-to net u v t zero h = refl
open-to net u v t (suc n) h =
    open-both (closesb net u v t n) _ (λ e. h n (omega arith) (true-closes net u v t n e)) (open-to net u v t n (λ x l. h x (omega arith)))

-- a closure closes its way
pub shut-of : (net : List ℕ) (u v t x : ℕ) → x < closures_of net → Closes net u v t x → open_in net u v t ≡ false
unfolding open_in
shut-of net u v t x l c = shut-to net u v t (closures_of net) x l c

-- what no closure closes is open
pub open_of : (net : List ℕ) (u v t : ℕ) → ((x : ℕ) → x < closures_of net → Closes net u v t x → ⊥) → open_in net u v t ≡ true
unfolding open_in
open_of net u v t h = open-to net u v t (closures_of net) h

pub wait-kept : {lo hi : ℕ} {a b : List ℕ} (v : ℕ) → v < 64 → 192 ≤ lo → Besides lo hi a b → wait_in b v ≡ wait_in a v
wait-kept {lo} {hi} {a} {b} v l m p = from-same figures (v * 3) (v * 3) b a (λ j h. p.same (v * 3 + j) (inl (omega arith)))
