-- How the calls of the front and of a journey end: from a table that the search left ready, each refusal and the served call, with the arrays that they
-- leave; and from what the reader promises.
-- Assumes nothing.
use mathlib.Core.Path.{◌≡◌, refl, sym, ◌∙◌, ap, ap₂, subst}
use mathlib.Core.Logic.{inl, inr}
use mathlib.Core.Bool.{Bool, true}
use mathlib.Core.List.{List, [], ◌∷◌, ◌++◌}
use Prim.Native.Nat.{ℕ, suc, ◌-◌, ◌≤◌, ◌<◌, ◌/◌}
use native.Mathlib.Omega.{arith}
use lib.ListN.{length, get_or, take, replicate}
use borrow.Author.Tests.{lt-ltb, le-ltb, lt-leb, le-leb}
use Rattle.sheet.specs.Lists.{◌∈◌, filled, bind}
use Rattle.sheet.specs.Sheet.{Sheet, refused, loaded, read_of, goal}
use Rattle.std.specs.Prelude.{Ok, Err}
use Rattle.sheet.specs.Refusals.{number_of, refused_by, verdict}
use Rattle.sheet.specs.Store.{SomeStore, sheet_in, VerdictIs}
use Rattle.sheet.specs.Laws.Refusals.{number-some}
use Rattle.sheet.specs.Laws.Store.{store-sheet}
use Rattle.sheet.specs.declared.refusal.Refused.{Refused}
use Rattle.journeys.specs.Answers.{front_told, journey_told}
use Rattle.costs.specs.Costs.{Cost}
use Rattle.intervals.specs.FirstSteps.{Derived}
use Rattle.arrivals.specs.Arrivals.{Arrival}
use Rattle.arrivals.specs.Table.{crowded}
use Rattle.journeys.specs.Computed.{journey_of, arrival_of, front, front_of}
use Rattle.journeys.specs.Front.{OnFront}
use Rattle.journeys.specs.Calls.{cleared, front_row, overfull, front_end, front_refused, front_served, front_on, front_call, journey_end, journey_refused, too_short, journey_served, journey_on, journey_call}
use Rattle.journeys.specs.Held.{Layable}
use Rattle.journeys.specs.Inner.{goal_rows, costs_of, first_step_of, offered_rows, Numbered}
use Rattle.journeys.specs.Inner.Counting.{CountingOf}
use Rattle.journeys.specs.declared.front.Offered.{Offered}
use Rattle.journeys.specs.Laws.Front.{front-on}
use Rattle.journeys.specs.Laws.Journeys.{journey-length}
use Rattle.journeys.specs.Laws.Served.{member}
use Rattle.journeys.specs.Laws.Holds.{holds-front, holds-step}
use Rattle.journeys.specs.Laws.Searched.{Ready}

-- a lent array, cleared from its start
pub cleared-all : (table table' : List ℕ) → length table' ≡ length table → take 0 table' ++ replicate (length table' - 0) 0 ≡ cleared table
cleared-all table table' e = rw e

bind-same : (l : List Cost) (f g : Cost → List ℕ) → ((x : Cost) → x ∈ l → f x ≡ g x) → bind l f ≡ bind l g
bind-same [] f g h = refl
bind-same (x ∷ l) f g h = ap₂ (λ (p q : List ℕ). p ++ q) (h x (inl refl)) (bind-same l f g (λ y m. h y (inr m)))

-- the arrivals at the goal, off a table that is ready; v is the goal of the sheet, and the array tells which arrivals there count
module _ {s : Sheet} {table table' : List ℕ} {n : ℕ} (p : Ready s table table' n) {v : ℕ} {counting : List ℕ} (a : v ≡ goal s) (b : CountingOf s counting) where
  abbrev offers : List Arrival
  offers = goal_rows v counting n table'

  offers-are : offers ≡ goal_rows (goal s) counting n table'
  offers-are = ap (λ (x : ℕ). goal_rows x counting n table') a

  front-off : front_of (costs_of offers) ≡ front s
  front-off = ap (λ (l : List Arrival). front_of (costs_of l)) offers-are ∙ sym (holds-front s n table' counting p.holds b)

  step-off : (g : Cost) → g ∈ front s → first_step_of g offers ≡ arrival_of s g
  step-off g m = ap (first_step_of g) offers-are ∙ holds-step s n table' counting g p.holds b m

  rows-off : offered_rows offers ≡ bind (front s) (front_row s)
  rows-off =
      ap (λ (k : List Cost). bind k (λ g. g ++ (first_step_of g offers ∷ []))) front-off
      ∙ bind-same (front s) (λ g. g ++ (first_step_of g offers ∷ [])) (front_row s) (λ g m. ap (λ (i : ℕ). g ++ (i ∷ [])) (step-off g m))

  -- the front, by the count of its costs
  module _ (list : List ℕ) {costs : ℕ} (counted : costs ≡ length (front_of (costs_of offers))) where
    pub counts : costs ≡ length (front s)
    counts = counted ∙ ap length front-off

    pub front-nine : {t : List ℕ} → t ≡ take 0 table' ++ replicate (length table' - 0) 0 → length list / 4 < costs → front_refused t list 9 0 ≡ front_on s table list
    unfolding front_on overfull
    front-nine f h =
        ap (λ (y : List ℕ). front_refused y list 9 0) (f ∙ cleared-all table table' p.same_length)
        ∙ sym (rw (p.room, lt-ltb (length list / 4) (length (front s)) (omega (arith, h, counts))))

    pub front-end : {l : List ℕ} → l ≡ filled (length list) (offered_rows offers) → costs ≤ length list / 4
        → front_end (record { refusal = 0; line = 0; costs = costs; arrivals = n }) table' l ≡ front_on s table list
    unfolding front_on overfull front_served
    front-end e h =
        sym (rw (p.room, le-ltb (length list / 4) (length (front s)) (omega (arith, h, counts)), ← counts, ← p.counted, ← p.filled-table, ← rows-off, ← e))

  -- the cost with a number in the front
  module _ {i : ℕ} (off : length (front_of (costs_of offers)) ≤ i) (path : List ℕ) where
    pub journey-ten : {t : List ℕ} → t ≡ cleared table' → journey_refused t path 10 0 ≡ journey_on s i table path
    unfolding journey_on
    journey-ten f =
        ap (λ (y : List ℕ). journey_refused y path 10 0) (f ∙ ap (λ (m : ℕ). filled m []) p.same_length)
        ∙ sym (rw (p.room, le-leb (length (front s)) i (omega (arith, off, ap (λ (l : List Cost). length l) front-off))))

  module _ {i : ℕ} {o : Offered} (h : Numbered offers i o) where
    below : i < length (front s)
    below = omega (arith, h.within, ap (λ (l : List Cost). length l) front-off)

    cost-is : o.cost ≡ get_or (front s) i []
    cost-is = h.cost-is ∙ ap (λ (l : List Cost). get_or l i []) front-off

    listed : o.cost ∈ front s
    listed = subst (λ (g : Cost). g ∈ front s) (sym cost-is) (member (front s) i below)

    step_is : o.step.0 ≡ arrival_of s o.cost
    step_is = h.step-is ∙ step-off o.cost listed

    on : OnFront s o.cost
    on = front-on s o.cost listed

    journey-long : length (journey_of s o.cost) ≡ suc o.step.0
    journey-long = journey-length s o.cost on.has ∙ ap suc (sym step_is)

    module _ (path : List ℕ) where
      pub journey-eleven : {t : List ℕ} → t ≡ cleared table' → length path ≤ o.step.0 → journey_refused t path 11 0 ≡ journey_on s i table path
      unfolding journey_on too_short
      journey-eleven f l =
          ap (λ (y : List ℕ). journey_refused y path 11 0) (f ∙ ap (λ (m : ℕ). filled m []) p.same_length)
          ∙ sym (rw (p.room, lt-leb (length (front s)) i below, ← cost-is, lt-ltb (length path) (length (journey_of s o.cost)) (omega (arith, l, journey-long))))

      pub journey-end : {l : List ℕ} → o.step.0 < length path → l ≡ filled (length path) (journey_of s o.cost)
          → journey_end (record { refusal = 0; line = 0; cost = o.cost; arrival = o.step.0 }) table' l ≡ journey_on s i table path
      unfolding journey_on too_short journey_served
      journey-end m e =
          sym
          (rw
          (p.room, lt-leb (length (front s)) i below, ← cost-is, le-ltb (length path) (length (journey_of s o.cost)) (omega (arith, m, journey-long)), ← step_is, ← p.filled-table, ← e))

-- a search without room
pub front-eight : (s : Sheet) (table list : List ℕ) {t : List ℕ} → t ≡ cleared table → crowded s (length table) ≡ true → front_refused t list 8 0 ≡ front_on s table list
unfolding front_on
front-eight s table list f c = ap (λ (y : List ℕ). front_refused y list 8 0) f ∙ sym (rw c)

pub journey-eight : (s : Sheet) (i : ℕ) (table path : List ℕ) {t : List ℕ} → t ≡ cleared table → crowded s (length table) ≡ true
    → journey_refused t path 8 0 ≡ journey_on s i table path
unfolding journey_on
journey-eight s i table path f c = ap (λ (y : List ℕ). journey_refused y path 8 0) f ∙ sym (rw c)

-- the path of a cost that was found
pub layable : {s : Sheet} {since : List ℕ} → Derived s since → {table table' : List ℕ} {n : ℕ} (p : Ready s table table' n) {v : ℕ} {counting : List ℕ}
    (a : v ≡ goal s) (b : CountingOf s counting) {i : ℕ} {o : Offered} → Numbered (goal_rows v counting n table') i o → (path : List ℕ)
    → o.step.0 < length path → Layable s since n table' o.step.0 o.cost path
layable d p a b h path l =
    record { ends = record { derived = d; holds = p.holds; on-front = on p a b h; arrives_at = step_is p a b h }; room = omega (arith, l) }

-- a call on bytes that were not read, or that read as the sheet in the array
module _ (b : List ℕ) where
  module _ {lines all : List ℕ} (r : Refused) (q : VerdictIs (read_of b) lines all (refused_by r)) where
    unread : read_of b ≡ refused (number_of r.refusal) r.line
    unread = q.refuses (λ z. omega (arith, number-some r.refusal))

    pub front-unread : (table list : List ℕ) → front_end (front_told (Err r)) table list ≡ front_call b table list
    unfolding front_call
    front-unread table list = sym (rw unread)

    pub journey-unread : (i : ℕ) (table path : List ℕ) → journey_end (journey_told (Err r)) table path ≡ journey_call b i table path
    unfolding journey_call
    journey-unread i table path = sym (rw unread)

  module _ {lines all : List ℕ} (q : VerdictIs (read_of b) lines all (verdict (Ok tt))) where
    pub read_held : SomeStore lines all
    read_held = let h = q.holds refl in record { sheet = h.0; store = h.2 }

    read_as : read_of b ≡ loaded (sheet_in lines all)
    read_as = let h = q.holds refl in h.1 ∙ ap loaded (sym (store-sheet h.2))

    pub front_read : {s : Sheet} → s ≡ sheet_in lines all → (table list : List ℕ) → front_on s table list ≡ front_call b table list
    unfolding front_call
    front_read e table list = ap (λ (x : Sheet). front_on x table list) e ∙ sym (rw read_as)

    pub journey-read : {s : Sheet} → s ≡ sheet_in lines all → (i : ℕ) (table path : List ℕ) → journey_on s i table path ≡ journey_call b i table path
    unfolding journey_call
    journey-read e i table path = ap (λ (x : Sheet). journey_on x i table path) e ∙ sym (rw read_as)
