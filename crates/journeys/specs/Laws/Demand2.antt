-- Demand 2, one claim about what the calls hand back. A call of the front that is not refused lists the computed front row by row (Laws.Served),
-- which holds exactly the front costs, ascending (Laws.Front); a call of the journey that is not refused hands back the cost with its number there
-- and the computed journey of it, which is the one that the tie rule selects (Laws.Journeys); and sheets are read and written back by the laws of
-- the calls (sheet's Laws.RoundTrip). Bytes that read as a sheet read as one sheet, so all calls on them speak of it.
use Rattle.std.specs.Prelude.{◌≡◌, Bool, true, false, ℕ, suc, ◌+◌, ◌*◌, ◌-◌, ◌≤◌, ◌<◌, ◌/◌, leb, length, take, drop, replicate}
use Rattle.std.proofs.Math.Path.{refl, sym, ap, subst}
use Rattle.std.proofs.Common.{◌∙◌, inl, inr, arith, length-append, take_at, le-ltb}
use mathlib.Core.List.{List, [], ◌∷◌}
use Rattle.std.proofs.Math.ListN.{get_or}
use Rattle.std.proofs.Math.Seq.{take-append_seam}
use Rattle.std.proofs.lemmas.List.{get_or_at}
use Rattle.sheet.specs.Lists.{◌∈◌, number, pick, bind, Lex}
use Rattle.sheet.specs.Sheet.{Sheet, loaded, told, read_of}
use Rattle.sheet.specs.Calls.{WriteEnd}
use Rattle.sheet.specs.Laws.Members.{mem-at}
use Rattle.sheet.specs.Laws.Stores.{filled-past}
use Rattle.sheet.specs.Laws.Judge.{loaded-inj}
use Rattle.sheet.proofs.RoundTrip.{write-read-answer, write-read-groups, read-write-calls}
use Rattle.costs.specs.Costs.{Cost, figures}
use Rattle.costs.specs.Laws.Figures.{is-from}
use Rattle.arrivals.specs.Arrivals.{Arrival, key_of, Leading}
use Rattle.arrivals.specs.Computed.{arrival, leading}
use Rattle.arrivals.specs.Table.{arrival_row, crowded, arrival_table}
use Rattle.journeys.specs.Journeys.{Journey, HasCost, Selected}
use Rattle.journeys.specs.Front.{OnFront}
use Rattle.journeys.specs.Computed.{self, journey_of, arrival_of, front}
use Rattle.journeys.specs.Calls.{cleared, front_row, FrontEnd, front_served, front_call, JourneyEnd, journey_refused, too_short, journey_served, journey_on, journey_call}
use Rattle.journeys.specs.Demand2.{cost_at, ListsFront, arrival_at, ListsLeading, GivesJourney, Demand2}
use Rattle.journeys.specs.Laws.Journeys.{has-three, journey_of-selected, journey-length}
use Rattle.journeys.specs.Laws.Front.{front-on, on-front, front-ascending, front-empty}
use Rattle.journeys.specs.Laws.Goal.{selected-earliest}
use Rattle.arrivals.proofs.Leading.{leading-is, is_leading, leading-ascending}
use Rattle.journeys.specs.Laws.Searched.{Ready, ready-is, rows-length}
use Rattle.journeys.specs.Laws.Rows.{keys-ascend, table-row}
use Rattle.journeys.specs.Laws.Served.{served, member, list_length, row_listed, listed}

-- a member of a list has a number in it
module _ {A : Type 0} (d : A) where
  position : (g : A) (l : List A) → g ∈ l → (i : ℕ) × (i < length l) × (get_or l i d ≡ g)
  position g [] m = absurd m
  position g (x ∷ l) (inl e) = (0, omega arith, sym e)
  position g (x ∷ l) (inr m) = let r = position g l m in (suc r.0, omega (arith, r.1), r.2)

no-costs : (l : List Cost) → length l ≡ 0 → l ≡ []
no-costs [] e = refl
no-costs (x ∷ l) e = absurd (omega (arith, e))

-- a number in the front has a lawful journey's cost
has-at : (s : Sheet) (i : ℕ) → i < length (front s) → HasCost s (get_or (front s) i [])
has-at s i h = (front-on s (get_or (front s) i []) (member (front s) i h)).has

-- a row of the served list: the cost, and its arrival step
module _ (s : Sheet) (table list : List ℕ) (i : ℕ) (h : i < length (front s)) where
  cost-listed : cost_at (front_served s table list) i ≡ get_or (front s) i []
  cost-listed =
      sym (is-from figures (i * 4) (get_or (front s) i []) (front_served s table list).list
      (record { sized = has-three s (get_or (front s) i []) (has-at s i h); so_far = λ j k. sym (listed s table list i j h k) }))

  step-listed : number (front_served s table list).list (i * 4 + figures) ≡ arrival_of s (get_or (front s) i [])
  step-listed =
      let g = get_or (front s) i [] in
      row_listed s table list i 3 h (omega arith)
      ∙ get_or_at g (arrival_of s g) [] 0 3 (has-three s g (has-at s i h))

lex-as : (a b c d : Cost) → a ≡ c → b ≡ d → Lex c d → Lex a b
lex-as a b c d p q h = subst (λ (x : Cost). Lex x b) (sym p) (subst (Lex c) (sym q) h)

-- the tie rule selects an earliest journey
no-shorter : (s : Sheet) (g : Cost) → HasCost s g → (p : List ℕ) → Journey s p g → suc (arrival_of s g) ≤ length p
no-shorter s g h p j = omega (arith, journey-length s g h, selected-earliest s g (journey_of s g) p (journey_of-selected s g h) j)

-- the served list is the front: its members by their numbers
lists-front : (s : Sheet) (table list : List ℕ) → ListsFront s (front_served s table list)
unfolding front_served
lists-front s table list =
    record {
      listed-on = λ i h. (inside i h, subst (OnFront s) (sym (cost-listed s table list i h)) (front-on s (get_or (front s) i []) (member (front s) i h)));
      on-listed = λ g o.
          let r = position [] g (front s) (on-front s g o) in
          (r.0, r.1, cost-listed s table list r.0 r.1 ∙ r.2);
      ascending = λ i j h k.
          lex-as (cost_at e i) (cost_at e j) (get_or (front s) i []) (get_or (front s) j [])
          (cost-listed s table list i (omega (arith, h, k))) (cost-listed s table list j k) (keys-ascend [] self (front s) (front-ascending s) i j h k);
      arrives = λ i h.
          let g = get_or (front s) i [] in
          let o = has-at s i h in
          (journey_of s g, subst (Journey s (journey_of s g)) (sym (cost-listed s table list i h)) (journey_of-selected s g o).journey, journey-length s g o ∙ ap suc (sym (step-listed s table list i h)));
      no-sooner = λ i h p j.
          omega (arith, step-listed s table list i h, no-shorter s (get_or (front s) i []) (has-at s i h) p (subst (Journey s p) (cost-listed s table list i h) j));
      zeros = λ i l. filled-past (length list) (bind (front s) (front_row s)) i (omega (arith, l, list_length s));
      empty = (
        λ z p g j. (front-empty s).0 (no-costs (front s) z) g (p, j),
        λ n. ap length ((front-empty s).1 (λ g h. n h.0 g h.1)),
      );
    }
  where
    e : FrontEnd
    e = front_served s table list

    inside : (i : ℕ) → i < length (front s) → i * 4 + 4 ≤ length e.list
    inside i h = let r = bind (front s) (front_row s) in omega (arith, h, list_length s, length-append r (replicate (length list - length r) 0))

-- the served table holds the leading arrivals, row by row
module _ (s : Sheet) (table list : List ℕ) (h : length (leading s) ≤ length table / 5) where
  abbrev e : FrontEnd
  e = front_served s table list

  ready : Ready s table (arrival_table s (length table)) (length (leading s))
  unfolding crowded
  ready = ready-is s table (arrival_table s (length table)) (length (leading s)) (le-ltb (length table / 5) (length (leading s)) h) refl refl

  row_is : (i : ℕ) → i < length (leading s) → arrival_at e i ≡ get_or (leading s) i (arrival 0 0 [])
  unfolding front_served
  row_is i l = sym (table-row (length (leading s)) (arrival_table s (length table)) i l) ∙ ap (λ (k : List Arrival). get_or k i (arrival 0 0 [])) ready.holds.rows_are

  lists-leading : ListsLeading s e
  unfolding front_served
  lists-leading =
      record {
        rows-lead = λ i l. (omega (arith, l, ready.holds.room), subst (Leading s) (sym (row_is i l)) (leading-is s (get_or (leading s) i (arrival 0 0 [])) (mem-at (arrival 0 0 []) (leading s) i l)));
        leading-rows = λ a m. let r = position (arrival 0 0 []) a (leading s) (is_leading s a m) in (r.0, r.1, row_is r.0 r.1 ∙ r.2);
        ascending = λ i j k l.
            subst (λ (a : Arrival). Lex (key_of a) (key_of (arrival_at e j))) (sym (row_is i (omega (arith, k, l))))
            (subst (λ (b : Arrival). Lex (key_of (get_or (leading s) i (arrival 0 0 []))) (key_of b)) (sym (row_is j l)) (keys-ascend (arrival 0 0 []) key_of (leading s) (leading-ascending s) i j k l));
        zeros = λ i l. filled-past (length table) (bind (leading s) arrival_row) i (omega (arith, l, rows-length s));
      }

-- bytes read as one sheet, and a call of the front on them that is not refused serves it
front-served : (b table list : List ℕ) (s : Sheet) → read_of b ≡ loaded s → (front_call b table list).answer.refusal ≡ 0 → front_call b table list ≡ front_served s table list
front-served b table list s r z =
    let v = served b table list z in
    v.end ∙ ap (λ (x : Sheet). front_served x table list) (loaded-inj v.fits.sheet s (sym v.fits.reads ∙ r))

-- a journey that is not refused is served, by the three tests in turn
journey-served : (s : Sheet) (i : ℕ) (table path : List ℕ) → (journey_on s i table path).answer.refusal ≡ 0 → journey_on s i table path ≡ journey_served s (get_or (front s) i []) table path
unfolding journey_on
journey-served s i table path z = go (crowded s (length table)) (leb (length (front s)) i) (too_short s (get_or (front s) i []) (length path)) z
  where
    end : Bool → Bool → Bool → JourneyEnd
    end t u v =
        pick t (journey_refused (cleared table) path 8 0)
        (pick u (journey_refused (cleared table) path 10 0) (pick v (journey_refused (cleared table) path 11 0) (journey_served s (get_or (front s) i []) table path)))

    go : (t u v : Bool) → (end t u v).answer.refusal ≡ 0 → end t u v ≡ journey_served s (get_or (front s) i []) table path
    go true u v z = absurd (omega (arith, z))
    go false true v z = absurd (omega (arith, z))
    go false false true z = absurd (omega (arith, z))
    go false false false z = refl

-- so a call of a journey on the bytes that is not refused serves it
journey-call : (b : List ℕ) (i : ℕ) (table path : List ℕ) (s : Sheet) → read_of b ≡ loaded s → (journey_call b i table path).answer.refusal ≡ 0
    → journey_call b i table path ≡ journey_served s (get_or (front s) i []) table path
unfolding journey_call
journey-call b i table path s r z =
    let e : told (journey_refused table path) (λ x. journey_on x i table path) (read_of b) ≡ journey_on s i table path =
    ap (told (journey_refused table path) (λ x. journey_on x i table path)) r
    in
    e ∙ journey-served s i table path (subst (λ (x : JourneyEnd). x.answer.refusal ≡ 0) e z)

-- what a served call of a journey gives
gives : (s : Sheet) (g : Cost) (table path : List ℕ) → HasCost s g → GivesJourney s g (journey_served s g table path)
unfolding journey_served
gives s g table path h =
    record {
      cost-is = refl;
      long = omega (arith, length-append (journey_of s g) (replicate (length path - length (journey_of s g)) 0), journey-length s g h);
      selected = subst (Selected s g) (sym (take_at (journey_of s g) (replicate (length path - length (journey_of s g)) 0) (suc (arrival_of s g)) (journey-length s g h))) (journey_of-selected s g h);
    }

-- the ends of a call of the front and of the journey with number i in it agree
abbrev Agree : Sheet → ℕ → FrontEnd → JourneyEnd → Type 0
Agree s i e f = GivesJourney s (cost_at e i) f × (f.answer.arrival ≡ number e.list (i * 4 + figures))

agree : (s : Sheet) (table list table' path : List ℕ) (i : ℕ) → i < (front_served s table list).answer.costs → Agree s i (front_served s table list) (journey_served s (get_or (front s) i []) table' path)
unfolding front_served journey_served
agree s table list table' path i h =
    let g = get_or (front s) i [] in
    (subst (λ (c : Cost). GivesJourney s c (journey_served s g table' path)) (sym (cost-listed s table list i h)) (gives s g table' path (has-at s i h)), sym (step-listed s table list i h))

-- For any bytes and any lent arrays, one buffer that serves several calls in turn among them.
pub demand-2 : Demand2
demand-2 =
    record {
      front = fronts;
      journeys = each;
      read-written = λ b out z l.
          let e = read-write-calls b out z l in
          (ap (λ (w : WriteEnd). w.answer.refusal) e, ap (λ (w : WriteEnd). w.answer.bytes) e, ap (λ (w : WriteEnd). take (length b) w.out) e ∙ take-append_seam b (drop (length b) out));
      written_read = λ g out z. (write-read-groups g out z, write-read-answer g out z);
    }
  where
    fronts : (b table list : List ℕ) → (front_call b table list).answer.refusal ≡ 0
        → (s : Sheet) × (read_of b ≡ loaded s) × ListsFront s (front_call b table list) × ListsLeading s (front_call b table list)
    fronts b table list z =
        let v = served b table list z in
        let s = v.fits.sheet in
        (s, v.fits.reads, subst (ListsFront s) (sym v.end) (lists-front s table list), subst (ListsLeading s) (sym v.end) (lists-leading s table list v.fits.arrivals-fit))

    each : (b table list table' path : List ℕ) (i : ℕ) (s : Sheet) → read_of b ≡ loaded s → (front_call b table list).answer.refusal ≡ 0
        → i < (front_call b table list).answer.costs → (journey_call b i table' path).answer.refusal ≡ 0 → Agree s i (front_call b table list) (journey_call b i table' path)
    each b table list table' path i s r y h z =
        let e = front-served b table list s r y in
        let f = journey-call b i table' path s r z in
        let k = subst (λ (x : FrontEnd). i < x.answer.costs) e h in
        subst (λ (x : FrontEnd). Agree s i x (journey_call b i table' path)) (sym e) (subst (Agree s i (front_served s table list)) (sym f) (agree s table list table' path i k))
