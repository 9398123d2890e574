-- When a call of the front is served, and what it then hands back: refusal 0 exactly when the bytes read as a sheet, the leading arrivals fit the
-- room of the table and the front costs fit the room of the list. So demand 3 is not empty talk. The same for a call of a journey.
use Rattle.std.specs.Prelude.{◌≡◌, refl, ◌↔◌, Bool, true, false, List, [], ◌∷◌, map, ℕ, ◌+◌, ◌*◌, ◌-◌, ◌≤◌, ◌<◌, ◌/◌, ltb, leb, length, get_or, replicate}
use Rattle.std.proofs.Common.{◌∙◌, ap, arith, length-append, ltb-false, leb-false, le-ltb}
use Rattle.std.proofs.lemmas.List.{length-map}
use Rattle.std.proofs.Math.ListN.{get_or-append}
use Rattle.std.proofs.lemmas.Bool.{lt-leb}
use Rattle.sheet.specs.Lists.{◌∈◌, pick, number, bind, flat}
use Rattle.sheet.specs.Sheet.{Sheet, Outcome, refused, loaded, told, read_of}
use Rattle.sheet.specs.Laws.Members.{map-mem, mem-at, get_d_map}
use Rattle.sheet.specs.Laws.Rows.{flat-length, flat-at, bind-flat}
use Rattle.sheet.specs.Laws.RoundTrip.{read-refused}
use Rattle.costs.specs.Costs.{Cost, figures, fig}
use Rattle.arrivals.specs.Computed.{leading}
use Rattle.arrivals.specs.Table.{crowded}
use Rattle.journeys.specs.Computed.{journey_of, arrival_of, front}
use Rattle.journeys.specs.Calls.{cleared, front_row, overfull, FrontEnd, front_refused, front_served, front_on, front_call, journey_refused, too_short, journey_served, journey_on, journey_call}
use Rattle.journeys.specs.Laws.Journeys.{has-three}
use Rattle.journeys.specs.Laws.Front.{front-on}

-- the sheet of the bytes, whose leading arrivals and front costs fit
pub record Fits (b table list : List ℕ) : Type 0 where
  pub sheet : Sheet
  pub reads : read_of b ≡ loaded sheet
  pub arrivals-fit : length (leading sheet) ≤ length table / 5
  pub costs-fit : length (front sheet) ≤ length list / 4

-- what a served call ended with
pub record Served (b table list : List ℕ) (e : FrontEnd) : Type 0 where
  pub fits : Fits b table list
  pub end : e ≡ front_served fits.sheet table list

pub on-served : (s : Sheet) (table list : List ℕ) → (front_on s table list).answer.refusal ≡ 0
    → (length (leading s) ≤ length table / 5) × (length (front s) ≤ length list / 4) × (front_on s table list ≡ front_served s table list)
unfolding front_on crowded overfull
on-served s table list z = go (ltb (length table / 5) (length (leading s))) (ltb (length list / 4) (length (front s))) refl refl z
  where
    go : (t u : Bool) → ltb (length table / 5) (length (leading s)) ≡ t → ltb (length list / 4) (length (front s)) ≡ u
        → (pick t (front_refused (cleared table) list 8 0) (pick u (front_refused (cleared table) list 9 0) (front_served s table list))).answer.refusal ≡ 0
        → (length (leading s) ≤ length table / 5) × (length (front s) ≤ length list / 4)
        × (pick t (front_refused (cleared table) list 8 0) (pick u (front_refused (cleared table) list 9 0) (front_served s table list)) ≡ front_served s table list)
    go true u p q z = absurd (omega (arith, z))
    go false true p q z = absurd (omega (arith, z))
    go false false p q z = (ltb-false (length table / 5) (length (leading s)) p, ltb-false (length list / 4) (length (front s)) q, refl)

pub served : (b table list : List ℕ) → (front_call b table list).answer.refusal ≡ 0 → Served b table list (front_call b table list)
unfolding front_call
served b table list z = go (read_of b) refl z
  where
    go : (o : Outcome) → read_of b ≡ o → (told (front_refused table list) (λ s. front_on s table list) o).answer.refusal ≡ 0 → Served b table list (told (front_refused table list) (λ s. front_on s table list) o)
    go (refused k n) r z = absurd (omega (arith, z, read-refused b k n r))
    go (loaded s) r z =
        let q = on-served s table list z in
        record { fits = record { sheet = s; reads = r; arrivals-fit = q.0; costs-fit = q.1 }; end = q.2 }

fits-served : (b table list : List ℕ) → Fits b table list → (front_call b table list).answer.refusal ≡ 0
unfolding front_call front_on crowded overfull front_served
fits-served b table list f =
    rw (f.reads, le-ltb (length table / 5) (length (leading f.sheet)) f.arrivals-fit, le-ltb (length list / 4) (length (front f.sheet)) f.costs-fit)

-- a call of the front is served exactly when the sheet reads, the leading arrivals fit and the front fits
pub served-exactly : (b table list : List ℕ) → ((front_call b table list).answer.refusal ≡ 0) ↔ Fits b table list
served-exactly b table list = (λ z. (served b table list z).fits, fits-served b table list)

-- the sheet of the bytes, whose leading arrivals fit, on whose front there is a number i, and whose journey fits
pub record FitsJourney (b : List ℕ) (i : ℕ) (table path : List ℕ) : Type 0 where
  pub sheet : Sheet
  pub reads : read_of b ≡ loaded sheet
  pub arrivals-fit : length (leading sheet) ≤ length table / 5
  pub numbered : i < length (front sheet)
  pub path-fits : length (journey_of sheet (get_or (front sheet) i [])) ≤ length path

on_fits : (s : Sheet) (i : ℕ) (table path : List ℕ) → (journey_on s i table path).answer.refusal ≡ 0
    → (length (leading s) ≤ length table / 5) × (i < length (front s)) × (length (journey_of s (get_or (front s) i [])) ≤ length path)
unfolding journey_on crowded too_short
on_fits s i table path z =
    go (ltb (length table / 5) (length (leading s))) (leb (length (front s)) i) (ltb (length path) (length (journey_of s (get_or (front s) i [])))) refl refl refl z
  where
    go : (t u w : Bool) → ltb (length table / 5) (length (leading s)) ≡ t → leb (length (front s)) i ≡ u → ltb (length path) (length (journey_of s (get_or (front s) i []))) ≡ w
        → (pick t (journey_refused (cleared table) path 8 0) (pick u (journey_refused (cleared table) path 10 0) (pick w (journey_refused (cleared table) path 11 0) (journey_served s (get_or (front s) i []) table path)))).answer.refusal ≡ 0
        → (length (leading s) ≤ length table / 5) × (i < length (front s)) × (length (journey_of s (get_or (front s) i [])) ≤ length path)
    go true u w p q r z = absurd (omega (arith, z))
    go false true w p q r z = absurd (omega (arith, z))
    go false false true p q r z = absurd (omega (arith, z))
    go false false false p q r z = (ltb-false (length table / 5) (length (leading s)) p, leb-false (length (front s)) i q, ltb-false (length path) (length (journey_of s (get_or (front s) i []))) r)

journey-fits : (b : List ℕ) (i : ℕ) (table path : List ℕ) → (journey_call b i table path).answer.refusal ≡ 0 → FitsJourney b i table path
unfolding journey_call
journey-fits b i table path z = go (read_of b) refl z
  where
    go : (o : Outcome) → read_of b ≡ o → (told (journey_refused table path) (λ s. journey_on s i table path) o).answer.refusal ≡ 0 → FitsJourney b i table path
    go (refused k n) r z = absurd (omega (arith, z, read-refused b k n r))
    go (loaded s) r z =
        let q = on_fits s i table path z in
        record { sheet = s; reads = r; arrivals-fit = q.0; numbered = q.1; path-fits = q.2 }

fits-journey : (b : List ℕ) (i : ℕ) (table path : List ℕ) → FitsJourney b i table path → (journey_call b i table path).answer.refusal ≡ 0
unfolding journey_call journey_on crowded too_short journey_served
fits-journey b i table path f =
    rw
    (f.reads, le-ltb (length table / 5) (length (leading f.sheet)) f.arrivals-fit, lt-leb (length (front f.sheet)) i f.numbered, le-ltb (length path) (length (journey_of f.sheet (get_or (front f.sheet) i []))) f.path-fits)

-- a call of a journey is served exactly when the sheet reads, the leading arrivals fit, its number is on the front and the path buffer is long enough
pub journey-served-exactly : (b : List ℕ) (i : ℕ) (table path : List ℕ) → ((journey_call b i table path).answer.refusal ≡ 0) ↔ FitsJourney b i table path
journey-served-exactly b i table path = (journey-fits b i table path, fits-journey b i table path)

rows-wide : (s : Sheet) (l : List ℕ) → l ∈ map (front_row s) (front s) → length l ≡ 4
rows-wide s l m =
    let r = map-mem (front_row s) l (front s) m in
    ap length r.2 ∙ length-append r.0 (arrival_of s r.0 ∷ []) ∙ ap (λ (n : ℕ). n + 1) (has-three s r.0 (front-on s r.0 r.1).has)

-- what has a number in a list of costs is a member
pub member : (l : List Cost) (i : ℕ) → i < length l → get_or l i [] ∈ l
member l i h = mem-at [] l i h

-- four numbers a front cost
pub list_length : (s : Sheet) → length (bind (front s) (front_row s)) ≡ length (front s) * 4
list_length s =
    ap length (bind-flat (front_row s) (front s)) ∙ flat-length 4 (map (front_row s) (front s)) (rows-wide s) ∙ ap (λ (m : ℕ). m * 4) (length-map (front s) (front_row s))

-- the list as a served call returned it, number by number of its rows
pub row_listed : (s : Sheet) (table list : List ℕ) (i j : ℕ) → i < length (front s) → j < 4 → number (front_served s table list).list (i * 4 + j) ≡ number (front_row s (get_or (front s) i [])) j
unfolding front_served
row_listed s table list i j h k =
    let r = bind (front s) (front_row s) in
    let e : r ≡ flat (map (front_row s) (front s)) = bind-flat (front_row s) (front s) in
    let c : length (map (front_row s) (front s)) ≡ length (front s) = length-map (front s) (front_row s) in
    get_or-append r (replicate (length list - length r) 0) 0 (i * 4 + j) (omega (arith, h, k, list_length s))
    ∙ ap (λ (l : List ℕ). number l (i * 4 + j)) e
    ∙ flat-at 4 (map (front_row s) (front s)) (rows-wide s) i j (omega (arith, h, c)) k
    ∙ ap (λ (l : List ℕ). number l j) (get_d_map (front_row s) (front s) i [] [] h)

-- and figure by figure
pub listed : (s : Sheet) (table list : List ℕ) (i j : ℕ) → i < length (front s) → j < figures → number (front_served s table list).list (i * 4 + j) ≡ fig (get_or (front s) i []) j
listed s table list i j h k =
    let g = get_or (front s) i [] in
    row_listed s table list i j h (omega (arith, k))
    ∙ get_or-append g (arrival_of s g ∷ []) 0 j (omega (arith, k, has-three s g (front-on s g (member (front s) i h)).has))
