-- The page is what the calls hand back (specs/Laws/Page.antt): the program's page shows the refusal of the call of the front, or its counts and then, for
-- each number in the front, the cost, the arrival and the path of the call of that journey, in the buffers that the program lends.
-- Assumes nothing.
use Rattle.std.specs.Prelude.{◌≡◌, refl, Bool, true, false, List, [], ◌∷◌, ◌++◌, ℕ, suc, ◌+◌, ◌-◌, ◌≤◌, ◌<◌, length, get_or, replicate}
use Rattle.std.proofs.Common.{sym, ◌∙◌, ap, ap₂, arith, take_at, ne_eqb, le-ltb}
use Rattle.std.proofs.lemmas.List.{length-replicate}
use Rattle.std.proofs.lemmas.Bool.{lt-leb}
use Rattle.sheet.specs.Lists.{pick, bind}
use Rattle.sheet.specs.Sheet.{Sheet, Outcome, refused, loaded, told, read_of}
use Rattle.sheet.specs.Valid.{Valid}
use Rattle.sheet.specs.Text.{printed, most_printed, refusal_line}
use Rattle.sheet.specs.Laws.RoundTrip.{read-refused}
use Rattle.sheet.proofs.RoundTrip.{read-valid}
use Rattle.costs.specs.Costs.{Cost}
use Rattle.arrivals.specs.Table.{crowded}
use Rattle.journeys.specs.Journeys.{HasCost}
use Rattle.journeys.specs.Computed.{journey_of, arrival_of, front}
use Rattle.journeys.specs.Calls.{cleared, front_row, overfull, front_refused, front_served, front_on, front_call, journey_refused, too_short, journey_served, journey_on, journey_call}
use Rattle.page.specs.Page.{front_line, journey_lines, offer_lines, table_numbers, list_numbers, page_on, page}
use Rattle.journeys.specs.Laws.Journeys.{journey-length, journey-short}
use Rattle.journeys.specs.Laws.Front.{front-on}
use Rattle.journeys.specs.Laws.Served.{member}
use Rattle.page.specs.Laws.Page.{numbers, front_program, journey_program, front_printed, journey_printed, page_printed}

-- member by member is number by number
by_number : (l : List Cost) (i : ℕ) (f : Cost → List ℕ) (g : ℕ → List ℕ) → ((j : ℕ) → j < length l → f (get_or l j []) ≡ g (i + j)) → bind l f ≡ bind (numbers i (length l)) g
by_number [] i f g h = refl
by_number (x ∷ l) i f g h =
    let a : f x ≡ g i = h 0 (omega arith) ∙ ap g (let e : i + 0 ≡ i = omega arith in e) in
    let b : bind l f ≡ bind (numbers (suc i) (length l)) g =
    by_number l (suc i) f g (λ j k. h (suc j) (omega arith) ∙ ap g (let e : i + suc j ≡ suc i + j = omega arith in e)) in
    ap₂ (λ (p q : List ℕ). p ++ q) a b

served-lines : (s : Sheet) (g : Cost) (table path : List ℕ) → HasCost s g → journey_lines s g ≡ journey_printed (journey_served s g table path)
unfolding journey_lines journey_served
served-lines s g table path h =
    ap (λ (p : List ℕ). printed most_printed 74 (front_row s g) ++ printed most_printed 80 p) (sym (take_at (journey_of s g) (replicate (length path - length (journey_of s g)) 0) (suc (arrival_of s g)) (journey-length s g h)))

journey-served : (s : Sheet) (i : ℕ) (table path : List ℕ) → crowded s (length table) ≡ false → i < length (front s) → length (journey_of s (get_or (front s) i [])) ≤ length path
    → journey_on s i table path ≡ journey_served s (get_or (front s) i []) table path
unfolding journey_on too_short
journey-served s i table path c h l = rw (c, lt-leb (length (front s)) i h, le-ltb (length path) (length (journey_of s (get_or (front s) i []))) l)

on-served : (s : Sheet) (table list path : List ℕ) → Valid s → crowded s (length table) ≡ false → length path ≡ 256
    → front_line s ++ offer_lines s
    ≡ front_printed (front_served s table list) ++ bind (numbers 0 (length (front s))) (λ i. journey_printed (journey_on s i table path))
unfolding front_line offer_lines front_served
on-served s table list path v c k = ap (λ (p : List ℕ). front_line s ++ p) (by_number (front s) 0 (journey_lines s) (λ i. journey_printed (journey_on s i table path)) each)
  where
    each : (j : ℕ) → j < length (front s) → journey_lines s (get_or (front s) j []) ≡ journey_printed (journey_on s (0 + j) table path)
    each j h =
        let g = get_or (front s) j [] in
        let o = (front-on s g (member (front s) j h)).has in
        let z : 0 + j ≡ j = omega arith in
        let l : length (journey_of s g) ≤ length path = omega (arith, journey-short s g v o) in
        served-lines s g table path o ∙ ap journey_printed (sym (journey-served s j table path c h l) ∙ ap (λ (n : ℕ). journey_on s n table path) (sym z))

page-on : (s : Sheet) (table list path : List ℕ) → Valid s → length table ≡ table_numbers → length list ≡ list_numbers → length path ≡ 256
    → page_on s ≡ page_printed (front_on s table list) (λ i. journey_on s i table path)
unfolding page_on front_on
page-on s table list path v a b k = go (crowded s (length table)) (overfull s (length list)) refl refl
  where
    shown : (t u : Bool) → crowded s (length table) ≡ t
        → pick t (refusal_line 8 0) (pick u (refusal_line 9 0) (front_line s ++ offer_lines s))
        ≡ page_printed (pick t (front_refused (cleared table) list 8 0) (pick u (front_refused (cleared table) list 9 0) (front_served s table list))) (λ i. journey_on s i table path)
    shown true u e = refl
    shown false true e = refl
    shown false false e = on-served s table list path v e k

    go : (t u : Bool) → crowded s (length table) ≡ t → overfull s (length list) ≡ u → page_on s ≡ page_printed (front_on s table list) (λ i. journey_on s i table path)
    go t u e f =
        let e' : crowded s table_numbers ≡ t = ap (crowded s) (sym a) ∙ e in
        let f' : overfull s list_numbers ≡ u = ap (overfull s) (sym b) ∙ f in
        ap₂ (λ (x y : Bool). pick x (refusal_line 8 0) (pick y (refusal_line 9 0) (front_line s ++ offer_lines s))) e' f'
        ∙ shown t u e
        ∙ sym (ap₂ (λ (x y : Bool). page_printed (pick x (front_refused (cleared table) list 8 0) (pick y (front_refused (cleared table) list 9 0) (front_served s table list))) (λ i. journey_on s i table path)) e f)

-- in any buffers of these lengths
pub page-by : (b table list path : List ℕ) → length table ≡ table_numbers → length list ≡ list_numbers → length path ≡ 256
    → page b ≡ page_printed (front_call b table list) (λ i. journey_call b i table path)
unfolding page front_call journey_call
page-by b table list path t l k = go (read_of b) refl
  where
    go : (o : Outcome) → read_of b ≡ o → told refusal_line page_on o
        ≡ page_printed (told (front_refused table list) (λ s. front_on s table list) o) (λ i. told (journey_refused table path) (λ s. journey_on s i table path) o)
    go (refused k n) e = rw (ne_eqb k 0 (λ z. omega (arith, read-refused b k n e)))
    go (loaded s) e = page-on s table list path (read-valid b s e) t l k

pub page-calls : (b : List ℕ) → page b ≡ page_printed (front_program b) (journey_program b)
page-calls b =
    page-by b (replicate table_numbers 0) (replicate list_numbers 0) (replicate 256 0)
    (length-replicate {A = ℕ} table_numbers 0) (length-replicate {A = ℕ} list_numbers 0) (length-replicate {A = ℕ} 256 0)
