-- The lines of a front cost: what its row of the front list says, and the path laid from its arrival (the two lines that are written of both stand in
-- proofs/Printing.antt); then the lines of all rows, one after another.
use Rattle.std.specs.Prelude.{◌≡◌, refl, ℕ, zero, suc, ◌+◌, ◌*◌, ◌-◌, ◌≤◌, ◌<◌, get_or, take, drop, replicate}
use Rattle.std.proofs.Common.{sym, ◌∙◌, ap₂, inl, inr, arith, suc-mul, take_at}
use Rattle.std.proofs.Math.Path.{ap, subst}
use mathlib.Core.List.{List, [], ◌∷◌}
use Rattle.std.proofs.Math.ListN.{length, length-append, get_or-append}
use Rattle.std.proofs.Math.Seq.{drop-append-add, get_or-append_seam}
use Rattle.sheet.specs.Lists.{◌∈◌, number, bind, filled}
use Rattle.sheet.specs.Sheet.{Sheet}
use Rattle.sheet.specs.Laws.Decided.{from-of}
use Rattle.sheet.specs.Laws.Puts.{Puts, puts-as, puts-length, puts_none, puts-more, puts-all, puts-fits}
use Rattle.sheet.specs.Laws.Stores.{length-filled}
use Rattle.costs.specs.Costs.{Cost, figures}
use Rattle.journeys.specs.Front.{OnFront}
use Rattle.journeys.specs.Computed.{journey_of, arrival_of, front}
use Rattle.journeys.specs.Calls.{front_row}
use Rattle.journeys.specs.Held.{Layable}
use Rattle.journeys.specs.Laws.Journeys.{has-three, journey-length, journey-short}
use Rattle.journeys.specs.Laws.Front.{front-on}
use Rattle.journeys.specs.Laws.Served.{member, list_length}
use Rattle.page.specs.Page.{journey_lines, offer_lines}
use Rattle.page.specs.Inner.{cost_in, Printable, Offered}

-- the numbers of the row of a front cost
module _ (s : Sheet) (f : Cost) (o : OnFront s f) where
  three : length f ≡ figures
  three = has-three s f o.has

  pub row-length : length (front_row s f) ≡ 4
  row-length = length-append f (arrival_of s f ∷ []) ∙ (let e : length f + 1 ≡ 4 = omega (arith, three) in e)

  pub row-arrival : number (front_row s f) 3 ≡ arrival_of s f
  row-arrival = subst (λ (k : ℕ). number (front_row s f) k ≡ arrival_of s f) three (get_or-append_seam f (arrival_of s f) [] 0)

  pub row-cost : cost_in (front_row s f) ≡ f
  row-cost =
      from-of figures 0 (front_row s f) f three
      (λ j h.
      let z : 0 + j ≡ j = omega arith in
      ap (number (front_row s f)) z ∙ get_or-append f (arrival_of s f ∷ []) 0 j (omega (arith, h, three)))

-- the two lines of a row
module _ {sheet : Sheet} {since table : List ℕ} {n : ℕ} {row out : List ℕ} {at : ℕ} (p : Printable sheet since table n row out at) where
  abbrev path-of : List ℕ
  path-of = journey_of sheet (cost_in row)

  pub printable-row : length row ≡ 4
  printable-row = ap length p.row_is ∙ row-length sheet (cost_in row) p.on-front

  arrives : number row 3 ≡ arrival_of sheet (cost_in row)
  arrives = ap (λ (l : List ℕ). number l 3) p.row_is ∙ row-arrival sheet (cost_in row) p.on-front

  long : length path-of ≡ number row 3 + 1
  long = omega (arith, journey-length sheet (cost_in row) p.on-front.has, arrives)

  pub printable-short : number row 3 + 1 ≤ 256
  printable-short = omega (arith, long, journey-short sheet (cost_in row) p.derived.valid p.on-front.has)

  pub printable-lays : (g : Cost) → g ≡ cost_in row → (path : List ℕ) → length path ≡ 256 → Layable sheet since n table (number row 3) g path
  printable-lays g e path z =
      subst (λ (h : Cost). Layable sheet since n table (number row 3) h path) (sym e)
      (record { ends = record { derived = p.derived; holds = p.holds; on-front = p.on-front; arrives_at = arrives }; room = omega (arith, printable-short, z) })

  -- with the path laid
  module _ (g : Cost) (e : g ≡ cost_in row) (path' : List ℕ) (w : path' ≡ filled 256 (journey_of sheet g)) where
    laid : path' ≡ filled 256 path-of
    laid = w ∙ ap (λ (h : Cost). filled 256 (journey_of sheet h)) e

    pub printable-path : length path' ≡ 256
    printable-path = ap length laid ∙ length-filled 256 path-of (omega (arith, long, printable-short))

    pub path-is : take (number row 3 + 1) path' ≡ path-of
    path-is = ap (take (number row 3 + 1)) laid ∙ take_at path-of (replicate (256 - length path-of) 0) (number row 3 + 1) long

-- the lines of the rows below position i of the front list are written
pub record Through (s : Sheet) (i : ℕ) (out : List ℕ) (at : ℕ) (out' : List ℕ) (next : ℕ) : Type 0 where
  pub count : ℕ
  pub at_row : i ≡ count * 4
  pub few : count ≤ length (front s)
  pub puts : Puts (bind (take count (front s)) (journey_lines s)) out at out' next

pub through-none : (s : Sheet) (out : List ℕ) (at : ℕ) → Through s 0 out at out at
through-none s out at = record { count = 0; at_row = omega arith; few = omega arith; puts = puts_none out at }

-- row i of rows of w numbers that stand one after another
row_at : (w : ℕ) (row : Cost → List ℕ) (l : List Cost) → ((g : Cost) → g ∈ l → length (row g) ≡ w) → (i : ℕ) → i < length l → take w (drop (i * w) (bind l row)) ≡ row (get_or l i [])
row_at w row [] h i k = absurd (omega arith)
row_at w row (x ∷ l) h zero k = let z : 0 * w ≡ 0 = omega arith in rw z (take_at (row x) (bind l row) w (h x (inl refl)))
row_at w row (x ∷ l) h (suc i) k =
    let z : suc i * w ≡ length (row x) + i * w = omega (arith, suc-mul i w, h x (inl refl)) in
    rw (z, drop-append-add (row x) (bind l row) (i * w)) (row_at w row l (λ g m. h g (inr m)) i (omega arith))

module _ {offered : Sheet} {since table : List ℕ} {n : ℕ} {list out : List ℕ} {at : ℕ} (o : Offered offered since table n list out at) {out₁ : List ℕ} {i m : ℕ}
    (t : Through offered i out at out₁ m) where
  pub listed-length : length list ≡ length (front offered) * 4
  listed-length = ap length o.listed ∙ list_length offered

  module _ (h : i < length list) where
    below : t.count < length (front offered)
    below = omega (arith, h, t.at_row, listed-length)

    pub row_inside : i + 4 ≤ length list
    row_inside = omega (arith, below, t.at_row, listed-length)

    abbrev cost : Cost
    cost = get_or (front offered) t.count []

    on : OnFront offered cost
    on = front-on offered cost (member (front offered) t.count below)

    module _ (row : List ℕ) (e : row ≡ take 4 (drop i list)) where
      row_of : row ≡ front_row offered cost
      row_of =
          e
          ∙ ap₂ (λ (k : ℕ) (l : List ℕ). take 4 (drop k l)) t.at_row o.listed
          ∙ row_at 4 (front_row offered) (front offered) (λ g m. row-length offered g (front-on offered g m)) t.count below

      cost-of : cost_in row ≡ cost
      cost-of = ap cost_in row_of ∙ row-cost offered cost on

      pub next-printable : Printable offered since table n row out₁ m
      unfolding offer_lines
      next-printable =
          record {
            derived = o.derived;
            holds = o.holds;
            on-front = subst (OnFront offered) (sym cost-of) on;
            row_is = row_of ∙ ap (front_row offered) (sym cost-of);
            room =
                omega (arith, puts-fits (journey_lines offered) [] (front offered) t.count below t.puts, puts-length t.puts, o.room, ap (λ (g : Cost). length (journey_lines offered g)) cost-of);
          }

      pub next-through : {out₂ : List ℕ} {r : ℕ} → Puts (journey_lines offered (cost_in row)) out₁ m out₂ r → Through offered (i + 4) out at out₂ r
      next-through w =
          record {
            count = t.count + 1;
            at_row = omega (arith, t.at_row);
            few = omega (arith, below);
            puts = puts-more (journey_lines offered) [] (front offered) t.count below t.puts (puts-as (ap (journey_lines offered) cost-of) w);
          }

  pub all-through : length list ≤ i → Puts (offer_lines offered) out at out₁ m
  unfolding offer_lines
  all-through h = puts-all (journey_lines offered) [] (front offered) t.count (omega (arith, h, t.at_row, listed-length)) t.puts
