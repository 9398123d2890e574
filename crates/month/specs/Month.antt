-- The month on one page (document 02, E3, and the mean of E7): lines `M,c1,c2,c3`, 1 to 4,096 of them, each figure 0 to 15,300,000 in up to eight digits; for
-- each figure one line `A,figure,total,least,greatest,mean`; a refusal is `R,number,line` alone.
use Rattle.std.specs.Prelude.{Bool, List, [], ◌∷◌, ◌++◌, map, ℕ, suc, ◌+◌, ◌*◌, ◌/◌, ◌%◌, leb, eqb, length}
use Rattle.std.proofs.Math.Option.{Option, some, none}
use Rattle.sheet.specs.Lists.{pick, bind, filled}
use Rattle.sheet.specs.Kinds.{Limit, between, alone, Kind}
use Rattle.sheet.specs.Lines.{Line, text_lines}
use Rattle.sheet.specs.Sheet.{outside, first_failed}
use Rattle.sheet.specs.Text.{printed, refusal_line}
use Rattle.costs.specs.Costs.{Cost, fig}
use Rattle.sheet.specs.declared.printed.Printed.{Printed}

-- a figure on a line, and its most digits
abbrev pub figure : Limit
figure = between 0 15300000

abbrev pub figure_digits : ℕ
figure_digits = 8

-- `M,c1,c2,c3`, up to 4,096; no two figures are held to each other, and the lines stand in any order
abbrev pub kind_m : Kind
kind_m = record { letter = 77; limits = figure ∷ figure ∷ figure ∷ []; most = 4096; pair = alone; key = 0; order = 0 }

-- the costs of the journeys driven
abbrev pub Month : Type 0
Month = List Cost

-- the figures at position i of the costs
abbrev pub figures_at : ℕ → Month → List ℕ
figures_at i m = map (λ c. fig c i) m

-- of numbers the total, the least and the greatest; those of none are 0, and no page has them
abbrev pub total : List ℕ → ℕ
total [] = 0
total (n ∷ ns) = n + total ns

abbrev pub least : List ℕ → ℕ
least [] = 0
least (n ∷ []) = n
least (n ∷ k ∷ ns) = let r = least (k ∷ ns) in pick (leb n r) n r

abbrev pub greatest : List ℕ → ℕ
greatest [] = 0
greatest (n ∷ ns) = let r = greatest ns in pick (leb r n) n r

-- the mean of n numbers of the total t: the nearest whole number; a half goes to the even neighbour, which of q and q + 1 is q + q % 2
unfoldable pub mean : ℕ → ℕ → ℕ
mean t n =
    let q = t / n in
    pick (eqb (2 * (t % n)) n) (q + q % 2) (pick (leb n (2 * (t % n))) (suc q) q)

-- the most digits of a total: 4,096 times 15,300,000 has 11
abbrev pub total_digits : ℕ
total_digits = 11

-- `A,figure,total,least,greatest,mean`, of the figure at position i
unfoldable pub figure_line : Month → ℕ → List ℕ
unfolding printed mean
figure_line m i =
    let ns = figures_at i m in
    printed total_digits 65 (suc i ∷ total ns ∷ least ns ∷ greatest ns ∷ mean (total ns) (length ns) ∷ [])

-- the lines of figure 1 to 3
unfoldable pub figure_lines : Month → List ℕ
unfolding figure_line
figure_lines m = bind (0 ∷ 1 ∷ 2 ∷ []) (figure_line m)

pub data Outcome : Type 0 where
  refused : ℕ → ℕ → Outcome
  collected : Month → Outcome

-- what is made of an outcome: of the refusal's number and line, or of the month
abbrev pub told : {A : Type 0} → (ℕ → ℕ → A) → (Month → A) → Outcome → A
told refuse serve (refused k n) = refuse k n
told refuse serve (collected m) = serve m

-- the tests after 2, in their order, of a line after those before it: 4 by its figures, 14 by the count; no figure is a place, of which there are none
unfoldable pub tests : Month → Cost → List (ℕ × Bool)
tests before c = (4, outside 0 kind_m.limits c) ∷ (14, leb kind_m.most (length before)) ∷ []

-- the fault of a line after those before it, 0 for none
unfoldable pub fault : Month → Cost → ℕ
unfolding tests
fault before c = first_failed (tests before c)

-- no line at all is 14 at line 0
abbrev pub whole : Month → Outcome
whole [] = refused 14 0
whole (c ∷ m) = collected (c ∷ m)

-- the lines one after another, each judged after those before it: the first faulty line is named, lines counting from 1
unfoldable pub judge : Month → List (Option Line) → Outcome
unfolding fault
judge before [] = whole before
judge before (none ∷ ls) = refused 2 (suc (length before))
judge before (some l ∷ ls) =
    let r = judge (before ++ (l.numbers ∷ [])) ls in
    pick (eqb (fault before l.numbers) 0) r (refused (fault before l.numbers) (suc (length before)))

-- what bytes read as
unfoldable pub month_of : List ℕ → Outcome
unfolding judge text_lines
month_of b = judge [] (text_lines figure_digits (kind_m ∷ []) b)

-- what the program prints for the bytes on its standard input
unfoldable pub page : List ℕ → List ℕ
unfolding month_of figure_lines refusal_line
page b = told refusal_line figure_lines (month_of b)

-- the room for a page, in bytes: none is longer (Laws.Page.page-fits)
abbrev pub page_room : ℕ
page_room = 192

-- the page as the program holds it: its bytes, then zeros, and the count of its bytes
unfoldable pub held : List ℕ → Printed page_room
unfolding page
held b = record { bytes = filled page_room (page b); count = length (page b) }
