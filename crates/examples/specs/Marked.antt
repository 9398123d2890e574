-- The sheets to try of document 01 that are marked with *, sheet A with time to unload (document 02, E2), the bed of document 02, E5, with sheet A's
-- corridors closed, and the case of document 02, E8: from the bytes on standard input to the bytes printed, one table, one theorem.
use Rattle.std.specs.Prelude.{◌≡◌, refl, List, [], ◌∷◌, map}
use Prim.Native.String.{String, ◌++◌}
use Rattle.sheet.specs.Laws.Ascii.{bytes}
use Rattle.page.specs.Page.{page}

pub record Printed : Type 0 where
  pub input : String
  pub output : String

abbrev pub shows : String → String → Printed
shows i o = record { input = i; output = o }

-- the W lines of places 0 to 3, where waiting costs (1,0,0) at each
abbrev pub waits4 : String
waits4 = "W,0,1,0,0\nW,1,1,0,0\nW,2,1,0,0\nW,3,1,0,0\n"

-- the S line and the W lines of sheet A, with T, the goal and the time to unload as said
abbrev pub head_a : String → String
head_a h = "S,4," ++ h ++ "\n" ++ waits4

-- the corridors of sheet A
abbrev pub corridors_a : String
corridors_a = "C,0,1,1,0,4\nC,0,2,1,3,0\nC,1,3,1,0,4\nC,2,3,1,3,0\n"

abbrev pub sheet_a : String
sheet_a = head_a "6,0,3,0" ++ corridors_a ++ "O,1,1,2\n"

-- a bed stands at 2 until step 1 and at 1 at step 2; a cart goes from 0 by 1 to 2, with these closures
abbrev pub bed : String → String
bed x = "S,3,6,0,2,0\nW,0,1,0,0\nW,1,1,0,0\nW,2,1,0,0\nC,0,1,1,0,0\nC,1,2,1,0,0\nC,2,1,1,0,0\n" ++ x ++ "O,1,2,2\nO,2,0,1\n"

abbrev pub sheet_b : String
sheet_b = "S,5,4,0,4,0\n" ++ waits4 ++ "W,4,1,0,0\n" ++ "C,0,1,1,0,0\nC,0,3,1,0,0\nC,1,2,1,0,0\nC,2,3,0,0,0\nC,3,4,0,0,0\n" ++ "O,4,0,3\n"

abbrev pub sheet_d : String
sheet_d =
    "S,6,3,0,5,0\n" ++ "W,0,0,0,0\nW,1,0,0,0\nW,2,0,0,0\nW,3,0,0,0\nW,4,0,0,0\nW,5,0,0,0\n"
    ++ "C,0,1,1,0,0\nC,0,2,1,0,0\nC,1,4,1,0,0\nC,2,3,1,0,0\nC,3,5,1,0,0\nC,4,5,1,0,0\n"

abbrev pub table : List Printed
table =
    -- A, whole
    shows sheet_a "F,2,5\nJ,2,6,0,2\nP,0,2,3\nJ,4,0,8,4\nP,0,0,0,1,3\n"
    -- A with `O,1,0,6`: one cost (2,6,0), 3 arrivals
    ∷ shows (head_a "6,0,3,0" ++ corridors_a ++ "O,1,0,6\n") "F,1,3\nJ,2,6,0,2\nP,0,2,3\n"
    -- A with goal 0: cost (0,0,0), arrival 0, path 0
    ∷ shows (head_a "6,0,0,0" ++ corridors_a ++ "O,1,1,2\n") "F,1,5\nJ,0,0,0,0\nP,0\n"
    -- A with 3 steps: one cost, 4 arrivals; with 4 steps: two costs
    ∷ shows (head_a "3,0,3,0" ++ corridors_a ++ "O,1,1,2\n") "F,1,4\nJ,2,6,0,2\nP,0,2,3\n"
    ∷ shows (head_a "4,0,3,0" ++ corridors_a ++ "O,1,1,2\n") "F,2,5\nJ,2,6,0,2\nP,0,2,3\nJ,4,0,8,4\nP,0,0,0,1,3\n"
    -- A with `O,0,0,0` alone
    ∷ shows (head_a "6,0,3,0" ++ corridors_a ++ "O,0,0,0\n") "F,0,0\n"
    -- A with `O,3,0,6` added
    ∷ shows (head_a "6,0,3,0" ++ corridors_a ++ "O,1,1,2\nO,3,0,6\n") "F,0,3\n"
    -- B: only (2,0,0), path 0,1,2,3,4
    ∷ shows sheet_b "F,1,6\nJ,2,0,0,4\nP,0,1,2,3,4\n"
    -- D: path 0,1,4,5, by E9 of document 02
    ∷ shows sheet_d "F,1,6\nJ,3,0,0,3\nP,0,1,4,5\n"
    -- A with time to unload, T 6: 2 ends at 6 for the arrival at 4, 3 would end at 7
    ∷ shows (head_a "6,0,3,2" ++ corridors_a ++ "O,1,1,2\n") "F,2,5\nJ,2,6,0,2\nP,0,2,3\nJ,4,0,8,4\nP,0,0,0,1,3\n"
    ∷ shows (head_a "6,0,3,3" ++ corridors_a ++ "O,1,1,2\n") "F,1,5\nJ,2,6,0,2\nP,0,2,3\n"
    -- the goal occupied right after the first arrival: a later and dearer one counts
    ∷ shows (head_a "6,0,3,1" ++ corridors_a ++ "O,1,1,2\nO,3,3,3\n") "F,2,6\nJ,4,0,8,4\nP,0,0,0,1,3\nJ,4,6,0,4\nP,0,0,0,2,3\n"
    -- the goal free at one step: a journey, and none where unloading takes a step
    ∷ shows (head_a "6,0,3,0" ++ corridors_a ++ "O,1,1,2\nO,3,0,1\nO,3,3,6\n") "F,1,4\nJ,2,6,0,2\nP,0,2,3\n"
    ∷ shows (head_a "6,0,3,1" ++ corridors_a ++ "O,1,1,2\nO,3,0,1\nO,3,3,6\n") "F,0,4\n"
    -- E5: the cart meets the bed in the corridor; with its direction closed it waits at 0 until the bed has passed; the other direction is not its own
    ∷ shows (bed "") "F,1,4\nJ,2,0,0,2\nP,0,1,2\n"
    ∷ shows (bed "X,1,2,1\n") "F,1,4\nJ,4,0,0,4\nP,0,0,0,1,2\n"
    ∷ shows (bed "X,2,1,1\n") "F,1,4\nJ,2,0,0,2\nP,0,1,2\n"
    -- A, its corridor from 0 to 2 closed: at step 0, so that a cart waits until it opens; until the last departure; at the last step, where none departs
    ∷ shows (head_a "6,0,3,0" ++ corridors_a ++ "X,0,2,0\nO,1,1,2\n") "F,2,5\nJ,3,6,0,3\nP,0,0,2,3\nJ,4,0,8,4\nP,0,0,0,1,3\n"
    ∷ shows (head_a "2,0,2,0" ++ corridors_a ++ "X,0,2,0\nX,0,2,1\nO,1,1,2\n") "F,0,1\n"
    ∷ shows (head_a "2,0,2,0" ++ corridors_a ++ "X,0,2,0\nX,0,2,2\nO,1,1,2\n") "F,1,2\nJ,2,3,0,2\nP,0,0,2\n"
    -- E8: waiting by the goal costs nothing at 0 and 2, and (5,0,0) at 1: the cart waits at 0
    ∷ shows "S,3,4,0,2,0\nW,0,0,0,0\nW,1,5,0,0\nW,2,0,0,0\nC,0,1,1,0,0\nC,1,2,1,0,0\nO,2,0,3\n" "F,1,6\nJ,2,0,0,4\nP,0,0,0,1,2\n"
    ∷ []

pub marked : map (λ e. page (bytes e.input)) table ≡ map (λ e. bytes e.output) table
unfolding page
marked = refl
