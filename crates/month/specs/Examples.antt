-- Small months at the ends of the sentences of E3 and E7, document 02, from the bytes on standard input to those printed, one table;
-- proofs/Examples.antt computes them all, one theorem.
-- Laws/Cut.antt has the 4,097th line (`almost-page`, `almost-ended`).
use Rattle.std.specs.Prelude.{List, [], ◌∷◌}
use Prim.Native.String.{String}

pub record Printed : Type 0 where
  pub input : String
  pub output : String

abbrev pub shows : String → String → Printed
shows i o = record { input = i; output = o }

abbrev pub months : List Printed
months =
    -- 2 and 3 give 2; 0 and 1 give 0; a half at the upper end
    shows "M,2,0,15300000\nM,3,1,15299999\n" "A,1,5,2,3,2\nA,2,1,0,1,0\nA,3,30599999,15299999,15300000,15300000\n"
    -- 3 and 4 give 4; 1 and 2 give 2; a half next to the upper end
    ∷ shows "M,3,1,15299998\nM,4,2,15299999\n" "A,1,7,3,4,4\nA,2,3,1,2,2\nA,3,30599997,15299998,15299999,15299998\n"
    -- one line
    ∷ shows "M,7,0,15300000\n" "A,1,7,7,7,7\nA,2,0,0,0,0\nA,3,15300000,15300000,15300000,15300000\n"
    -- a third goes down, two thirds go up
    ∷ shows "M,1,1,0\nM,0,1,0\nM,0,0,5\n" "A,1,1,0,1,0\nA,2,2,0,1,1\nA,3,5,0,5,2\n"
    -- no line: 14 at line 0
    ∷ shows "" "R,14,0\n"
    -- malformed: 2; nine digits, a leading zero, a field too few, one too many, another letter, an empty line, a line feed missing
    ∷ shows "M,1,2,100000000\n" "R,2,1\n"
    ∷ shows "M,1,2,3\nM,01,2,3\n" "R,2,2\n"
    ∷ shows "M,1,2\n" "R,2,1\n"
    ∷ shows "M,1,2,3,4\n" "R,2,1\n"
    ∷ shows "C,1,2,3\n" "R,2,1\n"
    ∷ shows "M,1,2,3\n\n" "R,2,2\n"
    ∷ shows "M,1,2,3\nM,1,2,3" "R,2,2\n"
    -- above 15,300,000: 4, up to eight nines; 2 before 4
    ∷ shows "M,1,15300001,3\n" "R,4,1\n"
    ∷ shows "M,1,2,3\nM,99999999,2,3\n" "R,4,2\n"
    ∷ shows "M,99999999,2,x\n" "R,2,1\n"
    ∷ []
