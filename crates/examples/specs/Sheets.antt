-- The boundary cases of document 01 and of document 02's E2, E5, E6 and E8 for sheets, computed: what each text reads as, and what calls of the writer hand
-- back and leave.
use Rattle.std.specs.Prelude.{◌≡◌, refl, List, [], ◌∷◌, ◌++◌, map, ℕ, zero, suc, get_or, replicate}
use Prim.Native.String.{String}
use Rattle.sheet.specs.Decimal.{digits_of}
use Rattle.sheet.specs.Sheet.{Outcome, refused, loaded, read_of}
use Rattle.sheet.specs.Calls.{WriteEnd, write_groups, write_call}
use Rattle.sheet.specs.Laws.Ascii.{bytes}

-- the refusal's number and line, zeros for a sheet
abbrev pub verdict : Outcome → List ℕ
verdict (refused k n) = k ∷ n ∷ []
verdict (loaded s) = 0 ∷ 0 ∷ []

pub record Judged : Type 0 where
  pub input : List ℕ
  pub number : ℕ
  pub line : ℕ

abbrev pub reads : String → ℕ → ℕ → Judged
reads i k n = record { input = bytes i; number = k; line = n }

-- n lines `W,0,1,0,0`, `W,1,1,0,0` and so on
abbrev pub waits : ℕ → List ℕ
waits zero = []
waits (suc n) = waits n ++ (bytes "W," ++ (digits_of 2 n ++ bytes ",1,0,0\n"))

-- the S line of four places, and a W line for each
abbrev pub begun : List ℕ
begun = bytes "S,4,6,0,3,0\n" ++ waits 4

-- what the text after these five lines reads as
abbrev pub after : String → ℕ → ℕ → Judged
after i k n = record { input = begun ++ bytes i; number = k; line = n }

-- n lines that begin with these bytes and end with 0, 1 and so on
abbrev pub numbered : List ℕ → ℕ → List ℕ
numbered b zero = []
numbered b (suc n) = numbered b n ++ (b ++ (digits_of 3 n ++ (10 ∷ [])))

-- n lines `O,0,0,0`, `O,0,0,1` and so on, and n lines `X,0,1,0`, `X,0,1,1` and so on
abbrev pub occupancies : ℕ → List ℕ
occupancies = numbered (bytes "O,0,0,")

abbrev pub closures : ℕ → List ℕ
closures = numbered (bytes "X,0,1,")

-- each text of the table reads as said
abbrev pub AsSaid : List Judged → Type 0
AsSaid es = map (λ e. verdict (read_of e.input)) es ≡ map (λ e. e.number ∷ e.line ∷ []) es

-- tests 1 to 6, 15 and 16
abbrev pub texts : List Judged
texts =
    -- 1: more than 16,384 bytes (E5)
    record { input = replicate 16385 10; number = 1; line = 0 }
    ∷ record { input = replicate 16384 10; number = 2; line = 1 }
    -- empty input is 3 at line 1; a line feed alone, one too many, one missing: 2 at that line
    ∷ reads "" 3 1
    ∷ reads "\n" 2 1
    ∷ after "\n" 2 6
    ∷ reads "S,1,6,0,0,0" 2 1
    ∷ reads "S,1,6,0,0,0\nW,0,1,0,0" 2 2
    ∷ after "C,0,1,0,0,0" 2 6
    ∷ after "" 0 0
    -- 2: no letter of a line, a wrong count of fields (an S line of four numbers, six, seven or eight, E8), a bad number; 007 is 2, 0 passes
    ∷ reads "s,4,6,0,3,0\n" 2 1
    ∷ reads "SS,4,6,0,3,0\n" 2 1
    ∷ reads "Y,0,1,2\n" 2 1
    ∷ reads "X,0,1\n" 2 1
    ∷ reads "W,0,1,0\n" 2 1
    ∷ reads "S,4,6,0,3\n" 2 1
    ∷ reads "S,4,6,0,3,0,0\n" 2 1
    ∷ reads "S,4,6,0,3,1,0,0\n" 2 1
    ∷ reads "S,4,6,0,3,1,0,0,0\n" 2 1
    ∷ reads "S,4,6,0,3,007\n" 2 1
    ∷ reads "S,4,6,0,3,\n" 2 1
    ∷ reads "S,4,6,0,3,+1\n" 2 1
    ∷ reads "S,4,6,0,3, 1\n" 2 1
    ∷ reads "S,4,6,0,3,1\r\n" 2 1
    ∷ reads "S,4,6,0,3,100000\n" 2 1
    -- 3: no S line first, a second S, C after O, C after X, X after O (E5); before 7, 4, 6, 15 and 5
    ∷ reads "X,9,9,256\n" 3 1
    ∷ after "C,0,1,0,0,0\nX,0,1,2\nC,0,2,0,0,0\n" 3 8
    ∷ after "C,0,1,0,0,0\nO,1,1,2\nX,1,0,2\n" 3 8
    ∷ reads "C,9,9,60001,0,0\n" 3 1
    ∷ reads "S,4,6,0,3,0\nS,4,6,0,3,0\n" 3 2
    ∷ after "S,4,6,0,3,0\n" 3 6
    ∷ after "O,1,1,2\nC,0,1,0,0,0\n" 3 7
    -- 3: the W lines (E8). Missing: at the number after the last line, or at the line that comes instead, whatever it is; out of its turn; one too many;
    -- before 7, 4, 6, 15, 16 and 5, and after 2
    ∷ reads "S,2,6,0,1,0\n" 3 2
    ∷ reads "S,2,6,0,1,0\nW,0,1,0,0\n" 3 3
    ∷ reads "S,2,6,0,1,0\nW,0,1,0,0\nC,9,9,0,0,0\n" 3 3
    ∷ reads "S,2,6,0,1,0\nW,0,1,0,0\nX,0,1,0\n" 3 3
    ∷ reads "S,2,6,0,1,0\nW,0,1,0,0\nO,1,9,4\n" 3 3
    ∷ reads "S,2,6,0,1,0\nW,0,1,0,0\nx\n" 2 3
    ∷ reads "S,2,6,0,1,0\nC,0,1,0,0,0\nW,0,1,0,0\n" 3 2
    ∷ reads "S,2,6,0,1,0\nW,1,1,0,0\n" 3 2
    ∷ reads "S,3,6,0,1,0\nW,0,1,0,0\nW,2,1,0,0\n" 3 3
    ∷ reads "S,3,6,0,1,0\nW,0,1,0,0\nW,0,1,0,0\n" 3 3
    ∷ reads "S,3,6,0,1,0\nW,0,1,0,0\nW,9,60001,0,0\n" 3 3
    ∷ reads "W,0,1,0,0\n" 3 1
    ∷ after "W,4,1,0,0\n" 3 6
    ∷ after "W,3,60001,0,0\n" 3 6
    ∷ after "C,0,1,0,0,0\nW,0,1,0,0\n" 3 7
    ∷ record { input = bytes "S,64,6,0,3,0\n" ++ waits 64; number = 0; line = 0 }
    ∷ record { input = bytes "S,64,6,0,3,0\n" ++ waits 64 ++ bytes "W,64,1,0,0\n"; number = 3; line = 66 }
    -- 4: cost 60,000 passes, 60,001 does not; 64 places pass, 65 do not; steps to 255; places of this sheet
    ∷ reads "S,1,255,0,0,0\nW,0,60000,60000,60000\n" 0 0
    ∷ reads "S,1,255,0,0,0\nW,0,0,0,60001\n" 4 2
    ∷ reads "S,65,6,0,3,0\n" 4 1
    ∷ reads "S,0,6,0,3,0\n" 4 1
    ∷ reads "S,4,256,0,3,0\n" 4 1
    ∷ reads "S,4,6,4,3,0\n" 4 1
    ∷ reads "S,4,6,0,4,0\n" 4 1
    ∷ after "C,0,4,0,0,0\n" 4 6
    ∷ after "C,0,1,0,60001,0\n" 4 6
    ∷ after "O,4,0,0\n" 4 6
    ∷ after "O,3,0,255\n" 0 0
    ∷ after "O,3,0,256\n" 4 6
    -- 4: u of the S line to 99 (E2)
    ∷ reads "S,1,6,0,0,99\nW,0,1,0,0\n" 0 0
    ∷ reads "S,1,6,0,0,100\n" 4 1
    -- 4: places of a closure, and its step to 255, past the last step too (E5)
    ∷ after "C,0,1,0,0,0\nX,0,4,0\n" 4 7
    ∷ after "C,0,1,0,0,0\nX,0,1,255\n" 0 0
    ∷ after "C,0,1,0,0,0\nX,0,1,256\n" 4 7
    -- 4 comes before 6: `C,9,9` with 4 places
    ∷ after "C,9,9,0,0,0\n" 4 6
    -- 6: a corridor from a place to itself; `O,1,4,4` passes, `O,1,5,4` does not; 6 comes before 5
    ∷ after "C,2,2,0,0,0\n" 6 6
    ∷ after "O,1,4,4\n" 0 0
    ∷ after "O,1,5,4\n" 6 6
    ∷ after "C,1,2,0,0,0\nC,1,1,0,0,0\n" 6 7
    ∷ after "C,0,1,0,0,0\nX,1,1,0\n" 6 7
    -- 15: a closure of no corridor, of one from another place or to another, of one the other way; 4 and 6 come before 15, and 15 before 5 (E5)
    ∷ after "X,0,1,0\n" 15 6
    ∷ after "X,0,1,0\nC,0,1,0,0,0\n" 15 6
    ∷ after "C,0,1,0,0,0\nX,2,1,0\n" 15 7
    ∷ after "C,0,1,0,0,0\nX,0,2,0\n" 15 7
    ∷ after "C,0,1,0,0,0\nX,1,0,0\n" 15 7
    ∷ after "C,0,1,0,0,0\nX,0,9,0\n" 4 7
    ∷ after "C,1,2,0,0,0\nX,1,2,3\nX,0,2,3\n" 15 8
    ∷ after "C,0,1,0,0,0\nC,1,2,0,0,0\nX,0,1,3\nX,1,2,0\n" 0 0
    -- 5: closures by all three (E5)
    ∷ after "C,0,1,0,0,0\nX,0,1,3\nX,0,1,3\n" 5 8
    ∷ after "C,0,1,0,0,0\nX,0,1,3\nX,0,1,2\n" 5 8
    -- 5: corridors by (from, to) alone, occupancies by all three; the first faulty line is named
    ∷ after "C,0,1,0,0,0\nC,0,1,1,0,0\n" 5 7
    ∷ after "C,0,2,0,0,0\nC,0,1,1,0,0\n" 5 7
    ∷ after "O,1,0,2\nO,1,0,3\nO,1,0,3\n" 5 8
    ∷ after "O,1,0,2\nO,1,0,3\nO,2,0,0\n" 0 0
    ∷ after "C,0,1,0,0,0\nC,0,1,1,0,0\nx\n" 5 7
    -- 16: an occupancy begins at the last step or before, wherever it ends; 4 and 6 come before 16, and 16 before 5
    ∷ after "O,3,6,6\n" 0 0
    ∷ after "O,3,6,255\n" 0 0
    ∷ after "O,3,7,7\n" 16 6
    ∷ reads "S,1,0,0,0,0\nW,0,1,0,0\nO,0,0,0\n" 0 0
    ∷ reads "S,1,0,0,0,0\nW,0,1,0,0\nO,0,1,1\n" 16 3
    ∷ after "O,1,7,256\n" 4 6
    ∷ after "O,1,9,4\n" 6 6
    ∷ after "O,2,0,0\nO,1,7,7\n" 16 7
    ∷ []

pub boundaries : AsSaid texts
unfolding read_of digits_of
boundaries = refl

-- 7: 256 X lines pass, a 257th does not, and before 4 and 15 (E5)
abbrev pub many_closures : List Judged
many_closures =
    record { input = begun ++ bytes "C,0,1,0,0,0\n" ++ closures 256; number = 0; line = 0 }
    ∷ record { input = begun ++ bytes "C,0,1,0,0,0\n" ++ closures 256 ++ bytes "X,9,0,0\n"; number = 7; line = 263 }
    ∷ record { input = begun ++ bytes "C,0,1,0,0,0\n" ++ closures 256 ++ bytes "X,1,0,0\n"; number = 7; line = 263 }
    ∷ []

pub boundaries-of-closures : AsSaid many_closures
unfolding read_of digits_of
boundaries-of-closures = refl

-- 7: 256 O lines pass, a 257th does not, and before 4 and 16
abbrev pub many_occupancies : List Judged
many_occupancies =
    record { input = begun ++ occupancies 256; number = 0; line = 0 }
    ∷ record { input = begun ++ occupancies 256 ++ bytes "O,9,0,0\n"; number = 7; line = 262 }
    ∷ record { input = begun ++ occupancies 256 ++ bytes "O,1,7,7\n"; number = 7; line = 262 }
    ∷ []

pub boundaries-of-occupancies : AsSaid many_occupancies
unfolding read_of digits_of
boundaries-of-occupancies = refl

-- a call of the writer, with a buffer of n bytes filled with sevens: refusal, line, count of bytes; then the buffer
abbrev pub write_shown : WriteEnd → List (List ℕ)
write_shown e = (e.answer.refusal ∷ e.answer.line ∷ e.answer.bytes ∷ []) ∷ e.out ∷ []

abbrev pub writes : List ℕ → List ℕ → List ℕ → List ℕ → List ℕ → ℕ → List (List ℕ)
writes h ws cs xs os n = write_shown (write_call h ws cs xs os (replicate n 7))

-- the S line of two places, with the time u to unload, and their waits
abbrev pub head : ℕ → List ℕ
head u = 2 ∷ 6 ∷ 0 ∷ 1 ∷ u ∷ []

abbrev pub two : List ℕ
two = 0 ∷ 1 ∷ 0 ∷ 0 ∷ 1 ∷ 1 ∷ 0 ∷ 0 ∷ []

abbrev pub two_text : List ℕ
two_text = bytes "W,0,1,0,0\nW,1,1,0,0\n"

-- a buffer of exactly the text, and one byte less (12); lengths before lines (2 at line 0), an S line of four numbers or eight, waits, closures and
-- occupancies whose numbers do not make whole lines; the first faulty line (4 at line 4); u at 100 (4 at line 1); an earlier 5 before a later 4; an
-- occupancy that begins at the last step, and one after it (16 at line 4); a closure (E5), and one of no corridor (15 at line 5)
pub write-rooms : (writes (head 99) two [] [] [] 34
    ∷ writes (head 99) two [] [] [] 32
    ∷ writes (2 ∷ 6 ∷ 0 ∷ 1 ∷ []) two [] [] [] 19
    ∷ writes (2 ∷ 6 ∷ 0 ∷ 1 ∷ 1 ∷ 0 ∷ 0 ∷ 0 ∷ []) two [] [] [] 19
    ∷ writes (head 0) (0 ∷ 1 ∷ 0 ∷ []) [] [] [] 19
    ∷ writes (head 0) two (0 ∷ 1 ∷ 0 ∷ 0 ∷ 0 ∷ []) (0 ∷ 1 ∷ []) [] 19
    ∷ writes (99 ∷ 6 ∷ 0 ∷ 3 ∷ 0 ∷ []) two [] [] (1 ∷ 2 ∷ []) 19
    ∷ writes (head 0) two (0 ∷ 1 ∷ 0 ∷ 0 ∷ 100000 ∷ []) [] [] 19
    ∷ writes (head 100) two [] [] [] 19
    ∷ writes (head 0) two [] [] (1 ∷ 0 ∷ 2 ∷ 1 ∷ 0 ∷ 1 ∷ 9 ∷ 0 ∷ 0 ∷ []) 19
    ∷ writes (head 0) two [] [] (1 ∷ 6 ∷ 255 ∷ []) 43
    ∷ writes (head 0) two [] [] (1 ∷ 7 ∷ 7 ∷ []) 43
    ∷ writes (head 0) two (0 ∷ 1 ∷ 0 ∷ 0 ∷ 0 ∷ []) (0 ∷ 1 ∷ 255 ∷ []) [] 55
    ∷ writes (head 0) two (0 ∷ 1 ∷ 0 ∷ 0 ∷ 0 ∷ []) (1 ∷ 0 ∷ 255 ∷ []) [] 55
    ∷ [])
    ≡ ((0 ∷ 0 ∷ 33 ∷ []) ∷ (bytes "S,2,6,0,1,99\n" ++ two_text ++ (7 ∷ [])) ∷ [])
    ∷ ((12 ∷ 0 ∷ 0 ∷ []) ∷ replicate 32 7 ∷ [])
    ∷ ((2 ∷ 0 ∷ 0 ∷ []) ∷ replicate 19 7 ∷ [])
    ∷ ((2 ∷ 0 ∷ 0 ∷ []) ∷ replicate 19 7 ∷ [])
    ∷ ((2 ∷ 0 ∷ 0 ∷ []) ∷ replicate 19 7 ∷ [])
    ∷ ((2 ∷ 0 ∷ 0 ∷ []) ∷ replicate 19 7 ∷ [])
    ∷ ((2 ∷ 0 ∷ 0 ∷ []) ∷ replicate 19 7 ∷ [])
    ∷ ((4 ∷ 4 ∷ 0 ∷ []) ∷ replicate 19 7 ∷ [])
    ∷ ((4 ∷ 1 ∷ 0 ∷ []) ∷ replicate 19 7 ∷ [])
    ∷ ((5 ∷ 5 ∷ 0 ∷ []) ∷ replicate 19 7 ∷ [])
    ∷ ((0 ∷ 0 ∷ 42 ∷ []) ∷ (bytes "S,2,6,0,1,0\n" ++ two_text ++ bytes "O,1,6,255\n" ++ (7 ∷ [])) ∷ [])
    ∷ ((16 ∷ 4 ∷ 0 ∷ []) ∷ replicate 43 7 ∷ [])
    ∷ ((0 ∷ 0 ∷ 54 ∷ []) ∷ (bytes "S,2,6,0,1,0\n" ++ two_text ++ bytes "C,0,1,0,0,0\nX,0,1,255\n" ++ (7 ∷ [])) ∷ [])
    ∷ ((15 ∷ 5 ∷ 0 ∷ []) ∷ replicate 55 7 ∷ [])
    ∷ []
unfolding write_groups
write-rooms = refl

-- the waits (E8): none, and one too few, where nothing follows (3 at the number after the last line); one too few before a corridor, an occupancy (3 there,
-- before 4 and 16); swapped, doubled, a place that is none (3 at their line); one too many, of the last place and of one that is none; a figure above 60,000
-- (4 at its line)
pub write-waits : map (λ e. get_or e 0 [])
    (writes (head 0) [] [] [] [] 50
    ∷ writes (head 0) (0 ∷ 1 ∷ 0 ∷ 0 ∷ []) [] [] [] 50
    ∷ writes (head 0) (0 ∷ 1 ∷ 0 ∷ 0 ∷ []) (9 ∷ 9 ∷ 0 ∷ 0 ∷ 0 ∷ []) [] [] 50
    ∷ writes (head 0) (0 ∷ 1 ∷ 0 ∷ 0 ∷ []) [] [] (1 ∷ 7 ∷ 7 ∷ []) 50
    ∷ writes (head 0) (1 ∷ 1 ∷ 0 ∷ 0 ∷ 0 ∷ 1 ∷ 0 ∷ 0 ∷ []) [] [] [] 50
    ∷ writes (head 0) (0 ∷ 1 ∷ 0 ∷ 0 ∷ 0 ∷ 1 ∷ 0 ∷ 0 ∷ []) [] [] [] 50
    ∷ writes (head 0) (0 ∷ 1 ∷ 0 ∷ 0 ∷ 9 ∷ 60001 ∷ 0 ∷ 0 ∷ []) [] [] [] 50
    ∷ writes (head 0) (two ++ (1 ∷ 1 ∷ 0 ∷ 0 ∷ [])) [] [] [] 50
    ∷ writes (head 0) (two ++ (2 ∷ 1 ∷ 0 ∷ 0 ∷ [])) [] [] [] 50
    ∷ writes (head 0) (0 ∷ 1 ∷ 0 ∷ 0 ∷ 1 ∷ 0 ∷ 0 ∷ 60001 ∷ []) [] [] [] 50
    ∷ [])
    ≡ (3 ∷ 2 ∷ 0 ∷ [])
    ∷ (3 ∷ 3 ∷ 0 ∷ [])
    ∷ (3 ∷ 3 ∷ 0 ∷ [])
    ∷ (3 ∷ 3 ∷ 0 ∷ [])
    ∷ (3 ∷ 2 ∷ 0 ∷ [])
    ∷ (3 ∷ 3 ∷ 0 ∷ [])
    ∷ (3 ∷ 3 ∷ 0 ∷ [])
    ∷ (3 ∷ 4 ∷ 0 ∷ [])
    ∷ (3 ∷ 4 ∷ 0 ∷ [])
    ∷ (4 ∷ 3 ∷ 0 ∷ [])
    ∷ []
unfolding write_groups
write-waits = refl
