-- A month is served exactly when its bytes are 1 to 4,096 lines `M,c1,c2,c3`, each figure at most 15,300,000 (document 02, E3).
-- Judging goes line by line. Of a month that is collected it says that the bytes were all read as lines, that the costs are the numbers of the lines,
-- and that no line had a fault: none has a figure outside its limit, and none comes after 4,096. What was read as lines is their text, so the bytes are known.
-- The other way the text of such lines reads as the lines, and none has a fault after those before it.
use Rattle.std.specs.Prelude.{◌≡◌, refl, Bool, true, false, List, [], ◌∷◌, ◌++◌, map, ℕ, zero, suc, ◌+◌, ◌≤◌, ◌<◌, leb, eqb, length, get_or}
use Rattle.std.proofs.Common.{sym, ◌∙◌, ap, ap₂, subst, inl, inr, ⊎_elim, append-nil, arith, length-append, leb-false, eqb-true}
use Rattle.std.proofs.Math.Option.{Option, some, none}
use Rattle.std.proofs.Math.Seq.{append_snoc}
use Rattle.std.proofs.lemmas.Bool.{lt-leb}
use Rattle.sheet.specs.Lists.{pick, number, ◌∈◌, bind}
use Rattle.sheet.specs.Bytes.{kind_of}
use Rattle.sheet.specs.Kinds.{place}
use Rattle.sheet.specs.Lines.{Line, line, text_lines}
use Rattle.sheet.specs.Sheet.{outside, first_failed}
use Rattle.sheet.specs.Text.{printed, line_text}
use Rattle.sheet.specs.Laws.Limits.{In, inside-within, within-inside, at-within, most-from}
use Rattle.sheet.specs.Laws.LineText.{Small, Lettered, lettered, lines-back, lines-unread}
use Rattle.sheet.specs.Laws.Members.{map-mem, position-of}
use Rattle.sheet.specs.Laws.Shape.{ShapedIn, AllShapedIn}
use Rattle.costs.specs.Costs.{Cost}
use Rattle.costs.specs.Priced.{Within}
use Rattle.month.specs.Month.{kind_m, figure_digits, Month, refused, collected, tests, fault, whole, judge, month_of, figures_at, total, least, greatest, mean}

-- what a served month is: its bytes are the lines of its costs, 1 to 4,096 of them, each of three figures, none above 15,300,000
pub record MonthIs (m : Month) (b : List ℕ) : Type 0 where
  pub text : bind m (printed figure_digits 77) ≡ b
  pub some-line : 1 ≤ length m
  pub few : length m ≤ 4096
  pub three : (c : Cost) → c ∈ m → length c ≡ 3
  pub inside : (c : Cost) → c ∈ m → Within 15300000 c

-- test 4 of a cost of three figures
abbrev in_limits : Cost → Type 0
in_limits c = outside 0 kind_m.limits c ≡ false

limits-within : (c : Cost) → length c ≡ 3 → in_limits c → Within 15300000 c
limits-within c e h = record { every = λ i. most-from 15300000 0 0 kind_m.limits c e (inside-within 0 kind_m.limits c h) refl i (omega arith) }

within-limits : (c : Cost) → Within 15300000 c → in_limits c
within-limits c w = within-inside 0 kind_m.limits c (at-within 0 kind_m.limits c each)
  where
    each : (i : ℕ) → i < 3 → In 0 (get_or kind_m.limits i place) (number c i)
    each zero h = (omega arith, w.every 0)
    each (suc zero) h = (omega arith, w.every 1)
    each (suc (suc zero)) h = (omega arith, w.every 2)
    each (suc (suc (suc i))) h = absurd (omega arith)

-- a line without a fault, and the other way
pub fault-passed : (before : Month) (c : Cost) → fault before c ≡ 0 → in_limits c × (length before < 4096)
unfolding fault tests
fault-passed before c = go (outside 0 kind_m.limits c) (leb 4096 (length before)) refl
  where
    go : (o t : Bool) → leb 4096 (length before) ≡ t → first_failed ((4, o) ∷ (14, t) ∷ []) ≡ 0 → (o ≡ false) × (length before < 4096)
    go true t e z = absurd (omega arith)
    go false true e z = absurd (omega arith)
    go false false e z = (refl, leb-false 4096 (length before) e)

passed-fault : (before : Month) (c : Cost) → in_limits c → length before < 4096 → fault before c ≡ 0
unfolding fault tests
passed-fault before c h l = rw (h, lt-leb 4096 (length before) l)

-- what is collected: the lines are all there, the costs are their numbers, and no line had a fault
record Judged (before : Month) (os : List (Option Line)) (m : Month) : Type 0 where
  lines : List Line
  all_lines : os ≡ map some lines
  costs : m ≡ before ++ map (λ l. l.numbers) lines
  limited : (l : Line) → l ∈ lines → in_limits l.numbers
  few : length before ≤ 4096 → length m ≤ 4096
  some-line : 1 ≤ length m

not-collected : (k n : ℕ) (m : Month) → refused k n ≡ collected m → ⊥
not-collected k n m e = let z : ◌≡◌ {A = ℕ} 0 1 = cc in omega arith

ends-collected : (before m : Month) → whole before ≡ collected m → Judged before [] m
ends-collected [] m e = absurd (not-collected 14 0 m e)
ends-collected (c ∷ before) m e =
    let z : c ∷ before ≡ m = cc in
    let n = ap length z in
    record {
      lines = [];
      all_lines = refl;
      costs = sym z ∙ sym (append-nil (c ∷ before));
      limited = λ l i. absurd i;
      few = λ h. omega (arith, n);
      some-line = omega (arith, n);
    }

judge-step : (before : Month) (l : Line) (os : List (Option Line)) (m : Month)
    → (judge (before ++ (l.numbers ∷ [])) os ≡ collected m → Judged (before ++ (l.numbers ∷ [])) os m)
    → judge before (some l ∷ os) ≡ collected m → Judged before (some l ∷ os) m
unfolding judge
judge-step before l os m f = go (eqb (fault before l.numbers) 0) refl
  where
    next : Month
    next = before ++ (l.numbers ∷ [])

    go : (t : Bool) → eqb (fault before l.numbers) 0 ≡ t → pick t (judge next os) (refused (fault before l.numbers) (suc (length before))) ≡ collected m
        → Judged before (some l ∷ os) m
    go false q e = absurd (not-collected (fault before l.numbers) (suc (length before)) m e)
    go true q e =
        let r = f e in
        let p = fault-passed before l.numbers (eqb-true (fault before l.numbers) 0 q) in
        record {
          lines = l ∷ r.lines;
          all_lines = ap (λ (k : List (Option Line)). some l ∷ k) r.all_lines;
          costs = r.costs ∙ append_snoc before l.numbers (map (λ l. l.numbers) r.lines);
          limited = λ j i. ⊎_elim (λ z. rw z p.0) (r.limited j) i;
          few = λ h. r.few (omega (arith, p.1, length-append before (l.numbers ∷ [])));
          some-line = r.some-line;
        }

judge-collected : (before : Month) (os : List (Option Line)) (m : Month) → judge before os ≡ collected m → Judged before os m
unfolding judge
judge-collected before [] m e = ends-collected before m e
judge-collected before (none ∷ os) m e = absurd (not-collected 2 (suc (length before)) m e)
judge-collected before (some l ∷ os) m e = judge-step before l os m (judge-collected (before ++ (l.numbers ∷ [])) os m) e

-- a line in shape is of the one kind, with three numbers
only-kind : (l : Line) → ShapedIn (kind_m ∷ []) l → l.kind ≡ kind_m
only-kind l s = ⊎_elim (λ e. e) (λ z. absurd z) s.known

shaped-text : (ls : List Line) → AllShapedIn (kind_m ∷ []) ls → bind (map (λ l. l.numbers) ls) (printed figure_digits 77) ≡ bind ls (line_text figure_digits)
unfolding line_text
shaped-text [] s = refl
shaped-text (l ∷ ls) s =
    let e : 77 ≡ l.kind.letter = ap (λ k. k.letter) (sym (only-kind l (s l (inl refl)))) in
    ap₂ (λ (x y : List ℕ). x ++ y) (ap (λ (c : ℕ). printed figure_digits c l.numbers) e) (shaped-text ls (λ j i. s j (inr i)))

shaped-three : (l : Line) → ShapedIn (kind_m ∷ []) l → length l.numbers ≡ 3
shaped-three l s = s.count ∙ ap (λ k. length k.limits) (only-kind l s)

pub served-is : (b : List ℕ) (m : Month) → month_of b ≡ collected m → MonthIs m b
unfolding month_of
served-is b m e =
    let r = judge-collected [] (text_lines figure_digits (kind_m ∷ []) b) m e in
    let t = lines-unread figure_digits (kind_m ∷ []) b r.lines r.all_lines in
    let of : (c : Cost) → c ∈ m → (l : Line) × (l ∈ r.lines) × (c ≡ l.numbers) =
    λ c i. map-mem (λ l. l.numbers) c r.lines (subst (λ (k : Month). c ∈ k) r.costs i) in
    let three : (c : Cost) → c ∈ m → length c ≡ 3 = λ c i. let q = of c i in ap length q.2 ∙ shaped-three q.0 (t.0 q.0 q.1) in
    record {
      text = ap (λ (k : Month). bind k (printed figure_digits 77)) r.costs ∙ shaped-text r.lines t.0 ∙ t.1;
      some-line = r.some-line;
      few = r.few (omega arith);
      three = three;
      inside = λ c i. let q = of c i in limits-within c (three c i) (rw q.2 (r.limited q.0 q.1));
    }

-- the lines of costs: they are in shape, their text, and that none has a fault
abbrev lines_of_costs : Month → List Line
lines_of_costs m = map (line kind_m) m

costs-text : (m : Month) → bind (lines_of_costs m) (line_text figure_digits) ≡ bind m (printed figure_digits 77)
unfolding line_text
costs-text [] = refl
costs-text (c ∷ m) = ap (λ (x : List ℕ). printed figure_digits 77 c ++ x) (costs-text m)

letters : Lettered (kind_m ∷ [])
unfolding kind_of
letters = lettered (kind_m ∷ []) refl

costs-back : (m : Month) (b : List ℕ) → MonthIs m b → text_lines figure_digits (kind_m ∷ []) b ≡ map some (lines_of_costs m)
costs-back m b r =
    ap (text_lines figure_digits (kind_m ∷ [])) (sym r.text ∙ sym (costs-text m))
    ∙ lines-back figure_digits (kind_m ∷ []) (omega arith) letters (lines_of_costs m) shaped small
  where
    shaped : AllShapedIn (kind_m ∷ []) (lines_of_costs m)
    shaped l i = let q = map-mem (line kind_m) l m i in rw q.2 (record { known = inl refl; count = r.three q.0 q.1 })

    small : (l : Line) → l ∈ lines_of_costs m → Small figure_digits l
    small l i n j =
        let q = map-mem (line kind_m) l m i in
        let p = position-of 0 n l.numbers j in
        omega (arith, p.2, ap (λ (k : Line). number k.numbers p.0) q.2, (r.inside q.0 q.1).every p.0)

judge-costs : (before m : Month) → length before + length m ≤ 4096 → ((c : Cost) → c ∈ m → in_limits c)
    → judge before (map some (lines_of_costs m)) ≡ whole (before ++ m)
unfolding judge
judge-costs before [] l h = ap whole (sym (append-nil before))
judge-costs before (c ∷ m) l h =
    let r = judge-costs (before ++ (c ∷ [])) m (omega (arith, length-append before (c ∷ []))) (λ d i. h d (inr i)) in
    rw (passed-fault before c (h c (inl refl)) (omega arith)) (r ∙ ap whole (append_snoc before c m))

whole-collected : (m : Month) → 1 ≤ length m → whole m ≡ collected m
whole-collected [] h = absurd (omega arith)
whole-collected (c ∷ m) h = refl

pub is-served : (b : List ℕ) (m : Month) → MonthIs m b → month_of b ≡ collected m
unfolding month_of
is-served b m r =
    ap (judge []) (costs-back m b r)
    ∙ judge-costs [] m (omega (arith, r.few)) (λ c i. within-limits c (r.inside c i))
    ∙ whole-collected m r.some-line

-- the numbers on the page of a month, of the figure at position i; that none of a served month loses a digit is shown in proofs/Served.antt
abbrev pub printed_of : Month → ℕ → List ℕ
printed_of m i = let ns = figures_at i m in total ns ∷ least ns ∷ greatest ns ∷ mean (total ns) (length ns) ∷ []
