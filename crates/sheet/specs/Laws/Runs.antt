-- Lines of one kind in a row, for any kind, after lines of other kinds. If they are in shape and pass, they are a run: each has its count of
-- numbers, within their limits and paired, none is unknown or late, there are not too many of them, and they ascend strictly by the key, since test 5 compares with the
-- line of its kind before it. And a run is in shape and passes, where the kinds before are earlier ones.
-- `runs-pass`, which rests on what `waiting` says, stands in proofs/Runs.antt.
use Rattle.std.specs.Prelude.{◌≡◌, refl, ◌⊎◌, ◌≢◌, Bool, true, false, ◌||◌, List, [], ◌∷◌, ◌++◌, map, ℕ, ◌+◌, ◌≤◌, ◌<◌, ltb, eqb, length, take}
use Rattle.std.proofs.Common.{sym, ◌∙◌, ap, ap₂, subst, inl, inr, ⊎_elim, append_assoc, arith, length-append, eqb-true, leb-false, le-ltb, ne_eqb}
use Rattle.std.proofs.Math.Option.{some}
use Rattle.std.proofs.lemmas.Bool.{lt-leb, not-false}
use Rattle.sheet.specs.Lists.{number, ◌∈◌, any}
use Rattle.sheet.specs.Computed.{lexb}
use Rattle.sheet.specs.Sorting.{Before, Ascending}
use Rattle.sheet.specs.Kinds.{Kind, kind_s, kind_c, kind_x, kinds}
use Rattle.sheet.specs.Lines.{Line, line}
use Rattle.sheet.specs.Sheet.{Sheet, places, steps, group, lines_from, head_in, out_of_turn, unpaired, unknown, late, latest, not_above, outside}
use Rattle.sheet.specs.Laws.Order.{lexb-true, Lex-lexb}
use Rattle.sheet.specs.Laws.Members.{mem-left, mem-right, mem-append, mem-map, map-mem}
use Rattle.sheet.specs.Laws.Kinds.{order_key}
use Rattle.sheet.specs.Laws.Judge.{Passes}
use Rattle.sheet.specs.Laws.Shape.{Shaped, AllShaped}
use Rattle.sheet.specs.Laws.Passed.{false-or, false-any, Passed, fault-passed, passed-fault, passes_append, passes-each, known-grows, passes-inside, passes-paired, passes-timely, latest-last}
use Rattle.sheet.specs.Laws.Groups.{group-append, group-own, group-none, group-other, group-more, later-kinds}
use Rattle.sheet.specs.Laws.Limits.{Within, inside-within, within-inside}
use Rattle.sheet.specs.Laws.Turns.{Turns}

-- the numbers of the lines of kind k, on the sheet s
pub record Run (s : Sheet) (k : Kind) (ns : List (List ℕ)) : Type 0 where
  pub count : (n : List ℕ) → n ∈ ns → length n ≡ length k.limits
  pub within : (n : List ℕ) → n ∈ ns → Within (places s) k.limits n
  pub paired : (n : List ℕ) → n ∈ ns → unpaired k.pair n ≡ false
  pub known : (n : List ℕ) → n ∈ ns → unknown s.corridors (line k n) ≡ false
  pub timely : (n : List ℕ) → n ∈ ns → late (steps s) (line k n) ≡ false
  pub few : length ns ≤ k.most
  pub ascend : Ascending (take k.key) ns

-- the sheet with these lines has the S line and the corridors of s
pub record Lined (s : Sheet) (ls : List Line) : Type 0 where
  pub head-is : head_in ls ≡ s.head
  pub corridors-are : group kind_c ls ≡ s.corridors

one_more : (k : Kind) (before : List Line) (n : List ℕ) → length (group k (before ++ (line k n ∷ []))) ≡ length (group k before) + 1
one_more k before n =
    rw (group-append k before (line k n ∷ []), length-append (group k before) (group k (line k n ∷ [])), group-own k (n ∷ []))

-- the count of lines of a kind is at most its most
few-lines : (before : List Line) (k : Kind) (ns : List (List ℕ)) → Passes before (map (line k) ns) → length (group k before) ≤ k.most
    → length (group k before) + length ns ≤ k.most
few-lines before k [] p h = omega arith
few-lines before k (n ∷ ns) p h =
    let e = one_more k before n in
    let f = leb-false k.most (length (group k before)) (fault-passed before (line k n) p.0).few in
    let r = few-lines (before ++ (line k n ∷ [])) k ns p.1 (omega arith) in
    omega arith

-- the last line of the kind, where one more of it was put last
latest-group : (before : List Line) (k : Kind) (n : List ℕ) → latest (group k (before ++ (line k n ∷ []))) ≡ some n
latest-group before k n = rw (group-append k before (line k n ∷ []), group-own k (n ∷ [])) (latest-last (group k before) n)

lines-ascend : (before : List Line) (k : Kind) (ns : List (List ℕ)) → Passes before (map (line k) ns) → Ascending (take k.key) ns
lines-ascend before k [] p = tt
lines-ascend before k (n ∷ []) p = (tt, tt)
lines-ascend before k (m ∷ n ∷ ns) p =
    let a : not_above k.key (latest (group k (before ++ (line k m ∷ [])))) n ≡ false = (fault-passed (before ++ (line k m ∷ [])) (line k n) p.1.0).above in
    let b : not_above k.key (some m) n ≡ false = rw (latest-group before k m) at a in (
      lexb-true (take k.key m) (take k.key n) (not-false (lexb (take k.key m) (take k.key n)) b),
      lines-ascend (before ++ (line k m ∷ [])) k (n ∷ ns) p.1,
    )

-- no line that passes is a closure of no corridor of the whole sheet
passes-known : (before ls : List Line) → Passes before ls → (l : Line) → l ∈ ls → unknown (group kind_c (before ++ ls)) l ≡ false
passes-known =
    passes-each (λ k l. unknown (group kind_c k) l ≡ false)
    (λ b l ls q. known-grows (group kind_c b) (group kind_c (b ++ (l ∷ ls))) l
    (group-more kind_c b (l ∷ ls)) q.known)

-- the lines of one kind, ahead of other lines
pub passes-run : (s : Sheet) (before : List Line) (k : Kind) (ns : List (List ℕ)) (rest : List Line) → group k before ≡ [] → AllShaped (map (line k) ns)
    → Lined s (before ++ (map (line k) ns ++ rest)) → Passes before (map (line k) ns ++ rest) → Run s k ns
passes-run s before k ns rest e f of q =
    let own = (passes_append before (map (line k) ns) rest q).0 in
    let all = map (line k) ns ++ rest in
    let there : (n : List ℕ) → n ∈ ns → line k n ∈ all = λ n m. mem-left (line k n) (map (line k) ns) rest (mem-map (line k) n ns m) in
    record {
      count = λ n m. (f (line k n) (mem-map (line k) n ns m)).count;
      within = λ n m.
          inside-within (places s) k.limits n
          (subst (λ (h : List ℕ). outside (number h 0) k.limits n ≡ false) of.head-is (passes-inside before all q (line k n) (there n m)));
      paired = λ n m. passes-paired before all q (line k n) (there n m);
      known = λ n m. subst (λ (cs : List (List ℕ)). unknown cs (line k n) ≡ false) of.corridors-are (passes-known before all q (line k n) (there n m));
      timely = λ n m. subst (λ (h : List ℕ). late (number h 1) (line k n) ≡ false) of.head-is (passes-timely before all q (line k n) (there n m));
      few = let z = ap length e in let r = few-lines before k ns own (omega arith) in omega arith;
      ascend = lines-ascend before k ns own;
    }

-- the lines of a run are in shape, if the kind is one of the sheet's
pub run-shaped : (s : Sheet) (k : Kind) (ns : List (List ℕ)) → k ∈ kinds → Run s k ns → AllShaped (map (line k) ns)
run-shaped s k ns m r l i =
    let f = map-mem (line k) l ns i in
    subst Shaped (sym f.2) (record { known = m; count = r.count f.0 f.1 })

-- a run without its first line
pub run-tail : (s : Sheet) (k : Kind) (n : List ℕ) (ns : List (List ℕ)) → Run s k (n ∷ ns) → Run s k ns
run-tail s k n ns r =
    record {
      count = λ m i. r.count m (inr i);
      within = λ m i. r.within m (inr i);
      paired = λ m i. r.paired m (inr i);
      known = λ m i. r.known m (inr i);
      timely = λ m i. r.timely m (inr i);
      few = omega (arith, r.few);
      ascend = r.ascend.1;
    }

-- the first line of the run is above the line before, if that is of the same kind
abbrev Starts : List Line → Kind → List (List ℕ) → Type 0
Starts before k [] = Unit {0}
Starts before k (n ∷ ns) = not_above k.key (latest (group k before)) n ≡ false

-- what the lines before leave to a run of kind k on the sheet s: where it is one of closures, the corridors stand before it
record Ready (s : Sheet) (before : List Line) (k : Kind) (ns : List (List ℕ)) : Type 0 where
  orders : (m : Line) → m ∈ before → m.kind.order ≤ k.order
  corridors : k.order ≡ kind_x.order → (c : List ℕ) → c ∈ s.corridors → c ∈ group kind_c before
  room : length (group k before) + length ns ≤ k.most
  begins : Starts before k ns

ready-next : (s : Sheet) (before : List Line) (k : Kind) (n : List ℕ) (ns : List (List ℕ)) → Ready s before k (n ∷ ns) → Ascending (take k.key) (n ∷ ns)
    → Ready s (before ++ (line k n ∷ [])) k ns
ready-next s before k n ns r a =
    record {
      orders = λ m i. order m (mem-append m before (line k n ∷ []) i);
      corridors = λ o c m. group-more kind_c before (line k n ∷ []) c (r.corridors o c m);
      room = room;
      begins = begins ns a.0;
    }
  where
    order : (m : Line) → m ∈ before ⊎ m ∈ (line k n ∷ []) → m.kind.order ≤ k.order
    order m (inl i) = r.orders m i
    order m (inr (inl e)) = omega (arith, ap (λ (l : Line). l.kind.order) e)
    order m (inr (inr nowhere)) = elim nowhere [ ]

    room : length (group k (before ++ (line k n ∷ []))) + length ns ≤ k.most
    room = omega (arith, one_more k before n, r.room)

    begins : (ns : List (List ℕ)) → Before (take k.key) n ns → Starts (before ++ (line k n ∷ [])) k ns
    begins [] h = tt
    begins (m ∷ ns) h = rw (latest-group before k n, Lex-lexb (take k.key n) (take k.key m) h)

-- the line after the S line of s and the lines before
run-passes-after : (s : Sheet) (before : List Line) (k : Kind) (ns : List (List ℕ)) → 1 ≤ k.order → Ready s (line kind_s s.head ∷ before) k ns
    → Turns (line kind_s s.head ∷ before) k ns → Run s k ns → Passes (line kind_s s.head ∷ before) (map (line k) ns)
run-passes-after s before k [] o a t r = tt
run-passes-after s before k (n ∷ ns) o a t r = (
  passed-fault (b ∷ before) (line k n) passed,
  run-passes-after s (before ++ (line k n ∷ [])) k ns o (ready-next s (b ∷ before) k n ns a r.ascend) t.1 (run-tail s k n ns r),
)
  where
    b : Line
    b = line kind_s s.head

    known : (t : Bool) → eqb k.order kind_x.order ≡ t → unknown (group kind_c (b ∷ before)) (line k n) ≡ false
    known true q =
        known-grows s.corridors (group kind_c (b ∷ before)) (line k n) (a.corridors (eqb-true k.order kind_x.order q)) (r.known n (inl refl))
    known false q = rw q

    passed : Passed (b ∷ before) (line k n)
    passed =
        record {
          placed =
              false-or (eqb k.order 0 || any (λ m. ltb k.order m.kind.order) (b ∷ before)) (out_of_turn (b ∷ before) (line k n))
              (false-or (eqb k.order 0) (any (λ m. ltb k.order m.kind.order) (b ∷ before)) (ne_eqb k.order 0 (λ e. omega arith))
              (false-any (λ m. ltb k.order m.kind.order) (b ∷ before) (λ m i. le-ltb k.order m.kind.order (a.orders m i))))
              t.0;
          few = lt-leb k.most (length (group k (b ∷ before))) (omega (arith, a.room));
          inside = within-inside (places s) k.limits n (r.within n (inl refl));
          paired = r.paired n (inl refl);
          known = known (eqb k.order kind_x.order) refl;
          timely = r.timely n (inl refl);
          above = a.begins;
        }

-- after the S line and lines of earlier kinds every run passes
pub run-passes : (s : Sheet) (before : List Line) (k : Kind) (ns : List (List ℕ)) → ((m : Line) → m ∈ (line kind_s s.head ∷ before) → m.kind.order < k.order)
    → (k.order ≡ kind_x.order → (c : List ℕ) → c ∈ s.corridors → c ∈ group kind_c (line kind_s s.head ∷ before))
    → Turns (line kind_s s.head ∷ before) k ns → Run s k ns → Passes (line kind_s s.head ∷ before) (map (line k) ns)
run-passes s before k ns f g t r =
    run-passes-after s before k ns (omega (arith, f b (inl refl)))
    (record {
      orders = λ m i. omega (arith, f m i);
      corridors = g;
      room = let z = ap length (group-none k (b ∷ before) other) in omega (arith, r.few);
      begins = begins ns;
    })
    t
    r
  where
    b : Line
    b = line kind_s s.head

    other : (m : Line) → m ∈ (b ∷ before) → m.kind.order ≢ k.order
    other m i e = omega (arith, f m i)

    begins : (ns : List (List ℕ)) → Starts (b ∷ before) k ns
    begins [] = tt
    begins (n ∷ ns) = rw (group-none k (b ∷ before) other)

-- runs of one kind each, in the order of kinds
abbrev pub AllRuns : Sheet → List Kind → List (List (List ℕ)) → Type 0
AllRuns s [] gs = Unit {0}
AllRuns s (k ∷ ks) [] = Unit {0}
AllRuns s (k ∷ ks) (g ∷ gs) = Run s k g × AllRuns s ks gs

-- lines that pass are such runs
passes-runs-after : (s : Sheet) (before : List Line) (ks : List Kind) (gs : List (List (List ℕ))) → Ascending order_key ks → ((k : Kind) → k ∈ ks → group k before ≡ [])
    → AllShaped (lines_from ks gs) → Passes before (lines_from ks gs) → Lined s (before ++ lines_from ks gs) → AllRuns s ks gs
passes-runs-after s before [] gs a f h q e = tt
passes-runs-after s before (k ∷ ks) [] a f h q e = tt
passes-runs-after s before (k ∷ ks) (g ∷ gs) a f h q e = (
  passes-run s before k g (lines_from ks gs) (f k (inl refl)) (λ l i. h l (mem-left l (map (line k) g) (lines_from ks gs) i)) e q,
  passes-runs-after s (before ++ map (line k) g) ks gs a.1 none_yet (λ l i. h l (mem-right l (map (line k) g) (lines_from ks gs) i))
      (passes_append before (map (line k) g) (lines_from ks gs) q).1
      (subst (Lined s) (sym (append_assoc before (map (line k) g) (lines_from ks gs))) e),
)
  where
    none_yet : (j : Kind) → j ∈ ks → group j (before ++ map (line k) g) ≡ []
    none_yet j m =
        group-append j before (map (line k) g)
        ∙ ap₂ (λ (x y : List (List ℕ)). x ++ y) (f j (inr m)) (group-other j k g (λ d. omega (arith, later-kinds k ks a j m)))

pub passes-runs : (s : Sheet) (ks : List Kind) (gs : List (List (List ℕ))) → Ascending order_key ks → AllShaped (lines_from ks gs) → Passes [] (lines_from ks gs)
    → Lined s (lines_from ks gs) → AllRuns s ks gs
passes-runs s ks gs a h q e = passes-runs-after s [] ks gs a (λ k m. refl) h q e

-- the lines of such runs are in shape, and pass after lines of earlier kinds
pub runs-shaped : (s : Sheet) (ks : List Kind) (gs : List (List (List ℕ))) → ((k : Kind) → k ∈ ks → k ∈ kinds) → AllRuns s ks gs → AllShaped (lines_from ks gs)
runs-shaped s [] gs f r l m = absurd m
runs-shaped s (k ∷ ks) [] f r l m = absurd m
runs-shaped s (k ∷ ks) (g ∷ gs) f r l m =
    ⊎_elim (run-shaped s k g (f k (inl refl)) r.0 l) (runs-shaped s ks gs (λ j i. f j (inr i)) r.1 l) (mem-append l (map (line k) g) (lines_from ks gs) m)
