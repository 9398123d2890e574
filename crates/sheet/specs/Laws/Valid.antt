-- Every sheet of lines that pass is valid, and the lines of every valid sheet are in shape and pass. Both go by the five runs of lines of a
-- sheet, of one kind each (Laws.Runs): what remains is that a run of C lines, say, says of its numbers what a valid sheet says of corridors.
-- Also: no number of lines that pass has more than five digits.
-- The laws that rest on what `waiting` says stand in proofs/Valid.antt: `passes-valid`, `valid-passes` and `valid-complete`.
use Rattle.std.specs.Prelude.{◌≡◌, refl, Bool, false, not, ◌&&◌, List, [], ◌∷◌, ℕ, zero, suc, ◌≤◌, ◌<◌, eqb, length, get_or}
use Rattle.std.proofs.Common.{sym, ◌∙◌, ap, subst, inl, inr, arith, ltb-false, eqb-true, eq-eqb, le-ltb, ne_eqb}
use Rattle.std.proofs.lemmas.Bool.{eqb-false, not-false}
use Rattle.sheet.specs.Lists.{number, ◌∈◌, any}
use Rattle.sheet.specs.Kinds.{place, width, kind_s, kind_w, kind_c, kind_x, kind_o, kinds}
use Rattle.sheet.specs.Lines.{Line, line}
use Rattle.sheet.specs.Sheet.{Sheet, places, steps, from, to, first, last, sheet_of, groups_of, sheet_lines, head_in, unpaired, unknown, late}
use Rattle.sheet.specs.Valid.{ValidWait, Turned, ValidCorridor, ValidClosure, ValidOccupancy, Valid}
use Rattle.sheet.specs.Laws.Order.{and-true, true-and}
use Rattle.sheet.specs.Laws.Members.{any-mem, mem-any}
use Rattle.sheet.specs.Laws.Kinds.{kinds-ascend}
use Rattle.sheet.specs.Laws.Judge.{Passes}
use Rattle.sheet.specs.Laws.Shape.{AllShaped}
use Rattle.sheet.specs.Laws.Passed.{passes-inside}
use Rattle.sheet.specs.Laws.Limits.{In, Within, inside-within, within-at, at-within, most-from, five-digits, within-below}
use Rattle.sheet.specs.Laws.Groups.{sheet-lines, lines-sheet}
use Rattle.sheet.specs.Laws.Runs.{Run, AllRuns, passes-runs, runs-shaped}
use Rattle.sheet.specs.Laws.Turns.{turned-ascend}

-- the runs of a sheet
abbrev pub Runs : Sheet → Type 0
Runs s = AllRuns s kinds (groups_of s)

-- each line: what its run says of it is what a valid sheet says
wait-valid : (s : Sheet) (w : List ℕ) → length w ≡ width kind_w → Within (places s) kind_w.limits w → ValidWait s w
wait-valid s w e h =
    record {
      wide = e;
      place = within-at (places s) kind_w.limits w e h 0 (omega arith);
      cost = most-from 60000 (places s) 1 kind_w.limits w e h refl;
    }

corridor-valid : (s : Sheet) (k : List ℕ) → length k ≡ width kind_c → Within (places s) kind_c.limits k → unpaired kind_c.pair k ≡ false → ValidCorridor s k
corridor-valid s k e w u =
    let at = within-at (places s) kind_c.limits k e w in
    record {
      wide = e;
      from_place = at 0 (omega arith);
      to-place = at 1 (omega arith);
      cost = most-from 60000 (places s) 2 kind_c.limits k e w refl;
      apart = eqb-false (from k) (to k) u;
    }

-- a closure names a corridor, and the other way round
abbrev names : List ℕ → List ℕ → Bool
names x k = eqb (from k) (from x) && eqb (to k) (to x)

closure-valid : (s : Sheet) (x : List ℕ) → length x ≡ width kind_x → Within (places s) kind_x.limits x → unknown s.corridors (line kind_x x) ≡ false → ValidClosure s x
closure-valid s x e w u =
    let r = any-mem (names x) s.corridors (not-false (any (names x) s.corridors) u) in
    let q = and-true (eqb (from r.0) (from x)) (eqb (to r.0) (to x)) r.2 in
    record {
      wide = e;
      corridor = r.0;
      listed = r.1;
      leaves = eqb-true (from r.0) (from x) q.0;
      enters = eqb-true (to r.0) (to x) q.1;
      in-day = (within-at (places s) kind_x.limits x e w 2 (omega arith)).1;
    }

closure-known : (s : Sheet) (x : List ℕ) → ValidClosure s x → unknown s.corridors (line kind_x x) ≡ false
closure-known s x g =
    ap not (mem-any (names x) s.corridors g.corridor g.listed
    (true-and (eqb (from g.corridor) (from x)) (eqb (to g.corridor) (to x)) (eq-eqb (from g.corridor) (from x) g.leaves) (eq-eqb (to g.corridor) (to x) g.enters)))

occupancy-valid : (s : Sheet) (o : List ℕ) → length o ≡ width kind_o → Within (places s) kind_o.limits o → unpaired kind_o.pair o ≡ false
    → late (steps s) (line kind_o o) ≡ false → ValidOccupancy s o
occupancy-valid s o e w u t =
    let at = within-at (places s) kind_o.limits o e w in
    record {
      wide = e;
      place = at 0 (omega arith);
      in-day = (at 2 (omega arith)).1;
      ordered = ltb-false (last o) (first o) u;
      begins = ltb-false (steps s) (first o) t;
    }

-- the W lines of a sheet are those of its places in turn
pub record EachWait (s : Sheet) : Type 0 where
  pub turned : Turned 0 s.waits
  pub each : length s.waits ≡ places s

pub runs-places : (s : Sheet) → Runs s → places s ≤ 64
runs-places s (rs, rest) = (within-at (places s) kind_s.limits s.head (rs.count s.head (inl refl)) (rs.within s.head (inl refl)) 0 (omega arith)).1

pub runs-valid : (s : Sheet) → Runs s → EachWait s → Valid s
runs-valid s (rs, (rw', (rc, (rx, (ro, u))))) t =
    let e = rs.count s.head (inl refl) in
    let w = rs.within s.head (inl refl) in
    let at = within-at (places s) kind_s.limits s.head e w in
    record {
      wide = e;
      some-place = (at 0 (omega arith)).0;
      most-places = (at 0 (omega arith)).1;
      most-steps = (at 1 (omega arith)).1;
      start-place = at 2 (omega arith);
      goal-place = at 3 (omega arith);
      most-unload = (at 4 (omega arith)).1;
      waits = λ x m. wait-valid s x (rw'.count x m) (rw'.within x m);
      waits-turn = t.turned;
      each-place = t.each;
      corridors = λ k m. corridor-valid s k (rc.count k m) (rc.within k m) (rc.paired k m);
      most-corridors = rc.few;
      corridors-ascend = rc.ascend;
      closures = λ x m. closure-valid s x (rx.count x m) (rx.within x m) (rx.known x m);
      most-closures = rx.few;
      closures-ascend = rx.ascend;
      occupancies = λ o m. occupancy-valid s o (ro.count o m) (ro.within o m) (ro.paired o m) (ro.timely o m);
      most-occupancies = ro.few;
      occupancies-ascend = ro.ascend;
    }

pub lines_runs : (ls : List Line) → AllShaped ls → Passes [] ls → 1 ≤ length ls → Runs (sheet_of ls)
lines_runs ls f p h =
    let e = lines-sheet ls f p h in
    passes-runs (sheet_of ls) kinds (groups_of (sheet_of ls)) kinds-ascend (subst AllShaped (sym e) f) (subst (Passes []) (sym e) p)
    (record { head-is = refl; corridors-are = ap (λ (s : Sheet). s.corridors) (sheet-lines (sheet_of ls)) })

-- each number of a line that passes is within its limit, on at most 64 places
pub places-at-most : (ls : List Line) → AllShaped ls → Passes [] ls → 1 ≤ length ls → number (head_in ls) 0 ≤ 64
places-at-most ls f p h = subst (λ (k : List Line). number (head_in k) 0 ≤ 64) (lines-sheet ls f p h) (runs-places (sheet_of ls) (lines_runs ls f p h))

pub numbers-below : (ls : List Line) → AllShaped ls → Passes [] ls → (l : Line) → l ∈ ls → (n : ℕ) → n ∈ l.numbers → n < 100000
numbers-below [] f p l m n i = absurd m
numbers-below (x ∷ ls) f p l m n i =
    within-below 100000 (number (head_in (x ∷ ls)) 0) (places-at-most (x ∷ ls) f p (omega arith)) l.kind.limits l.numbers (f l m).count
    (inside-within (number (head_in (x ∷ ls)) 0) l.kind.limits l.numbers (passes-inside [] (x ∷ ls) p l m))
    (five-digits l.kind (f l m).known)
    n
    i

-- each line, the other way: number by number
valid-head : (s : Sheet) → Valid s → (i : ℕ) → i < width kind_s → In (places s) (get_or kind_s.limits i place) (number s.head i)
valid-head s g zero h = (g.some-place, g.most-places)
valid-head s g (suc zero) h = (omega arith, g.most-steps)
valid-head s g (suc (suc zero)) h = g.start-place
valid-head s g (suc (suc (suc zero))) h = g.goal-place
valid-head s g (suc (suc (suc (suc zero)))) h = (omega arith, g.most-unload)
valid-head s g (suc (suc (suc (suc (suc i))))) h = absurd (omega arith)

valid-wait : (s : Sheet) (w : List ℕ) → ValidWait s w → (i : ℕ) → i < width kind_w → In (places s) (get_or kind_w.limits i place) (number w i)
valid-wait s w g zero h = g.place
valid-wait s w g (suc zero) h = (omega arith, g.cost 1 (omega arith))
valid-wait s w g (suc (suc zero)) h = (omega arith, g.cost 2 (omega arith))
valid-wait s w g (suc (suc (suc zero))) h = (omega arith, g.cost 3 (omega arith))
valid-wait s w g (suc (suc (suc (suc i)))) h = absurd (omega arith)

valid-corridor : (s : Sheet) (k : List ℕ) → ValidCorridor s k → (i : ℕ) → i < width kind_c → In (places s) (get_or kind_c.limits i place) (number k i)
valid-corridor s k g zero h = g.from_place
valid-corridor s k g (suc zero) h = g.to-place
valid-corridor s k g (suc (suc zero)) h = (omega arith, g.cost 2 (omega arith))
valid-corridor s k g (suc (suc (suc zero))) h = (omega arith, g.cost 3 (omega arith))
valid-corridor s k g (suc (suc (suc (suc zero)))) h = (omega arith, g.cost 4 (omega arith))
valid-corridor s k g (suc (suc (suc (suc (suc i))))) h = absurd (omega arith)

valid-closure : (s : Sheet) → Valid s → (x : List ℕ) → ValidClosure s x → (i : ℕ) → i < width kind_x → In (places s) (get_or kind_x.limits i place) (number x i)
valid-closure s g x h zero l = subst (λ (n : ℕ). n < places s) h.leaves (g.corridors h.corridor h.listed).from_place
valid-closure s g x h (suc zero) l = subst (λ (n : ℕ). n < places s) h.enters (g.corridors h.corridor h.listed).to-place
valid-closure s g x h (suc (suc zero)) l = (omega arith, h.in-day)
valid-closure s g x h (suc (suc (suc i))) l = absurd (omega arith)

valid-occupancy : (s : Sheet) (o : List ℕ) → ValidOccupancy s o → (i : ℕ) → i < width kind_o → In (places s) (get_or kind_o.limits i place) (number o i)
valid-occupancy s o g zero h = g.place
valid-occupancy s o g (suc zero) h = (omega arith, omega (arith, g.ordered, g.in-day))
valid-occupancy s o g (suc (suc zero)) h = (omega arith, g.in-day)
valid-occupancy s o g (suc (suc (suc i))) h = absurd (omega arith)

-- the run of each kind
head-run : (s : Sheet) → Valid s → Run s kind_s (s.head ∷ [])
head-run s g =
    record {
      count = λ h m. sole (λ x. length x ≡ width kind_s) m g.wide;
      within = λ h m. sole (Within (places s) kind_s.limits) m (at-within (places s) kind_s.limits s.head (valid-head s g));
      paired = λ n m. refl;
      known = λ n m. refl;
      timely = λ n m. refl;
      few = omega arith;
      ascend = (tt, tt);
    }
  where
    -- the one line of a group
    sole : {h k : List ℕ} (P : List ℕ → Type 0) → h ∈ (k ∷ []) → P k → P h
    sole P (inl e) p = subst P (sym e) p
    sole {h = h} {k = k} P (inr nowhere) p = elim nowhere [ ]

waits-run : (s : Sheet) → Valid s → Run s kind_w s.waits
waits-run s g =
    record {
      count = λ w m. (g.waits w m).wide;
      within = λ w m. at-within (places s) kind_w.limits w (valid-wait s w (g.waits w m));
      paired = λ w m. refl;
      known = λ w m. refl;
      timely = λ w m. refl;
      few = omega (arith, g.each-place, g.most-places);
      ascend = turned-ascend 0 s.waits g.waits-turn (λ w m. (g.waits w m).wide);
    }

corridors-run : (s : Sheet) → Valid s → Run s kind_c s.corridors
corridors-run s g =
    record {
      count = λ k m. (g.corridors k m).wide;
      within = λ k m. at-within (places s) kind_c.limits k (valid-corridor s k (g.corridors k m));
      paired = λ k m. ne_eqb (from k) (to k) (g.corridors k m).apart;
      known = λ k m. refl;
      timely = λ k m. refl;
      few = g.most-corridors;
      ascend = g.corridors-ascend;
    }

closures-run : (s : Sheet) → Valid s → Run s kind_x s.closures
closures-run s g =
    record {
      count = λ x m. (g.closures x m).wide;
      within = λ x m. at-within (places s) kind_x.limits x (valid-closure s g x (g.closures x m));
      paired = λ x m. let h = g.closures x m in ne_eqb (from x) (to x) (λ e. (g.corridors h.corridor h.listed).apart (h.leaves ∙ e ∙ sym h.enters));
      known = λ x m. closure-known s x (g.closures x m);
      timely = λ x m. refl;
      few = g.most-closures;
      ascend = g.closures-ascend;
    }

occupancies-run : (s : Sheet) → Valid s → Run s kind_o s.occupancies
occupancies-run s g =
    record {
      count = λ o m. (g.occupancies o m).wide;
      within = λ o m. at-within (places s) kind_o.limits o (valid-occupancy s o (g.occupancies o m));
      paired = λ o m. le-ltb (last o) (first o) (g.occupancies o m).ordered;
      known = λ o m. refl;
      timely = λ o m. le-ltb (steps s) (first o) (g.occupancies o m).begins;
      few = g.most-occupancies;
      ascend = g.occupancies-ascend;
    }

pub valid-runs : (s : Sheet) → Valid s → Runs s
valid-runs s g = (head-run s g, (waits-run s g, (corridors-run s g, (closures-run s g, (occupancies-run s g, tt)))))

pub valid-shaped : (s : Sheet) → Valid s → AllShaped (sheet_lines s)
valid-shaped s g = runs-shaped s kinds (groups_of s) (λ k m. m) (valid-runs s g)
