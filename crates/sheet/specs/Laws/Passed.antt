-- Which test a fault names: the first of the list that fails. What it says that a line passes: each of its tests, by name, does not fail; and what it
-- says that lines pass one after another, for the lines of an appended list and for each line at its position.
use Rattle.std.specs.Prelude.{◌≡◌, refl, ◌≢◌, Bool, true, false, not, ◌&&◌, ◌||◌, List, [], ◌∷◌, ◌++◌, map, ℕ, ◌≤◌, eqb}
use Rattle.std.proofs.Common.{sym, ◌∙◌, ap, subst, inl, inr, true≢false, append-nil, arith}
use Rattle.std.proofs.Math.Option.{some}
use Rattle.std.proofs.Math.Seq.{append_snoc}
use Rattle.std.proofs.lemmas.Bool.{not-false}
use Rattle.sheet.specs.Lists.{pick, number, ◌∈◌, any}
use Rattle.sheet.specs.Kinds.{kind_c, kind_x}
use Rattle.sheet.specs.Lines.{Line}
use Rattle.sheet.specs.Sheet.{from, to, group, misplaced, too_many, outside, head_in, unpaired, unknown, late, latest, not_above, tests, first_failed, fault}
use Rattle.sheet.specs.Laws.Members.{any-mem, mem-any}
use Rattle.sheet.specs.Laws.Judge.{Passes}

-- tests that do not fail
pub or-false : (a b : Bool) → a || b ≡ false → (a ≡ false) × (b ≡ false)
or-false true b e = absurd (true≢false e)
or-false false b e = (refl, e)

pub false-or : (a b : Bool) → a ≡ false → b ≡ false → a || b ≡ false
false-or a b p q = cc

pub any_false : (p : Line → Bool) (ls : List Line) → any p ls ≡ false → (l : Line) → l ∈ ls → p l ≡ false
any_false p [] e l m = absurd m
any_false p (x ∷ ls) e l (inl i) = ap p i ∙ (or-false (p x) (any p ls) e).0
any_false p (x ∷ ls) e l (inr m) = any_false p ls (or-false (p x) (any p ls) e).1 l m

pub false-any : (p : Line → Bool) (ls : List Line) → ((l : Line) → l ∈ ls → p l ≡ false) → any p ls ≡ false
false-any p [] f = refl
false-any p (x ∷ ls) f = false-or (p x) (any p ls) (f x (inl refl)) (false-any p ls (λ l m. f l (inr m)))

-- no test of the list fails
abbrev pub NoneFails : List (ℕ × Bool) → Type 0
NoneFails [] = Unit {0}
NoneFails (t ∷ ts) = (t.1 ≡ false) × NoneFails ts

-- the numbers of refusals begin with 1
abbrev Numbered : List (ℕ × Bool) → Type 0
Numbered [] = Unit {0}
Numbered (t ∷ ts) = (1 ≤ t.0) × Numbered ts

none-fails : (ts : List (ℕ × Bool)) → Numbered ts → first_failed ts ≡ 0 → NoneFails ts
none-fails [] h e = tt
none-fails (t ∷ ts) h e = go t.1 refl e (none-fails ts h.1)
  where
    go : (b : Bool) → t.1 ≡ b → pick b t.0 (first_failed ts) ≡ 0 → (first_failed ts ≡ 0 → NoneFails ts) → NoneFails (t ∷ ts)
    go true q d f = absurd (omega (arith, h.0))
    go false q d f = (q, f d)

none-failed : (ts : List (ℕ × Bool)) → NoneFails ts → first_failed ts ≡ 0
none-failed [] h = refl
none-failed (t ∷ ts) h = rw h.0 (none-failed ts h.1)

-- the test n fails, and none before it in the list
pub record First (ts : List (ℕ × Bool)) (n : ℕ) : Type 0 where
  pub earlier : List (ℕ × Bool)
  pub later : List (ℕ × Bool)
  pub parts : ts ≡ earlier ++ ((n, true) ∷ later)
  pub pass : NoneFails earlier

first_of : (ts : List (ℕ × Bool)) → first_failed ts ≢ 0 → First ts (first_failed ts)
first_of [] h = absurd (h refl)
first_of (t ∷ ts) h = go t.1 refl h (first_of ts)
  where
    go : (b : Bool) → t.1 ≡ b → pick b t.0 (first_failed ts) ≢ 0 → (first_failed ts ≢ 0 → First ts (first_failed ts))
        → First (t ∷ ts) (pick b t.0 (first_failed ts))
    go true q d f = record { earlier = []; later = ts; parts = ap (λ (b : Bool). (t.0, b) ∷ ts) q; pass = tt }
    go false q d f =
        let r = f d in
        record { earlier = t ∷ r.earlier; later = r.later; parts = ap (λ (us : List (ℕ × Bool)). t ∷ us) r.parts; pass = (q, r.pass) }

-- the order of the tests is that of their list: the fault of a line is the number of its first test that fails
pub fault-first : (before : List Line) (l : Line) → fault before l ≢ 0 → First (tests before l) (fault before l)
unfolding fault
fault-first before l = first_of (tests before l)

pub order-of-tests : (before : List Line) (l : Line) → map (λ t. t.0) (tests before l) ≡ 3 ∷ 7 ∷ 4 ∷ 6 ∷ 15 ∷ 16 ∷ 5 ∷ []
unfolding tests
order-of-tests before l = refl

-- the tests that a line has passed
pub record Passed (before : List Line) (l : Line) : Type 0 where
  pub placed : misplaced before l ≡ false
  pub few : too_many before l ≡ false
  pub inside : outside (number (head_in (before ++ (l ∷ []))) 0) l.kind.limits l.numbers ≡ false
  pub paired : unpaired l.kind.pair l.numbers ≡ false
  pub known : unknown (group kind_c before) l ≡ false
  pub timely : late (number (head_in (before ++ (l ∷ []))) 1) l ≡ false
  pub above : not_above l.kind.key (latest (group l.kind before)) l.numbers ≡ false

pub fault-passed : (before : List Line) (l : Line) → fault before l ≡ 0 → Passed before l
unfolding fault tests
fault-passed before l e =
    let r = none-fails (tests before l) (omega arith) e in
    record {
      placed = r.0;
      few = r.1.0;
      inside = r.1.1.0;
      paired = r.1.1.1.0;
      known = r.1.1.1.1.0;
      timely = r.1.1.1.1.1.0;
      above = r.1.1.1.1.1.1.0;
    }

pub passed-fault : (before : List Line) (l : Line) → Passed before l → fault before l ≡ 0
unfolding fault tests
passed-fault before l p = none-failed (tests before l) (p.placed, (p.few, (p.inside, (p.paired, (p.known, (p.timely, (p.above, tt)))))))

-- appended lists
pub passes_append : (before ls ms : List Line) → Passes before (ls ++ ms) → Passes before ls × Passes (before ++ ls) ms
passes_append before [] ms p = (tt, rw append-nil p)
passes_append before (l ∷ ls) ms p =
    let r = passes_append (before ++ (l ∷ [])) ls ms p.1 in
    ((p.0, r.0), subst (λ (b : List Line). Passes b ms) (append_snoc before l ls) r.1)

pub append-passes : (before ls ms : List Line) → Passes before ls → Passes (before ++ ls) ms → Passes before (ls ++ ms)
append-passes before [] ms p q = rw append-nil at q
append-passes before (l ∷ ls) ms p q =
    (p.0, append-passes (before ++ (l ∷ [])) ls ms p.1 (subst (λ (b : List Line). Passes b ms) (sym (append_snoc before l ls)) q))

-- the S line is the first line
pub head_first : (before : List Line) (l : Line) (ls : List Line) → head_in (before ++ (l ∷ [])) ≡ head_in (before ++ (l ∷ ls))
head_first [] l ls = refl
head_first (m ∷ before) l ls = refl

-- what a passed line's tests say of it and of the lines up to it, and what holds of more lines too, each line of a sheet has of the whole sheet
pub passes-each : (P : List Line → Line → Type 0) → ((b : List Line) (l : Line) (ls : List Line) → Passed b l → P (b ++ (l ∷ ls)) l) → (before ls : List Line)
    → Passes before ls → (l : Line) → l ∈ ls → P (before ++ ls) l
passes-each P f before [] p l m = absurd m
passes-each P f before (x ∷ ls) p l (inl e) = subst (P (before ++ (x ∷ ls))) (sym e) (f before x ls (fault-passed before x p.0))
passes-each P f before (x ∷ ls) p l (inr m) = subst (λ (k : List Line). P k l) (append_snoc before x ls) (passes-each P f (before ++ (x ∷ [])) ls p.1 l m)

-- a closure that names one of these corridors names one of others among which they are
pub known-grows : (cs ds : List (List ℕ)) (l : Line) → ((c : List ℕ) → c ∈ cs → c ∈ ds) → unknown cs l ≡ false → unknown ds l ≡ false
known-grows cs ds l f e = go (eqb l.kind.order kind_x.order) e
  where
    names : List ℕ → Bool
    names k = eqb (from k) (from l.numbers) && eqb (to k) (to l.numbers)

    go : (b : Bool) → b && not (any names cs) ≡ false → b && not (any names ds) ≡ false
    go false e = refl
    go true e =
        let r = any-mem names cs (not-false (any names cs) e) in
        ap not (mem-any names ds r.0 (f r.0 r.1) r.2)

-- its numbers inside their limits and paired, and no occupancy late
pub passes-inside : (before ls : List Line) → Passes before ls → (l : Line) → l ∈ ls → outside (number (head_in (before ++ ls)) 0) l.kind.limits l.numbers ≡ false
passes-inside =
    passes-each (λ k l. outside (number (head_in k) 0) l.kind.limits l.numbers ≡ false)
    (λ b l ls q. subst (λ (h : List ℕ). outside (number h 0) l.kind.limits l.numbers ≡ false) (head_first b l ls) q.inside)

pub passes-paired : (before ls : List Line) → Passes before ls → (l : Line) → l ∈ ls → unpaired l.kind.pair l.numbers ≡ false
passes-paired = passes-each (λ k l. unpaired l.kind.pair l.numbers ≡ false) (λ b l ls q. q.paired)

pub passes-timely : (before ls : List Line) → Passes before ls → (l : Line) → l ∈ ls → late (number (head_in (before ++ ls)) 1) l ≡ false
passes-timely =
    passes-each (λ k l. late (number (head_in k) 1) l ≡ false)
    (λ b l ls q. subst (λ (h : List ℕ). late (number h 1) l ≡ false) (head_first b l ls) q.timely)

-- the last of a list with one more at its end
pub latest-last : (before : List (List ℕ)) (n : List ℕ) → latest (before ++ (n ∷ [])) ≡ some n
latest-last [] n = refl
latest-last (m ∷ []) n = refl
latest-last (m ∷ k ∷ before) n = latest-last (k ∷ before) n
