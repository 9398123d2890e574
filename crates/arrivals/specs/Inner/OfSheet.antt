-- The case that the search of a sheet is given: its free runs from the table of first steps, its corridors, closures and waiting costs from the network.
use Rattle.std.specs.Prelude.{◌≡◌, refl, true, false, List, [], ◌∷◌, ℕ, zero, suc, ◌+◌, ◌*◌, ◌≤◌, ◌<◌, ◌/◌, length}
use Rattle.std.proofs.Common.{sym, ◌∙◌, subst}
use Rattle.std.proofs.Math.Path.{ap}
use native.Mathlib.Omega.{arith}
use Rattle.std.proofs.Math.ListN.{get_or}
use Rattle.sheet.specs.Lists.{◌∈◌, number, rows, flat}
use Rattle.sheet.specs.Kinds.{kind_o}
use Rattle.sheet.specs.Calls.{group_rows}
use Rattle.sheet.specs.Sheet.{Sheet, steps, from, to}
use Rattle.sheet.specs.Valid.{Valid}
use Rattle.sheet.specs.Laws.Rows.{Wide, flat-length, rows-flat}
use Rattle.sheet.specs.Laws.Decided.{false-not-true, In, from-same, from-of}
use Rattle.costs.specs.Costs.{Cost, figures}
use Rattle.costs.specs.Priced.{Within}
use Rattle.costs.specs.Moves.{wait_of, cost_of, Closed, Crossing}
use Rattle.costs.specs.Laws.Moves.{wait-three, crossing-three, wait-bounded, crossing-bounded}
use Rattle.costs.specs.Laws.Rows.{row, row_number, mem-rows, rows-mem}
use Rattle.intervals.specs.Computed.{since_of}
use Rattle.intervals.specs.FirstSteps.{SinceTable}
use Rattle.intervals.specs.Laws.Runs.{since-free, since-run, since-same}
use Rattle.arrivals.specs.Inner.Network.{Link, Case, case_of, since_in, wait_in, link_of, link_at, link_in, links_of, link-path, Lawful, count_of, places_of}
use Rattle.arrivals.specs.Inner.Network.{links-find, links-any, links-all, openb, open_in, open_of, shut-of, Closes, closure_of, closures_of}
use Rattle.arrivals.specs.Inner.Laying.{Copied, LinksLaid, ClosuresLaid, Corridors, Closures, LaidIn}
use Rattle.arrivals.specs.Laws.Rows.{besides-wide}
use Rattle.arrivals.specs.Inner.Lent.{Given}
use Rattle.arrivals.specs.Inner.Meaning.{Fits}

module _ {s : Sheet} (valid : Valid s) where
  abbrev cs : List ℕ
  cs = flat s.corridors

  abbrev xs : List ℕ
  xs = flat s.closures

  wide-corridors : Wide 5 s.corridors
  wide-corridors k m = (valid.corridors k m).wide

  wide-closures : Wide 3 s.closures
  wide-closures x m = (valid.closures x m).wide

  whole : length cs ≡ length s.corridors * 5
  whole = flat-length 5 s.corridors wide-corridors

  whole-closures : length xs ≡ length s.closures * 3
  whole-closures = flat-length 3 s.closures wide-closures

  rows-corridors : rows 5 (length cs / 5) cs ≡ s.corridors
  rows-corridors = rows-flat 5 s.corridors (omega arith) wide-corridors

  rows-closures : rows 3 (length xs / 3) xs ≡ s.closures
  rows-closures = rows-flat 3 s.closures (omega arith) wide-closures

  line-in : (i : ℕ) → i < length s.corridors → row 5 cs i ∈ s.corridors
  line-in i l = subst (λ (z : List (List ℕ)). row 5 cs i ∈ z) rows-corridors (mem-rows 5 (length cs / 5) cs i (omega (arith, whole)))

  pub links-long : length cs ≤ 1280
  links-long = omega (arith, whole, valid.most-corridors)

  pub closures-long : length xs ≤ 768
  closures-long = omega (arith, whole-closures, valid.most-closures)

  -- the numbers that are copied are those of the group
  pub links-copied : {group a b : List ℕ} → group ≡ flat s.corridors → Copied 0 832 (length group) group a b → LinksLaid (flat s.corridors) a b
  links-copied {group} {a} {b} e c = subst (λ (z : List ℕ). LinksLaid z a b) e (record {
    numbers = λ i l. c.numbers i l ∙ ap (λ (k : ℕ). get_or group k 0) (omega arith);
    others = besides-wide 832 2112 (omega arith) (omega (arith, ap length e, links-long)) c.others;
  })

  pub closures-copied : {group a b : List ℕ} → group ≡ flat s.closures → Copied 0 3716 (length group) group a b → ClosuresLaid (flat s.closures) a b
  closures-copied {group} {a} {b} e c = subst (λ (z : List ℕ). ClosuresLaid z a b) e (record {
    numbers = λ i l. c.numbers i l ∙ ap (λ (k : ℕ). get_or group k 0) (omega arith);
    others = besides-wide 3716 4484 (omega arith) (omega (arith, ap length e, closures-long)) c.others;
  })

  -- corridor i of the group, as its line
  cross_at : (i t : ℕ) → i < length s.corridors → (Closed s (from (row 5 cs i)) (to (row 5 cs i)) t → ⊥)
      → Crossing s (from (row 5 cs i)) (to (row 5 cs i)) t (cost_of (row 5 cs i))
  cross_at i t l n = record { line = row 5 cs i; listed = line-in i l; leaves = refl; enters = refl; price = refl; opens = n }

  -- closure x of the group, as its line
  closure-in : (x : ℕ) → x < length s.closures → row 3 xs x ∈ s.closures
  closure-in x l = subst (λ (z : List (List ℕ)). row 3 xs x ∈ z) rows-closures (mem-rows 3 (length xs / 3) xs x (omega (arith, whole-closures)))

  occupancies-back : group_rows kind_o (flat s.occupancies) ≡ s.occupancies
  occupancies-back = rows-flat 3 s.occupancies (omega arith) (λ o m. (valid.occupancies o m).wide)

  line-number : (i q : ℕ) → q < 5 → get_or cs (i * 5 + q) 0 ≡ number (row 5 cs i) q
  line-number i q l = sym (row_number 5 cs i q l)

  pub corridors-of : Corridors s cs (length s.corridors)
  corridors-of = record { few-places = valid.most-places; few = valid.most-corridors; whole = whole; ends = ends }
    where
      ends : (q j : ℕ) → q < 2 → j < length s.corridors → get_or cs (j * 5 + q) 0 < 64
      ends zero j two l = omega (arith, line-number j 0 (omega arith), (valid.corridors (row 5 cs j) (line-in j l)).from_place, valid.most-places)
      ends (suc zero) j two l = omega (arith, line-number j 1 (omega arith), (valid.corridors (row 5 cs j) (line-in j l)).to-place, valid.most-places)
      ends (suc (suc q)) j two l = absurd (omega arith)

  pub closures-of : Closures xs (length s.closures)
  closures-of =
      record {
        few = valid.most-closures;
        whole = whole-closures;
        places = λ x l.
            let c = valid.closures (row 3 xs x) (closure-in x l) in
            omega (arith, row_number 3 xs x 1 (omega arith), c.enters, (valid.corridors c.corridor c.listed).to-place, valid.most-places);
      }

  module _ (firsts net : List ℕ) (table : SinceTable (flat s.occupancies) firsts) (laid : LaidIn s net) where
    abbrev pub searched : Case
    searched = case_of firsts net

    entry : (v t : ℕ) → v < places_of net → t ≤ 255 → since_in firsts v t ≡ since_of s v t
    entry v t i l = table.of s (sym occupancies-back) v t (omega (arith, laid.places, valid.most-places)) (omega arith)

    within : (t : ℕ) → t ≤ steps s → t ≤ 255
    within t l = omega (arith, valid.most-steps)

    waits-at : (v : ℕ) → v < places_of net → wait_of s v ≡ wait_in net v
    waits-at v l = sym (laid.waits.each v (omega (arith, laid.places)))

    count : count_of net ≡ length s.corridors
    count = omega (arith, laid.count, whole)

    closed-count : closures_of net ≡ length s.closures
    closed-count = omega (arith, laid.closed, whole-closures)

    closure-number : (x q : ℕ) → x < closures_of net → q < 3 → closure_of net q x ≡ number (row 3 xs x) q
    closure-number x q l m =
        let e : 3716 + x * 3 + q ≡ 3716 + (x * 3 + q) = omega arith in
        ap (number net) e ∙ laid.closures (x * 3 + q) (omega (arith, laid.closed)) ∙ sym (row_number 3 xs x q m)

    -- the closures of the network are those of the sheet
    closed-shut : (u v t : ℕ) → Closed s u v t → open_in net u v t ≡ false
    closed-shut u v t m =
        let r = rows-mem 3 (length xs / 3) xs (u ∷ v ∷ t ∷ []) (subst (λ (z : List (List ℕ)). (u ∷ v ∷ t ∷ []) ∈ z) (sym rows-closures) m) in
        let x = r.0 in
        let l : x < closures_of net = omega (arith, laid.closed, r.1) in
        let at : (q : ℕ) → q < 3 → closure_of net q x ≡ number (u ∷ v ∷ t ∷ []) q =
        λ q b. closure-number x q l b ∙ sym (ap (λ (y : List ℕ). number y q) r.2) in
        shut-of net u v t x l (record { from = at 0 (omega arith); to = at 1 (omega arith); step = at 2 (omega arith) })

    shut-closed : (u v t x : ℕ) → x < closures_of net → Closes net u v t x → Closed s u v t
    shut-closed u v t x l c =
        let m = closure-in x (omega (arith, closed-count)) in
        let a = sym (closure-number x 0 l (omega arith)) ∙ c.from in
        let b = sym (closure-number x 1 l (omega arith)) ∙ c.to in
        let d = sym (closure-number x 2 l (omega arith)) ∙ c.step in
        let three = from-of 3 0 (row 3 xs x) (row 3 xs x) (valid.closures (row 3 xs x) m).wide (λ j h. ap (number (row 3 xs x)) (omega arith)) in
        let same : row 3 xs x ≡ u ∷ v ∷ t ∷ [] = sym three ∙ (λ i. a i ∷ b i ∷ d i ∷ []) in
        subst (λ (y : List ℕ). y ∈ s.closures) same m

    open-when : (u v t : ℕ) → (Closed s u v t → ⊥) → open_in net u v t ≡ true
    open-when u v t n = open_of net u v t (λ x l c. n (shut-closed u v t x l c))

    link-line : (i : ℕ) → i < count_of net → link_at net i ≡ link_in net (from (row 5 cs i)) (to (row 5 cs i)) (cost_of (row 5 cs i))
    unfolding cost_of
    link-line i l = link-path net (at 0 (omega arith)) (at 1 (omega arith)) (from-same figures (832 + i * 5 + 2) 2 net (row 5 cs i) (λ j m. let d : 832 + i * 5 + 2 + j ≡ 832 + i * 5 + (2 + j) = omega arith in ap (number net) d ∙ at (2 + j) (omega arith)))
      where
        at : (q : ℕ) → q < 5 → get_or net (832 + i * 5 + q) 0 ≡ number (row 5 cs i) q
        at q m = let e : 832 + i * 5 + q ≡ 832 + (i * 5 + q) = omega arith in ap (number net) e ∙ laid.numbers (i * 5 + q) (omega (arith, laid.count)) ∙ line-number i q m

    crossing-of : (l : Link) → In l (links_of net (count_of net)) → (t : ℕ) → openb l t ≡ true → Crossing s l.from l.to t l.cost
    crossing-of l m t o =
        let f = links-find net (count_of net) m in
        let e = sym (link-line f.at f.upto) ∙ f.fits in
        subst (λ (r : Link). Crossing s r.from r.to t r.cost) e
        (cross_at f.at t (omega (arith, count, f.upto)) (λ c. false-not-true (closed-shut _ _ t c) (subst (λ (r : Link). openb r t ≡ true) (sym e) o)))

    -- past the day no corridor is closed, and so each is a crossing then
    crossing-past : (l : Link) → In l (links_of net (count_of net)) → Crossing s l.from l.to 256 l.cost
    crossing-past l m =
        let f = links-find net (count_of net) m in
        crossing-of l m 256
        (subst (λ (r : Link). openb r 256 ≡ true) f.fits
        (open-when (link_of net 0 f.at) (link_of net 1 f.at) 256 (λ c. absurd (omega (arith, (valid.closures _ c).in-day)))))

    line_of : (u v t : ℕ) (c : Cost) → Crossing s u v t c → In (link_in net u v c) (links_of net (count_of net))
    line_of u v t c x =
        let r = rows-mem 5 (length cs / 5) cs x.line (subst (λ (z : List (List ℕ)). x.line ∈ z) (sym rows-corridors) x.listed) in
        let k = r.0 in
        let e = r.2 in
        let l : k < count_of net = omega (arith, laid.count, r.1) in
        links-any (λ q. q ≡ link_in net u v c) net (count_of net) k l
        (link-line k l ∙ link-path net (sym (ap from e) ∙ x.leaves) (sym (ap to e) ∙ x.enters) (sym (ap cost_of e) ∙ sym x.price))

    from-of-link : (l : Link) → In l (links_of net (count_of net)) → l.from < places_of net
    from-of-link l m = let x = crossing-past l m in omega (arith, laid.places, x.leaves, (valid.corridors x.line x.listed).from_place)

    to-of-link : (l : Link) → In l (links_of net (count_of net)) → l.to < places_of net
    to-of-link l m = let x = crossing-past l m in omega (arith, laid.places, x.enters, (valid.corridors x.line x.listed).to-place)

    runs : (v u t : ℕ) → v < places_of net → t ≤ 255 → since_in firsts v t ≤ u → u ≤ t → since_in firsts v u ≡ since_in firsts v t
    runs v u t i l a b = entry v u i (omega arith) ∙ since-same s v u t b ((since-run s v u t l b).0 (omega (arith, entry v t i l))) ∙ sym (entry v t i l)

    pub fits : Fits s searched
    fits =
        record {
          free = λ v t i l w. (since-free s v t (within t l)).0 (omega (arith, entry v t i (within t l)));
          vacant = λ v t i l f. omega (arith, entry v t i (within t l), (since-free s v t (within t l)).1 f);
          runs = λ v u t i l a b. runs v u t i (within t l) a b;
          soonest = λ v u t i l b r. omega (arith, entry v t i (within t l), (since-run s v u t (within t l) b).1 r);
          crossing = crossing-of;
          listed = λ u v t c x. record { opens = open_in net u v; open-then = open-when u v t x.opens; has = line_of u v t c x };
          from = from-of-link;
          into = to-of-link;
          wait = waits-at;
          start = laid.start;
          start-place = omega (arith, laid.start, laid.places, valid.start-place);
        }

    lawful : (i : ℕ) → i < count_of net → Lawful (places_of net) (link_at net i)
    lawful i l =
        let m = links-any (λ q. q ≡ link_at net i) net (count_of net) i l refl in
        let x = crossing-past (link_at net i) m in
        record {
          from = from-of-link (link_at net i) m;
          to = to-of-link (link_at net i) m;
          costs = record { every = crossing-bounded s valid (link_at net i).from (link_at net i).to 256 (link_at net i).cost x };
          three = crossing-three x;
        }

    pub given : Given firsts net
    given =
        record {
          legal = record {
            links = links-all (Lawful (places_of net)) net (count_of net) lawful;
            waits = λ v l. subst (Within 60000) (waits-at v l) (record { every = wait-bounded s valid v });
            three = λ v l. ap length (sym (waits-at v l)) ∙ wait-three s v;
            runs = runs;
          };
          intervals = omega (arith, table.size);
          size = laid.size;
          few = omega (arith, count, valid.most-corridors);
          places = omega (arith, laid.places, valid.most-places);
          start = omega (arith, laid.start, laid.places, valid.start-place);
          out = laid.out;
          into = laid.into;
          closing = record {
            size = laid.size;
            few = omega (arith, closed-count, valid.most-closures);
            places = λ x l. omega (arith, closure-number x 1 l (omega arith), row_number 3 xs x 1 (omega arith), closures-of.places x (omega (arith, closed-count)));
            noted = laid.noted.noted;
            chained = laid.cells;
          };
          cheap = laid.weighed.cheap;
        }
