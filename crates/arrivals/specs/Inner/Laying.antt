-- The network as it is laid out from the groups of a sheet: waits, corridors, closures and counts, then the chains, then where waiting is dearer.
use Rattle.std.specs.Prelude.{◌≡◌, List, ◌⊎◌, ℕ, ◌+◌, ◌*◌, ◌≤◌, ◌<◌, length, get_or, set}
use Rattle.std.proofs.Common.{sym, ap, ◌∙◌, subst, inl, inr, ⊎_elim, arith, length-set, get_or-set_same, get_or-set_other}
use Rattle.sheet.specs.Sheet.{Sheet, places, start}
use Rattle.sheet.specs.Lists.{flat}
use Rattle.sheet.specs.Laws.Decided.{lt-or-le, from-same}
use Rattle.costs.specs.Costs.{Cost, figures, AtMost}
use Rattle.costs.specs.Moves.{wait_of}
use Rattle.costs.specs.Computed.{wait_at}
use Rattle.arrivals.specs.Inner.Network.{Cheap, wait_in, link_of, link_at, count_of, places_of, start_of, into_of, dear_of, closure_of, closures_of, wait-kept}
use Rattle.arrivals.specs.Rows.{Besides, FiguresPut}
use Rattle.arrivals.specs.Laws.Rows.{besides-then, besides-wide}
use Rattle.arrivals.specs.Inner.Chains.{Chain, by_place, by_cell, Chained, past_of, chained-kept}
use Rattle.arrivals.specs.Inner.Lent.{Linked}

-- the list is zeros
pub record Empty (net : List ℕ) : Type 0 where
  pub zero : (i : ℕ) → get_or net i 0 ≡ 0

-- the costs of waiting at the places below v
pub record WaitsTo (s : Sheet) (net : List ℕ) (v : ℕ) : Type 0 where
  pub each : (u : ℕ) → u < v → wait_in net u ≡ wait_of s u

pub record WaitsLaid (s : Sheet) (a b : List ℕ) : Type 0 where
  pub waits : WaitsTo s b (places s)
  pub others : Besides 0 192 a b

pub waits-more : (s : Sheet) (a b : List ℕ) (v : ℕ) (w : Cost) → v < 64 → w ≡ wait_at s (record { 0 = v }) → FiguresPut (v * 3) w a b → WaitsTo s a v → WaitsTo s b (v + 1)
unfolding wait_at
waits-more s a b v w l is p t =
    record {
      each = λ u m. ⊎_elim
          (λ lt. from u lt ∙ t.each u lt)
          (λ ge. let e : v ≡ u = omega arith in subst (λ (x : ℕ). wait_in b x ≡ wait_of s x) e (p.figures ∙ is))
          (lt-or-le u v);
    }
  where
    from : (u : ℕ) → u < v → wait_in b u ≡ wait_in a u
    from u m = from-same figures (u * 3) (u * 3) b a (λ j h. p.others.same (u * 3 + j) (inl (omega arith)))

-- n numbers of the list all, from number `from` on, stand in b from number `at` on, and else b is a
pub record Copied (from at n : ℕ) (all a b : List ℕ) : Type 0 where
  pub numbers : (i : ℕ) → i < n → get_or b (at + i) 0 ≡ get_or all (from + i) 0
  pub others : Besides at (at + n) a b

-- the numbers of the corridors
pub record LinksLaid (corridors a b : List ℕ) : Type 0 where
  pub numbers : (i : ℕ) → i < length corridors → get_or b (832 + i) 0 ≡ get_or corridors i 0
  pub others : Besides 832 2112 a b

-- the numbers of the closures
pub record ClosuresLaid (closures a b : List ℕ) : Type 0 where
  pub numbers : (i : ℕ) → i < length closures → get_or b (3716 + i) 0 ≡ get_or closures i 0
  pub others : Besides 3716 4484 a b

-- a network whose closures have cells
pub record Celled (net : List ℕ) : Type 0 where
  pub size : 4484 ≤ length net
  pub few : closures_of net ≤ 256
  pub places : (x : ℕ) → x < closures_of net → closure_of net 1 x < 64

-- nothing is chained yet
pub record Blank (k : Chain) (net : List ℕ) : Type 0 where
  pub zero : (i : ℕ) → k.first ≤ i → i < past_of k → get_or net i 0 ≡ 0

-- one item more is chained
pub record ChainedMore (k : Chain) (j : ℕ) (a b : List ℕ) : Type 0 where
  pub chained : Chained k b (j + 1)
  pub others : Besides k.first (past_of k) a b

-- the items below m are chained
pub record ChainLaid (k : Chain) (m : ℕ) (a b : List ℕ) : Type 0 where
  pub chained : Chained k b m
  pub others : Besides k.first (past_of k) a b

-- the places that the closures below m lead to
pub record NotedTo (net : List ℕ) (m : ℕ) : Type 0 where
  pub noted : (x : ℕ) → x < m → into_of net (closure_of net 1 x) ≡ 0 → ⊥

pub record NotedLaid (m : ℕ) (a b : List ℕ) : Type 0 where
  pub noted : NotedTo b m
  pub others : Besides 2116 2180 a b

-- what is noted stays so where other parts are changed
pub noted-kept : {a b : List ℕ} {m : ℕ} → m ≤ 256 → ((x : ℕ) → x < m → closure_of a 1 x < 64) → Besides 2180 2436 a b → NotedTo a m → NotedTo b m
noted-kept {a} {b} few inside o t =
    record {
      noted = λ x l z.
          let y = subst (λ (v : ℕ). into_of b v ≡ 0) (o.same (3716 + x * 3 + 1) (inr (omega arith))) z in
          t.noted x l (sym (o.same (2116 + closure_of a 1 x) (inl (omega (arith, inside x l)))) ∙ y);
    }

-- where waiting is dearer, for the corridors below m
pub record WeighedTo (net : List ℕ) (m : ℕ) : Type 0 where
  pub cheap : (j : ℕ) → j < m → dear_of net j ≡ 0 → Cheap (wait_in net) (link_at net j)

-- one corridor more is weighed
pub record WeighedMore (j : ℕ) (a b : List ℕ) : Type 0 where
  pub weighed : WeighedTo b (j + 1)
  pub others : Besides 2180 2436 a b

pub record Weighed (m : ℕ) (a b : List ℕ) : Type 0 where
  pub weighed : WeighedTo b m
  pub others : Besides 2180 2436 a b

cheap-kept : (a b : List ℕ) (j : ℕ) → link_of a 0 j < 64 → link_of a 1 j < 64 → j < 256 → Besides 2180 2436 a b → Cheap (wait_in a) (link_at a j) → Cheap (wait_in b) (link_at b j)
cheap-kept a b j from to few o c =
    let f : link_of a 0 j ≡ link_of b 0 j = sym (o.same (832 + j * 5 + 0) (inl (omega arith))) in
    let g : link_of a 1 j ≡ link_of b 1 j = sym (o.same (832 + j * 5 + 1) (inl (omega arith))) in
    let w = wait-kept (link_of a 1 j) to (omega arith) o in
    let x = wait-kept (link_of a 0 j) from (omega arith) o in
    subst (λ (u : ℕ). AtMost (wait_in b (link_of b 1 j)) (wait_in b u)) f (subst (λ (u : ℕ). AtMost (wait_in b u) (wait_in b (link_of a 0 j))) g
    (subst (λ (y : Cost). AtMost y (wait_in b (link_of a 0 j))) (sym w) (subst (AtMost (wait_in a (link_of a 1 j))) (sym x) c)))

pub dear-besides : (a : List ℕ) (j : ℕ) → j < 256 → Besides 2180 2436 a (set a (2180 + j) 1)
dear-besides a j few = record { size = length-set a (2180 + j) 1; same = λ i o. get_or-set_other a (2180 + j) i 1 0 (λ e. ⊎_elim (λ l. omega arith) (λ l. omega arith) o) }

pub weighed-dear : (a : List ℕ) (j : ℕ) → 4484 ≤ length a → j < 256 → ((q i : ℕ) → q < 2 → i ≤ j → link_of a q i < 64) → WeighedTo a j → WeighedTo (set a (2180 + j) 1) (j + 1)
weighed-dear a j size few ends w =
    record {
      cheap = λ i l z. ⊎_elim
          (λ lt. keep i lt (w.cheap i lt (sym (get_or-set_other a (2180 + j) (2180 + i) 1 0 (λ e. omega arith)) ∙ z)))
          (λ ge. absurd (let e : i ≡ j = omega arith in omega (arith, own, subst (λ (n : ℕ). dear_of b n ≡ 0) e z)))
          (lt-or-le i j);
    }
  where
    b : List ℕ
    b = set a (2180 + j) 1

    own : dear_of b j ≡ 1
    own = get_or-set_same a (2180 + j) 1 0 (omega arith)

    keep : (i : ℕ) → i < j → Cheap (wait_in a) (link_at a i) → Cheap (wait_in b) (link_at b i)
    keep i l c = cheap-kept a b i (ends 0 i (omega arith) (omega arith)) (ends 1 i (omega arith) (omega arith)) (omega arith) (dear-besides a j few) c

pub weighed-at : (net : List ℕ) (j : ℕ) → Linked net → j < count_of net → WeighedTo net j → WeighedMore j net (set net (2180 + j) 1)
weighed-at net j links l w =
    record {
      weighed = weighed-dear net j links.size (omega (arith, links.few)) (λ q i x y. links.ends q i x (omega arith)) w;
      others = dear-besides net j (omega (arith, links.few));
    }

-- the numbers of corridors, of places, the start and the number of closures
pub record Counted (m p s x : ℕ) (a b : List ℕ) : Type 0 where
  pub count : count_of b ≡ m
  pub places : places_of b ≡ p
  pub start : start_of b ≡ s
  pub closures : closures_of b ≡ x
  pub others : Besides 2112 2116 a b

-- the same for equal numbers
pub counted-as : {m p s x m' p' s' x' : ℕ} {a b : List ℕ} → m ≡ m' → p ≡ p' → s ≡ s' → x ≡ x' → Counted m p s x a b → Counted m' p' s' x' a b
counted-as e f g h c = record { count = c.count ∙ e; places = c.places ∙ f; start = c.start ∙ g; closures = c.closures ∙ h; others = c.others }

pub linked-kept : {lo hi : ℕ} {a b : List ℕ} → (hi ≤ 832) ⊎ (2113 ≤ lo) → Besides lo hi a b → Linked a → Linked b
linked-kept {lo} {hi} {a} {b} apart o l =
    record {
      size = omega (arith, o.size, l.size);
      few = omega (arith, count, l.few);
      ends = λ q j x y. omega (arith, o.same (832 + j * 5 + q) (out (832 + j * 5 + q) (omega arith) (omega (arith, count, l.few))), l.ends q j x (omega (arith, count)));
    }
  where
    out : (i : ℕ) → 832 ≤ i → i < 2113 → (i < lo) ⊎ (hi ≤ i)
    out i x y = ⊎_elim (λ h. inr (omega arith)) (λ h. inl (omega arith)) apart

    count : count_of b ≡ count_of a
    count = o.same 2112 (out 2112 (omega arith) (omega arith))

pub celled-kept : {lo hi : ℕ} {a b : List ℕ} → (hi ≤ 2115) ⊎ (2116 ≤ lo) → hi ≤ 3716 → Besides lo hi a b → Celled a → Celled b
celled-kept {lo} {hi} {a} {b} apart below o t =
    record {
      size = omega (arith, o.size, t.size);
      few = omega (arith, count, t.few);
      places = λ x l. omega (arith, o.same (3716 + x * 3 + 1) (inr (omega arith)), t.places x (omega (arith, count)));
    }
  where
    count : closures_of b ≡ closures_of a
    count = o.same 2115 (⊎_elim (λ h. inr (omega arith)) (λ h. inl (omega arith)) apart)

-- the network of the sheet s, whose corridors and closures have these numbers
pub record Laid (s : Sheet) (corridors shuts net : List ℕ) : Type 0 where
  pub size : 4484 ≤ length net
  pub waits : WaitsTo s net (places s)
  pub numbers : (i : ℕ) → i < length corridors → get_or net (832 + i) 0 ≡ get_or corridors i 0
  pub count : count_of net * 5 ≡ length corridors
  pub places : places_of net ≡ places s
  pub start : start_of net ≡ start s
  pub out : Chained (by_place 0) net (count_of net)
  pub into : Chained (by_place 1) net (count_of net)
  pub weighed : WeighedTo net (count_of net)
  pub closures : (i : ℕ) → i < length shuts → get_or net (3716 + i) 0 ≡ get_or shuts i 0
  pub closed : closures_of net * 3 ≡ length shuts
  pub cells : Chained by_cell net (closures_of net)
  pub noted : NotedTo net (closures_of net)

-- the corridors of a sheet with at most 64 places: so many whole lines, between places
pub record Corridors (s : Sheet) (corridors : List ℕ) (m : ℕ) : Type 0 where
  pub few-places : places s ≤ 64
  pub few : m ≤ 256
  pub whole : length corridors ≡ m * 5
  pub ends : (q j : ℕ) → q < 2 → j < m → get_or corridors (j * 5 + q) 0 < 64

-- the closures: so many whole lines, of ways to places
pub record Closures (closures : List ℕ) (m : ℕ) : Type 0 where
  pub few : m ≤ 256
  pub whole : length closures ≡ m * 3
  pub places : (x : ℕ) → x < m → get_or closures (x * 3 + 1) 0 < 64

-- the parts before the chains, laid one after another into zeros
pub record Parts (s : Sheet) (corridors closures : List ℕ) (m c : ℕ) (n0 n1 n2 n3 n4 : List ℕ) : Type 0 where
  pub able : Corridors s corridors m
  pub shut : Closures closures c
  pub size : 4484 ≤ length n0
  pub blank : Empty n0
  pub waits : WaitsLaid s n0 n1
  pub links : LinksLaid corridors n1 n2
  pub laid : ClosuresLaid closures n2 n3
  pub counts : Counted m (places s) (start s) c n3 n4

module _ {s : Sheet} {corridors closures : List ℕ} {m c : ℕ} {n0 n1 n2 n3 n4 : List ℕ} (p : Parts s corridors closures m c n0 n1 n2 n3 n4) where
  long : 4484 ≤ length n4
  long = omega (arith, p.size, p.waits.others.size, p.links.others.size, p.laid.others.size, p.counts.others.size)

  -- what closures and counts leave as it was
  early : (i : ℕ) → i < 2112 → get_or n4 i 0 ≡ get_or n2 i 0
  early i l = p.counts.others.same i (inl l) ∙ p.laid.others.same i (inl (omega arith))

  number_at : (i : ℕ) → i < length closures → get_or n4 (3716 + i) 0 ≡ get_or closures i 0
  number_at i l = p.counts.others.same (3716 + i) (inr (omega arith)) ∙ p.laid.numbers i l

  pub laid-linked : Linked n4
  laid-linked =
      record {
        size = long;
        few = omega (arith, p.counts.count, p.able.few);
        ends = λ q j x y.
            let e : 832 + j * 5 + q ≡ 832 + (j * 5 + q) = omega arith in
            let o = early (832 + j * 5 + q) (omega (arith, p.counts.count, p.able.few)) in
            let n = p.links.numbers (j * 5 + q) (omega (arith, p.counts.count, p.able.whole)) in
            omega (arith, o, ap (λ (i : ℕ). get_or n2 i 0) e, n, p.able.ends q j x (omega (arith, p.counts.count)));
      }

  pub laid-celled : Celled n4
  laid-celled =
      record {
        size = long;
        few = omega (arith, p.counts.closures, p.shut.few);
        places = λ x l.
            let e : 3716 + x * 3 + 1 ≡ 3716 + (x * 3 + 1) = omega arith in
            let o = number_at (x * 3 + 1) (omega (arith, p.counts.closures, p.shut.whole)) in
            omega (arith, ap (λ (i : ℕ). get_or n4 i 0) e, o, p.shut.places x (omega (arith, p.counts.closures)));
      }

  pub laid-blank : (i : ℕ) → 192 ≤ i → i < 832 → get_or n4 i 0 ≡ 0
  laid-blank i l m = early i (omega arith) ∙ p.links.others.same i (inl (omega arith)) ∙ p.waits.others.same i (inr l) ∙ p.blank.zero i

  pub laid-blank-cells : (i : ℕ) → 2436 ≤ i → i < 3716 → get_or n4 i 0 ≡ 0
  laid-blank-cells i l m =
      p.counts.others.same i (inr (omega arith)) ∙ p.laid.others.same i (inl (omega arith))
      ∙ p.links.others.same i (inr (omega arith)) ∙ p.waits.others.same i (inr (omega arith)) ∙ p.blank.zero i

  pub laid_of : (n5 n6 n7 n8 n9 : List ℕ) → ChainLaid (by_place 0) (count_of n4) n4 n5 → ChainLaid (by_place 1) (count_of n5) n5 n6
      → ChainLaid by_cell (closures_of n6) n6 n7 → NotedLaid (closures_of n7) n7 n8 → Weighed (count_of n8) n8 n9 → Laid s corridors closures n9
  laid_of n5 n6 n7 n8 n9 out into by notes weighed =
      record {
        size = omega (arith, long, out.others.size, into.others.size, by.others.size, notes.others.size, weighed.others.size);
        waits = record { each = λ u l. wait-kept u (omega (arith, p.able.few-places)) (omega arith) rest ∙ p.waits.waits.each u l };
        numbers = λ i l.
            last (832 + i) (omega arith) (omega (arith, p.able.few, p.able.whole))
            ∙ early (832 + i) (omega (arith, p.able.few, p.able.whole)) ∙ p.links.numbers i l;
        count = omega (arith, last 2112 (omega arith) (omega arith), p.counts.count, p.able.whole);
        places = last 2113 (omega arith) (omega arith) ∙ p.counts.places;
        start = last 2114 (omega arith) (omega arith) ∙ p.counts.start;
        out = subst (Chained (by_place 0) n9) (sym (last 2112 (omega arith) (omega arith)))
            (chained-kept (by_place 0) (count_of n4) few (inr (omega arith)) (λ j b. (inl (omega arith), inl (omega arith))) weighed.others
            (chained-kept (by_place 0) (count_of n4) few (inr (omega arith)) (λ j b. (inl (omega arith), inl (omega arith))) notes.others
            (chained-kept (by_place 0) (count_of n4) few (inr (omega arith)) (λ j b. (inl (omega arith), inl (omega arith))) by.others
            (chained-kept (by_place 0) (count_of n4) few (inr (omega arith)) (λ j b. (inr (omega arith), inr (omega arith))) into.others out.chained))));
        into = subst (Chained (by_place 1) n9) (sym (five 2112 (omega arith) (omega arith)))
            (chained-kept (by_place 1) (count_of n5) few5 (inr (omega arith)) (λ j b. (inl (omega arith), inl (omega arith))) weighed.others
            (chained-kept (by_place 1) (count_of n5) few5 (inr (omega arith)) (λ j b. (inl (omega arith), inl (omega arith))) notes.others
            (chained-kept (by_place 1) (count_of n5) few5 (inr (omega arith)) (λ j b. (inl (omega arith), inl (omega arith))) by.others into.chained)));
        weighed = subst (WeighedTo n9) (sym (weighed.others.same 2112 (inl (omega arith)))) weighed.weighed;
        closures = λ i l.
            weighed.others.same (3716 + i) (inr (omega arith)) ∙ notes.others.same (3716 + i) (inr (omega arith)) ∙ by.others.same (3716 + i) (inr (omega arith))
            ∙ into.others.same (3716 + i) (inr (omega arith)) ∙ out.others.same (3716 + i) (inr (omega arith)) ∙ number_at i l;
        closed = omega (arith, last 2115 (omega arith) (omega arith), p.counts.closures, p.shut.whole);
        cells = subst (Chained by_cell n9) (sym (weighed.others.same 2115 (inl (omega arith)) ∙ notes.others.same 2115 (inl (omega arith)) ∙ by.others.same 2115 (inl (omega arith))))
            (chained-kept by_cell (closures_of n6) few6 (inl (omega arith)) (λ j b. (inr (omega arith), inr (omega arith))) weighed.others
            (chained-kept by_cell (closures_of n6) few6 (inl (omega arith)) (λ j b. (inr (omega arith), inr (omega arith))) notes.others by.chained));
        noted = subst (NotedTo n9) (sym (weighed.others.same 2115 (inl (omega arith)) ∙ notes.others.same 2115 (inl (omega arith))))
            (noted-kept few7 (λ x l. omega (arith, notes.others.same (3716 + x * 3 + 1) (inr (omega arith)), celled7.places x l)) weighed.others notes.noted);
      }
    where
      five : (i : ℕ) → 832 ≤ i → i < 2116 → get_or n9 i 0 ≡ get_or n5 i 0
      five i l m = weighed.others.same i (inl (omega arith)) ∙ notes.others.same i (inl (omega arith)) ∙ by.others.same i (inl (omega arith)) ∙ into.others.same i (inr (omega arith))

      last : (i : ℕ) → 832 ≤ i → i < 2116 → get_or n9 i 0 ≡ get_or n4 i 0
      last i l m = five i l m ∙ out.others.same i (inr (omega arith))

      few : count_of n4 ≤ 256
      few = laid-linked.few

      few5 : count_of n5 ≤ 256
      few5 = omega (arith, out.others.same 2112 (inr (omega arith)), few)

      few6 : closures_of n6 ≤ 256
      few6 = omega (arith, into.others.same 2115 (inr (omega arith)), out.others.same 2115 (inr (omega arith)), laid-celled.few)

      celled7 : Celled n7
      celled7 = celled-kept (inr (omega arith)) (omega arith) by.others (celled-kept (inl (omega arith)) (omega arith) into.others (celled-kept (inl (omega arith)) (omega arith) out.others laid-celled))

      few7 : closures_of n7 ≤ 256
      few7 = celled7.few

      rest : Besides 192 4484 n1 n9
      rest =
          besides-then (besides-wide 192 4484 (omega arith) (omega arith) p.links.others)
          (besides-then (besides-wide 192 4484 (omega arith) (omega arith) p.laid.others)
          (besides-then (besides-wide 192 4484 (omega arith) (omega arith) p.counts.others)
          (besides-then (besides-wide 192 4484 (omega arith) (omega arith) out.others)
          (besides-then (besides-wide 192 4484 (omega arith) (omega arith) into.others)
          (besides-then (besides-wide 192 4484 (omega arith) (omega arith) by.others)
          (besides-then (besides-wide 192 4484 (omega arith) (omega arith) notes.others)
          (besides-wide 192 4484 (omega arith) (omega arith) weighed.others)))))))

-- the network of a sheet
abbrev pub LaidIn : Sheet → List ℕ → Type 0
LaidIn s net = Laid s (flat s.corridors) (flat s.closures) net
