-- The least cost of entering a place at a step that no row leads, found by a scan over corridors and rows.
use Rattle.std.specs.Prelude.{◌≡◌, refl, List, [], ◌∷◌, Bool, true, false, ◌⊎◌, ℕ, ◌+◌, ◌*◌, ◌≤◌, ◌<◌, length, Option, Some, None}
use Rattle.std.proofs.Common.{sym, ◌∙◌, subst, inl, inr, ⊎_elim, arith}
use Rattle.sheet.specs.Lists.{Lex}
use Rattle.sheet.specs.Laws.Order.{split, Lex-irrefl}
use Rattle.sheet.specs.Laws.Decided.{false-not-true, Any, any-cons, here, there, any-nil}
use Rattle.costs.specs.Costs.{Cost}
use Rattle.costs.specs.Laws.Figures.{Lex-asym}
use Rattle.arrivals.specs.Rows.{Row, row_at}
use Rattle.arrivals.specs.Inner.Facts.{not-Lex-trans}
use Rattle.arrivals.specs.Inner.Rows.{rows_of, count-rows}
use Rattle.arrivals.specs.Inner.Network.{Case, Link, Legal}
use Rattle.arrivals.specs.Inner.Entering.{Enters, LedAt, Stands, Open, led-lead, lead-led}
use Rattle.arrivals.specs.Inner.Filling.{Filled, Filling, filling-more, filled-place, Crowded}
use Rattle.arrivals.specs.Inner.Pruning.{Tried}
use Rattle.arrivals.specs.declared.network.Here.{Here}
use Rattle.arrivals.specs.declared.network.Source.{Source}

-- the least cost found so far, if there is one
pub record Next : Type 0 where
  pub found : Bool
  pub cost : Cost

abbrev pub next_of : Option Cost → Next
next_of (Some g) = record { found = true; cost = g }
next_of None = record { found = false; cost = [] }

-- r is the least of what b holds and of the costs of Q
pub record Improved (Q : Cost → Type 0) (b r : Next) : Type 0 where
  pub from : r.found ≡ true → ((b.found ≡ true) × (r.cost ≡ b.cost)) ⊎ Q r.cost
  pub kept : b.found ≡ true → (r.found ≡ true) × (Lex b.cost r.cost → ⊥)
  pub best : (g : Cost) → Q g → (r.found ≡ true) × (Lex g r.cost → ⊥)

-- r is the least cost of Q, and finds none where Q has none
pub record Least (Q : Cost → Type 0) (r : Next) : Type 0 where
  pub member : r.found ≡ true → Q r.cost
  pub best : (g : Cost) → Q g → (r.found ≡ true) × (Lex g r.cost → ⊥)

pub improved-skip : (Q : Cost → Type 0) (b : Next) → ((g : Cost) → Q g → ⊥) → Improved Q b b
improved-skip Q b h = record { from = λ e. inl (e, refl); kept = λ e. (e, Lex-irrefl b.cost); best = λ g q. absurd (h g q) }

pub improved-worse : (Q : Cost → Type 0) (b : Next) (g : Cost) → ((b.found ≡ true → Lex g b.cost) → ⊥) → ((h : Cost) → Q h → h ≡ g) → Improved Q b b
improved-worse Q b g n one =
    record {
      from = λ e. inl (e, refl);
      kept = λ e. (e, Lex-irrefl b.cost);
      best = λ h q. (⊎_elim (λ e. e) (λ e. absurd (n (λ f. absurd (false-not-true e f)))) (split b.found), λ p. n (λ e. subst (λ (x : Cost). Lex x b.cost) (one h q) p));
    }

pub improved-better : (Q : Cost → Type 0) (b : Next) (g : Cost) → (b.found ≡ true → Lex g b.cost) → Q g → ((h : Cost) → Q h → h ≡ g) → Improved Q b (record { found = true; cost = g })
improved-better Q b g before q one =
    record {
      from = λ e. inr q;
      kept = λ e. (refl, Lex-asym g b.cost (before e));
      best = λ h r. (refl, λ p. Lex-irrefl g (subst (λ (x : Cost). Lex x g) (one h r) p));
    }

pub improved-as : (P Q : Cost → Type 0) (b r : Next) → ((g : Cost) → P g → Q g) → ((g : Cost) → Q g → P g) → Improved P b r → Improved Q b r
improved-as P Q b r f h i = record { from = λ e. ⊎_elim (λ w. inl w) (λ p. inr (f r.cost p)) (i.from e); kept = i.kept; best = λ g q. i.best g (h g q) }

pub least-of : (Q : Cost → Type 0) (b r : Next) → b.found ≡ false → Improved Q b r → Least Q r
least-of Q b r none i = record { member = λ e. ⊎_elim (λ w. absurd (false-not-true none w.0)) (λ q. q) (i.from e); best = i.best }

-- a scan over a list that grows by one member at a time
module _ {A : Type 0} (R : Cost → A → Type 0) (U : Cost → Type 0) (at : ℕ → A) (below : ℕ → List A) where
  abbrev pub Scan : ℕ → Cost → Type 0
  Scan n g = Any (R g) (below n) × U g

  pub scan-none : below 0 ≡ [] → (b : Next) → Improved (Scan 0) b b
  scan-none e b = improved-skip (Scan 0) b (λ g q. any-nil (subst (Any (R g)) e q.0))

  pub scan-end : (n k : ℕ) (b r : Next) → k ≤ n → n ≤ k → Improved (Scan k) b r → Improved (Scan n) b r
  scan-end n k b r l m i = subst (λ (j : ℕ). Improved (Scan j) b r) (omega arith) i

  pub scan-more : (n : ℕ) → below (n + 1) ≡ at n ∷ below n → (b m r : Next) → Improved (Scan n) b m → Improved (λ g. R g (at n) × U g) m r → Improved (Scan (n + 1)) b r
  scan-more n more b m r i j =
      record {
        from = λ e. ⊎_elim (λ w. ⊎_elim (λ z. inl (z.0, w.1 ∙ z.1)) (λ q. inr (old r.cost (subst (Scan n) (sym w.1) q))) (i.from w.0)) (λ q. inr (new r.cost q)) (j.from e);
        kept = λ e. let x = i.kept e in let y = j.kept x.0 in (y.0, not-Lex-trans b.cost m.cost r.cost x.1 y.1);
        best = λ g q. ⊎_elim (λ p. j.best g (p, q.1)) (λ a. let x = i.best g (a, q.1) in let y = j.kept x.0 in (y.0, not-Lex-trans g m.cost r.cost x.1 y.1)) (any-cons (subst (Any (R g)) more q.0));
      }
    where
      old : (g : Cost) → Scan n g → Scan (n + 1) g
      old g q = (subst (Any (R g)) (sym more) (there q.0), q.1)

      new : (g : Cost) → R g (at n) × U g → Scan (n + 1) g
      new g q = (subst (Any (R g)) (sym more) (here q.0), q.1)

-- what a scan for the next row finds at h
abbrev pub Scanned : Case → List Row → Here → Cost → Type 0
Scanned k rs h g = Any (Enters k rs h.place.0 h.step.0 g) k.links × (LedAt rs h g → ⊥)

-- the costs that are tried from row k of a table, from its rows and over a corridor, that no row leads
abbrev pub RowTried : List ℕ → ℕ → ℕ → Source → Here → Cost → Type 0
RowTried xs n k o h g = Tried o h.step.0 g (row_at xs k) × (LedAt (rows_of xs n) h g → ⊥)

abbrev pub RowsTried : List ℕ → ℕ → Source → Here → Cost → Type 0
RowsTried xs n o h g = Any (Tried o h.step.0 g) (rows_of xs n) × (LedAt (rows_of xs n) h g → ⊥)

abbrev pub LinkTried : Case → Link → List ℕ → ℕ → Here → Cost → Type 0
LinkTried k l xs n h g = Enters k (rows_of xs n) h.place.0 h.step.0 g l × (LedAt (rows_of xs n) h g → ⊥)

module _ (k : Case) (rs : List Row) (h : Here) (st : Stands k h) where
  open_of : (g : Cost) → Scanned k rs h g → Open k rs h.place.0 h.step.0 g
  open_of g s = record { cand = record { over = s.0 }; unled = λ l. s.1 (lead-led h st l) }

  open-to : (g : Cost) → Open k rs h.place.0 h.step.0 g → Scanned k rs h g
  open-to g o = (o.cand.over, λ l. o.unled (led-lead h st l))

  pub next_more : (r : Next) → Legal k → Filling k rs h.step.0 h.place.0 → Least (Scanned k rs h) r → r.found ≡ true → Filling k (record { place = h.place.0; step = h.step.0; cost = r.cost } ∷ rs) h.step.0 h.place.0
  next_more r legal f l e =
      filling-more k rs h.step.0 h.place.0 r.cost legal st.first st.inside st.vacant f (open_of r.cost (l.member e)) (λ g o. (l.best g (open-to g o)).1)

  pub next-stop : (r : Next) → Filling k rs h.step.0 h.place.0 → Least (Scanned k rs h) r → r.found ≡ false → Filled k rs h.step.0 (h.place.0 + 1)
  next-stop r f l e = filled-place k rs h.step.0 h.place.0 f (λ g o. false-not-true e (l.best g (open-to g o)).0)

pub crowded-next : (k : Case) (xs : List ℕ) (n : ℕ) (h : Here) → Stands k h → (r : Next) → Legal k → Filling k (rows_of xs n) h.step.0 h.place.0
    → Least (Scanned k (rows_of xs n) h) r → r.found ≡ true → length xs < n * 5 + 5 → Crowded k (length xs) h.step.0 (h.place.0 + 1)
crowded-next k xs n h st r legal f l e full =
    record {
      rows = record { place = h.place.0; step = h.step.0; cost = r.cost } ∷ rows_of xs n;
      step = h.step.0;
      place = h.place.0;
      filling = next_more k (rows_of xs n) h st r legal f l e;
      before = inr (refl, omega arith);
      more = omega (arith, count-rows xs n);
    }
