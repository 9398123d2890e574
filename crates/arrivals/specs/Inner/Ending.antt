-- The table that a search leaves: all rows and then zeros, or zeros alone where there is no room. That this is the table of the leading arrivals is in
-- proofs/Ending.antt.
use Rattle.std.specs.Prelude.{◌≡◌, Bool, true, false, ℕ, ◌+◌, ◌*◌, ◌-◌, ◌≤◌, ◌<◌, get_or}
use Rattle.std.proofs.Math.Path.{refl, ap}
use Rattle.std.proofs.Common.{◌∙◌, subst, arith, length-take-le, get_or-take, get_or-append-add}
use mathlib.Core.List.{List, ◌++◌}
use Rattle.std.proofs.Math.ListN.{length, take, replicate, get_or-append}
use Rattle.sheet.specs.Laws.Decided.{false-not-true}
use Rattle.arrivals.specs.Inner.Rows.{rows_of, rows-kept, zeros-at}
use Rattle.arrivals.specs.Inner.Network.{Case}
use Rattle.arrivals.specs.Inner.Filling.{Filled, filled-as, Crowded}
use Rattle.arrivals.specs.Inner.Outcomes.{Outcome}

-- what the whole search leaves in a table of the given length: all rows before step t, and zeros; or zeros alone, where there is no room
pub record Search (k : Case) (t size : ℕ) (xs : List ℕ) (ok : Bool) (n : ℕ) : Type 0 where
  pub same : length xs ≡ size
  pub room : n * 5 ≤ size
  pub done : ok ≡ true → Filled k (rows_of xs n) t 0
  pub rest : (j : ℕ) → n * 5 ≤ j → get_or xs j 0 ≡ 0
  pub full : ok ≡ false → (n ≡ 0) × Crowded k size t 0

abbrev pub Ends : Case → ℕ → ℕ → List ℕ → Outcome → Type 0
Ends k last size xs o = Search k (last + 1) size xs o.ok o.rows

pub ends_as : {k : Case} {m n size rows : ℕ} {xs : List ℕ} {ok : Bool} → m ≡ n → Search k (m + 1) size xs ok rows → Search k (n + 1) size xs ok rows
ends_as {k} {m} {n} {size} {rows} {xs} {ok} e h = subst (λ (i : ℕ). Search k (i + 1) size xs ok rows) e h

-- zeros after the rows

module _ (xs : List ℕ) (a b : ℕ) (fits : a ≤ length xs) where
  pub cut_below : (j : ℕ) → j < a → get_or (take a xs ++ replicate b 0) j 0 ≡ get_or xs j 0
  cut_below j l = get_or-append (take a xs) (replicate b 0) 0 j (omega (arith, length-take-le a xs fits)) ∙ get_or-take a xs j 0 l

  pub cut-past : (j : ℕ) → a ≤ j → get_or (take a xs ++ replicate b 0) j 0 ≡ 0
  cut-past j l =
      ap (λ (i : ℕ). get_or (take a xs ++ replicate b 0) i 0) (omega (arith, length-take-le a xs fits)) ∙ get_or-append-add (take a xs) (replicate b 0) (j - a) 0 ∙ zeros-at b (j - a)

pub search-ok : (k : Case) (t size : ℕ) (xs ys : List ℕ) (n : ℕ) → length ys ≡ size → n * 5 ≤ size → n * 5 ≤ length xs → Filled k (rows_of xs n) t 0 → ys ≡ take (n * 5) xs ++ replicate (length xs - n * 5) 0 → Search k t size ys true n
search-ok k t size xs ys n same wide l f e =
    record {
      same = same;
      room = wide;
      done = λ _. filled-as (rows-kept xs ys n (λ j m. ap (λ (z : List ℕ). get_or z j 0) e ∙ cut_below xs (n * 5) (length xs - n * 5) l j m)) f;
      rest = λ j m. ap (λ (z : List ℕ). get_or z j 0) e ∙ cut-past xs (n * 5) (length xs - n * 5) l j m;
      full = λ z. absurd (false-not-true z refl);
    }

pub search-full : (k : Case) (t size : ℕ) (ys : List ℕ) (m : ℕ) → length ys ≡ size → ys ≡ replicate m 0 → Crowded k size t 0 → Search k t size ys false 0
search-full k t size ys m same e c =
    record { same = same; room = omega arith; done = λ z. absurd (false-not-true refl z); rest = λ j l. ap (λ (z : List ℕ). get_or z j 0) e ∙ zeros-at m j; full = λ z. (refl, c) }
