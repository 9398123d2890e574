-- Where the line from a position on ends: the lines of what is left of a text go by what the search for the line feed finds.
-- A line that ends inside a text stays as it is, whatever may follow the text.
use Rattle.std.specs.Prelude.{◌≡◌, refl, ◌≢◌, ◌⊎◌, Bool, true, false, ℕ, suc, ◌+◌, ◌-◌, ◌≤◌, ◌<◌, leb, eqb, drop, Some, None, Ok, Err}
use Rattle.std.proofs.Common.{sym, ◌∙◌, subst, length-drop, drop-drop, leb-true, leb-false, le-leb, eq-eqb, ne_eqb}
use Rattle.std.proofs.Math.Path.{ap}
use Rattle.std.proofs.Math.Logic.{inl, inr, ⊎_elim}
use mathlib.Core.List.{List, [], ◌∷◌, ◌++◌}
use Rattle.std.proofs.Math.Option.{Option, none}
use native.Mathlib.Omega.{arith}
use Rattle.std.proofs.Math.ListN.{length, take, length-append, drop_of_length-le}
use Rattle.std.proofs.Math.Seq.{take_all}
use Rattle.std.proofs.lemmas.Bool.{eqb-false, lt-leb}
use Rattle.sheet.specs.Lists.{pick}
use Rattle.sheet.specs.Bytes.{kind_of, line_feed, onto, split}
use Rattle.sheet.specs.Kinds.{Kind}
use Rattle.sheet.specs.Lines.{Line, line_of, lines_of, text_lines}
use Rattle.sheet.specs.Inner.{span_of}
use Rattle.sheet.specs.LineEnds.{LineEnd, feed_from, line_end_at, EndIs}
use Rattle.sheet.specs.declared.refusal.Refusal.TheVariants.{Malformed}
use Rattle.sheet.specs.Laws.LineText.{part_then}
use Rattle.sheet.specs.Laws.Parts.{span-le, parts_none, parts-here, split_step}

unended : (most : ℕ) (ks : List Kind) (s : List ℕ) → 1 ≤ length s → lines_of most ks (s ∷ []) ≡ none ∷ []
unfolding lines_of
unended most ks [] h = absurd (omega arith)
unended most ks (b ∷ s) h = refl

module _ (most : ℕ) (ks : List Kind) where
  -- the first line of a text, up to its line feed, and the lines after it
  text-line : (s : List ℕ) → span_of line_feed s < length s
      → text_lines most ks s ≡ line_of most ks (take (span_of line_feed s) s) ∷ text_lines most ks (drop (suc (span_of line_feed s)) s)
  unfolding text_lines lines_of
  text-line s h =
      let p = take (span_of line_feed s) s in
      let r = split_step line_feed (drop (suc (span_of line_feed s)) s) in
      rw (split_step line_feed s, parts-here line_feed (suc (span_of line_feed s)) s h)
      (ap (λ (ps : List (List ℕ)). lines_of most ks (p ∷ ps)) r ∙ ap (λ (ps : List (List ℕ)). line_of most ks p ∷ lines_of most ks ps) (sym r))

  -- a last line without a line feed
  text-cut : (s : List ℕ) → 1 ≤ length s → span_of line_feed s ≡ length s → text_lines most ks s ≡ none ∷ []
  unfolding text_lines lines_of
  text-cut s h e =
      let l : length s ≤ span_of line_feed s = omega arith in
      rw (split_step line_feed s, parts_none line_feed (suc (span_of line_feed s)) s (omega arith), take_all (span_of line_feed s) s l) (unended most ks s h)

  -- nothing is left of a text
  pub text-over : (src : List ℕ) (at : ℕ) → length src ≤ at → text_lines most ks (drop at src) ≡ []
  unfolding text_lines lines_of split
  text-over src at h = rw drop_of_length-le

-- what an answer says of the position
abbrev inside : List ℕ → ℕ → LineEnd → Type 0
inside src at (Ok (Some e)) = (at ≤ e) × (e < length src)
inside src at (Ok None) = length src ≤ at
inside src at (Err k) = (at < length src) × (k ≡ Malformed)

pub end-inside : (src : List ℕ) (at : ℕ) (r : LineEnd) → r ≡ line_end_at src at → inside src at r
end-inside src at r e = subst (inside src at) (sym e) (go (leb (length src) at) refl (eqb (feed_from src at) (length src)) refl)
  where
    go : (o : Bool) → leb (length src) at ≡ o → (m : Bool) → eqb (feed_from src at) (length src) ≡ m → inside src at (pick o (Ok None) (pick m (Err Malformed) (Ok (Some (feed_from src at)))))
    go true o m n = leb-true (length src) at o
    go false o true n = (leb-false (length src) at o, refl)
    go false o false n =
        let h = leb-false (length src) at o in
        let f = eqb-false (feed_from src at) (length src) n in
        (omega arith, omega (arith, h, f, span-le line_feed (drop at src), length-drop at src))

-- the three answers, by what is found
module _ (src : List ℕ) (at : ℕ) where
  pub finds-over : length src ≤ at → EndIs src at (Ok None)
  finds-over h = record { found = rw (le-leb (length src) at h); lines = λ most ks. text-over most ks src at h }

  module _ (h : at < length src) (e : ℕ) (d : e ≡ feed_from src at) where
    pub finds-missing : e ≡ length src → EndIs src at (Err Malformed)
    finds-missing q =
        record {
          found = rw (lt-leb (length src) at h, eq-eqb (feed_from src at) (length src) (sym d ∙ q));
          lines = λ most ks. text-cut most ks (drop at src) (omega (arith, length-drop at src)) (omega (arith, length-drop at src));
        }

    pub finds-feed : e ≢ length src → EndIs src at (Ok (Some e))
    finds-feed q =
        let n : span_of line_feed (drop at src) ≡ e - at = omega arith in
        let m : at + suc (span_of line_feed (drop at src)) ≡ e + 1 = omega arith in
        let l : span_of line_feed (drop at src) < length (drop at src) = omega (arith, span-le line_feed (drop at src), length-drop at src) in
        record {
          found = rw (lt-leb (length src) at h, ne_eqb (feed_from src at) (length src) (λ z. q (d ∙ z))) (ap (λ (x : ℕ). Ok (Some x)) d);
          lines = λ most ks. text-line most ks (drop at src) l ∙ rw (drop-drop (suc (span_of line_feed (drop at src))) at src, m, n);
        }

-- the parts of a text b, by what may follow it: the first is p and ends inside b, and t is what is left of b; or it holds all of b
abbrev Front : ℕ → List ℕ → (List ℕ → List (List ℕ)) → Type 0
Front k b parts =
    ((p t : List ℕ) × (length b ≡ length p + suc (length t)) × ((r : List ℕ) → parts r ≡ p ∷ split k (t ++ r)))
    ⊎ ((r : List ℕ) → (q : List ℕ) × (ps : List (List ℕ)) × (parts r ≡ (b ++ q) ∷ ps))

split-front : (k : ℕ) (b : List ℕ) → Front k b (λ r. split k (b ++ r))
unfolding split
split-front k [] = inr (λ r. (_, _, split_step k r))
split-front k (x ∷ b) = go (eqb (kind_of x) k) (split-front k b)
  where
    go : (o : Bool) → Front k b (λ r. split k (b ++ r)) → Front k (x ∷ b) (λ r. pick o ([] ∷ split k (b ++ r)) (onto x (split k (b ++ r))))
    go true s = inl ([], b, omega arith, λ r. refl)
    go false (inl s) = inl (x ∷ s.0, s.1, omega (arith, s.2), λ r. ap (onto x) (s.3 r))
    go false (inr f) = inr (λ r. ((f r).0, (f r).1, ap (onto x) (f r).2))

-- texts that more may follow
module _ (most : ℕ) (ks : List Kind) where
  -- whatever may follow, the text b begins with the line p and its line feed, and goes on with t
  pub record Begins (b p t : List ℕ) : Type 0 where
    pub longer : length b ≡ length p + suc (length t)
    pub lines : (r : List ℕ) → text_lines most ks (b ++ r) ≡ line_of most ks p ∷ text_lines most ks (t ++ r)

  -- whatever may follow, test 2 refuses the first line
  pub record Refused (b : List ℕ) : Type 0 where
    pub lines : (r : List ℕ) → (ls : List (Option Line)) × (text_lines most ks (b ++ r) ≡ none ∷ ls)

  -- a text that no line begins with: its first line ends inside it, or is refused
  pub text-front : (b : List ℕ) → 1 ≤ length b → ((q : List ℕ) → line_of most ks (b ++ q) ≡ none) → ((p t : List ℕ) × Begins b p t) ⊎ Refused b
  unfolding text_lines lines_of
  text-front b h n =
      ⊎_elim
      (λ s. inl (s.0, s.1, record { longer = s.2; lines = λ r. ap (lines_of most ks) (s.3 r) ∙ part_then most ks s.0 (s.1 ++ r) }))
      (λ f. inr (record { lines = λ r. let l = past (f r).0 (f r).1 in (l.0, ap (lines_of most ks) (f r).2 ∙ l.1) }))
      (split-front line_feed b)
    where
      past : (q : List ℕ) (ps : List (List ℕ)) → (ls : List (Option Line)) × (lines_of most ks ((b ++ q) ∷ ps) ≡ none ∷ ls)
      past q [] = ([], unended most ks (b ++ q) (omega (arith, length-append b q)))
      past q (p ∷ ps) = (lines_of most ks (p ∷ ps), ap (λ (o : Option Line). o ∷ lines_of most ks (p ∷ ps)) (n q))
