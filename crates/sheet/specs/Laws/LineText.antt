-- Lines, written and read, for any most digits of a number and any kinds of lines that are told apart by their letters: the text of a line reads
-- as the line, and what was read as a line is its text; so for the lines of a whole text.
-- The parts between separators, joined by the separator again, are the text, and no part holds a separator.
use Rattle.std.proofs.Math.Path.{◌≡◌, refl, sym, ap, ap₂, subst}
use Rattle.std.proofs.Common.{◌∙◌, inl, inr, arith, eq-eqb, ne_eqb, eqb-true}
use Rattle.std.specs.Prelude.{◌⊎◌, Bool, not, ◌&&◌, length}
use Rattle.std.proofs.Math.Logic.{⊎_elim}
use Rattle.std.proofs.Math.Bool.{true, false}
use mathlib.Core.List.{List, [], ◌∷◌, ◌++◌, append_assoc, append-nil, map}
use Rattle.std.proofs.Math.Option.{Option, some, none}
use Prim.Native.Nat.{ℕ, zero, suc, ◌+◌, ◌/◌, ◌%◌, ◌^◌, ◌≤◌, ◌<◌}
use Rattle.std.proofs.Math.Dec.{eqb}
use Rattle.std.proofs.lemmas.Bool.{eqb-false, not-true}
use Rattle.sheet.specs.Lists.{pick, ◌then◌, ◌∈◌, all, bind}
use Rattle.sheet.specs.Bytes.{kind_of, digit, comma, line_feed, letter, onto, split}
use Rattle.sheet.specs.Decimal.{number_of, digits_of}
use Rattle.sheet.specs.Kinds.{Kind, width, kinds}
use Rattle.sheet.specs.Lines.{Line, line, with_letter, numbers_of, of_fields, line_of, lines_of, text_lines}
use Rattle.sheet.specs.Text.{number_text, printed, line_text}
use Rattle.sheet.specs.Laws.Order.{and-true}
use Rattle.sheet.specs.Laws.Members.{mem-append, bind-mem, all_true}
use Rattle.sheet.specs.Laws.Shape.{ShapedIn, AllShapedIn}
use Rattle.sheet.specs.Laws.Decimal.{kind-comma, kind-feed, digit-kind, comma-byte, feed-byte, below_or_not, digits-small, digits_more, write_read, read-write, read_below}

-- every number of the line has at most so many digits
abbrev pub Small : ℕ → Line → Type 0
Small most l = (n : ℕ) → n ∈ l.numbers → n < 10 ^ most

-- the text of a line without its line feed
abbrev pub line_bytes : ℕ → Line → List ℕ
line_bytes most l = l.kind.letter ∷ bind l.numbers (number_text most)

-- each kind is found by its letter, and the letter is one
pub record Lettered (ks : List Kind) : Type 0 where
  pub found : (k : Kind) → k ∈ ks → with_letter k.letter ks ≡ some k
  pub letters : (k : Kind) → k ∈ ks → kind_of k.letter ≡ letter

-- no byte of the list is of the kind k
abbrev pub Without : ℕ → List ℕ → Type 0
Without k a = (x : ℕ) → x ∈ a → kind_of x ≡ k → ⊥

pub without : (k : ℕ) (a : List ℕ) → all (λ x. not (eqb (kind_of x) k)) a ≡ true → Without k a
without k a h x m e = eqb-false (kind_of x) k (not-true (eqb (kind_of x) k) (all_true (λ y. not (eqb (kind_of y) k)) a h x m)) e

-- parts, joined by the byte s
abbrev joined : ℕ → List (List ℕ) → List ℕ
joined s [] = []
joined s (p ∷ ps) = p ++ bind ps (λ q. s ∷ q)

-- a part without the separator, before a separator; and as the last part
module _ (k : ℕ) where
  split-part : (a : List ℕ) (s : ℕ) (b : List ℕ) → Without k a → kind_of s ≡ k → split k (a ++ (s ∷ b)) ≡ a ∷ split k b
  unfolding split
  split-part [] s b h e = rw (eq-eqb (kind_of s) k e)
  split-part (x ∷ a) s b h e = rw (ne_eqb (kind_of x) k (h x (inl refl)), split-part a s b (λ y m. h y (inr m)) e)

  split-last : (a : List ℕ) → Without k a → split k a ≡ a ∷ []
  unfolding split
  split-last [] h = refl
  split-last (x ∷ a) h = rw (ne_eqb (kind_of x) k (h x (inl refl)), split-last a (λ y m. h y (inr m)))

  -- there is always a part
  split-some : (l : List ℕ) → (p : List ℕ) × (ps : List (List ℕ)) × (split k l ≡ p ∷ ps)
  unfolding split
  split-some [] = ([], [], refl)
  split-some (b ∷ l) = go (eqb (kind_of b) k) (split-some l)
    where
      go : (t : Bool) → (p : List ℕ) × (ps : List (List ℕ)) × (split k l ≡ p ∷ ps)
          → (p : List ℕ) × (ps : List (List ℕ)) × (pick t ([] ∷ split k l) (onto b (split k l)) ≡ p ∷ ps)
      go true r = ([], split k l, refl)
      go false r = (b ∷ r.0, r.1, ap (onto b) r.2)

  -- the parts joined are the text, where one byte alone is of the kind
  split-joined : (s : ℕ) → ((b : ℕ) → kind_of b ≡ k → b ≡ s) → (l : List ℕ) → joined s (split k l) ≡ l
  unfolding split
  split-joined s f [] = refl
  split-joined s f (b ∷ l) = go (eqb (kind_of b) k) refl (split-some l) (split-joined s f l)
    where
      go : (t : Bool) → eqb (kind_of b) k ≡ t → (p : List ℕ) × (ps : List (List ℕ)) × (split k l ≡ p ∷ ps) → joined s (split k l) ≡ l
          → joined s (pick t ([] ∷ split k l) (onto b (split k l))) ≡ b ∷ l
      go true q r h = rw (r.2, f b (eqb-true (kind_of b) k q)) (ap (λ (x : List ℕ). s ∷ x) (rw r.2 at h))
      go false q r h = rw r.2 (ap (λ (x : List ℕ). b ∷ x) (rw r.2 at h))

-- what is written of a number is a comma and digits
digits-kind : (k n x : ℕ) → x ∈ digits_of k n → kind_of x ≡ digit
unfolding digits_of
digits-kind zero n x m = absurd m
digits-kind (suc k) n x m =
    ⊎_elim
    (λ l. one (48 + n) (omega arith) (omega arith) (rw (digits-small k n l) at m))
    (λ g. ⊎_elim (digits-kind k (n / 10) x) (one (48 + n % 10) (omega arith) (omega arith)) (mem-append x (digits_of k (n / 10)) ((48 + n % 10) ∷ []) (rw (digits_more k n g) at m)))
    (below_or_not n 10)
  where
    one : (b : ℕ) → 48 ≤ b → b ≤ 57 → x ∈ (b ∷ []) → kind_of x ≡ digit
    one b l h (inl e) = ap kind_of e ∙ digit-kind b l h
    one b l h (inr m) = absurd m

text-kind : (most n x : ℕ) → x ∈ number_text most n → (kind_of x ≡ comma) ⊎ (kind_of x ≡ digit)
unfolding number_text
text-kind most n x (inl e) = inl (ap kind_of e ∙ kind-comma)
text-kind most n x (inr m) = inr (digits-kind most n x m)

no-comma : (k n : ℕ) → Without comma (digits_of k n)
no-comma k n x m e = omega (arith, digits-kind k n x m)

-- the fields of written numbers, after a first field
fields-text : (most : ℕ) (a ns : List ℕ) → Without comma a → split comma (a ++ bind ns (number_text most)) ≡ a ∷ map (digits_of most) ns
unfolding number_text
fields-text most a [] h = rw append-nil (split-last comma a h)
fields-text most a (n ∷ ns) h =
    split-part comma a 44 (digits_of most n ++ bind ns (number_text most)) h kind-comma
    ∙ ap (λ (l : List (List ℕ)). a ∷ l) (fields-text most (digits_of most n) ns (no-comma most n))

-- the letters of these kinds differ
abbrev pub apart : List Kind → Bool
apart [] = true
apart (k ∷ ks) = let r = apart ks in all (λ j. not (eqb k.letter j.letter)) ks && r

apart-found : (ks : List Kind) → apart ks ≡ true → (k : Kind) → k ∈ ks → with_letter k.letter ks ≡ some k
apart-found [] h k m = absurd m
apart-found (j ∷ ks) h k (inl e) = rw (e, eq-eqb j.letter j.letter refl)
apart-found (j ∷ ks) h k (inr m) =
    let r = and-true (all (λ i. not (eqb j.letter i.letter)) ks) (apart ks) h in
    let d = all_true (λ i. not (eqb j.letter i.letter)) ks r.0 k m in
    rw (not-true (eqb j.letter k.letter) d) (apart-found ks r.1 k m)

pub lettered : (ks : List Kind) → apart ks && all (λ k. eqb (kind_of k.letter) letter) ks ≡ true → Lettered ks
lettered ks h =
    let r = and-true (apart ks) (all (λ k. eqb (kind_of k.letter) letter) ks) h in
    record {
      found = apart-found ks r.0;
      letters = λ k m. eqb-true (kind_of k.letter) letter (all_true (λ k. eqb (kind_of k.letter) letter) ks r.1 k m);
    }

-- the kinds of lines of a sheet
pub sheet-letters : Lettered kinds
unfolding kind_of
sheet-letters = lettered kinds refl

letter-unread : (c : ℕ) (ks : List Kind) (k : Kind) → with_letter c ks ≡ some k → (k ∈ ks) × (k.letter ≡ c)
letter-unread c [] k e = let z : ◌≡◌ {A = ℕ} 0 1 = cc in absurd (omega arith)
letter-unread c (j ∷ ks) k e = go (eqb j.letter c) refl (letter-unread c ks k) e
  where
    go : (t : Bool) → eqb j.letter c ≡ t → (with_letter c ks ≡ some k → (k ∈ ks) × (k.letter ≡ c)) → pick t (some j) (with_letter c ks) ≡ some k → (k ∈ (j ∷ ks)) × (k.letter ≡ c)
    go true q f e =
        let z : k ≡ j = cc in
        (inl z, ap (λ (i : Kind). i.letter) z ∙ eqb-true j.letter c q)
    go false q f e = (inr (f e).0, (f e).1)

-- a value that is made of one that is there
then_some : {A B : Type 0} (o : Option A) (f : A → Option B) (b : B) → o then f ≡ some b → (a : A) × (o ≡ some a) × (f a ≡ some b)
then_some none f b e = let z : ◌≡◌ {A = ℕ} 0 1 = cc in absurd (omega arith)
then_some (some a) f b e = (a, refl, e)

module _ (most : ℕ) (ks : List Kind) where
  -- a part and its line feed, and what follows
  pub part_then : (p b : List ℕ) → lines_of most ks (p ∷ split line_feed b) ≡ line_of most ks p ∷ text_lines most ks b
  unfolding text_lines lines_of
  part_then p b = let r = split-some line_feed b in rw r.2

  pub text-then : (p b : List ℕ) → Without line_feed p → text_lines most ks (p ++ (10 ∷ b)) ≡ line_of most ks p ∷ text_lines most ks b
  unfolding text_lines
  text-then p b h = ap (lines_of most ks) (split-part line_feed p 10 b h kind-feed) ∙ part_then p b

  -- written, then read
  module _ (p : 1 ≤ most) (t : Lettered ks) where
    numbers-text : (ns : List ℕ) → ((n : ℕ) → n ∈ ns → n < 10 ^ most) → numbers_of most (length ns) (map (digits_of most) ns) ≡ some ns
    unfolding numbers_of
    numbers-text [] h = refl
    numbers-text (n ∷ ns) h = rw (write_read most n p (h n (inl refl)), numbers-text ns (λ m i. h m (inr i)))

    -- the text of a line, without its line feed, reads as the line
    pub line-back : (l : Line) → ShapedIn ks l → Small most l → line_of most ks (line_bytes most l) ≡ some l
    unfolding line_of of_fields
    line-back l s h =
        rw (fields-text most (l.kind.letter ∷ []) l.numbers only-letter, t.found l.kind s.known, sym s.count, numbers-text l.numbers h)
      where
        only-letter : Without comma (l.kind.letter ∷ [])
        only-letter x (inl e) q = omega (arith, t.letters l.kind s.known, ap kind_of e)
        only-letter x (inr m) q = m

    -- no line feed inside a line
    no-feed : (l : Line) → ShapedIn ks l → Without line_feed (line_bytes most l)
    no-feed l s x (inl e) q = omega (arith, t.letters l.kind s.known, ap kind_of e)
    no-feed l s x (inr m) q =
        let r = bind-mem (number_text most) x l.numbers m in
        ⊎_elim {C = ⊥} (λ c. omega arith) (λ d. omega arith) (text-kind most r.0 x r.2)

    -- a line's text, and lines after it
    line-then : (l : Line) → ShapedIn ks l → (b : List ℕ) → text_lines most ks (line_text most l ++ b) ≡ line_of most ks (line_bytes most l) ∷ text_lines most ks b
    unfolding line_text printed
    line-then l s b = ap (text_lines most ks) (append_assoc (line_bytes most l) (10 ∷ []) b) ∙ text-then (line_bytes most l) b (no-feed l s)

    -- the text of lines reads as the lines
    pub lines-back : (ls : List Line) → AllShapedIn ks ls → ((l : Line) → l ∈ ls → Small most l) → text_lines most ks (bind ls (line_text most)) ≡ map some ls
    unfolding text_lines lines_of split
    lines-back [] s h = refl
    lines-back (l ∷ ls) s h =
        line-then l (s l (inl refl)) (bind ls (line_text most))
        ∙ ap₂ (λ (o : Option Line) (os : List (Option Line)). o ∷ os) (line-back l (s l (inl refl)) (h l (inl refl))) (lines-back ls (λ j m. s j (inr m)) (λ j m. h j (inr m)))

  -- what fields read as numbers stand for
  record NumbersRead (w : ℕ) (fs : List (List ℕ)) (ns : List ℕ) : Type 0 where
    count : length ns ≡ w
    text : bind ns (number_text most) ≡ bind fs (λ f. 44 ∷ f)
    small : (n : ℕ) → n ∈ ns → n < 10 ^ most

  numbers-unread : (w : ℕ) (fs : List (List ℕ)) (ns : List ℕ) → numbers_of most w fs ≡ some ns → NumbersRead w fs ns
  unfolding numbers_of number_text
  numbers-unread zero [] ns e =
      let z : ns ≡ [] = cc in
      rw z (record { count = refl; text = refl; small = λ n m. absurd m })
  numbers-unread zero (f ∷ fs) ns e = let z : ◌≡◌ {A = ℕ} 0 1 = cc in absurd (omega arith)
  numbers-unread (suc w) [] ns e = let z : ◌≡◌ {A = ℕ} 0 1 = cc in absurd (omega arith)
  numbers-unread (suc w) (f ∷ fs) ns e =
      let a = then_some (number_of most f) (λ n. numbers_of most w fs then λ ms. some (n ∷ ms)) ns e in
      let b = then_some (numbers_of most w fs) (λ ms. some (a.0 ∷ ms)) ns a.2 in
      let r = numbers-unread w fs b.0 b.1 in
      let z : ns ≡ a.0 ∷ b.0 = let y = b.2 in cc in
      rw z (record {
        count = ap suc r.count;
        text = ap₂ (λ (x y : List ℕ). 44 ∷ (x ++ y)) (read-write most a.0 f a.1) r.text;
        small = λ n m. ⊎_elim (λ i. rw i (read_below most a.0 f a.1)) (r.small n) m;
      })

  -- what the bytes of a line read as the line l stand for
  pub record LineRead (p : List ℕ) (l : Line) : Type 0 where
    pub shaped : ShapedIn ks l
    pub text : line_text most l ≡ p ++ (10 ∷ [])
    pub small : Small most l

  fields-unread : (fs : List (List ℕ)) (l : Line) → of_fields most ks fs ≡ some l → LineRead (joined 44 fs) l
  unfolding of_fields line_text printed
  fields-unread [] l e = let z : ◌≡◌ {A = ℕ} 0 1 = cc in absurd (omega arith)
  fields-unread ([] ∷ fs) l e = let z : ◌≡◌ {A = ℕ} 0 1 = cc in absurd (omega arith)
  fields-unread ((c ∷ []) ∷ fs) l e =
      let a = then_some (with_letter c ks) (λ k. numbers_of most (width k) fs then λ ns. some (line k ns)) l e in
      let b = then_some (numbers_of most (width a.0) fs) (λ ns. some (line a.0 ns)) l a.2 in
      let k = letter-unread c ks a.0 a.1 in
      let r = numbers-unread (width a.0) fs b.0 b.1 in
      let z : l ≡ line a.0 b.0 = let y = b.2 in cc in
      rw z (record {
        shaped = record { known = k.0; count = r.count };
        text = ap₂ (λ (d : ℕ) (x : List ℕ). d ∷ (x ++ (10 ∷ []))) k.1 r.text;
        small = r.small;
      })
  fields-unread ((c ∷ d ∷ ds) ∷ fs) l e = let z : ◌≡◌ {A = ℕ} 0 1 = cc in absurd (omega arith)

  -- what was read as a line is the line's text
  pub line-unread : (p : List ℕ) (l : Line) → line_of most ks p ≡ some l → LineRead p l
  unfolding line_of
  line-unread p l e = subst (λ (a : List ℕ). LineRead a l) (split-joined comma 44 comma-byte p) (fields-unread (split comma p) l e)

  parts-unread : (ps : List (List ℕ)) (ls : List Line) → lines_of most ks ps ≡ map some ls → AllShapedIn ks ls × (bind ls (line_text most) ≡ joined 10 ps)
  unfolding lines_of
  parts-unread [] [] e = ((λ l m. absurd m), refl)
  parts-unread [] (l ∷ ls) e = let z : ◌≡◌ {A = ℕ} 0 1 = cc in absurd (omega arith)
  parts-unread ([] ∷ []) [] e = ((λ l m. absurd m), refl)
  parts-unread ([] ∷ []) (l ∷ ls) e = let z : ◌≡◌ {A = ℕ} 0 1 = cc in absurd (omega arith)
  parts-unread ((b ∷ bs) ∷ []) [] e = let z : ◌≡◌ {A = ℕ} 0 1 = cc in absurd (omega arith)
  parts-unread ((b ∷ bs) ∷ []) (l ∷ ls) e = let z : ◌≡◌ {A = ℕ} 0 1 = cc in absurd (omega arith)
  parts-unread (p ∷ q ∷ ps) [] e = let z : ◌≡◌ {A = ℕ} 0 1 = cc in absurd (omega arith)
  parts-unread (p ∷ q ∷ ps) (l ∷ ls) e =
      let a : line_of most ks p ≡ some l = cc in
      let b : lines_of most ks (q ∷ ps) ≡ map some ls = cc in
      let r = line-unread p l a in
      let t = parts-unread (q ∷ ps) ls b in
      ((λ j m. ⊎_elim (λ i. rw i r.shaped) (t.0 j) m), ap₂ (λ (x y : List ℕ). x ++ y) r.text t.1 ∙ append_assoc p (10 ∷ []) (joined 10 (q ∷ ps)))

  -- what was read as lines is their text
  pub lines-unread : (b : List ℕ) (ls : List Line) → text_lines most ks b ≡ map some ls → AllShapedIn ks ls × (bind ls (line_text most) ≡ b)
  unfolding text_lines
  lines-unread b ls e =
      let r = parts-unread (split line_feed b) ls e in
      (r.0, r.1 ∙ split-joined line_feed 10 feed-byte b)
