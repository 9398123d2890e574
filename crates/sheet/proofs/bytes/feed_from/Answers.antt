-- `sheet::bytes::feed_from` meets its contract. Each of the four bytes of a turn is that line feed, or is passed. Assumes nothing.
use Rattle.std.specs.Prelude.{◌≡◌, refl, ◌≢◌, List, ℕ, ◌+◌, ◌≤◌, ◌<◌, length, get_or, drop}
use Rattle.std.proofs.Common.{arith, rules, sym, ◌∙◌, ap, subst}
use Rattle.sheet.specs.Bytes.{kind_of, line_feed}
use Rattle.sheet.specs.ByteKinds.{kind_number}
use Rattle.sheet.specs.Inner.{span_of}
use Rattle.sheet.specs.declared.bytes.ByteKind.{ByteKind}
use Rattle.sheet.specs.declared.bytes.ByteKind.TheVariants.{LineFeed}
use Rattle.sheet.specs.Laws.ByteKinds.{kind-unlike}
use Rattle.sheet.specs.Laws.Parts.{span-stop, span_more}
use Rattle.sheet.proofs.bytes.feed_from.Invariants.{Ahead}
use Rattle.sheet.proofs.bytes.feed_from.Goals as goal

-- the byte at i, of kind k, is a line feed, or it is passed
module _ (s : List ℕ) (at i : ℕ) (h : i < length s) (a : Ahead s at i) (k : ByteKind) (d : kind_number k ≡ kind_of (get_or s i 0)) where
  here : k ≡ LineFeed → i ≡ at + span_of line_feed (drop at s)
  here e = omega (arith, span-stop s i line_feed h (sym d ∙ ap kind_number e))

  past : (j : ℕ) → j ≡ i + 1 → k ≢ LineFeed → Ahead s at j
  past j e n = subst (Ahead s at) (sym e) (omega (arith, span_more s i line_feed h (λ f. kind-unlike k LineFeed n (d ∙ f))))

-- the bytes of a turn from i on, of kinds q, r, t and u, are passed
module _ (s : List ℕ) (at i : ℕ) (h : i + 4 ≤ length s) (a : Ahead s at i) (q : ByteKind) (qk : kind_number q ≡ kind_of (get_or s i 0)) (qn : q ≢ LineFeed) where
  passed-1 : Ahead s at (i + 1)
  passed-1 = past s at i (omega arith) a q qk (i + 1) refl qn

  module _ (r : ByteKind) (rk : kind_number r ≡ kind_of (get_or s (i + 1) 0)) (rn : r ≢ LineFeed) where
    passed-2 : Ahead s at (i + 2)
    passed-2 = past s at (i + 1) (omega arith) passed-1 r rk (i + 2) (omega arith) rn

    module _ (t : ByteKind) (tk : kind_number t ≡ kind_of (get_or s (i + 2) 0)) (tn : t ≢ LineFeed) where
      passed-3 : Ahead s at (i + 3)
      passed-3 = past s at (i + 2) (omega arith) passed-2 t tk (i + 3) (omega arith) tn

      passed-4 : (u : ByteKind) → kind_number u ≡ kind_of (get_or s (i + 3) 0) → u ≢ LineFeed → Ahead s at (i + 4)
      passed-4 u uk un = past s at (i + 3) (omega arith) passed-3 u uk (i + 4) (omega arith) un

pub returns-then-eq : goal.returns-then-eq
returns-then-eq c =
    let e : c.kind_of.result ≡ LineFeed = search rules in
    here c.args.s.now c.args.at c.loop-i.i (omega arith) c.loop-i.invariant.1 _ c.kind_of.ensures e

pub returns-then-eq-2 : goal.returns-then-eq-2
returns-then-eq-2 c =
    let n0 : c.kind_of.result ≢ LineFeed = search rules in
    let e : c.kind_of-in-loop-i.result ≡ LineFeed = search rules in
    here c.args.s.now c.args.at (c.loop-i.i + 1) (omega arith) (passed-1 c.args.s.now c.args.at c.loop-i.i (omega arith) c.loop-i.invariant.1 _ c.kind_of.ensures n0) _ c.kind_of-in-loop-i.ensures e

pub returns-then-eq-3 : goal.returns-then-eq-3
returns-then-eq-3 c =
    let n0 : c.kind_of.result ≢ LineFeed = search rules in
    let n1 : c.kind_of-in-loop-i.result ≢ LineFeed = search rules in
    let e : c.kind_of-in-loop-i-2.result ≡ LineFeed = search rules in
    here c.args.s.now c.args.at (c.loop-i.i + 2) (omega arith) (passed-2 c.args.s.now c.args.at c.loop-i.i (omega arith) c.loop-i.invariant.1 _ c.kind_of.ensures n0 _ c.kind_of-in-loop-i.ensures n1) _ c.kind_of-in-loop-i-2.ensures e

pub returns-then-eq-4 : goal.returns-then-eq-4
returns-then-eq-4 c =
    let n0 : c.kind_of.result ≢ LineFeed = search rules in
    let n1 : c.kind_of-in-loop-i.result ≢ LineFeed = search rules in
    let n2 : c.kind_of-in-loop-i-2.result ≢ LineFeed = search rules in
    let e : c.kind_of-in-loop-i-3.result ≡ LineFeed = search rules in
    here c.args.s.now c.args.at (c.loop-i.i + 3) (omega arith) (passed-3 c.args.s.now c.args.at c.loop-i.i (omega arith) c.loop-i.invariant.1 _ c.kind_of.ensures n0 _ c.kind_of-in-loop-i.ensures n1 _ c.kind_of-in-loop-i-2.ensures n2) _ c.kind_of-in-loop-i-3.ensures e

pub loop-i-preserved : goal.loop-i-preserved
loop-i-preserved c =
    let n0 : c.kind_of.result ≢ LineFeed = search rules in
    let n1 : c.kind_of-in-loop-i.result ≢ LineFeed = search rules in
    let n2 : c.kind_of-in-loop-i-2.result ≢ LineFeed = search rules in
    let n3 : c.kind_of-in-loop-i-3.result ≢ LineFeed = search rules in
    (omega arith, (passed-4 c.args.s.now c.args.at c.loop-i.i (omega arith) c.loop-i.invariant.1 _ c.kind_of.ensures n0 _ c.kind_of-in-loop-i.ensures n1 _ c.kind_of-in-loop-i-2.ensures n2 _ c.kind_of-in-loop-i-3.ensures n3))
