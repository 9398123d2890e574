-- `sheet::seek::partition_point` meets its contract: a look at one thing puts aside the things up to it, or those from it on. Assumes nothing.
use Rattle.std.proofs.Common.{arith}
use Rattle.sheet.specs.Laws.Seek.{parted-none, parted-low, parted-high, parted-all}
use Rattle.sheet.proofs.seek.partition_point.Goals as goal

pub loop-low-init : goal.loop-low-init
loop-low-init g c = record { order = omega arith; most = omega arith; parted = λ at a t s. parted-none }

pub loop-low-preserved-then-is_before : goal.loop-low-preserved-then-is_before
loop-low-preserved-then-is_before g c =
    let v = c.loop-low.invariant in
    record {
      order = omega arith;
      most = v.most;
      parted = λ at a t s. parted-low (v.parted at a t s) s _ (omega arith) (omega arith) (t _ (omega arith) _ c.is_before.ensures) c.if-is_before.true;
    }

pub loop-low-preserved : goal.loop-low-preserved
loop-low-preserved g c =
    let v = c.loop-low.invariant in
    record {
      order = omega arith;
      most = omega (arith, v.most);
      parted = λ at a t s. parted-high (v.parted at a t s) s _ (omega arith) (omega arith) (t _ (omega arith) _ c.is_before.ensures) c.if-is_before.false;
    }

pub returns : goal.returns
returns g c = λ at a t s. parted-all (c.loop-low.invariant.parted at a t s) c.loop-low-test.false
