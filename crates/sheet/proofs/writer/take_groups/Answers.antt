-- `sheet::writer::take_groups` meets its contract: each group's promise carries what is left to judge past its lines, and `ended` past the last.
-- Assumes nothing.
use Rattle.std.specs.Prelude.{◌≡◌, Err}
use Rattle.std.proofs.Common.{arith, rules}
use Rattle.sheet.specs.Calls.{groups}
use Rattle.sheet.proofs.Reading.{verdict-ended}
use Rattle.sheet.proofs.Writing.{groups-start, took}
use Rattle.sheet.proofs.writer.take_groups.Goals as goal

pub take_group-requires : goal.take_group-requires
take_group-requires c =
    let a = c.args in
    let R = groups-start (groups a.head.now a.waits.now a.corridors.now a.closures.now a.occupancies.now) c.requires.0 c.requires.1 in
    (omega arith, record { before = R.before; stored = R.stored; next = R.next })

pub returns-in_err-s : goal.returns-in_err-s
returns-in_err-s c =
    let a = c.args in
    let start = groups-start (groups a.head.now a.waits.now a.corridors.now a.closures.now a.occupancies.now) c.requires.0 c.requires.1 in
    let r = c.in_err-s.field-0.0 in
    let e : c.from_residual.result ≡ Err r = search rules in
    rw e (verdict-ended r (c.in_err-s.ensures.of _ _ start))

pub returns-in_err-w : goal.returns-in_err-w
returns-in_err-w c =
    let a = c.args in
    let start = groups-start (groups a.head.now a.waits.now a.corridors.now a.closures.now a.occupancies.now) c.requires.0 c.requires.1 in
    let r = c.in_err-w.field-0.0 in
    let e : c.from_residual-in_err-w.result ≡ Err r = search rules in
    rw e (verdict-ended r (c.in_err-w.ensures.of _ _ (took c.in_ok-s.ensures start)))

pub returns-in_err-c : goal.returns-in_err-c
returns-in_err-c c =
    let a = c.args in
    let start = groups-start (groups a.head.now a.waits.now a.corridors.now a.closures.now a.occupancies.now) c.requires.0 c.requires.1 in
    let r = c.in_err-c.field-0.0 in
    let e : c.from_residual-in_err-c.result ≡ Err r = search rules in
    rw e (verdict-ended r (c.in_err-c.ensures.of _ _ (took c.in_ok-w.ensures (took c.in_ok-s.ensures start))))

pub returns-in_err-x : goal.returns-in_err-x
returns-in_err-x c =
    let a = c.args in
    let start = groups-start (groups a.head.now a.waits.now a.corridors.now a.closures.now a.occupancies.now) c.requires.0 c.requires.1 in
    let r = c.in_err-x.field-0.0 in
    let e : c.from_residual-in_err-x.result ≡ Err r = search rules in
    rw e (verdict-ended r (c.in_err-x.ensures.of _ _ (took c.in_ok-c.ensures (took c.in_ok-w.ensures (took c.in_ok-s.ensures start)))))

pub returns-in_err-o : goal.returns-in_err-o
returns-in_err-o c =
    let a = c.args in
    let start = groups-start (groups a.head.now a.waits.now a.corridors.now a.closures.now a.occupancies.now) c.requires.0 c.requires.1 in
    let r = c.in_err-o.field-0.0 in
    let e : c.from_residual-in_err-o.result ≡ Err r = search rules in
    rw e (verdict-ended r (c.in_err-o.ensures.of _ _ (took c.in_ok-x.ensures (took c.in_ok-c.ensures (took c.in_ok-w.ensures (took c.in_ok-s.ensures start))))))

pub returns : goal.returns
returns c =
    let a = c.args in
    let start = groups-start (groups a.head.now a.waits.now a.corridors.now a.closures.now a.occupancies.now) c.requires.0 c.requires.1 in
    c.ended.ensures.of _ (took c.in_ok-o.ensures (took c.in_ok-x.ensures (took c.in_ok-c.ensures (took c.in_ok-w.ensures (took c.in_ok-s.ensures start)))))
