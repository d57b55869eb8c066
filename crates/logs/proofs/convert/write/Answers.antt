-- `convert::write` meets its contract: the records written and those that are left are the converted log.
-- Assumes nothing.
use native.Mathlib.Omega.{arith}
use Rattle.logs.proofs.Rest.{Next, date_sound, written_one, written_all}
use Rattle.logs.proofs.convert.write.Goals as goal

pub ticks_of-requires : goal.ticks_of-requires
ticks_of-requires c =
    let l = c.loop-k in
    let x = c.at-r in
    let y = c.date_of-date in
    let a = c.args in
    let n : Next a.f a.log.now l.k l.before x.result y.result = record { inside = c.loop-k-test.true; record_is = x.ensures; date_is = y.ensures } in
    let e = date_sound l.invariant n in
    (e.rises, e.early)

pub loop-k-preserved : goal.loop-k-preserved
loop-k-preserved c =
    let l = c.loop-k in
    let x = c.at-r in
    let y = c.date_of-date in
    let a = c.args in
    let n : Next a.f a.log.now l.k l.before x.result y.result = record { inside = c.loop-k-test.true; record_is = x.ensures; date_is = y.ensures } in
    let p = c.put in
    let o = c.other-g in
    let m = c.ticks_of in
    written_one l.invariant n o.result m.result p.new.out o.ensures m.ensures (omega (arith, p.auto.out)) p.ensures

pub returns : goal.returns
returns c = written_all c.loop-k.invariant c.loop-k-test.false c.requires.0
