-- `convert::check_records` meets its contract: what the records that are left answer is what all of them do.
-- Assumes nothing.
use mathlib.Core.Path.{sym, ◌∙◌}
use Rattle.logs.proofs.Rest.{Next, check_done, check_late, check_falling, check_sound}
use Rattle.logs.proofs.convert.check_records.Goals as goal

pub returns-then-date-gt-LAST : goal.returns-then-date-gt-LAST
returns-then-date-gt-LAST c =
    let l = c.loop-k in
    let x = c.at in
    let y = c.date_of-date in
    let a = c.args in
    let n : Next a.f a.log.now l.k l.before x.result y.result = record { inside = c.loop-k-test.true; record_is = x.ensures; date_is = y.ensures } in
    sym (check_late n c.if-date-gt-LAST.true) ∙ l.invariant.1

pub returns-then-date-before : goal.returns-then-date-before
returns-then-date-before c =
    let l = c.loop-k in
    let x = c.at in
    let y = c.date_of-date in
    let a = c.args in
    let n : Next a.f a.log.now l.k l.before x.result y.result = record { inside = c.loop-k-test.true; record_is = x.ensures; date_is = y.ensures } in
    sym (check_falling n c.if-date-gt-LAST.false c.if-date-before.true) ∙ l.invariant.1

pub loop-k-preserved : goal.loop-k-preserved
loop-k-preserved c =
    let l = c.loop-k in
    let x = c.at in
    let y = c.date_of-date in
    let a = c.args in
    let n : Next a.f a.log.now l.k l.before x.result y.result = record { inside = c.loop-k-test.true; record_is = x.ensures; date_is = y.ensures } in
    (c.if-date-gt-LAST.false, sym (check_sound n c.if-date-gt-LAST.false c.if-date-before.false) ∙ l.invariant.1)

pub returns : goal.returns
returns c =
    let a = c.args in
    let l = c.loop-k in
    sym (check_done a.f a.log.now l.k l.before c.loop-k-test.false) ∙ l.invariant.1
