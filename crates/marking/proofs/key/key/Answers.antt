-- `key::key` meets its contract: the sheet's line and, where the sheet loads, the lines of the calls on its fresh box.
-- Assumes nothing.
use Rattle.std.proofs.Common.{arith}
use Rattle.retimer.specs.Checked.{checked_of}
use Rattle.retimer.proofs.Loads.{accepted_loads}
use Rattle.retimer.proofs.Writing.{as_part}
use Rattle.report.proofs.LineLaws.{checked_few}
use Rattle.marking.proofs.Keys.{key_accepted, part_length, joined}
use Rattle.marking.proofs.key.key.Goals as goal

pub mark-marked-requires : goal.mark-marked-requires
mark-marked-requires c =
    let l = c.load-start in
    let w = c.checked_line-first in
    let a = c.args in
    let loads = accepted_loads a.sheet.now a.loaded l.result.checked _ c.in-Ok.is l.ensures.checked in
    ((l.ensures.fresh loads).valid, (omega arith, omega (arith, w.ensures.ends, w.auto.out, checked_few (checked_of l.result.checked), part_length w.new.out w.result)))

pub returns-clause-wrote : goal.returns-clause-wrote
returns-clause-wrote c =
    let l = c.load-start in
    let w = c.checked_line-first in
    let loads = accepted_loads c.args.sheet.now c.args.loaded l.result.checked _ c.in-Ok.is l.ensures.checked in
    as_part (joined (omega (arith, c.requires, w.ensures.ends, checked_few (checked_of l.result.checked))) w.ensures c.mark-marked.ensures.wrote)
    (key_accepted c.args.sheet.now c.args.loaded c.args.calls.now l.result.checked l.ensures.checked _ l.result.monitor c.in-Ok.is (l.ensures.fresh loads))
