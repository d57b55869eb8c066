-- `meet::meets` meets its contract. By the rows of each location. Assumes nothing.
use Rattle.retimer.proofs.sets.Meeting.{rows_asked, all_covered, meets_members}
use Rattle.retimer.proofs.sets.meet.meets.Goals as goal

pub meets_in-requires : goal.meets_in-requires
meets_in-requires c =
    let a = c.requires in
    rw c.height.ensures (rows_asked a, (a.fits, all_covered a))

pub returns : goal.returns
returns c =
    let a = c.requires in
    let m = rw c.height.ensures at c.meets_in.ensures in
    (λ e. (meets_members a).0 (m.0 e), λ w. m.1 ((meets_members a).1 w))
