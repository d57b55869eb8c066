-- What was written counts bytes of the buffer.
-- Assumes nothing.
use mathlib.Core.Path.{◌≡◌, sym}
use mathlib.Core.List.{List}
use Prim.Native.Nat.{ℕ, ◌+◌, ◌≤◌}
use native.Mathlib.Omega.{arith}
use lib.ListN.{length}
use lib.Seq.{length-take-le}
use Rattle.std.specs.Counts.{IsPrefixLen}
use Rattle.retimer.specs.Bytes.{Wrote}

pub counted : {x t y : List ℕ} {at e : ℕ} → Wrote x at t y e → length y ≡ length x → at + length t ≤ length x → IsPrefixLen e y
counted {x} {t} {y} {at} {e} w same room =
    let fits : e ≤ length y = omega (arith, w.ends) in
    (fits, sym (length-take-le e y fits))
