-- What is handed out to host programs about sheets.
use Rattle.std.specs.Prelude.{◌≡◌, ◌≤◌, ℤ, pos, neg_ℤ, length}
use Rattle.enforcement.specs.Limits.{max_size}
use Rattle.enforcement.specs.Automaton.{Bytes}
use Rattle.enforcement.specs.Reason.{Reason}
use Rattle.enforcement.specs.Reason as reason
use Rattle.enforcement.specs.Loading.{Checked, accepted}
use Rattle.enforcement.specs.Loading as loading
use Rattle.product.specs.Joining.{Outcome, written, refused, number, answer, OutputRight}

-- Minus the number after "I-"; no sheet is refused with another reason.
abbrev pub reason_result : Reason → ℤ
reason_result r = neg_ℤ (pos (reason.number r))

abbrev pub check_result : Checked → ℤ
check_result (accepted k) = pos 0
check_result (loading.refused r) = reason_result r

-- The length of the joined sheet, or minus the number after "I-".
abbrev pub join_result : Outcome → ℤ
join_result (written n) = pos n
join_result (refused r) = neg_ℤ (pos (number r))

-- What joining promises to a host.
pub record JoinExportRight (s u before : Bytes) (r : ℤ) (after : Bytes) : Type 0 where
  pub returned : r ≡ join_result (answer (length before) s u)
  pub output_right : OutputRight s u before after

-- A length that is no larger than the largest sheet's; what `join` answers is (`sheet_short`).
abbrev pub Short : Outcome → Type 0
Short (written n) = n ≤ max_size
Short (refused r) = Unit {0}
