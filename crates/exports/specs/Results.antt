-- What is handed out to host programs.
use Rattle.std.specs.Prelude.{◌≡◌, ℤ, pos, neg_ℤ, length}
use Rattle.enforcement.specs.Automaton.{Bytes}
use Rattle.logs.specs.declared.format.Format.{Format}
use Rattle.logs.specs.Conversion.{Outcome, converted, refused, number, answer, OutputRight}

-- 0, or minus the number after "I-".
abbrev pub result_of : Outcome → ℤ
result_of converted = pos 0
result_of (refused r) = neg_ℤ (pos (number r))

-- What a conversion promises to a host.
pub record ExportRight (f : Format) (s before : Bytes) (r : ℤ) (after : Bytes) : Type 0 where
  pub returned : r ≡ result_of (answer f s (length before))
  pub output_right : OutputRight f s before after
