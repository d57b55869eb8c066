-- Answers about sheets as numbers for hosts.
-- Assumes nothing.
use mathlib.Core.Path.{◌≡◌, refl, sym, ap, ◌∙◌}
use native.Mathlib.Omega.{arith}
use Rattle.std.specs.Prelude.{Result}
use lib.IntN.{ℤ, pos, negsuc}
use lib.ListN.{length}
use Prim.Native.Nat.{ℕ}
use Rattle.enforcement.specs.Automaton.{Bytes}
use Rattle.enforcement.specs.Reason.{Reason, i_1, i_2, i_3, i_4, i_5, i_6, i_7, i_8, s_1, s_2, s_3, s_4, s_5}
use Rattle.product.specs.declared.join.Refusal as code
use Rattle.product.specs.Joining.{Refusal, i_9, i_12, i_13, i_14, of_first, of_second, Outcome, written, refused, answer, outcome_of, JoinRight, Delivered}
use Rattle.product.proofs.Promises.{sheet_short, delivered}
use Rattle.exports.specs.Sheets.{reason_result, join_result, Short, JoinExportRight}

-- A length that is answered is short.
short : (o : Outcome) (m : ℕ) (s u : Bytes) → o ≡ answer m s u → Short o
short (written n) m s u e = sheet_short m n s u (sym e)
short (refused r) m s u e = tt

pub answer_short : {s u before after : Bytes} (a : Result ℕ code.Refusal) → JoinRight s u before a after → Short (outcome_of a)
answer_short {s} {u} {before} a j = short (outcome_of a) (length before) s u j.answered

-- ---- What a host can tell from the number

-- A length is not negative, and a refusal is.
abbrev sign : ℤ → ℕ
sign (pos n) = 0
sign (negsuc n) = 1

abbrev magnitude : ℤ → ℕ
magnitude (pos n) = n
magnitude (negsuc n) = n

own_negative : (r : Reason) → sign (reason_result r) ≡ 1
own_negative i_1 = refl
own_negative i_2 = refl
own_negative i_3 = refl
own_negative i_4 = refl
own_negative i_5 = refl
own_negative i_6 = refl
own_negative i_7 = refl
own_negative i_8 = refl
own_negative s_1 = refl
own_negative s_2 = refl
own_negative s_3 = refl
own_negative s_4 = refl
own_negative s_5 = refl

negative : (q : Refusal) → sign (join_result (refused q)) ≡ 1
negative i_9 = refl
negative (of_first r) = own_negative r
negative (of_second r) = own_negative r
negative i_12 = refl
negative i_13 = refl
negative i_14 = refl

length_told : (o : Outcome) (n : ℕ) → pos n ≡ join_result o → o ≡ written n
length_told (written k) n e = ap written (sym (ap magnitude e))
length_told (refused q) n e = let z : ◌≡◌ {A = ℕ} 0 1 = ap sign e ∙ negative q in absurd (omega arith)

-- A number that is not negative is the joined sheet's length.
pub host_joined : {s u before after : Bytes} (n : ℕ) → JoinExportRight s u before (pos n) after → Delivered s u n after
host_joined {s} {u} {before} n h = delivered n (length_told (answer (length before) s u) n h.returned) h.output_right

refusal_told : {s u before after : Bytes} (n : ℕ) (o : Outcome) → answer (length before) s u ≡ o → negsuc n ≡ join_result o → JoinExportRight s u before (negsuc n) after → after ≡ before
refusal_told n (written k) f e h = let z : ◌≡◌ {A = ℕ} 1 0 = ap sign e in absurd (omega arith)
refusal_told n (refused q) f e h = h.output_right.untouched q f

-- After a negative one the output is as it was.
pub host_refused : {s u before after : Bytes} (n : ℕ) → JoinExportRight s u before (negsuc n) after → after ≡ before
host_refused {s} {u} {before} n h = refusal_told n (answer (length before) s u) refl h.returned h
