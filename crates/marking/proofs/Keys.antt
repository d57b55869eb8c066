-- Laws of the key: the sheet's line, and the lines of the calls behind it.
-- Assumes nothing.
use mathlib.Core.Path.{◌≡◌, sym, ap, ap₂, ◌∙◌}
use mathlib.Core.List.{List, [], ◌++◌, append_assoc, append-nil}
use Prim.Native.Nat.{ℕ, ◌+◌, ◌-◌, ◌≤◌}
use native.Mathlib.Omega.{arith}
use Rattle.std.specs.Prelude.{Result, Ok}
use lib.ListN.{length, take, drop, length-drop, drop_of_length-le}
use lib.Seq.{length-take-le, take_all, drop-drop}
use Rattle.enforcement.specs.Automaton.{Bytes, automaton}
use Rattle.enforcement.specs.Loading.{check}
use Rattle.enforcement.specs.Loading as loading
use Rattle.enforcement.specs.Model.{compile}
use Rattle.enforcement.specs.Monitor.{fresh_monitor}
use Rattle.enforcement.specs.Monitor as model
use Rattle.retimer.specs.Bytes.{Wrote}
use Rattle.report.specs.Lines.{checked_line}
use Rattle.retimer.proofs.Writing.{next}
use Rattle.retimer.specs.declared.limits.Monitor.{Monitor}
use Rattle.retimer.specs.declared.reason.Reason.{Reason}
use Rattle.retimer.specs.declared.sheet.Counts.{Counts}
use Rattle.retimer.specs.Checked.{checked_of}
use Rattle.retimer.specs.View.{bytes_of, view_of}
use Rattle.retimer.specs.Calls.{FreshRight}
use Rattle.marking.specs.Marks.{block_text, text_of, key_text}

module _ (s : Bytes) (d : ℕ) (calls : Bytes) (v : Result Counts Reason) (right : checked_of v ≡ check s d) where
  -- The fresh box of a sheet that loads at that date.
  fresh_text : (b : Monitor) → FreshRight s d b → block_text (compile (bytes_of b)) (view_of b) 0 calls ≡ block_text (compile s) (fresh_monitor (automaton s d)) 0 calls
  fresh_text b f = ap (λ (m : model.Monitor). block_text (compile (bytes_of b)) m 0 calls) f.is ∙ ap (λ (x : Bytes). block_text (compile x) (fresh_monitor (automaton x d)) 0 calls) f.sheet

  pub key_accepted : (k : Counts) (b : Monitor) → v ≡ Ok k → FreshRight s d b → checked_line (checked_of v) ++ block_text (compile (bytes_of b)) (view_of b) 0 calls ≡ key_text s d calls
  key_accepted k b e f =
      ap₂ (λ (w : Result Counts Reason) (t : List ℕ). checked_line (checked_of w) ++ t) e (fresh_text b f)
      ∙ ap (λ (w : Result Counts Reason). text_of (checked_of w) s d calls) (sym e) ∙ ap (λ (c : loading.Checked). text_of c s d calls) right

-- The part of a buffer from a place on.
pub part_length : (y : List ℕ) (m : ℕ) → length (take (length y - m) (drop m y)) ≡ length y - m
part_length y m = length-take-le (length y - m) (drop m y) (omega (arith, length-drop m y))

-- Text in the part of the buffer that begins where the text before it ends.
pub joined : {x a y t z : List ℕ} {m n : ℕ} → m ≤ length x → Wrote x 0 a y m → Wrote (take (length y - m) (drop m y)) 0 t z n → Wrote x 0 (a ++ t) (take m y ++ (z ++ drop (length y - m) (drop m y))) (m + n)
joined {x} {a} {y} {t} {z} {m} {n} room first second = next room first (record {
  is = ap (λ (l : List ℕ). take m y ++ l) (ap₂ (λ (p q : List ℕ). p ++ q) part_is none_behind ∙ append-nil _) ∙ sym (append_assoc (take m y) t (drop (0 + length t) (drop m y))) ∙ ap (λ (l : List ℕ). (take m y ++ t) ++ l) (drop-drop (0 + length t) m y ∙ ap (λ (k : ℕ). drop k y) ends_at);
  ends = omega (arith, second.ends);
})
  where
    whole : take (length y - m) (drop m y) ≡ drop m y
    whole = take_all (length y - m) (drop m y) (omega (arith, length-drop m y))

    none_behind : drop (length y - m) (drop m y) ≡ []
    none_behind = drop_of_length-le (drop m y) {i = length y - m} (omega (arith, length-drop m y))

    part_is : z ≡ t ++ drop (0 + length t) (drop m y)
    part_is = second.is ∙ ap (λ (l : List ℕ). t ++ drop (0 + length t) l) whole

    ends_at : m + (0 + length t) ≡ m + length t
    ends_at = omega arith
