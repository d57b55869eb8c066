-- Bytes put after bytes.
-- Assumes nothing.
use mathlib.Core.Path.{◌≡◌, sym, ap, ◌∙◌, subst}
use mathlib.Core.List.{List, [], ◌++◌, append_assoc}
use Prim.Native.Nat.{ℕ, ◌+◌, ◌≤◌}
use native.Mathlib.Omega.{arith}
use lib.ListN.{length, take, drop, length-append}
use lib.Seq.{length-take-le, take_at, drop-append-add, drop-drop, paste-zero}
use Rattle.retimer.specs.Bytes.{Wrote}

module _ {x a y b z : List ℕ} {at m n : ℕ} (room : m ≤ length x) (first : Wrote x at a y m) (second : Wrote y m b z n) where
  front : length (take at x ++ a) ≡ at + length a
  front = length-append (take at x) a ∙ ap (λ (k : ℕ). k + length a) (length-take-le at x (omega (arith, first.ends)))

  taken : take m y ≡ take at x ++ a
  taken = ap (λ (k : ℕ). take k y) first.ends ∙ ap (take (at + length a)) first.is ∙ take_at (take at x ++ a) (drop (at + length a) x) (at + length a) front

  dropped : drop (m + length b) y ≡ drop (at + length a + length b) x
  dropped =
      ap (λ (k : ℕ). drop (k + length b) y) (first.ends ∙ sym front) ∙ ap (drop (length (take at x ++ a) + length b)) first.is
      ∙ drop-append-add (take at x ++ a) (drop (at + length a) x) (length b) ∙ drop-drop (length b) (at + length a) x

  ending : at + length a + length b ≡ at + length (a ++ b)
  ending = omega (arith, length-append a b)

  pub next : Wrote x at (a ++ b) z n
  next = record {
    is = second.is ∙ ap (λ (l : List ℕ). l ++ b ++ drop (m + length b) y) taken ∙ ap (λ (l : List ℕ). (take at x ++ a) ++ b ++ l) dropped
        ∙ ap (λ (l : List ℕ). l ++ drop (at + length a + length b) x) (append_assoc (take at x) a b)
        ∙ ap (λ (k : ℕ). (take at x ++ (a ++ b)) ++ drop k x) ending;
    ends = second.ends ∙ ap (λ (k : ℕ). k + length b) first.ends ∙ ending;
  }

pub as_part : {x a b y : List ℕ} {at m : ℕ} → Wrote x at a y m → a ≡ b → Wrote x at b y m
as_part {x} {a} {b} {y} {at} {m} w e = subst (λ (t : List ℕ). Wrote x at t y m) e w

pub writes_none : (x : List ℕ) (at : ℕ) → Wrote x at [] x at
writes_none x at = record { is = paste-zero x at []; ends = omega arith }
