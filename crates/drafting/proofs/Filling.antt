-- Bytes put into a buffer one after another.
-- Assumes nothing.
use mathlib.Core.Path.{◌≡◌, refl, sym, ap, ◌∙◌, subst}
use mathlib.Core.List.{List, [], ◌∷◌, ◌++◌, append_assoc, append-nil}
use Prim.Native.Nat.{ℕ, suc, ◌+◌, ◌-◌, ◌≤◌, ◌<◌}
use native.Mathlib.Omega.{arith}
use lib.ListN.{length, take, drop, set}
use lib.Seq.{take-suc-set, drop-set-lt, drop-drop}
use Rattle.drafting.specs.Scripts.{Put}

-- Of all bytes that are to stand from a place on, those that are left; the others stand before the end.
pub record Filling (before : List ℕ) (at : ℕ) (all left now : List ℕ) (end : ℕ) : Type 0 where
  pub front : take end now ++ left ≡ take at before ++ all
  pub rest : drop end now ≡ drop end before

-- Nothing is put yet.
pub empty : (x : List ℕ) (at : ℕ) {all left : List ℕ} → left ≡ all → Filling x at all left x at
empty x at e = record { front = ap (λ (l : List ℕ). take at x ++ l) e; rest = refl }

-- A store puts a byte.
pub one : (x : List ℕ) (at v : ℕ) {end : ℕ} → at < length x → end ≡ at + 1 → Put x at (v ∷ []) (set x at v) end
one x at v {end} h e =
    let n : end ≡ suc at = omega arith in
    record { front = ap (λ (k : ℕ). take k (set x at v)) n ∙ take-suc-set x at v h; rest = ap (λ (k : ℕ). drop k (set x at v)) n ∙ drop-set-lt (suc at) x at v (omega arith) ∙ sym (ap (λ (k : ℕ). drop k x) n) }

-- What is the same from a place on is so from a later one on.
later : (x y : List ℕ) (m n : ℕ) → m ≤ n → drop m y ≡ drop m x → drop n y ≡ drop n x
later x y m n h e =
    let k : n ≡ m + (n - m) = omega arith in
    ap (λ (j : ℕ). drop j y) k ∙ sym (drop-drop (n - m) m y) ∙ ap (drop (n - m)) e ∙ drop-drop (n - m) m x ∙ sym (ap (λ (j : ℕ). drop j x) k)

-- A piece more.
module _ {x y z all left b more : List ℕ} {at m n : ℕ} where
  pub further : Filling x at all left y m → left ≡ b ++ more → m ≤ n → Put y m b z n → Filling x at all more z n
  further f e h p = record {
    front = ap (λ (l : List ℕ). l ++ more) p.front ∙ append_assoc (take m y) b more ∙ sym (ap (λ (l : List ℕ). take m y ++ l) e) ∙ f.front;
    rest = p.rest ∙ later x y m n h f.rest;
  }

-- The same end, written otherwise.
pub ending : {x z all left : List ℕ} {at m n : ℕ} → Filling x at all left z m → m ≡ n → Filling x at all left z n
ending {x} {z} {all} {left} {at} {m} {n} f e = subst (λ (k : ℕ). Filling x at all left z k) e f

-- Nothing is left.
pub full : {x z all left : List ℕ} {at n : ℕ} → Filling x at all left z n → left ≡ [] → Put x at all z n
full {x} {z} {all} {left} {at} {n} f e = record { front = sym (append-nil (take n z)) ∙ sym (ap (λ (l : List ℕ). take n z ++ l) e) ∙ f.front; rest = f.rest }

pub as_bytes : {x a b y : List ℕ} {at end : ℕ} → Put x at a y end → a ≡ b → Put x at b y end
as_bytes {x} {a} {b} {y} {at} {end} p e = subst (λ (t : List ℕ). Put x at t y end) e p
