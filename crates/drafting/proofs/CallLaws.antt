-- The calls of a text, as loops put them.
-- Assumes nothing.
use mathlib.Core.Path.{◌≡◌, refl, sym, ap, ◌∙◌}
use mathlib.Core.Bool.{Bool, cond}
use mathlib.Core.List.{List, [], ◌++◌, append_assoc}
use Prim.Native.Nat.{ℕ, zero, suc, ◌-◌, ◌≤◌, ◌<◌, min}
use native.Mathlib.Omega.{arith}
use lib.ListN.{length}
use borrow.Author.Tests.{lt-ltb, le-ltb}
use Rattle.drafting.specs.declared.script.Entry.{Entry}
use Rattle.drafting.specs.Numerals.{first_digit}
use Rattle.drafting.specs.Scripts.{entry_at, call_of, repeated, calls_from}

module _ (call : List ℕ) where
  pub once_more : (n m : ℕ) → n ≡ suc m → repeated n call ≡ call ++ repeated m call
  unfolding repeated
  once_more n m e = ap (λ (k : ℕ). repeated k call) e

  pub no_more : (n : ℕ) → n ≡ 0 → repeated n call ≡ []
  unfolding repeated
  no_more n e = ap (λ (k : ℕ). repeated k call) e

  -- What is left of a call comes first, as far as there is room.
  left_first : (room left : ℕ) (s : List ℕ) (i : ℕ) → calls_from room s call left i ≡ repeated (min left room) call ++ calls_from (room - left) s [] 0 i
  unfolding repeated calls_from
  left_first zero left s i =
      let k : min left 0 ≡ 0 = omega arith in
      let m : 0 - left ≡ 0 = omega arith in
      sym (λ t. repeated (k t) call ++ calls_from (m t) s [] 0 i)
  left_first (suc room) zero s i =
      let k : min 0 (suc room) ≡ 0 = omega arith in
      let m : suc room - 0 ≡ suc room = omega arith in
      sym (λ t. repeated (k t) call ++ calls_from (m t) s [] 0 i)
  left_first (suc room) (suc left) s i =
      let k : min (suc left) (suc room) ≡ suc (min left room) = omega arith in
      let m : suc room - suc left ≡ room - left = omega arith in
      ap (λ (l : List ℕ). call ++ l) (left_first room left s i) ∙ sym (append_assoc call (repeated (min left room) call) (calls_from (room - left) s [] 0 i))
      ∙ sym (λ t. repeated (k t) call ++ calls_from (m t) s [] 0 i)

module _ (s : List ℕ) (i : ℕ) where
  -- The calls from the entry at a place on.
  turn : ℕ → Entry → List ℕ
  turn room e = call_of e ++ calls_from room s (call_of e) (e.times - 1) (first_digit s e.end)

  -- An entry is put, and the calls after it are left.
  pub entry_next : (room further more j : ℕ) (e : Entry) → room ≡ suc further → i < length s → e ≡ entry_at s i → j ≡ first_digit s e.end → more ≡ further - (e.times - 1) → calls_from room s [] 0 i ≡ (call_of e ++ repeated (min (e.times - 1) further) (call_of e)) ++ calls_from more s [] 0 j
  unfolding calls_from turn
  entry_next room further more j e r h p q m =
      let call = call_of e in
      ap (λ (k : ℕ). calls_from k s [] 0 i) r ∙ ap (λ (t : Bool). cond t (turn further (entry_at s i)) []) (lt-ltb i (length s) h) ∙ ap (turn further) (sym p)
      ∙ ap (λ (l : List ℕ). call ++ l) (left_first call further (e.times - 1) s (first_digit s e.end))
      ∙ sym (append_assoc call (repeated (min (e.times - 1) further) call) (calls_from (further - (e.times - 1)) s [] 0 (first_digit s e.end)))
      ∙ sym (λ t. (call ++ repeated (min (e.times - 1) further) call) ++ calls_from (m t) s [] 0 (q t))

  pub no_room_for_call : (room : ℕ) → room ≡ 0 → calls_from room s [] 0 i ≡ []
  unfolding calls_from
  no_room_for_call room e = ap (λ (k : ℕ). calls_from k s [] 0 i) e

  pub no_call : (room : ℕ) → length s ≤ i → calls_from room s [] 0 i ≡ []
  unfolding calls_from turn
  no_call zero h = refl
  no_call (suc room) h = ap (λ (t : Bool). cond t (turn room (entry_at s i)) []) (le-ltb i (length s) h)
