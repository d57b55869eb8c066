-- A part of a list that was lent and is put back, read place by place.
-- Assumes nothing.
use mathlib.Core.Path.{◌≡◌, refl, ap, sym, ◌∙◌}
use mathlib.Core.Bool.{Bool, true, false}
use mathlib.Core.List.{List, ◌++◌}
use Prim.Native.Nat.{ℕ, ◌+◌, ◌*◌, ◌^◌, ◌≤◌, ◌<◌, ◌-◌}
use native.Mathlib.Omega.{arith}
use native.Mathlib.Nat.{mul-le-mul_right, suc-mul}
use lib.Dec.{ltb}
use lib.ListN.{length, get_or, take, drop, length-drop, get_or-append, get_or-eq_default}
use lib.Seq.{get_or-take, get_or-drop, get_or-append-add, length-take-le, take_at, drop_at}
use lib.Pow.{pow_pos}
use borrow.Author.Tests.{ltb-true, ltb-false}
use borrow.Rule.Slice.PartMut.{put_mid, same_len_mid}
use Rattle.enforcement.specs.Model.{width}
use Rattle.retimer.specs.Sets.{Narrow}

-- ---- The place of a location's rows

pub rows_end : (h : ℕ) {t u : ℕ} → t < u → t * h + h ≤ u * h
rows_end h {t} {u} l = let a = mul-le-mul_right h l in let b = suc-mul t h in omega arith

pub span : (a h : ℕ) → a + h - a ≡ h
span a h = omega arith

-- ---- A part

module _ (xs : List ℕ) (a k : ℕ) (inside : a + k ≤ length xs) where
  pub part_length : length (take k (drop a xs)) ≡ k
  part_length = length-take-le k (drop a xs) (omega (arith, length-drop a xs))

  pub part_at : (i : ℕ) → i < k → get_or (take k (drop a xs)) i 0 ≡ get_or xs (a + i) 0
  part_at i l = get_or-take k (drop a xs) i 0 l ∙ get_or-drop a xs i 0

  pub part_narrow : Narrow xs → Narrow (take k (drop a xs))
  part_narrow h i = go (ltb i k) refl
    where
      go : (b : Bool) → ltb i k ≡ b → get_or (take k (drop a xs)) i 0 < 2 ^ width
      go true z = rw (part_at i (ltb-true i k z)) (h (a + i))
      go false z = rw (get_or-eq_default (take k (drop a xs)) 0 {n = i} (omega (arith, part_length, ltb-false i k z))) (pow_pos width)

  module _ (ys : List ℕ) (same : length ys ≡ k) where
    front : length (take a xs) ≡ a
    front = length-take-le a xs (omega arith)

    pub put_length : length (put_mid a k xs ys) ≡ length xs
    put_length = same_len_mid a k xs ys (same ∙ sym part_length)

    pub put_at : (i : ℕ) → i < k → get_or (put_mid a k xs ys) (a + i) 0 ≡ get_or ys i 0
    put_at i l =
        ap (λ (n : ℕ). get_or (put_mid a k xs ys) (n + i) 0) (sym front)
        ∙ get_or-append-add (take a xs) (ys ++ drop k (drop a xs)) i 0
        ∙ get_or-append ys (drop k (drop a xs)) 0 i (omega arith)

    pub put_before : (j : ℕ) → j < a → get_or (put_mid a k xs ys) j 0 ≡ get_or xs j 0
    put_before j l = get_or-append (take a xs) (ys ++ drop k (drop a xs)) 0 j (omega (arith, front)) ∙ get_or-take a xs j 0 l

    pub put_after : (j : ℕ) → a + k ≤ j → get_or (put_mid a k xs ys) j 0 ≡ get_or xs j 0
    put_after j l =
        let m : ℕ = j - (a + k) in
        let p : j ≡ length (take a xs) + (length ys + m) = omega (arith, front, same) in
        let q : a + (k + m) ≡ j = omega arith in
        ap (λ (n : ℕ). get_or (put_mid a k xs ys) n 0) p
        ∙ get_or-append-add (take a xs) (ys ++ drop k (drop a xs)) (length ys + m) 0
        ∙ get_or-append-add ys (drop k (drop a xs)) m 0
        ∙ get_or-drop k (drop a xs) m 0 ∙ get_or-drop a xs (k + m) 0 ∙ ap (λ (n : ℕ). get_or xs n 0) q

    pub put_narrow : Narrow xs → Narrow ys → Narrow (put_mid a k xs ys)
    put_narrow h g j = go (ltb j a) refl (ltb j (a + k)) refl
      where
        go : (c : Bool) → ltb j a ≡ c → (d : Bool) → ltb j (a + k) ≡ d → get_or (put_mid a k xs ys) j 0 < 2 ^ width
        go true x d y = rw (put_before j (ltb-true j a x)) (h j)
        go false x true y =
            let z : j ≡ a + (j - a) = omega (arith, ltb-false j a x) in
            rw (z, put_at (j - a) (omega (arith, ltb-false j a x, ltb-true j (a + k) y))) (g (j - a))
        go false x false y = rw (put_after j (ltb-false j (a + k) y)) (h j)

    -- The part that was put is read back.
    pub put_part : take k (drop a (put_mid a k xs ys)) ≡ ys
    put_part = ap (take k) (drop_at (take a xs) (ys ++ drop k (drop a xs)) a front) ∙ take_at ys (drop k (drop a xs)) k same

-- The rows of another location stay.
pub put_other : (xs : List ℕ) (l h k : ℕ) → l * h + k ≤ length xs → k ≡ h → (ys : List ℕ) → length ys ≡ k → (m i : ℕ) → i < h → (m ≡ l → ⊥) → get_or (put_mid (l * h) k xs ys) (m * h + i) 0 ≡ get_or xs (m * h + i) 0
put_other xs l h k inside e ys same m i less other = go (ltb m l) refl
  where
    go : (c : Bool) → ltb m l ≡ c → get_or (put_mid (l * h) k xs ys) (m * h + i) 0 ≡ get_or xs (m * h + i) 0
    go true y = put_before xs (l * h) k inside ys same (m * h + i) (omega (arith, rows_end h (ltb-true m l y)))
    go false y = put_after xs (l * h) k inside ys same (m * h + i) (omega (arith, rows_end h {t = l} {u = m} (omega (arith, ltb-false m l y))))
