-- A reason is answered exactly when its condition holds and no earlier one does.
-- Assumes nothing.
use mathlib.Core.Path.{◌≡◌, refl, sym, ap, ◌∙◌, subst}
use mathlib.Core.Bool.{Bool, true, false, ◌&&◌}
use mathlib.Core.List.{List, [], ◌∷◌}
use mathlib.Core.Logic.{◌⊎◌, inl, inr}
use Prim.Native.Nat.{ℕ, zero, suc, ◌+◌, ◌*◌, ◌%◌, ◌≤◌, ◌<◌}
use native.Mathlib.Nat.{eq-or-lt_of_le, add-zero, lt_of_not-le}
use native.Mathlib.Numerals.{add-one}
use native.Mathlib.Omega.{arith}
use lib.Dec.{leb, eqb}
use lib.ListN.{length, get_or, drop, length-drop}
use lib.Seq.{get_or-drop, drop-drop}
use borrow.Author.Tests.{leb-true, leb-false, eqb-true, eqb-false}
use Rattle.enforcement.specs.Limits.{max_date}
use Rattle.logs.specs.Conversion.{Refusal, i_9, i_10, i_11, Holds, rank, Given, Outcome, converted, refused, unless, check_from, check, CheckRight}
use Rattle.logs.proofs.Checks.{both}

module _ (n m : ℕ) (ds : List ℕ) where
  -- What an outcome says of the conditions.
  Right : Outcome → Type 0
  Right converted = (r : Refusal) → Holds n m ds r → ⊥
  Right (refused r) = Given n m ds r

  right_unless : (b : Bool) (r : Refusal) (o : Outcome) → (b ≡ false → Given n m ds r) → (b ≡ true → Right o) → Right (unless b r o)
  unfolding Right
  right_unless true r o g h = h refl
  right_unless false r o g h = g refl

  -- No condition before place k holds.
  Clean : ℕ → Type 0
  Clean k = (q : Refusal) → rank q < 1 + 2 * k → Holds n m ds q → ⊥

  -- The date before place k.
  Before : ℕ → ℕ → Type 0
  Before zero d = d ≡ 0
  Before (suc k) d = d ≡ get_or ds k 0

  -- A date that is not below the one before it is not falling, and one that is, is.
  not_falling : (k d e : ℕ) → Before k d → e ≡ get_or ds k 0 → d ≤ e → Holds n m ds (i_11 k) → ⊥
  unfolding Before Holds
  not_falling zero d e b p h x = x
  not_falling (suc k) d e b p h x = omega arith

  is_falling : (k d e : ℕ) → Before k d → e ≡ get_or ds k 0 → k < length ds → e < d → Holds n m ds (i_11 k)
  unfolding Before Holds
  is_falling zero d e b p l h = omega arith
  is_falling (suc k) d e b p l h = (l, omega arith)

  not_late : (k e : ℕ) → e ≡ get_or ds k 0 → e ≤ max_date → Holds n m ds (i_10 k) → ⊥
  unfolding Holds
  not_late k e p h x = omega arith

  is_late : (k e : ℕ) → e ≡ get_or ds k 0 → k < length ds → max_date < e → Holds n m ds (i_10 k)
  unfolding Holds
  is_late k e p l h = (l, omega arith)

  module _ (k : ℕ) (c : Clean k) where
    -- The reasons up to I-10 at k, and those up to I-11 at k.
    up_to_late : (Holds n m ds (i_10 k) → ⊥) → (q : Refusal) → rank q < 2 + 2 * k → Holds n m ds q → ⊥
    unfolding Clean
    up_to_late h i_9 l x = c i_9 (omega arith) x
    up_to_late h (i_10 j) l x = elim (eq-or-lt_of_le {n = j} {m = k} (omega arith)) [ inl e ↦ h (subst (λ (i : ℕ). Holds n m ds (i_10 i)) e x) | inr e ↦ c (i_10 j) (omega arith) x ]
    up_to_late h (i_11 j) l x = c (i_11 j) (omega arith) x

    clean_next : (Holds n m ds (i_10 k) → ⊥) → (Holds n m ds (i_11 k) → ⊥) → Clean (suc k)
    unfolding Clean
    clean_next h g i_9 l x = c i_9 (omega arith) x
    clean_next h g (i_10 j) l x = up_to_late h (i_10 j) (omega arith) x
    clean_next h g (i_11 j) l x = elim (eq-or-lt_of_le {n = j} {m = k} (omega arith)) [ inl e ↦ g (subst (λ (i : ℕ). Holds n m ds (i_11 i)) e x) | inr e ↦ c (i_11 j) (omega arith) x ]

    -- After the last record.
    clean_all : length ds ≤ k → (q : Refusal) → Holds n m ds q → ⊥
    unfolding Clean Holds
    clean_all h i_9 x = c i_9 (omega arith) x
    clean_all h (i_10 j) x = c (i_10 j) (omega (arith, x.0)) x
    clean_all h (i_11 zero) x = x
    clean_all h (i_11 (suc j)) x = c (i_11 (suc j)) (omega (arith, x.0)) x

  -- The records from place k on.
  from_right : (es : List ℕ) (k d : ℕ) → drop k ds ≡ es → Before k d → Clean k → Right (check_from k d es)
  unfolding check_from Right Clean Before
  from_right [] k d p b c = clean_all k c (omega (arith, length-drop k ds, ap length p))
  from_right (e ∷ es) k d p b c =
      let inside : k < length ds = omega (arith, length-drop k ds, ap length p) in
      let here : e ≡ get_or ds k 0 = sym (ap (λ (l : List ℕ). get_or l 0 0) p) ∙ get_or-drop k ds 0 0 ∙ ap (λ (i : ℕ). get_or ds i 0) (add-zero k) in
      let rest : drop (suc k) ds ≡ es = sym (ap (λ (i : ℕ). drop i ds) (add-one k)) ∙ sym (drop-drop 1 k ds) ∙ ap (drop 1) p in
      right_unless (leb e max_date) (i_10 k) (unless (leb d e) (i_11 k) (check_from (suc k) e es))
      (λ t. record { holds = is_late k e here inside (leb-false e max_date t); none_earlier = c })
      (λ t. let early = not_late k e here (leb-true e max_date t) in
      right_unless (leb d e) (i_11 k) (check_from (suc k) e es)
      (λ u. record { holds = is_falling k d e b here inside (leb-false d e u); none_earlier = up_to_late k c early })
      (λ u. from_right es (suc k) e rest here (clean_next k c early (not_falling k d e b here (leb-true d e u)))))

  -- The lengths, and then all records.
  one_length_wrong : (a b : Bool) → (a ≡ false → n % 5 ≡ 0 → ⊥) → (b ≡ false → m ≡ n → ⊥) → a && b ≡ false → (n % 5 ≡ 0 → ⊥) ⊎ (m ≡ n → ⊥)
  one_length_wrong true b f g e = inr (g e)
  one_length_wrong false b f g e = inl (f refl)

  clean_first : n % 5 ≡ 0 → m ≡ n → Clean 0
  unfolding Clean Holds
  clean_first p q i_9 l (inl x) = x p
  clean_first p q i_9 l (inr x) = x q
  clean_first p q (i_10 j) l x = omega arith
  clean_first p q (i_11 j) l x = omega arith

  all_right : Right (check n m ds)
  unfolding check Right Before Holds
  all_right =
      right_unless (eqb (n % 5) 0 && eqb m n) i_9 (check_from 0 0 ds)
      (λ t. record { holds = one_length_wrong (eqb (n % 5) 0) (eqb m n) (eqb-false (n % 5) 0) (eqb-false m n) t; none_earlier = λ q l x. omega arith })
      (λ t. let b = both (eqb (n % 5) 0) (eqb m n) t in from_right ds 0 0 refl refl (clean_first (eqb-true (n % 5) 0 b.0) (eqb-true m n b.1)))

  -- There is one answer: the ranks tell the reasons apart.
  rank_same : (q r : Refusal) → rank q ≡ rank r → q ≡ r
  rank_same i_9 i_9 e = refl
  rank_same i_9 (i_10 j) e = absurd (omega arith)
  rank_same i_9 (i_11 j) e = absurd (omega arith)
  rank_same (i_10 k) i_9 e = absurd (omega arith)
  rank_same (i_10 k) (i_10 j) e = ap i_10 (omega arith)
  rank_same (i_10 k) (i_11 j) e = absurd (omega arith)
  rank_same (i_11 k) i_9 e = absurd (omega arith)
  rank_same (i_11 k) (i_10 j) e = absurd (omega arith)
  rank_same (i_11 k) (i_11 j) e = ap i_11 (omega arith)

  one_given : (q r : Refusal) → Given n m ds q → Given n m ds r → q ≡ r
  one_given q r x y =
      let up : rank r < suc (rank q) = lt_of_not-le (λ l. y.none_earlier q l x.holds) in
      let down : rank q < suc (rank r) = lt_of_not-le (λ l. x.none_earlier r l y.holds) in
      rank_same q r (omega arith)

  refuses_back : (o : Outcome) → Right o → (r : Refusal) → Given n m ds r → o ≡ refused r
  unfolding Right
  refuses_back converted h r g = absurd (h r g.holds)
  refuses_back (refused q) h r g = ap refused (one_given q r h g)

  accepts_back : (o : Outcome) → Right o → ((r : Refusal) → Holds n m ds r → ⊥) → o ≡ converted
  unfolding Right
  accepts_back converted h g = refl
  accepts_back (refused q) h g = absurd (g q h.holds)

  pub check_right : CheckRight n m ds
  unfolding Right
  check_right = record {
    refuses = λ r. (λ e. subst Right e all_right, refuses_back (check n m ds) all_right r);
    accepts = (λ e. subst Right e all_right, accepts_back (check n m ds) all_right);
  }

-- A record that is late and falling comes after one that is late, so that no log tells in which order the two are tested in one record.
pub late_and_falling : (n m : ℕ) (ds : List ℕ) (k : ℕ) → Holds n m ds (i_10 k) → Holds n m ds (i_11 k) → (j : ℕ) × ((j < k) × Holds n m ds (i_10 j))
unfolding Holds
late_and_falling n m ds zero x y = absurd y
late_and_falling n m ds (suc k) x y = (k, (omega arith, (omega (arith, x.0), omega (arith, x.1, y.1))))
