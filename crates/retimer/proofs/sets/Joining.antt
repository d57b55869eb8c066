-- Laws of what a transition adds to rows, one row at a time, and of unions of rows.
-- Assumes nothing.
use mathlib.Core.Path.{◌≡◌, refl, ap, ◌∙◌}
use mathlib.Core.Bool.{Bool, true, false, not}
use mir.Val.{bool_byte}
use mathlib.Core.List.{List}
use mathlib.Core.Logic.{◌⊎◌, inl, inr, ⊎_elim, ◌↔◌}
use Prim.Native.Nat.{ℕ, ◌+◌, ◌^◌, ◌≤◌, ◌<◌}
use native.Mathlib.Omega.{arith}
use native.Mathlib.Nat.{lt_of_le_of_lt}
use lib.Dec.{eqb}
use lib.ListN.{length, get_or, set, length-set}
use lib.Seq.{get_or-set_same, get_or-set_other}
use lib.Bits.{bit_or, bit_and, or_lt, and_le_r}
use lib.Pow.{pow_pos}
use borrow.Author.Tests.{eqb-true, eqb-false}
use Rattle.enforcement.specs.Model.{width}
use Rattle.retimer.specs.Row.{In, Flag}
use Rattle.retimer.specs.Sets.{Narrow, Member, United, Joined, Kept, Reset, Gains}
use Rattle.enforcement.proofs.Bits.{none_in, in_or, in_and, power_in, some_in}
use Rattle.retimer.proofs.sets.Tables.{same_or, lt_or}
use Rattle.retimer.proofs.sets.Waiting.{in_same, member_at, narrow_set}

-- ---- A union

-- any has the readings of the rows from a up to i.
abbrev pub Uniting : List ℕ → ℕ → ℕ → ℕ → Type 0
Uniting src a i any = (x : ℕ) → In x any ↔ ((j : ℕ) × (a ≤ j) × (j < i) × Member src x j)

pub uniting_more : (src : List ℕ) (a i any : ℕ) → a ≤ i → Uniting src a i any → Uniting src a (i + 1) (bit_or any (get_or src i 0))
uniting_more src a i any l h x = (
  λ n. ⊎_elim (λ k. let u = (h x).0 k in (u.0, u.1, omega (arith, u.2), u.3)) (λ k. (i, l, omega arith, k)) ((in_or any (get_or src i 0) x).0 n),
  λ u. (in_or any (get_or src i 0) x).1 (go u.0 u.1 u.2 u.3 (eqb u.0 i) refl),
)
  where
    go : (j : ℕ) → a ≤ j → j < i + 1 → Member src x j → (b : Bool) → eqb j i ≡ b → In x any ⊎ Member src x i
    go j p q n true e = inr (in_same x (ap (λ (k : ℕ). get_or src k 0) (eqb-true j i e)) n)
    go j p q n false e = let z = eqb-false j i e in inl ((h x).1 (j, p, omega arith, n))

pub united : (src : List ℕ) (cols a b i any : ℕ) → cols < 2 ^ width → i ≡ b → Uniting src a i any → United src cols a b (bit_and any cols)
united src cols a b i any s e h = rw (← e) (record {
  small = lt_of_le_of_lt (and_le_r any cols) s;
  right = λ x. (λ n. let u = (in_and any cols x).0 n in let w = (h x).0 u.0 in (w.0, w.1, w.2, w.3, u.1), λ u. (in_and any cols x).1 ((h x).1 (u.0, u.1, u.2, u.3), u.4));
})

pub united_row : (src : List ℕ) (cols : ℕ) → cols < 2 ^ width → United src cols 0 1 (bit_and (get_or src 0 0) cols)
united_row src cols s = record {
  small = lt_of_le_of_lt (and_le_r (get_or src 0 0) cols) s;
  right = λ x. let w = in_and (get_or src 0 0) cols x in (λ n. (0, omega arith, omega arith, (w.0 n).0, (w.0 n).1), λ u. w.1 (member_at src refl (omega (arith, u.2)) u.3, u.4));
}

-- ---- Rows that gain readings

module _ (out : List ℕ) (Q : ℕ → ℕ → Type 0) (a : ℕ) where
  pub joined_begun : Narrow out → Joined out out Q a a
  joined_begun h = record { sized = refl; narrow = h; right = λ x i. (inl, λ u. ⊎_elim (λ n. n) (λ n. absurd (omega (arith, n.0, n.1))) u) }

  pub joined_more : (new : List ℕ) (i v : ℕ) → a ≤ i → i < length out → Joined out new Q a i → v < 2 ^ width → ((x : ℕ) → In x v ↔ Q x i) → Joined out (set new i (bit_or (get_or new i 0) v)) Q a (i + 1)
  joined_more new i v l k h s q = record {
    sized = length-set new i w ∙ h.sized;
    narrow = narrow_set new i w h.narrow (or_lt width (get_or new i 0) v (h.narrow i) s);
    right = λ x j. go x j (eqb j i) refl;
  }
    where
      w : ℕ
      w = bit_or (get_or new i 0) v

      here : (x : ℕ) → In x w ↔ (Member out x i ⊎ ((a ≤ i) × (i < i + 1) × Q x i))
      here x =
          let o = in_or (get_or new i 0) v x in (
            λ n. ⊎_elim (λ m. ⊎_elim inl (λ u. absurd (omega (arith, u.1))) ((h.right x i).0 m)) (λ m. inr (l, omega arith, (q x).0 m)) (o.0 n),
            λ n. o.1 (⊎_elim (λ m. inl ((h.right x i).1 (inl m))) (λ u. inr ((q x).1 u.2)) n),
          )

      go : (x j : ℕ) → (b : Bool) → eqb j i ≡ b → Member (set new i w) x j ↔ (Member out x j ⊎ ((a ≤ j) × (j < i + 1) × Q x j))
      go x j true e = let z = eqb-true j i e in rw (z, get_or-set_same new i w 0 (omega (arith, h.sized))) (here x)
      go x j false e =
          let z = eqb-false j i e in
          let r = h.right x j in
          rw (get_or-set_other new i j w 0 z) (
            λ n. ⊎_elim inl (λ u. inr (u.0, omega (arith, u.1), u.2)) (r.0 n),
            λ n. r.1 (⊎_elim inl (λ u. inr (u.0, omega (arith, u.1), u.2)) n),
          )

-- What one row gains.
pub kept_small : (e cols : ℕ) → cols < 2 ^ width → bit_and e cols < 2 ^ width
kept_small e cols h = lt_of_le_of_lt (and_le_r e cols) h

pub kept_in : (src : List ℕ) (cols i x : ℕ) → In x (bit_and (get_or src i 0) cols) ↔ Kept src cols x i
kept_in src cols i x = in_and (get_or src i 0) cols x

pub reset_in : (src : List ℕ) (cols i v : ℕ) → Flag (bit_and (get_or src i 0) cols) v → (x : ℕ) → In x v ↔ Reset src cols x i
reset_in src cols i v f x = (
  λ n. let u = (f.right x).0 n in let w = u.1 in let k = (in_and (get_or src i 0) cols w.0).0 w.1 in (u.0, (w.0, k.0, k.1)),
  λ u. (f.right x).1 (u.0, (u.1.0, (in_and (get_or src i 0) cols u.1.0).1 (u.1.1, u.1.2))),
)

-- ---- Rows that gain what is made of readings

module _ (src out : List ℕ) (cols a : ℕ) (P : ℕ → ℕ → Type 0) where
  pub gains_more : (new : List ℕ) (i v : ℕ) → a ≤ i → i < length out → Gains src out new cols a i P → P (bit_and (get_or src i 0) cols) v → Gains src out (set new i (bit_or (get_or new i 0) v)) cols a (i + 1) P
  gains_more new i v g k h p = record {
    sized = length-set new i w ∙ h.sized;
    gained = λ j l m. same_or j i (λ e. rw e (v, p, get_or-set_same new i w 0 (omega (arith, h.sized)) ∙ ap (λ (n : ℕ). bit_or n v) (h.rest i (inr (omega arith))))) (λ e. let u = h.gained j l (omega arith) in (u.0, u.1, get_or-set_other new i j w 0 e ∙ u.2));
    rest = λ j l. get_or-set_other new i j w 0 (λ e. ⊎_elim (λ m. omega arith) (λ m. omega arith) l) ∙ h.rest j (⊎_elim inl (λ m. inr (omega arith)) l);
  }
    where
      w : ℕ
      w = bit_or (get_or new i 0) v

-- What is made of a row's readings has what Q says.
pub joined : {src out new : List ℕ} {cols a b : ℕ} {P Q : ℕ → ℕ → Type 0} → Narrow out → Gains src out new cols a b P → ((i v : ℕ) → P (bit_and (get_or src i 0) cols) v → (v < 2 ^ width) × ((x : ℕ) → In x v ↔ Q x i)) → Joined out new Q a b
joined {src} {out} {new} {cols} {a} {b} {P} {Q} h g f = record {
  sized = g.sized;
  narrow = λ i. lt_or i a (λ z. rw (g.rest i (inl z)) (h i)) (λ z. lt_or i b (λ y. let u = g.gained i z y in rw u.2 (or_lt width (get_or out i 0) u.0 (h i) (f i u.0 u.1).0)) (λ y. rw (g.rest i (inr y)) (h i)));
  right = λ x i. lt_or i a (λ z. outside x i (inl z)) (λ z. lt_or i b (λ y. here x i z y) (λ y. outside x i (inr y)));
}
  where
    outside : (x i : ℕ) → (i < a) ⊎ (b ≤ i) → Member new x i ↔ (Member out x i ⊎ ((a ≤ i) × (i < b) × Q x i))
    outside x i z = rw (g.rest i z) (inl, λ u. ⊎_elim (λ n. n) (λ n. absurd (⊎_elim (λ y. omega (arith, n.0)) (λ y. omega (arith, n.1)) z)) u)

    here : (x i : ℕ) → a ≤ i → i < b → Member new x i ↔ (Member out x i ⊎ ((a ≤ i) × (i < b) × Q x i))
    here x i z y =
        let u = g.gained i z y in
        let q = (f i u.0 u.1).1 x in
        let o = in_or (get_or out i 0) u.0 x in
        rw u.2 (λ n. ⊎_elim inl (λ m. inr (z, y, q.0 m)) (o.0 n), λ n. o.1 (⊎_elim inl (λ w. inr (q.1 w.2)) n))

-- ---- A flag

flag_none : (e : ℕ) → e ≡ 0 → Flag e 0
flag_none e z = record { small = pow_pos width; right = λ x. (λ n. absurd (none_in x n), λ u. absurd (none_in u.1.0 (in_same u.1.0 z u.1.1))) }

flag_some : (e : ℕ) → e < 2 ^ 64 → (e ≡ 0 → ⊥) → Flag e 1
flag_some e h z = record { small = omega arith; right = λ x. (λ n. ((power_in 0 x).0 n, some_in 64 e h z), λ u. (power_in 0 x).1 u.0) }

pub flagged : {e : ℕ} → e < 2 ^ 64 → Flag e (bool_byte (not (eqb e 0)))
flagged {e} h = go (eqb e 0) refl
  where
    go : (b : Bool) → eqb e 0 ≡ b → Flag e (bool_byte (not b))
    go true z = flag_none e (eqb-true e 0 z)
    go false z = flag_some e h (eqb-false e 0 z)
