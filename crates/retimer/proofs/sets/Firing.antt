-- Laws of a transition on rows: what each of the four reset sets makes of them.
-- Assumes nothing.
use mathlib.Core.Path.{◌≡◌, refl, ap, sym, ◌∙◌}
use mathlib.Core.Bool.{true, cond, not}
use mathlib.Core.List.{List}
use mathlib.Core.Logic.{inl, inr, ⊎_elim, ◌↔◌}
use Prim.Native.Nat.{ℕ, ◌≤◌, ◌<◌}
use native.Mathlib.Omega.{arith}
use lib.Dec.{eqb}
use lib.ListN.{length}
use borrow.Author.Tests.{eqb-false, ne_eqb, not-true}
use Rattle.enforcement.specs.Automaton.{Transition, bit, enabled}
use Rattle.enforcement.specs.Model.{top}
use Rattle.enforcement.proofs.Tests.{test_true}
use Rattle.retimer.specs.Row.{In, Flag}
use Rattle.retimer.specs.Sets.{Narrow, Member, United, Joined, Kept, Reset, second, Columns, Led, Fired}
use Rattle.enforcement.proofs.Bits.{none_in, some_in}
use Rattle.retimer.proofs.sets.Bounding.{enabled_tests, RowsAllowed}
use Rattle.retimer.proofs.sets.Waiting.{in_same, member_at, member_reading}

-- ---- The four reset sets

module _ (u : Transition) (src : List ℕ) (cols a b : ℕ) (f : Columns u cols) (r : RowsAllowed u (length src) a b) where
  -- A member that the transition allows.
  abbrev Allowed : ℕ → ℕ → Type 0
  Allowed x i = (a ≤ i) × (i < b) × Member src x i × In x cols

  on_here : (x i : ℕ) → Allowed x i → (i < length src) × (enabled u x (second (length src) i) ≡ true)
  on_here x i m =
      let l : i < length src = omega (arith, m.1, r.inside) in
      (l, test_true (enabled_tests u x (second (length src) i)) (((f.right x).0 m.3).0, (r.right i l).0 (m.0, m.1)))

  leads : {x i : ℕ} (y j : ℕ) → Allowed y j → x ≡ cond (bit u.resets 0) 0 y → i ≡ cond (bit u.resets 1) 0 j → Led u src x i
  leads y j m e k = let o = on_here y j m in record { from_x = y; from_i = j; inside = o.0; member = m.2; on = o.1; x_is = e; i_is = k }

  led_allowed : (x i : ℕ) (l : Led u src x i) → l.from_x ≤ top → Allowed l.from_x l.from_i
  led_allowed x i l t =
      let o = (enabled_tests u l.from_x (second (length src) l.from_i)).passes l.on in
      let w = (r.right l.from_i l.inside).1 o.1 in
      (w.0, w.1, l.member, (f.right l.from_x).1 (o.0, t))

  -- Every member is a reading.
  module _ (readings : Narrow src) where
    allowed_from : (x i : ℕ) (l : Led u src x i) → Allowed l.from_x l.from_i
    allowed_from x i l = led_allowed x i l (member_reading src l.from_x l.from_i readings l.member)

    united_from : {any x i : ℕ} → United src cols a b any → (l : Led u src x i) → In l.from_x any
    united_from {any} {x} {i} v l = let m = allowed_from x i l in (v.right l.from_x).1 (l.from_i, m.0, m.1, m.2, m.3)

    -- Whether it leads anywhere.
    leading : (any : ℕ) → United src cols a b any → (not (eqb any 0) ≡ true) ↔ ((x : ℕ) × (i : ℕ) × Led u src x i)
    leading any v = (there, back)
      where
        there : not (eqb any 0) ≡ true → (x : ℕ) × (i : ℕ) × Led u src x i
        there e =
            let w = some_in 64 any (omega (arith, v.small)) (eqb-false any 0 (not-true (eqb any 0) e)) in
            let m = (v.right w.0).0 w.1 in
            (cond (bit u.resets 0) 0 w.0, cond (bit u.resets 1) 0 m.0, leads w.0 m.0 (m.1, m.2, m.3, m.4) refl refl)

        back : (x : ℕ) × (i : ℕ) × Led u src x i → not (eqb any 0) ≡ true
        back w = ap not (ne_eqb any 0 (λ z. none_in w.2.from_x (in_same w.2.from_x z (united_from v w.2))))

    -- Rows that gain just what the transition leads to.
    fired : (out new : List ℕ) (any : ℕ) (Q : ℕ → ℕ → Type 0) (c d : ℕ) → United src cols a b any → Joined out new Q c d
        → ((x i : ℕ) → ((c ≤ i) × (i < d) × Q x i) ↔ Led u src x i) → Fired u src out new (not (eqb any 0))
    fired out new any Q c d v j q = record {
      sized = j.sized;
      narrow = j.narrow;
      right = λ x i. (λ n. ⊎_elim inl (λ w. inr ((q x i).0 w)) ((j.right x i).0 n), λ n. (j.right x i).1 (⊎_elim inl (λ l. inr ((q x i).1 l)) n));
      some = leading any v;
    }

    module _ (any : ℕ) (v : United src cols a b any) (out new : List ℕ) where
      pub fired_kept : u.resets ≡ 0 → Joined out new (Kept src cols) a b → Fired u src out new (not (eqb any 0))
      fired_kept e j = fired out new any (Kept src cols) a b v j (λ x i. (λ w. to x i (w.0, w.1, w.2.0, w.2.1), λ l. from x i l))
        where
          to : (x i : ℕ) → Allowed x i → Led u src x i
          to x i m = leads x i m (rw e refl) (rw e refl)

          from : (x i : ℕ) → Led u src x i → (a ≤ i) × (i < b) × (Member src x i × In x cols)
          from x i l =
              let m = allowed_from x i l in
              let p : l.from_x ≡ x = sym (l.x_is ∙ ap (λ (n : ℕ). cond (bit n 0) 0 l.from_x) e) in
              let q : l.from_i ≡ i = sym (l.i_is ∙ ap (λ (n : ℕ). cond (bit n 1) 0 l.from_i) e) in
              (omega (arith, m.0), omega (arith, m.1), (member_at src p q m.2, sym (ap (bit cols) p) ∙ m.3))

      pub fired_first : u.resets ≡ 1 → Joined out new (Reset src cols) a b → Fired u src out new (not (eqb any 0))
      fired_first e j = fired out new any (Reset src cols) a b v j (λ x i. (λ w. to x i w.2.1.0 w.2.0 (w.0, w.1, w.2.1.1, w.2.1.2), λ l. from x i l))
        where
          to : (x i y : ℕ) → x ≡ 0 → Allowed y i → Led u src x i
          to x i y o m = leads y i m (rw e o) (rw e refl)

          from : (x i : ℕ) → Led u src x i → (a ≤ i) × (i < b) × Reset src cols x i
          from x i l =
              let m = allowed_from x i l in
              let p : x ≡ 0 = l.x_is ∙ ap (λ (n : ℕ). cond (bit n 0) 0 l.from_x) e in
              let q : l.from_i ≡ i = sym (l.i_is ∙ ap (λ (n : ℕ). cond (bit n 1) 0 l.from_i) e) in
              (omega (arith, m.0), omega (arith, m.1), (p, (l.from_x, member_at src refl q m.2, m.3)))

      pub fired_second : u.resets ≡ 2 → Joined out new (λ (x i : ℕ). In x any) 0 1 → Fired u src out new (not (eqb any 0))
      fired_second e j = fired out new any (λ (x i : ℕ). In x any) 0 1 v j (λ x i. (λ w. to x i (omega (arith, w.1)) ((v.right x).0 w.2), λ l. from x i l))
        where
          to : (x i : ℕ) → i ≡ 0 → (y : ℕ) × (a ≤ y) × (y < b) × Member src x y × In x cols → Led u src x i
          to x i o m = leads x m.0 (m.1, m.2, m.3, m.4) (rw e refl) (rw e o)

          from : (x i : ℕ) → Led u src x i → (0 ≤ i) × (i < 1) × In x any
          from x i l =
              let m = allowed_from x i l in
              let p : l.from_x ≡ x = sym (l.x_is ∙ ap (λ (n : ℕ). cond (bit n 0) 0 l.from_x) e) in
              let q : i ≡ 0 = l.i_is ∙ ap (λ (n : ℕ). cond (bit n 1) 0 l.from_i) e in
              (omega arith, omega arith, (v.right x).1 (l.from_i, m.0, m.1, member_at src p refl m.2, sym (ap (bit cols) p) ∙ m.3))

      pub fired_both : (w : ℕ) → Flag any w → u.resets ≡ 3 → Joined out new (λ (x i : ℕ). In x w) 0 1 → Fired u src out new (not (eqb any 0))
      fired_both w g e j = fired out new any (λ (x i : ℕ). In x w) 0 1 v j (λ x i. (λ n. to x i ((g.right x).0 n.2) (omega (arith, n.1)), λ l. from x i l))
        where
          to : (x i : ℕ) → (x ≡ 0) × ((z : ℕ) × In z any) → i ≡ 0 → Led u src x i
          to x i o n =
              let m = (v.right o.1.0).0 o.1.1 in
              leads o.1.0 m.0 (m.1, m.2, m.3, m.4) (rw e o.0) (rw e n)

          from : (x i : ℕ) → Led u src x i → (0 ≤ i) × (i < 1) × In x w
          from x i l =
              let p : x ≡ 0 = l.x_is ∙ ap (λ (n : ℕ). cond (bit n 0) 0 l.from_x) e in
              let q : i ≡ 0 = l.i_is ∙ ap (λ (n : ℕ). cond (bit n 1) 0 l.from_i) e in
              (omega arith, omega arith, (g.right x).1 (p, (l.from_x, united_from v l)))
