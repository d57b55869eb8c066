-- The search finds an accepting location exactly where one can be reached.
use mathlib.Core.Path.{◌≡◌, refl, ap, sym, ◌∙◌, subst, subst⁻¹}
use mathlib.Core.Bool.{Bool, true, false}
use mathlib.Core.List.{List, [], ◌∷◌, ◌++◌}
use mathlib.Core.Option.{Option, none, some}
use mathlib.Core.Logic.{◌⊎◌, inl, inr}
use Prim.Native.Nat.{ℕ, zero, suc, ◌+◌, ◌*◌, ◌≤◌, ◌<◌}
use native.Mathlib.Omega.{arith}
use native.Mathlib.Nat.{eq-or-lt_of_le, not-suc-le-zero, le_refl}
use lib.Dec.{eqb}
use lib.ListN.{length, length-append}
use borrow.Author.Tests.{eqb-true, eqb-false}
use Rattle.enforcement.specs.TimedWord.{Configuration}
use Rattle.enforcement.specs.Model.{advance, top, width, area, index, member, found, successors, explore}
use Rattle.enforcement.proofs.Saturation.{Steps}
use Rattle.enforcement.proofs.Liveness.{Live, here, tick, act}

-- ---- Numbers in a list

abbrev pub Mem : ℕ → List ℕ → Type 0
Mem a [] = ⊥
Mem a (b ∷ l) = (a ≡ b) ⊎ Mem a l

member_yes : (a : ℕ) (l : List ℕ) → member a l ≡ true → Mem a l
member_yes a [] e = let x : ◌≡◌ {A = ℕ} 0 1 = cc in absurd (omega arith)
member_yes a (b ∷ l) e = go (eqb a b) refl e (λ k. member_yes a l k)
  where
    go : (u : Bool) → eqb a b ≡ u → elim u [ true ↦ true | false ↦ member a l ] ≡ true → (member a l ≡ true → Mem a l) → (a ≡ b) ⊎ Mem a l
    go true x y f = inl (eqb-true a b x)
    go false x y f = inr (f y)

member_no : (a : ℕ) (l : List ℕ) → member a l ≡ false → Mem a l → ⊥
member_no a [] e m = m
member_no a (b ∷ l) e m = go (eqb a b) refl e m (λ k. member_no a l k)
  where
    go : (u : Bool) → eqb a b ≡ u → elim u [ true ↦ true | false ↦ member a l ] ≡ false → (a ≡ b) ⊎ Mem a l → (member a l ≡ false → Mem a l → ⊥) → ⊥
    go true x y z f = let k : ◌≡◌ {A = ℕ} 0 1 = cc in omega arith
    go false x y (inl z) f = eqb-false a b x z
    go false x y (inr z) f = f y z

abbrev Distinct : List ℕ → Type 0
Distinct [] = Unit {0}
Distinct (a ∷ l) = (Mem a l → ⊥) × Distinct l

abbrev AllBelow : ℕ → List ℕ → Type 0
AllBelow n [] = Unit {0}
AllBelow n (a ∷ l) = (a < n) × AllBelow n l

-- ---- Distinct numbers below n are at most n

abbrev remove : ℕ → List ℕ → List ℕ
remove a [] = []
remove a (b ∷ l) = elim (eqb a b) [ true ↦ remove a l | false ↦ b ∷ remove a l ]

removed_mem : (x a : ℕ) (l : List ℕ) → Mem x (remove a l) → Mem x l
removed_mem x a [] m = m
removed_mem x a (b ∷ l) m = go (eqb a b) m (λ k. removed_mem x a l k)
  where
    go : (u : Bool) → Mem x (elim u [ true ↦ remove a l | false ↦ b ∷ remove a l ]) → (Mem x (remove a l) → Mem x l) → (x ≡ b) ⊎ Mem x l
    go true z f = inr (f z)
    go false (inl z) f = inl z
    go false (inr z) f = inr (f z)

removed_distinct : (a : ℕ) (l : List ℕ) → Distinct l → Distinct (remove a l)
removed_distinct a [] d = tt
removed_distinct a (b ∷ l) d =
    elim (eqb a b) as (λ (u : Bool). Distinct (elim u [ true ↦ remove a l | false ↦ b ∷ remove a l ])) [
      | true ↦ removed_distinct a l d.1
      | false ↦ ((λ m. d.0 (removed_mem b a l m)), removed_distinct a l d.1)
    ]

removed_absent : (a : ℕ) (l : List ℕ) → (Mem a l → ⊥) → length (remove a l) ≡ length l
removed_absent a [] f = refl
removed_absent a (b ∷ l) f = go (eqb a b) refl (removed_absent a l (λ m. f (inr m)))
  where
    go : (u : Bool) → eqb a b ≡ u → length (remove a l) ≡ length l → length {A = ℕ} (elim u [ true ↦ remove a l | false ↦ b ∷ remove a l ]) ≡ suc (length l)
    go true x e = absurd (f (inl (eqb-true a b x)))
    go false x e = ap suc e

removed_length : (a : ℕ) (l : List ℕ) → Distinct l → length l ≤ suc (length (remove a l))
removed_length a [] d = omega arith
removed_length a (b ∷ l) d = go (eqb a b) refl (removed_length a l d.1)
  where
    go : (u : Bool) → eqb a b ≡ u → length l ≤ suc (length (remove a l)) → suc (length l) ≤ suc (length {A = ℕ} (elim u [ true ↦ remove a l | false ↦ b ∷ remove a l ]))
    go true x h = omega (arith, removed_absent a l (λ m. d.0 (subst (λ (z : ℕ). Mem z l) (eqb-true a b x) m)))
    go false x h = omega arith

removed_below : (n : ℕ) (l : List ℕ) → AllBelow (suc n) l → AllBelow n (remove n l)
removed_below n [] h = tt
removed_below n (b ∷ l) h = go (eqb n b) refl (removed_below n l h.1)
  where
    go : (u : Bool) → eqb n b ≡ u → AllBelow n (remove n l) → AllBelow n (elim u [ true ↦ remove n l | false ↦ b ∷ remove n l ])
    go true x k = k
    go false x k = (elim (eq-or-lt_of_le h.0) [ inl e ↦ absurd (eqb-false n b x (omega arith)) | inr e ↦ omega arith ], k)

pigeon : (n : ℕ) (l : List ℕ) → Distinct l → AllBelow n l → length l ≤ n
pigeon zero [] d h = omega arith
pigeon zero (a ∷ l) d h = absurd (not-suc-le-zero h.0)
pigeon (suc n) l d h = omega (arith, removed_length n l d, pigeon n (remove n l) (removed_distinct n l d) (removed_below n l h))

-- ---- Configurations

abbrev pub In : Configuration → List Configuration → Type 0
In p [] = ⊥
In p (q ∷ l) = (p ≡ q) ⊎ In p l

in_append : (p : Configuration) (k l : List Configuration) → In p (k ++ l) → In p k ⊎ In p l
in_append p [] l h = inr h
in_append p (q ∷ k) l (inl h) = inl (inl h)
in_append p (q ∷ k) l (inr h) = elim (in_append p k l h) [ inl x ↦ inl (inr x) | inr x ↦ inr x ]

in_left : (p : Configuration) (k l : List Configuration) → In p k → In p (k ++ l)
in_left p [] l h = absurd h
in_left p (q ∷ k) l (inl h) = inl h
in_left p (q ∷ k) l (inr h) = inr (in_left p k l h)

in_right : (p : Configuration) (k l : List Configuration) → In p l → In p (k ++ l)
in_right p [] l h = h
in_right p (q ∷ k) l h = inr (in_right p k l h)

pub record InRange (size : ℕ) (p : Configuration) : Type 0 where
  pub location_in : p.location < size
  pub x_in : p.x ≤ top
  pub y_in : p.y ≤ top

digit : (a b x y : ℕ) → x < width → y < width → a * width + x ≡ b * width + y → (a ≡ b) × (x ≡ y)
digit a b x y h k e = let z : a ≡ b = omega arith in (z, omega arith)

index_same : (size : ℕ) (p q : Configuration) → InRange size p → InRange size q → index p ≡ index q → p ≡ q
index_same size p q h k e =
    let f = digit (p.location * width + p.x) (q.location * width + q.x) p.y q.y (omega arith) (omega arith) e in
    let g = digit p.location q.location p.x q.x (omega arith) (omega arith) f.0 in
    λ i. record { location = g.0 i; x = g.1 i; y = f.1 i }

index_below : (size : ℕ) (p : Configuration) → InRange size p → index p < size * area
index_below size p h = omega arith

-- ---- The next configurations

module _ (st : Steps) where
  successors_tick : (k : ℕ) (p : Configuration) → In (advance 1 p) (successors st k p)
  unfolding successors
  successors_tick zero p = inl refl
  successors_tick (suc k) p = go (st k p) (successors_tick k p)
    where
      go : (o : Option Configuration) → In (advance 1 p) (successors st k p) → In (advance 1 p) (found o (successors st k p))
      go none h = h
      go (some q) h = inr h

  successors_action : (k : ℕ) (p q : Configuration) (c : ℕ) → c < k → st c p ≡ some q → In q (successors st k p)
  unfolding successors
  successors_action zero p q c h e = absurd (not-suc-le-zero h)
  successors_action (suc k) p q c h e = go (st k p) refl (eq-or-lt_of_le h) (λ z. successors_action k p q c z e)
    where
      go : (o : Option Configuration) → st k p ≡ o → (suc c ≡ suc k) ⊎ (suc c < suc k) → (c < k → In q (successors st k p)) → In q (found o (successors st k p))
      go none x (inl y) f = let z : c ≡ k = omega arith in let u : ◌≡◌ {A = Option Configuration} none (some q) = sym x ∙ ap (λ (j : ℕ). st j p) (sym z) ∙ e in let v : ◌≡◌ {A = ℕ} 0 1 = cc in absurd (omega arith)
      go none x (inr y) f = f (omega arith)
      go (some r) x (inl y) f = let z : c ≡ k = omega arith in let u : some q ≡ some r = sym e ∙ ap (λ (j : ℕ). st j p) z ∙ x in inl (cc)
      go (some r) x (inr y) f = inr (f (omega arith))

  successors_length : (k : ℕ) (p : Configuration) → length (successors st k p) ≤ suc k
  unfolding successors
  successors_length zero p = omega arith
  successors_length (suc k) p = go (st k p) (successors_length k p)
    where
      go : (o : Option Configuration) → length (successors st k p) ≤ suc k → length (found o (successors st k p)) ≤ suc (suc k)
      go none h = omega arith
      go (some q) h = omega arith

  -- A step stays in range.
  unfoldable pub StepsIn : ℕ → Type 0
  StepsIn size = (c : ℕ) (p q : Configuration) → InRange size p → st c p ≡ some q → InRange size q

  successors_in : (size : ℕ) → StepsIn size → (k : ℕ) (p : Configuration) → InRange size p → (y : Configuration) → In y (successors st k p) → InRange size y
  unfolding successors StepsIn
  successors_in size si zero p h y (inl e) = subst⁻¹ (InRange size) e (record { location_in = h.location_in; x_in = omega arith; y_in = omega arith })
  successors_in size si zero p h y (inr e) = absurd e
  successors_in size si (suc k) p h y i = go (st k p) refl i (successors_in size si k p h y)
    where
      go : (o : Option Configuration) → st k p ≡ o → In y (found o (successors st k p)) → (In y (successors st k p) → InRange size y) → InRange size y
      go none x j f = f j
      go (some q) x (inl j) f = subst⁻¹ (InRange size) j (si k p q h x)
      go (some q) x (inr j) f = f j

-- ---- The search

module _ (st : Steps) (acc : ℕ → Bool) (n : ℕ) where
  -- Some configuration of a list is live.
  abbrev pub AnyLive : List Configuration → Type 0
  AnyLive [] = ⊥
  AnyLive (p ∷ l) = Live st acc n p ⊎ AnyLive l

  any_split : (k l : List Configuration) → AnyLive (k ++ l) → AnyLive k ⊎ AnyLive l
  any_split [] l h = inr h
  any_split (p ∷ k) l (inl h) = inl (inl h)
  any_split (p ∷ k) l (inr h) = elim (any_split k l h) [ inl x ↦ inl (inr x) | inr x ↦ inr x ]

  successors_live : (k : ℕ) → k ≤ n → (p : Configuration) → AnyLive (successors st k p) → Live st acc n p
  unfolding successors
  successors_live zero h p (inl g) = tick g
  successors_live zero h p (inr g) = absurd g
  successors_live (suc k) h p g = go (st k p) refl g (successors_live k (omega arith) p)
    where
      go : (o : Option Configuration) → st k p ≡ o → AnyLive (found o (successors st k p)) → (AnyLive (successors st k p) → Live st acc n p) → Live st acc n p
      go none x y f = f y
      go (some q) x (inl y) f = act k h x y
      go (some q) x (inr y) f = f y

  pub explore_live : (k : ℕ) (todo : List Configuration) (seen : List ℕ) → explore st acc n k todo seen ≡ true → AnyLive todo
  unfolding explore
  explore_live zero todo seen e = let x : ◌≡◌ {A = ℕ} 0 1 = cc in absurd (omega arith)
  explore_live (suc k) [] seen e = let x : ◌≡◌ {A = ℕ} 0 1 = cc in absurd (omega arith)
  explore_live (suc k) (p ∷ todo) seen e = go (acc p.location) (member (index p) seen) refl e (λ l z. explore_live k l z)
    where
      go : (a b : Bool) → acc p.location ≡ a
          → elim a [ true ↦ true | false ↦ elim b [ true ↦ explore st acc n k todo seen | false ↦ explore st acc n k (successors st n p ++ todo) (index p ∷ seen) ] ] ≡ true
          → ((l : List Configuration) (z : List ℕ) → explore st acc n k l z ≡ true → AnyLive l) → AnyLive (p ∷ todo)
      go true b x y f = inl (here x)
      go false true x y f = inr (f todo seen y)
      go false false x y f = elim (any_split (successors st n p) todo (f (successors st n p ++ todo) (index p ∷ seen) y)) [ inl z ↦ inl (successors_live n (le_refl n) p z) | inr z ↦ inr z ]

  module _ (size : ℕ) (steps_in : StepsIn st size) where
    -- What was seen is not accepting, and what comes next was seen or is still to do.
    Kept : List Configuration → List ℕ → Type 0
    Kept todo seen = (x : Configuration) → InRange size x → Mem (index x) seen → (acc x.location ≡ false) × ((y : Configuration) → In y (successors st n x) → Mem (index y) seen ⊎ In y todo)

    -- A set that nothing leads out of and that has nothing accepting.
    record Closure (todo : List Configuration) (seen : List ℕ) : Type 0 where
      set : List ℕ
      closed : (x : Configuration) → InRange size x → Mem (index x) set → (acc x.location ≡ false) × ((y : Configuration) → In y (successors st n x) → Mem (index y) set)
      has_todo : (y : Configuration) → In y todo → Mem (index y) set
      has_seen : (a : ℕ) → Mem a seen → Mem a set

    AllIn : List Configuration → Type 0
    AllIn todo = (y : Configuration) → In y todo → InRange size y

    done : (seen : List ℕ) → Kept [] seen → Closure [] seen
    unfolding Kept
    done seen h = record {
      set = seen;
      has_todo = λ y i. absurd i;
      has_seen = λ a i. i;
      closed = λ x r i. ((h x r i).0, λ y j. elim ((h x r i).1 y j) [ inl z ↦ z | inr z ↦ absurd z ]);
    }

    explore_closed : (k : ℕ) (todo : List Configuration) (seen : List ℕ) (r : ℕ) → explore st acc n k todo seen ≡ false → Kept todo seen → AllIn todo → Distinct seen → AllBelow (size * area) seen
        → r + length seen ≡ size * area → length todo + (n + 2) * r ≤ k → Closure todo seen
    unfolding explore Kept AllIn
    explore_closed zero [] seen r e h i d b s f = done seen h
    explore_closed zero (p ∷ todo) seen r e h i d b s f = absurd (omega arith)
    explore_closed (suc k) [] seen r e h i d b s f = done seen h
    explore_closed (suc k) (p ∷ todo) seen r e h i d b s f =
        go (acc p.location) (member (index p) seen) r refl refl e s f (λ l z j. explore_closed k l z j)
      where
        go : (u v : Bool) (r : ℕ) → acc p.location ≡ u → member (index p) seen ≡ v
            → elim u [ true ↦ true | false ↦ elim v [ true ↦ explore st acc n k todo seen | false ↦ explore st acc n k (successors st n p ++ todo) (index p ∷ seen) ] ] ≡ false
            → r + length seen ≡ size * area → suc (length todo) + (n + 2) * r ≤ suc k
            → ((l : List Configuration) (z : List ℕ) (j : ℕ) → explore st acc n k l z ≡ false → Kept l z → AllIn l → Distinct z → AllBelow (size * area) z → j + length z ≡ size * area → length l + (n + 2) * j ≤ k → Closure l z)
            → Closure (p ∷ todo) seen
        go true v r x y e s f ih = let z : ◌≡◌ {A = ℕ} 0 1 = cc in absurd (omega arith)
        go false true r x y e s f ih =
            let m : Mem (index p) seen = member_yes (index p) seen y in
            let c : Closure todo seen = ih todo seen r e
            (λ z q k. ((h z q k).0, λ w j. elim ((h z q k).1 w j) [ inl o ↦ inl o | inr o ↦ elim o [ inl g ↦ inl (subst⁻¹ (λ (a : Configuration). Mem (index a) seen) g m) | inr g ↦ inr g ] ]))
            (λ w j. i w (inr j)) d b s (omega arith) in
            record {
              set = c.set;
              closed = c.closed;
              has_seen = c.has_seen;
              has_todo = λ w j. elim j [ inl g ↦ subst⁻¹ (λ (a : Configuration). Mem (index a) c.set) g (c.has_seen (index p) m) | inr g ↦ c.has_todo w g ];
            }
        go false false zero x y e s f ih = absurd (omega (arith, pigeon (size * area) (index p ∷ seen) (member_no (index p) seen y, d) (index_below size p (i p (inl refl)), b)))
        go false false (suc r) x y e s f ih =
            let c : Closure (successors st n p ++ todo) (index p ∷ seen) = ih (successors st n p ++ todo) (index p ∷ seen) r e
            (λ z q k. elim k [
              | inl o ↦
                  let same : z ≡ p = index_same size z p q (i p (inl refl)) o in
                  (ap (λ (a : Configuration). acc a.location) same ∙ x, λ w j. inr (in_left w (successors st n p) todo (subst (λ (a : Configuration). In w (successors st n a)) same j)))
              | inr o ↦ ((h z q o).0, λ w j. elim ((h z q o).1 w j) [ inl g ↦ inl (inr g) | inr g ↦ elim g [ inl a ↦ inl (inl (ap index a)) | inr a ↦ inr (in_right w (successors st n p) todo a) ] ])
            ])
            (λ w j. elim (in_append w (successors st n p) todo j) [ inl g ↦ successors_in st size steps_in n p (i p (inl refl)) w g | inr g ↦ i w (inr g) ])
            (member_no (index p) seen y, d) (index_below size p (i p (inl refl)), b) (omega arith)
            (omega (arith, length-append (successors st n p) todo, successors_length st n p)) in
            record {
              set = c.set;
              closed = c.closed;
              has_seen = λ a o. c.has_seen a (inr o);
              has_todo = λ w j. elim j [ inl g ↦ c.has_seen (index w) (inl (ap index g)) | inr g ↦ c.has_todo w (in_right w (successors st n p) todo g) ];
            }

    -- Nothing in such a set is live.
    closed_stuck : {todo : List Configuration} {seen : List ℕ} (c : Closure todo seen) (x : Configuration) → Live st acc n x → InRange size x → Mem (index x) c.set → ⊥
    unfolding StepsIn
    closed_stuck c x (here {p = z} e) r m = let a = (c.closed z r m).0 in let o : ◌≡◌ {A = ℕ} 0 1 = cc in omega arith
    closed_stuck c x (tick {p = z} g) r m =
        closed_stuck c (advance 1 z) g (successors_in st size steps_in n z r (advance 1 z) (successors_tick st n z)) ((c.closed z r m).1 (advance 1 z) (successors_tick st n z))
    closed_stuck c x (act {p = z} {q = q} k b e g) r m = closed_stuck c q g (steps_in k z q r e) ((c.closed z r m).1 q (successors_action st n z q k b e))

    pub live_explore : (p : Configuration) → InRange size p → Live st acc n p → explore st acc n (suc ((n + 2) * (size * area))) (p ∷ []) [] ≡ true
    unfolding Kept AllIn
    live_explore p r g = go (explore st acc n (suc ((n + 2) * (size * area))) (p ∷ []) []) refl
      where
        go : (u : Bool) → explore st acc n (suc ((n + 2) * (size * area))) (p ∷ []) [] ≡ u → u ≡ true
        go true e = refl
        go false e =
            let c : Closure (p ∷ []) [] = explore_closed (suc ((n + 2) * (size * area))) (p ∷ []) [] (size * area) e (λ x q m. absurd m)
            (λ y j. elim j [ inl h ↦ subst⁻¹ (InRange size) h r | inr h ↦ absurd h ]) tt tt (omega arith) (omega arith) in
            absurd (closed_stuck c p g r (c.has_todo p (inl refl)))
