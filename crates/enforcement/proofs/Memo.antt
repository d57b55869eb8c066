-- A table of a function's values says what the function says.
use mathlib.Core.Path.{◌≡◌, ap, sym, ◌∙◌}
use mathlib.Core.Option.{Option, none, some}
use Prim.Native.Nat.{ℕ, zero, suc, ◌+◌}
use native.Mathlib.Nat.{add-zero, zero-add, add-suc, suc-add}
use lib.ListN.{get_elem?}
use Rattle.enforcement.specs.Automaton.{Bytes, transitions, locations}
use Rattle.enforcement.specs.TimedWord.{Configuration, step, fire_first}
use Rattle.enforcement.specs.Model.{cells, look, memo, tabled, steps, width}

module _ {A : Type 0} where
  abbrev or : Option A → A → A
  or o a = elim o [ none ↦ a | some v ↦ v ]

  cells_at : (g : ℕ → A) (n k i : ℕ) (a : A) → a ≡ g (k + i) → or (get_elem? (cells g n k) i) a ≡ g (k + i)
  unfolding cells
  cells_at g zero k i a e = e
  cells_at g (suc n) k zero a e = ap g (sym (add-zero k))
  cells_at g (suc n) k (suc i) a e =
      cells_at g n (suc k) i a (e ∙ ap g (add-suc k i ∙ sym (suc-add k i))) ∙ ap g (suc-add k i ∙ sym (add-suc k i))

  pub memo_is : (n : ℕ) (g : ℕ → A) (i : ℕ) → memo n g i ≡ g i
  unfolding memo look
  memo_is n g i = cells_at g n 0 i (g i) (ap g (sym (zero-add i))) ∙ ap g (zero-add i)

pub tabled_is : {A : Type 0} (n : ℕ) (f : Configuration → A) (p : Configuration) → tabled n f p ≡ f p
unfolding tabled
tabled_is n f p =
    ap (λ g. g p.x p.y) (memo_is n (λ l. memo width (λ x. memo width (λ y. f (record { location = l; x = x; y = y })))) p.location)
    ∙ ap (λ g. g p.y) (memo_is width (λ x. memo width (λ y. f (record { location = p.location; x = x; y = y }))) p.x)
    ∙ memo_is width (λ y. f (record { location = p.location; x = p.x; y = y })) p.y

pub steps_is : (s : Bytes) (c : ℕ) (p : Configuration) → steps s c p ≡ step s c p
unfolding steps step
steps_is s c p = ap (λ ts. fire_first ts c p) (memo_is (locations s) (transitions s) p.location)
