-- A buffer that is filled part by part.
-- Assumes nothing.
use mathlib.Core.Path.{◌≡◌, refl, sym, ap, ◌∙◌, subst}
use mathlib.Core.List.{[], ◌++◌, append_assoc, append-nil}
use Prim.Native.Nat.{ℕ, ◌+◌, ◌≤◌}
use native.Mathlib.Omega.{arith}
use lib.ListN.{length, length-append}
use Rattle.enforcement.specs.Automaton.{Bytes}
use Rattle.retimer.specs.Bytes.{Wrote}
use Rattle.retimer.proofs.Writing.{next, as_part, writes_none}

-- Of all that is to be put at a place, some is done, up to an end, and the rest is left.
pub record Filling (before : Bytes) (at : ℕ) (all out : Bytes) (end : ℕ) (rest : Bytes) : Type 0 where
  pub done : Bytes
  pub wrote : Wrote before at done out end
  pub is : done ++ rest ≡ all
  pub same : length out ≡ length before

pub filling_none : (before : Bytes) (at : ℕ) (all : Bytes) → Filling before at all before at all
filling_none before at all = record { done = []; wrote = writes_none before at; is = refl; same = refl }

module _ {before all out rest : Bytes} {at end : ℕ} (f : Filling before at all out end rest) where
  pub filling_as : {other : Bytes} → rest ≡ other → Filling before at all out end other
  filling_as e = subst (Filling before at all out end) e f

  -- There is room for the rest.
  pub filling_room : at + length all ≤ length before → end + length rest ≤ length out
  filling_room room = omega (arith, f.wrote.ends, length-append f.done rest, ap length f.is, f.same)

  pub filling_all : rest ≡ [] → Wrote before at all out end
  filling_all e = as_part f.wrote (sym (append-nil f.done) ∙ ap (λ (r : Bytes). f.done ++ r) (sym e) ∙ f.is)

-- There is room for the next part.
pub part_room : (part rest : Bytes) {before all out : Bytes} {at end : ℕ} → Filling before at all out end (part ++ rest) → at + length all ≤ length before → end + length part ≤ length out
part_room part rest f room = omega (arith, filling_room f room, length-append part rest)

-- One part more.
pub filling_more : {before all out part rest after : Bytes} {at end next-end : ℕ} → Filling before at all out end (part ++ rest) → at + length all ≤ length before → Wrote out end part after next-end → length after ≡ length out → Filling before at all after next-end rest
filling_more {before} {all} {out} {part} {rest} {after} {at} {end} f room w l =
    let fits = filling_room f room in
    record {
      done = f.done ++ part;
      wrote = next (omega (arith, f.same)) f.wrote w;
      is = append_assoc f.done part rest ∙ f.is;
      same = l ∙ f.same;
    }
