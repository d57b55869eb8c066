-- Laws of the lamp: with and without pending actions.
-- Assumes nothing.
use mathlib.Core.Path.{◌≡◌, refl, ap, sym, ◌∙◌}
use mathlib.Core.Bool.{Bool}
use mathlib.Core.List.{List, [], ◌∷◌}
use Prim.Native.Nat.{ℕ}
use native.Mathlib.Omega.{arith}
use lib.ListN.{length}
use Rattle.enforcement.specs.Automaton.{Bytes, actions}
use Rattle.enforcement.specs.TimedWord.{Configuration}
use Rattle.enforcement.specs.Model.{Compiled, prospect, compile}
use Rattle.enforcement.specs.Monitor.{is_dead, none_next, is_lit}
use Rattle.retimer.proofs.CallLaws.{known_is}

pub lit_empty : (s : Bytes) (p : Configuration) (cs : List ℕ) (x : Bool) → length cs ≡ 0 → x ≡ none_next (compile s) p (actions s) → x ≡ is_lit (compile s) p cs
unfolding is_lit
lit_empty s p [] x h e = e ∙ ap (none_next (compile s) p) (sym (known_is s))
lit_empty s p (c ∷ cs) x h e = absurd (omega arith)

pub lit_some : (m : Compiled) (p : Configuration) (cs : List ℕ) (x : Bool) → (length cs ≡ 0 → ⊥) → x ≡ is_dead (prospect m cs p) → x ≡ is_lit m p cs
unfolding is_lit
lit_some m p [] x h e = absurd (h refl)
lit_some m p (c ∷ cs) x h e = e
