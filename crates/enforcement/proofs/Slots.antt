-- Laws of slots and requests.
use mathlib.Core.Path.{◌≡◌, refl, ap}
use mathlib.Core.List.{List, [], ◌∷◌, ◌++◌, map, map-append}
use Prim.Native.Nat.{ℕ, zero, suc, ◌≤◌}
use native.Mathlib.Omega.{arith}
use lib.ListN.{length, length-map, drop}
use Rattle.enforcement.specs.TimedWord.{Event, stamp}
use Rattle.enforcement.specs.History.{Request, Slot, actions_of, event_of, word_of, place}

pub actions_append : (rs qs : List Request) → actions_of (rs ++ qs) ≡ actions_of rs ++ actions_of qs
actions_append rs qs = map-append (λ (r : Request). r.action) rs qs

pub actions_length : (rs : List Request) → length (actions_of rs) ≡ length rs
actions_length rs = length-map rs (λ (r : Request). r.action)

pub word_append : (u v : List Slot) → word_of (u ++ v) ≡ word_of u ++ word_of v
word_append u v = map-append event_of u v

pub word_place : (rs : List Request) (ds : List ℕ) → word_of (place rs ds) ≡ stamp (actions_of rs) ds
unfolding place stamp
word_place [] ds = refl
word_place (r ∷ rs) [] = refl
word_place (r ∷ rs) (d ∷ ds) = ap (λ (w : List Event). record { action = r.action; date = d } ∷ w) (word_place rs ds)

pub place_length : (rs : List Request) (ds : List ℕ) → length ds ≡ length rs → length (place rs ds) ≡ length rs
unfolding place
place_length [] ds h = refl
place_length (r ∷ rs) [] h = h
place_length (r ∷ rs) (d ∷ ds) h = ap suc (place_length rs ds (omega arith))

pub request_place : (rs : List Request) (ds : List ℕ) → length ds ≡ length rs → map (λ (s : Slot). s.request) (place rs ds) ≡ rs
unfolding place
request_place [] ds h = refl
request_place (r ∷ rs) [] h = absurd (omega arith)
request_place (r ∷ rs) (d ∷ ds) h = ap (λ (qs : List Request). r ∷ qs) (request_place rs ds (omega arith))

-- Where something is left after the first n, the first n and it are there.
pub drop_next : (n : ℕ) (w : List Slot) (e : Slot) (rest : List Slot) → drop n w ≡ e ∷ rest → (drop (suc n) w ≡ rest) × (suc n ≤ length w)
drop_next zero [] e rest h = absurd (let x : ◌≡◌ {A = ℕ} 0 1 = cc in omega arith)
drop_next zero (f ∷ w) e rest h = (cc, omega arith)
drop_next (suc n) [] e rest h = absurd (let x : ◌≡◌ {A = ℕ} 0 1 = cc in omega arith)
drop_next (suc n) (f ∷ w) e rest h = ((drop_next n w e rest h).0, omega (arith, (drop_next n w e rest h).1))
