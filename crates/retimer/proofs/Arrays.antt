-- Laws of lists that are kept at the front of arrays.
-- Assumes nothing.
use mathlib.Core.Path.{◌≡◌, refl, ap, sym, ◌∙◌}
use mathlib.Core.List.{List, [], ◌∷◌, ◌++◌, map, map-append, append_assoc, append-nil}
use Prim.Native.Nat.{ℕ, zero, suc, ◌+◌, ◌≤◌, ◌<◌}
use native.Mathlib.Omega.{arith}
use native.Mathlib.Numerals.{add-one}
use lib.ListN.{length, take, get_or, set, replicate, length-map}
use lib.Seq.{take-suc-set, take-suc, length-take-le}
use Rattle.enforcement.specs.History.{Request, Slot, actions_of, place}
use Rattle.retimer.specs.declared.limits.Request as declared
use Rattle.retimer.specs.declared.limits.Slot as slots
use Rattle.retimer.specs.View.{request_of, slot_of}
use Rattle.retimer.specs.Calls.{no_request}

-- ---- Zeros

pub zero_at : (n i : ℕ) → ◌≡◌ {A = ℕ} (get_or (replicate n 0) i 0) 0
zero_at zero i = refl
zero_at (suc n) zero = refl
zero_at (suc n) (suc i) = zero_at n i

-- ---- The actions of requests are copied, place by place

pub actions_more : (h : List declared.Request) (r : List ℕ) (i : ℕ) → i < length h → i < length r → take i r ≡ actions_of (map request_of (take i h)) → take (i + 1) (set r i (get_or h i no_request).action) ≡ actions_of (map request_of (take (i + 1) h))
actions_more h r i a b e = rw (add-one, take-suc-set r i (get_or h i no_request).action b, take-suc h i no_request a, map-append, map-append, e)

pub actions_whole : (h : List declared.Request) (r : List ℕ) (i n : ℕ) → i ≡ n → take i r ≡ actions_of (map request_of (take i h)) → take n r ≡ actions_of (map request_of (take n h))
actions_whole h r i n z e = rw z at e

-- ---- Slots are added after the first n, place by place

place_snoc : (rs : List Request) (ds : List ℕ) (q : Request) (d : ℕ) → length rs ≡ length ds → place (rs ++ (q ∷ [])) (ds ++ (d ∷ [])) ≡ place rs ds ++ (record { request = q; date = d } ∷ [])
unfolding place
place_snoc [] [] q d e = refl
place_snoc [] (x ∷ ds) q d e = absurd (omega arith)
place_snoc (r ∷ rs) [] q d e = absurd (omega arith)
place_snoc (r ∷ rs) (x ∷ ds) q d e = ap (λ (l : List Slot). record { request = r; date = x } ∷ l) (place_snoc rs ds q d (omega arith))

pub slots_none : (r : List slots.Slot) (rs : List declared.Request) (ds : List ℕ) (n : ℕ) → map slot_of (take (n + 0) r) ≡ map slot_of (take n r) ++ place (map request_of (take 0 rs)) (take 0 ds)
unfolding place
slots_none r rs ds n = let z : n + 0 ≡ n = omega arith in rw z (sym (append-nil (map slot_of (take n r))))

slots_one : (s r : List slots.Slot) (rs : List Request) (x : declared.Request) (ds : List ℕ) (n i : ℕ) → length rs ≡ i → i < length ds → n + i < length r
    → map slot_of (take (n + i) r) ≡ map slot_of (take n s) ++ place rs (take i ds)
    → map slot_of (take (n + (i + 1)) (set r (n + i) (record { request = x; date = get_or ds i 0 }))) ≡ map slot_of (take n s) ++ place (rs ++ (request_of x ∷ [])) (take (i + 1) ds)
slots_one s r rs x ds n i l b h e =
    let j : n + (i + 1) ≡ suc (n + i) = omega arith in
    let q : take (i + 1) ds ≡ take i ds ++ (get_or ds i 0 ∷ []) = rw (add-one, take-suc ds i 0 b) in
    let m : length rs ≡ length (take i ds) = l ∙ sym (length-take-le i ds (omega arith)) in
    rw (j, take-suc-set r (n + i) (record { request = x; date = get_or ds i 0 }) h, map-append, e, q, place_snoc rs (take i ds) (request_of x) (get_or ds i 0) m) (append_assoc (map slot_of (take n s)) (place rs (take i ds)) _)

module _ (s r : List slots.Slot) (rs : List declared.Request) (ds : List ℕ) (n i : ℕ) (b : i < length ds) (h : n + i < length r) (e : map slot_of (take (n + i) r) ≡ map slot_of (take n s) ++ place (map request_of (take i rs)) (take i ds)) where
  requests_length : i ≤ length rs → length (map request_of (take i rs)) ≡ i
  requests_length a = length-map (take i rs) request_of ∙ length-take-le i rs a

  pub slots_more : i < length rs → map slot_of (take (n + (i + 1)) (set r (n + i) (record { request = get_or rs i no_request; date = get_or ds i 0 }))) ≡ map slot_of (take n s) ++ place (map request_of (take (i + 1) rs)) (take (i + 1) ds)
  slots_more a =
      let p : map request_of (take (i + 1) rs) ≡ map request_of (take i rs) ++ (request_of (get_or rs i no_request) ∷ []) = rw (add-one, take-suc rs i no_request a, map-append) in
      slots_one s r (map request_of (take i rs)) (get_or rs i no_request) ds n i (requests_length (omega arith)) b h e ∙ ap (λ (qs : List Request). map slot_of (take n s) ++ place qs (take (i + 1) ds)) (sym p)

  pub slots_last : (x : declared.Request) (k : ℕ) → i ≡ k → i ≤ length rs → map slot_of (take (n + (k + 1)) (set r (n + k) (record { request = x; date = get_or ds k 0 }))) ≡ map slot_of (take n s) ++ place (map request_of (take k rs) ++ (request_of x ∷ [])) (take (k + 1) ds)
  slots_last x k z a = rw z at (slots_one s r (map request_of (take i rs)) x ds n i (requests_length a) b h e)
