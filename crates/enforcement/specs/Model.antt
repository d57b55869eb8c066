-- The executable model: what a list of pending actions comes to, over valuations saturated just above the largest bound.
-- Recursions keep their values in tables that are worked out when they are first read, so that the model can be computed with.
use Rattle.std.specs.Prelude.{Bool, true, false, cond, List, [], ◌∷◌, ◌++◌, ℕ, zero, suc, ◌+◌, ◌*◌, ◌-◌, min, eqb, leb, ltb}
use Rattle.std.proofs.Math.Option.{Option, none, some}
use Rattle.std.proofs.Math.ListN.{get_elem?}
use Rattle.enforcement.specs.Limits.{max_bound}
use Rattle.enforcement.specs.Automaton.{Bytes, transitions, accepting, actions, locations, clocks}
use Rattle.enforcement.specs.TimedWord.{Configuration, fire_first}

-- Readings from here on act alike.
abbrev pub top : ℕ
top = suc max_bound

-- How many readings there are, and how many valuations.
abbrev pub width : ℕ
width = suc top

abbrev pub area : ℕ
area = width * width

-- The automaton has one clock.
abbrev pub has_one_clock : Bytes → Bool
has_one_clock s = eqb (clocks s) 1

-- A configuration with saturated readings. A second clock that the automaton does not have counts as saturated.
abbrev pub saturated : Bool → Configuration → Configuration
saturated one p = record { location = p.location; x = min p.x top; y = cond one top (min p.y top) }

-- Ticks pass, up to saturation.
abbrev pub advance : ℕ → Configuration → Configuration
advance n p = record { location = p.location; x = min (p.x + n) top; y = min (p.y + n) top }

-- Ticks below saturation.
abbrev pub headroom : Configuration → ℕ
headroom p = top - min p.x p.y

-- What a list of actions comes to: the least ticks until all are played and the location is accepting; or further actions may still bring acceptance; or nothing can.
pub data Prospect : Type 0 where
  ticks : ℕ → Prospect
  extensible : Prospect
  dead : Prospect

abbrev pub later : Prospect → Prospect
later (ticks n) = ticks (suc n)
later extensible = extensible
later dead = dead

-- The first prospect is no worse than the second.
abbrev pub keeps : Prospect → Prospect → Bool
keeps (ticks n) (ticks m) = leb n m
keeps (ticks n) extensible = true
keeps (ticks n) dead = true
keeps extensible (ticks m) = false
keeps extensible extensible = true
keeps extensible dead = true
keeps dead (ticks m) = false
keeps dead extensible = false
keeps dead dead = true

abbrev pub better : Prospect → Prospect → Prospect
better v w = cond (keeps v w) v w

-- What lies behind a step; nothing can where there is none.
abbrev pub after_step : Option Configuration → (Configuration → Prospect) → Prospect
after_step none f = dead
after_step (some q) f = f q

abbrev pub dates_after : Option Configuration → (Configuration → List ℕ) → List ℕ
dates_after none g = []
dates_after (some q) g = g q

-- A table of a function's values, each worked out when it is first read, and then once. Where the table has no entry the function is asked.
module _ {A : Type 0} where
  unfoldable pub cells : (ℕ → A) → ℕ → ℕ → List A
  cells g zero i = []
  cells g (suc n) i = let v = g i in v ∷ cells g n (suc i)

  unfoldable pub look : List A → (ℕ → A) → ℕ → A
  look t g i = elim (get_elem? t i) [ none ↦ g i | some v ↦ v ]

  unfoldable pub memo : ℕ → (ℕ → A) → ℕ → A
  memo n g = let t = cells g n 0 in λ i. look t g i

-- A table over the configurations of n locations.
unfoldable pub tabled : {A : Type 0} → ℕ → (Configuration → A) → Configuration → A
tabled n f = let t = memo n (λ l. memo width (λ x. memo width (λ y. f (record { location = l; x = x; y = y })))) in λ p. t p.location p.x p.y

-- The steps of an automaton, its transitions read once.
unfoldable pub steps : Bytes → ℕ → Configuration → Option Configuration
steps s = let t = memo (locations s) (transitions s) in λ c p. fire_first (t p.location) c p

-- An action c, then what f says: play it now, or wait, at most k ticks.
unfoldable pub waits : (ℕ → Configuration → Option Configuration) → ℕ → (Configuration → Prospect) → ℕ → Configuration → Prospect
waits st c f zero p = after_step (st c p) f
waits st c f (suc k) p = better (after_step (st c p) f) (later (waits st c f k (advance 1 p)))

-- The same as a list of tables, for k ticks first, then for each number of ticks below k; each rests on the one behind it.
abbrev pub nth : List (Configuration → Prospect) → ℕ → Configuration → Prospect
nth [] i p = dead
nth (w ∷ ws) zero p = w p
nth (w ∷ ws) (suc i) p = nth ws i p

unfoldable pub tower : ℕ → (ℕ → Configuration → Option Configuration) → ℕ → (Configuration → Prospect) → ℕ → List (Configuration → Prospect)
tower n st c f zero = let w = tabled n (λ p. after_step (st c p) f) in w ∷ []
tower n st c f (suc k) =
    let ws : List (Configuration → Prospect) = tower n st c f k in
    let w = tabled n (λ p. better (after_step (st c p) f) (later (nth ws 0 (advance 1 p)))) in
    w ∷ ws

-- The dates of c and, by g, of the actions after it, from date d on: c is played now if that keeps the prospect, else a tick later.
unfoldable pub reads : (ℕ → Configuration → Option Configuration) → ℕ → (Configuration → Prospect) → (Configuration → ℕ → List ℕ) → ℕ → Configuration → ℕ → List ℕ
unfolding waits
reads st c f g zero p d = d ∷ dates_after (st c p) (λ (q : Configuration). g q d)
reads st c f g (suc k) p d =
    elim (keeps (after_step (st c p) f) (later (waits st c f k (advance 1 p)))) [
      | true ↦ d ∷ dates_after (st c p) (λ (q : Configuration). g q d)
      | false ↦ reads st c f g k (advance 1 p) (suc d)
    ]

-- All is played.
unfoldable pub ended : (ℕ → Bool) → (Configuration → Bool) → Configuration → Prospect
ended acc live p = cond (acc p.location) (ticks 0) (cond (live p) extensible dead)

-- The automaton as the model reads it: how many locations and actions, its steps, its accepting set, and from where that can still be reached.
pub record Compiled : Type 0 where
  pub size : ℕ
  pub known : ℕ
  pub step : ℕ → Configuration → Option Configuration
  pub accepts : ℕ → Bool
  pub live : Configuration → Bool

-- What a list of actions comes to from a configuration, and the dates read off there.
pub record Plan : Type 0 where
  pub prospect : Configuration → Prospect
  pub dates : Configuration → ℕ → List ℕ

unfoldable pub plan : Compiled → List ℕ → Plan
plan m [] = record { prospect = tabled m.size (ended m.accepts m.live); dates = λ p d. [] }
plan m (c ∷ cs) =
    let r : Plan = plan m cs in
    let ws : List (Configuration → Prospect) = tower m.size m.step c r.prospect top in
    record { prospect = λ p. nth ws (top - headroom p) p; dates = λ p d. reads m.step c r.prospect r.dates (headroom p) p d }

abbrev pub prospect : Compiled → List ℕ → Configuration → Prospect
prospect m cs = (plan m cs).prospect

abbrev pub dates : Compiled → List ℕ → Configuration → ℕ → List ℕ
dates m cs = (plan m cs).dates

-- Liveness: a search for an accepting location from the configurations to do, without those seen (by their indices); n actions are tried at each.
abbrev pub index : Configuration → ℕ
index p = (p.location * width + p.x) * width + p.y

abbrev pub member : ℕ → List ℕ → Bool
member i [] = false
member i (j ∷ js) = elim (eqb i j) [ true ↦ true | false ↦ member i js ]

abbrev pub found : Option Configuration → List Configuration → List Configuration
found none qs = qs
found (some q) qs = q ∷ qs

unfoldable pub successors : (ℕ → Configuration → Option Configuration) → ℕ → Configuration → List Configuration
successors st zero p = advance 1 p ∷ []
successors st (suc n) p = found (st n p) (successors st n p)

unfoldable pub explore : (ℕ → Configuration → Option Configuration) → (ℕ → Bool) → ℕ → ℕ → List Configuration → List ℕ → Bool
explore st acc n zero todo seen = false
explore st acc n (suc k) [] seen = false
explore st acc n (suc k) (p ∷ todo) seen =
    elim (acc p.location) [
      | true ↦ true
      | false ↦ elim (member (index p) seen) [
        | true ↦ explore st acc n k todo seen
        | false ↦ explore st acc n k (successors st n p ++ todo) (index p ∷ seen)
      ]
    ]

-- A location that the automaton does not have leads nowhere.
unfoldable pub reaches : (ℕ → Configuration → Option Configuration) → (ℕ → Bool) → ℕ → ℕ → Configuration → Bool
reaches st acc size n p = elim (ltb p.location size) [ true ↦ explore st acc n (suc ((n + 2) * (size * area))) (p ∷ []) [] | false ↦ acc p.location ]

unfoldable pub compile : Bytes → Compiled
compile s =
    let st = steps s in
    record {
      size = locations s;
      known = actions s;
      step = st;
      accepts = accepting s;
      live = tabled (locations s) (reaches st (accepting s) (locations s) (actions s));
    }
